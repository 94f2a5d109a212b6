-- `command::two_lines` meets its contract: five pieces one behind the other, of 8,238 bytes at most.
use mathlib.Core.Path.{◌≡◌}
use native.Mathlib.Omega.{arith}
use borrow.Author.Rules.{rules}
use lib.ListN.{length}
use Rattle.command.specs.Hex.{hex_of}
use Rattle.command.specs.Output.{Answer.sealed, ascii, printed}
use Rattle.command.proofs.Digits.{hex_length}
use Rattle.command.proofs.Printing.{both_lines, sealed_length}
use Rattle.command.proofs.Writing.{printed_first, printed_more, printed_all}
use Rattle.command.proofs.two_lines.Goals as goal

pub put-c-requires : goal.put-c-requires
put-c-requires c =
    let a = c.args in
    omega (arith, hex_length a.cipher.now)

pub encode-d-requires : goal.encode-d-requires
encode-d-requires c =
    let a = c.args in
    omega (arith, hex_length a.cipher.now)

pub put-requires : goal.put-requires
put-requires c =
    let a = c.args in
    omega (arith, hex_length a.cipher.now, hex_length a.tag.now)

pub returns : goal.returns
returns c =
    let a = c.args in
    let o = a.out.now in
    let p1 = printed_first o (ascii "cipher=") _ _ c.put-a.ensures.out c.put-a.ensures.next in
    let p2 = printed_more o _ (hex_of a.cipher.now) _ _ _ _ p1 c.encode-b.ensures.out c.encode-b.ensures.next in
    let p3 = printed_more o _ (ascii "\nauth=") _ _ _ _ p2 c.put-c.ensures.out c.put-c.ensures.next in
    let p4 = printed_more o _ (hex_of a.tag.now) _ _ _ _ p3 c.encode-d.ensures.out c.encode-d.ensures.next in
    let p5 = printed_more o _ (ascii "\n") _ _ _ _ p4 c.put.ensures.out c.put.ensures.next in
    let n : length o ≡ 8238 = search rules in
    let g = c.requires in
    let l = sealed_length a.cipher.now a.tag.now g.0 g.1 in
    printed_all o (printed (sealed a.cipher.now a.tag.now)) (both_lines a.cipher.now a.tag.now) (omega arith) p5
