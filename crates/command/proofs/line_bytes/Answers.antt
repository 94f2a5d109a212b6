-- `command::line_bytes` meets its contract: a well-formed line has at most 8,192 digits, so that its bytes fit.
use mathlib.Core.Path.{◌≡◌, sym, ap, ap₂, ◌∙◌}
use mathlib.Core.List.{List}
use Prim.Native.Nat.{ℕ, ◌≤◌}
use native.Mathlib.Omega.{arith}
use borrow.Author.Rules.{rules}
use lib.ListN.{length, take}
use lib.Seq.{sets, length-sets, length-take-le}
use Rattle.words.proofs.Writing.{front}
use Rattle.command.specs.Hex.{bytes_of}
use Rattle.command.specs.Machine.{between}
use Rattle.command.proofs.Reading.{formed_short, formed_bytes}
use Rattle.command.proofs.line_bytes.Goals as goal

pub decode-requires : goal.decode-requires
decode-requires c =
    let w = c.requires.2 in
    let n : length c.args.out.now ≡ 4096 = search rules in
    record { formed = w; fits = omega (arith, formed_short _ w) }

pub returns : goal.returns
returns c =
    let l = between c.args.from c.args.to c.args.input.now in
    let n : length c.args.out.now ≡ 4096 = search rules in
    let h : length (bytes_of l) ≤ 4096 = formed_bytes l c.requires.2 in
    let o : c.decode.new.out ≡ sets c.args.out.now 0 (bytes_of l) = c.decode.ensures.out in
    let k : c.decode.result ≡ length (bytes_of l) = c.decode.ensures.count in
    let m : length c.decode.new.out ≡ 4096 = ap length o ∙ length-sets c.args.out.now 0 (bytes_of l) ∙ n in
    let e : c.decode.result ≤ length c.decode.new.out = omega arith in record { bytes = ap₂ (λ (i : ℕ) (t : List ℕ). take i t) k o ∙ front c.args.out.now (bytes_of l) (omega arith); count = (e, sym (length-take-le _ _ e)) }
