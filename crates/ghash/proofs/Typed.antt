-- The halves of every element of the code have 64 bits, so that its bytes determine it.
use mathlib.Core.Path.{◌≡◌}
use mathlib.Core.List.{List}
use borrow.Author.Rules.{rules}
use mir.Syntax.{w64}
use mir.Val.{Val, Fits}
use denote.Shadow.{shadow}
use Rattle.ghash.specs.declared.Element.{Element}
use Rattle.ghash.specs.Machine.{bytes_of_element}
use Rattle.ghash.specs.contracts.Element.{the_row}
use Rattle.ghash.proofs.Elements.{Halves, element_one}

pub every_element : (e : Element) (vs : List Val) → shadow (the_row.own_val e vs) → Halves e
every_element e vs h =
    let lo : Fits w64 e.lo = search rules in
    let hi : Fits w64 e.hi = search rules in
    record { in_lo = lo.fits; in_hi = hi.fits }

pub same_element : (x y : Element) (vs ws : List Val) → shadow (the_row.own_val x vs) → shadow (the_row.own_val y ws) → bytes_of_element x ≡ bytes_of_element y → x ≡ y
same_element x y vs ws p q = element_one x y (every_element x vs p) (every_element y ws q)
