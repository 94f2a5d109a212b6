-- What reads took off a reader whose bytes are known, one behind another at the front of a buffer.
use Rattle.std.proofs.Common.{ℕ, ◌+◌, ◌≤◌, ◌≡◌, List, ◌++◌, length, take, sym, ap, ◌∙◌, arith}
use Rattle.std.proofs.lemmas.List.{append_assoc, length-take-le, take-take}
use Rattle.std.proofs.lemmas.Slice.{take-put_mid}
use Rattle.std.proofs.Math.Seq.{take-append-add}
use Rattle.std.specs.Prelude.{None, Some}
use Rattle.std.specs.declared.option.Option.{Option}
use Rattle.std.specs.Io.KnownBytes.{Consumes}
use borrow.Rule.Slice.PartMut.{put_mid}

-- the front of a buffer after a read of n bytes into what is behind the first `done`
front : (done k n : ℕ) (b r : List ℕ) → done ≤ length b → n ≤ length r → take (done + n) (put_mid done k b r) ≡ take done b ++ take n r
front done k n b r h m =
    let l : length (take done b) ≡ done = length-take-le done b h in
    sym (take-take (done + n) (done + length r) (put_mid done k b r) (omega arith))
    ∙ ap (take (done + n)) (take-put_mid done k b r (done + length r) (omega arith) h)
    ∙ ap (λ (i : ℕ). take (i + n) (take done b ++ r)) (sym l)
    ∙ take-append-add (take done b) r n

-- what was taken first, and then n bytes more
pub more : (had mid has : Option (List ℕ)) (done k n : ℕ) (b r : List ℕ) → done ≤ length b → n ≤ length r → Consumes had mid (take done b) → Consumes mid has (take n r) → Consumes had has (take (done + n) (put_mid done k b r))
more None mid has done k n b r h m p q = tt
more (Some xs) None has done k n b r h m p q = absurd p
more (Some xs) (Some ys) None done k n b r h m p q = absurd q
more (Some xs) (Some ys) (Some zs) done k n b r h m p q =
    p ∙ ap (λ (l : List ℕ). take done b ++ l) q ∙ sym (append_assoc (take done b) (take n r) zs) ∙ ap (λ (l : List ℕ). l ++ zs) (sym (front done k n b r h m))
