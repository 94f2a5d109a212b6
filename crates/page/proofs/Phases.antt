-- The hash of a page goes by phases: data, text and the block of both lengths, each begun from where the one before settled. What settles is the
-- hash of the padded bytes, and the padded bytes are whole blocks.
use mathlib.Core.Path.{◌≡◌, sym, ap, ◌∙◌}
use mathlib.Core.List.{List, ◌++◌}
use Prim.Native.Nat.{ℕ, ◌%◌}
use native.Mathlib.Omega.{arith}
use lib.ListN.{length, length-append}
use Rattle.words.specs.Bytes.{zeros}
use Rattle.ghash.specs.Hash.{eat, hash_from, padded, ghash}
use Rattle.ghash.proofs.Hashing.{hash_append, hash_one}
use Rattle.ghash.proofs.Padding.{padded_whole}
use Rattle.digest.specs.Sum.{Sum, fresh}
use Rattle.digest.specs.Digest.{absorb, settled}
use Rattle.digest.proofs.Settling.{settled_padded}

-- the hash of data, and of a ciphertext behind it
abbrev pub ad_sum : (h ad : List ℕ) → Sum
ad_sum h d = absorb h (fresh zeros) 0 d

abbrev pub text_sum : (h ad cipher : List ℕ) → Sum
text_sum h d c = absorb h (fresh (settled h (ad_sum h d) (length d))) 0 c

-- y is the hash of both; one block more ends it
pub ended : (h d c l y : List ℕ) → length l ≡ 16 → y ≡ ghash h (padded d ++ padded c) → ghash h (padded d ++ padded c ++ l) ≡ eat h y l
ended h d c l y k e =
    let both : length (padded d ++ padded c) % 16 ≡ 0 = rw (length-append (padded d) (padded c)) (omega (arith, padded_whole d, padded_whole c)) in
    hash_append h zeros (padded d ++ padded c) l both ∙ hash_one h (ghash h (padded d ++ padded c)) l k ∙ ap (λ (x : List ℕ). eat h x l) (sym e)

pub phases : (h d c l : List ℕ) → length l ≡ 16 → ghash h (padded d ++ padded c ++ l) ≡ eat h (settled h (text_sum h d c) (length c)) l
phases h d c l k =
    ended h d c l (settled h (text_sum h d c) (length c)) k
    (settled_padded h (settled h (ad_sum h d) (length d)) c ∙ ap (λ (y : List ℕ). hash_from h y (padded c)) (settled_padded h zeros d)
    ∙ sym (hash_append h zeros (padded d) (padded c) (padded_whole d)))
