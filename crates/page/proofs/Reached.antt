-- The session at a stage in closed form: the hash of bytes that arrive one by one is that of their whole blocks, and settled data are the padded data.
use mathlib.Core.Path.{◌≡◌, refl, sym, ap, ◌∙◌}
use mathlib.Core.Bool.{Bool, true, false}
use mathlib.Core.List.{List, ◌++◌}
use Prim.Native.Nat.{ℕ, ◌-◌, ◌%◌}
use lib.ListN.{length, replicate}
use Rattle.words.specs.Bytes.{zeros}
use Rattle.ghash.specs.Hash.{hash_from, whole_blocks, rest, padded}
use Rattle.ghash.proofs.Hashing.{hash_append}
use Rattle.ghash.proofs.Padding.{padded_whole}
use Rattle.start.specs.Start.{sealed_keystream}
use Rattle.digest.specs.Sum.{Sum, fresh}
use Rattle.digest.specs.Digest.{absorb}
use Rattle.digest.proofs.Pieces.{sum}
use Rattle.digest.proofs.Settling.{hash_front, absorb_fresh, settled_padded}
use Rattle.session.specs.Session.{Session}
use Rattle.page.specs.Page.{cipher_of}
use Rattle.page.specs.Reached.{sum_of, session_for}
use Rattle.page.proofs.Stages.{Stage, Stage.taking_data, Stage.taking_text, ad_of, text_of, phase_at, sum_at, session_at}

-- whether a text piece has closed the data
abbrev pub text_begun_of : Stage → Bool
text_begun_of (taking_data d) = false
text_begun_of (taking_text d t) = true

abbrev held : List ℕ → List ℕ
held s = rest s ++ replicate (16 - length s % 16) 0

arrives : (h y s : List ℕ) → absorb h (fresh y) 0 s ≡ sum (hash_from h y (whole_blocks s)) (held s)
arrives h y s = absorb_fresh h y 0 s refl ∙ ap (λ (x : List ℕ). sum x (held s)) (sym (hash_front h y s))

module _ (key iv : List ℕ) where
  sum_is : (g : Stage) → sum_at key iv g ≡ sum_of key iv (ad_of g) (text_of g) (text_begun_of g)
  unfolding sum_at
  sum_is (taking_data d) = arrives (sealed_keystream key iv 0) zeros d
  sum_is (taking_text d t) =
      let h : List ℕ = sealed_keystream key iv 0 in
      let c : List ℕ = cipher_of key iv t in
      ap (λ (y : List ℕ). absorb h (fresh y) 0 c) (settled_padded h zeros d)
      ∙ arrives h (hash_from h zeros (padded d)) c
      ∙ ap (λ (x : List ℕ). sum x (held c)) (sym (hash_append h zeros (padded d) (whole_blocks c) (padded_whole d)))

  -- with another sum
  abbrev with_sum : Stage → Sum → Session
  with_sum g y =
      record {
        phase = (session_at key iv g).phase;
        ad = (session_at key iv g).ad;
        text = (session_at key iv g).text;
        state = (session_at key iv g).state;
        h = (session_at key iv g).h;
        pad = (session_at key iv g).pad;
        current = (session_at key iv g).current;
        sum = y;
        iv = iv;
      }

  pub session_is : (g : Stage) → session_at key iv g ≡ session_for key iv (ad_of g) (text_of g) (text_begun_of g)
  unfolding session_at session_for phase_at
  session_is (taking_data d) = ap (λ (y : Sum). with_sum (taking_data d) y) (sum_is (taking_data d))
  session_is (taking_text d t) = ap (λ (y : Sum). with_sum (taking_text d t) y) (sum_is (taking_text d t))
