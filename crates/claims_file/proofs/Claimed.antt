-- The claims about page files, proved: each from its own file, and those about the IV from the parts of a page.
use mathlib.Core.Path.{◌≡◌, sym, ap, ◌∙◌}
use mathlib.Core.List.{List}
use Prim.Native.Nat.{ℕ, ◌^◌, ◌<◌}
use lib.Dec.{lit≤}
use lib.ListN.{length}
use Rattle.words.specs.Bytes.{number, part}
use Rattle.words.proofs.Parts.{part_part}
use Rattle.page_file.specs.Layout.{stay_of, page_number, iv_of, sealed_page}
use Rattle.claims_file.specs.Claims.{FileClaims}
use Rattle.claims_file.proofs.Accepting.{accepts}
use Rattle.claims_file.proofs.Reading.{stay_is, number_is, iv_is}
use Rattle.claims_file.proofs.Opening.{page_opens}
use Rattle.claims_file.proofs.Sealing.{sealed_opens}
use Rattle.claims_file.proofs.Others.{others_stay}
use Rattle.claims_file.proofs.Each.{each_opens}
use Rattle.claims_file.proofs.Opened.{opened_sealed}

one_iv : (b c : List ℕ) → iv_of b ≡ iv_of c → (stay_of b ≡ stay_of c) × (page_number b ≡ page_number c)
unfolding page_number
one_iv b c e = (
  sym (part_part b 0 16 0 12 (lit≤ tt)) ∙ ap (part 0 12) e ∙ part_part c 0 16 0 12 (lit≤ tt),
  ap number (sym (part_part b 0 16 12 4 (lit≤ tt)) ∙ ap (part 12 4) e ∙ part_part c 0 16 12 4 (lit≤ tt)),
)

sealed_apart : (key key' stay stay' : List ℕ) (n n' day day' : ℕ) (t t' : List ℕ) → length stay ≡ 12 → length stay' ≡ 12 → n < 2 ^ 32 → n' < 2 ^ 32
    → iv_of (sealed_page key stay n day t) ≡ iv_of (sealed_page key' stay' n' day' t') → (stay ≡ stay') × (n ≡ n')
sealed_apart key key' stay stay' n n' day day' t t' l l' h h' e =
    let o = one_iv (sealed_page key stay n day t) (sealed_page key' stay' n' day' t') e in (
      sym (stay_is key stay n day t l) ∙ o.0 ∙ stay_is key' stay' n' day' t' l',
      sym (number_is key stay n day t l h) ∙ o.1 ∙ number_is key' stay' n' day' t' l' h',
    )

pub file_claims : FileClaims
file_claims =
    record {
      accepts = accepts;
      sealed_opens = sealed_opens;
      others_stay = others_stay;
      page_opens = λ key stay n day t f a found o u. page_opens key stay n day t a f found o u;
      opened_sealed = opened_sealed;
      each_opens = each_opens;
      one_iv = one_iv;
      sealed_iv = iv_is;
      sealed_apart = sealed_apart;
    }
