-- The claims about key stores, proved: each from its own file.
use mathlib.Core.Path.{◌∙◌}
use Rattle.claims_keys.specs.Claims.{KeyClaims}
use Rattle.claims_keys.proofs.Accepting.{storing, storable, erasing, erasable}
use Rattle.claims_keys.proofs.Empty.{empty_kept, first_key}
use Rattle.claims_keys.proofs.Staying.{same_length, well_after}
use Rattle.claims_keys.proofs.Fetching.{stored_fetched}
use Rattle.claims_keys.proofs.Others.{others_stay, erase_others}
use Rattle.claims_keys.proofs.Gone.{erased_gone}
use Rattle.claims_keys.proofs.Erasing.{nothing_left}
use Rattle.claims_keys.proofs.Storing.{one_key_apart}
use Rattle.claims_keys.proofs.Twins.{same_after_erase}
use Rattle.claims_keys.proofs.Twice.{never_twice, none_present}

pub key_claims : KeyClaims
key_claims =
    record {
      stores = λ key iv k s. (storing key iv k s, storable key iv k s);
      erases = λ iv s. (erasing iv s, erasable iv s);
      empty_kept = empty_kept;
      first_key = first_key;
      same_length = same_length;
      kept = λ cs s w. well_after cs s ∙ w;
      stored_fetched = stored_fetched;
      others_stay = others_stay;
      erase_others = erase_others;
      erased_gone = erased_gone;
      nothing_left = nothing_left;
      one_key_apart = one_key_apart;
      same_after_erase = same_after_erase;
      never_twice = never_twice;
      none_present = none_present;
    }
