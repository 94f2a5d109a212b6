-- What an accepted begin gives.
use mathlib.Core.Path.{◌≡◌}
use mathlib.Core.List.{List}
use Prim.Native.Nat.{ℕ}
use Rattle.start.specs.Start.{Mode.sealed, started, start_number}
use Rattle.session.specs.Calls.{begun_from, begun, begin_call}

module _ (key iv : List ℕ) where
  pub granted_session : start_number key iv ≡ 0 → (begin_call key iv).session ≡ begun_from (started key iv sealed) iv
  unfolding begin_call begun
  granted_session e = rw e
