-- What private functions of `open` compute: their contracts name it.
use Rattle.std.specs.Prelude.{not, List, ℕ, eqb, ltb, length}
use Rattle.scope.specs.Refusals.{refuse, key_length, iv_length, tag_length, too_long, short_output}
use Rattle.words.specs.Xor.{xors}
use Rattle.ghash.specs.Hash.{lengths, eat}
use Rattle.digest.specs.Digest.{absorb, settled}
use Rattle.session.specs.Session.{Session}
use Rattle.page.specs.Calls.{over_limit}

-- the refusals of an open before its tag is compared, and what comes later in the order
abbrev pub before_tag : (key iv ad cipher tag out : List ℕ) → ℕ → ℕ
before_tag key iv d c tag out later =
    refuse (not (eqb (length key) 32)) key_length
    (refuse (not (eqb (length iv) 16)) iv_length
    (refuse (not (eqb (length tag) 16)) tag_length (refuse (over_limit d c) too_long (refuse (ltb (length out) (length c)) short_output later))))

-- the tag of a session whose data is closed, with a ciphertext hashed and nothing written
unfoldable pub tag_over : Session → (cipher : List ℕ) → List ℕ
tag_over s c = xors (eat s.h (settled s.h (absorb s.h s.sum 0 c) (length c)) (lengths s.ad (length c))) s.pad
