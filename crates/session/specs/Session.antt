-- A session (document 01, "Tag arithmetic" and "Sessions and parking"): what is kept between its calls.
use Rattle.std.specs.Prelude.{ℕ, ◌+◌, ◌-◌, List}
use Rattle.ghash.specs.Hash.{ceil16}
use Rattle.cipher.specs.State.{State}
use Rattle.digest.specs.Sum.{Sum}

pub record Session : Type 0 where
  -- 0 data, 1 text, 2 finished
  pub phase : ℕ
  -- bytes of associated data and of text so far
  pub ad : ℕ
  pub text : ℕ
  -- the registers, and the count of blocks drawn
  pub state : State
  -- H, the end pad and the keystream block drawn last
  pub h : List ℕ
  pub pad : List ℕ
  pub current : List ℕ
  -- the hash so far, and the bytes not yet hashed
  pub sum : Sum
  -- the IV, its stay's number (document 02, S-5): begin's, or the one that walking back gave
  pub iv : List ℕ

-- blocks drawn at a text length
abbrev pub drawn_at : ℕ → ℕ
drawn_at n = 2 + ceil16 n

-- blocks that n bytes of text draw behind t bytes
abbrev pub drawn_by : (t n : ℕ) → ℕ
drawn_by t n = ceil16 (t + n) - ceil16 t
