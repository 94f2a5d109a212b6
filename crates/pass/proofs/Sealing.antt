-- One block more of a pass: it stands behind the front that is written and hashed, and makes the next front. The blocks of a pass that follow on one another are
-- made one behind the other, batch by batch or block by block.
use mathlib.Core.Path.{◌≡◌, refl, sym, ap, ap₂, subst, ◌∙◌}
use mathlib.Core.List.{List, [], ◌++◌, append_assoc}
use Prim.Native.Nat.{ℕ, suc, ◌+◌, ◌-◌, ◌*◌, ◌%◌, ◌<◌, ◌≤◌}
use native.Mathlib.Omega.{arith}
use native.Mathlib.Nat.{add-zero}
use lib.ListN.{length, take, drop, length-append, length-take, length-drop}
use lib.Seq.{sets, slice, take-add, take_all, take-length, length-take-le}
use Rattle.words.specs.Xor.{xors}
use Rattle.words.specs.Bytes.{part}
use Rattle.words.proofs.Parts.{part_part, part_long}
use Rattle.words.proofs.Rows.{xors_length, xors_within, xors_part, xors_comm, xors_twice}
use Rattle.words.proofs.Writing.{put_next, read_written}
use Rattle.ghash.specs.Hash.{eat, hash_from, padded}
use Rattle.ghash.proofs.Hashing.{hash_append, hash_none, hash_one}
use Rattle.ghash.proofs.Padding.{padded_append, padded_none, padded_block}
use Rattle.cipher.specs.Registers.{Registers, IsRegisters}
use Rattle.cipher.specs.Step.{z}
use Rattle.cipher.specs.Run.{forward, made, moves, blocks}
use Rattle.cipher.proofs.Inverse.{z_block}
use Rattle.cipher.proofs.Moves.{moves_good, blocks_one, blocks_part, blocks_length}
use Rattle.pass.specs.Pass.{Pass, SoFar, Next, Sealed, Settles}
use Rattle.pass.specs.Inner.{under_blocks}

-- ---- one block

-- c is block m of the ciphertext, whole or short
module _ (p : Pass) (m : ℕ) (c : List ℕ) (whole : length p.before % 16 ≡ 0) (e : part (16 * m) 16 p.cipher ≡ c) (some : 0 < length c) where
  few : length c ≤ 16
  few = let n : length (part (16 * m) 16 p.cipher) ≤ 16 = simp length-take (omega arith) in subst (λ (l : List ℕ). length l ≤ 16) e n

  inside : 16 * m < length p.cipher
  inside =
      let n : 0 < length (part (16 * m) 16 p.cipher) = subst (λ (l : List ℕ). 0 < length l) (sym e) some in
      let k = simp (length-take, length-drop) at n in
      omega (arith, k)

  front_long : length (take (16 * m) p.cipher) ≡ 16 * m
  front_long = let h = inside in length-take-le (16 * m) p.cipher (omega arith)

  front_more : take (16 * (m + 1)) p.cipher ≡ take (16 * m) p.cipher ++ c
  front_more =
      ap (λ (k : ℕ). take k p.cipher) (let f : 16 * (m + 1) ≡ 16 * m + 16 = omega arith in f)
      ∙ take-add (16 * m) 16 p.cipher ∙ ap (λ (l : List ℕ). take (16 * m) p.cipher ++ l) e

  front_whole : length (take (16 * m) p.cipher) % 16 ≡ 0
  front_whole = let n = front_long in omega arith

  padded_more : p.before ++ padded (take (16 * (m + 1)) p.cipher) ≡ (p.before ++ padded (take (16 * m) p.cipher)) ++ padded c
  padded_more =
      ap (λ (l : List ℕ). p.before ++ padded l) front_more
      ∙ ap (λ (l : List ℕ). p.before ++ l) (padded_append (take (16 * m) p.cipher) c front_whole)
      ∙ sym (append_assoc p.before (take (16 * m) p.cipher) (padded c))
      ∙ ap (λ (l : List ℕ). (p.before ++ l) ++ padded c) (sym (padded_none (take (16 * m) p.cipher) front_whole))

  before_whole : length (p.before ++ padded (take (16 * m) p.cipher)) % 16 ≡ 0
  before_whole =
      let w = front_whole in
      rw (padded_none (take (16 * m) p.cipher) w, length-append p.before (take (16 * m) p.cipher)) (omega arith)

  pub so_far_more : {out y out' y' : List ℕ} → SoFar p m out y → out' ≡ sets out (p.at + 16 * m) c → y' ≡ eat p.h y (padded c) → SoFar p (m + 1) out' y'
  so_far_more {out} {y} {out'} {y'} g eo ey =
      let n = front_long in
      let d = p.before ++ padded (take (16 * m) p.cipher) in
      record {
        written = put_next p.lent (take (16 * m) p.cipher) c p.at (p.at + 16 * m) (omega arith) g.written eo ∙ ap (sets p.lent p.at) (sym front_more);
        hashed = ey ∙ ap (λ (x : List ℕ). eat p.h x (padded c)) g.hashed ∙ sym (hash_one p.h (hash_from p.h p.hash d) (padded c) (padded_block c some few))
            ∙ sym (hash_append p.h p.hash d (padded c) before_whole) ∙ ap (hash_from p.h p.hash) (sym padded_more);
      }

-- ---- the next blocks

module _ {p : Pass} {b : ℕ} {h : List ℕ} {s : Registers} {text : List ℕ} {from n : ℕ} (g : IsRegisters s) (x : Next p b h s text from n) where
  -- k of them, from the i-th on
  pub next_part : (i k : ℕ) {b' from' : ℕ} {s' : Registers} → i + k ≤ n → b' ≡ b + i → from' ≡ from + 16 * i → s' ≡ moves forward i s → Next p b' h s' text from' k
  next_part i k {b'} {from'} {s'} fits eb ef es =
      let c = part (16 * b) (16 * n) p.cipher in
      let f : 16 * b' ≡ 16 * b + 16 * i = omega arith in
      record {
        same_h = x.same_h;
        whole = x.whole;
        place = let q = x.place in omega arith;
        cipher = ap (λ (m : ℕ). part m (16 * k) p.cipher) f ∙ sym (part_part p.cipher (16 * b) (16 * n) (16 * i) (16 * k) (omega arith))
            ∙ ap (part (16 * i) (16 * k)) x.cipher ∙ xors_part (16 * i) (16 * k) (part from (16 * n) text) (blocks forward n s)
            ∙ ap₂ xors
            (part_part text from (16 * n) (16 * i) (16 * k) (omega arith) ∙ ap (λ (m : ℕ). part m (16 * k) text) (sym ef))
            (blocks_part forward i k n s g fits ∙ ap (blocks forward k) (sym es));
      }

  -- the i-th
  pub next_block : (i : ℕ) → i < n → part (16 * (b + i)) 16 p.cipher ≡ xors (part (from + 16 * i) 16 text) (made forward (moves forward i s))
  next_block i lt =
      (next_part i 1 (omega arith) refl refl refl).cipher ∙ ap (xors (part (from + 16 * i) 16 text)) (blocks_one forward (moves forward i s))

-- ---- made one behind the other

module _ (h : List ℕ) (s : Registers) (g : IsRegisters s) (text : List ℕ) (from n : ℕ) (out₀ y₀ : List ℕ) where
  pub sealed_none : Sealed h s text from n out₀ y₀ 0 out₀ y₀
  sealed_none p b x so = subst (λ (m : ℕ). SoFar p m out₀ y₀) (sym (add-zero b)) so

  -- the i-th block, whole or short
  pub sealed_more : (i : ℕ) {out y out' y' c : List ℕ} → i < n → from + 16 * i < length text → Sealed h s text from n out₀ y₀ i out y
      → c ≡ xors (part (from + 16 * i) 16 text) (made forward (moves forward i s)) → out' ≡ sets out (from + 16 * i) c → y' ≡ eat h y (padded c)
      → Sealed h s text from n out₀ y₀ (i + 1) out' y'
  unfolding made
  sealed_more i {out} {y} {out'} {y'} {c} lt read so ec eo ey p b x begun =
      let t = part (from + 16 * i) 16 text in
      let k : length t ≤ 16 = simp length-take (omega arith) in
      let l : 0 < length t = simp (length-take, length-drop) (omega arith) in
      let m = (z_block (moves forward i s) (moves_good forward i s g)).long in
      let n = xors_within t (z (moves forward i s)) (omega arith) in
      let some : 0 < length c = rw ec (omega arith) in
      let f : from + 16 * i ≡ p.at + 16 * (b + i) = omega (arith, x.place) in
      let q : b + i + 1 ≡ b + (i + 1) = omega arith in
      subst (λ (m : ℕ). SoFar p m out' y') q
      (so_far_more p (b + i) c x.whole (next_block g x i lt ∙ sym ec) some (so p b x begun)
      (eo ∙ ap (λ (m : ℕ). sets out m c) f) (ey ∙ ap (λ (k : List ℕ). eat k y (padded c)) (sym x.same_h)))

  -- k blocks behind i
  pub sealed_joined : (i k : ℕ) {out y out' y' : List ℕ} {s' : Registers} → i + k ≤ n → s' ≡ moves forward i s → Sealed h s text from n out₀ y₀ i out y
      → Sealed h s' text (from + 16 * i) k out y k out' y' → Sealed h s text from n out₀ y₀ (i + k) out' y'
  sealed_joined i k {out} {y} {out'} {y'} fits es so more p b x begun =
      let q : b + i + k ≡ b + (i + k) = omega arith in
      subst (λ (m : ℕ). SoFar p m out' y') q (more p (b + i) (next_part g x i k fits refl refl es) (so p b x begun))

  -- the first k of them, where k are made
  pub sealed_front : (k : ℕ) {out y : List ℕ} → k ≤ n → Sealed h s text from k out₀ y₀ k out y → Sealed h s text from n out₀ y₀ k out y
  unfolding moves
  sealed_front k fits so p b x begun = so p b (next_part g x 0 k (omega arith) (sym (add-zero b)) (sym (add-zero from)) refl) begun

  -- the blocks are a pass of their own
  abbrev own : Pass
  own = record { h = h; hash = y₀; before = []; cipher = under_blocks s n (part from (16 * n) text); lent = out₀; at = from }

  own_next : Next own 0 h s text from n
  own_next =
      let l : length (part from (16 * n) text) ≤ 16 * n = simp length-take (omega arith) in
      let k = blocks_length forward n s g in
      record {
        same_h = refl;
        whole = refl;
        place = sym (add-zero from);
        cipher = xors_part 0 (16 * n) (part from (16 * n) text) (blocks forward n s)
            ∙ ap₂ xors (take_all (16 * n) (part from (16 * n) text) l) (take_all (16 * n) (blocks forward n s) (omega arith));
      }

  settled : (i : ℕ) {out y : List ℕ} → Sealed h s text from n out₀ y₀ i out y
      → (out ≡ sets out₀ from (take (16 * i) own.cipher)) × (y ≡ hash_from h y₀ (padded (take (16 * i) own.cipher)))
  settled i so =
      let e : 0 + i ≡ i = omega arith in
      let done = so own 0 own_next (record { written = refl; hashed = sym (hash_none h y₀) }) in (
        done.written ∙ ap (λ (m : ℕ). sets out₀ from (take (16 * m) own.cipher)) e,
        done.hashed ∙ ap (λ (m : ℕ). hash_from h y₀ (padded (take (16 * m) own.cipher))) e,
      )

  -- whole blocks
  module _ (read : from + 16 * n ≤ length text) where
    own_long : length own.cipher ≡ 16 * n
    own_long =
        let l = part_long text from (16 * n) read in
        xors_length (part from (16 * n) text) (blocks forward n s) (l ∙ sym (blocks_length forward n s g)) ∙ l

    pub sealed_own : {out y : List ℕ} → Sealed h s text from n out₀ y₀ n out y → (out ≡ sets out₀ from own.cipher) × (y ≡ hash_from h y₀ own.cipher)
    sealed_own so =
        let k = own_long in
        let all : take (16 * n) own.cipher ≡ own.cipher = take_all (16 * n) own.cipher (omega arith) in
        let w = settled n so in
        (w.0 ∙ ap (sets out₀ from) all, w.1 ∙ ap (λ (v : List ℕ). hash_from h y₀ (padded v)) all ∙ ap (hash_from h y₀) (padded_none own.cipher (omega arith)))

    -- a text and its ciphertext show the keystream between them, that of the last block too
    pub last_drawn : (j : ℕ) {out : List ℕ} → n ≡ suc j → from + 16 * n ≤ length out₀ → out ≡ sets out₀ from own.cipher
        → xors (part (from + 16 * j) 16 text) (part (from + 16 * j) 16 out) ≡ z (moves forward j s)
    unfolding made
    last_drawn j {out} e room eo =
        let p = part (from + 16 * j) 16 text in
        let k = z (moves forward j s) in
        let lp : length p ≡ 16 = part_long text (from + 16 * j) 16 (omega arith) in
        let lk : length k ≡ 16 = (z_block (moves forward j s) (moves_good forward j s g)).long in
        let b : part (16 * j) 16 own.cipher ≡ xors p k =
        ap (λ (m : ℕ). part (16 * m) 16 own.cipher) (let f : j ≡ 0 + j = omega arith in f) ∙ next_block g own_next j (omega arith) in
        let w : part (from + 16 * j) 16 out ≡ xors p k =
        sym (part_part out from (16 * n) (16 * j) 16 (omega arith)) ∙ ap (part (16 * j) 16) (ap (part from (16 * n)) eo ∙ read_written out₀ from (16 * n) own.cipher own_long room) ∙ b in
        ap (xors p) (w ∙ xors_comm p k) ∙ xors_comm p (xors k p) ∙ xors_twice k p (lk ∙ sym lp)

pub sealed_settles : Settles
sealed_settles h s g text from n out₀ y₀ i out y so = settled h s g text from n out₀ y₀ i so

-- what is left behind q blocks of a text, where it is less than a block
pub last_part : (text : List ℕ) (q : ℕ) → length text - 16 * q < 16 → slice (16 * q) (length text) text ≡ part (16 * q) 16 text
last_part text q h = ap (drop (16 * q)) (take-length text) ∙ sym (take_all 16 (drop (16 * q) text) (simp length-drop (omega arith)))
