-- What is known of the blocks seen so far, with one block more: what was seen of those before it, and what it says itself, make what is known of all. And what
-- the place of a first block says of whether there is one.
use Rattle.std.proofs.Common.{◌≡◌, ℕ, zero, suc, ◌+◌, ◌*◌, ◌<◌, Bool, true, false, not, ◌&&◌, ◌||◌, eqb, List, [], ◌∷◌, ◌++◌, map, length, get_or, Option, Some, None, refl, sym, ap, ap₂, subst, ◌∙◌, true≢false, arith, lit<, lit≤}
use Rattle.std.specs.Bool.{then_some}
use Rattle.std.specs.Option.{option_eq, option_or}
use mathlib.Core.Bool.{and-true, and-false}
use Rattle.scope.specs.Refusals.{pick}
use Rattle.words.specs.Bytes.{same, part}
use Rattle.words.proofs.Parts.{part_at, part_part}
use Rattle.words.proofs.Tests.{same_eq, same_refl, both_ways}
use Rattle.fields.specs.Fields.{every}
use Rattle.fields.specs.Blocks.{cut}
use Rattle.fields.proofs.Every.{every_append}
use Rattle.fields.proofs.Blocks.{cut_more}
use Rattle.key_store.specs.Layout.{mark_of, iv_of, well_laid}
use Rattle.key_store.specs.Store.{is_empty, present, holds, any, first, found, once}
use Rattle.key_store.specs.Machine.{mark_number}
use Rattle.key_store.specs.declared.Mark.{Mark}
use Rattle.key_store.specs.contracts.MarkPartialEq.TheImpl as Equal
use Rattle.key_store.specs.Inner.{Reads, repeats, place, Surveyed}
use Rattle.key_store.specs.declared.Seen.{Seen}
use Rattle.key_store.proofs.Marks.{read_as}

-- ---- whether there is one

any_append : (p : List ℕ → Bool) (us vs : List (List ℕ)) → any p (us ++ vs) ≡ (any p us || any p vs)
unfolding any
any_append p [] vs = refl
any_append p (b ∷ us) vs = go (p b) (any_append p us vs)
  where
    go : (c : Bool) → any p (us ++ vs) ≡ (any p us || any p vs) → (c || any p (us ++ vs)) ≡ ((c || any p us) || any p vs)
    go true e = refl
    go false e = e

-- the first place lies inside
pub first_inside : (p : List ℕ → Bool) (bs : List (List ℕ)) → any p bs ≡ true → first p bs < length bs
unfolding first any
first_inside p [] e = absurd (true≢false (sym e))
first_inside p (b ∷ bs) e = go (p b) e (λ k. first_inside p bs k)
  where
    go : (c : Bool) → (c || any p bs) ≡ true → (any p bs ≡ true → first p bs < length bs) → pick c zero (suc (first p bs)) < suc (length bs)
    go true e h = omega arith
    go false e h = let k = h e in omega arith

-- and it holds of the block there
pub found_holds : (p : List ℕ → Bool) (bs : List (List ℕ)) → any p bs ≡ true → p (found p bs) ≡ true
unfolding any first
found_holds p [] e = absurd (true≢false (sym e))
found_holds p (b ∷ bs) e = go (p b) refl e (λ k. found_holds p bs k)
  where
    go : (c : Bool) → p b ≡ c → (c || any p bs) ≡ true → (any p bs ≡ true → p (found p bs) ≡ true)
        → p (get_or (b ∷ bs) (pick c zero (suc (first p bs))) []) ≡ true
    go true f e h = f
    go false f e h = h e

-- ---- what a block says, read from the store

module _ (s : List ℕ) (i : ℕ) where
  pub mark_read : get_or s (512 * i) 0 ≡ mark_of (part (512 * i) 512 s)
  mark_read = ap (λ (k : ℕ). get_or s k 0) (let z : 512 * i ≡ 512 * i + 0 = omega arith in z) ∙ part_at s (512 * i) 512 0 (lit< tt)

  pub mark_is : (o : Option Mark) (k : Mark) → Reads (get_or s (512 * i) 0) o
      → option_eq (Equal.eq-value).it o (Some k) ≡ eqb (mark_of (part (512 * i) 512 s)) (mark_number k)
  mark_is o k h = read_as (get_or s (512 * i) 0) o k h ∙ ap (λ (n : ℕ). eqb n (mark_number k)) mark_read

  pub iv_read : part (512 * i + 16) 16 s ≡ iv_of (part (512 * i) 512 s)
  iv_read = sym (part_part s (512 * i) 512 16 16 (lit≤ tt))

-- ---- one block more

pub present_none : (iv s : List ℕ) → false ≡ any (present iv) (cut 0 s)
unfolding cut any
present_none iv s = refl

pub present_more : (iv s : List ℕ) (i : ℕ) {c f m : Bool} → c ≡ any (present iv) (cut i s) → f ≡ not (is_empty (part (512 * i) 512 s))
    → m ≡ same (part (512 * i + 16) 16 s) iv → (c || (f && m)) ≡ any (present iv) (cut (i + 1) s)
unfolding any
present_more iv s i ec ef em =
    let b = part (512 * i) 512 s in
    ap₂ (λ (x y : Bool). x || y) ec
    (ap₂ (λ (f m : Bool). f && m) ef (em ∙ ap (λ (v : List ℕ). same v iv) (iv_read s i)) ∙ or_false (present iv b))
    ∙ sym (any_append (present iv) (cut i s) (b ∷ []))
    ∙ ap (any (present iv)) (sym (cut_more i s))
  where
    or_false : (c : Bool) → c ≡ (c || false)
    or_false true = refl
    or_false false = refl

place_more : (p : List ℕ → Bool) (bs : List (List ℕ)) (b : List ℕ)
    → option_or (place p bs) (then_some (p b) (length bs)) ≡ place p (bs ++ b ∷ [])
unfolding any first
place_more p [] b = go (p b)
  where
    go : (c : Bool) → then_some c 0 ≡ then_some (c || false) (pick {A = ℕ} c 0 1)
    go true = refl
    go false = refl
place_more p (a ∷ bs) b = go (p a) (up (any p bs) (first p bs) (p b) (length bs) _ _ (place_more p bs b))
  where
    up : (c : Bool) (n : ℕ) (t : Bool) (m : ℕ) (d : Bool) (k : ℕ) → option_or (then_some c n) (then_some t m) ≡ then_some d k
        → option_or (then_some c (suc n)) (then_some t (suc m)) ≡ then_some d (suc k)
    up true n t m true k e = cc
    up true n t m false k e = cc
    up false n true m true k e = cc
    up false n true m false k e = cc
    up false n false m true k e = cc
    up false n false m false k e = refl

    go : (c : Bool) → option_or (then_some (any p bs) (suc (first p bs))) (then_some (p b) (suc (length bs)))
        ≡ then_some (any p (bs ++ b ∷ [])) (suc (first p (bs ++ b ∷ [])))
        → option_or (then_some (c || any p bs) (pick c zero (suc (first p bs)))) (then_some (p b) (suc (length bs)))
        ≡ then_some (c || any p (bs ++ b ∷ [])) (pick c zero (suc (first p (bs ++ b ∷ []))))
    go true e = refl
    go false e = e

same_comm : (s t : List ℕ) → same s t ≡ same t s
same_comm s t =
    both_ways (same s t) (same t s) (λ e. ap (λ (x : List ℕ). same x s) (sym (same_eq s t e)) ∙ same_refl s)
    (λ e. ap (λ (x : List ℕ). same x t) (sym (same_eq t s e)) ∙ same_refl t)

-- a block that one more block repeats is told apart by the order alone
once_more : (bs : List (List ℕ)) (b : List ℕ) → once (bs ++ b ∷ []) ≡ (once bs && not (repeats b bs))
unfolding once any
once_more [] b = go (is_empty b)
  where
    go : (e : Bool) → ((e || true) && true) ≡ not (not e && false)
    go true = refl
    go false = refl
once_more (a ∷ bs) b =
    ap₂ (λ (x y : Bool). (is_empty a || not x) && y) (any_append (present (iv_of a)) bs (b ∷ [])) (once_more bs b)
    ∙ ap (λ (m : Bool). (is_empty a || not (any (present (iv_of a)) bs || ((not (is_empty b) && m) || false))) && (once bs && not (repeats b bs)))
    (same_comm (iv_of b) (iv_of a))
    ∙ go (is_empty a) (any (present (iv_of a)) bs) (is_empty b) (same (iv_of a) (iv_of b)) (once bs) (any (present (iv_of b)) bs)
  where
    go : (ea ha eb m o hb : Bool)
        → ((ea || not (ha || ((not eb && m) || false))) && (o && not (not eb && hb)))
        ≡ (((ea || not ha) && o) && not (not eb && ((not ea && m) || hb)))
    go true ha true m o hb = refl
    go true ha false m o hb = refl
    go false true eb m o hb = refl
    go false false true m o hb = refl
    go false false false true true hb = refl
    go false false false true false hb = refl
    go false false false false o hb = refl

module _ (iv : List ℕ) (w : Bool) (bs : List (List ℕ)) (b : List ℕ) (s r : Seen) (g : Surveyed iv w bs s) where
  -- a test of the block that the code made
  place_as : (p : List ℕ → Bool) (t : Bool) (i : ℕ) {m n : Option ℕ} → i ≡ length bs → m ≡ place p bs → t ≡ p b → n ≡ option_or m (then_some t i)
      → n ≡ place p (bs ++ b ∷ [])
  place_as p t i ei em et en = en ∙ rw (ei, em, et) (place_more p bs b)

  sound_as : (w e o l t : Bool) → ((w && (e && o)) && l && not t) ≡ (w && ((e && (l && true)) && (o && not t)))
  sound_as false e o l t = refl
  sound_as true false o l t = refl
  sound_as true true false l t = sym (and-false (l && true))
  sound_as true true true l t = ap (λ (x : Bool). x && not t) (sym (and-true l))

  every_more : every (map well_laid (bs ++ b ∷ [])) ≡ (every (map well_laid bs) && (well_laid b && true))
  unfolding every
  every_more = every_append well_laid bs (b ∷ [])

  pub seen_more : (i : ℕ) (empty filled held asked laid twice : Bool) → i ≡ length bs → empty ≡ is_empty b → filled ≡ not (is_empty b) → held ≡ eqb (mark_of b) 1 → asked ≡ same (iv_of b) iv → laid ≡ well_laid b
      → twice ≡ repeats b bs → r.sound ≡ (s.sound && laid && not twice)
      → r.empty ≡ option_or s.empty (then_some empty i)
      → r.present ≡ option_or s.present (then_some (filled && asked) i)
      → r.holding ≡ option_or s.holding (then_some (held && asked) i) → Surveyed iv w (bs ++ b ∷ []) r
  seen_more i empty filled held asked laid twice ei em ef ek ea el et es ev ep eh =
      record {
        sound =
            es
            ∙ ap₂ (λ (x y : Bool). (s.sound && x) && not y) el et
            ∙ ap (λ (x : Bool). (x && well_laid b) && not (repeats b bs)) g.sound
            ∙ sound_as w (every (map well_laid bs)) (once bs) (well_laid b) (repeats b bs)
            ∙ ap₂ (λ (x y : Bool). w && (x && y)) (sym every_more) (sym (once_more bs b));
        empty = place_as is_empty empty i ei g.empty em ev;
        present = place_as (present iv) (filled && asked) i ei g.present (ap₂ (λ (f a : Bool). f && a) ef ea) ep;
        holding = place_as (holds iv) (held && asked) i ei g.holding (ap₂ (λ (k a : Bool). k && a) ek ea) eh;
      }

pub seen_in : (iv : List ℕ) (w : Bool) (s : Seen) {bs bs' : List (List ℕ)} → bs' ≡ bs → Surveyed iv w bs s → Surveyed iv w bs' s
seen_in iv w s e g = subst (λ (l : List (List ℕ)). Surveyed iv w l s) (sym e) g

pub seen_none : (iv : List ℕ) (w : Bool) → Surveyed iv w [] (record { sound = w; empty = None; present = None; holding = None })
unfolding every once any
seen_none iv w = record { sound = sym (and-true w); empty = refl; present = refl; holding = refl }
