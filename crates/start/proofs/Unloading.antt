-- What undoing a start finds: registers that a start of this key loads in one mode with the IV in a0 to a7, or registers that none loads.
use mathlib.Core.Path.{◌≡◌, refl, sym, ap, ap₂, ◌∙◌}
use mathlib.Core.Bool.{Bool, true, false, ◌&&◌}
use mathlib.Core.List.{List, ◌++◌}
use Prim.Native.Nat.{ℕ}
use native.Mathlib.Omega.{arith}
use lib.Dec.{lit<, lit≤}
use lib.ListN.{take, drop, take-append-drop}
use lib.Seq.{take_at, drop_at}
use Rattle.words.specs.Bytes.{Row, IsBlock, little, littles, numbers, same, zeros}
use Rattle.words.proofs.Tests.{and_left, and_right, same_refl, same_eq}
use Rattle.words.proofs.Rows.{row_take, row_drop}
use Rattle.words.proofs.Bytes.{littles_numbers, numbers_littles}
use Rattle.cipher.specs.Registers.{Registers, IsRegisters}
use Rattle.cipher.proofs.Inverse.{low_block}
use Rattle.start.specs.Start.{Mode, Mode.plain, Mode.sealed, mode_cells, load}
use Rattle.start.specs.Leads.{Traced.origin, Traced.refused}
use Rattle.start.specs.Trace.{loads, unload}
use Rattle.start.proofs.Mixing.{words_row}
use Rattle.start.proofs.Undo.{mode_row, low, high}

-- all of six tests hold but one of them, the second
but_one : {c0 c2 c3 c4 c5 : Bool} (c1 d : Bool) → c0 ≡ true → c1 ≡ d → c2 ≡ true → c3 ≡ true → c4 ≡ true → c5 ≡ true
    → (c0 && c1 && c2 && c3 && c4 && c5) ≡ d
but_one c1 true p0 p1 p2 p3 p4 p5 = λ i. p0 i && p1 i && p2 i && p3 i && p4 i && p5 i
but_one c1 false p0 p1 p2 p3 p4 p5 = λ i. p0 i && p1 i && p2 i && p3 i && p4 i && p5 i

module _ (key : List ℕ) (k : Row 32 256 key) where
  in_r1 : (iv : List ℕ) (m : Mode) → same (load key iv m).r1 zeros ≡ true
  unfolding load
  in_r1 iv m = same_refl zeros

  in_r2 : (iv : List ℕ) (m : Mode) → same (load key iv m).r2 zeros ≡ true
  unfolding load
  in_r2 iv m = same_refl zeros

  in_r3 : (iv : List ℕ) (m : Mode) → same (load key iv m).r3 zeros ≡ true
  unfolding load
  in_r3 iv m = same_refl zeros

  -- ---- what a start loads is found

  module _ (iv : List ℕ) (v : IsBlock iv) (m : Mode) where
    in_rear : littles 2 (drop 8 (load key iv m).lfsr.a) ≡ take 16 key
    unfolding load
    in_rear =
        ap (littles 2) (drop_at (numbers 2 8 iv) (numbers 2 8 (take 16 key)) 8 (words_row v).long) ∙ littles_numbers 2 8 (take 16 key) (low key k)

    in_mode : littles 2 (take 8 (load key iv m).lfsr.b) ≡ littles 2 (mode_cells m)
    unfolding load
    in_mode = ap (littles 2) (take_at (mode_cells m) (numbers 2 8 (drop 16 key)) 8 (mode_row m).long)

    in_key : littles 2 (drop 8 (load key iv m).lfsr.b) ≡ drop 16 key
    unfolding load
    in_key =
        ap (littles 2) (drop_at (mode_cells m) (numbers 2 8 (drop 16 key)) 8 (mode_row m).long) ∙ littles_numbers 2 8 (drop 16 key) (high key k)

    in_front : littles 2 (take 8 (load key iv m).lfsr.a) ≡ iv
    unfolding load
    in_front = ap (littles 2) (take_at (numbers 2 8 iv) (numbers 2 8 (take 16 key)) 8 (words_row v).long) ∙ littles_numbers 2 8 iv v

    -- it is loaded in the modes whose cells are its own
    loads_load : (n : Mode) → loads key n (load key iv m) ≡ same (littles 2 (mode_cells m)) (littles 2 (mode_cells n))
    unfolding loads
    loads_load n =
        but_one _ _ (ap₂ same in_rear refl ∙ same_refl (take 16 key)) (ap (λ (l : List ℕ). same l (littles 2 (mode_cells n))) in_mode)
        (ap (λ (l : List ℕ). same l (drop 16 key)) in_key ∙ same_refl (drop 16 key)) (in_r1 iv m) (in_r2 iv m) (in_r3 iv m)

  pub unload_load : (iv : List ℕ) → IsBlock iv → (m : Mode) → unload key (load key iv m) ≡ origin iv m
  unfolding unload same littles little
  unload_load iv v plain = rw (loads_load iv v plain plain) (ap (λ (i : List ℕ). origin i plain) (in_front iv v plain))
  unload_load iv v sealed =
      rw (loads_load iv v sealed plain, loads_load iv v sealed sealed) (ap (λ (i : List ℕ). origin i sealed) (in_front iv v sealed))

  -- ---- what is found loads the registers

  load_loads : (m : Mode) (s : Registers) → IsRegisters s → loads key m s ≡ true → load key (littles 2 (take 8 s.lfsr.a)) m ≡ s
  unfolding loads load
  load_loads m s g e =
      let c0 : Bool = same (littles 2 (drop 8 s.lfsr.a)) (take 16 key) in
      let c1 : Bool = same (littles 2 (take 8 s.lfsr.b)) (littles 2 (mode_cells m)) in
      let c2 : Bool = same (littles 2 (drop 8 s.lfsr.b)) (drop 16 key) in
      let c3 : Bool = same s.r1 zeros in
      let c4 : Bool = same s.r2 zeros in
      let c5 : Bool = same s.r3 zeros in
      let p4 = and_left (c0 && c1 && c2 && c3 && c4) c5 e in
      let p3 = and_left (c0 && c1 && c2 && c3) c4 p4 in
      let p2 = and_left (c0 && c1 && c2) c3 p3 in
      let p1 = and_left (c0 && c1) c2 p2 in
      let rear : Row 8 65536 (drop 8 s.lfsr.a) = row_drop 65536 16 g.cells.in_a 8 in
      let front : Row 8 65536 (take 8 s.lfsr.a) = row_take 65536 16 g.cells.in_a 8 (lit< tt) (lit≤ tt) in
      let upper : Row 8 65536 (drop 8 s.lfsr.b) = row_drop 65536 16 g.cells.in_b 8 in
      let lower : Row 8 65536 (take 8 s.lfsr.b) = row_take 65536 16 g.cells.in_b 8 (lit< tt) (lit≤ tt) in
      let ea : numbers 2 8 (take 16 key) ≡ drop 8 s.lfsr.a =
      ap (numbers 2 8) (sym (same_eq _ _ (and_left c0 c1 p1))) ∙ numbers_littles 2 8 (drop 8 s.lfsr.a) rear in
      let em : mode_cells m ≡ take 8 s.lfsr.b =
      sym (numbers_littles 2 8 (mode_cells m) (mode_row m)) ∙ ap (numbers 2 8) (sym (same_eq _ _ (and_right c0 c1 p1))) ∙ numbers_littles 2 8 (take 8 s.lfsr.b) lower in
      let ek : numbers 2 8 (drop 16 key) ≡ drop 8 s.lfsr.b =
      ap (numbers 2 8) (sym (same_eq _ _ (and_right (c0 && c1) c2 p2))) ∙ numbers_littles 2 8 (drop 8 s.lfsr.b) upper in
      let a : numbers 2 8 (littles 2 (take 8 s.lfsr.a)) ++ numbers 2 8 (take 16 key) ≡ s.lfsr.a =
      ap₂ (λ (u w : List ℕ). u ++ w) (numbers_littles 2 8 (take 8 s.lfsr.a) front) ea ∙ take-append-drop 8 s.lfsr.a in
      let b : mode_cells m ++ numbers 2 8 (drop 16 key) ≡ s.lfsr.b = ap₂ (λ (u w : List ℕ). u ++ w) em ek ∙ take-append-drop 8 s.lfsr.b in
      let e1 : zeros ≡ s.r1 = sym (same_eq _ _ (and_right (c0 && c1 && c2) c3 p3)) in
      let e2 : zeros ≡ s.r2 = sym (same_eq _ _ (and_right (c0 && c1 && c2 && c3) c4 p4)) in
      let e3 : zeros ≡ s.r3 = sym (same_eq _ _ (and_right (c0 && c1 && c2 && c3 && c4) c5 e)) in
      λ i. record { lfsr = record { a = a i; b = b i }; r1 = e1 i; r2 = e2 i; r3 = e3 i }

  pub record Loads (s : Registers) (iv : List ℕ) (m : Mode) : Type 0 where
    pub iv_block : IsBlock iv
    pub is : load key iv m ≡ s

  found : (m : Mode) (s : Registers) → IsRegisters s → loads key m s ≡ true → Loads s (littles 2 (take 8 s.lfsr.a)) m
  found m s g e = record { iv_block = low_block g.cells.in_a; is = load_loads m s g e }

  pub unload_loads : (s : Registers) (iv : List ℕ) (m : Mode) → IsRegisters s → unload key s ≡ origin iv m → Loads s iv m
  unfolding unload
  unload_loads s iv m g e = go (loads key plain s) refl (loads key sealed s) refl
    where
      b : List ℕ
      b = littles 2 (take 8 s.lfsr.a)

      moved : (n : Mode) → Loads s b n → origin b n ≡ origin iv m → Loads s iv m
      moved n f q = let x : b ≡ iv = cc in let y : n ≡ m = cc in rw x at (rw y at f)

      go : (p : Bool) → loads key plain s ≡ p → (q : Bool) → loads key sealed s ≡ q → Loads s iv m
      go true p q k = moved plain (found plain s g p) (rw p at e)
      go false p true k = moved sealed (found sealed s g k) (rw k at (rw p at e))
      go false p false k = let z : refused 6 ≡ origin iv m = rw k at (rw p at e) in absurd (let w : ◌≡◌ {A = ℕ} 0 1 = cc in omega arith)

  -- an answer is an origin or 6
  pub unload_six : (s : Registers) → ((iv : List ℕ) (m : Mode) → ¬ (unload key s ≡ origin iv m)) → unload key s ≡ refused 6
  unfolding unload
  unload_six s h = go (loads key plain s) refl (loads key sealed s) refl
    where
      go : (p : Bool) → loads key plain s ≡ p → (q : Bool) → loads key sealed s ≡ q → unload key s ≡ refused 6
      go true p q k = absurd (h (littles 2 (take 8 s.lfsr.a)) plain (rw p))
      go false p true k = absurd (h (littles 2 (take 8 s.lfsr.a)) sealed (rw (p, k)))
      go false p false k = rw (p, k)

  pub refused_six : (s : Registers) (n : ℕ) → unload key s ≡ refused n → n ≡ 6
  unfolding unload
  refused_six s n e = go (loads key plain s) refl (loads key sealed s) refl
    where
      iv : List ℕ
      iv = littles 2 (take 8 s.lfsr.a)

      never : (m : Mode) → origin iv m ≡ refused n → ⊥
      never m f = let w : ◌≡◌ {A = ℕ} 0 1 = cc in omega arith

      same_number : refused 6 ≡ refused n → n ≡ 6
      same_number f = cc

      go : (p : Bool) → loads key plain s ≡ p → (q : Bool) → loads key sealed s ≡ q → n ≡ 6
      go true p q k = absurd (never plain (rw p at e))
      go false p true k = absurd (never sealed (rw k at (rw p at e)))
      go false p false k = same_number (rw k at (rw p at e))
