-- The round and its inverse undo each other on blocks, since each of their steps does, and both keep blocks blocks.
use mathlib.Core.Path.{◌≡◌, refl, ap, ◌∙◌}
use mathlib.Core.List.{List}
use Prim.Native.Nat.{ℕ}
use lib.ListN.{length, get_or}
use Rattle.words.specs.Bytes.{Row, IsBlock}
use Rattle.words.proofs.Rows.{Below, tab_all}
use Rattle.aes.specs.Field.{sub}
use Rattle.aes.specs.Unround.{unsub, unsub_bytes, unshift_rows, unmix_columns, unround}
use Rattle.aes.specs.Laws.{RoundUndone}
use Rattle.aes.specs.Round.{sub_bytes, gathered, shift_rows, mix_columns, round}
use Rattle.aes.proofs.Lists.{map_row, map_undo}
use Rattle.aes.proofs.Boxes.{sub_lt, unsub_lt, unsub_sub, sub_unsub}
use Rattle.aes.proofs.Mixing.{unmix_mix, mix_unmix, mix_row}

pub gathered_row : (places s : List ℕ) → Below 256 s → Row (length places) 256 (gathered places s)
unfolding gathered
gathered_row places s h = map_row (λ i. get_or s i 0) h (length places) places refl

unshift_shift : (s : List ℕ) → length s ≡ 16 → unshift_rows (shift_rows s) ≡ s
unfolding gathered
unshift_shift s e = tab_all 16 s e

shift_unshift : (s : List ℕ) → length s ≡ 16 → shift_rows (unshift_rows s) ≡ s
unfolding gathered
shift_unshift s e = tab_all 16 s e

-- ---- the round

module _ (s : List ℕ) (h : IsBlock s) where
  substituted : IsBlock (sub_bytes s)
  substituted = map_row sub sub_lt 16 s h.long

  shifted : IsBlock (shift_rows (sub_bytes s))
  shifted = gathered_row _ (sub_bytes s) substituted.below

  unmixed : IsBlock (unmix_columns s)
  unmixed = mix_row 14 11 13 9 16 h

  unshifted : IsBlock (unshift_rows (unmix_columns s))
  unshifted = gathered_row _ (unmix_columns s) unmixed.below

  pub round_block : IsBlock (round s)
  unfolding round
  round_block = mix_row 2 3 1 1 16 shifted

  pub unround_block : IsBlock (unround s)
  unfolding unround
  unround_block = map_row unsub unsub_lt 16 (unshift_rows (unmix_columns s)) unshifted.long

  pub unround_round : unround (round s) ≡ s
  unfolding round unround
  unround_round =
      ap (λ (t : List ℕ). unsub_bytes (unshift_rows t)) (unmix_mix (shift_rows (sub_bytes s)))
      ∙ ap unsub_bytes (unshift_shift (sub_bytes s) substituted.long)
      ∙ map_undo sub unsub unsub_sub s h.below

  pub round_unround : round (unround s) ≡ s
  unfolding round unround
  round_unround =
      ap (λ (t : List ℕ). mix_columns (shift_rows t)) (map_undo unsub sub sub_unsub (unshift_rows (unmix_columns s)) unshifted.below)
      ∙ ap mix_columns (shift_unshift (unmix_columns s) unmixed.long)
      ∙ mix_unmix s

pub undone : RoundUndone
undone = record { back = unround_round; forth = round_unround }
