-- Stepping back is the inverse of the step, once and n times over.
use mathlib.Core.Path.{◌≡◌, sym, ap, ◌∙◌}
use Rattle.cipher.specs.Registers.{Registers, IsRegisters}
use Rattle.cipher.specs.Step.{z, step}
use Rattle.cipher.specs.Back.{back}
use Rattle.cipher.specs.Run.{backward, made}
use Rattle.cipher.specs.Laws.{StepsBack}
use Rattle.cipher.proofs.Inverse.{back_step, step_back}
use Rattle.cipher.proofs.Moves.{move_good, moves_undone, zs_undone}

its_z : (s t : Registers) → IsRegisters t → step t ≡ s → made backward s ≡ z t
unfolding made
its_z s t g e = ap z (ap back (sym e) ∙ back_step t g)

pub steps_back : StepsBack
steps_back =
    record {
      only = λ s t g h. (λ e. ap back (sym e) ∙ back_step t h, λ e. ap step (sym e) ∙ step_back s g);
      its_z = its_z;
      returns = moves_undone;
      stays = move_good;
      blocks_again = zs_undone;
    }
