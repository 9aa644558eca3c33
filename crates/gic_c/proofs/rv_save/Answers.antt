use Rattle.std.proofs.Common.{ℤ, Option, Err, refl, ap, subst, to_z, of_z, w32}
use Rattle.gic_c.specs.declared.answer.Refusal.TheVariants.{Invalid}
use Rattle.gic_c.specs.declared.board.Board.{Board}
use Rattle.gic_c.specs.Save.{IsImageIn}
use Rattle.gic_c.proofs.rv_save.Goals as goal

pub returns-in_default-clause-saved : goal.returns-in_default-clause-saved
returns-in_default-clause-saved c =
    record {
      image = Err Invalid;
      is_image = subst (λ (board : Option Board). IsImageIn board (Err Invalid)) c.in_default.ensures.board refl;
      status_is = ap (λ (status : ℤ). to_z w32 (of_z w32 status)) c.deliver.ensures.status;
      needed_is = c.deliver.ensures.needed;
      room_is = c.deliver.ensures.room;
    }
