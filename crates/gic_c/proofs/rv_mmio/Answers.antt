-- There is no machine in the handle.
use Rattle.std.proofs.Common.{ℤ, Err, refl, ap, to_z, of_z, w32}
use Rattle.gic_c.specs.declared.answer.Refusal.TheVariants.{Invalid}
use Rattle.gic_c.specs.Handle.{board_of}
use Rattle.gic_c.proofs.MmioLemmas.{of_closed}
use Rattle.gic_c.proofs.rv_mmio.Goals as goal

pub returns-in_default : goal.returns-in_default
returns-in_default c =
    record {
      answer = Err Invalid;
      status_is = ap (λ (status : ℤ). to_z w32 (of_z w32 status)) c.show.ensures.status;
      done_is = c.show.ensures.done;
      call =
          of_closed c.args.vcpu c.args.address c.args.size c.args.is_write c.args.value (board_of c.args.machine.now) (board_of c.take.new.self) (Err Invalid) c.in_default.ensures.board
          c.take.ensures.closed refl;
    }
