use Rattle.std.proofs.Common.{ℤ, Err, refl, ap, to_z, of_z, w32, ◌∙◌}
use Rattle.gic_c.specs.declared.answer.Refusal.TheVariants.{Invalid}
use Rattle.gic_c.specs.Handle.{board_of}
use Rattle.gic_c.proofs.SaveLemmas.{of_closed, of_open, status_fits}
use Rattle.gic_c.proofs.rv_restore.Goals as goal

pub returns-in_default : goal.returns-in_default
returns-in_default c =
    record {
      answer = Err Invalid;
      status_is = ap (λ (status : ℤ). to_z w32 (of_z w32 status)) c.show.ensures.status;
      done_is = c.show.ensures.done;
      call = of_closed c.args.bytes.now (board_of c.args.machine.now) (board_of c.take.new.self) c.in_default.ensures.board c.take.ensures.closed;
    }

pub returns : goal.returns
returns c =
    record {
      answer = c.restore-reply.result;
      status_is = ap (λ (status : ℤ). to_z w32 (of_z w32 status)) c.show-2.ensures.status ∙ status_fits c.restore-reply.result;
      done_is = c.show-2.ensures.done;
      call =
          of_open c.args.bytes.now (board_of c.args.machine.now) (board_of c.put.new.self) c.in-Some.board.value c.deref_mut.result.now c.restore-reply.new.self c.restore-reply.new.self c.restore-reply.result c.in-Some.ensures.board
          c.deref_mut.ensures.value c.put.ensures refl c.restore-reply.ensures.restored c.restore-reply.ensures.only;
    }
