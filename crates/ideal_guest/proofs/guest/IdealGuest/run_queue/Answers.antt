use Rattle.std.proofs.Common.{◌≡◌, ◌+◌, ◌-◌, ◌/◌, sym, subst, ◌∙◌}
use Rattle.ideal_guest.specs.Ideal.{after_commands, after_queued}
use Rattle.ideal_guest.proofs.QueueLemmas.{commands_end, commands_step}
use Rattle.ideal_guest.proofs.guest.IdealGuest.run_queue.Goals as goal

pub returns-then-not-takes_command-clause-ok : goal.returns-then-not-takes_command-clause-ok
returns-then-not-takes_command-clause-ok c = sym (commands_end _ c.loop-place.self (sym c.takes_command.ensures ∙ c.if-not-takes_command.true)) ∙ c.loop-place.invariant.left

pub loop-place-preserved : goal.loop-place-preserved
loop-place-preserved c =
    record {
      sound = c.do_command.ensures.sound;
      shape = c.do_command.ensures.shape ∙ c.loop-place.invariant.shape;
      places = c.loop-place.invariant.places;
      left =
          subst (λ g. after_commands (c.queue_bytes-places.result / 32 - (c.loop-place._place + 1)) g ≡ after_queued c.args.self.now) (sym c.do_command.ensures.ok)
          (sym (commands_step (c.queue_bytes-places.result / 32) c.loop-place._place c.loop-place.self c.loop-place-test.true (sym c.takes_command.ensures ∙ c.if-not-takes_command.false)) ∙ c.loop-place.invariant.left);
    }
