use Rattle.std.proofs.Common.{◌∷◌, [], ◌++◌, arith}
use Rattle.std.proofs.lemmas.List.Elements.{All-push, All-same}
use Rattle.ideal_guest.specs.Sound.{IsSound}
use Rattle.gic_ideal.proofs.StateLemmas.{opened_pushed}
use Rattle.gic_ideal.proofs.run.open_all.Goals as goal

pub loop-guest-preserved : goal.loop-guest-preserved
loop-guest-preserved c =
    record {
      value =
          opened_pushed c.loop-guest.states.items c.push.new.self.items c.in_ok-open.field-0 c.args.guests.now c.loop-guest.guest-index c.guest-item.result (omega arith) c.guest-item.is c.loop-guest.invariant.value
          c.in_ok-push.ensures.items c.in_ok-open.ensures.value;
      sound = All-same IsSound c.push.new.self.items (c.loop-guest.states.items ++ c.in_ok-open.field-0 ∷ []) c.in_ok-push.ensures.items (All-push IsSound c.loop-guest.states.items c.in_ok-open.field-0 c.loop-guest.invariant.sound c.in_ok-open.ensures.sound);
    }
