use Rattle.std.proofs.Common.{◌-◌, ◌+◌, ◌<◌, [], ◌∷◌, ◌++◌, map, refl, ap, ◌∙◌, arith}
use Rattle.std.specs.List.{range_with_len}
use Rattle.floor_calls.specs.Words.{interrupt_count}
use Rattle.floor_calls.specs.Calls.{Touch, Enables, CtlrEnd, copy_at, ctlr_events}
use Rattle.ideal_guest.specs.Ideal.{after_event}
use Rattle.ideal_guest.proofs.EachLemmas.{underway_next, made_next}
use Rattle.ideal_guest.proofs.guest.IdealGuest.write_ctlr.Goals as goal

pub loop-place-preserved : goal.loop-place-preserved
loop-place-preserved c =
    let old = c.args.self.now in
    let now = c.loop-place.self in
    let at = copy_at old.shape c.args.enables in
    let count = interrupt_count old.shape in
    let n = c.loop-place.place in
    let more : n < count = omega (arith, c.loop-place.invariant.end) in
    let coming = map at (range_with_len (n + 1) (count - (n + 1))) ++ CtlrEnd ∷ [] in
    record {
      shape = refl;
      end = c.loop-place.invariant.end;
      way =
          underway_next old now c.touch.new.self (ctlr_events old.shape c.args.enables) _ coming (at n) (ap (λ events. events ++ CtlrEnd ∷ []) (made_next at n count more)) (c.touch.ensures.after ∙ ap (λ key. after_event now (Touch key (Enables c.args.enables.group0 c.args.enables.group1))) c.key_at.ensures.value) c.touch.ensures.sound c.touch.ensures.shape
          c.loop-place.invariant.way;
    }
