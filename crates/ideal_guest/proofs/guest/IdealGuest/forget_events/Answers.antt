use Rattle.std.proofs.Common.{length, sym, ap, ◌∙◌, arith}
use Rattle.floor_calls.specs.Registers.{pair_of}
use Rattle.floor_calls.proofs.ItsTab.AfterLemmas.{some_from_test}
use Rattle.floor_calls.proofs.ItsTab.CarryLemmas.{fewer_events}
use Rattle.ideal_guest.proofs.SweepLemmas.{forgets_next, forgets_end}
use Rattle.ideal_guest.proofs.guest.IdealGuest.forget_events.Goals as goal

pub loop-event-smaller : goal.loop-event-smaller
loop-event-smaller c =
    let less = fewer_events c.loop-event.self.tables (c.args.device, c.in-Some.event) c.in-Some.ensures.found in
    let same = ap (λ maps. length maps.events) c.forget_event.ensures.tables in
    omega (arith, less, same)

pub loop-event-preserved : goal.loop-event-preserved
loop-event-preserved c =
    let at = some_from_test (pair_of c.loop-event.self.tables (c.args.device, c.in-Some.event)) c.in-Some.ensures.found in
    forgets_next c.args.self.now c.loop-event.self c.forget_event.new.self c.args.device c.in-Some.event at.0 (sym c.first_event.ensures.value ∙ c.in-Some.is) at.1 (c.forget_event.ensures.after at.0 at.1) c.forget_event.ensures.sound c.loop-event.invariant

pub returns-clause-after : goal.returns-clause-after
returns-clause-after c = forgets_end c.args.self.now c.loop-event.self c.args.device (sym c.first_event.ensures.value ∙ c.in_default.is) c.loop-event.invariant
