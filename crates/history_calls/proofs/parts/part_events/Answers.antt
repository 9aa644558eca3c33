use Rattle.std.proofs.Common.{sym, ◌∙◌}
use Rattle.history_calls.specs.Calls.{part_event}
use Rattle.legal_lists.proofs.GicCall.RangeLemmas.{filter_map_pushed, filter_map_kept}
use Rattle.legal_lists.proofs.IdealGuests.EachLemmas.{part_there, part_absent}
use Rattle.history_calls.proofs.parts.part_events.Goals.{in-Some+in_ok-push, in_default}
use Rattle.history_calls.proofs.parts.part_events.Goals as goal

pub loop-number-preserved : goal.loop-number-preserved
loop-number-preserved c =
    let shape = c.args.shape.now in
    let frame = c.args.frame in
    let kind = c.args.kind in
    let first = c.args.first in
    let write = c.args.write in
    let n = c.loop-number.number in
    let at = part_event shape frame kind first write in
    elim c.match-part_key.branch [
      | in-Some+in_ok-push w ↦
          rw w.events-is
          (filter_map_pushed at n c.loop-number.events _ _ c.loop-number.invariant w.in_ok-push.ensures.ok
          (part_there shape frame kind first write n _ _ (sym c.part_key.ensures.value ∙ w.in-Some.is) w.part_touch-touching.ensures.value))
      | in_default w ↦ rw w.events-is (filter_map_kept at n c.loop-number.events c.loop-number.invariant (part_absent shape frame kind first write n (sym c.part_key.ensures.value ∙ w.in_default.is)))
    ]
