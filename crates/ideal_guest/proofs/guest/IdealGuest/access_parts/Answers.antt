use Rattle.std.proofs.Common.{◌<◌, refl, sym, ◌∙◌, arith}
use Rattle.floor_calls.specs.Calls.{part_event, part_events}
use Rattle.ideal_guest.proofs.EachLemmas.{found_happened, found_none, part_there, part_absent}
use Rattle.ideal_guest.proofs.guest.IdealGuest.access_parts.Goals.{in-Some, in_default}
use Rattle.ideal_guest.proofs.guest.IdealGuest.access_parts.Goals as goal

pub loop-number-preserved : goal.loop-number-preserved
loop-number-preserved c =
    let old = c.args.self.now in
    let now = c.loop-number.self in
    let shape = old.shape in
    let frame = c.args.frame in
    let kind = c.args.kind in
    let first = c.args.first in
    let write = c.args.write in
    let n = c.loop-number.number in
    let at = part_event shape frame kind first write in
    let events = part_events shape frame kind first c.args.count write in
    let more : n < c.args.count = omega arith in
    elim c.match-part_key.branch [
      | in-Some w ↦
          record {
            shape = refl;
            way =
                rw w.self-is
                (found_happened old now w.touch.new.self events at n c.args.count _ more (part_there shape frame kind first write n _ _ (sym c.part_key.ensures.value ∙ w.in-Some.is) w.part_touch.ensures.value) w.touch.ensures.after w.touch.ensures.sound w.touch.ensures.shape
                c.loop-number.invariant.way);
          }
      | in_default w ↦
          record {
            shape = refl;
            way = rw w.self-is (found_none old now events at n c.args.count more (part_absent shape frame kind first write n (sym c.part_key.ensures.value ∙ w.in_default.is)) c.loop-number.invariant.way);
          }
    ]
