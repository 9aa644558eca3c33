use Rattle.std.proofs.Common.{map}
use Rattle.serde_json.specs.View.{view}
use Rattle.scn_read.proofs.GuestLemmas.{guest_is, guest_fails}
use Rattle.scn_read.proofs.guest.read_guest.Goals as goal

pub returns-in-Ok : goal.returns-in-Ok
returns-in-Ok c = guest_is (view c.args.value.now) c.head.result c.in_ok-presets.presets c.counts.result.vcpus c.counts.result.spis c.counts.result.espis (map view c.elements_at.result.now) c.head.ensures c.counts.ensures.vcpus c.counts.ensures.spis c.counts.ensures.espis c.elements_at.ensures c.in_ok-presets.ensures c.in-Ok.shape c.in-Ok.on c.in-Ok.presets c.in-Ok.ensures

pub returns-in-Err : goal.returns-in-Err
returns-in-Err c = guest_fails (view c.args.value.now) c.head.result c.in_ok-presets.presets c.counts.result.vcpus c.counts.result.spis c.counts.result.espis (map view c.elements_at.result.now) c.head.ensures c.counts.ensures.vcpus c.counts.ensures.spis c.counts.ensures.espis c.elements_at.ensures c.in_ok-presets.ensures c.in-Err.code c.in-Err.ensures
