use Rattle.std.proofs.Common.{◌≡◌, ◌≤◌, ◌∙◌, map, sym, subst, length, arith}
use Rattle.std.proofs.lemmas.List.{length-map}
use Rattle.std.proofs.lemmas.Result.{err_from_is_err_and}
use Rattle.serde_json.specs.View.{view}
use Rattle.trace_read.proofs.ReadLemmas.{outside_of, fault_of, refused, trace_is, trace_few, refuses, are_there}
use Rattle.trace_read.proofs.read.read_trace.Goals as goal

pub events-requires-clause-shape : goal.events-requires-clause-shape
events-requires-clause-shape c =
    let outside = outside_of (view c.args.value.now) c.events_at.result c.in_ok-guest.guest _ c.events_at.ensures c.in_ok-guest.ensures c.get.ensures c.in-Ok.parts c.in-Ok.ensures in
    outside.good.shape

pub events-requires-clause-few : goal.events-requires-clause-few
events-requires-clause-few c =
    let outside = outside_of (view c.args.value.now) c.events_at.result c.in_ok-guest.guest _ c.events_at.ensures c.in_ok-guest.ensures c.get.ensures c.in-Ok.parts c.in-Ok.ensures in
    let short : length c.in-Ok.parts.0.now ≤ 100000 = simp length-map at outside.own.few in
    omega (arith, short)

pub returns-in-Err-clause-bad : goal.returns-in-Err-clause-bad
returns-in-Err-clause-bad c =
    refused (view c.args.value.now) c.in-Err.code (fault_of (view c.args.value.now) c.events_at.result c.in_ok-guest.guest _ c.events_at.ensures c.in_ok-guest.ensures c.get.ensures c.in-Err.code c.in-Err.ensures)

pub returns-in_err-events-clause-bad : goal.returns-in_err-events-clause-bad
returns-in_err-events-clause-bad c =
    let outside = outside_of (view c.args.value.now) c.events_at.result c.in_ok-guest.guest _ c.events_at.ensures c.in_ok-guest.ensures c.get.ensures c.in-Ok.parts c.in-Ok.ensures in
    let failed = err_from_is_err_and c.from_residual-in_err-events.result c.from_residual-in_err-events.ensures.1 in
    rw (failed.1, failed.2) (refuses (view c.args.value.now) (map view c.in-Ok.parts.0.now) c.in-Ok.parts.1 outside c.in_err-events.field-0.0 c.in_err-events.ensures.bad)

pub returns-clause-ok : goal.returns-clause-ok
returns-clause-ok c =
    let outside = outside_of (view c.args.value.now) c.events_at.result c.in_ok-guest.guest _ c.events_at.ensures c.in_ok-guest.ensures c.get.ensures c.in-Ok.parts c.in-Ok.ensures in
    trace_is (view c.args.value.now) (map view c.in-Ok.parts.0.now) c.in-Ok.parts.1 outside c.in_ok-events.events c.in_ok-events.ensures.ok

pub returns-clause-good : goal.returns-clause-good
returns-clause-good c =
    let outside = outside_of (view c.args.value.now) c.events_at.result c.in_ok-guest.guest _ c.events_at.ensures c.in_ok-guest.ensures c.get.ensures c.in-Ok.parts c.in-Ok.ensures in
    outside.good

pub returns-clause-few : goal.returns-clause-few
returns-clause-few c =
    let outside = outside_of (view c.args.value.now) c.events_at.result c.in_ok-guest.guest _ c.events_at.ensures c.in_ok-guest.ensures c.get.ensures c.in-Ok.parts c.in-Ok.ensures in
    trace_few (view c.args.value.now) (map view c.in-Ok.parts.0.now) c.in-Ok.parts.1 outside c.in_ok-events.events c.in_ok-events.ensures.ok

pub returns-clause-there : goal.returns-clause-there
returns-clause-there c = are_there c.in-Ok.parts.1.shape 1 (map view c.in-Ok.parts.0.now) c.in_ok-events.events c.in_ok-events.ensures.ok
