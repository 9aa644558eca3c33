-- One more operation.
use Rattle.std.proofs.Common.{◌≡◌, ◌+◌, suc, take, refl, subst, arith}
use Rattle.std.proofs.lemmas.Option.{slice_get-get_or}
use Rattle.thr_trip.specs.Device.{Receives}
use Rattle.thr_trip.proofs.DeviceLemmas.{receives_more}
use Rattle.thr_trip.proofs.device.receive_all.Goals as goal

pub loop-op-preserved : goal.loop-op-preserved
loop-op-preserved g c =
    let first = g.P.Port.seen c.args.port.now in
    let old = g.P.Port.seen c.loop-op.port in
    let new = g.P.Port.seen c.device_op.new.port in
    let script = c.args.script.now in
    let index = c.loop-op.op-index in
    let later : suc index ≡ index + 1 = omega arith in
    let more = receives_more script first old new index _ (slice_get-get_or script index _ (omega arith)) c.loop-op.invariant.so c.device_op.ensures in
    record { end = refl; so = subst (λ done. Receives (take done script) first new) later more }
