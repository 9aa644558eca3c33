-- The device made two calls.
use Rattle.embed_example.proofs.TurnLemmas.{rests_device, same_after, same_twice}
use Rattle.embed_example.proofs.device.DeviceTakesTurnsSignalsFault.turn.Goals as goal

pub returns-then-is_rung : goal.returns-then-is_rung
returns-then-is_rung g c =
    let old = g.P.Port.seen c.args.port.now in
    let mid = g.P.Port.seen c.send_msi.new.port in
    let new = g.P.Port.seen c.message.new.port in
    rests_device old new (same_twice old mid new (same_after old mid c.send_msi.ensures.part c.send_msi.ensures.adds) (same_after mid new c.message.ensures.part c.message.ensures.done.adds)) c.message.ensures.done.after
