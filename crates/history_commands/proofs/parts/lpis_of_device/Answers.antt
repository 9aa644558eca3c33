use Rattle.std.proofs.Common.{ap, ◌∙◌}
use Rattle.std.specs.List.{filter_map}
use Rattle.std.proofs.lemmas.List.{take_all}
use Rattle.history_commands.proofs.PartLemmas.{of_device, device_pushed, device_kept}
use Rattle.history_commands.proofs.parts.lpis_of_device.Goals.{then-pair-device+in_ok-push, else-pair-device}
use Rattle.history_commands.proofs.parts.lpis_of_device.Goals as goal

pub returns : goal.returns
returns c =
    c.loop-pair.invariant ∙ ap (filter_map (of_device c.args.device)) (take_all c.loop-pair.pair-index c.deref-pair-items.result.now c.loop-pair-test.false ∙ c.deref-pair-items.ensures.value ∙ c.in_ok-events.ensures)

pub loop-pair-preserved : goal.loop-pair-preserved
loop-pair-preserved c =
    let pairs = c.deref-pair-items.result.now in
    let i = c.loop-pair.pair-index in
    elim c.if-pair-device.branch [
      | then-pair-device+in_ok-push w ↦ rw w.ids-is (device_pushed c.args.device pairs i ((0, 0), (0, 0)) c.loop-pair-test.true c.loop-pair.ids _ c.loop-pair.invariant w.in_ok-push.ensures.ok w.if-pair-device.true)
      | else-pair-device w ↦ rw w.ids-is (device_kept c.args.device pairs i ((0, 0), (0, 0)) c.loop-pair-test.true c.loop-pair.ids c.loop-pair.invariant w.if-pair-device.false)
    ]
