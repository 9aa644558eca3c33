use Rattle.std.proofs.Common.{lit≤}
use Rattle.gic_soak.proofs.MadeLemmas.{presets_more, all_presets}
use Rattle.gic_soak.proofs.scenario.guest.Goals as goal

pub loop-id-preserved : goal.loop-id-preserved
loop-id-preserved c = presets_more c.loop-id.id c.loop-id.presets c.push.new.self c.preset.result c.loop-id.auto.id c.loop-id.invariant c.preset.ensures c.in_ok-push.ensures.ok

pub returns : goal.returns
returns c = all_presets c.loop-id.id c.loop-id.presets (c.loop-id.auto.id-end (lit≤ tt)) c.loop-id-test.false c.loop-id.invariant
