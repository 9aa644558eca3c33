use Rattle.std.proofs.Common.{arith}
use Rattle.saved_check.proofs.GrowLemmas.{grown_devs}
use Rattle.saved_check.proofs.tables.map_devs.Goals as goal

pub loop-dev-preserved : goal.loop-dev-preserved
loop-dev-preserved c = grown_devs c.args.tables.now c.loop-dev.tables _ c.args.devs.now c.loop-dev.dev-index _ c.requires.order (omega arith) c.loop-dev.invariant c.map_device.ensures
