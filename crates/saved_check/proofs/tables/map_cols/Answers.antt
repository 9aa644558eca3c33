use Rattle.std.proofs.Common.{arith}
use Rattle.saved_check.proofs.GrowLemmas.{grown_cols}
use Rattle.saved_check.proofs.tables.map_cols.Goals as goal

pub loop-col-preserved : goal.loop-col-preserved
loop-col-preserved c = grown_cols c.args.tables.now c.loop-col.tables _ c.args.cols.now c.loop-col.col-index _ c.requires.order (omega arith) c.loop-col.invariant c.map_collection.ensures
