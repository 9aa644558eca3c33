use Rattle.std.proofs.Common.{rules}
use Rattle.port_core.proofs.AccessLemmas.{candidates_in, first_more}
use Rattle.port_core.proofs.local.Local.first.Goals as goal

pub loop-entry-preserved : goal.loop-entry-preserved
loop-entry-preserved c =
    first_more c.args.self.now.cpu c.args.self.now.at c.as_slice-entry-items.result.now c.loop-entry.entry-index _ c.as_slice-entry-items.ensures.value (search rules)
    (c.first_with-first.ensures (candidates_in c.args.self.now.cpu c.args.self.now.at c.loop-entry.entry-index) c.loop-entry.invariant)
