use Rattle.irq_records.proofs.PlaceLemmas.{before_end, place_found}
use Rattle.irq_records.proofs.IrqRecords.pending_at.Goals as goal

pub index-requires : goal.index-requires
index-requires c = before_end c.args.before c.self.inside.index.len c.self.view_is c.self.invariant.all c.self.inside.index.ok.0 c.requires.there

pub returns : goal.returns
returns c = place_found c.args.before c.index.result.now c.self.view_is c.self.invariant.all c.index.ensures c.requires.there
