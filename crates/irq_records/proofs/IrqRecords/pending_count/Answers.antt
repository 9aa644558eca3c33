use Rattle.std.proofs.Common.{length, ap, ◌∙◌}
use Rattle.irq_records.specs.Pending.{pending_places}
use Rattle.irq_records.proofs.PlaceLemmas.{count_is}
use Rattle.irq_records.proofs.IrqRecords.pending_count.Goals as goal

pub returns : goal.returns
returns c = c.len.ensures ∙ c.self.inside.index.ok.0 ∙ count_is _ _ c.self.invariant.all ∙ ap (λ irqs. length (pending_places irqs)) c.self.view_is
