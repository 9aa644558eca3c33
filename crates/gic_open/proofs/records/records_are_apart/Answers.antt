use Rattle.gic_open.proofs.KeyLemmas.{irq_same, irq_other}
use Rattle.gic_open.proofs.records.records_are_apart.Goals as goal

pub returns : goal.returns
returns c shape irqs j k irq is each = (irq_same shape j irq irqs is each, irq_other shape j k irq irqs is)
