-- The try is of the word that was looked at.
use Rattle.std.proofs.Common.{is_some, sym, ap, ◌∙◌}
use Rattle.pe_mem.proofs.MarkLemmas.{tries}
use Rattle.pe_mem.proofs.ctlr.try_mark.Goals as goal

pub returns : goal.returns
returns g c =
    tries (g.P.Port.seen c.args.port.now) (g.P.Port.seen c.step-seen.new.self) (g.P.Port.seen c.step.new.self) c.args.enables c.step-seen.result c.packed-value.result c.step.result c.packed-value.ensures.back
    (ap (λ word. is_some word.mark) (sym c.of.ensures) ∙ sym c.is_some.ensures ∙ c.if-is_some.false) c.step-seen.ensures.adds c.step.ensures.adds
