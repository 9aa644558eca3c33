-- What two reads of IAR would answer.
use Rattle.std.proofs.Common.{Bool, ap, ◌∙◌}
use Rattle.gic_line.specs.declared.lines.Lines.{Lines}
use Rattle.pe_loop.specs.Words.{G0, G1}
use Rattle.pe_loop.specs.Registers.{candidates_at}
use Rattle.pe_icc.specs.Lines.{is_intid}
use Rattle.pe_icc.proofs.LineLemmas.{intid_told}
use Rattle.pe_icc.proofs.line.lines_of_registers.Goals as goal

pub returns : goal.returns
returns c interface ok stands real =
    let make : Bool → Bool → Lines = λ irq fiq. record { irq = irq; fiq = fiq } in
    let candidates = candidates_at interface in
    ap (λ irq. make irq c.is_intid-2.result) (c.is_intid.ensures ∙ ap is_intid (c.answer.ensures interface ok stands) ∙ intid_told G1 interface.cpu candidates real)
    ∙ ap (make _) (c.is_intid-2.ensures ∙ ap is_intid (c.answer-2.ensures interface ok stands) ∙ intid_told G0 interface.cpu candidates real)
