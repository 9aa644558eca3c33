-- The look.
use Rattle.std.proofs.Common.{is_some, ap, ◌∙◌}
use Rattle.its_exec.specs.GicDmap.Contents.{ctlr_of as dist_ctlr_of}
use Rattle.pe_mem.proofs.CtlrLemmas.{reads_ctlr}
use Rattle.pe_mem.proofs.ctlr.read_ctlr.Goals as goal

pub returns : goal.returns
returns g c =
    reads_ctlr (g.P.Port.seen c.args.port.now) (g.P.Port.seen c.step.new.self) c.step.result c.from.result c.requires c.step.ensures.adds
    (c.from.ensures ∙ c.ctlr.ensures.value ∙ ap (dist_ctlr_of c.of-word.result.enables) c.is_some.ensures ∙ ap (λ word. dist_ctlr_of word.enables (is_some word.mark)) c.of-word.ensures)
