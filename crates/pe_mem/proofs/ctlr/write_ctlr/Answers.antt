-- The mark, the copies, and the mark freed.
use Rattle.std.proofs.Common.{ap, ◌∙◌}
use Rattle.its_exec.specs.Registers.{enables_in}
use Rattle.pe_mem.proofs.CtlrLemmas.{writes_ctlr, low_enables}
use Rattle.pe_mem.proofs.ctlr.write_ctlr.Goals as goal

pub returns : goal.returns
returns g c =
    writes_ctlr (g.P.Port.seen c.args.port.now) (g.P.Port.seen c.take_mark.new.port) (g.P.Port.seen c.copy_enables.new.port) (g.P.Port.seen c.step.new.self) c.args.value c.step.result c.enables_in-enables.result (g.P.Port.is_port c.args.port.now).good.sound.shape
    c.requires.free (c.enables_in-enables.ensures ∙ ap enables_in c.low.ensures ∙ low_enables c.args.value) c.take_mark.ensures c.copy_enables.ensures c.step.ensures.adds
