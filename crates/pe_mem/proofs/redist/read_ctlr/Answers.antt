-- The look, in a guest with LPIs.
use Rattle.std.proofs.Common.{ap, ◌∙◌}
use Rattle.its_exec.specs.GicRmap.Contents.{ctlr_of}
use Rattle.its_exec.specs.Core.{shape_of}
use Rattle.pe_mem.proofs.RedistLemmas.{reads_lpis, reads_no_lpis, lpis_there, lpis_none}
use Rattle.pe_mem.proofs.redist.read_ctlr.Goals as goal

pub returns-then-shape-eq0 : goal.returns-then-shape-eq0
returns-then-shape-eq0 g c =
    let old = g.P.Port.seen c.args.port.now in
    reads_no_lpis old c.args.vcpu c.requires.ease (lpis_none c.shape-shape.result (shape_of old) c.shape-shape.ensures c.if-shape-eq0.true)

pub returns : goal.returns
returns g c =
    let old = g.P.Port.seen c.args.port.now in
    reads_lpis old (g.P.Port.seen c.look_at_lpis.new.port) c.args.vcpu c.from.result c.look_at_lpis.result c.requires.ease (lpis_there c.shape-shape.result (shape_of old) c.shape-shape.ensures c.if-shape-eq0.false) c.look_at_lpis.ensures
    (c.from.ensures ∙ c.ctlr.ensures ∙ ap (λ shape. ctlr_of shape c.look_at_lpis.result) c.shape-shape.ensures)
