-- One register each.
use Rattle.std.proofs.Common.{false, sym, ap, ◌∙◌}
use Rattle.its_exec.specs.Registers.{enable_lpis_after}
use Rattle.its_exec.specs.Core.{shape_of}
use Rattle.pe_mem.proofs.RedistLemmas.{writes_ctlr, keeps_ctlr, writes_propbaser, writes_pendbaser, writes_fixed, low_enable}
use Rattle.pe_mem.proofs.redist.write_redist.Goals as goal

pub returns-then-enable_lpis_after : goal.returns-then-enable_lpis_after
returns-then-enable_lpis_after g c =
    let old = g.P.Port.seen c.args.port.now in
    writes_ctlr old (g.P.Port.seen c.enable_lpis.new.port) c.args.vcpu c.args.reg c.args.half c.args.value c.in-Ctlr.is
    (sym (low_enable (shape_of old) c.args.value) ∙ ap (enable_lpis_after (shape_of old) false) (sym c.low.ensures) ∙ ap (λ shape. enable_lpis_after shape false c.low.result) (sym c.shape.ensures) ∙ sym c.enable_lpis_after.ensures ∙ c.if-enable_lpis_after.true)
    c.enable_lpis.ensures

pub returns-else-enable_lpis_after : goal.returns-else-enable_lpis_after
returns-else-enable_lpis_after g c =
    let old = g.P.Port.seen c.args.port.now in
    keeps_ctlr old c.args.vcpu c.args.reg c.args.half c.args.value c.requires.ease c.in-Ctlr.is
    (sym (low_enable (shape_of old) c.args.value) ∙ ap (enable_lpis_after (shape_of old) false) (sym c.low.ensures) ∙ ap (λ shape. enable_lpis_after shape false c.low.result) (sym c.shape.ensures) ∙ sym c.enable_lpis_after.ensures ∙ c.if-enable_lpis_after.false)

pub returns-in-Propbaser : goal.returns-in-Propbaser
returns-in-Propbaser g c = writes_propbaser (g.P.Port.seen c.args.port.now) (g.P.Port.seen c.store_table.new.port) c.args.vcpu c.args.reg c.args.half c.args.value c.in-Propbaser.is c.store_table.ensures

pub returns-in-Pendbaser : goal.returns-in-Pendbaser
returns-in-Pendbaser g c = writes_pendbaser (g.P.Port.seen c.args.port.now) (g.P.Port.seen c.store_table-in-Pendbaser.new.port) c.args.vcpu c.args.reg c.args.half c.args.value c.in-Pendbaser.is c.store_table-in-Pendbaser.ensures

pub returns-in-Iidr : goal.returns-in-Iidr
returns-in-Iidr g c = writes_fixed (g.P.Port.seen c.args.port.now) c.args.vcpu c.args.reg c.args.half c.args.value c.requires.ease c.in-Iidr.is
