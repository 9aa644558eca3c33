-- One register each.
use Rattle.std.proofs.Common.{ap, ◌∙◌}
use Rattle.its_exec.specs.Registers.{Propbaser, Pendbaser}
use Rattle.its_exec.specs.GicRmap.declared.map.Reg.TheVariants.{Iidr, Typer, Pidr2}
use Rattle.its_exec.specs.GicRmap.Contents.{typer_of}
use Rattle.pe_mem.proofs.RedistLemmas.{read_by, reads_iidr, reads_typer, reads_propbaser, reads_pendbaser, reads_pidr2}
use Rattle.pe_mem.proofs.redist.read_redist.Goals as goal

pub returns-in-Iidr : goal.returns-in-Iidr
returns-in-Iidr g c =
    let old = g.P.Port.seen c.args.port.now in
    read_by old old c.args.vcpu c.from.result c.args.reg Iidr c.in-Iidr.is (reads_iidr old c.args.vcpu c.from.result c.requires.ease c.from.ensures)

pub returns-in-Typer : goal.returns-in-Typer
returns-in-Typer g c =
    let old = g.P.Port.seen c.args.port.now in
    read_by old old c.args.vcpu c.typer.result c.args.reg Typer c.in-Typer.is (reads_typer old c.args.vcpu c.typer.result c.requires.ease (c.typer.ensures ∙ ap (λ shape. typer_of shape c.args.vcpu) c.shape.ensures))

pub returns-in-Propbaser : goal.returns-in-Propbaser
returns-in-Propbaser g c =
    let old = g.P.Port.seen c.args.port.now in
    let new = g.P.Port.seen c.read_plain.new.port in
    read_by old new c.args.vcpu c.read_plain.result c.args.reg Propbaser c.in-Propbaser.is (reads_propbaser old new c.args.vcpu c.read_plain.result c.requires.ease c.read_plain.ensures)

pub returns-in-Pendbaser : goal.returns-in-Pendbaser
returns-in-Pendbaser g c =
    let old = g.P.Port.seen c.args.port.now in
    let new = g.P.Port.seen c.read_plain-in-Pendbaser.new.port in
    read_by old new c.args.vcpu c.pendbaser_read.result c.args.reg Pendbaser c.in-Pendbaser.is
    (reads_pendbaser old new c.args.vcpu c.read_plain-in-Pendbaser.result c.pendbaser_read.result c.requires.ease c.pendbaser_read.ensures c.read_plain-in-Pendbaser.ensures)

pub returns-in-Pidr2 : goal.returns-in-Pidr2
returns-in-Pidr2 g c =
    let old = g.P.Port.seen c.args.port.now in
    read_by old old c.args.vcpu c.from-in-Pidr2.result c.args.reg Pidr2 c.in-Pidr2.is (reads_pidr2 old c.args.vcpu c.from-in-Pidr2.result c.requires.ease c.from-in-Pidr2.ensures)
