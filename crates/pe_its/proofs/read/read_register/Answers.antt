-- One register each.
use Rattle.std.proofs.Common.{ap, ◌∙◌}
use Rattle.pe_mem.specs.Registers.{Cbaser, Cwriter, Baser0, Baser1}
use Rattle.pe_mem.specs.GicImap.declared.map.Reg.TheVariants.{Iidr, Typer, Pidr2}
use Rattle.pe_mem.specs.GicImap.Contents.{typer_of}
use Rattle.pe_its.proofs.ReadLemmas.{read_by, reads_iidr, reads_typer, reads_cbaser, reads_cwriter, reads_baser0, reads_baser1, reads_pidr2}
use Rattle.pe_its.proofs.read.read_register.Goals as goal

pub returns-in-Iidr : goal.returns-in-Iidr
returns-in-Iidr g c =
    let old = g.P.Port.seen c.args.port.now in
    read_by old old c.from.result c.args.reg Iidr c.in-Iidr.is (reads_iidr old c.from.result c.requires c.from.ensures)

pub returns-in-Typer : goal.returns-in-Typer
returns-in-Typer g c =
    let old = g.P.Port.seen c.args.port.now in
    read_by old old c.typer.result c.args.reg Typer c.in-Typer.is (reads_typer old c.typer.result c.requires (c.typer.ensures ∙ ap typer_of c.shape.ensures))

pub returns-in-Cbaser : goal.returns-in-Cbaser
returns-in-Cbaser g c =
    let old = g.P.Port.seen c.args.port.now in
    let new = g.P.Port.seen c.read_plain.new.port in
    read_by old new c.read_plain.result c.args.reg Cbaser c.in-Cbaser.is (reads_cbaser old new c.read_plain.result c.requires c.read_plain.ensures)

pub returns-in-Cwriter : goal.returns-in-Cwriter
returns-in-Cwriter g c =
    let old = g.P.Port.seen c.args.port.now in
    let new = g.P.Port.seen c.read_plain-in-Cwriter.new.port in
    read_by old new c.read_plain-in-Cwriter.result c.args.reg Cwriter c.in-Cwriter.is (reads_cwriter old new c.read_plain-in-Cwriter.result c.requires c.read_plain-in-Cwriter.ensures)

pub returns-in-Baser0 : goal.returns-in-Baser0
returns-in-Baser0 g c =
    let old = g.P.Port.seen c.args.port.now in
    let new = g.P.Port.seen c.read_plain-in-Baser0.new.port in
    read_by old new c.baser.result c.args.reg Baser0 c.in-Baser0.is (reads_baser0 old new c.read_plain-in-Baser0.result c.baser.result c.requires c.baser.ensures c.read_plain-in-Baser0.ensures)

pub returns-in-Baser1 : goal.returns-in-Baser1
returns-in-Baser1 g c =
    let old = g.P.Port.seen c.args.port.now in
    let new = g.P.Port.seen c.read_plain-in-Baser1.new.port in
    read_by old new c.baser-in-Baser1.result c.args.reg Baser1 c.in-Baser1.is (reads_baser1 old new c.read_plain-in-Baser1.result c.baser-in-Baser1.result c.requires c.baser-in-Baser1.ensures c.read_plain-in-Baser1.ensures)

pub returns-in-Pidr2 : goal.returns-in-Pidr2
returns-in-Pidr2 g c =
    let old = g.P.Port.seen c.args.port.now in
    read_by old old c.from-in-Pidr2.result c.args.reg Pidr2 c.in-Pidr2.is (reads_pidr2 old c.from-in-Pidr2.result c.requires c.from-in-Pidr2.ensures)
