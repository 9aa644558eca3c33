-- One register each.
use Rattle.std.proofs.Common.{refl, sym, ap, subst, ◌∙◌}
use Rattle.its_exec.specs.GicDmap.Contents.{typer_of}
use Rattle.its_exec.specs.GicDmap.declared.map.Reg.TheVariants.{Typer, Iidr, Pidr2}
use Rattle.pe_mem.specs.Dist.{ReadsDist}
use Rattle.pe_mem.proofs.DistLemmas.{reads_fixed, reads_router, reads_zero}
use Rattle.pe_mem.proofs.dist.read_dist.Goals as goal

pub returns-in-Ctlr : goal.returns-in-Ctlr
returns-in-Ctlr g c = subst (λ reg. ReadsDist (g.P.Port.seen c.args.port.now) (g.P.Port.seen c.read_ctlr.new.port) reg c.read_ctlr.result) (sym c.in-Ctlr.is) c.read_ctlr.ensures

pub returns-in-Typer : goal.returns-in-Typer
returns-in-Typer g c =
    let old = g.P.Port.seen c.args.port.now in
    subst (λ reg. ReadsDist old old reg c.from.result) (sym c.in-Typer.is)
    (reads_fixed old Typer c.from.result c.requires (λ view. refl) refl (λ view. c.from.ensures ∙ c.typer.ensures ∙ ap typer_of c.shape.ensures))

pub returns-in-Iidr : goal.returns-in-Iidr
returns-in-Iidr g c =
    let old = g.P.Port.seen c.args.port.now in
    subst (λ reg. ReadsDist old old reg c.from-in-Iidr.result) (sym c.in-Iidr.is) (reads_fixed old Iidr c.from-in-Iidr.result c.requires (λ view. refl) refl (λ view. c.from-in-Iidr.ensures))

pub returns-in-Router : goal.returns-in-Router
returns-in-Router g c =
    let old = g.P.Port.seen c.args.port.now in
    subst (λ reg. ReadsDist old (g.P.Port.seen c.access_number.new.port) reg c.access_number.result) (sym c.in-Router.is)
    (reads_router old (g.P.Port.seen c.access_number.new.port) c.in-Router.id c.access_number.result _ c.requires refl c.access_number.ensures.done)

pub returns-in-Pidr2 : goal.returns-in-Pidr2
returns-in-Pidr2 g c =
    let old = g.P.Port.seen c.args.port.now in
    subst (λ reg. ReadsDist old old reg c.from-in-Pidr2.result) (sym c.in-Pidr2.is) (reads_fixed old Pidr2 c.from-in-Pidr2.result c.requires (λ view. refl) refl (λ view. c.from-in-Pidr2.ensures))

pub returns-in-SetSpi : goal.returns-in-SetSpi
returns-in-SetSpi g c = reads_zero (g.P.Port.seen c.args.port.now) c.args.reg c.requires c.in-SetSpi.is
