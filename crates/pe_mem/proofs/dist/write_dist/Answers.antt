-- One register each.
use Rattle.std.proofs.Common.{sym, subst}
use Rattle.pe_mem.specs.Dist.{WritesDist}
use Rattle.pe_mem.proofs.DistLemmas.{writes_nothing}
use Rattle.pe_mem.proofs.dist.write_dist.Goals as goal

pub returns-in-Ctlr : goal.returns-in-Ctlr
returns-in-Ctlr g c = subst (λ reg. WritesDist (g.P.Port.seen c.args.port.now) (g.P.Port.seen c.write_ctlr.new.port) reg c.args.half c.args.value) (sym c.in-Ctlr.is) c.write_ctlr.ensures

pub returns-in-SetSpi : goal.returns-in-SetSpi
returns-in-SetSpi g c = subst (λ reg. WritesDist (g.P.Port.seen c.args.port.now) (g.P.Port.seen c.set_spi.new.port) reg c.args.half c.args.value) (sym c.in-SetSpi.is) c.set_spi.ensures

pub returns-in-ClrSpi : goal.returns-in-ClrSpi
returns-in-ClrSpi g c = subst (λ reg. WritesDist (g.P.Port.seen c.args.port.now) (g.P.Port.seen c.clear_spi.new.port) reg c.args.half c.args.value) (sym c.in-ClrSpi.is) c.clear_spi.ensures

pub returns-in-Router : goal.returns-in-Router
returns-in-Router g c = subst (λ reg. WritesDist (g.P.Port.seen c.args.port.now) (g.P.Port.seen c.write_router.new.port) reg c.args.half c.args.value) (sym c.in-Router.is) c.write_router.ensures

pub returns-in-Typer : goal.returns-in-Typer
returns-in-Typer g c = writes_nothing (g.P.Port.seen c.args.port.now) c.args.reg c.args.half c.args.value c.requires.ease c.in-Typer.is
