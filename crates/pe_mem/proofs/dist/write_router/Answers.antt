-- The write of the half, if the SPI is there.
use Rattle.std.proofs.Common.{sym, ap, ◌∙◌}
use Rattle.its_exec.specs.Words.{Dist, Routing}
use Rattle.its_exec.specs.Calls.{part_key}
use Rattle.its_exec.specs.Core.{shape_of}
use Rattle.pe_mem.proofs.DistLemmas.{can_write_half, writes_router, writes_no_router}
use Rattle.pe_mem.proofs.dist.write_router.Goals as goal

pub write_half-requires-clause-can : goal.write_half-requires-clause-can
write_half-requires-clause-can g c =
    can_write_half (shape_of (g.P.Port.seen c.args.port.now)) c.args.id c.args.half c.args.value c.in-Some.key c.requires.fits
    (ap (λ shape. part_key shape Dist Routing c.args.id) (sym c.shape.ensures) ∙ sym c.part_key.ensures.value ∙ c.in-Some.is)

pub returns-in-Some : goal.returns-in-Some
returns-in-Some g c =
    writes_router (g.P.Port.seen c.args.port.now) (g.P.Port.seen c.write_half.new.port) c.args.id c.args.half c.args.value c.in-Some.key c.write_half.result
    (ap (λ shape. part_key shape Dist Routing c.args.id) (sym c.shape.ensures) ∙ sym c.part_key.ensures.value ∙ c.in-Some.is) c.write_half.ensures

pub returns-in_default : goal.returns-in_default
returns-in_default g c =
    writes_no_router (g.P.Port.seen c.args.port.now) c.args.id c.args.half c.args.value c.requires.ease
    (ap (λ shape. part_key shape Dist Routing c.args.id) (sym c.shape.ensures) ∙ sym c.part_key.ensures.value ∙ c.in_default.is)
