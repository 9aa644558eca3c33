-- By what is at the offset.
use Rattle.std.proofs.Common.{Some, None, refl}
use Rattle.its_exec.specs.GicDmap.declared.map.RegRef.TheVariants.{Bits, Plain, Reserved}
use Rattle.pe_mem.proofs.DistLemmas.{served_bits, served_read, served_write, served_none, served_by}
use Rattle.pe_mem.proofs.dist.access_dist.Goals as goal

pub returns-in-Bits-default : goal.returns-in-Bits-default
returns-in-Bits-default g c =
    served_by (g.P.Port.seen c.args.port.now) (g.P.Port.seen c.access_parts.new.port) c.args.reference (Bits c.in-Bits-default.kind c.in-Bits-default.first c.in-Bits-default.count) c.args.write c.args.write c.access_parts.result c.in-Bits-default.is-0 refl
    (served_bits (g.P.Port.seen c.args.port.now) (g.P.Port.seen c.access_parts.new.port) c.in-Bits-default.kind c.in-Bits-default.first c.in-Bits-default.count c.args.write c.access_parts.result c.access_parts.ensures)

pub returns-in-Plain-None : goal.returns-in-Plain-None
returns-in-Plain-None g c =
    served_by (g.P.Port.seen c.args.port.now) (g.P.Port.seen c.read_dist.new.port) c.args.reference (Plain c.in-Plain-None.reg c.in-Plain-None.half) c.args.write None c.of.result c.in-Plain-None.is-0 c.in-Plain-None.is-1
    (served_read (g.P.Port.seen c.args.port.now) (g.P.Port.seen c.read_dist.new.port) c.in-Plain-None.reg c.in-Plain-None.half c.read_dist.result c.of.result c.of.ensures.value c.read_dist.ensures)

pub returns-in-Plain-Some : goal.returns-in-Plain-Some
returns-in-Plain-Some g c =
    served_by (g.P.Port.seen c.args.port.now) (g.P.Port.seen c.write_dist.new.port) c.args.reference (Plain c.in-Plain-Some.reg c.in-Plain-Some.half) c.args.write (Some c.in-Plain-Some.value) 0 c.in-Plain-Some.is-0 c.in-Plain-Some.is-1
    (served_write (g.P.Port.seen c.args.port.now) (g.P.Port.seen c.write_dist.new.port) c.in-Plain-Some.reg c.in-Plain-Some.half c.in-Plain-Some.value c.write_dist.ensures)

pub returns-in-Reserved-default : goal.returns-in-Reserved-default
returns-in-Reserved-default g c =
    served_by (g.P.Port.seen c.args.port.now) (g.P.Port.seen c.args.port.now) c.args.reference Reserved c.args.write c.args.write 0 c.in-Reserved-default.is-0 refl (served_none (g.P.Port.seen c.args.port.now) c.args.write c.requires.ease)
