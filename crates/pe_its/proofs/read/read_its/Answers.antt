-- By what is at the offset, in a guest with LPIs.
use Rattle.std.proofs.Common.{sym, ◌∙◌}
use Rattle.pe_mem.specs.Core.{shape_of}
use Rattle.pe_mem.proofs.RedistLemmas.{lpis_there, lpis_none}
use Rattle.pe_its.proofs.ReadLemmas.{serves_register, serves_reserved, serves_none}
use Rattle.pe_its.proofs.read.read_its.Goals as goal

pub returns-in_default : goal.returns-in_default
returns-in_default g c = serves_reserved (g.P.Port.seen c.args.port.now) c.args.offset c.args.size c.requires (sym c.decode.ensures ∙ c.in_default.is)

pub returns-then-shape-eq0 : goal.returns-then-shape-eq0
returns-then-shape-eq0 g c =
    let old = g.P.Port.seen c.args.port.now in
    serves_none old c.args.offset c.args.size c.in-Plain.reg c.in-Plain.half c.requires (sym c.decode.ensures ∙ c.in-Plain.is) (lpis_none c.shape.result (shape_of old) c.shape.ensures c.if-shape-eq0.true)

pub returns : goal.returns
returns g c =
    let old = g.P.Port.seen c.args.port.now in
    serves_register old (g.P.Port.seen c.read_register.new.port) c.args.offset c.args.size c.in-Plain.reg c.in-Plain.half c.read_register.result c.of.result (sym c.decode.ensures ∙ c.in-Plain.is)
    (lpis_there c.shape.result (shape_of old) c.shape.ensures c.if-shape-eq0.false) c.of.ensures.value c.read_register.ensures
