-- One part more.
use Rattle.std.proofs.Common.{◌+◌, ap, subst}
use Rattle.its_exec.specs.Calls.{part_key}
use Rattle.its_exec.specs.Core.{shape_of}
use Rattle.pe_mem.specs.Each.{AccessesNumber}
use Rattle.pe_mem.proofs.PartsLemmas.{parts_none, parts_more}
use Rattle.pe_mem.proofs.parts.access_parts.Goals as goal

pub loop-number-init : goal.loop-number-init
loop-number-init g c = parts_none (g.P.Port.seen c.args.port.now) c.args.frame c.args.kind c.args.first c.args.write c.requires.ease

pub loop-number-preserved : goal.loop-number-preserved
loop-number-preserved g c =
    let old = g.P.Port.seen c.args.port.now in
    parts_more old (g.P.Port.seen c.loop-number.port) (g.P.Port.seen c.access_number-part.new.port) c.args.frame c.args.kind c.args.first c.loop-number.number c.args.write c.loop-number.value c.access_number-part.result c.with_part-value.result
    (ap shape_of c.loop-number.invariant.accesses.touches.adds.new_is) c.loop-number.invariant
    (subst (λ write. AccessesNumber (g.P.Port.seen c.loop-number.port) (g.P.Port.seen c.access_number-part.new.port) (part_key (shape_of (g.P.Port.seen c.loop-number.port)) c.args.frame c.args.kind (c.args.first + c.loop-number.number)) c.args.kind write c.access_number-part.result) c.written_in-write.ensures.value c.access_number-part.ensures.done)
    c.with_part-value.ensures.value c.with_part-value.ensures.before
