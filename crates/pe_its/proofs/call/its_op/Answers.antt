-- A read, and a write that is ignored.
use Rattle.std.proofs.Common.{Some, sym, ap, ◌∙◌}
use Rattle.pe_mem.specs.GicImap.Map.{decoded}
use Rattle.pe_mem.specs.Calls.{takes_turn}
use Rattle.pe_its.proofs.AccessLemmas.{reads_its, ignores_write}
use Rattle.pe_its.proofs.call.its_op.Goals as goal

pub returns-in_default : goal.returns-in_default
returns-in_default g c =
    reads_its (g.P.Port.seen c.args.port.now) (g.P.Port.seen c.read_its.new.port) c.args.offset c.args.size c.read_its.result c.args.write c.in_default.is (g.P.Port.is_port c.read_its.new.port) c.requires.can c.read_its.ensures

pub returns-else-is_taking : goal.returns-else-is_taking
returns-else-is_taking g c =
    ignores_write (g.P.Port.seen c.args.port.now) c.args.offset c.args.size c.in-Some.value c.args.write c.in-Some.is (g.P.Port.is_port c.args.port.now) c.requires.can
    (ap (λ shape. takes_turn shape (decoded c.args.offset c.args.size) (Some c.in-Some.value)) (sym c.shape.ensures) ∙ sym (c.is_taking.ensures c.in-Some.value) ∙ c.if-is_taking.false)
