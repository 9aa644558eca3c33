use Rattle.std.proofs.Common.{arith}
use Rattle.std.proofs.lemmas.Grind.{common_steps}
use Rattle.gic_io.proofs.Parts.{count_twice, most_twice}
use Rattle.gic_io.proofs.reading.read_all.Goals as goal

pub returns-in_err-count-clause-too_long_past_max :
    goal.returns-in_err-count-clause-too_long_past_max
returns-in_err-count-clause-too_long_past_max g c is =
    count_twice (g.S.Source.left c.args.source.now) (g.S.Source.left c.loop-bytes.source) (g.S.Source.left c.read_some.new.source) c.loop-bytes.bytes.items _ _
    c.loop-bytes.invariant.read (c.read_some.ensures.too_long (grind (arith, common_steps))) (grind (arith, common_steps))

pub returns-in_err-count-clause-no_memory_within_max :
    goal.returns-in_err-count-clause-no_memory_within_max
returns-in_err-count-clause-no_memory_within_max g c is =
    most_twice (g.S.Source.left c.args.source.now) (g.S.Source.left c.loop-bytes.source) (g.S.Source.left c.read_some.new.source) c.loop-bytes.bytes.items _ _
    c.loop-bytes.invariant.read (c.read_some.ensures.no_memory (grind (arith, common_steps))) (grind (arith, common_steps))
