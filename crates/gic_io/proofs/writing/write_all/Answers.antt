use Rattle.std.proofs.Common.{arith}
use Rattle.std.proofs.lemmas.Grind.{common_steps}
use Rattle.gic_io.proofs.Parts.{grew_on}
use Rattle.gic_io.proofs.writing.write_all.Goals as goal

pub loop-done-preserved : goal.loop-done-preserved
loop-done-preserved g c = record {
  within = grind (arith, common_steps, c.in_ok-count.ensures.within);
  grew = grew_on (g.K.Sink.taken c.args.sink.now) (g.K.Sink.taken c.loop-done.sink) (g.K.Sink.taken c.write.new.self) c.args.text.now c.loop-done.done c.in_ok-count.count c.loop-done.invariant.grew c.in_ok-count.ensures.grew;
  never_falls = grind (arith, c.write.ensures.never_falls);
}
