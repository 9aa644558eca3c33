use Rattle.std.proofs.Common.{ap, ◌∙◌}
use Rattle.gic_ideal.specs.Eager.{state_shapes}
use Rattle.gic_ideal.proofs.StateLemmas.{shapes_opening}
use Rattle.gic_ideal.proofs.run.eager.Goals as goal

pub eager_from-requires-clause-shapes : goal.eager_from-requires-clause-shapes
eager_from-requires-clause-shapes c = ap state_shapes c.in_ok-states.ensures.value ∙ shapes_opening c.as_slice-guests.result.now
