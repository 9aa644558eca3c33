use Rattle.std.proofs.Common.{◌∙◌, ap}
use Rattle.gic_ideal.specs.Eager.{state_shapes}
use Rattle.gic_ideal.proofs.run.eager_from.Goals as goal

pub end_all-requires-clause-shapes : goal.end_all-requires-clause-shapes
end_all-requires-clause-shapes c = ap state_shapes c.as_slice.ensures.value ∙ c.in_ok-answers.ensures.shapes ∙ c.requires.shapes

pub do_steps-requires-clause-formed : goal.do_steps-requires-clause-formed
do_steps-requires-clause-formed c = rw c.requires.shapes c.requires.formed

pub do_steps-requires-clause-residents : goal.do_steps-requires-clause-residents
do_steps-requires-clause-residents c = rw c.requires.shapes c.requires.residents
