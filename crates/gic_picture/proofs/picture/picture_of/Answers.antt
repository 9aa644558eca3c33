use Rattle.std.proofs.Common.{All, ap, sym, subst, ◌∙◌, rules, arith}
use Rattle.scn_base.specs.Standing.{vcpus_from}
use Rattle.gic_ideal.specs.Eager.{state_shapes}
use Rattle.gic_picture.proofs.PictureLemmas.{Acts, few_states, is_picture}
use Rattle.gic_picture.proofs.picture.picture_of.Goals as goal

pub choose-requires-clause-few : goal.choose-requires-clause-few
choose-requires-clause-few c =
    omega (arith, few_states c.in_ok-states.states.items c.args.scenario.now.guests c.in_ok-states.ensures.shapes, c.requires.good.guests)

pub choose-requires-clause-acts : goal.choose-requires-clause-acts
choose-requires-clause-acts c = subst (λ shapes. All (Acts shapes) c.steps_of-steps.result.now) (sym c.in_ok-states.ensures.shapes) c.steps_of-steps.ensures.acts

pub show_steps-requires-clause-acts : goal.show_steps-requires-clause-acts
show_steps-requires-clause-acts c = subst (λ shapes. All (Acts shapes) c.steps_of-steps.result.now) (sym c.in_ok-states-2.ensures.shapes) c.steps_of-steps.ensures.acts

pub returns : goal.returns
returns c =
    is_picture _ c.steps_of-steps.result.now _ c.in_ok-states.states.items c.in_ok-states-2.states.items c.as_slice-2.result.now c.as_slice-3.result.now _
    c.steps_of-steps.ensures.value c.in_ok-states.ensures.value c.in_ok-states-2.ensures.value (search rules) (search rules) (search rules)
    (c.in_ok-vcpus.ensures.value ∙ ap (λ guests. vcpus_from 0 (state_shapes guests)) c.as_slice.ensures.value) (search rules) (search rules)
