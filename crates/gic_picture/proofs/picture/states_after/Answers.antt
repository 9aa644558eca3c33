use Rattle.std.proofs.Common.{◌≡◌, ◌∙◌, All, ap, subst, sym, take}
use Rattle.std.proofs.lemmas.List.Elements.{All-take}
use Rattle.ideal_guest.specs.Calls.{shapes_of}
use Rattle.scn_base.specs.declared.step.Mode.TheVariants.{Schedule}
use Rattle.gic_ideal.specs.Eager.{state_shapes}
use Rattle.gic_ideal.proofs.StateLemmas.{shapes_opening}
use Rattle.gic_picture.proofs.PictureLemmas.{Acts, steps_act}
use Rattle.gic_picture.proofs.picture.states_after.Goals as goal

pub do_steps-requires-clause-acts : goal.do_steps-requires-clause-acts
do_steps-requires-clause-acts c =
    let scenario = c.args.scenario.now in
    let shapes : state_shapes c.in_ok-states.states.items ≡ shapes_of scenario.guests = ap state_shapes c.in_ok-states.ensures.value ∙ shapes_opening scenario.guests in
    subst (λ all. All (Acts all) (take c.args.count c.as_slice.result.now)) (sym shapes)
    (subst (λ steps. All (Acts (shapes_of scenario.guests)) (take c.args.count steps)) (sym c.as_slice.ensures)
    (All-take (Acts (shapes_of scenario.guests)) c.args.count scenario.steps (steps_act Schedule scenario.pes (shapes_of scenario.guests) scenario.steps c.requires.good.each_step)))

pub returns-clause-shapes : goal.returns-clause-shapes
returns-clause-shapes c = c.do_steps.ensures.shapes ∙ ap state_shapes c.in_ok-states.ensures.value ∙ shapes_opening c.args.scenario.now.guests
