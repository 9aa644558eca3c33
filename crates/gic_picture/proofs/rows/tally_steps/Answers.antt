use Rattle.std.proofs.Common.{◌≡◌, ◌+◌, ◌∙◌, sym, ap, refl, subst, take, All, IsTrue, arith}
use Rattle.gic_ideal.specs.Eager.{after_step, after_steps, state_shapes}
use Rattle.gic_picture.specs.declared.rows.Tally.{Tally}
use Rattle.gic_picture.specs.Names.{is_there, names_from}
use Rattle.gic_picture.proofs.TallyLemmas.{one_more_step, tallies_there, tallies_room, tallies_more}
use Rattle.gic_picture.proofs.rows.tally_steps.Goals as goal

pub next_tallies-requires-clause-there : goal.next_tallies-requires-clause-there
next_tallies-requires-clause-there c =
    let guests = c.args.states.now.items in
    let shapes : state_shapes guests ≡ state_shapes c.as_slice-in-loop-step-2.result.now =
    sym c.loop-step.invariant.shapes ∙ sym c.do_step.ensures.shapes ∙ ap state_shapes (sym c.as_slice-in-loop-step-2.ensures.value) in
    subst (λ (all : _). All (λ (tally : Tally). IsTrue (is_there all tally.name)) c.as_slice-in-loop-step.result.now) shapes
    (tallies_there (state_shapes guests) c.args.steps.now guests c.loop-step.step-index _ (c.as_slice-in-loop-step.ensures ∙ c.loop-step.invariant.told))

pub next_tallies-requires-clause-room : goal.next_tallies-requires-clause-room
next_tallies-requires-clause-room c =
    let guests = c.args.states.now.items in
    tallies_room (state_shapes guests) c.args.steps.now guests c.loop-step.step-index _ _ (omega arith) (c.as_slice-in-loop-step.ensures ∙ c.loop-step.invariant.told)

pub loop-step-preserved : goal.loop-step-preserved
loop-step-preserved c =
    let guests = c.args.states.now.items in
    let n = c.loop-step.step-index in
    let now : c.do_step.new.states.items ≡ after_steps (take (n + 1) c.args.steps.now) guests =
    c.do_step.ensures.after ∙ ap (after_step _) c.loop-step.invariant.states ∙ sym (one_more_step c.args.steps.now guests n _ _ (omega arith) refl) in
    record {
      sound = c.do_step.ensures.sound;
      shapes = c.do_step.ensures.shapes ∙ c.loop-step.invariant.shapes;
      states = now;
      told =
          tallies_more (names_from 0 (state_shapes guests)) c.args.steps.now guests _ n _ _ (c.as_slice-in-loop-step.ensures ∙ c.loop-step.invariant.told) (c.as_slice-in-loop-step-2.ensures.value ∙ now)
          c.in_ok-tallies-2.ensures;
    }
