-- The guests that are told are as the run asks.
use Rattle.std.proofs.Common.{All, ap, sym, subst, ◌∙◌}
use Rattle.gic_ideal.specs.Eager.{state_shapes}
use Rattle.gic_ideal.specs.IdealGuests.Calls.{shapes_of}
use Rattle.gic_ideal.specs.IdealGuests.Sound.{IsSound}
use Rattle.law_saves_go_on.specs.Resume.{states_of}
use Rattle.eager_rest.proofs.ToldLemmas.{same_shapes, told_sound}
use Rattle.eager_rest.proofs.rest.eager_saved.Goals as goal

pub eager_from-requires-clause-sound : goal.eager_from-requires-clause-sound
eager_from-requires-clause-sound c =
    subst (All IsSound) (sym (c.in_ok-states.ensures ∙ ap (λ guests. states_of guests c.as_slice.result.now) c.as_slice-guests.ensures ∙ ap (states_of c.args.saved.now.scenario.guests) c.as_slice.ensures))
    (told_sound c.args.saved.now c.requires.valid)

pub eager_from-requires-clause-shapes : goal.eager_from-requires-clause-shapes
eager_from-requires-clause-shapes c =
    ap state_shapes (c.in_ok-states.ensures ∙ ap (λ guests. states_of guests c.as_slice.result.now) c.as_slice-guests.ensures ∙ ap (states_of c.args.saved.now.scenario.guests) c.as_slice.ensures)
    ∙ same_shapes c.args.saved.now.scenario.guests c.args.saved.now.state c.requires.valid.run.states
    ∙ ap shapes_of (sym c.as_slice-guests.ensures)
