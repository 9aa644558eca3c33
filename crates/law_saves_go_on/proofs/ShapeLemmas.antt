-- The guests keep their shapes.
use Rattle.std.proofs.Common.{◌≡◌, List, [], ◌∷◌, map, refl, ◌∙◌}
use Rattle.law_runs_split.specs.GicIdeal.ScnBase.declared.step.Step.{Step}
use Rattle.law_runs_split.specs.GicIdeal.IdealGuests.Calls.{GuestSpec, shapes_of}
use Rattle.law_runs_split.specs.GicIdeal.IdealGuests.declared.guest.IdealGuest.{IdealGuest}
use Rattle.law_runs_split.specs.GicIdeal.IdealGuests.Opening.{opening}
use Rattle.law_runs_split.specs.GicIdeal.Eager.{after_step, after_steps, state_shapes}
use Rattle.law_runs_split.proofs.GicIdeal.StateLemmas.{shapes_opening}
use Rattle.law_runs_split.proofs.GicIdeal.StepLemmas.{shapes_step}

pub shapes_steps : (steps : List Step) (states : List IdealGuest) → state_shapes (after_steps steps states) ≡ state_shapes states
shapes_steps [] states = refl
shapes_steps (step ∷ steps) states = shapes_steps steps (after_step step states) ∙ shapes_step step states

-- those with which they opened
pub shapes_reached : (steps : List Step) (guests : List GuestSpec) → state_shapes (after_steps steps (map opening guests)) ≡ shapes_of guests
shapes_reached steps guests = shapes_steps steps (map opening guests) ∙ shapes_opening guests
