-- What is saved of a scenario has a state for each guest.
use Rattle.std.proofs.Common.{◌≡◌, ℕ, suc, ◌+◌, List, [], ◌∷◌, length, map, take, refl, sym, ap, ◌∙◌, arith}
use Rattle.std.proofs.lemmas.List.{length-map}
use Rattle.run_seq.specs.Calls.{GuestSpec}
use Rattle.run_seq.specs.GicIdeal.IdealGuests.declared.guest.IdealGuest.{IdealGuest}
use Rattle.run_seq.specs.GicIdeal.IdealGuests.Opening.{opening}
use Rattle.run_seq.specs.GicIdeal.Eager.{after_steps}
use Rattle.run_seq.specs.GicIdeal.ScnBase.declared.scenario.Scenario.{Scenario}
use Rattle.run_seq.specs.GicIdeal.ScnBase.declared.standing.Standing.{Standing}
use Rattle.run_seq.specs.GicIdeal.ScnBase.declared.step.Step.{Step}
use Rattle.eager_rest.specs.LawSavesGoOn.SavedTake.Taken.{all_taken, saved_of, standing_at}
use Rattle.eager_rest.specs.LawSavesGoOn.Resume.{reached}
use Rattle.eager_rest.proofs.LawSavesGoOn.ShapeLemmas.{shapes_steps}

many_after : (steps : List Step) (states : List IdealGuest) → length (after_steps steps states) ≡ length states
many_after steps states =
    sym (length-map (after_steps steps states) (λ (state : IdealGuest). state.shape)) ∙ ap length (shapes_steps steps states) ∙ length-map states (λ (state : IdealGuest). state.shape)

all_each : (standing : Standing) (number : ℕ) (guests : List GuestSpec) (states : List IdealGuest) → length states ≡ length guests → length (all_taken standing number guests states) ≡ length guests
all_each standing number [] states many = refl
all_each standing number (guest ∷ guests) [] many = absurd (omega (arith, many))
all_each standing number (guest ∷ guests) (state ∷ states) many = ap (λ k. suc k) (all_each standing (number + 1) guests states (omega (arith, many)))

pub saved_each : (scenario : Scenario) (done : ℕ) → length (saved_of scenario done (reached scenario done)).state ≡ length (saved_of scenario done (reached scenario done)).scenario.guests
saved_each scenario done =
    all_each (standing_at scenario done) 0 scenario.guests (reached scenario done) (many_after (take done scenario.steps) (map opening scenario.guests) ∙ length-map scenario.guests opening)
