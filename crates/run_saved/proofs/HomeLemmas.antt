-- The guests of a run that is broken off, as they are saved.
use Rattle.std.proofs.Common.{◌≡◌, ℕ, ◌+◌, List, [], ◌∷◌, map, drop, refl, ap, ◌∙◌}
use Rattle.run_seq.specs.Calls.{GuestSpec}
use Rattle.run_seq.specs.LawEndsAgree.Core.{GuestWords}
use Rattle.run_seq.specs.LawEndsAgree.Registers.{CpuRec}
use Rattle.run_seq.specs.LawEndsAgree.End.{without_past_fault}
use Rattle.run_seq.specs.LawEndsAgree.GuestEnd.Ends.{AllEndAt, guests_of}
use Rattle.run_seq.specs.GicIdeal.IdealGuests.declared.guest.IdealGuest.{IdealGuest}
use Rattle.run_seq.specs.GicIdeal.ScnBase.declared.scenario.Scenario.{Scenario}
use Rattle.run_seq.specs.GicIdeal.ScnBase.declared.standing.Standing.{Standing}
use Rattle.eager_rest.specs.LawSavesGoOn.SavedTake.Run.{AreStatesOf}
use Rattle.eager_rest.specs.LawSavesGoOn.SavedTake.Taken.{all_taken, saved_of, standing_at, taken_of, wires_at}
use Rattle.eager_rest.proofs.LawSavesGoOn.AlikeLemmas.{alike_are_saved_alike}
use Rattle.eager_rest.proofs.LawSavesGoOn.ResumeLemmas.{past_alike}

-- each is sound, and of its guest's shape
pub ended_states : (guests : List GuestSpec) (words : List GuestWords) (cpus : List CpuRec) (ideals : List IdealGuest) → AllEndAt guests words cpus ideals → AreStatesOf guests (guests_of guests words cpus)
ended_states [] [] cpus [] all = tt
ended_states [] [] cpus (ideal ∷ ideals) all = absurd all
ended_states [] (one ∷ words) cpus [] all = absurd all
ended_states [] (one ∷ words) cpus (ideal ∷ ideals) all = absurd all
ended_states (guest ∷ guests) [] cpus [] all = absurd all
ended_states (guest ∷ guests) [] cpus (ideal ∷ ideals) all = absurd all
ended_states (guest ∷ guests) (one ∷ words) cpus [] all = absurd all
ended_states (guest ∷ guests) (one ∷ words) cpus (ideal ∷ ideals) all =
    (record { sound = all.0.ended.sound; shape = refl }, ended_states guests words (drop guest.shape.vcpus cpus) ideals all.1)

-- the number of a past fault is not saved
same_taken : (standing : Standing) (number : ℕ) (guests : List GuestSpec) (states : List IdealGuest) → all_taken standing number guests (map without_past_fault states) ≡ all_taken standing number guests states
same_taken standing number [] states = refl
same_taken standing number (guest ∷ guests) [] = refl
same_taken standing number (guest ∷ guests) (state ∷ states) =
    ap (λ one. one ∷ all_taken standing (number + 1) guests (map without_past_fault states)) (alike_are_saved_alike guest (wires_at standing number) (without_past_fault state) state (past_alike state))
    ∙ ap (λ rest. taken_of guest (wires_at standing number) state ∷ rest) (same_taken standing (number + 1) guests states)

pub same_saved : (scenario : Scenario) (done : ℕ) (states : List IdealGuest) → saved_of scenario done (map without_past_fault states) ≡ saved_of scenario done states
same_saved scenario done states = ap (λ list. record (saved_of scenario done states) { state = list }) (same_taken (standing_at scenario done) 0 scenario.guests states)
