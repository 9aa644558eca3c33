-- What is saved and resumed goes on as the run that was not broken off.
use Rattle.std.proofs.Common.{◌≡◌, Option, ℕ, ◌+◌, ◌++◌, Bool, true, false, if◌then◌else◌, IsTrue, All, List, [], ◌∷◌, map, take, drop, refl, sym, ap, subst, ◌∙◌}
use Rattle.std.specs.Prelude.{count_by}
use Rattle.std.specs.List.{slice_set}
use Rattle.std.proofs.lemmas.List.{set-set}
use Rattle.std.proofs.lemmas.List.Elements.{All-head, All-tail, All-take}
use Rattle.law_runs_split.specs.GicIdeal.ScnBase.declared.scenario.Scenario.{Scenario}
use Rattle.law_runs_split.specs.GicIdeal.ScnBase.declared.step.Mode.TheVariants.{Schedule}
use Rattle.law_runs_split.specs.GicIdeal.ScnBase.Good.{IsGood, is_formed}
use Rattle.law_runs_split.specs.GicIdeal.ScnBase.declared.pes.VcpuName.{VcpuName}
use Rattle.law_runs_split.specs.GicIdeal.ScnBase.declared.standing.Standing.{Standing}
use Rattle.law_runs_split.specs.GicIdeal.ScnBase.declared.step.Step.{Step}
use Rattle.law_runs_split.specs.GicIdeal.ScnBase.Standing.{standing_after, opening_standing}
use Rattle.law_runs_split.specs.GicIdeal.IdealGuests.declared.guest.IdealGuest.{IdealGuest}
use Rattle.law_runs_split.specs.GicIdeal.IdealGuests.Words.{GuestShape}
use Rattle.law_runs_split.specs.GicIdeal.IdealGuests.Calls.{GuestSpec, IsGoodGuest, shapes_of, its_from, ItsCtlr, Baser0, Baser1}
use Rattle.law_runs_split.specs.GicIdeal.IdealGuests.Opening.{opening}
use Rattle.law_runs_split.specs.GicIdeal.IdealGuests.Sound.{IsSound}
use Rattle.law_runs_split.specs.GicIdeal.Eager.{eager_from, state_shapes}
use Rattle.law_runs_split.specs.Split.{pes_after_steps}
use Rattle.law_runs_split.proofs.GicIdeal.StepLemmas.{runs_sound}
use Rattle.law_runs_split.specs.Faults.{AreAlike, IsAlike, AreAllAlike}
use Rattle.gic_report.specs.Text.{is_read}
use Rattle.gic_report.specs.Rest.{text_after}
use Rattle.saved_take.specs.SavedGuest.State.{state_of}
use Rattle.saved_take.specs.Taken.{taken_of, wires_at, all_taken, stands_after, standing_at}
use Rattle.saved_take.specs.Back.{IsStored, without_past_fault}
use Rattle.saved_take.proofs.BackLemmas.{states_tell_back}
use Rattle.law_saves_go_on.specs.GoOn.{first_lines}
use Rattle.law_saves_go_on.specs.Resume.{states_of, reached, SavedThenResumed}
use Rattle.law_saves_go_on.specs.Stored.{HoldsOwnBits}
use Rattle.law_saves_go_on.proofs.StoredLemmas.{states_hold_own_bits}
use Rattle.law_saves_go_on.proofs.ShapeLemmas.{shapes_reached}
use Rattle.law_saves_go_on.proofs.TextLemmas.{save_then_resume}

-- a state without the number of a past fault is as the state
words_alike : (shape : GuestShape) (b : Bool) (words : List ℕ) → AreAlike shape b (if b then words else slice_set words (its_from shape + 5) 0) words
words_alike shape true words = record { rest = refl; fault = λ e. refl }
words_alike shape false words = record { rest = set-set words (its_from shape + 5) 0 0; fault = λ e. absurd (cc) }

pub past_alike : (state : IdealGuest) → IsAlike (without_past_fault state) state
past_alike state = record { words = words_alike state.shape state.is_stalled state.words; same = refl }

-- a good guest is in a sound state, the registers of whose ITS hold what writes store
record IsSavable (guest : GuestSpec) (state : IdealGuest) : Type 0 where
  good : IsGoodGuest guest
  sound : IsSound state
  stored : IsStored state
  shape : state.shape ≡ guest.shape

abbrev AreSavable : List GuestSpec → List IdealGuest → Type 0
AreSavable [] [] = Unit {0}
AreSavable [] (state ∷ states) = ⊥
AreSavable (guest ∷ guests) [] = ⊥
AreSavable (guest ∷ guests) (state ∷ states) = IsSavable guest state × AreSavable guests states

pub stored_of : (state : IdealGuest) → HoldsOwnBits state → IsStored state
stored_of state own = record { ctlr = own.each ItsCtlr refl; baser0 = own.each Baser0 refl; baser1 = own.each Baser1 refl; none = own.none }

all_savable : (guests : List GuestSpec) (states : List IdealGuest) → All IsGoodGuest guests → All IsSound states → All HoldsOwnBits states → state_shapes states ≡ shapes_of guests → AreSavable guests states
all_savable [] [] good sound own shapes = tt
all_savable [] (state ∷ states) good sound own shapes = absurd (cc)
all_savable (guest ∷ guests) [] good sound own shapes = absurd (cc)
all_savable (guest ∷ guests) (state ∷ states) good sound own shapes = (
  record {
    good = All-head IsGoodGuest guest guests good;
    sound = All-head IsSound state states sound;
    stored = stored_of state (All-head HoldsOwnBits state states own);
    shape = cc;
  },
  all_savable guests states (All-tail IsGoodGuest guest guests good) (All-tail IsSound state states sound) (All-tail HoldsOwnBits state states own) (cc),
)

-- so are the guests of a scenario without a fault after some of its steps
reached_savable : (scenario : Scenario) (done : ℕ) → IsGood Schedule scenario → AreSavable scenario.guests (reached scenario done)
reached_savable scenario done good =
    let steps = take done scenario.steps in
    let formed = All-take (λ step. IsTrue (is_formed Schedule scenario.pes (shapes_of scenario.guests) step)) done scenario.steps good.each_step in
    all_savable scenario.guests (reached scenario done) good.each_guest (runs_sound Schedule scenario.pes scenario.guests steps good.each_guest formed) (states_hold_own_bits scenario.guests steps) (shapes_reached steps scenario.guests)

told_alike : (standing : Standing) (n : ℕ) (guests : List GuestSpec) (states : List IdealGuest) → AreSavable guests states → AreAllAlike (states_of guests (all_taken standing n guests states)) states
told_alike standing n [] [] savable = tt
told_alike standing n [] (state ∷ states) savable = absurd savable
told_alike standing n (guest ∷ guests) [] savable = absurd savable
told_alike standing n (guest ∷ guests) (state ∷ states) savable =
    let own = savable.0 in
    let told : state_of guest (taken_of guest (wires_at standing n) state) ≡ without_past_fault state = states_tell_back guest (wires_at standing n) state own.good own.sound own.stored own.shape in
    (subst (λ (x : IdealGuest). IsAlike x state) (sym told) (past_alike state), told_alike standing (n + 1) guests states savable.1)

pes_stand : (steps : List Step) (standing : Standing) → pes_after_steps steps standing.pes ≡ (stands_after steps standing).pes
pes_stand [] standing = refl
pes_stand (step ∷ steps) standing = pes_stand steps (standing_after step standing)

pub saved_then_resumed : SavedThenResumed
saved_then_resumed scenario done good few =
    let standing = standing_at scenario done in
    let told = states_of scenario.guests (all_taken standing 0 scenario.guests (reached scenario done)) in
    let first = take done scenario.steps in
    let rest = drop done scenario.steps in
    let pes = pes_stand first (opening_standing scenario.pes (shapes_of scenario.guests)) in
    save_then_resume scenario done told few (told_alike standing 0 scenario.guests (reached scenario done) (reached_savable scenario done good))
    ∙ ap (λ (on_pe : List (Option VcpuName)). first_lines scenario done ++ text_after done (count_by is_read first) rest (eager_from scenario.lrs on_pe rest (map opening scenario.guests) told)) pes
