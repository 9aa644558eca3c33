-- The guests that a valid saved run tells.
use Rattle.std.proofs.Common.{◌≡◌, ℕ, zero, suc, IsTrue, All, List, [], ◌∷◌, ◌++◌, length, take, Some, refl, ap, ◌∙◌, sym, subst}
use Rattle.std.specs.Prelude.{slice_get}
use Rattle.std.proofs.lemmas.List.Elements.{All-nil, All-cons, All-head, All-tail}
use Rattle.gic_ideal.specs.Eager.{state_shapes}
use Rattle.gic_ideal.specs.IdealGuests.Calls.{GuestSpec, IsGoodGuest, shapes_of}
use Rattle.gic_ideal.specs.IdealGuests.CanOpen.{CanOpen}
use Rattle.gic_ideal.specs.IdealGuests.Sound.{IsSound}
use Rattle.gic_ideal.specs.IdealGuests.declared.guest.IdealGuest.{IdealGuest}
use Rattle.scn_base.specs.Good.{is_formed}
use Rattle.scn_base.specs.declared.step.Mode.TheVariants.{Schedule}
use Rattle.saved_check.proofs.SavedGuest.LawLemmas.{valid_states_can_open}
use Rattle.saved_check.specs.SavedGuest.ScnSaved.declared.saved.Saved.{Saved}
use Rattle.saved_check.specs.SavedGuest.ScnSaved.declared.state.GuestState.{GuestState}
use Rattle.saved_check.specs.SavedGuest.State.{state_of}
use Rattle.saved_check.specs.SavedGuest.Valid.{IsValidState}
use Rattle.saved_check.specs.SavedGuest.Whole.{AreValidStates, IsValidSaved}
use Rattle.law_saves_go_on.specs.Resume.{states_of}

pub as_many : (guests : List GuestSpec) (states : List GuestState) → AreValidStates guests states → length (states_of guests states) ≡ length guests
as_many [] [] valid = refl
as_many [] (state ∷ states) valid = absurd valid
as_many (guest ∷ guests) [] valid = absurd valid
as_many (guest ∷ guests) (state ∷ states) valid = ap suc (as_many guests states valid.1)

pub same_shapes : (guests : List GuestSpec) (states : List GuestState) → AreValidStates guests states → state_shapes (states_of guests states) ≡ shapes_of guests
same_shapes [] [] valid = refl
same_shapes [] (state ∷ states) valid = absurd valid
same_shapes (guest ∷ guests) [] valid = absurd valid
same_shapes (guest ∷ guests) (state ∷ states) valid = ap (λ shapes. guest.shape ∷ shapes) (same_shapes guests states valid.1)

pub all_can_open : (guests : List GuestSpec) (states : List GuestState) → All IsGoodGuest guests → AreValidStates guests states → All CanOpen (states_of guests states)
all_can_open [] [] good valid = All-nil CanOpen
all_can_open [] (state ∷ states) good valid = absurd valid
all_can_open (guest ∷ guests) [] good valid = absurd valid
all_can_open (guest ∷ guests) (state ∷ states) good valid =
    All-cons CanOpen (state_of guest state) (states_of guests states) (valid_states_can_open guest state (All-head IsGoodGuest guest guests good) valid.0)
    (all_can_open guests states (All-tail IsGoodGuest guest guests good) valid.1)

pub all_sound : (states : List IdealGuest) → All CanOpen states → All IsSound states
all_sound [] can = All-nil IsSound
all_sound (state ∷ states) can = let first : CanOpen state = All-head CanOpen state states can in All-cons IsSound state states first.sound (all_sound states (All-tail CanOpen state states can))

pub same_count : (guests : List GuestSpec) (states : List GuestState) → AreValidStates guests states → length states ≡ length guests
same_count [] [] valid = refl
same_count [] (state ∷ states) valid = absurd valid
same_count (guest ∷ guests) [] valid = absurd valid
same_count (guest ∷ guests) (state ∷ states) valid = ap suc (same_count guests states valid.1)

-- what the run of a valid saved run asks of the guests that are told
pub told_sound : (saved : Saved) → IsValidSaved saved → All IsSound (states_of saved.scenario.guests saved.state)
told_sound saved valid = all_sound (states_of saved.scenario.guests saved.state) (all_can_open saved.scenario.guests saved.state valid.run.each_guest valid.run.states)

pub told_formed : (saved : Saved) → IsValidSaved saved → All (λ step. IsTrue (is_formed Schedule (length saved.on_pe) (shapes_of saved.scenario.guests) step)) saved.scenario.steps
told_formed saved valid = subst (λ n. All (λ step. IsTrue (is_formed Schedule n (shapes_of saved.scenario.guests) step)) saved.scenario.steps) (sym valid.run.each_pe) valid.each_step

-- One after the other.

pub valid_at : (guests : List GuestSpec) (states : List GuestState) (number : ℕ) (guest : GuestSpec) (state : GuestState) → AreValidStates guests states → slice_get guests number ≡ Some guest → slice_get states number ≡ Some state → IsValidState guest state
valid_at [] states number guest state valid a b = absurd (cc)
valid_at (one ∷ guests) [] number guest state valid a b = absurd (cc)
valid_at (one ∷ guests) (first ∷ states) zero guest state valid a b = let same : one ≡ guest = cc in let told : first ≡ state = cc in subst (λ one. IsValidState one state) same (subst (IsValidState one) told valid.0)
valid_at (one ∷ guests) (first ∷ states) (suc number) guest state valid a b = valid_at guests states number guest state valid.1 a b

pub told_more : (guests : List GuestSpec) (states : List GuestState) (number : ℕ) (guest : GuestSpec) (state : GuestState) → slice_get guests number ≡ Some guest → slice_get states number ≡ Some state
    → states_of (take (suc number) guests) (take (suc number) states) ≡ states_of (take number guests) (take number states) ++ state_of guest state ∷ []
told_more [] states number guest state a b = absurd (cc)
told_more (one ∷ guests) [] number guest state a b = absurd (cc)
told_more (one ∷ guests) (first ∷ states) zero guest state a b = let same : one ≡ guest = cc in let told : first ≡ state = cc in ap (λ one. state_of one first ∷ []) same ∙ ap (λ first. state_of guest first ∷ []) told
told_more (one ∷ guests) (first ∷ states) (suc number) guest state a b = ap (λ rest. state_of one first ∷ rest) (told_more guests states number guest state a b)
