-- What an image tells, of a value, of bytes and of a machine.
use Rattle.std.proofs.Common.{◌≡◌, inl, inr, All, List, [], ◌∷◌, Option, Some, None, slice_index_or, sym, subst, ◌∙◌}
use Rattle.std.proofs.lemmas.List.Elements.{All-head}
use Rattle.std.proofs.lemmas.Option.{same_Some}
use Rattle.serde_json.specs.Data.{Data}
use Rattle.gic_vm.specs.GuestMemory.declared.base.Bases.{Bases}
use Rattle.saved_take.specs.SavedGuest.IdealGuests.Words.{GuestShape}
use Rattle.saved_take.specs.SavedGuest.IdealGuests.Calls.{GuestSpec, IsGoodGuest}
use Rattle.saved_take.specs.SavedGuest.IdealGuests.Sound.{IsSound}
use Rattle.saved_take.specs.SavedGuest.IdealGuests.declared.guest.IdealGuest.{IdealGuest}
use Rattle.saved_take.specs.SavedGuest.ScnSaved.declared.saved.Saved.{Saved}
use Rattle.saved_take.specs.SavedGuest.ScnSaved.declared.state.GuestState.{GuestState}
use Rattle.saved_take.specs.SavedGuest.Whole.{AreValidStates, IsValidSaved}
use Rattle.saved_take.specs.SavedGuest.State.{state_of}
use Rattle.saved_take.specs.SavedGuest.Valid.{IsValidState}
use Rattle.saved_take.proofs.SavedGuest.LawLemmas.{valid_states_can_open}
use Rattle.vm_saved.specs.declared.restoring.NotRestored.{NotRestored}
use Rattle.vm_saved.specs.declared.restoring.NotRestored.TheVariants.{NoJson, NoImage, Other, NoMemory}
use Rattle.gic_vm.specs.State.{after_reset}
use Rattle.vm_saved.specs.Reading.{bases_at, image_at, IsAlone, TellsGuest, Tells, IsNoMachine, of_no_shape, of_image}
use Rattle.vm_saved.specs.Calls.{RefusesImage, RefusesValue}

-- the guest of a valid state is one that the ideal controller reaches
pub sound_told : (spec : GuestSpec) (state : GuestState) (guest : IdealGuest) → IsGoodGuest spec → IsValidState spec state → guest ≡ state_of spec state → IsSound guest
sound_told spec state guest good valid is = subst IsSound (sym is) (valid_states_can_open spec state good valid).sound

-- the same of the guest of a valid run that has it alone
pub alone_sound : (saved : Saved) (shape : GuestShape) (spec : GuestSpec) (state : GuestState) (guest : IdealGuest) → IsValidSaved saved → IsAlone shape saved → spec ≡ after_reset shape → state ≡ slice_index_or saved.state 0 state → guest ≡ state_of spec state → IsSound guest
alone_sound saved shape spec state guest valid alone spec_is first is =
    sound_told spec state guest (subst IsGoodGuest (sym spec_is) (All-head IsGoodGuest (after_reset shape) [] (subst (All IsGoodGuest) alone.guests valid.run.each_guest)))
    (subst (λ (s : GuestSpec). IsValidState s state) (sym spec_is) (valid_first saved.state (subst (λ guests. AreValidStates guests saved.state) alone.guests valid.run.states) first)) is
  where
    valid_first : (states : List GuestState) → AreValidStates (after_reset shape ∷ []) states → state ≡ slice_index_or states 0 state → IsValidState (after_reset shape) state
    valid_first [] none first = absurd none
    valid_first (one ∷ states) all first = subst (IsValidState (after_reset shape)) (sym first) all.0

-- a value without an image or without registers is none
pub no_image : (d : Data) → None ≡ image_at d → IsNoMachine d (record { code = 1; step = 0 })
no_image d none = of_no_shape (inl (sym none))

pub no_registers : (d : Data) (found : Option Bases) → found ≡ bases_at d → found ≡ None → IsNoMachine d (record { code = 1; step = 0 })
no_registers d found is none = of_no_shape (inr (sym is ∙ none))

-- what refuses the image refuses the value
pub image_refuses : (d image : Data) (shape : GuestShape) (refusal : NotRestored) → Some image ≡ image_at d → RefusesImage image shape refusal → RefusesValue d shape refusal
image_refuses d image shape NoJson is refuses = refuses
image_refuses d image shape (NoImage fault) is refuses = of_image image fault (sym is) refuses
image_refuses d image shape Other is refuses = record { image = image; image_is = sym is; saved = refuses.0; is_image = refuses.1; other = refuses.2 }
image_refuses d image shape NoMemory is refuses = tt

-- the image that a value has is this one
tells_image : (d image : Data) (shape : GuestShape) (guest : IdealGuest) (bases : Bases) → Some image ≡ image_at d → Tells d shape guest bases → TellsGuest image shape guest
tells_image d image shape guest bases is tells = subst (λ text. TellsGuest text shape guest) (sym (same_Some image tells.image (is ∙ tells.image_is))) tells.tells

pub refused_only : (d image : Data) (shape : GuestShape) (refusal : NotRestored) → Some image ≡ image_at d → ((guest : IdealGuest) → TellsGuest image shape guest → refusal ≡ NoMemory) → (guest : IdealGuest) (bases : Bases) → Tells d shape guest bases → refusal ≡ NoMemory
refused_only d image shape refusal is only guest bases tells = only guest (tells_image d image shape guest bases is tells)

pub told_only : (d image : Data) (shape : GuestShape) (found : Option Bases) (told : IdealGuest) (kept : Bases) → Some image ≡ image_at d → found ≡ bases_at d → found ≡ Some kept → ((guest : IdealGuest) → TellsGuest image shape guest → told ≡ guest)
    → (guest : IdealGuest) (bases : Bases) → Tells d shape guest bases → (told ≡ guest) × (kept ≡ bases)
told_only d image shape found told kept is there held only guest bases tells =
    (only guest (tells_image d image shape guest bases is tells), same_Some kept bases (sym held ∙ there ∙ tells.bases_are))
