-- Between two steps of a schedule each vCPU is at ease.
use Rattle.std.proofs.Common.{◌≡◌, ℕ, ◌<◌, arith, inl, inr, false, IsTrue, Some, length, refl, sym, ap, ◌∙◌, subst}
use Rattle.std.specs.Prelude.{slice_get}
use Rattle.std.specs.Option.{option_map_or}
use Rattle.std.proofs.lemmas.Option.{slice_get_cases}
use Rattle.law_found_parts_are_calls.specs.Core.{Phase, Off, Scanning, Claiming, Loaded as LoadedPhase, Folding, is_ready, Progress, is_paid, is_empty}
use Rattle.law_found_parts_are_calls.specs.LawCoreIsHistory.Related.{is_folding}
use Rattle.law_found_parts_are_calls.specs.LawLoneAccessesFindAll.Lone.{IsAtEase}
use Rattle.seq_guest.specs.PortSeq.Told.{GuestTold, state_of}
use Rattle.seq_guest.specs.PePlace.declared.place.Place.{Place}
use Rattle.seq_guest.specs.PePlace.declared.place.Place.TheVariants.{Shelf, Aside, Pe}
use Rattle.seq_guest.specs.declared.vcpus.Vcpus.{Vcpus}
use Rattle.seq_guest.specs.PePlace.Place.{IsAt, IsFollowed, shelf, spot_of}
use Rattle.seq_guest.specs.Guest.{seen_by, AreAt, AreFollowed, NoneKicked}

not_folding : (phase : Phase) → IsTrue (is_ready phase) → is_folding phase ≡ false
not_folding Off h = absurd (cc)
not_folding Scanning h = absurd (cc)
not_folding Claiming h = refl
not_folding LoadedPhase h = refl
not_folding Folding h = absurd (cc)

-- where it is on no PE, nothing is at its interface
at_place : (told : GuestTold) (vcpus : Vcpus) (vcpu : ℕ) (place : Place) (p : Progress) → slice_get vcpus.places.items vcpu ≡ Some place → NoneKicked told vcpus → IsAt (seen_by told vcpu) place → IsFollowed (seen_by told vcpu) place p → IsAtEase told.guest.shape (state_of told) vcpu p
at_place told vcpus vcpu (Shelf shelved) p has quiet at so = inl (ap is_empty (ap (λ local. local.at) so.rest.local ∙ at.empty))
at_place told vcpus vcpu (Aside shelved) p has quiet at so = inl (ap is_empty (ap (λ local. local.at) so.rest.local ∙ at.empty))
at_place told vcpus vcpu (Pe loaded) p has quiet at so =
    inr (record {
      unkicked = quiet.each vcpu (ap (λ o. option_map_or spot_of o shelf) has);
      stays = ap (λ local. is_folding local.phase) so.rest.local ∙ not_folding (seen_by told vcpu).local.phase at.ready;
      paid = ap is_paid so.debt;
    })

-- there is a place for each
pub record IsPlaced (vcpus : Vcpus) (vcpu : ℕ) : Type 0 where
  pub place : Place
  pub is : slice_get vcpus.places.items vcpu ≡ Some place

pub placed : (vcpus : Vcpus) (vcpu : ℕ) → vcpu < length vcpus.places.items → IsPlaced vcpus vcpu
placed vcpus vcpu there = elim ((slice_get_cases vcpus.places.items vcpu).1) [
  | inl has ↦ record { place = has.0; is = has.2 }
  | inr past ↦ absurd (omega (arith, there, past.0))
]

pub all_at_ease : (told : GuestTold) (vcpus : Vcpus) (progress : ℕ → Progress) → AreAt told vcpus → AreFollowed told vcpus progress → NoneKicked told vcpus → (vcpu : ℕ) → vcpu < told.guest.shape.vcpus → IsAtEase told.guest.shape (state_of told) vcpu (progress vcpu)
all_at_ease told vcpus progress at so quiet vcpu there =
    let has = placed vcpus vcpu (subst (λ n. vcpu < n) (sym at.each) there) in
    at_place told vcpus vcpu has.place (progress vcpu) has.is quiet (at.places vcpu has.place has.is).0 (so.places vcpu has.place has.is)
