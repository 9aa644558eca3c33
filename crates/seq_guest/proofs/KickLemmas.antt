-- Kicks: a vCPU that looked at its own word, and found no kick there, is not kicked.
use Rattle.std.proofs.Common.{◌≡◌, ◌≢◌, ℕ, ◌+◌, ◌<◌, ◌||◌, Bool, true, false, List, [], ◌∷◌, ◌++◌, set, get_or, inl, inr, refl, sym, ap, subst, ◌∙◌, arith}
use Rattle.std.proofs.Math.Logic.{∥∥₁_elim}
use Rattle.std.proofs.Props.{props}
use Rattle.std.proofs.lemmas.Bool.{cases_eq, cases_lt}
use Rattle.std.proofs.lemmas.List.{set-get_or}
use Rattle.guest_end.specs.IdealGuests.declared.guest.IdealGuest.{IdealGuest}
use Rattle.pe_place.specs.Core.{Made, Look, Vcpu, word_after, vcpu_of, place_of_word, Seen, Adds, CoreState, IsRun, Takes, after, opening, seat_at, word_in, word_of, entry_by}
use Rattle.port_seq.proofs.PortCore.RunLemmas.{run_splits}
use Rattle.law_entries_are_plans.specs.LawRegistersStand.Asks.{IsUnkicked}
use Rattle.port_seq.specs.Told.{GuestTold, seen_of, state_of}
use Rattle.pe_place.specs.declared.place.Place.{Place}
use Rattle.pe_place.specs.declared.place.Place.TheVariants.{Shelf, Aside, Pe}
use Rattle.seq_guest.specs.declared.vcpus.Vcpus.{Vcpus}
use Rattle.pe_place.specs.Place.{shelf, aside, pe, spot_of}
use Rattle.pe_place.specs.Moves.{LooksForKick, WasNotKicked}
use Rattle.seq_guest.specs.Guest.{AreAt, IsSameGuest, NoneKicked, ChangesSpots, for_none, spot_at}
use Rattle.seq_guest.proofs.PlacesLemmas.{past_spot}
use Rattle.seq_guest.proofs.SeatLemmas.{IsLater, is_later, later_state, some_is}

-- A look changes no word, and finds the word as it is.

record LooksRight (old new : GuestTold) (made : Made) : Type 0 where
  words : (state_of new).words ≡ (state_of old).words
  found : made.found ≡ word_in new.guest.shape (state_of new) (Vcpu old.actor)

last_taken : (old new : GuestTold) (made : Made) → IsLater old new (made ∷ []) → IsRun new.guest.shape (opening new.guest new.number) new.world → Takes old.guest.shape (state_of old) (entry_by old.actor made)
last_taken old new made later run =
    let at : IsRun old.guest.shape (opening old.guest old.number) (old.world ++ entry_by old.actor made ∷ [])
    = subst (λ (guest : IdealGuest). IsRun guest.shape (opening guest old.number) (old.world ++ entry_by old.actor made ∷ [])) later.same.guest
    (subst (λ number. IsRun new.guest.shape (opening new.guest number) (old.world ++ entry_by old.actor made ∷ [])) later.same.number
    (subst (IsRun new.guest.shape (opening new.guest new.number)) later.world run)) in
    (run_splits old.guest.shape (opening old.guest old.number) old.world (entry_by old.actor made ∷ []) at).1.0

looks_right :
    (old new : GuestTold) (made : Made) → made.step ≡ Look (Vcpu old.actor) → Adds (seen_of old) (seen_of new) (made ∷ []) → IsRun new.guest.shape (opening new.guest new.number) new.world → LooksRight old new made
looks_right old new made is adds run =
    let later = is_later old new (made ∷ []) adds in
    let takes = last_taken old new made later run in
    let shape = old.guest.shape in
    let before = (state_of old).words in
    let place = place_of_word shape (Vcpu old.actor) in
    let left : made.left ≡ made.found = takes.left ∙ ap (λ step. word_after shape old.actor (seat_at (state_of old) old.actor).local step made.found) is in
    let found : made.found ≡ get_or before place 0 = takes.found ∙ ap (λ step. word_in shape (state_of old) (word_of shape old.actor step)) is in
    let words : (state_of new).words ≡ before
    = ap (λ (state : CoreState). state.words) (later_state old new (made ∷ []) later)
    ∙ ap (λ step. set before (place_of_word shape (word_of shape old.actor step)) made.left) is
    ∙ ap (set before place) (left ∙ found)
    ∙ set-get_or before place 0 in
    record {
      words = words;
      found =
          found
          ∙ ap (λ (words : List ℕ). get_or words place 0) (sym words)
          ∙ ap (λ (guest : IdealGuest). word_in guest.shape (state_of new) (Vcpu old.actor)) (sym later.same.guest);
    }

-- a vCPU that was not kicked: no word changed, and where it is on a PE, it is not kicked
pub record IsQuiet (old new : GuestTold) (after : Place) : Type 0 where
  pub words : (state_of new).words ≡ (state_of old).words
  pub unkicked : spot_of after ≡ pe → IsUnkicked new.guest.shape (state_of new) old.actor

same_state : (old new : GuestTold) → seen_of new ≡ seen_of old → state_of new ≡ state_of old
same_state old new is =
    let world = some_is new.world old.world (ap (λ (seen : Seen). seen.world) is) in
    ap (λ (guest : IdealGuest). state_of (record new { guest = guest })) (ap (λ (seen : Seen). seen.guest) is)
    ∙ ap (λ number. state_of (record new { guest = old.guest; number = number })) (ap (λ (seen : Seen). seen.number) is)
    ∙ ap (λ world. state_of (record new { guest = old.guest; number = old.number; world = world })) world

off_quiet : (old new : GuestTold) (after : Place) → seen_of new ≡ seen_of old → spot_of after ≢ pe → IsQuiet old new after
off_quiet old new after is off = record { words = ap (λ (state : CoreState). state.words) (same_state old new is); unkicked = λ on. absurd (off on) }

looked_quiet : (old new : GuestTold) (after : Place) → LooksForKick (seen_of old) (seen_of new) false → IsRun new.guest.shape (opening new.guest new.number) new.world → IsQuiet old new after
looked_quiet old new after looks run =
    let right = looks_right old new looks.look looks.step_is looks.adds run in
    record { words = right.words; unkicked = λ on. ap (λ word. (vcpu_of word).kick) (sym right.found) ∙ sym looks.kick }

quiet_of : (old new : GuestTold) (place after : Place) → WasNotKicked (seen_of old) (seen_of new) place after → IsRun new.guest.shape (opening new.guest new.number) new.world → IsQuiet old new after
quiet_of old new (Shelf vcpu) after was run = off_quiet old new after was.0 (λ on. absurd (shelf_off (sym (ap spot_of was.1) ∙ on)))
  where
    shelf_off : shelf ≡ pe → ⊥
    shelf_off e = cc
quiet_of old new (Aside vcpu) after was run = off_quiet old new after was.0 (λ on. absurd (aside_off (sym (ap spot_of was.1) ∙ on)))
  where
    aside_off : aside ≡ pe → ⊥
    aside_off e = cc
quiet_of old new (Pe vcpu) after was run = looked_quiet old new after was.0.looks run

pub was_quiet : (old new : GuestTold) (place after : Place) → WasNotKicked (seen_of old) (seen_of new) place after → ∥ IsRun new.guest.shape (opening new.guest new.number) new.world ∥₁ → IsQuiet old new after
was_quiet old new place after was run =
    record {
      words = ∥∥₁_elim run (Prim.hlevel props) (λ is. (quiet_of old new place after was is).words);
      unkicked = λ on. ∥∥₁_elim run (Prim.hlevel props) (λ is. (quiet_of old new place after was is).unkicked on);
    }

-- One vCPU after the other.

-- none of those below a number is kicked
pub record NoneBelow (bound : ℕ) (told : GuestTold) (vcpus : Vcpus) : Type 0 where
  pub each : (vcpu : ℕ) → vcpu < bound → spot_at vcpus vcpu ≡ pe → IsUnkicked told.guest.shape (state_of told) vcpu

pub none_first : (told : GuestTold) (vcpus : Vcpus) → NoneBelow 0 told vcpus
none_first told vcpus = record { each = λ vcpu below on. absurd (omega (arith, below)) }

still_unkicked :
    (old new : GuestTold) (vcpu : ℕ) → IsSameGuest old new → (state_of new).words ≡ (state_of old).words → IsUnkicked old.guest.shape (state_of old) vcpu → IsUnkicked new.guest.shape (state_of new) vcpu
still_unkicked old new vcpu same words unkicked =
    ap (λ (guest : IdealGuest). (vcpu_of (word_in guest.shape (state_of new) (Vcpu vcpu))).kick) same.guest
    ∙ ap (λ words. (vcpu_of (get_or words (place_of_word old.guest.shape (Vcpu vcpu)) 0)).kick) words
    ∙ unkicked

pub none_more :
    (old new : GuestTold) (a b : Vcpus) (vcpu : ℕ) → NoneBelow vcpu old a → IsSameGuest old new → ChangesSpots for_none a b → (state_of new).words ≡ (state_of old).words → (spot_at b vcpu ≡ pe → IsUnkicked new.guest.shape (state_of new) vcpu)
    → NoneBelow (vcpu + 1) new b
none_more old new a b vcpu none same spots words one =
    record {
      each = λ other below on.
          elim (cases_eq other vcpu) [
            | inl is ↦ subst (IsUnkicked new.guest.shape (state_of new)) (sym is) (one (subst (λ n. spot_at b n ≡ pe) is on))
            | inr apart ↦ still_unkicked old new other same words (none.each other (omega (arith, below, apart)) (sym (spots.spot other) ∙ on))
          ];
    }

pub none_all : (told : GuestTold) (vcpus : Vcpus) → AreAt told vcpus → NoneBelow told.guest.shape.vcpus told vcpus → NoneKicked told vcpus
none_all told vcpus at none =
    record {
      each = λ vcpu on.
          elim (cases_lt vcpu told.guest.shape.vcpus) [
            | inl below ↦ none.each vcpu below on
            | inr past ↦ absurd (shelf_off (sym (past_spot told vcpus vcpu at past) ∙ on))
          ];
    }
  where
    shelf_off : shelf ≡ pe → ⊥
    shelf_off e = cc

-- neither of two

pub neither : (a b : Bool) → (a || b) ≡ false → (a ≡ false) × (b ≡ false)
neither true b e = absurd (cc)
neither false b e = (refl, e)
