-- What the actors of a guest have for themselves, as one of them acts.
use Rattle.std.proofs.Common.{◌≡◌, ◌≢◌, ◌⊎◌, ℕ, ◌<◌, List, [], ◌∷◌, ◌++◌, map, length, set, get_or, Some, inl, inr, refl, sym, ap, subst, ◌∙◌}
use Rattle.std.specs.Prelude.{slice_get}
use Rattle.std.proofs.lemmas.Bool.{cases_eq}
use Rattle.std.proofs.lemmas.List.{get_or-set_same, get_or-set_other, length-set}
use Rattle.std.proofs.lemmas.Option.{slice_get_within, slice_get-get_or, get_or_from_slice_get}
use Rattle.guest_end.specs.Words.{GuestShape}
use Rattle.guest_end.specs.IdealGuests.declared.guest.IdealGuest.{IdealGuest}
use Rattle.pe_place.specs.Core.{Made, Seen, Adds, CoreState, Seat, no_seat, seat_at, after, end_of, opening, entry_by}
use Rattle.port_seq.proofs.PortCore.RunLemmas.{runs_joined}
use Rattle.port_seq.specs.Told.{GuestTold, seen_of, state_of}
use Rattle.seq_guest.specs.Guest.{seen_by, IsSameGuest}
use Rattle.pe_place.proofs.FrameLemmas.{IsSame}

-- What an actor did leaves the others as they were.

pub seat_stays : (shape : GuestShape) (state : CoreState) (actor other : ℕ) (steps : List Made) → other ≢ actor → seat_at (end_of shape state (map (entry_by actor) steps)) other ≡ seat_at state other
seat_stays shape state actor other [] apart = refl
seat_stays shape state actor other (made ∷ steps) apart =
    seat_stays shape (after shape state (entry_by actor made)) actor other steps apart ∙ get_or-set_other state.seats actor other _ no_seat apart

-- what is told after it
pub record IsLater (old new : GuestTold) (steps : List Made) : Type 0 where
  pub same : IsSameGuest old new
  pub actor : new.actor ≡ old.actor
  pub world : new.world ≡ old.world ++ map (entry_by old.actor) steps

pub some_is : {A : Type 0} (a b : A) → Some a ≡ Some b → a ≡ b
some_is a b e = cc

pub is_later : (old new : GuestTold) (steps : List Made) → Adds (seen_of old) (seen_of new) steps → IsLater old new steps
is_later old new steps adds =
    let e = adds.new_is in
    record {
      same = record { home = ap (λ (seen : Seen). seen.home) e; guest = ap (λ (seen : Seen). seen.guest) e; number = ap (λ (seen : Seen). seen.number) e };
      actor = ap (λ (seen : Seen). seen.actor) e;
      world = some_is new.world (old.world ++ map (entry_by old.actor) steps) (ap (λ (seen : Seen). seen.world) e);
    }

pub later_state : (old new : GuestTold) (steps : List Made) → IsLater old new steps → state_of new ≡ end_of old.guest.shape (state_of old) (map (entry_by old.actor) steps)
later_state old new steps later =
    ap (λ (guest : IdealGuest). end_of guest.shape (opening guest new.number) new.world) later.same.guest
    ∙ ap (λ number. end_of old.guest.shape (opening old.guest number) new.world) later.same.number
    ∙ ap (end_of old.guest.shape (opening old.guest old.number)) later.world
    ∙ runs_joined.end old.guest.shape (opening old.guest old.number) old.world (map (entry_by old.actor) steps)

pub other_seat : (old new : GuestTold) (steps : List Made) (other : ℕ) → other ≢ old.actor → IsLater old new steps → seat_at (state_of new) other ≡ seat_at (state_of old) other
other_seat old new steps other apart later = ap (λ state. seat_at state other) (later_state old new steps later) ∙ seat_stays old.guest.shape (state_of old) old.actor other steps apart

pub other_same : (old new : GuestTold) (steps : List Made) (other : ℕ) → other ≢ old.actor → IsLater old new steps → IsSame (seen_by old other) (seen_by new other)
other_same old new steps other apart later =
    record { number = later.same.number; guest = later.same.guest; actor = refl; local = ap (λ (seat : Seat). seat.local) (other_seat old new steps other apart later) }

-- One place of a list.

pub set_get : {A : Type 0} (xs : List A) (i j : ℕ) (y z : A) → slice_get (set xs i y) j ≡ Some z → ((j ≡ i) × (z ≡ y)) ⊎ ((j ≢ i) × (slice_get xs j ≡ Some z))
set_get xs i j y z e =
    let within : j < length xs = subst (λ n. j < n) (length-set xs i y) (slice_get_within (set xs i y) j z e) in
    let is : get_or (set xs i y) j z ≡ z = get_or_from_slice_get (set xs i y) j z z e in
    elim (cases_eq j i) [
      | inl same ↦ inl (same, sym is ∙ ap (λ n. get_or (set xs i y) n z) same ∙ get_or-set_same xs i y z (subst (λ n. n < length xs) same within))
      | inr differ ↦ inr (differ, slice_get-get_or xs j z within ∙ ap Some (sym (get_or-set_other xs i j y z differ) ∙ is))
    ]
