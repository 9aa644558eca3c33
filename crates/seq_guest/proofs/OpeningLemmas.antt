-- The vCPUs of a guest as it opens.
use Rattle.std.proofs.Common.{◌≡◌, ◌⊎◌, ℕ, ◌<◌, IsTrue, List, [], ◌∷◌, ◌++◌, ◌+◌, length, zero, suc, Some, inl, inr, refl, sym, ap, subst, ◌∙◌, arith}
use Rattle.std.specs.Prelude.{slice_get}
use Rattle.std.proofs.lemmas.Bool.{lt-ltb}
use Rattle.std.proofs.lemmas.List.{length_push}
use Rattle.std.proofs.lemmas.Option.{slice_get_within}
use Rattle.atomic_table.specs.Seated.{TableId}
use Rattle.guest_end.specs.IdealGuests.declared.guest.IdealGuest.{IdealGuest}
use Rattle.pe_place.specs.Core.{actor_count, Local, Seat, seat_at, opening_seat, is_settled}
use Rattle.port_seq.proofs.PortCore.OpeningLemmas.{seat_opens}
use Rattle.pe_place.specs.PeLoop.Stay.{IsOff}
use Rattle.port_seq.specs.Told.{GuestTold, opening_told, seen_of, state_of}
use Rattle.pe_place.specs.declared.place.Place.{Place}
use Rattle.pe_place.specs.declared.place.Place.TheVariants.{Shelf}
use Rattle.seq_guest.specs.declared.vcpus.Vcpus.{Vcpus}
use Rattle.pe_place.specs.Place.{IsAt, HasRegisters}
use Rattle.seq_guest.specs.Guest.{seen_by, AreAt}

-- where each vCPU is then
abbrev pub opened_place : GuestTold → ℕ → ℕ → Place
opened_place told guest vcpu = Shelf (record { guest = guest; vcpu = vcpu; cpu = (seen_by told vcpu).local.cpu; next = 0 })

pub record AreOpened (told : GuestTold) (guest : ℕ) (places : List Place) : Type 0 where
  pub each : (vcpu : ℕ) (place : Place) → slice_get places vcpu ≡ Some place → place ≡ opened_place told guest vcpu

-- one more

push_get : {A : Type 0} (xs : List A) (x : A) (i : ℕ) (y : A) → slice_get (xs ++ x ∷ []) i ≡ Some y → (slice_get xs i ≡ Some y) ⊎ ((i ≡ length xs) × (y ≡ x))
push_get [] x zero y e = inr (refl, cc)
push_get [] x (suc i) y e = absurd (cc)
push_get (z ∷ xs) x zero y e = inl e
push_get (z ∷ xs) x (suc i) y e = elim (push_get xs x i y e) [
  | inl before ↦ inl before
  | inr last ↦ inr (ap suc last.0, last.1)
]

pub opened_none : (told : GuestTold) (guest : ℕ) → AreOpened told guest []
opened_none told guest = record { each = λ vcpu place e. absurd (cc) }

opened_more : (told : GuestTold) (guest : ℕ) (places : List Place) (place : Place) → place ≡ opened_place told guest (length places) → AreOpened told guest places → AreOpened told guest (places ++ place ∷ [])
opened_more told guest places place is so =
    record {
      each = λ vcpu one e.
          elim (push_get places place vcpu one e) [
            | inl before ↦ so.each vcpu one before
            | inr last ↦ last.1 ∙ is ∙ ap (opened_place told guest) (sym last.0)
          ];
    }

-- the next vCPU is told, and its place is kept
pub record IsNext (told new : GuestTold) (guest vcpu : ℕ) (places : List Place) : Type 0 where
  pub same : new ≡ record told { actor = new.actor }
  pub opened : AreOpened told guest places
  pub each : length places ≡ vcpu + 1

pub opened_next :
    (told mid new : GuestTold) (guest vcpu : ℕ) (places next : List Place) (local : Local) → mid ≡ record told { actor = mid.actor } → AreOpened told guest places → length places ≡ vcpu
    → new ≡ record mid { actor = vcpu } → local ≡ (seen_of new).local → next ≡ places ++ Shelf (record { guest = guest; vcpu = vcpu; cpu = local.cpu; next = 0 }) ∷ [] → IsNext told new guest vcpu next
opened_next told mid new guest vcpu places next local before so each is own more =
    let now : new ≡ record told { actor = vcpu } = is ∙ ap (λ (t : GuestTold). record t { actor = vcpu }) before in
    let cpu : local.cpu ≡ (seen_by told vcpu).local.cpu = ap (λ (l : Local). l.cpu) own ∙ ap (λ (t : GuestTold). (seen_of t).local.cpu) now in
    let place : Place = Shelf (record { guest = guest; vcpu = vcpu; cpu = local.cpu; next = 0 }) in
    let placed : place ≡ opened_place told guest (length places)
    = ap (λ cpu. Shelf (record { guest = guest; vcpu = vcpu; cpu = cpu; next = 0 })) cpu ∙ ap (opened_place told guest) (sym each) in
    record {
      same = now ∙ ap (λ actor. record told { actor = actor }) (sym (ap (λ (t : GuestTold). t.actor) now));
      opened = subst (AreOpened told guest) (sym more) (opened_more told guest places place placed so);
      each = ap length more ∙ length_push places place ∙ ap (λ n. n + 1) each;
    }

-- all

opens_seat : (home : TableId) (guest : IdealGuest) (number actor : ℕ) → actor < actor_count guest.shape → seat_at (state_of (opening_told home guest number)) actor ≡ opening_seat guest number actor
opens_seat home guest number actor there = seat_opens guest number actor there

opens_off : (home : TableId) (guest : IdealGuest) (number vcpu : ℕ) → vcpu < guest.shape.vcpus
    → IsOff (seen_by (opening_told home guest number) vcpu) (record { guest = number; vcpu = vcpu; cpu = (seen_by (opening_told home guest number) vcpu).local.cpu; next = 0 })
opens_off home guest number vcpu there =
    let seat = opens_seat home guest number vcpu (omega (arith, there)) in
    record {
      actor = record { guest = refl; number = refl; is_one = lt-ltb vcpu guest.shape.vcpus there };
      cpu = refl;
      empty = ap (λ (seat : Seat). seat.local.at) seat;
      settled = ap (λ (seat : Seat). is_settled seat.local) seat;
    }

pub opens_at : (told : GuestTold) (number : ℕ) (vcpus : Vcpus) → told ≡ opening_told told.home told.guest number → AreOpened told number vcpus.places.items → length vcpus.places.items ≡ told.guest.shape.vcpus → AreAt told vcpus
opens_at told number vcpus is so each =
    let opened = opening_told told.home told.guest number in
    record {
      each = each;
      places = λ vcpu place e.
          let there : vcpu < told.guest.shape.vcpus = subst (λ n. vcpu < n) each (slice_get_within vcpus.places.items vcpu place e) in
          let placed = so.each vcpu place e in (
            subst (IsAt (seen_by told vcpu)) (sym placed) (subst (λ (t : GuestTold). IsAt (seen_by t vcpu) (opened_place t number vcpu)) (sym is) (opens_off told.home told.guest number vcpu there)),
            subst (HasRegisters vcpus.lrs) (sym placed) tt,
          );
      devices = λ actor low high.
          subst (λ (t : GuestTold). IsTrue (is_settled (seen_by t actor).local)) (sym is) (ap (λ (seat : Seat). is_settled seat.local) (opens_seat told.home told.guest number actor high));
    }

-- whichever actor is told
pub at_told : (one other : GuestTold) (vcpus : Vcpus) → other ≡ record one { actor = other.actor } → AreAt one vcpus → AreAt other vcpus
at_told one other vcpus e at = subst (λ (t : GuestTold). AreAt t vcpus) (sym e) (record { each = at.each; places = at.places; devices = at.devices })
