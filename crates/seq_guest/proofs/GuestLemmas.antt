-- The vCPUs and the devices of a guest, one after the other.
use Rattle.std.proofs.Common.{◌≡◌, ◌≢◌, ℕ, ◌+◌, ◌<◌, ◌≤◌, IsTrue, List, [], ◌∷◌, ◌++◌, map, length, set, get_or, nat_lt, All, if◌then◌else◌, Option, Some, None, inl, inr, append-nil, refl, sym, ap, subst, ◌∙◌, arith}
use Rattle.std.specs.Prelude.{slice_get}
use Rattle.std.proofs.lemmas.Bool.{both_ways, cases_eq, le-ltb, lt-ltb}
use Rattle.std.proofs.lemmas.List.{length-set, append_assoc}
use Rattle.std.proofs.lemmas.List.Elements.{All-nil, All-cons, All-head, All-tail, All-append}
use Rattle.std.proofs.lemmas.List.Sums.{fold-append}
use Rattle.std.proofs.lemmas.Grind.{flat_map-append}
use Rattle.std.proofs.lemmas.Option.{slice_get_within, slice_get_read}
use Rattle.guest_end.specs.Words.{DeviceOp, GuestShape}
use Rattle.guest_end.specs.Calls.{Operation, Device}
use Rattle.guest_end.specs.IdealGuests.declared.guest.IdealGuest.{IdealGuest}
use Rattle.pe_place.specs.Core.{Made, actor_count, Seen, Adds, seen_after, local_by, Seat, IsAtRest, entry_by, Progress, progressed, progress_of, IsProper, is_settled}
use Rattle.port_seq.proofs.PortCore.PortLemmas.{local_joins}
use Rattle.pe_place.proofs.CoreProper.PartLemmas.{proper_append}
use Rattle.pe_place.proofs.CoreProper.RestLemmas.{rests_again}
use Rattle.port_seq.specs.Told.{GuestTold, seen_of}
use Rattle.pe_place.specs.DevPort.Device.{CanCall}
use Rattle.pe_place.specs.Device.{DoesEvent}
use Rattle.law_entries_are_plans.specs.LawSerialIsEager.Serial.{WholePart}
use Rattle.pe_place.specs.declared.place.Place.{Place}
use Rattle.seq_guest.specs.declared.vcpus.Vcpus.{Vcpus}
use Rattle.pe_place.specs.Parts.{Part, by_actor, steps_in, acts_of, acts_in, entries_in, parts_by, progress_after, AreCalls, IsSent, IsSeatAfter, IsOfGuest, AreOneCall, AreResidences, HaveCall}
use Rattle.pe_place.specs.Place.{IsAt, IsFollowed, HasRegisters}
use Rattle.pe_place.specs.Moves.{Moves}
use Rattle.seq_guest.specs.Guest.{seen_by, AreAt, AreFollowed, IsSameGuest, GoesOn}
use Rattle.pe_place.proofs.FoundLemmas.{device_found}
use Rattle.pe_place.proofs.FrameLemmas.{at_same, followed_same, rest_same}
use Rattle.pe_place.proofs.KindLemmas.{residences_none, residences_join, call_one, call_last, call_before}
use Rattle.pe_place.proofs.MoveLemmas.{calls_join}
use Rattle.pe_place.proofs.PartsLemmas.{parts_of_one, parts_of_other, entries_of_one, parts_append, entries_append, steps_append, seat_none, TellsSame, calls_same}
use Rattle.seq_guest.proofs.SeatLemmas.{IsLater, is_later, other_seat, other_same, set_get}

-- a vCPU has a place
pub place_is : (told : GuestTold) (vcpus : Vcpus) (vcpu : ℕ) (place : Place) → AreAt told vcpus → vcpu < told.guest.shape.vcpus → place ≡ get_or vcpus.places.items vcpu place → slice_get vcpus.places.items vcpu ≡ Some place
place_is told vcpus vcpu place at there is = slice_get_read vcpus.places.items told.guest.shape.vcpus vcpu place (sym at.each) there is

-- Nothing is done.

unfoldable pub goes_none : (told : GuestTold) (actor : ℕ) (vcpus : Vcpus) → AreAt told vcpus → GoesOn AreResidences told (record told { actor = actor }) vcpus vcpus
goes_none told actor vcpus at =
    record {
      same = record { home = refl; guest = refl; number = refl };
      lrs = refl;
      at = record { each = at.each; places = at.places; devices = at.devices };
      parts = [];
      are = residences_none;
      formed = All-nil (IsOfGuest told.guest.shape vcpus.lrs);
      world = sym (append-nil told.world);
      seats = λ actor. seat_none (seen_by told actor) (seen_by told actor) refl refl;
      calls = λ actor. tt;
      proper = λ progress so actor high. tt;
      goes_on = λ progress so. record { places = so.places; devices = so.devices };
    }

-- One actor does some parts.

seats_one : (old new : GuestTold) (parts : List Part) → Adds (seen_of old) (seen_of new) (steps_in parts) → (actor : ℕ) → IsSeatAfter (seen_by old actor) (seen_by new actor) (parts_by actor (map (by_actor old.actor) parts))
seats_one old new parts adds actor =
    let steps = steps_in parts in
    let later = is_later old new steps adds in
    let all = map (by_actor old.actor) parts in
    let mine : IsSeatAfter (seen_by old old.actor) (seen_by new old.actor) parts
    = record {
      local = subst (λ n. (seen_by new n).local ≡ (seen_after (seen_of old) steps).local) later.actor (ap (λ (seen : Seen). seen.local) adds.new_is);
      own = subst (λ n. (seen_by new n).own ≡ (seen_after (seen_of old) steps).own) later.actor (ap (λ (seen : Seen). seen.own) adds.new_is);
    } in
    elim (cases_eq actor old.actor) [
      | inl same ↦ subst (λ n. IsSeatAfter (seen_by old n) (seen_by new n) (parts_by n all)) (sym same) (subst (IsSeatAfter (seen_of old) (seen_by new old.actor)) (sym (parts_of_one old.actor parts)) mine)
      | inr apart ↦
          let seat = other_seat old new steps actor apart later in
          subst (IsSeatAfter (seen_by old actor) (seen_by new actor)) (sym (parts_of_other old.actor actor parts apart)) (seat_none (seen_by old actor) (seen_by new actor) (ap (λ (seat : Seat). seat.local) seat) (ap (λ (seat : Seat). seat.own) seat))
    ]

calls_one : (old : GuestTold) (parts : List Part) → AreCalls (seen_of old) parts → (actor : ℕ) → AreCalls (seen_by old actor) (parts_by actor (map (by_actor old.actor) parts))
calls_one old parts calls actor =
    elim (cases_eq actor old.actor) [
      | inl same ↦ subst (λ n. AreCalls (seen_by old n) (parts_by n (map (by_actor old.actor) parts))) (sym same) (subst (AreCalls (seen_of old)) (sym (parts_of_one old.actor parts)) calls)
      | inr apart ↦ subst (AreCalls (seen_by old actor)) (sym (parts_of_other old.actor actor parts apart)) tt
    ]

proper_one : (shape : GuestShape) (actor other : ℕ) (parts : List Part) (progress : ℕ → Progress) → IsProper shape actor (progress actor) (acts_in parts) → IsProper shape other (progress other) (acts_in (parts_by other (map (by_actor actor) parts)))
proper_one shape actor other parts progress proper =
    elim (cases_eq other actor) [
      | inl same ↦
          subst (λ n. IsProper shape n (progress n) (acts_in (parts_by n (map (by_actor actor) parts)))) (sym same)
          (subst (λ parts. IsProper shape actor (progress actor) (acts_in parts)) (sym (parts_of_one actor parts)) proper)
      | inr apart ↦ subst (λ parts. IsProper shape other (progress other) (acts_in parts)) (sym (parts_of_other actor other parts apart)) tt
    ]

-- the protocol of the actor, and of the others, after it
pub progress_mine : (shape : GuestShape) (actor : ℕ) (parts : List Part) (progress : ℕ → Progress) → progress_of shape actor (progress actor) (acts_in parts) ≡ progress_after shape (map (by_actor actor) parts) progress actor
progress_mine shape actor parts progress = ap (λ parts. progress_of shape actor (progress actor) (acts_in parts)) (sym (parts_of_one actor parts))

progress_other : (shape : GuestShape) (actor other : ℕ) (parts : List Part) (progress : ℕ → Progress) → other ≢ actor → progress other ≡ progress_after shape (map (by_actor actor) parts) progress other
progress_other shape actor other parts progress apart = ap (λ parts. progress_of shape other (progress other) (acts_in parts)) (sym (parts_of_other actor other parts apart))

own_same : (old new : GuestTold) (steps : List Made) (other : ℕ) → other ≢ old.actor → IsLater old new steps → (seen_by new other).own ≡ (seen_by old other).own
own_same old new steps other apart later = ap (λ (seat : Seat). seat.own) (other_seat old new steps other apart later)

formed_one : (shape : GuestShape) (lrs vcpu : ℕ) (parts : List Part) → vcpu < shape.vcpus → All (λ part. part.lrs ≡ lrs) parts → All (IsOfGuest shape lrs) (map (by_actor vcpu) parts)
formed_one shape lrs vcpu [] there all = All-nil (IsOfGuest shape lrs)
formed_one shape lrs vcpu (part ∷ parts) there all =
    All-cons (IsOfGuest shape lrs) (by_actor vcpu part) (map (by_actor vcpu) parts)
    (record {
      there = omega (arith, there);
      lrs_is = All-head (λ (part : Part). part.lrs ≡ lrs) part parts all ∙ ap (λ b. if b then lrs else 0) (sym (lt-ltb vcpu shape.vcpus there));
      sent = λ device. absurd (both_ways (nat_lt vcpu shape.vcpus) device (lt-ltb vcpu shape.vcpus there));
    })
    (formed_one shape lrs vcpu parts there (All-tail (λ (part : Part). part.lrs ≡ lrs) part parts all))

pub one_goes :
    (Are : List WholePart → Type 0) (told new : GuestTold) (before next : Vcpus) (vcpu : ℕ) (place after : Place) → next.lrs ≡ before.lrs → next.places.items ≡ set before.places.items vcpu after → vcpu < told.guest.shape.vcpus → slice_get before.places.items vcpu ≡ Some place → AreAt told before
    → Moves Are (seen_by told vcpu) (seen_of new) place after → HasRegisters before.lrs after → GoesOn Are told new before next
one_goes Are told new before next vcpu place after lrs is there has at moves registers =
    let old : GuestTold = record told { actor = vcpu } in
    let steps = steps_in moves.parts in
    let later = is_later old new steps moves.adds in
    let items = before.places.items in
    let shape = ap (λ (guest : IdealGuest). guest.shape) later.same.guest in
    let all = map (by_actor vcpu) moves.parts in
    let low : (actor : ℕ) → new.guest.shape.vcpus ≤ actor → told.guest.shape.vcpus ≤ actor = λ actor low. subst (λ (shape : GuestShape). shape.vcpus ≤ actor) shape low in
    let high : (actor : ℕ) → actor < actor_count new.guest.shape → actor < actor_count told.guest.shape = λ actor high. subst (λ (shape : GuestShape). actor < actor_count shape) shape high in
    let device_apart : (actor : ℕ) → told.guest.shape.vcpus ≤ actor → actor ≢ vcpu = λ actor low e. absurd (omega (arith, there, low, e)) in
    record {
      same = record { home = later.same.home; guest = later.same.guest; number = later.same.number };
      lrs = lrs;
      at =
          record {
            each = ap length is ∙ length-set items vcpu after ∙ at.each ∙ sym (ap (λ (shape : GuestShape). shape.vcpus) shape);
            places = λ other one e.
                elim (set_get items vcpu other after one (ap (λ items. slice_get items other) (sym is) ∙ e)) [
                  | inl same ↦
                      (subst (λ n. IsAt (seen_by new n) one) (later.actor ∙ sym same.0) (subst (IsAt (seen_of new)) (sym same.1) moves.at), subst (λ n. HasRegisters n one) (sym lrs) (subst (HasRegisters before.lrs) (sym same.1) registers))
                  | inr apart ↦
                      let one_at = at.places other one apart.1 in
                      (at_same (seen_by old other) (seen_by new other) one (other_same old new steps other apart.0 later) one_at.0, subst (λ n. HasRegisters n one) (sym lrs) one_at.1)
                ];
            devices = λ actor below above. ap is_settled (other_same old new steps actor (device_apart actor (low actor below)) later).local ∙ at.devices actor (low actor below) (high actor above);
          };
      parts = all;
      are = moves.are;
      formed = formed_one told.guest.shape before.lrs vcpu moves.parts there (moves.registers before.lrs (at.places vcpu place has).1 registers);
      world = later.world ∙ ap (λ entries. told.world ++ entries) (sym (entries_of_one vcpu moves.parts));
      seats = seats_one old new moves.parts moves.adds;
      calls = calls_one old moves.parts moves.calls;
      proper = λ progress so other above. proper_one told.guest.shape vcpu other moves.parts progress (moves.proper (progress vcpu) (so.places vcpu place has));
      goes_on = λ progress so.
          record {
            places = λ other one e.
                elim (set_get items vcpu other after one (ap (λ items. slice_get items other) (sym is) ∙ e)) [
                  | inl same ↦
                      subst (λ n. IsFollowed (seen_by new n) one (progress_after told.guest.shape all progress n)) (sym same.0)
                      (subst (IsFollowed (seen_by new vcpu) one) (progress_mine told.guest.shape vcpu moves.parts progress)
                      (subst (λ n. IsFollowed (seen_by new n) one (progress_of told.guest.shape vcpu (progress vcpu) (acts_in moves.parts))) later.actor
                      (subst (λ place. IsFollowed (seen_of new) place (progress_of told.guest.shape vcpu (progress vcpu) (acts_in moves.parts))) (sym same.1) (moves.goes_on (progress vcpu) (so.places vcpu place has)))))
                  | inr apart ↦
                      subst (IsFollowed (seen_by new other) one) (progress_other told.guest.shape vcpu other moves.parts progress apart.0)
                      (followed_same (seen_by old other) (seen_by new other) one (progress other) (other_same old new steps other apart.0 later) (own_same old new steps other apart.0 later) (so.places other one apart.1))
                ];
            devices = λ actor below above.
                let apart = device_apart actor (low actor below) in
                subst (IsAtRest (seen_by new actor)) (progress_other told.guest.shape vcpu actor moves.parts progress apart)
                (rest_same (seen_by old actor) (seen_by new actor) (progress actor) (other_same old new steps actor apart later) (own_same old new steps actor apart later) (so.devices actor (low actor below) (high actor above)));
          };
    }

-- the parts are those of the vCPU
pub one_parts :
    (Are : List WholePart → Type 0) (told new : GuestTold) (before next : Vcpus) (vcpu : ℕ) (place after : Place) (lrs : next.lrs ≡ before.lrs) (is : next.places.items ≡ set before.places.items vcpu after) (there : vcpu < told.guest.shape.vcpus)
    (has : slice_get before.places.items vcpu ≡ Some place) (at : AreAt told before) (moves : Moves Are (seen_by told vcpu) (seen_of new) place after) (registers : HasRegisters before.lrs after)
    → (one_goes Are told new before next vcpu place after lrs is there has at moves registers).parts ≡ map (by_actor vcpu) moves.parts
unfolding one_goes
one_parts Are told new before next vcpu place after lrs is there has at moves registers = refl

-- Some parts after others.

later_same : (one two : GuestTold) (actor : ℕ) (parts : List Part) → IsSameGuest one two → IsSeatAfter (seen_by one actor) (seen_by two actor) parts → TellsSame (seen_by two actor) (seen_after (seen_by one actor) (steps_in parts))
later_same one two actor parts same seat = record { guest = sym same.guest; actor = refl; local = sym seat.local; own = sym seat.own }

seats_then :
    (one two three : GuestTold) (actor : ℕ) (early late : List Part) → IsSameGuest one two → IsSeatAfter (seen_by one actor) (seen_by two actor) early → IsSeatAfter (seen_by two actor) (seen_by three actor) late
    → IsSeatAfter (seen_by one actor) (seen_by three actor) (early ++ late)
seats_then one two three actor early late same first second =
    let shape = one.guest.shape in
    let start = (seen_by one actor).local in
    record {
      local =
          second.local
          ∙ ap (λ (guest : IdealGuest). local_by guest.shape actor (seen_by two actor).local (steps_in late)) same.guest
          ∙ ap (λ local. local_by shape actor local (steps_in late)) first.local
          ∙ sym (local_joins shape actor start (steps_in early) (steps_in late))
          ∙ ap (local_by shape actor start) (sym (steps_append early late));
      own =
          second.own
          ∙ ap (λ own. own ++ steps_in late) first.own
          ∙ append_assoc (seen_by one actor).own (steps_in early) (steps_in late)
          ∙ ap (λ steps. (seen_by one actor).own ++ steps) (sym (steps_append early late));
    }

pub followed_as : (told : GuestTold) (vcpus : Vcpus) (one other : ℕ → Progress) → ((actor : ℕ) → one actor ≡ other actor) → AreFollowed told vcpus one → AreFollowed told vcpus other
followed_as told vcpus one other same so =
    record {
      places = λ vcpu place e. subst (IsFollowed (seen_by told vcpu) place) (same vcpu) (so.places vcpu place e);
      devices = λ actor low high. subst (IsAtRest (seen_by told actor)) (same actor) (so.devices actor low high);
    }

after_both : (one two : GuestTold) (early late : List WholePart) (progress : ℕ → Progress) → IsSameGuest one two → (actor : ℕ)
    → progress_after two.guest.shape late (progress_after one.guest.shape early progress) actor ≡ progress_after one.guest.shape (early ++ late) progress actor
after_both one two early late progress same actor =
    let shape = one.guest.shape in
    let mid = progress_after shape early progress in
    ap (λ (guest : IdealGuest). progress_of guest.shape actor (mid actor) (acts_in (parts_by actor late))) same.guest
    ∙ sym (fold-append (progressed shape actor) (progress actor) (acts_in (parts_by actor early)) (acts_in (parts_by actor late)))
    ∙ ap (progress_of shape actor (progress actor)) (sym (flat_map-append acts_of (parts_by actor early) (parts_by actor late)))
    ∙ ap (λ parts. progress_of shape actor (progress actor) (acts_in parts)) (sym (parts_append actor early late))

pub goes_both :
    (Early Late Both : List WholePart → Type 0) → ((early late : List WholePart) → Early early → Late late → Both (early ++ late)) → (one two three : GuestTold) (a b d : Vcpus) → GoesOn Early one two a b → GoesOn Late two three b d → GoesOn Both one three a d
goes_both Early Late Both join one two three a b d first second =
    let early = first.parts in
    let late = second.parts in
    let shape = one.guest.shape in
    record {
      same = record { home = second.same.home ∙ first.same.home; guest = second.same.guest ∙ first.same.guest; number = second.same.number ∙ first.same.number };
      lrs = second.lrs ∙ first.lrs;
      at = second.at;
      parts = early ++ late;
      are = join early late first.are second.are;
      formed =
          All-append (IsOfGuest shape a.lrs) early late first.formed
          (subst (λ n. All (IsOfGuest shape n) late) first.lrs (subst (λ (guest : IdealGuest). All (IsOfGuest guest.shape b.lrs) late) first.same.guest second.formed));
      world =
          second.world
          ∙ ap (λ world. world ++ entries_in late) first.world
          ∙ append_assoc one.world (entries_in early) (entries_in late)
          ∙ ap (λ entries. one.world ++ entries) (sym (entries_append early late));
      seats = λ actor.
          subst (IsSeatAfter (seen_by one actor) (seen_by three actor)) (sym (parts_append actor early late))
          (seats_then one two three actor (parts_by actor early) (parts_by actor late) first.same (first.seats actor) (second.seats actor));
      calls = λ actor.
          subst (AreCalls (seen_by one actor)) (sym (parts_append actor early late))
          (calls_join (seen_by one actor) (parts_by actor early) (parts_by actor late) (first.calls actor)
          (calls_same (seen_by two actor) (seen_after (seen_by one actor) (steps_in (parts_by actor early))) (parts_by actor late) (later_same one two actor (parts_by actor early) first.same (first.seats actor)) (second.calls actor)));
      proper = λ progress so actor there.
          let mid = progress_after shape early progress in
          let rest = second.proper mid (first.goes_on progress so) actor (subst (λ (guest : IdealGuest). actor < actor_count guest.shape) (sym first.same.guest) there) in
          subst (λ parts. IsProper shape actor (progress actor) (acts_in parts)) (sym (parts_append actor early late))
          (subst (IsProper shape actor (progress actor)) (sym (flat_map-append acts_of (parts_by actor early) (parts_by actor late)))
          ((proper_append shape actor (progress actor) (acts_in (parts_by actor early)) (acts_in (parts_by actor late))).1
          (first.proper progress so actor there, subst (λ (guest : IdealGuest). IsProper guest.shape actor (mid actor) (acts_in (parts_by actor late))) first.same.guest rest)));
      goes_on = λ progress so.
          followed_as three d (progress_after two.guest.shape late (progress_after shape early progress)) (progress_after shape (early ++ late) progress) (after_both one two early late progress first.same)
          (second.goes_on (progress_after shape early progress) (first.goes_on progress so));
    }

-- residences alone; a call before some; and one between some, and what comes before it

pub goes_then : (one two three : GuestTold) (a b d : Vcpus) → GoesOn AreResidences one two a b → GoesOn AreResidences two three b d → GoesOn AreResidences one three a d
goes_then = goes_both AreResidences AreResidences AreResidences residences_join

pub goes_from : (actor : ℕ) (operation : Operation) (answer : Option ℕ) (one two three : GuestTold) (a b d : Vcpus) → GoesOn (HaveCall actor operation answer) one two a b → GoesOn AreResidences two three b d → GoesOn (HaveCall actor operation answer) one three a d
goes_from actor operation answer = goes_both (HaveCall actor operation answer) AreResidences (HaveCall actor operation answer) (call_before actor operation answer)

goes_to : (actor : ℕ) (operation : Operation) (answer : Option ℕ) (one two three : GuestTold) (a b d : Vcpus) → GoesOn AreResidences one two a b → GoesOn (AreOneCall actor operation answer) two three b d → GoesOn (HaveCall actor operation answer) one three a d
goes_to actor operation answer = goes_both AreResidences (AreOneCall actor operation answer) (HaveCall actor operation answer) (call_last actor operation answer)

pub record GoesAbout (actor : ℕ) (operation : Operation) (answer : Option ℕ) (old new : GuestTold) (before after : Vcpus) (early : List WholePart) : Type 0 where
  pub goes_on : GoesOn (HaveCall actor operation answer) old new before after
  pub early_is : goes_on.are.early ≡ early

pub goes_about :
    (actor : ℕ) (operation : Operation) (answer : Option ℕ) (one two three four : GuestTold) (a b d e : Vcpus) (first : GoesOn AreResidences one two a b) → GoesOn (AreOneCall actor operation answer) two three b d → GoesOn AreResidences three four d e
    → GoesAbout actor operation answer one four a e first.parts
unfolding goes_both goes_to goes_from call_last call_before
goes_about actor operation answer one two three four a b d e first call second =
    record { goes_on = goes_from actor operation answer one three four a d e (goes_to actor operation answer one two three a b d first call) second; early_is = refl }

-- A device does one.

unfoldable device_part : DeviceOp → List Made → Part
device_part op steps = record { operation = Device op; lrs = 0; steps = steps; answer = None }

device_formed : (shape : GuestShape) (lrs actor : ℕ) (part : Part) → shape.vcpus ≤ actor → actor < actor_count shape → part.lrs ≡ 0 → IsSent shape part.operation part.steps → IsOfGuest shape lrs (by_actor actor part)
device_formed shape lrs actor part past there none sent = record { there = there; lrs_is = none ∙ ap (λ b. if b then lrs else 0) (sym (le-ltb actor shape.vcpus past)); sent = λ device. sent }

pub device_goes : (told new : GuestTold) (vcpus : Vcpus) (actor : ℕ) (op : DeviceOp) → told.guest.shape.vcpus ≤ actor → actor < actor_count told.guest.shape → AreAt told vcpus → DoesEvent (seen_by told actor) (seen_of new) op → GoesOn (HaveCall actor (Device op) None) told new vcpus vcpus
unfolding device_part
device_goes told new vcpus actor op past there at does =
    let part = does.part in
    let old : GuestTold = record told { actor = actor } in
    let later = is_later old new part does.adds in
    let shape = ap (λ (guest : IdealGuest). guest.shape) later.same.guest in
    let parts : List Part = device_part op part ∷ [] in
    let all = map (by_actor actor) parts in
    let low : (other : ℕ) → new.guest.shape.vcpus ≤ other → told.guest.shape.vcpus ≤ other = λ other low. subst (λ (shape : GuestShape). shape.vcpus ≤ other) shape low in
    let high : (other : ℕ) → other < actor_count new.guest.shape → other < actor_count told.guest.shape = λ other high. subst (λ (shape : GuestShape). other < actor_count shape) shape high in
    let adds : Adds (seen_of old) (seen_of new) (steps_in parts) = subst (Adds (seen_of old) (seen_of new)) (sym (append-nil part)) does.adds in
    let vcpu_apart : (vcpu : ℕ) (place : Place) → slice_get vcpus.places.items vcpu ≡ Some place → vcpu ≢ actor
    = λ vcpu place e. let there : vcpu < told.guest.shape.vcpus = subst (λ n. vcpu < n) at.each (slice_get_within vcpus.places.items vcpu place e) in λ same. absurd (omega (arith, there, past, same)) in
    record {
      same = record { home = later.same.home; guest = later.same.guest; number = later.same.number };
      lrs = refl;
      at =
          record {
            each = at.each ∙ sym (ap (λ (shape : GuestShape). shape.vcpus) shape);
            places = λ vcpu place e.
                let one = at.places vcpu place e in
                (at_same (seen_by old vcpu) (seen_by new vcpu) place (other_same old new part vcpu (vcpu_apart vcpu place e) later) one.0, one.1);
            devices = λ other below above.
                elim (cases_eq other actor) [
                  | inl same ↦ subst (λ n. IsTrue (is_settled (seen_by new n).local)) (later.actor ∙ sym same) does.after.settled
                  | inr apart ↦ ap is_settled (other_same old new part other apart later).local ∙ at.devices other (low other below) (high other above)
                ];
          };
      parts = all;
      are = call_one actor (device_part op part);
      formed = All-cons (IsOfGuest told.guest.shape vcpus.lrs) (by_actor actor (device_part op part)) [] (device_formed told.guest.shape vcpus.lrs actor (device_part op part) past there refl does.sent) (All-nil (IsOfGuest told.guest.shape vcpus.lrs));
      world = later.world ∙ ap (λ entries. told.world ++ entries) (ap (map (entry_by actor)) (sym (append-nil part)) ∙ sym (entries_of_one actor parts));
      seats = seats_one old new parts adds;
      calls = calls_one old parts (device_found (seen_of old) op part does.call, tt);
      proper = λ progress so other above.
          proper_one told.guest.shape actor other parts progress
          (subst (IsProper told.guest.shape actor (progress actor)) (sym (append-nil (acts_of (device_part op part)))) (does.proper (progress actor) (so.devices actor past there)));
      goes_on = λ progress so.
          record {
            places = λ vcpu place e.
                let apart = vcpu_apart vcpu place e in
                subst (IsFollowed (seen_by new vcpu) place) (progress_other told.guest.shape actor vcpu parts progress apart)
                (followed_same (seen_by old vcpu) (seen_by new vcpu) place (progress vcpu) (other_same old new part vcpu apart later) (own_same old new part vcpu apart later) (so.places vcpu place e));
            devices = λ other below above.
                elim (cases_eq other actor) [
                  | inl same ↦
                      let rest = so.devices actor past there in
                      let shape = told.guest.shape in
                      let after = rests_again (seen_of old) (seen_of new) (progress actor) part (Device op) 0 None rest (does.proper (progress actor) rest) does.adds in
                      subst (λ n. IsAtRest (seen_by new n) (progress_after shape all progress n)) (sym same)
                      (subst (IsAtRest (seen_by new actor)) (progress_mine shape actor parts progress)
                      (subst (λ n. IsAtRest (seen_by new n) (progress_of shape actor (progress actor) (acts_in parts))) later.actor
                      (subst (λ acts. IsAtRest (seen_of new) (progress_of shape actor (progress actor) acts)) (sym (append-nil (acts_of (device_part op part)))) after)))
                  | inr apart ↦
                      subst (IsAtRest (seen_by new other)) (progress_other told.guest.shape actor other parts progress apart)
                      (rest_same (seen_by old other) (seen_by new other) (progress other) (other_same old new part other apart later) (own_same old new part other apart later) (so.devices other (low other below) (high other above)))
                ];
          };
    }

-- a device may make one
pub device_ready : (told : GuestTold) (vcpus : Vcpus) (device : ℕ) → device < told.guest.shape.devices → AreAt told vcpus → CanCall (seen_by told (told.guest.shape.vcpus + device))
device_ready told vcpus device there at =
    let past = told.guest.shape.vcpus in
    record {
      device = le-ltb (past + device) past (omega arith);
      settled = at.devices (past + device) (omega arith) (omega (arith, there));
    }
