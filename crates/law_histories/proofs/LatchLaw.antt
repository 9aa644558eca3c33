-- The latched causes along every history.
use Rattle.std.proofs.Common.{◌≡◌, ℕ, ◌&&◌, ◌||◌, zero, suc, Bool, true, false, IsTrue, inl, inr, List, [], ◌∷◌, filter, length, replicate, option_map, None, nat_lt, refl, sym, ap, ◌∙◌, subst, slice_index_or, arith}
use Rattle.std.specs.List.{list_any}
use Rattle.std.specs.Option.{option_map_or}
use Rattle.std.proofs.lemmas.Bool.{and_parts, cases_eq, ltb-true}
use Rattle.std.proofs.lemmas.List.{length-set, length-replicate}
use Rattle.floor_histories.specs.Words.{IccReg, Key, GuestShape, has_interrupt, intid_of, is_number, Irq}
use Rattle.floor_histories.proofs.GicOpen.OpeningLemmas.{openings_valid, opening_valid}
use Rattle.floor_histories.specs.Calls.{Event, Up, Down, Touch, Reach, Take, Leave, Enable, Cpu, Put, CtlrBegin, CtlrEnd, ItsBegin, Found, Record, Moment, Begin, Happens, Entry, Moved, GuestSpec, IsGoodGuest}
use Rattle.floor_histories.specs.GicCall.declared.event.Event.TheVariants.{Raise, Read, ItsEnd, Queue}
use Rattle.floor_histories.specs.GicCall.declared.event.Found.TheVariants.{Nothing, Answer, Word as FoundWord, Queue as FoundQueue, Ctlr as FoundCtlr, Lpis as FoundLpis}
use Rattle.floor_histories.specs.GicCall.declared.event.Moment.TheVariants.{End}
use Rattle.floor_histories.specs.Histories.{irq_at, after_moment, Course, IsNext, GoesOn, gone_on, course_of, opening_course, happened, Ideal, Standing, standing_at, is_of, moved_at, opening_guest}
use Rattle.floor_histories.proofs.IdealGuests.KeyLemmas.{IsWhole}
use Rattle.floor_histories.specs.GicHistory.State.{opening}
use Rattle.law_histories.specs.Latches.{Latch, no_latch, latched, latch_from, StaysEdge, is_iar, is_pending_at, acknowledges, has_cause_there, has_cause, has_cause_at, Latches}
use Rattle.law_histories.proofs.LatchLemmas.{causes_of, entry_causes, IsStanding, IsLatched, away, stands, IsEntryLatched}
use Rattle.law_histories.proofs.LatchMoves.{event_tracked}
use Rattle.law_histories.proofs.LatchSteps.{IsTrackedIn}
use Rattle.law_histories.proofs.StandLemmas.{of_key, standing_of_key, found_none, found_first, any_filtered, any_nowhere, any_somewhere}
use Rattle.law_histories.proofs.StateLemmas.{guest_is, take_cases, leave_cases}

-- an event leaves as many interfaces
pub seats_after : (actor : ℕ) (event : Event) (state : Ideal) → length (happened actor event state).at ≡ length state.at
seats_after actor (Raise other) state = refl
seats_after actor (Up other) state = refl
seats_after actor (Down other) state = refl
seats_after actor (Touch other touching) state = refl
seats_after actor (Reach other vcpu) state = length-set state.at vcpu _
seats_after actor (Take other vcpu) state = take_cases (λ after. length after.at ≡ length state.at) state other vcpu refl (λ irq standing. length-set state.at vcpu standing)
seats_after actor (Leave other vcpu) state = leave_cases (λ after. length after.at ≡ length state.at) state other vcpu refl (λ irq standing. length-set state.at vcpu standing)
seats_after actor (Enable vcpu) state = refl
seats_after actor (Cpu vcpu reg write) state = length-set state.at vcpu _
seats_after actor (Read place) state = refl
seats_after actor (Put word value) state = refl
seats_after actor (CtlrBegin enables) state = refl
seats_after actor CtlrEnd state = refl
seats_after actor ItsBegin state = refl
seats_after actor ItsEnd state = refl
seats_after actor (Queue offset change) state = refl

-- a state of a history, beside the numbers of its events
record IsBeside (key : Key) (state : Ideal) (latch : Latch) : Type 0 where
  pub whole : IsWhole state.guest
  pub there : IsTrue (has_interrupt state.guest.shape key)
  pub seats : length state.at ≡ state.guest.shape.vcpus
  pub tracked : IsTrackedIn key state latch

module _ (key : Key) where
  beside_after : (course : Course) (moment : Moment) (latch : Latch) → (irq_at course.ideal.guest key).edge ≡ true → IsNext course moment → IsBeside key course.ideal latch → IsBeside key (gone_on course moment).ideal (latched key course.ideal moment latch)
  beside_after course (Begin actor operation) latch edge next is = is
  beside_after course (End actor answer) latch edge next is = is
  beside_after course (Happens actor event found) latch edge next is =
      let same = guest_is actor event course.ideal in
      record {
        whole = same.whole is.whole;
        there = subst (λ s. IsTrue (has_interrupt s key)) (sym same.shape) is.there;
        seats = seats_after actor event course.ideal ∙ is.seats ∙ ap (λ (s : GuestShape). s.vcpus) (sym same.shape);
        tracked = event_tracked course.ideal key is.whole is.there is.seats edge latch is.tracked actor event found next.can next.allowed next.hands;
      }

  first_edge : (state : Ideal) (moments : List Moment) → StaysEdge key state moments → (irq_at state.guest key).edge ≡ true
  first_edge state [] edge = edge
  first_edge state (moment ∷ moments) edge = edge.0

  same_after : (course : Course) (moment : Moment) → after_moment course.ideal moment ≡ (gone_on course moment).ideal
  same_after course (Begin actor operation) = refl
  same_after course (End actor answer) = refl
  same_after course (Happens actor event found) = refl

  beside_all : (course : Course) (moments : List Moment) (latch : Latch) → GoesOn course moments → StaysEdge key course.ideal moments → IsBeside key course.ideal latch → IsBeside key (course_of course moments).ideal (latch_from key course.ideal latch moments)
  beside_all course [] latch going edge is = is
  beside_all course (moment ∷ moments) latch going edge is =
      let later = latched key course.ideal moment latch in
      subst (λ s. IsBeside key (course_of (gone_on course moment) moments).ideal (latch_from key s later moments)) (sym (same_after course moment))
      (beside_all (gone_on course moment) moments later going.1 (subst (λ s. StaysEdge key s moments) (same_after course moment) edge.1) (beside_after course moment latch edge.0 going.0 is))

-- What is there.

module _ (key : Key) (state : Ideal) (latch : Latch) (is : IsTrackedIn key state latch) where
  irq : Irq
  irq = irq_at state.guest key

  -- at an interface
  there_is : (vcpu : ℕ) (standing : List Standing) → of_key state key vcpu ≡ standing → list_any (has_cause_there key) (standing_at state vcpu) ≡ list_any (λ (one : Standing). one.entry.rise || one.entry.soft) standing
  there_is vcpu standing e = any_filtered (is_of key) (λ (one : Standing). one.entry.rise || one.entry.soft) (standing_at state vcpu) ∙ ap (list_any (λ (one : Standing). one.entry.rise || one.entry.soft)) e

  or_false : (b : Bool) → (b || false) ≡ b
  or_false true = refl
  or_false false = refl

  or_true : (a b : Bool) → (a || b || true) ≡ true
  or_true true b = refl
  or_true false true = refl
  or_true false false = refl

  nothing_there : list_any (list_any (has_cause_there key)) state.at ≡ false → causes_of (irq_at state.guest key) ≡ nat_lt latch.spent latch.cause → has_cause state key ≡ nat_lt latch.spent latch.cause
  nothing_there none causes = ap (λ b. (irq_at state.guest key).rise || (irq_at state.guest key).soft || b) none ∙ three (irq_at state.guest key).rise (irq_at state.guest key).soft ∙ causes
    where
      three : (a b : Bool) → (a || b || false) ≡ (a || b)
      three true b = refl
      three false true = refl
      three false false = refl

  standing_there : (s : IsStanding key (of_key state key) (irq_at state.guest key) latch) (b : Bool) → s.entry.pending ≡ b → IsEntryLatched b (irq_at state.guest key) s.entry latch → has_cause state key ≡ nat_lt latch.spent latch.cause
  standing_there s true e latched_is =
      ap (λ b. (irq_at state.guest key).rise || (irq_at state.guest key).soft || b) (any_somewhere (has_cause_there key) state.at s.vcpu (there_is s.vcpu (standing_of_key key s.entry ∷ []) s.here ∙ or_false (entry_causes s.entry) ∙ latched_is.has))
      ∙ or_true (irq_at state.guest key).rise (irq_at state.guest key).soft ∙ sym latched_is.came
  standing_there s false e latched_is =
      nothing_there
      (any_nowhere (has_cause_there key) state.at (λ n. elim (cases_eq n s.vcpu) [
        | inl same ↦
            there_is n (standing_of_key key s.entry ∷ []) (subst (λ v. of_key state key v ≡ standing_of_key key s.entry ∷ []) (sym same) s.here)
            ∙ or_false (entry_causes s.entry) ∙ ap (λ b. b || s.entry.soft) latched_is.no_rise ∙ latched_is.no_soft
        | inr differ ↦ there_is n [] (s.elsewhere n differ)
      ]))
      latched_is.record_is

  pub cause_is : has_cause state key ≡ nat_lt latch.spent latch.cause
  cause_is = of is.latched
    where
      of : IsLatched key (of_key state key) (irq_at state.guest key) latch → has_cause state key ≡ nat_lt latch.spent latch.cause
      of (away a) = nothing_there (any_nowhere (has_cause_there key) state.at (λ n. there_is n [] (a.nowhere n))) a.record_is
      of (stands s) = standing_there s s.entry.pending refl s.latched

  -- what is found there
  entry_at : {X : Type 0} (f : Moved → X) (d : X) (vcpu : ℕ) (entry : Entry) → of_key state key vcpu ≡ standing_of_key key entry ∷ [] → option_map_or f (moved_at state vcpu key) d ≡ f (record { irq = irq_at state.guest key; entry = entry })
  entry_at f d vcpu entry some = ap (λ o. option_map_or f (option_map (λ (standing : Standing). record { irq = irq_at state.guest key; entry = standing.entry }) o) d) (found_first (is_of key) (standing_at state vcpu) (standing_of_key key entry) [] some)

  none_at : {X : Type 0} (f : Moved → X) (d : X) (vcpu : ℕ) → of_key state key vcpu ≡ [] → option_map_or f (moved_at state vcpu key) d ≡ d
  none_at f d vcpu none = ap (λ o. option_map_or f (option_map (λ (standing : Standing). record { irq = irq_at state.guest key; entry = standing.entry }) o) d) (found_none (is_of key) (standing_at state vcpu) none)

  -- an interrupt that is pending at an interface has brought a cause there, which came since they were spent
  pub record HasOffered (vcpu : ℕ) : Type 0 where
    pub caused : has_cause_at state vcpu key ≡ true
    pub came : nat_lt latch.spent latch.cause ≡ true

  pending_offered : (vcpu : ℕ) → is_pending_at state vcpu key ≡ true → HasOffered vcpu
  pending_offered vcpu pending = of is.latched
    where
      nowhere : of_key state key vcpu ≡ [] → HasOffered vcpu
      nowhere none = absurd (let idle = none_at (λ moved. moved.entry.pending) false vcpu none in cc)

      offered : (entry : Entry) (b : Bool) → b ≡ true → has_cause_at state vcpu key ≡ entry_causes entry → IsEntryLatched b (irq_at state.guest key) entry latch → HasOffered vcpu
      offered entry true e caused l = record { caused = caused ∙ l.has; came = l.came }
      offered entry false e caused l = absurd (cc)

      of : IsLatched key (of_key state key) (irq_at state.guest key) latch → HasOffered vcpu
      of (away a) = nowhere (a.nowhere vcpu)
      of (stands s) = elim (cases_eq s.vcpu vcpu) [
        | inl same ↦
            let here : of_key state key vcpu ≡ standing_of_key key s.entry ∷ [] = subst (λ v. of_key state key v ≡ standing_of_key key s.entry ∷ []) same s.here in
            offered s.entry s.entry.pending (sym (entry_at (λ moved. moved.entry.pending) false vcpu s.entry here) ∙ pending) (entry_at (λ moved. moved.entry.rise || moved.entry.soft) false vcpu s.entry here) s.latched
        | inr differ ↦ nowhere (s.elsewhere vcpu (λ e. differ (sym e)))
      ]

  pub acknowledge_finds : (vcpu : ℕ) (reg : IccReg) (found : Found) → acknowledges state key (Cpu vcpu reg None) found ≡ true → HasOffered vcpu
  acknowledge_finds vcpu reg (Answer answer) h = pending_offered vcpu (and_parts (is_iar reg && is_number (intid_of key) answer) (is_pending_at state vcpu key) h).1
  acknowledge_finds vcpu reg Nothing h = absurd (cc)
  acknowledge_finds vcpu reg (Record irq) h = absurd (cc)
  acknowledge_finds vcpu reg (FoundWord value) h = absurd (cc)
  acknowledge_finds vcpu reg (FoundQueue offset stalled) h = absurd (cc)
  acknowledge_finds vcpu reg (FoundCtlr enables spreading) h = absurd (cc)
  acknowledge_finds vcpu reg (FoundLpis on) h = absurd (cc)

-- From the opening.

abbrev pub nothing : List Standing
nothing = []

pub empty_at : (n vcpu : ℕ) → slice_index_or (replicate n nothing) vcpu nothing ≡ nothing
empty_at zero vcpu = refl
empty_at (suc n) zero = refl
empty_at (suc n) (suc vcpu) = empty_at n vcpu

opens_tracked : (guest : GuestSpec) (key : Key) → IsGoodGuest guest → IsTrue (has_interrupt guest.shape key) → IsBeside key (opening (opening_guest guest)) no_latch
opens_tracked guest key good there =
    let valid = opening_valid guest key good there in
    record {
      whole = record { shape = good.shape; each = (openings_valid guest good).each };
      there = there;
      seats = length-replicate guest.shape.vcpus [];
      tracked = record {
        order = record { cause = omega arith; offer = omega arith; spent = omega arith };
        lpi = λ h. valid.no_rise;
        latched = away (record {
          nowhere = λ vcpu. ap (filter (is_of key)) (empty_at guest.shape.vcpus vcpu);
          record_is = ap (λ b. b || (irq_at (opening_guest guest) key).soft) valid.no_rise ∙ valid.no_soft;
        });
      };
    }

pub latches : Latches
latches spec key moments good there history edge =
    let guest = opening_guest spec in
    let end = beside_all key (opening_course guest) moments no_latch history edge (opens_tracked spec key good there) in
    let state = (course_of (opening_course guest) moments).ideal in
    record {
      there = cause_is key state _ end.tracked;
      found = λ vcpu reg found h. (acknowledge_finds key state _ end.tracked vcpu reg found h).caused;
      came = λ vcpu reg found h. ltb-true _ _ (acknowledge_finds key state _ end.tracked vcpu reg found h).came;
    }
