-- What the moves of an interrupt and the accesses of its interface do to its latched causes.
use Rattle.std.proofs.Common.{◌≡◌, ◌≢◌, ℕ, ◌<◌, ◌==◌, ◌&&◌, ◌||◌, not, Bool, true, false, cond, IsTrue, inl, inr, List, [], ◌∷◌, ◌++◌, map, filter, find, length, Option, option_map, is_none, is_some, Some, None, nat_lt, refl, sym, ap, ◌∙◌, subst}
use Rattle.std.specs.Option.{option_map_or}
use Rattle.std.proofs.lemmas.Bool.{and_parts, cases_eq, not-true}
use Rattle.std.proofs.lemmas.Simd.{map-map}
use Rattle.floor_histories.specs.Words.{IccReg, Iar0, Iar1, Key, GuestShape, has_interrupt, intid_of, is_same_key, IsShape, G0, G1, Irq, cleared, is_number}
use Rattle.floor_histories.proofs.GicBase.KeyLemmas.{same_key, same_itself}
use Rattle.floor_histories.specs.Registers.{Candidate, CpuRec, taken_by, deactivated_by, answer_of, is_deliverable, AtInterface, candidates_at, acknowledged_entry, deactivated_entry, acknowledged_at, deactivated_at, interface_after, interface_answer, acknowledged, intid_read}
use Rattle.floor_histories.specs.Calls.{Event, Up, Down, Touch, Reach, Take, Leave, Enable, Cpu, Put, CtlrBegin, CtlrEnd, ItsBegin, Found, Runs, Done, Stalls, Entry, Moved, may_reach, may_take, reached, taken, left, CanHappen}
use Rattle.floor_histories.specs.GicCall.declared.event.Event.TheVariants.{Raise, Read, ItsEnd, Queue}
use Rattle.floor_histories.specs.GicCall.declared.event.Found.TheVariants.{Answer}
use Rattle.floor_histories.specs.Histories.{irq_at, cpu_at, Ideal, Standing, standing_at, is_of, moved_at, is_home, shown_at, interface_at, with_irq, with_standing, is_allowed, handed_out, happened, with_entry, without, standing_of, after_take, after_leave}
use Rattle.floor_histories.proofs.IdealGuests.KeyLemmas.{IsWhole}
use Rattle.law_histories.specs.Latches.{Latch, is_iar, is_pending_at, acknowledges, brings_cause, clears_causes, is_offered}
use Rattle.law_histories.proofs.LatchLemmas.{causes_of, entry_causes, IsStanding, IsAway, IsLatched, away, stands, IsEntryLatched, latch_by, unchanged, offered_now, idle_now, left_now, accessed_now}
use Rattle.law_histories.proofs.StandLemmas.{of_key, standing_of_key, found_none, found_first, filter_changed, home_nowhere, put_here, put_other, added_other, added_key, entry_other, entry_key, left_other, left_key}
use Rattle.law_histories.proofs.StateLemmas.{record_is}
use Rattle.law_histories.proofs.LatchSteps.{IsTrackedIn, no_interrupt, same_number, deliverable_caused, stays, raises, ups, downs, touches, standing_is, moved_other}

pub same_sym : (one other : Key) → is_same_key one other ≡ false → is_same_key other one ≡ false
same_sym one other h = of (is_same_key other one) refl
  where
    clash : is_same_key other one ≡ true → ⊥
    clash e = let same = ap (is_same_key one) (same_key other one e) ∙ same_itself one in absurd (cc)

    of : (b : Bool) → is_same_key other one ≡ b → b ≡ false
    of true e = absurd (clash e)
    of false e = refl

-- An access of an interface, interrupt by interrupt.

mapped_itself : {X : Type 0} (xs : List X) → map (λ x. x) xs ≡ xs
mapped_itself [] = refl
mapped_itself (x ∷ xs) = ap (λ ys. x ∷ ys) (mapped_itself xs)

abbrev pub acked : Option Candidate → AtInterface → AtInterface
acked taken one = option_map_or (λ found. cond (intid_of one.key == found.id) (acknowledged_entry one) one) taken one

abbrev pub ended : Option ℕ → AtInterface → AtInterface
ended id one = option_map_or (λ id. cond (intid_of one.key == id) (deactivated_entry one) one) id one

pub acked_each : (taken : Option Candidate) (at : List AtInterface) → acknowledged_at taken at ≡ map (acked taken) at
acked_each None at = sym (mapped_itself at)
acked_each (Some found) at = refl

pub ended_each : (id : Option ℕ) (at : List AtInterface) → deactivated_at id at ≡ map (ended id) at
ended_each None at = sym (mapped_itself at)
ended_each (Some id) at = refl

-- the interrupt is the one that was taken
abbrev is_taken : Option Candidate → Key → Bool
is_taken taken key = option_map_or (λ found. intid_of key == found.id) taken false

-- what an access leaves of one
record IsAccessed (b : Bool) (before after : AtInterface) : Type 0 where
  pub key : after.key ≡ before.key
  pub pending : after.pending ≡ cond b false before.pending
  pub rise : after.rise ≡ cond b false before.rise
  pub soft : after.soft ≡ cond b false before.soft

acked_is : (taken : Option Candidate) (one : AtInterface) → IsAccessed (is_taken taken one.key) one (acked taken one)
acked_is None one = record { key = refl; pending = refl; rise = refl; soft = refl }
acked_is (Some found) one = of (intid_of one.key == found.id)
  where
    of : (b : Bool) → IsAccessed b one (cond b (acknowledged_entry one) one)
    of true = record { key = refl; pending = refl; rise = refl; soft = refl }
    of false = record { key = refl; pending = refl; rise = refl; soft = refl }

ended_is : (id : Option ℕ) (b : Bool) (one two : AtInterface) → IsAccessed b one two → IsAccessed b one (ended id two)
ended_is None b one two is = is
ended_is (Some id) b one two is = of (intid_of two.key == id)
  where
    of : (c : Bool) → IsAccessed b one (cond c (deactivated_entry two) two)
    of true = record { key = is.key; pending = is.pending; rise = is.rise; soft = is.soft }
    of false = is

-- only a read of IAR takes one, which it answers
taken_write : (reg : IccReg) (value : ℕ) (cpu : CpuRec) (among : List Candidate) → taken_by reg (Some value) cpu among ≡ None
taken_write Iar0 value cpu among = refl
taken_write Iar1 value cpu among = refl
taken_write reg value cpu among = refl

taken_answer : (key : Key) (o : Option Candidate) → (1023 == intid_of key) ≡ false → is_taken o key ≡ is_number (intid_of key) (Some (intid_read o))
taken_answer key None apart = sym apart
taken_answer key (Some found) apart = same_number (intid_of key) found.id

taken_is : (shape : GuestShape) (key : Key) (reg : IccReg) (cpu : CpuRec) (among : List Candidate) → IsShape shape → IsTrue (has_interrupt shape key) → is_taken (taken_by reg None cpu among) key ≡ (is_iar reg && is_number (intid_of key) (answer_of reg None cpu among))
taken_is shape key Iar0 cpu among good there = taken_answer key (acknowledged G0 cpu among) (no_interrupt shape key good there)
taken_is shape key Iar1 cpu among good there = taken_answer key (acknowledged G1 cpu among) (no_interrupt shape key good there)
taken_is shape key reg cpu among good there = refl

module _ (state : Ideal) (key : Key) (whole : IsWhole state.guest) (there : IsTrue (has_interrupt state.guest.shape key)) (seats : length state.at ≡ state.guest.shape.vcpus) (edge : (irq_at state.guest key).edge ≡ true) (latch : Latch) (is : IsTrackedIn key state latch) where
  -- Reach.

  away_is : IsTrue (is_home state key) → IsAway (of_key state key) (irq_at state.guest key) latch
  away_is home = of is.latched
    where
      of : IsLatched key (of_key state key) (irq_at state.guest key) latch → IsAway (of_key state key) (irq_at state.guest key) latch
      of (away a) = a
      of (stands s) = absurd (let none = home_nowhere state key home s.vcpu in let some = s.here in cc)

  within : (vcpu : ℕ) → vcpu < state.guest.shape.vcpus → vcpu < length state.at
  within vcpu few = subst (λ n. vcpu < n) (sym seats) few

  reaches_so : (vcpu : ℕ) (none : Bool) → is_none (irq_at state.guest key).act_by ≡ none → vcpu < state.guest.shape.vcpus → IsTrue (is_home state key) → IsTrue (may_reach state.guest.shape key (irq_at state.guest key) vcpu (cpu_at state.guest vcpu))
      → (after : Ideal) (moved : Moved) → moved ≡ cond none (record { irq = cleared (irq_at state.guest key); entry = record { pending = true; active = false; rise = (irq_at state.guest key).rise; soft = (irq_at state.guest key).soft } }) (record { irq = irq_at state.guest key; entry = record { pending = false; active = true; rise = false; soft = false } })
      → irq_at after.guest key ≡ moved.irq → of_key after key vcpu ≡ standing_of_key key moved.entry ∷ [] → ((other : ℕ) → other ≢ vcpu → of_key after key other ≡ []) → IsTrackedIn key after (latch_by false true false false latch)
  reaches_so vcpu true none few home may after moved moved_is irq_now here elsewhere =
      let a = away_is home in
      let caused_is : causes_of (irq_at state.guest key) ≡ true = deliverable_caused key (irq_at state.guest key) (irq_at state.guest key).act_by vcpu (cpu_at state.guest vcpu) state.guest.shape edge (ripe (irq_at state.guest key).act_by none may) in
      offered_now key (of_key state key) (irq_at state.guest key) latch is (of_key after key) (irq_at after.guest key) vcpu moved.entry here elsewhere
      (ap (λ (m : Moved). m.entry.pending) moved_is) (ap (λ (m : Moved). m.entry.rise) moved_is) (ap (λ (m : Moved). entry_causes m.entry) moved_is ∙ caused_is)
      (ap (λ (i : Irq). i.rise) irq_now ∙ ap (λ (m : Moved). m.irq.rise) moved_is) (ap (λ (i : Irq). i.soft) irq_now ∙ ap (λ (m : Moved). m.irq.soft) moved_is) (sym a.record_is ∙ caused_is)
    where
      ripe : (o : Option ℕ) → is_none o ≡ true → IsTrue (is_number vcpu o || is_deliverable key (irq_at state.guest key) vcpu (cpu_at state.guest vcpu) state.guest.shape) → is_deliverable key (irq_at state.guest key) vcpu (cpu_at state.guest vcpu) state.guest.shape ≡ true
      ripe None e h = h
      ripe (Some n) e h = absurd (cc)
  reaches_so vcpu false none few home may after moved moved_is irq_now here elsewhere =
      let a = away_is home in
      idle_now key (of_key state key) (irq_at state.guest key) latch is true (of_key after key) (irq_at after.guest key) vcpu moved.entry here elsewhere
      (ap (λ (m : Moved). m.entry.pending) moved_is) (ap (λ (m : Moved). m.entry.rise) moved_is) (ap (λ (m : Moved). m.entry.soft) moved_is)
      (ap (λ (i : Irq). i.rise) irq_now ∙ ap (λ (m : Moved). m.irq.rise) moved_is) (ap (λ (i : Irq). i.soft) irq_now ∙ ap (λ (m : Moved). m.irq.soft) moved_is) a.record_is

  pub reaches : (actor : ℕ) (other : Key) (vcpu : ℕ) → vcpu < state.guest.shape.vcpus → IsTrue (is_allowed state actor (Reach other vcpu)) → IsTrackedIn key (happened actor (Reach other vcpu) state) (latch_by false (is_same_key key other) false false latch)
  reaches actor other vcpu few allowed = of (is_same_key key other) refl
    where
      standing : List Standing
      standing = standing_at state vcpu

      mine : other ≡ key → IsTrackedIn key (happened actor (Reach other vcpu) state) (latch_by false true false false latch)
      mine same =
          let both = and_parts (is_home state other) (may_reach state.guest.shape other (irq_at state.guest other) vcpu (cpu_at state.guest vcpu)) allowed in
          let home : IsTrue (is_home state key) = subst (λ k. IsTrue (is_home state k)) same both.0 in
          let may : IsTrue (may_reach state.guest.shape key (irq_at state.guest key) vcpu (cpu_at state.guest vcpu)) = subst (λ k. IsTrue (may_reach state.guest.shape k (irq_at state.guest k) vcpu (cpu_at state.guest vcpu))) same both.1 in
          reaches_so vcpu (is_none (irq_at state.guest key).act_by) refl few home may (happened actor (Reach other vcpu) state) (reached (irq_at state.guest key)) refl
          (record_is state key whole there actor (Reach other vcpu) ∙ ap (λ k. cond (is_same_key key k) (reached (irq_at state.guest key)).irq (irq_at state.guest key)) same ∙ ap (λ b. cond b (reached (irq_at state.guest key)).irq (irq_at state.guest key)) (same_itself key))
          (put_here state key vcpu (standing_at state vcpu ++ standing_of_key other (reached (irq_at state.guest other)).entry ∷ []) (within vcpu few)
          ∙ ap (λ k. filter (is_of key) (standing_at state vcpu ++ standing_of_key k (reached (irq_at state.guest k)).entry ∷ [])) same
          ∙ added_key key (standing_at state vcpu) (reached (irq_at state.guest key)).entry (home_nowhere state key home vcpu))
          (λ one differ. put_other state key vcpu (standing_at state vcpu ++ standing_of_key other (reached (irq_at state.guest other)).entry ∷ []) one differ ∙ home_nowhere state key home one)

      of : (b : Bool) → is_same_key key other ≡ b → IsTrackedIn key (happened actor (Reach other vcpu) state) (latch_by false b false false latch)
      of true e = mine (sym (same_key key other e))
      of false e =
          moved_other state key whole there seats edge latch is (happened actor (Reach other vcpu) state) vcpu (standing_at state vcpu ++ standing_of_key other (reached (irq_at state.guest other)).entry ∷ []) (irq_at state.guest key)
          (added_other key (standing_at state vcpu) (standing_of_key other (reached (irq_at state.guest other)).entry) (same_sym key other e))
          (record_is state key whole there actor (Reach other vcpu) ∙ ap (λ b. cond b (reached (irq_at state.guest key)).irq (irq_at state.guest key)) e) refl few

  -- Take and leave.

  -- whichever state a move leads to, where the interrupt is another
  module _ (other : Key) (vcpu : ℕ) (apart : is_same_key key other ≡ false) (few : vcpu < state.guest.shape.vcpus) (change : Moved → Irq) (standing : Moved → List Standing) (same : (moved : Moved) → filter (is_of key) (standing moved) ≡ of_key state key vcpu) where
    pub move_other : (o : Option Moved) → irq_at (option_map_or (λ moved. with_standing (with_irq state other (change moved)) vcpu (standing moved)) o state).guest key ≡ irq_at state.guest key
        → IsTrackedIn key (option_map_or (λ moved. with_standing (with_irq state other (change moved)) vcpu (standing moved)) o state) (latch_by false false false false latch)
    move_other None now = stays state key whole there seats edge latch is state refl refl
    move_other (Some moved) now = moved_other state key whole there seats edge latch is (with_standing (with_irq state other (change moved)) vcpu (standing moved)) vcpu (standing moved) (irq_at state.guest key) (same moved) now refl few

  -- and where it is this one
  abbrev moved_of : Standing → Moved
  moved_of one = record { irq = irq_at state.guest key; entry = one.entry }

  module _ (vcpu : ℕ) (few : vcpu < state.guest.shape.vcpus) where
    takes_so : (o : Option Standing) → find (is_of key) (standing_at state vcpu) ≡ o → IsTrue (option_map_or (λ moved. may_take state.guest.shape key moved vcpu (cpu_at state.guest vcpu)) (option_map moved_of o) false)
        → (after : Ideal) → after ≡ option_map_or (λ moved. with_standing (with_irq state key (taken moved).irq) vcpu (with_entry key (taken moved).entry (standing_at state vcpu))) (option_map moved_of o) state
        → irq_at after.guest key ≡ option_map_or (λ moved. (taken moved).irq) (option_map moved_of o) (irq_at state.guest key)
        → IsTrackedIn key after (latch_by false true false false latch)
    takes_so None found may after after_is now = absurd (cc)
    takes_so (Some one) found may after after_is now =
        let where_is = standing_is state key whole there seats edge latch is vcpu one found in
        let s = where_is.0 in
        let parts = and_parts (one.entry.active && not one.entry.pending) (is_deliverable key (record (irq_at state.guest key) { act_by = None }) vcpu (cpu_at state.guest vcpu) state.guest.shape) may in
        let idle : one.entry.pending ≡ false = not-true one.entry.pending (and_parts one.entry.active (not one.entry.pending) parts.0).1 in
        let caused_is : causes_of (irq_at state.guest key) ≡ true = deliverable_caused key (irq_at state.guest key) None vcpu (cpu_at state.guest vcpu) state.guest.shape edge parts.1 in
        let new : Entry = record { pending = true; active = one.entry.active; rise = (irq_at state.guest key).rise; soft = (irq_at state.guest key).soft } in
        let at_is : (n : ℕ) → of_key after key n ≡ of_key (with_standing state vcpu (with_entry key new (standing_at state vcpu))) key n = λ n. ap (λ a. of_key a key n) after_is in
        let here : of_key state key vcpu ≡ standing_of_key key s.entry ∷ [] = subst (λ v. of_key state key v ≡ standing_of_key key s.entry ∷ []) where_is.1 s.here in
        offered_now key (of_key state key) (irq_at state.guest key) latch is (of_key after key) (irq_at after.guest key) vcpu new
        (at_is vcpu ∙ put_here state key vcpu (with_entry key new (standing_at state vcpu)) (within vcpu few) ∙ entry_key key s.entry new (standing_at state vcpu) here)
        (λ other differ. at_is other ∙ put_other state key vcpu (with_entry key new (standing_at state vcpu)) other differ ∙ s.elsewhere other (λ e. differ (e ∙ where_is.1)))
        refl refl caused_is (ap (λ (i : Irq). i.rise) now) (ap (λ (i : Irq). i.soft) now)
        (sym (idle_is s.entry s.entry.pending (ap (λ (e : Entry). e.pending) where_is.2 ∙ idle) s.latched) ∙ caused_is)
      where
        idle_is : (entry : Entry) (b : Bool) → b ≡ false → IsEntryLatched b (irq_at state.guest key) entry latch → causes_of (irq_at state.guest key) ≡ nat_lt latch.spent latch.cause
        idle_is entry true e l = absurd (cc)
        idle_is entry false e l = l.record_is

    leaves_so : (o : Option Standing) → find (is_of key) (standing_at state vcpu) ≡ o → IsTrue (is_some (option_map moved_of o))
        → (after : Ideal) → after ≡ option_map_or (λ moved. with_standing (with_irq state key (left vcpu moved)) vcpu (without key (standing_at state vcpu))) (option_map moved_of o) state
        → irq_at after.guest key ≡ option_map_or (left vcpu) (option_map moved_of o) (irq_at state.guest key)
        → IsTrackedIn key after (latch_by false false false false latch)
    leaves_so None found some after after_is now = absurd (cc)
    leaves_so (Some one) found some after after_is now =
        let where_is = standing_is state key whole there seats edge latch is vcpu one found in
        let s = where_is.0 in
        let at_is : (n : ℕ) → of_key after key n ≡ of_key (with_standing state vcpu (without key (standing_at state vcpu))) key n = λ n. ap (λ a. of_key a key n) after_is in
        left_now key (of_key state key) (irq_at state.guest key) latch is s (of_key after key) (irq_at after.guest key)
        (λ other. at_is other ∙ elim (cases_eq other vcpu) [
          | inl e ↦ subst (λ n. of_key (with_standing state vcpu (without key (standing_at state vcpu))) key n ≡ []) (sym e) (put_here state key vcpu (without key (standing_at state vcpu)) (within vcpu few) ∙ left_key key (standing_at state vcpu))
          | inr differ ↦ put_other state key vcpu (without key (standing_at state vcpu)) other differ ∙ s.elsewhere other (λ e. differ (e ∙ where_is.1))
        ])
        (ap (λ (i : Irq). i.rise) now ∙ ap (λ (e : Entry). (irq_at state.guest key).rise || e.rise) (sym where_is.2))
        (ap (λ (i : Irq). i.soft) now ∙ ap (λ (e : Entry). (irq_at state.guest key).soft || e.soft) (sym where_is.2))

  pub takes : (actor : ℕ) (other : Key) (vcpu : ℕ) → vcpu < state.guest.shape.vcpus → IsTrue (is_allowed state actor (Take other vcpu)) → IsTrackedIn key (happened actor (Take other vcpu) state) (latch_by false (is_same_key key other) false false latch)
  takes actor other vcpu few allowed = of (is_same_key key other) refl
    where
      mine : other ≡ key → IsTrackedIn key (happened actor (Take other vcpu) state) (latch_by false true false false latch)
      mine same =
          takes_so vcpu few (find (is_of key) (standing_at state vcpu)) refl (subst (λ k. IsTrue (is_allowed state actor (Take k vcpu))) same allowed) (happened actor (Take other vcpu) state) (ap (λ k. after_take k vcpu state) same)
          (record_is state key whole there actor (Take other vcpu) ∙ ap (λ k. cond (is_same_key key k) (option_map_or (λ moved. (taken moved).irq) (moved_at state vcpu key) (irq_at state.guest key)) (irq_at state.guest key)) same ∙ ap (λ b. cond b (option_map_or (λ moved. (taken moved).irq) (moved_at state vcpu key) (irq_at state.guest key)) (irq_at state.guest key)) (same_itself key))

      of : (b : Bool) → is_same_key key other ≡ b → IsTrackedIn key (happened actor (Take other vcpu) state) (latch_by false b false false latch)
      of true e = mine (sym (same_key key other e))
      of false e =
          move_other other vcpu e few (λ moved. (taken moved).irq) (λ moved. with_entry other (taken moved).entry (standing_at state vcpu)) (λ moved. entry_other key other (taken moved).entry (standing_at state vcpu) e) (moved_at state vcpu other)
          (record_is state key whole there actor (Take other vcpu) ∙ ap (λ b. cond b (option_map_or (λ moved. (taken moved).irq) (moved_at state vcpu key) (irq_at state.guest key)) (irq_at state.guest key)) e)

  pub leaves : (actor : ℕ) (other : Key) (vcpu : ℕ) → vcpu < state.guest.shape.vcpus → IsTrue (is_allowed state actor (Leave other vcpu)) → IsTrackedIn key (happened actor (Leave other vcpu) state) (latch_by false false false false latch)
  leaves actor other vcpu few allowed = of (is_same_key key other) refl
    where
      mine : other ≡ key → IsTrackedIn key (happened actor (Leave other vcpu) state) (latch_by false false false false latch)
      mine same =
          leaves_so vcpu few (find (is_of key) (standing_at state vcpu)) refl (subst (λ k. IsTrue (is_allowed state actor (Leave k vcpu))) same allowed) (happened actor (Leave other vcpu) state) (ap (λ k. after_leave k vcpu state) same)
          (record_is state key whole there actor (Leave other vcpu) ∙ ap (λ k. cond (is_same_key key k) (option_map_or (left vcpu) (moved_at state vcpu key) (irq_at state.guest key)) (irq_at state.guest key)) same ∙ ap (λ b. cond b (option_map_or (left vcpu) (moved_at state vcpu key) (irq_at state.guest key)) (irq_at state.guest key)) (same_itself key))

      of : (b : Bool) → is_same_key key other ≡ b → IsTrackedIn key (happened actor (Leave other vcpu) state) (latch_by false false false false latch)
      of true e = mine (sym (same_key key other e))
      of false e =
          move_other other vcpu e few (left vcpu) (λ moved. without other (standing_at state vcpu)) (λ moved. left_other key other (standing_at state vcpu) e) (moved_at state vcpu other)
          (record_is state key whole there actor (Leave other vcpu) ∙ ap (λ b. cond b (option_map_or (left vcpu) (moved_at state vcpu key) (irq_at state.guest key)) (irq_at state.guest key)) e)

  -- Accesses.

  module _ (actor vcpu : ℕ) (reg : IccReg) (write : Option ℕ) (few : vcpu < state.guest.shape.vcpus) where
    abbrev taken_now : Option Candidate
    taken_now = taken_by reg write (cpu_at state.guest vcpu) (candidates_at (interface_at state vcpu))

    abbrev ended_now : Option ℕ
    ended_now = deactivated_by reg write (cpu_at state.guest vcpu)

    abbrev access : Standing → Standing
    access one = standing_of (ended ended_now (acked taken_now (shown_at state one)))

    access_is : (one : Standing) → IsAccessed (is_taken taken_now one.key) (shown_at state one) (ended ended_now (acked taken_now (shown_at state one)))
    access_is one = ended_is ended_now (is_taken taken_now one.key) (shown_at state one) (acked taken_now (shown_at state one)) (acked_is taken_now (shown_at state one))

    at_is : map standing_of (interface_after reg write (interface_at state vcpu)).at ≡ map access (standing_at state vcpu)
    at_is =
        ap (map standing_of) (ended_each ended_now (acknowledged_at taken_now (map (shown_at state) (standing_at state vcpu))) ∙ ap (map (ended ended_now)) (acked_each taken_now (map (shown_at state) (standing_at state vcpu))))
        ∙ ap (map standing_of) (map-map (ended ended_now) (acked taken_now) (map (shown_at state) (standing_at state vcpu)) ∙ map-map (λ x. ended ended_now (acked taken_now x)) (shown_at state) (standing_at state vcpu))
        ∙ map-map standing_of (λ x. ended ended_now (acked taken_now (shown_at state x))) (standing_at state vcpu)

    after : Ideal
    after = happened actor (Cpu vcpu reg write) state

    here_is : of_key (happened actor (Cpu vcpu reg write) state) key vcpu ≡ map access (of_key state key vcpu)
    here_is =
        put_here state key vcpu (map standing_of (interface_after reg write (interface_at state vcpu)).at) (within vcpu few)
        ∙ ap (filter (is_of key)) at_is ∙ filter_changed (is_of key) access (λ one. ap (λ k. is_same_key k key) (access_is one).key) (standing_at state vcpu)

    other_is : (other : ℕ) → other ≢ vcpu → of_key (happened actor (Cpu vcpu reg write) state) key other ≡ of_key state key other
    other_is other differ = put_other state key vcpu (map standing_of (interface_after reg write (interface_at state vcpu)).at) other differ

    -- the interrupt is not there
    unaccessed : of_key state key vcpu ≡ [] → IsTrackedIn key (happened actor (Cpu vcpu reg write) state) (latch_by false false false false latch)
    unaccessed none =
        unchanged key (of_key state key) (irq_at state.guest key) latch is (of_key (happened actor (Cpu vcpu reg write) state) key) (irq_at state.guest key)
        (λ other. elim (cases_eq other vcpu) [
          | inl e ↦ subst (λ n. of_key (happened actor (Cpu vcpu reg write) state) key n ≡ of_key state key n) (sym e) (here_is ∙ ap (map access) none ∙ sym none)
          | inr differ ↦ other_is other differ
        ]) refl refl

    pending_none : of_key state key vcpu ≡ [] → is_pending_at state vcpu key ≡ false
    pending_none none = ap (λ o. option_map_or (λ (m : Moved). m.entry.pending) (option_map (λ (standing : Standing). record { irq = irq_at state.guest key; entry = standing.entry }) o) false) (found_none (is_of key) (standing_at state vcpu) none)

    pending_is : (entry : Entry) → of_key state key vcpu ≡ standing_of_key key entry ∷ [] → is_pending_at state vcpu key ≡ entry.pending
    pending_is entry some = ap (λ o. option_map_or (λ (m : Moved). m.entry.pending) (option_map (λ (standing : Standing). record { irq = irq_at state.guest key; entry = standing.entry }) o) false) (found_first (is_of key) (standing_at state vcpu) (standing_of_key key entry) [] some)

    -- it is there
    accessed_there : (s : IsStanding key (of_key state key) (irq_at state.guest key) latch) → s.vcpu ≡ vcpu → (answered : Bool) → is_taken taken_now key ≡ answered → IsTrackedIn key (happened actor (Cpu vcpu reg write) state) (latch_by false false false (answered && s.entry.pending) latch)
    accessed_there s same answered taken_same =
        let one = standing_of_key key s.entry in
        let now = access one in
        let says = access_is one in
        let now_is : now ≡ standing_of_key key now.entry = ap (λ k. standing_of_key k now.entry) says.key in
        accessed_now key (of_key state key) (irq_at state.guest key) latch is s answered (of_key (happened actor (Cpu vcpu reg write) state) key) (irq_at state.guest key) now.entry
        (subst (λ n. of_key (happened actor (Cpu vcpu reg write) state) key n ≡ standing_of_key key now.entry ∷ []) (sym same) (here_is ∙ ap (map access) (subst (λ n. of_key state key n ≡ one ∷ []) same s.here) ∙ ap (λ x. x ∷ []) now_is))
        (λ other differ. other_is other (λ e. differ (e ∙ sym same)) ∙ s.elsewhere other differ) refl refl
        (says.pending ∙ ap (λ b. cond b false s.entry.pending) taken_same) (says.rise ∙ ap (λ b. cond b false s.entry.rise) taken_same) (says.soft ∙ ap (λ b. cond b false s.entry.soft) taken_same)

    -- whichever
    accessed_so : (answered : Bool) → is_taken taken_now key ≡ answered → IsTrackedIn key (happened actor (Cpu vcpu reg write) state) (latch_by false false false (answered && is_pending_at state vcpu key) latch)
    accessed_so answered taken_same = of is.latched
      where
        and_false : (b : Bool) → (b && false) ≡ false
        and_false true = refl
        and_false false = refl

        nowhere : of_key state key vcpu ≡ [] → IsTrackedIn key (happened actor (Cpu vcpu reg write) state) (latch_by false false false (answered && is_pending_at state vcpu key) latch)
        nowhere none = subst (λ b. IsTrackedIn key (happened actor (Cpu vcpu reg write) state) (latch_by false false false b latch)) (sym (ap (λ b. answered && b) (pending_none none) ∙ and_false answered)) (unaccessed none)

        of : IsLatched key (of_key state key) (irq_at state.guest key) latch → IsTrackedIn key (happened actor (Cpu vcpu reg write) state) (latch_by false false false (answered && is_pending_at state vcpu key) latch)
        of (away a) = nowhere (a.nowhere vcpu)
        of (stands s) = elim (cases_eq s.vcpu vcpu) [
          | inl same ↦
              subst (λ b. IsTrackedIn key (happened actor (Cpu vcpu reg write) state) (latch_by false false false (answered && b) latch))
              (sym (pending_is s.entry (subst (λ n. of_key state key n ≡ standing_of_key key s.entry ∷ []) same s.here))) (accessed_there s same answered taken_same)
          | inr differ ↦ nowhere (s.elsewhere vcpu (λ e. differ (sym e)))
        ]

  pub accesses : (actor vcpu : ℕ) (reg : IccReg) (write : Option ℕ) → vcpu < state.guest.shape.vcpus
      → IsTrackedIn key (happened actor (Cpu vcpu reg write) state) (latch_by false false false (acknowledges state key (Cpu vcpu reg write) (Answer (interface_answer reg write (interface_at state vcpu)))) latch)
  accesses actor vcpu reg None few = accessed_so actor vcpu reg None few (is_iar reg && is_number (intid_of key) (interface_answer reg None (interface_at state vcpu))) (taken_is state.guest.shape key reg (cpu_at state.guest vcpu) (candidates_at (interface_at state vcpu)) whole.shape there)
  accesses actor vcpu reg (Some value) few = accessed_so actor vcpu reg (Some value) few false (ap (λ o. is_taken o key) (taken_write reg value (cpu_at state.guest vcpu) (candidates_at (interface_at state vcpu))))

  -- Each event.

  pub event_tracked :
      (actor : ℕ) (event : Event) (found : Found) → CanHappen state.guest.shape event → IsTrue (is_allowed state actor event) → found ≡ handed_out state event
      → IsTrackedIn key (happened actor event state) (latch_by (brings_cause key event) (is_offered key event) (clears_causes key event) (acknowledges state key event found) latch)
  event_tracked actor (Raise other) found can allowed hands = raises state key whole there seats edge latch is actor other
  event_tracked actor (Up other) found can allowed hands = ups state key whole there seats edge latch is actor other can
  event_tracked actor (Down other) found can allowed hands = downs state key whole there seats edge latch is actor other
  event_tracked actor (Touch other touching) found can allowed hands = touches state key whole there seats edge latch is actor other touching allowed can
  event_tracked actor (Reach other vcpu) found can allowed hands = reaches actor other vcpu can.1 allowed
  event_tracked actor (Take other vcpu) found can allowed hands = takes actor other vcpu can.1 allowed
  event_tracked actor (Leave other vcpu) found can allowed hands = leaves actor other vcpu can.1 allowed
  event_tracked actor (Cpu vcpu reg write) found can allowed hands =
      subst (λ f. IsTrackedIn key (happened actor (Cpu vcpu reg write) state) (latch_by false false false (acknowledges state key (Cpu vcpu reg write) f) latch)) (sym hands) (accesses actor vcpu reg write can.0)
  event_tracked actor (Enable vcpu) found can allowed hands = stays state key whole there seats edge latch is (happened actor (Enable vcpu) state) refl refl
  event_tracked actor (Read place) found can allowed hands = stays state key whole there seats edge latch is (happened actor (Read place) state) refl refl
  event_tracked actor (Put word value) found can allowed hands = stays state key whole there seats edge latch is (happened actor (Put word value) state) refl refl
  event_tracked actor (CtlrBegin enables) found can allowed hands = stays state key whole there seats edge latch is (happened actor (CtlrBegin enables) state) refl refl
  event_tracked actor CtlrEnd found can allowed hands = stays state key whole there seats edge latch is (happened actor CtlrEnd state) refl refl
  event_tracked actor ItsBegin found can allowed hands = stays state key whole there seats edge latch is (happened actor ItsBegin state) refl refl
  event_tracked actor ItsEnd found can allowed hands = stays state key whole there seats edge latch is (happened actor ItsEnd state) refl refl
  event_tracked actor (Queue offset Runs) found can allowed hands = stays state key whole there seats edge latch is (happened actor (Queue offset Runs) state) refl refl
  event_tracked actor (Queue offset (Done words)) found can allowed hands = stays state key whole there seats edge latch is (happened actor (Queue offset (Done words)) state) refl refl
  event_tracked actor (Queue offset (Stalls fault)) found can allowed hands = stays state key whole there seats edge latch is (happened actor (Queue offset (Stalls fault)) state) refl refl
