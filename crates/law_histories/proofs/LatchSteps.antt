-- What each event does to the latched causes of an interrupt.
use Rattle.std.proofs.Common.{◌≡◌, ℕ, ◌<◌, ◌==◌, ◌&&◌, ◌||◌, Bool, true, false, cond, IsTrue, inl, inr, List, [], ◌∷◌, filter, find, length, Option, Some, refl, sym, ap, ◌∙◌, subst, arith}
use Rattle.std.specs.Option.{option_map_or}
use Rattle.std.proofs.lemmas.Bool.{and_parts, cases_eq, eq-eqb, ne_eqb}
use Rattle.std.proofs.lemmas.Grind.{common_steps}
use Rattle.floor_histories.specs.Words.{Key, Private, Spi, Lpi, Kind, SetEnable, ClearEnable, SetPending, ClearPending, SetActive, ClearActive, Priority, Config, Routing, GuestShape, has_interrupt, intid_of, is_same_key, is_sgi, IsShape, Irq, raised, wire_up, wire_down, cleared, is_pending}
use Rattle.floor_histories.specs.GicBase.declared.operation.Kind.TheVariants.{Group}
use Rattle.floor_histories.proofs.GicBase.KeyLemmas.{same_key}
use Rattle.floor_histories.specs.Registers.{CpuRec, is_deliverable}
use Rattle.floor_histories.specs.Calls.{Event, Up, Down, Touch, Touching, Register, Enables, MapLpi, touched, is_lpi, CanTouch, has_wire}
use Rattle.floor_histories.specs.GicCall.declared.event.Event.TheVariants.{Raise}
use Rattle.floor_histories.specs.GicCall.declared.touch.Touching.TheVariants.{Read as ReadTouch, Retarget, Configure, Forget}
use Rattle.floor_histories.specs.Histories.{irq_at, Ideal, Standing, standing_at, is_of, is_home, with_standing, happened}
use Rattle.floor_histories.proofs.IdealGuests.KeyLemmas.{IsWhole}
use Rattle.law_histories.specs.Latches.{Latch, brings_cause, clears_causes}
use Rattle.law_histories.proofs.LatchLemmas.{causes_of, IsStanding, IsLatched, away, stands, IsTracked, latch_by, unchanged, caused, cleared_now}
use Rattle.law_histories.proofs.StandLemmas.{of_key, standing_of_key, found_none, found_first, home_nowhere, put_here, put_other}
use Rattle.law_histories.proofs.StateLemmas.{record_is}

-- no interrupt has the INTID 1023
pub no_interrupt : (shape : GuestShape) (key : Key) → IsShape shape → IsTrue (has_interrupt shape key) → (1023 == intid_of key) ≡ false
no_interrupt shape (Private vcpu id) is h = grind (arith, common_steps, h, is.spis)
no_interrupt shape (Spi id) is h = grind (arith, common_steps, h, is.spis)
no_interrupt shape (Lpi id) is h = grind (arith, common_steps, h, is.spis)

pub same_number : (m n : ℕ) → (m == n) ≡ (n == m)
same_number m n = elim (cases_eq m n) [
  | inl same ↦ eq-eqb m n same ∙ sym (eq-eqb n m (sym same))
  | inr differ ↦ ne_eqb m n differ ∙ sym (ne_eqb n m (λ e. differ (sym e)))
]

-- an edge-triggered interrupt that is deliverable, were it not active, has a cause
pub deliverable_caused : (key : Key) (irq : Irq) (act_by : Option ℕ) (vcpu : ℕ) (cpu : CpuRec) (shape : GuestShape) → irq.edge ≡ true → is_deliverable key (record irq { act_by = act_by }) vcpu cpu shape ≡ true → causes_of irq ≡ true
deliverable_caused key irq act_by vcpu cpu shape edge h = ap (λ b. cond b irq.rise irq.line || irq.soft) (sym edge) ∙ pending
  where
    pending : is_pending (record irq { act_by = act_by }) ≡ true
    pending = grind (arith, common_steps, h)

-- What a state says of an interrupt and of the numbers of its events.
abbrev pub IsTrackedIn : Key → Ideal → Latch → Type 0
IsTrackedIn key state latch = IsTracked key (of_key state key) (irq_at state.guest key) latch

module _ (state : Ideal) (key : Key) (whole : IsWhole state.guest) (there : IsTrue (has_interrupt state.guest.shape key)) (seats : length state.at ≡ state.guest.shape.vcpus) (edge : (irq_at state.guest key).edge ≡ true) (latch : Latch) (is : IsTrackedIn key state latch) where
  irq : Irq
  irq = irq_at state.guest key

  -- nothing of it changes but where it may
  pub stays : (after : Ideal) → of_key after key ≡ of_key state key → irq_at after.guest key ≡ irq_at state.guest key → IsTrackedIn key after (latch_by false false false false latch)
  stays after at same = unchanged key (of_key state key) (irq_at state.guest key) latch is (of_key after key) (irq_at after.guest key) (λ vcpu. ap (λ f. f vcpu) at) (ap (λ (i : Irq). i.rise) same) (ap (λ (i : Irq). i.soft) same)

  -- a change of a record, which may be its own
  changed_so : (actor : ℕ) (event : Event) (brings : Bool) (other : Key) (new : Irq)
      → of_key (happened actor event state) key ≡ of_key state key → irq_at (happened actor event state).guest key ≡ cond (is_same_key key other) new (irq_at state.guest key)
      → (is_same_key key other ≡ true → (now : Irq) → now ≡ new → IsTracked key (of_key (happened actor event state) key) now (latch_by brings false false false latch))
      → IsTrackedIn key (happened actor event state) (latch_by (is_same_key key other && brings) false false false latch)
  changed_so actor event brings other new at record_now mine = of (is_same_key key other) refl
    where
      of : (b : Bool) → is_same_key key other ≡ b → IsTrackedIn key (happened actor event state) (latch_by (b && brings) false false false latch)
      of true e = mine e _ (record_now ∙ ap (λ b. cond b new (irq_at state.guest key)) e)
      of false e = stays (happened actor event state) at (record_now ∙ ap (λ b. cond b new (irq_at state.guest key)) e)

  and_true : (b : Bool) → (b && true) ≡ b
  and_true true = refl
  and_true false = refl

  and_false : (b : Bool) → (b && false) ≡ false
  and_false true = refl
  and_false false = refl

  or_true : (b : Bool) → (b || true) ≡ true
  or_true true = refl
  or_true false = refl

  pub raises : (actor : ℕ) (other : Key) → IsTrackedIn key (happened actor (Raise other) state) (latch_by (is_same_key key other) false false false latch)
  raises actor other =
      subst (λ b. IsTrackedIn key (happened actor (Raise other) state) (latch_by b false false false latch)) (and_true (is_same_key key other))
      (changed_so actor (Raise other) true other (raised (irq_at state.guest key)) refl (record_is state key whole there actor (Raise other))
      (λ e now same. caused key (of_key state key) (irq_at state.guest key) latch is (of_key (happened actor (Raise other) state) key) now (λ vcpu. refl) (ap causes_of same ∙ or_true (irq_at state.guest key).rise) (λ h. ap (λ (i : Irq). i.rise) same ∙ is.lpi h)))

  pub ups : (actor : ℕ) (other : Key) → IsTrue (has_wire other && has_interrupt state.guest.shape other) → IsTrackedIn key (happened actor (Up other) state) (latch_by (is_same_key key other) false false false latch)
  ups actor other wired =
      subst (λ b. IsTrackedIn key (happened actor (Up other) state) (latch_by b false false false latch)) (and_true (is_same_key key other))
      (changed_so actor (Up other) true other (wire_up (irq_at state.guest key)) refl (record_is state key whole there actor (Up other))
      (λ e now same. caused key (of_key state key) (irq_at state.guest key) latch is (of_key (happened actor (Up other) state) key) now (λ vcpu. refl) (ap causes_of same) (λ h. absurd (no_wire key h (subst (λ k. IsTrue (has_wire k)) (sym (same_key key other e)) (and_parts (has_wire other) (has_interrupt state.guest.shape other) wired).0)))))
    where
      no_wire : (one : Key) → is_lpi one ≡ true → IsTrue (has_wire one) → ⊥
      no_wire (Private vcpu id) h w = absurd (cc)
      no_wire (Spi id) h w = absurd (cc)
      no_wire (Lpi id) h w = absurd (cc)

  -- an event that changes none of its causes
  keeps_causes : (actor : ℕ) (event : Event) (other : Key) (new : Irq) → of_key (happened actor event state) key ≡ of_key state key → irq_at (happened actor event state).guest key ≡ cond (is_same_key key other) new (irq_at state.guest key)
      → new.rise ≡ (irq_at state.guest key).rise → new.soft ≡ (irq_at state.guest key).soft → IsTrackedIn key (happened actor event state) (latch_by false false false false latch)
  keeps_causes actor event other new at record_now rise soft =
      subst (λ b. IsTrackedIn key (happened actor event state) (latch_by b false false false latch)) (and_false (is_same_key key other))
      (changed_so actor event false other new at record_now
      (λ e now same. unchanged key (of_key state key) (irq_at state.guest key) latch is (of_key (happened actor event state) key) now (λ vcpu. ap (λ f. f vcpu) at) (ap (λ (i : Irq). i.rise) same ∙ rise) (ap (λ (i : Irq). i.soft) same ∙ soft)))

  pub downs : (actor : ℕ) (other : Key) → IsTrackedIn key (happened actor (Down other) state) (latch_by false false false false latch)
  downs actor other = keeps_causes actor (Down other) other (wire_down (irq_at state.guest key)) refl (record_is state key whole there actor (Down other)) refl refl

  -- Touches.

  touch_keeps : (actor : ℕ) (other : Key) (touching : Touching) → (touched state.guest.shape other touching (irq_at state.guest key)).rise ≡ (irq_at state.guest key).rise → (touched state.guest.shape other touching (irq_at state.guest key)).soft ≡ (irq_at state.guest key).soft
      → IsTrackedIn key (happened actor (Touch other touching) state) (latch_by false false false false latch)
  touch_keeps actor other touching rise soft = keeps_causes actor (Touch other touching) other (touched state.guest.shape other touching (irq_at state.guest key)) refl (record_is state key whole there actor (Touch other touching)) rise soft

  either_rise : (b : Bool) (one two : Irq) → one.rise ≡ two.rise → (cond b one two).rise ≡ two.rise
  either_rise true one two h = h
  either_rise false one two h = refl

  either_soft : (b : Bool) (one two : Irq) → one.soft ≡ two.soft → (cond b one two).soft ≡ two.soft
  either_soft true one two h = h
  either_soft false one two h = refl

  unless_rise : (b : Bool) (one two : Irq) → two.rise ≡ one.rise → (cond b one two).rise ≡ one.rise
  unless_rise true one two h = refl
  unless_rise false one two h = h

  unless_soft : (b : Bool) (one two : Irq) → two.soft ≡ one.soft → (cond b one two).soft ≡ one.soft
  unless_soft true one two h = refl
  unless_soft false one two h = h

  -- ISPENDR
  pends : (actor : ℕ) (other : Key) (value : ℕ) → IsTrackedIn key (happened actor (Touch other (Register SetPending value)) state) (latch_by (is_same_key key other && value == 1) false false false latch)
  pends actor other value = of (value == 1) (record_is state key whole there actor (Touch other (Register SetPending value)))
    where
      after : Ideal
      after = happened actor (Touch other (Register SetPending value)) state

      of : (one : Bool) → irq_at (happened actor (Touch other (Register SetPending value)) state).guest key ≡ cond (is_same_key key other) (cond one (raised (irq_at state.guest key)) (irq_at state.guest key)) (irq_at state.guest key)
          → IsTrackedIn key (happened actor (Touch other (Register SetPending value)) state) (latch_by (is_same_key key other && one) false false false latch)
      of true now =
          changed_so actor (Touch other (Register SetPending value)) true other (raised (irq_at state.guest key)) refl now
          (λ e one same. caused key (of_key state key) (irq_at state.guest key) latch is (of_key state key) one (λ vcpu. refl) (ap causes_of same ∙ or_true (irq_at state.guest key).rise) (λ h. ap (λ (i : Irq). i.rise) same ∙ is.lpi h))
      of false now =
          changed_so actor (Touch other (Register SetPending value)) false other (irq_at state.guest key) refl now
          (λ e one same. unchanged key (of_key state key) (irq_at state.guest key) latch is (of_key state key) one (λ vcpu. refl) (ap (λ (i : Irq). i.rise) same) (ap (λ (i : Irq). i.soft) same))

  -- a touch that may clear them
  clears_so : (actor : ℕ) (other : Key) (touching : Touching) (clears : Bool) (new : Irq) → IsTrue (is_home state other)
      → irq_at (happened actor (Touch other touching) state).guest key ≡ cond (is_same_key key other) (cond clears new (irq_at state.guest key)) (irq_at state.guest key)
      → (is_same_key key other ≡ true → new.rise ≡ false) → new.soft ≡ false → IsTrackedIn key (happened actor (Touch other touching) state) (latch_by false false (is_same_key key other && clears) false latch)
  clears_so actor other touching clears new home now rise soft = of (is_same_key key other) refl clears now
    where
      of : (b : Bool) → is_same_key key other ≡ b → (c : Bool) → irq_at (happened actor (Touch other touching) state).guest key ≡ cond (is_same_key key other) (cond c new (irq_at state.guest key)) (irq_at state.guest key)
          → IsTrackedIn key (happened actor (Touch other touching) state) (latch_by false false (b && c) false latch)
      of true e true now =
          let same = now ∙ ap (λ b. cond b new (irq_at state.guest key)) e in
          cleared_now key (of_key state key) (irq_at state.guest key) latch is (of_key state key) (irq_at (happened actor (Touch other touching) state).guest key)
          (home_nowhere state key (subst (λ k. IsTrue (is_home state k)) (sym (same_key key other e)) home)) (ap (λ (i : Irq). i.rise) same ∙ rise e) (ap (λ (i : Irq). i.soft) same ∙ soft)
      of true e false now = stays (happened actor (Touch other touching) state) refl (now ∙ ap (λ b. cond b (irq_at state.guest key) (irq_at state.guest key)) e)
      of false e c now = stays (happened actor (Touch other touching) state) refl (now ∙ ap (λ b. cond b (cond c new (irq_at state.guest key)) (irq_at state.guest key)) e)

  unpends : (actor : ℕ) (other : Key) (value : ℕ) → IsTrue (is_home state other) → IsTrackedIn key (happened actor (Touch other (Register ClearPending value)) state) (latch_by false false (is_same_key key other && value == 1) false latch)
  unpends actor other value home = clears_so actor other (Register ClearPending value) (value == 1) (cleared (irq_at state.guest key)) home (record_is state key whole there actor (Touch other (Register ClearPending value))) (λ e. refl) refl

  forgets : (actor : ℕ) (other : Key) → IsTrue (is_home state other) → IsTrue (is_lpi other) → IsTrackedIn key (happened actor (Touch other Forget) state) (latch_by false false (is_same_key key other) false latch)
  forgets actor other home lpi =
      subst (λ b. IsTrackedIn key (happened actor (Touch other Forget) state) (latch_by false false b false latch)) (and_true (is_same_key key other))
      (clears_so actor other Forget true (touched state.guest.shape other Forget (irq_at state.guest key)) home (record_is state key whole there actor (Touch other Forget))
      (λ e. is.lpi (ap is_lpi (same_key key other e) ∙ lpi)) refl)

  registers : (actor : ℕ) (other : Key) (kind : Kind) (value : ℕ) → IsTrue (is_home state other)
      → IsTrackedIn key (happened actor (Touch other (Register kind value)) state) (latch_by (brings_cause key (Touch other (Register kind value))) false (clears_causes key (Touch other (Register kind value))) false latch)
  registers actor other SetPending value home = pends actor other value
  registers actor other ClearPending value home = unpends actor other value home
  registers actor other Group value home = touch_keeps actor other (Register Group value) refl refl
  registers actor other SetEnable value home = touch_keeps actor other (Register SetEnable value) (either_rise (value == 1) _ (irq_at state.guest key) refl) (either_soft (value == 1) _ (irq_at state.guest key) refl)
  registers actor other ClearEnable value home = touch_keeps actor other (Register ClearEnable value) (either_rise (value == 1) _ (irq_at state.guest key) refl) (either_soft (value == 1) _ (irq_at state.guest key) refl)
  registers actor other SetActive value home = touch_keeps actor other (Register SetActive value) (either_rise (value == 1) _ (irq_at state.guest key) refl) (either_soft (value == 1) _ (irq_at state.guest key) refl)
  registers actor other ClearActive value home = touch_keeps actor other (Register ClearActive value) (either_rise (value == 1) _ (irq_at state.guest key) refl) (either_soft (value == 1) _ (irq_at state.guest key) refl)
  registers actor other Priority value home = touch_keeps actor other (Register Priority value) refl refl
  registers actor other Config value home = touch_keeps actor other (Register Config value) (unless_rise (is_sgi other) (irq_at state.guest key) _ refl) (unless_soft (is_sgi other) (irq_at state.guest key) _ refl)
  registers actor other Routing value home = touch_keeps actor other (Register Routing value) refl refl

  pub touches : (actor : ℕ) (other : Key) (touching : Touching) → IsTrue (is_home state other) → CanTouch state.guest.shape other touching
      → IsTrackedIn key (happened actor (Touch other touching) state) (latch_by (brings_cause key (Touch other touching)) false (clears_causes key (Touch other touching)) false latch)
  touches actor other (ReadTouch kind) home can = touch_keeps actor other (ReadTouch kind) refl refl
  touches actor other (Register kind value) home can = registers actor other kind value home
  touches actor other (Enables en0 en1) home can = touch_keeps actor other (Enables en0 en1) refl refl
  touches actor other (MapLpi target enabled prio) home can = touch_keeps actor other (MapLpi target enabled prio) refl refl
  touches actor other (Retarget target) home can = touch_keeps actor other (Retarget target) refl refl
  touches actor other (Configure enabled prio) home can = touch_keeps actor other (Configure enabled prio) refl refl
  touches actor other Forget home can = forgets actor other home can.fits

  -- Moves.

  -- an interrupt that stands at a vCPU's interface
  pub standing_is : (vcpu : ℕ) (one : Standing) → find (is_of key) (standing_at state vcpu) ≡ Some one → (s : IsStanding key (of_key state key) (irq_at state.guest key) latch) × (s.vcpu ≡ vcpu) × (s.entry ≡ one.entry)
  standing_is vcpu one found = of is.latched
    where
      of : IsLatched key (of_key state key) (irq_at state.guest key) latch → (s : IsStanding key (of_key state key) (irq_at state.guest key) latch) × (s.vcpu ≡ vcpu) × (s.entry ≡ one.entry)
      of (away a) = absurd (let none = found_none (is_of key) (standing_at state vcpu) (a.nowhere vcpu) in cc)
      of (stands s) = elim (cases_eq s.vcpu vcpu) [
        | inl same ↦ (s, same, entry_same (sym (found_first (is_of key) (standing_at state vcpu) (standing_of_key key s.entry) [] (subst (λ v. of_key state key v ≡ standing_of_key key s.entry ∷ []) same s.here)) ∙ found))
        | inr differ ↦ absurd (let none = found_none (is_of key) (standing_at state vcpu) (s.elsewhere vcpu (λ e. differ (sym e))) in cc)
      ]
        where
          entry_same : Some (standing_of_key key s.entry) ≡ Some one → s.entry ≡ one.entry
          entry_same e = ap (λ o. option_map_or (λ (x : Standing). x.entry) o s.entry) e

  -- an interrupt that moved is another one
  pub moved_other : (after : Ideal) (vcpu : ℕ) (standing : List Standing) (mine : Irq) → filter (is_of key) standing ≡ of_key state key vcpu → irq_at after.guest key ≡ irq_at state.guest key → of_key after key ≡ of_key (with_standing state vcpu standing) key → vcpu < state.guest.shape.vcpus
      → IsTrackedIn key after (latch_by false false false false latch)
  moved_other after vcpu standing mine same irq_same at few =
      unchanged key (of_key state key) (irq_at state.guest key) latch is (of_key after key) (irq_at after.guest key)
      (λ other. ap (λ f. f other) at ∙ elim (cases_eq other vcpu) [
        | inl e ↦ subst (λ v. of_key (with_standing state vcpu standing) key v ≡ of_key state key v) (sym e) (put_here state key vcpu standing (subst (λ n. vcpu < n) (sym seats) few) ∙ same)
        | inr differ ↦ put_other state key vcpu standing other differ
      ])
      (ap (λ (i : Irq). i.rise) irq_same) (ap (λ (i : Irq). i.soft) irq_same)
