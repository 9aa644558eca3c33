-- Whom a step leaves told of an interrupt.
use Rattle.std.proofs.Common.{◌≡◌, ◌≢◌, ℕ, ◌<◌, ◌/◌, ◌%◌, ◌&&◌, ◌⊎◌, inl, inr, true≢false, Bool, true, false, IsTrue, Option, Some, None, is_none, if◌then◌else◌, ◌==◌, ◌||◌, refl, sym, ap, ◌∙◌, subst, arith}
use Rattle.std.proofs.lemmas.Bool.{cases_eq, and_parts, lt-ltb, eqb-true, false_from_ne_true}
use Rattle.law_registers_stand.specs.Words.{Key, GuestShape, has_interrupt, is_same_key, has_bit, Irq as IrqRecord, irq_of, is_number, is_ripe}
use Rattle.law_registers_stand.proofs.GicBase.KeyLemmas.{same_key}
use Rattle.law_registers_stand.specs.Calls.{Event, Cpu, Reach, Take, Put, plain_at, Happened}
use Rattle.law_registers_stand.specs.GicCall.declared.event.Event.TheVariants.{Read}
use Rattle.law_registers_stand.specs.GicCall.declared.event.Place.TheVariants.{Word}
use Rattle.law_registers_stand.specs.GicCall.declared.event.Found.TheVariants.{Answer, Word as FoundWord}
use Rattle.law_registers_stand.specs.Registers.{interface_answer, Maps}
use Rattle.law_registers_stand.specs.Core.{fault_place, succeeds, vcpu_of, Local, CoreStep, Look, Raise, Claim, Release, Poll, Touch, WireUp, WireDown, RamLook, RamPut, Irq, Index, local_after, interface_of, is_at, is_cand, owes_no_mark, has_word, index_bit, index_bits, index_words, CoreState, Seat, seat_at, word_in, after, word_of, actor_count, silent, event_done, stands_for, concerns}
use Rattle.std.specs.Option.{option_and_then, option_map_or}
use Rattle.law_registers_stand.proofs.PortCore.StepLocals.{bit_there, no_bit}
use Rattle.law_registers_stand.specs.Histories.{Ideal, changed_by}
use Rattle.law_registers_stand.proofs.LawCoreIsHistory.StepContext.{IsStep}
use Rattle.law_scans_miss_none.specs.Index.{waits_for, is_indexed, is_taken, owes_kick, owes_mark}
use Rattle.law_registers_stand.proofs.LawCoreIsHistory.AfterLemmas.{later, word_cases, word_stays, local_mine, seat_other}
use Rattle.law_scans_miss_none.proofs.TrackLemmas.{subject}

-- the word of an interrupt's bit
pub index_there : (shape : GuestShape) (key : Key) (vcpu : ℕ) → index_bit shape key < index_bits shape → vcpu < shape.vcpus → IsTrue (has_word shape (Index vcpu (index_bit shape key / 64)))
index_there shape key vcpu bit within = both (lt-ltb vcpu shape.vcpus within) (lt-ltb (index_bit shape key / 64) (index_words shape) (omega (arith, bit)))
  where
    both : {a b : Bool} → a ≡ true → b ≡ true → (a && b) ≡ true
    both {a} {b} e f = ap (λ c. c && b) e ∙ f

-- an actor that owes no mark owes none of this
pub owes_none : (key : Key) (vcpu : ℕ) (local : Local) → IsTrue (owes_no_mark local) → IsTrue (owes_mark key vcpu local) → ⊥
owes_none key vcpu local none owes =
    no_bit vcpu (subst (λ n. IsTrue (has_bit n vcpu)) (eqb-true local.marks.vcpus.0 0 none) (and_parts (option_map_or (λ owed. is_same_key owed key) local.marks.key false) (has_bit local.marks.vcpus.0 vcpu) owes).1)

-- what waits for a vCPU concerns it
pub waiting_concerns : (shape : GuestShape) (vcpu : ℕ) (irq : IrqRecord) → IsTrue (waits_for shape vcpu irq) → IsTrue (concerns shape vcpu irq)
waiting_concerns shape vcpu irq h = of (is_none irq.act_by) (is_ripe irq vcpu shape) (is_number vcpu irq.act_by) h
  where
    of : (a b c : Bool) → IsTrue ((a && b) || c) → IsTrue (b || c)
    of true b c h = h
    of false true c h = refl
    of false false c h = h

-- a record, whether or not an access waits for the interrupt
abbrev pub unwanted : IrqRecord → IrqRecord
unwanted irq = record irq { want = false }

-- a vCPU's own release
abbrev pub is_release : CoreStep → Bool
is_release (Release key) = true
is_release step = false

abbrev pub IsOwnRelease : CoreStep → ℕ → ℕ → Type 0
IsOwnRelease step actor vcpu = IsTrue (is_release step) × (actor ≡ vcpu)

-- a word of an interrupt in which all that waits for a vCPU waited for it in another
abbrev pub StillWaits : GuestShape → IrqRecord → IrqRecord → Type 0
StillWaits shape before after = (vcpu : ℕ) → IsTrue (waits_for shape vcpu after) → IsTrue (waits_for shape vcpu before)

-- Who changed an interrupt last.

-- an event, if there is one, changes an interrupt
abbrev pub event_changes : Option Happened → Key → Bool
event_changes one key = option_map_or (λ happened. option_map_or (is_same_key key) (changed_by happened.event) false) one false

-- the interrupt that it is of, if what the history says of interrupts changes
abbrev pub event_subject : Option Happened → Option Key
event_subject one = option_and_then (λ happened. subject happened.event) one

-- one that changes an interrupt is of it
changes_subject : (one : Option Happened) (key : Key) → event_changes one key ≡ true → event_subject one ≡ Some key
changes_subject None key h = absurd (true≢false (sym h))
changes_subject (Some one) key h = of one.event h
  where
    same : (o : Option Key) → option_map_or (is_same_key key) o false ≡ true → o ≡ Some key
    same None h = absurd (true≢false (sym h))
    same (Some k) h = ap Some (sym (same_key key k h))

    of : (e : Event) → option_map_or (is_same_key key) (changed_by e) false ≡ true → subject e ≡ Some key
    of (Reach k vcpu) h = absurd (true≢false (sym h))
    of e h = same (changed_by e) h

-- the event that a step stands for changes an interrupt
abbrev pub step_changes : GuestShape → CoreState → ℕ → CoreStep → ℕ → Key → Bool
step_changes shape state actor step found key = event_changes (stands_for shape actor (seat_at state actor).local (seat_at state actor).own step found) key

-- what is said before a step and after it of who changed an interrupt last: whoever owes a kick stays the last, unless the step changes the interrupt; then its
-- actor is
pub record Lasts {shape : GuestShape} {state : CoreState} {ideal : Ideal} {actor : ℕ} {step : CoreStep} {found left : ℕ} {tables : Option Maps} (is : IsStep shape state ideal actor step found left tables) (last later_last : ℕ → Key → Type 0) : Type 0 where
  pub kept : (key : Key) (other vcpu : ℕ) → IsTrue (has_interrupt shape key) → step_changes shape state actor step found key ≡ false → IsTrue (owes_kick vcpu (seat_at state other).local) → last other key → later_last other key
  pub made : (key : Key) → IsTrue (has_interrupt shape key) → step_changes shape state actor step found key ≡ true → later_last actor key

-- an actor owes a vCPU a mark of an interrupt; where that waits for the vCPU, it changed it last and owes a kick too, unless it is that vCPU itself
pub record Owes (shape : GuestShape) (state : CoreState) (last : ℕ → Key → Type 0) (vcpu : ℕ) (key : Key) : Type 0 where
  pub actor : ℕ
  pub there : actor < actor_count shape
  pub owes : IsTrue (owes_mark key vcpu (seat_at state actor).local)
  pub kicks : IsTrue (waits_for shape vcpu (irq_of (word_in shape state (Irq key)))) → (IsTrue (owes_kick vcpu (seat_at state actor).local) × last actor key) ⊎ (actor ≡ vcpu)

-- the vCPU is told of it: by its index, by what it took of that, or by a mark that is owed
abbrev pub Told : GuestShape → CoreState → (ℕ → Key → Type 0) → ℕ → Key → Type 0
Told shape state last vcpu key = IsTrue (is_indexed shape state vcpu key) ⊎ IsTrue (is_taken shape state vcpu key) ⊎ Owes shape state last vcpu key

abbrev pub AllTold : GuestShape → CoreState → (ℕ → Key → Type 0) → Type 0
AllTold shape state last =
    (key : Key) (vcpu : ℕ) → IsTrue (has_interrupt shape key) → vcpu < shape.vcpus → (irq_of (word_in shape state (Irq key))).holder ≡ None → IsTrue (concerns shape vcpu (irq_of (word_in shape state (Irq key)))) → Told shape state last vcpu key

module _ {shape : GuestShape} {state : CoreState} {ideal : Ideal} {actor : ℕ} {step : CoreStep} {found left : ℕ} {tables : Option Maps} (is : IsStep shape state ideal actor step found left tables) where
  -- what a step leaves of its own interrupt: the vCPU is told by what its actor owes, or the record is as it was, but that an access may wait for it now
  pub record IsAsBefore (key : Key) : Type 0 where
    pub same : unwanted (irq_of left) ≡ unwanted (irq_of found)
    pub kept : (irq_of left).want ≡ false → irq_of left ≡ irq_of found
    pub quiet : step_changes shape state actor step found key ≡ false

  pub record IsOwedNow (key : Key) (vcpu : ℕ) : Type 0 where
    pub mark : IsTrue (owes_mark key vcpu (local_after shape actor (seat_at state actor).local step found))
    pub kick : IsTrue (waits_for shape vcpu (irq_of left)) → IsTrue (owes_kick vcpu (local_after shape actor (seat_at state actor).local step found)) ⊎ IsOwnRelease step actor vcpu
    pub changes : step_changes shape state actor step found key ≡ true

  -- an event is of the interrupt of its step's word
  pub apart_subject : (key : Key) → word_of shape actor step ≢ Irq key → event_subject (stands_for shape actor (seat_at state actor).local (seat_at state actor).own step found) ≡ Some key → ⊥
  apart_subject key apart h = of (succeeds shape actor (seat_at state actor).local step found) h
    where
      none : {T : Type 0} → {k : Key} → None ≡ Some k → T
      none e = absurd (cc)

      other : (k : Key) → Irq k ≢ Irq key → Some k ≡ Some key → ⊥
      other k differ e = differ (irq_same k key e)
        where
          irq_same : (k key : Key) → Some k ≡ Some key → Irq k ≡ Irq key
          irq_same k key e = cc

      claim_of : (b : Bool) (k : Key) → Irq k ≢ Irq key → event_subject (silent (if b then Take k actor else Reach k actor)) ≡ Some key → ⊥
      claim_of true k differ e = none e
      claim_of false k differ e = other k differ e

      unless : (b : Bool) (one : Happened) → subject one.event ≡ None → event_subject (if b then None else Some one) ≡ Some key → ⊥
      unless true one n e = none e
      unless false one n e = none (sym n ∙ e)

      done : (s : CoreStep) → word_of shape actor s ≢ Irq key → event_subject (event_done shape actor (seat_at state actor).local (seat_at state actor).own s found) ≡ Some key → ⊥
      done (Raise k) differ e = other k differ e
      done (WireUp k) differ e = other k differ e
      done (WireDown k) differ e = other k differ e
      done (Release k) differ e = other k differ e
      done (Touch k seen kind) differ e = other k differ e
      done (Claim k seen) differ e = claim_of (is_at k (seat_at state actor).local.at) k differ e
      done (Poll (Some reg) write) differ e = unless (vcpu_of found).kick (record { event = Cpu actor reg write; found = Answer (interface_answer reg write (interface_of (seat_at state actor).local)) }) refl e
      done (RamLook index) differ e = unless (index == fault_place shape) (record { event = Read (Word (plain_at shape index)); found = FoundWord found }) refl e
      done (RamPut index seen value) differ e = unless (index == fault_place shape) (record { event = Put (plain_at shape index) value; found = FoundWord found }) refl e
      done (Look (Irq k)) differ e = none e
      done s differ e = none e

      of : (b : Bool) → event_subject (if b then event_done shape actor (seat_at state actor).local (seat_at state actor).own step found else None) ≡ Some key → ⊥
      of true e = done step apart e
      of false e = none e

  -- so a step changes no other interrupt
  pub apart_quiet : (key : Key) → word_of shape actor step ≢ Irq key → step_changes shape state actor step found key ≡ false
  apart_quiet key apart =
      false_from_ne_true (step_changes shape state actor step found key) (λ h. apart_subject key apart (changes_subject (stands_for shape actor (seat_at state actor).local (seat_at state actor).own step found) key h))

module _ {shape : GuestShape} {state : CoreState} {ideal : Ideal} {actor : ℕ} {step : CoreStep} {found left : ℕ} {tables : Option Maps} (is : IsStep shape state ideal actor step found left tables) {last later_last : ℕ → Key → Type 0} (lasts : Lasts is last later_last) where
  -- its actor owes a vCPU a kick for an interrupt, by what is said of it
  abbrev pub Kicks : (ℕ → Key → Type 0) → Key → ℕ → Local → Type 0
  Kicks by key vcpu local = IsTrue (waits_for shape vcpu (irq_of (word_in shape (later is) (Irq key)))) → (IsTrue (owes_kick vcpu local) × by actor key) ⊎ (actor ≡ vcpu)

  -- its own candidates, and what it owes then
  pub told_taken : (key : Key) (vcpu : ℕ) → vcpu ≡ actor → IsTrue (is_cand (local_after shape actor (seat_at state actor).local step found).cands (index_bit shape key)) → Told shape (later is) later_last vcpu key
  told_taken key vcpu same h = inr (inl (subst (λ n. IsTrue (is_taken shape (later is) n key)) (sym same) (subst (λ (l : Local). IsTrue (is_cand l.cands (index_bit shape key))) (sym (local_mine is)) h)))

  pub told_owed : (key : Key) (vcpu : ℕ) → IsTrue (owes_mark key vcpu (local_after shape actor (seat_at state actor).local step found)) → Kicks later_last key vcpu (local_after shape actor (seat_at state actor).local step found) → Told shape (later is) later_last vcpu key
  told_owed key vcpu h kicks =
      inr (inr (record {
        actor = actor;
        there = is.takes.actor;
        owes = subst (λ (l : Local). IsTrue (owes_mark key vcpu l)) (sym (local_mine is)) h;
        kicks = λ waits. subst (λ (l : Local). (IsTrue (owes_kick vcpu l) × later_last actor key) ⊎ (actor ≡ vcpu)) (sym (local_mine is)) (kicks waits);
      }))

  -- a vCPU that is told of an interrupt stays so, by how the step keeps each
  pub told_on :
      (key : Key) (vcpu : ℕ) → IsTrue (has_interrupt shape key) → step_changes shape state actor step found key ≡ false → StillWaits shape (irq_of (word_in shape state (Irq key))) (irq_of (word_in shape (later is) (Irq key))) → (IsTrue (is_indexed shape state vcpu key) → Told shape (later is) later_last vcpu key)
      → (vcpu ≡ actor → IsTrue (is_cand (seat_at state actor).local.cands (index_bit shape key)) → Told shape (later is) later_last vcpu key)
      → (IsTrue (owes_mark key vcpu (seat_at state actor).local) → Kicks last key vcpu (seat_at state actor).local → Told shape (later is) later_last vcpu key) → Told shape state last vcpu key → Told shape (later is) later_last vcpu key
  told_on key vcpu there quiet still index cands marks (inl indexed) = index indexed
  told_on key vcpu there quiet still index cands marks (inr (inl taken)) = elim (cases_eq vcpu actor) [
    | inl same ↦ cands same (subst (λ n. IsTrue (is_cand (seat_at state n).local.cands (index_bit shape key))) same taken)
    | inr differ ↦ inr (inl (subst (λ (s : Seat). IsTrue (is_cand s.local.cands (index_bit shape key))) (sym (seat_other is vcpu differ)) taken))
  ]
  told_on key vcpu there quiet still index cands marks (inr (inr owed)) = elim (cases_eq owed.actor actor) [
    | inl same ↦
        marks (subst (λ n. IsTrue (owes_mark key vcpu (seat_at state n).local)) same owed.owes)
        (λ waits. subst (λ n. (IsTrue (owes_kick vcpu (seat_at state n).local) × last n key) ⊎ (n ≡ vcpu)) same (owed.kicks (still vcpu waits)))
    | inr differ ↦
        inr (inr (record {
          actor = owed.actor;
          there = owed.there;
          owes = subst (λ (s : Seat). IsTrue (owes_mark key vcpu s.local)) (sym (seat_other is owed.actor differ)) owed.owes;
          kicks = λ waits. elim (owed.kicks (still vcpu waits)) [
            | inl kick ↦ inl (subst (λ (s : Seat). IsTrue (owes_kick vcpu s.local)) (sym (seat_other is owed.actor differ)) kick.0, lasts.kept key owed.actor vcpu there quiet kick.0 kick.1)
            | inr own ↦ inr own
          ];
        }))
  ]

  -- a step on no index
  pub index_stays : ((vcpu number : ℕ) → word_of shape actor step ≢ Index vcpu number) → (key : Key) (vcpu : ℕ) → IsTrue (has_interrupt shape key) → vcpu < shape.vcpus → IsTrue (is_indexed shape state vcpu key) → Told shape (later is) later_last vcpu key
  index_stays none key vcpu there within h =
      inl (subst (λ n. IsTrue (has_bit n (index_bit shape key % 64))) (sym (word_stays is (Index vcpu (index_bit shape key / 64)) (index_there shape key vcpu (bit_there shape key is.good there) within) (none vcpu (index_bit shape key / 64)))) h)

  -- it keeps all told: those of another interrupt by what it keeps of indices, candidates and marks, and those of its own
  pub carries :
      ((key : Key) (vcpu : ℕ) → IsTrue (has_interrupt shape key) → vcpu < shape.vcpus → IsTrue (is_indexed shape state vcpu key) → Told shape (later is) later_last vcpu key)
      → ((key : Key) → IsTrue (has_interrupt shape key) → IsTrue (concerns shape actor (irq_of (word_in shape (later is) (Irq key)))) → (irq_of (word_in shape (later is) (Irq key))).holder ≡ None
      → IsTrue (is_cand (seat_at state actor).local.cands (index_bit shape key)) → Told shape (later is) later_last actor key)
      → ((key : Key) (vcpu : ℕ) → IsTrue (has_interrupt shape key) → step_changes shape state actor step found key ≡ false → IsTrue (owes_mark key vcpu (seat_at state actor).local) → Kicks last key vcpu (seat_at state actor).local → Told shape (later is) later_last vcpu key)
      → ((key : Key) (vcpu : ℕ) → word_of shape actor step ≡ Irq key → vcpu < shape.vcpus → (irq_of left).holder ≡ None → IsTrue (concerns shape vcpu (irq_of left)) → IsAsBefore is key ⊎ IsOwedNow is key vcpu)
      → AllTold shape state last → AllTold shape (later is) later_last
  carries index cands marks own complete key vcpu there within home asks = elim (word_cases is (Irq key) there) [
    | inl here ↦
        elim (own key vcpu here.0 within (ap (λ n. (irq_of n).holder) (sym here.1) ∙ home) (subst (λ n. IsTrue (concerns shape vcpu (irq_of n))) here.1 asks)) [
          | inl before ↦
              (let same : found ≡ word_in shape state (Irq key) = is.takes.found ∙ ap (word_in shape state) here.0 in
              kept before.quiet (λ v waits. subst (λ n. IsTrue (waits_for shape v (irq_of n))) same (subst (λ i. IsTrue (waits_for shape v i)) before.same (subst (λ n. IsTrue (waits_for shape v (irq_of n))) here.1 waits)))
              (complete key vcpu there within (ap (λ n. (irq_of n).holder) (sym same) ∙ ap (λ (i : IrqRecord). i.holder) (sym before.same) ∙ ap (λ n. (irq_of n).holder) (sym here.1) ∙ home)
              (subst (λ n. IsTrue (concerns shape vcpu (irq_of n))) same (subst (λ i. IsTrue (concerns shape vcpu i)) before.same (subst (λ n. IsTrue (concerns shape vcpu (irq_of n))) here.1 asks)))))
          | inr owed ↦ told_owed key vcpu owed.mark (λ waits. elim (owed.kick (subst (λ n. IsTrue (waits_for shape vcpu (irq_of n))) here.1 waits)) [ inl kick ↦ inl (kick, lasts.made key there owed.changes) | inr own ↦ inr own.1 ])
        ]
    | inr apart ↦
        kept (apart_quiet is key apart.0) (λ v waits. subst (λ n. IsTrue (waits_for shape v (irq_of n))) apart.1 waits)
        (complete key vcpu there within (ap (λ n. (irq_of n).holder) (sym apart.1) ∙ home) (subst (λ n. IsTrue (concerns shape vcpu (irq_of n))) apart.1 asks))
  ]
    where
      kept : step_changes shape state actor step found key ≡ false → StillWaits shape (irq_of (word_in shape state (Irq key))) (irq_of (word_in shape (later is) (Irq key))) → Told shape state last vcpu key → Told shape (later is) later_last vcpu key
      kept quiet still =
          told_on key vcpu there quiet still (index key vcpu there within)
          (λ same h. subst (λ n. Told shape (later is) later_last n key) (sym same) (cands key there (subst (λ n. IsTrue (concerns shape n (irq_of (word_in shape (later is) (Irq key))))) same asks) home h))
          (marks key vcpu there quiet)

  -- what its actor owes it goes on to owe
  pub marks_stay :
      (local_after shape actor (seat_at state actor).local step found).marks ≡ (seat_at state actor).local.marks → (local_after shape actor (seat_at state actor).local step found).owes ≡ (seat_at state actor).local.owes → (key : Key) (vcpu : ℕ)
      → IsTrue (has_interrupt shape key) → step_changes shape state actor step found key ≡ false → IsTrue (owes_mark key vcpu (seat_at state actor).local) → Kicks last key vcpu (seat_at state actor).local → Told shape (later is) later_last vcpu key
  marks_stay marks owes key vcpu there quiet h kicks =
      told_owed key vcpu (subst (λ m. IsTrue (option_map_or (λ owed. is_same_key owed key) m.key false && has_bit m.vcpus.0 vcpu)) (sym marks) h)
      (λ waits. elim (kicks waits) [
        | inl kick ↦ inl (subst (λ o. IsTrue (has_bit o.0 vcpu)) (sym owes) kick.0, lasts.kept key actor vcpu there quiet kick.0 kick.1)
        | inr own ↦ inr own
      ])

  pub cands_stay :
      (local_after shape actor (seat_at state actor).local step found).cands ≡ (seat_at state actor).local.cands → (key : Key) → IsTrue (has_interrupt shape key) → IsTrue (concerns shape actor (irq_of (word_in shape (later is) (Irq key))))
      → (irq_of (word_in shape (later is) (Irq key))).holder ≡ None → IsTrue (is_cand (seat_at state actor).local.cands (index_bit shape key)) → Told shape (later is) later_last actor key
  cands_stay cands key there asks home h = told_taken key actor refl (subst (λ c. IsTrue (is_cand c (index_bit shape key))) (sym cands) h)

  -- one that keeps its actor's candidates and what it owes, and no interrupt's word
  pub carries_quiet :
      ((vcpu number : ℕ) → word_of shape actor step ≢ Index vcpu number) → ((key : Key) → word_of shape actor step ≢ Irq key) → (local_after shape actor (seat_at state actor).local step found).cands ≡ (seat_at state actor).local.cands
      → (local_after shape actor (seat_at state actor).local step found).marks ≡ (seat_at state actor).local.marks → (local_after shape actor (seat_at state actor).local step found).owes ≡ (seat_at state actor).local.owes
      → AllTold shape state last → AllTold shape (later is) later_last
  carries_quiet none apart cands marks owes = carries (index_stays none) (cands_stay cands) (marks_stay marks owes) (λ key vcpu e. absurd (apart key e))
