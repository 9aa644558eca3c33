-- Every step keeps the candidate indices complete.
use Rattle.std.proofs.Common.{◌≡◌, ◌≢◌, ℕ, ◌-◌, ◌/◌, ◌%◌, ◌^◌, ◌<◌, ◌==◌, ◌&&◌, inl, inr, not, min, Bool, true, false, IsTrue, List, Option, Some, None, nat_lt, bit_or, if◌then◌else◌, slice_index_or, refl, sym, ap, ◌∙◌, subst, length, arith}
use Rattle.std.specs.Int.{bit_at, bit_not, w32}
use Rattle.std.specs.Option.{option_map_or}
use Rattle.std.proofs.lemmas.Bool.{cases_eq, cases_lt, and_parts, and_from, ltb-true, eqb-true, eq-eqb}
use Rattle.std.proofs.lemmas.Option.{none-some}
use Rattle.std.proofs.lemmas.List.{get_or-set_same, get_or-set_other}
use Rattle.std.proofs.lemmas.Nat.{pow_below}
use Rattle.std.proofs.lemmas.Nat.Bits.{bit_at_and, bit_at_not, bit_at-pow_other, bit_at_above}
use Rattle.law_registers_stand.proofs.PortCore.IndexLemmas.{or_left, or_right, pow_self}
use Rattle.law_registers_stand.specs.Registers.{Targets, Maps, CpuRec}
use Rattle.law_registers_stand.specs.Words.{Back, Key, IccReg, GuestShape, has_interrupt, is_of_vcpu, is_same_key, IsShape, has_bit, irq_of}
use Rattle.law_registers_stand.proofs.GicBase.KeyLemmas.{same_key}
use Rattle.law_registers_stand.specs.Calls.{Touching, touched}
use Rattle.law_registers_stand.specs.Core.{Local, Cands, CoreStep, Look, Raise, Claim, GiveBack, Release, Poll, Kick, Touch, Want, WireUp, WireDown, Mark, TakeIndex, LineClose, WordId, Irq, Index, Line, Folding, vcpu_of, local_after, concerned, concerned_by, polled, accessed, claimed, looked, is_settled_by_look, succeeds, is_cand, is_vcpu, settled, without_vcpu, without_cand, with_cand_word, owing_both, owes_no_mark, has_word, index_bit, index_words, CoreState, seat_at, word_in, word_of, IsIrqWord, AtIrq, Phase, Scanning, Loaded, local_done, concerns}
use Rattle.law_registers_stand.proofs.PortCore.StepLocals.{bit_there}
use Rattle.law_registers_stand.proofs.PortCore.StepLemmas.{steps_sound}
use Rattle.law_registers_stand.proofs.PortCore.StepMade.{all_three}
use Rattle.law_registers_stand.specs.Histories.{Ideal}
use Rattle.law_registers_stand.proofs.LawCoreIsHistory.LineSteps.{line_done}
use Rattle.law_registers_stand.proofs.LawCoreIsHistory.StepContext.{one, IsStep, has}
use Rattle.law_scans_miss_none.specs.Index.{is_indexed, owes_mark}
use Rattle.law_registers_stand.proofs.LawCoreIsHistory.AfterLemmas.{later, left_in, word_cases}
use Rattle.law_registers_stand.proofs.CoreProper.CandLemmas.{cand_same}
use Rattle.law_scans_miss_none.proofs.ToldLemmas.{owes_none, index_there, step_changes, Lasts, Told, AllTold, Kicks, told_taken, told_owed, index_stays, carries, marks_stay, cands_stay, carries_quiet}
use Rattle.law_scans_miss_none.proofs.TellSteps.{concerns_own, same_bit, not_both, Tells, claim_held, tells, tells_raise, tells_wire_up, tells_wire_down, tells_claim, tells_give_back, tells_release, tells_touch, tells_want}

-- whether or not a step does what it is for
pub either_way : {T : Type 0} (part : Local → T) (b : Bool) (done local : Local) → part done ≡ part local → part (if b then done else local) ≡ part local
either_way part true done local e = e
either_way part false done local e = refl

-- a look for a kick changes an actor's CPU record, its interface and its phase alone
poll_part : {T : Type 0} (part : Local → T) → ((cpu : CpuRec) (at : List AtIrq) (phase : Phase) (local : Local) → part (record local { cpu = cpu; at = at; phase = phase }) ≡ part local) → (reg : Option IccReg) (write : Option ℕ) (found : ℕ) (local : Local)
    → part (polled reg write found local) ≡ part local
poll_part part same None write found local = same (polled None write found local).cpu local.at Scanning local
poll_part part same (Some reg) write found local = of (vcpu_of found).kick
  where
    of : (b : Bool) → part (if b then record local { phase = Folding } else accessed reg write local) ≡ part local
    of true = same local.cpu local.at Folding local
    of false = same (accessed reg write local).cpu (accessed reg write local).at Loaded local

poll_cands : (reg : Option IccReg) (write : Option ℕ) (found : ℕ) (local : Local) → (polled reg write found local).cands ≡ local.cands
poll_cands reg write found local = poll_part (λ (l : Local). l.cands) (λ cpu at phase other. refl) reg write found local

poll_marks : (reg : Option IccReg) (write : Option ℕ) (found : ℕ) (local : Local) → (polled reg write found local).marks ≡ local.marks
poll_marks reg write found local = poll_part (λ (l : Local). l.marks) (λ cpu at phase other. refl) reg write found local

pub poll_owes : (reg : Option IccReg) (write : Option ℕ) (found : ℕ) (local : Local) → (polled reg write found local).owes ≡ local.owes
poll_owes reg write found local = poll_part (λ (l : Local). l.owes) (λ cpu at phase other. refl) reg write found local

-- and a look its candidates alone
look_marks : (shape : GuestShape) (actor : ℕ) (word : WordId) (found : ℕ) (local : Local) → (looked shape actor word found local).marks ≡ local.marks
look_marks shape actor (Irq k) found local = either_way (λ (l : Local). l.marks) (is_settled_by_look shape actor (irq_of found)) (record local { cands = settled shape actor k local.cands }) local refl
look_marks shape actor (Line line) found local = line_done shape actor found local (λ l. l.marks) (λ l n s. refl) (Look (Line line)) refl
look_marks shape actor word found local = refl

pub look_owes : (shape : GuestShape) (actor : ℕ) (word : WordId) (found : ℕ) (local : Local) → (looked shape actor word found local).owes ≡ local.owes
look_owes shape actor (Irq k) found local = either_way (λ (l : Local). l.owes) (is_settled_by_look shape actor (irq_of found)) (record local { cands = settled shape actor k local.cands }) local refl
look_owes shape actor (Line line) found local = line_done shape actor found local (λ l. l.owes) (λ l n s. refl) (Look (Line line)) refl
look_owes shape actor word found local = refl

-- candidates without one interrupt have every other one
pub settled_keeps :
    (shape : GuestShape) (actor : ℕ) (key k : Key) (cands : Cands) → IsShape shape → IsTrue (has_interrupt shape key) → IsTrue (has_interrupt shape k) → length cands.words ≡ 96 → IsTrue (is_of_vcpu actor key) → key ≢ k
    → IsTrue (is_cand cands (index_bit shape key)) → IsTrue (is_cand (settled shape actor k cands) (index_bit shape key))
settled_keeps shape actor key k cands good here there each own differ h = of (is_vcpu shape actor && is_of_vcpu actor k) refl
  where
    of : (b : Bool) → (is_vcpu shape actor && is_of_vcpu actor k) ≡ b → IsTrue (is_cand (if b then without_cand cands (index_bit shape k) else cands) (index_bit shape key))
    of false e = h
    of true e =
        let bit = bit_there shape k good there in
        cand_same cands (index_bit shape k) (index_bit shape key) (omega (arith, bit, each, good.spis, good.espis, good.lpis))
        (λ same. differ (same_bit shape actor key k good here there own (and_parts (is_vcpu shape actor) (is_of_vcpu actor k) e).1 same)) ∙ h

abbrev Carries : {shape : GuestShape} {state : CoreState} {ideal : Ideal} {actor : ℕ} {step : CoreStep} {found left : ℕ} {tables : Option Maps} (is : IsStep shape state ideal actor step found left tables) {last later_last : ℕ → Key → Type 0} → Lasts is last later_last → Type 0
Carries {shape} {state} is {last} {later_last} lasts = AllTold shape state last → AllTold shape (later is) later_last

module _ {shape : GuestShape} {state : CoreState} {ideal : Ideal} {actor found left : ℕ} {tables : Option Maps} where
  -- Causes come and go.

  cause_carries :
      (key : Key) (step : CoreStep) (is : IsStep shape state ideal actor step found left tables) {last later_last : ℕ → Key → Type 0} (lasts : Lasts is last later_last) → word_of shape actor step ≡ Irq key → IsTrue (owes_no_mark (seat_at state actor).local)
      → local_after shape actor (seat_at state actor).local step found ≡ owing_both key (concerned shape (irq_of found)) (seat_at state actor).local → Tells is → Carries is lasts
  cause_carries key step is {last} {later_last} lasts on none local told =
      carries is lasts (index_stays is lasts (λ vcpu number e. differ vcpu number (sym on ∙ e)))
      (λ k there asks home h. told_taken is lasts k actor refl (subst (λ (l : Local). IsTrue (is_cand l.cands (index_bit shape k))) (sym local) h))
      (λ k vcpu there quiet h kicks. absurd (owes_none k vcpu (seat_at state actor).local none h)) told
    where
      differ : (vcpu number : ℕ) → Irq key ≢ Index vcpu number
      differ vcpu number e = absurd (cc)

  -- Steps on other words, that keep candidates and marks.

  carries_kick : (vcpu : ℕ) (is : IsStep shape state ideal actor (Kick vcpu) found left tables) {last later_last : ℕ → Key → Type 0} (lasts : Lasts is last later_last) → Carries is lasts
  carries_kick vcpu is {last} {later_last} lasts = carries is lasts (index_stays is lasts (λ v n e. absurd (cc))) (cands_stay is lasts refl) (λ k v there quiet h kicks. absurd (owes_none k v (seat_at state actor).local is.takes.meets h)) (λ k v e. absurd (cc))

  -- one that leaves its actor's candidates, and what that owes
  carries_other :
      (step : CoreStep) (is : IsStep shape state ideal actor step found left tables) {last later_last : ℕ → Key → Type 0} (lasts : Lasts is last later_last) → ((v n : ℕ) → word_of shape actor step ≢ Index v n) → ((k : Key) → word_of shape actor step ≢ Irq k)
      → (local_done shape actor (seat_at state actor).local step found).cands ≡ (seat_at state actor).local.cands → (local_done shape actor (seat_at state actor).local step found).marks ≡ (seat_at state actor).local.marks
      → (local_done shape actor (seat_at state actor).local step found).owes ≡ (seat_at state actor).local.owes → Carries is lasts
  carries_other step is {last} {later_last} lasts index irq cands marks owes =
      let local = (seat_at state actor).local in
      let done = local_done shape actor local step found in
      let b = succeeds shape actor local step found in
      carries_quiet is lasts index irq (either_way (λ (l : Local). l.cands) b done local cands) (either_way (λ (l : Local). l.marks) b done local marks) (either_way (λ (l : Local). l.owes) b done local owes)

  -- Looks.

  carries_look : (word : WordId) (is : IsStep shape state ideal actor (Look word) found left tables) {last later_last : ℕ → Key → Type 0} (lasts : Lasts is last later_last) → Carries is lasts
  carries_look word is {last} {later_last} lasts =
      carries is lasts
      (λ key vcpu there within h. inl (subst (λ n. IsTrue (has_bit n (index_bit shape key % 64))) (sym (stays (Index vcpu (index_bit shape key / 64)) (index_there shape key vcpu (bit_there shape key is.good there) within))) h))
      (λ key there asks home h. told_taken is lasts key actor refl (of word refl key there asks h))
      (marks_stay is lasts (look_marks shape actor word found (seat_at state actor).local) (look_owes shape actor word found (seat_at state actor).local))
      (tells (Look word) is)
    where
      local : Local
      local = (seat_at state actor).local

      stays : (w : WordId) → IsTrue (has_word shape w) → word_in shape (later is) w ≡ word_in shape state w
      stays w there = elim (word_cases is w there) [ inl here ↦ here.1 ∙ is.takes.left ∙ is.takes.found ∙ ap (word_in shape state) here.0 | inr apart ↦ apart.1 ]

      of : (w : WordId) → word ≡ w → (key : Key) → IsTrue (has_interrupt shape key) → IsTrue (concerns shape actor (irq_of (word_in shape (later is) (Irq key)))) → IsTrue (is_cand local.cands (index_bit shape key)) → IsTrue (is_cand (looked shape actor w found local).cands (index_bit shape key))
      of (Irq k) on key there asks h = settles (is_settled_by_look shape actor (irq_of found)) refl
        where
          told : (key ≡ k) → IsTrue (concerns shape actor (irq_of found))
          told same = subst (λ n. IsTrue (concerns shape actor (irq_of n))) (stays (Irq key) there ∙ ap (word_in shape state) (ap Irq same ∙ sym on) ∙ sym is.takes.found) asks

          settles : (b : Bool) → is_settled_by_look shape actor (irq_of found) ≡ b → IsTrue (is_cand (if b then record local { cands = settled shape actor k local.cands } else local).cands (index_bit shape key))
          settles false e = h
          settles true e =
              settled_keeps shape actor key k local.cands is.good there (subst (λ w. IsTrue (has_word shape w)) on (has is)) (is.sound.locals actor is.takes.actor).cands.each
              (concerns_own shape key actor (word_in shape (later is) (Irq key)) there (subst (IsIrqWord shape key) (sym (stays (Irq key) there)) (is.sound.words (Irq key) there)) asks)
              (λ same. not_both (concerns shape actor (irq_of found)) (told same) (and_parts (is_vcpu shape actor) (not (concerns shape actor (irq_of found))) e).1) h
      of (Line line) on key there asks h = subst (λ c. IsTrue (is_cand c (index_bit shape key))) (sym (line_done shape actor found local (λ l. l.cands) (λ l n s. refl) (Look (Line line)) refl)) h
      of w on key there asks h = h

  -- Moves.

  carries_claim : (key : Key) (seen : ℕ) (is : IsStep shape state ideal actor (Claim key seen) found left tables) {last later_last : ℕ → Key → Type 0} (lasts : Lasts is last later_last) → Carries is lasts
  carries_claim key seen is {last} {later_last} lasts = by_success (succeeds shape actor local (Claim key seen) found) refl
    where
      local : Local
      local = (seat_at state actor).local

      can : IsTrue (is_vcpu shape actor) × IsTrue (is_of_vcpu actor key) × IsTrue (has_interrupt shape key)
      can = all_three (is_vcpu shape actor) (is_of_vcpu actor key) (has_interrupt shape key) is.takes.can

      own : (k : Key) → IsTrue (has_interrupt shape k) → IsTrue (concerns shape actor (irq_of (word_in shape (later is) (Irq k)))) → IsTrue (is_of_vcpu actor k)
      own k there asks = concerns_own shape k actor (word_in shape (later is) (Irq k)) there ((steps_sound shape state (one actor (Claim key seen) found left tables) is.good is.sound is.takes).words (Irq k) there) asks

      by_success : (b : Bool) → succeeds shape actor local (Claim key seen) found ≡ b → AllTold shape state last → AllTold shape (later is) later_last
      by_success true e =
          let not_home : (irq_of left).holder ≡ None → ⊥ = λ home. none-some actor (sym home ∙ claim_held key seen is e) in
          let after : local_after shape actor local (Claim key seen) found ≡ claimed shape actor key found local = ap (λ b. if b then claimed shape actor key found local else local) e in
          carries is lasts (index_stays is lasts (λ v n e. absurd (cc)))
          (λ k there asks home h.
          told_taken is lasts k actor refl
          (subst (λ (l : Local). IsTrue (is_cand l.cands (index_bit shape k))) (sym after)
          (settled_keeps shape actor k key local.cands is.good there can.2 (is.sound.locals actor is.takes.actor).cands.each
          (own k there asks)
          (λ same. not_home (ap (λ n. (irq_of n).holder) (sym (left_in is)) ∙ ap (λ j. (irq_of (word_in shape (later is) (Irq j))).holder) (sym same) ∙ home)) h)))
          (marks_stay is lasts (ap (λ (l : Local). l.marks) after) (ap (λ (l : Local). l.owes) after))
          (tells_claim key seen is)
      by_success false e =
          let after : local_after shape actor local (Claim key seen) found ≡ local = ap (λ b. if b then claimed shape actor key found local else local) e in
          carries is lasts (index_stays is lasts (λ v n e. absurd (cc)))
          (λ k there asks home h. told_taken is lasts k actor refl (subst (λ (l : Local). IsTrue (is_cand l.cands (index_bit shape k))) (sym after) h))
          (marks_stay is lasts (ap (λ (l : Local). l.marks) after) (ap (λ (l : Local). l.owes) after))
          (tells_claim key seen is)

  carries_give_back : (key : Key) (back : Back) (is : IsStep shape state ideal actor (GiveBack key back) found left tables) {last later_last : ℕ → Key → Type 0} (lasts : Lasts is last later_last) → Carries is lasts
  carries_give_back key back is {last} {later_last} lasts = carries is lasts (index_stays is lasts (λ v n e. absurd (cc))) (cands_stay is lasts refl) (marks_stay is lasts refl refl) (tells_give_back key back is)

  carries_release : (key : Key) (is : IsStep shape state ideal actor (Release key) found left tables) {last later_last : ℕ → Key → Type 0} (lasts : Lasts is last later_last) → Carries is lasts
  carries_release key is {last} {later_last} lasts = carries is lasts (index_stays is lasts (λ v n e. absurd (cc))) (cands_stay is lasts refl) (λ k vcpu there quiet h kicks. absurd (owes_none k vcpu (seat_at state actor).local is.takes.meets.marks h)) (tells_release key is)

  carries_touch : (key : Key) (seen : ℕ) (kind : Touching) (is : IsStep shape state ideal actor (Touch key seen kind) found left tables) {last later_last : ℕ → Key → Type 0} (lasts : Lasts is last later_last) → Carries is lasts
  carries_touch key seen kind is {last} {later_last} lasts =
      let local = (seat_at state actor).local in
      let owing = owing_both key (concerned_by shape (irq_of found) (touched shape key kind (irq_of found))) local in
      carries is lasts (index_stays is lasts (λ v n e. absurd (cc))) (cands_stay is lasts (either_way (λ (l : Local). l.cands) (succeeds shape actor local (Touch key seen kind) found) owing local refl))
      (λ k vcpu there quiet h kicks. absurd (owes_none k vcpu local is.takes.meets.marks h)) (tells_touch key seen kind is)

  carries_want : (key : Key) (is : IsStep shape state ideal actor (Want key) found left tables) {last later_last : ℕ → Key → Type 0} (lasts : Lasts is last later_last) → Carries is lasts
  carries_want key is {last} {later_last} lasts = carries is lasts (index_stays is lasts (λ v n e. absurd (cc))) (cands_stay is lasts refl) (marks_stay is lasts refl refl) (tells_want key is)

-- The words of an index.

index_vcpu : (v w m n : ℕ) → Index v m ≡ Index w n → v ≡ w
index_vcpu v w m n e = cc

index_number : (v w m n : ℕ) → Index v m ≡ Index w n → m ≡ n
index_number v w m n e = cc

-- a vCPU is still in a set without another
pub still_in : (set : Targets) (v w : ℕ) → v < 32 → w < 32 → w ≢ v → IsTrue (has_bit set.0 w) → IsTrue (has_bit (without_vcpu set v).0 w)
still_in set v w few small differ h =
    let out : bit_at (bit_not w32 (2 ^ v)) w ≡ 1 - bit_at (2 ^ v) w = bit_at_not w32 (2 ^ v) w (pow_below v 32 few) small in
    let zero_there = bit_at-pow_other v w differ in
    let both = bit_at_and set.0 (bit_not w32 (2 ^ v)) w in
    let here = eqb-true (bit_at set.0 w) 1 h in
    eq-eqb (bit_at (without_vcpu set v).0 w) 1 (least (bit_at set.0 w) (bit_at (bit_not w32 (2 ^ v)) w) (bit_at (without_vcpu set v).0 w) both here (omega (arith, out, zero_there)))
  where
    least : (a b m : ℕ) → m ≡ min a b → a ≡ 1 → b ≡ 1 → m ≡ 1
    least a b m e one other = omega (arith, e, one, other)

bit_below : (v n set : ℕ) → set < 2 ^ n → IsTrue (has_bit set v) → v < n
bit_below v n set fits h = elim (cases_lt v n) [
  | inl less ↦ less
  | inr more ↦ (let none : bit_at set v ≡ 0 = bit_at_above set n v fits more in absurd (omega (arith, none, eqb-true (bit_at set v) 1 h)))
]

-- one interrupt is owed at a time
owed_same : (o : Option Key) (k key : Key) → option_map_or (λ owed. is_same_key owed k) o false ≡ true → option_map_or (λ owed. is_same_key owed key) o false ≡ true → k ≡ key
owed_same None k key h g = absurd (cc)
owed_same (Some owed) k key h g = sym (same_key owed k h) ∙ same_key owed key g

-- candidates with the bits of a word besides
pub taken_keeps : (cands : Cands) (n found bit : ℕ) → n < length cands.words → IsTrue (is_cand cands bit) → IsTrue (is_cand (with_cand_word cands n found) bit)
taken_keeps cands n found bit within h = elim (cases_eq (bit / 64) n) [
  | inl same ↦
      subst (λ k. IsTrue (has_bit (slice_index_or (with_cand_word cands n found).words k 0) (bit % 64))) (sym same)
      (subst (λ word. IsTrue (has_bit word (bit % 64))) (sym (get_or-set_same cands.words n (bit_or (slice_index_or cands.words n 0) found) 0 within))
      (or_left (slice_index_or cands.words n 0) found (bit % 64) (subst (λ k. IsTrue (has_bit (slice_index_or cands.words k 0) (bit % 64))) same h)))
  | inr differ ↦ subst (λ word. IsTrue (has_bit word (bit % 64))) (sym (get_or-set_other cands.words n (bit / 64) (bit_or (slice_index_or cands.words n 0) found) 0 differ)) h
]

pub taken_has : (cands : Cands) (n found bit : ℕ) → n < length cands.words → bit / 64 ≡ n → IsTrue (has_bit found (bit % 64)) → IsTrue (is_cand (with_cand_word cands n found) bit)
taken_has cands n found bit within same h =
    subst (λ k. IsTrue (has_bit (slice_index_or (with_cand_word cands n found).words k 0) (bit % 64))) (sym same)
    (subst (λ word. IsTrue (has_bit word (bit % 64))) (sym (get_or-set_same cands.words n (bit_or (slice_index_or cands.words n 0) found) 0 within)) (or_right (slice_index_or cands.words n 0) found (bit % 64) h))

module _ {shape : GuestShape} {state : CoreState} {ideal : Ideal} {actor found left : ℕ} {tables : Option Maps} where
  carries_take_index : (n : ℕ) (is : IsStep shape state ideal actor (TakeIndex n) found left tables) {last later_last : ℕ → Key → Type 0} (lasts : Lasts is last later_last) → Carries is lasts
  carries_take_index n is {last} {later_last} lasts =
      carries is lasts index (λ k there asks home h. told_taken is lasts k actor refl (taken_keeps local.cands n found (index_bit shape k) within h)) (marks_stay is lasts refl refl) (λ k vcpu on. absurd (cc))
    where
      local : Local
      local = (seat_at state actor).local

      within : n < length local.cands.words
      within =
          let few = ltb-true n (index_words shape) (and_parts (is_vcpu shape actor) (nat_lt n (index_words shape)) is.takes.can).1 in
          omega (arith, few, (is.sound.locals actor is.takes.actor).cands.each, is.good.spis, is.good.espis, is.good.lpis)

      index : (k : Key) (vcpu : ℕ) → IsTrue (has_interrupt shape k) → vcpu < shape.vcpus → IsTrue (is_indexed shape state vcpu k) → Told shape (later is) later_last vcpu k
      index k vcpu there fits h = elim (word_cases is (Index vcpu (index_bit shape k / 64)) (index_there shape k vcpu (bit_there shape k is.good there) fits)) [
        | inl here ↦
            told_taken is lasts k vcpu (sym (index_vcpu actor vcpu n (index_bit shape k / 64) here.0))
            (taken_has local.cands n found (index_bit shape k) within (sym (index_number actor vcpu n (index_bit shape k / 64) here.0))
            (subst (λ word. IsTrue (has_bit word (index_bit shape k % 64))) (sym (is.takes.found ∙ ap (word_in shape state) here.0)) h))
        | inr apart ↦ inl (subst (λ word. IsTrue (has_bit word (index_bit shape k % 64))) (sym apart.1) h)
      ]

  carries_mark : (key : Key) (v : ℕ) (is : IsStep shape state ideal actor (Mark key v) found left tables) {last later_last : ℕ → Key → Type 0} (lasts : Lasts is last later_last) → Carries is lasts
  carries_mark key v is {last} {later_last} lasts = carries is lasts index cands marks (λ k vcpu on. absurd (cc))
    where
      local : Local
      local = (seat_at state actor).local

      bit : ℕ
      bit = index_bit shape key

      can : IsTrue (nat_lt v shape.vcpus) × IsTrue (is_of_vcpu v key) × IsTrue (has_interrupt shape key)
      can = all_three (nat_lt v shape.vcpus) (is_of_vcpu v key) (has_interrupt shape key) is.takes.can

      -- the bit is there now
      marked_now : (k : Key) (vcpu : ℕ) → vcpu ≡ v → index_bit shape k ≡ bit → Told shape (later is) later_last vcpu k
      marked_now k vcpu same equal =
          inl
          (subst (λ w. IsTrue (has_bit (word_in shape (later is) (Index w (index_bit shape k / 64))) (index_bit shape k % 64))) (sym same)
          (subst (λ b. IsTrue (has_bit (word_in shape (later is) (Index v (b / 64))) (b % 64))) (sym equal)
          (subst (λ word. IsTrue (has_bit word (bit % 64))) (sym (left_in is ∙ is.takes.left)) (or_right found (2 ^ (bit % 64)) (bit % 64) (pow_self (bit % 64))))))

      index : (k : Key) (vcpu : ℕ) → IsTrue (has_interrupt shape k) → vcpu < shape.vcpus → IsTrue (is_indexed shape state vcpu k) → Told shape (later is) later_last vcpu k
      index k vcpu there fits h = elim (word_cases is (Index vcpu (index_bit shape k / 64)) (index_there shape k vcpu (bit_there shape k is.good there) fits)) [
        | inl here ↦
            inl
            (subst (λ word. IsTrue (has_bit word (index_bit shape k % 64))) (sym (here.1 ∙ is.takes.left))
            (or_left found (2 ^ (bit % 64)) (index_bit shape k % 64) (subst (λ word. IsTrue (has_bit word (index_bit shape k % 64))) (sym (is.takes.found ∙ ap (word_in shape state) here.0)) h)))
        | inr apart ↦ inl (subst (λ word. IsTrue (has_bit word (index_bit shape k % 64))) (sym apart.1) h)
      ]

      cands : (k : Key) → IsTrue (has_interrupt shape k) → IsTrue (concerns shape actor (irq_of (word_in shape (later is) (Irq k)))) → (irq_of (word_in shape (later is) (Irq k))).holder ≡ None → IsTrue (is_cand local.cands (index_bit shape k)) → Told shape (later is) later_last actor k
      cands k there asks home h = by_actor (v == actor) refl
        where
          own : IsTrue (is_of_vcpu actor k)
          own = concerns_own shape k actor (word_in shape (later is) (Irq k)) there ((steps_sound shape state (one actor (Mark key v) found left tables) is.good is.sound is.takes).words (Irq k) there) asks

          by_actor : (b : Bool) → (v == actor) ≡ b → Told shape (later is) later_last actor k
          by_actor false e = told_taken is lasts k actor refl (subst (λ c. IsTrue (is_cand c (index_bit shape k))) (ap (λ b. if b then settled shape actor key local.cands else local.cands) (sym e)) h)
          by_actor true e = elim (cases_eq (index_bit shape k) bit) [
            | inl same ↦ marked_now k actor (sym (eqb-true v actor e)) same
            | inr differ ↦
                told_taken is lasts k actor refl
                (subst (λ c. IsTrue (is_cand c (index_bit shape k))) (ap (λ b. if b then settled shape actor key local.cands else local.cands) (sym e))
                (settled_keeps shape actor k key local.cands is.good there can.2 (is.sound.locals actor is.takes.actor).cands.each own (λ same. differ (ap (index_bit shape) same)) h))
          ]

      marks : (k : Key) (vcpu : ℕ) → IsTrue (has_interrupt shape k) → step_changes shape state actor (Mark key v) found k ≡ false → IsTrue (owes_mark k vcpu local) → Kicks is lasts last k vcpu local → Told shape (later is) later_last vcpu k
      marks k vcpu there quiet h kicks = by_key (option_map_or (λ owed. is_same_key owed key) local.marks.key false) refl
        where
          parts : IsTrue (option_map_or (λ owed. is_same_key owed k) local.marks.key false) × IsTrue (has_bit local.marks.vcpus.0 vcpu)
          parts = and_parts (option_map_or (λ owed. is_same_key owed k) local.marks.key false) (has_bit local.marks.vcpus.0 vcpu) h

          kicks_on : Kicks is lasts later_last k vcpu (local_after shape actor local (Mark key v) found)
          kicks_on waits = elim (kicks waits) [ inl kick ↦ inl (kick.0, lasts.kept k actor vcpu there quiet kick.0 kick.1) | inr own ↦ inr own ]

          few : vcpu < shape.vcpus
          few = bit_below vcpu shape.vcpus local.marks.vcpus.0 (is.sound.locals actor is.takes.actor).marks_are parts.1

          by_key : (b : Bool) → option_map_or (λ owed. is_same_key owed key) local.marks.key false ≡ b → Told shape (later is) later_last vcpu k
          by_key false e =
              told_owed is lasts k vcpu
              (subst (λ m. IsTrue (option_map_or (λ owed. is_same_key owed k) m.key false && has_bit m.vcpus.0 vcpu)) (ap (λ b. if b then record local.marks { vcpus = without_vcpu local.marks.vcpus v } else local.marks) (sym e)) h) kicks_on
          by_key true e = elim (cases_eq vcpu v) [
            | inl same ↦ marked_now k vcpu same (ap (index_bit shape) (owed_same local.marks.key k key parts.0 e))
            | inr differ ↦
                told_owed is lasts k vcpu
                (subst (λ m. IsTrue (option_map_or (λ owed. is_same_key owed k) m.key false && has_bit m.vcpus.0 vcpu))
                (ap (λ b. if b then record local.marks { vcpus = without_vcpu local.marks.vcpus v } else local.marks) (sym e))
                (and_from (option_map_or (λ owed. is_same_key owed k) local.marks.key false) (has_bit (without_vcpu local.marks.vcpus v).0 vcpu) parts.0
                (still_in local.marks.vcpus v vcpu (let there = ltb-true v shape.vcpus can.0 in omega (arith, there, is.good.vcpus)) (omega (arith, few, is.good.vcpus)) differ parts.1))) kicks_on
          ]

-- Every step.

pub keeps_complete :
    (shape : GuestShape) (state : CoreState) (ideal : Ideal) (actor : ℕ) (step : CoreStep) (found left : ℕ) (tables : Option Maps) (is : IsStep shape state ideal actor step found left tables) {last later_last : ℕ → Key → Type 0} (lasts : Lasts is last later_last) → Carries is lasts
keeps_complete shape state ideal actor (Look word) found left tables is lasts = carries_look word is lasts
keeps_complete shape state ideal actor (Raise key) found left tables is lasts = cause_carries key (Raise key) is lasts refl is.takes.meets refl (tells_raise key is)
keeps_complete shape state ideal actor (Claim key seen) found left tables is lasts = carries_claim key seen is lasts
keeps_complete shape state ideal actor (GiveBack key back) found left tables is lasts = carries_give_back key back is lasts
keeps_complete shape state ideal actor (Release key) found left tables is lasts = carries_release key is lasts
keeps_complete shape state ideal actor (Poll reg write) found left tables is lasts =
    let local = (seat_at state actor).local in
    carries_other (Poll reg write) is lasts (λ v n e. absurd (cc)) (λ k e. absurd (cc)) (poll_cands reg write found local) (poll_marks reg write found local) (poll_owes reg write found local)
keeps_complete shape state ideal actor (Kick vcpu) found left tables is lasts = carries_kick vcpu is lasts
keeps_complete shape state ideal actor (Touch key seen kind) found left tables is lasts = carries_touch key seen kind is lasts
keeps_complete shape state ideal actor (Want key) found left tables is lasts = carries_want key is lasts
keeps_complete shape state ideal actor (WireUp key) found left tables is lasts = cause_carries key (WireUp key) is lasts refl is.takes.meets refl (tells_wire_up key is)
keeps_complete shape state ideal actor (WireDown key) found left tables is lasts = cause_carries key (WireDown key) is lasts refl is.takes.meets refl (tells_wire_down key is)
keeps_complete shape state ideal actor (Mark key vcpu) found left tables is lasts = carries_mark key vcpu is lasts
keeps_complete shape state ideal actor (TakeIndex word) found left tables is lasts = carries_take_index word is lasts
keeps_complete shape state ideal actor (LineClose line) found left tables is lasts =
    let local = (seat_at state actor).local in
    carries_other (LineClose line) is lasts (λ v n e. absurd (cc)) (λ k e. absurd (cc)) (line_done shape actor found local (λ l. l.cands) (λ l n s. refl) (LineClose line) refl) (line_done shape actor found local (λ l. l.marks) (λ l n s. refl) (LineClose line) refl)
    (line_done shape actor found local (λ l. l.owes) (λ l n s. refl) (LineClose line) refl)
keeps_complete shape state ideal actor step found left tables is lasts = carries_other step is lasts (λ v n e. absurd (cc)) (λ k e. absurd (cc)) refl refl refl
