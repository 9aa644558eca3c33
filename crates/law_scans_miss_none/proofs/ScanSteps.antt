-- A vCPU's own steps while it scans.
use Rattle.std.proofs.Common.{◌≡◌, ◌≢◌, ℕ, ◌+◌, ◌/◌, ◌%◌, ◌<◌, ◌≤◌, ◌==◌, ◌&&◌, ◌||◌, ◌⊎◌, inl, inr, true≢false, not, Bool, true, false, IsTrue, List, [], ◌∷◌, ◌++◌, Contains, Option, Some, None, is_none, unwrap_or, nat_lt, if◌then◌else◌, length, lit<, refl, sym, ap, ◌∙◌, subst, arith}
use Rattle.std.specs.Option.{option_map}
use Rattle.std.proofs.lemmas.List.Elements.{Contains-append_left, Contains-append_right}
use Rattle.std.proofs.lemmas.Bool.{cases_eq, cases_lt, and_parts, eqb-true, ltb-true, not-false, or_parts}
use Rattle.law_registers_stand.specs.Words.{IccReg, Key, GuestShape, has_interrupt, is_of_vcpu, IsShape, has_bit, Irq as IrqRecord, irq_of}
use Rattle.law_registers_stand.specs.Histories.{Ideal, Track}
use Rattle.law_registers_stand.specs.Registers.{Maps}
use Rattle.law_registers_stand.specs.Lists.{Offer, Pending, first_among, plan, regs_of, chosen_as}
use Rattle.law_registers_stand.specs.Core.{Local, Made, CoreStep, Look, Claim, Poll, Kick, Mark, TakeIndex, Irq, Index, local_after, claimed, looked, is_settled_by_look, may_take_index, succeeds, vcpu_of, is_cand, is_vcpu, settled, with_cand_word, owes_no_mark, index_bit, index_bits, index_words, CoreState, seat_at, word_in, IsSeatOf, Progress, after_claim, after_poll, begun, claim_left, IsProperStep, is_empty, alone, Purpose, planned, trapped, bare, Scan, idle, taking, looking, claiming, is_idle, has_key, without_key, is_next, offered, scan_allows, scan_looked, tried, word_taken}
use Rattle.law_registers_stand.specs.CoreProper.Progress.{changed_by}
use Rattle.law_registers_stand.proofs.LawCoreIsHistory.StepContext.{one, IsStep, has}
use Rattle.law_scans_miss_none.specs.Index.{owes_mark}
use Rattle.law_scans_miss_none.specs.Waiting.{record_in, IsDue}
use Rattle.law_registers_stand.specs.Asks.{IsUnkicked}
use Rattle.law_scans_miss_none.specs.Scan.{offer_in, IsAhead, IsFilled, HasScanned, Covers}
use Rattle.law_registers_stand.proofs.LawCoreIsHistory.AfterLemmas.{later}
use Rattle.law_scans_miss_none.proofs.CalmSteps.{kick_failed}
use Rattle.law_scans_miss_none.proofs.ToldLemmas.{waiting_concerns, owes_none, IsOwnRelease, Lasts, Told, AllTold}
use Rattle.law_scans_miss_none.proofs.TellSteps.{concerns_own, same_bit}
use Rattle.law_scans_miss_none.proofs.IndexSteps.{settled_keeps, taken_keeps, taken_has, either_way}
use Rattle.law_registers_stand.proofs.LawCoreIsHistory.KickSteps.{is_poll_by, unkicked_before}
use Rattle.law_scans_miss_none.proofs.WaitingSteps.{last_in, DueSo, due_before}
use Rattle.law_registers_stand.proofs.CoreProper.ScanLemmas.{bit_of_key, own_of_bit, IsNext, next_is}

-- an actor's progress with what a step leaves it
abbrev pub with_made : GuestShape → ℕ → Made → Progress → Progress → Progress
with_made shape actor made before p = record p { local = local_after shape actor before.local made.step made.found; own = before.own ++ made ∷ [] }

-- what a step leaves to cover, before the scan goes on
abbrev pub Leaves : {shape : GuestShape} {state : CoreState} {ideal : Ideal} {vcpu : ℕ} {step : CoreStep} {found left : ℕ} {tables : Option Maps} → IsStep shape state ideal vcpu step found left tables → Track → Track → Progress → Type 0
Leaves {shape} {state} {ideal} {vcpu} {step} {found} {left} {tables} is track later_track p =
    let made = (one vcpu step found left tables).made in
    let q = with_made shape vcpu made p (changed_by shape vcpu step found (succeeds shape vcpu p.local step found) p) in
    IsUnkicked shape (later is) vcpu → q.failed ≡ false → Covers shape (later is) later_track vcpu q q.scan

-- Lists of offers with more.

at_end : (offers : List Offer) (k : Key) (irq : IrqRecord) → irq.holder ≡ None → irq.want ≡ false → Contains (offers ++ offered k irq) (record { key = k; irq = irq })
at_end offers k irq home unwanted =
    let one : Offer = record { key = k; irq = irq } in
    let there : offered k irq ≡ one ∷ [] = ap (λ o. if is_none o && not irq.want then one ∷ [] else []) home ∙ ap (λ w. if not w then one ∷ [] else []) unwanted in
    Contains-append_right offers (offered k irq) one (subst (λ xs. Contains xs one) (sym there) (0, lit< tt, refl))

-- a look keeps the candidates but for the interrupt that it is at
look_keeps :
    (shape : GuestShape) (vcpu found : ℕ) (k key : Key) (local : Local) → IsShape shape → IsTrue (has_interrupt shape key) → IsTrue (has_interrupt shape k) → length local.cands.words ≡ 96 → IsTrue (is_of_vcpu vcpu key) → key ≢ k
    → IsTrue (is_cand local.cands (index_bit shape key)) → IsTrue (is_cand (looked shape vcpu (Irq k) found local).cands (index_bit shape key))
look_keeps shape vcpu found k key local good here there each own differ h = of (is_settled_by_look shape vcpu (irq_of found))
  where
    of : (b : Bool) → IsTrue (is_cand (if b then record local { cands = settled shape vcpu k local.cands } else local).cands (index_bit shape key))
    of true = settled_keeps shape vcpu key k local.cands good here there each own differ h
    of false = h

module _ {shape : GuestShape} {state : CoreState} {ideal : Ideal} {vcpu found left : ℕ} {tables : Option Maps} (within : vcpu < shape.vcpus) (track later_track : Track) (all_told : AllTold shape state (last_in shape track)) (p : Progress) (seat : IsSeatOf p (seat_at state vcpu)) where
  -- the next word of the index
  takes_word :
      (w : ℕ) (is : IsStep shape state ideal vcpu (TakeIndex w) found left tables) (lasts : Lasts is (last_in shape track) (last_in shape later_track)) (words : ℕ) → w ≡ words → IsUnkicked shape (later is) vcpu
      → ((key : Key) → IsDue shape state track vcpu key → IsTrue (is_cand p.local.cands (index_bit shape key)) ⊎ (words ≤ index_bit shape key / 64))
      → (key : Key) → IsDue shape (later is) later_track vcpu key → IsTrue (is_cand (with_cand_word p.local.cands w found) (index_bit shape key)) ⊎ (words + 1 ≤ index_bit shape key / 64)
  takes_word w is lasts words same calm covers key due =
      let before = due_before is vcpu within track later_track lasts (λ own. absurd (true≢false (sym own.0))) refl calm key due in
      elim (covers key before.due) [
        | inl cand ↦ inl (taken_keeps p.local.cands w found (index_bit shape key) room cand)
        | inr late ↦
            elim (cases_eq (index_bit shape key / 64) w) [
              | inl here ↦ inl (told before.due here (all_told key vcpu due.waiting.there within before.due.waiting.home (waiting_concerns shape vcpu (record_in shape state key) before.due.waiting.waits)))
              | inr apart ↦ inr (omega (arith, late, same, apart))
            ]
      ]
    where
      local : Local
      local = (seat_at state vcpu).local

      mine : p.local ≡ local
      mine = seat.local

      room : w < length p.local.cands.words
      room =
          let few = ltb-true w (index_words shape) (and_parts (is_vcpu shape vcpu) (nat_lt w (index_words shape)) is.takes.can).1 in
          let each : length p.local.cands.words ≡ 96 = ap (λ (l : Local). length l.cands.words) mine ∙ (is.sound.locals vcpu is.takes.actor).cands.each in
          omega (arith, few, each, is.good.spis, is.good.espis, is.good.lpis)

      told : IsDue shape state track vcpu key → index_bit shape key / 64 ≡ w → Told shape state (last_in shape track) vcpu key → IsTrue (is_cand (with_cand_word p.local.cands w found) (index_bit shape key))
      told waits here (inl indexed) =
          taken_has p.local.cands w found (index_bit shape key) room here
          (subst (λ n. IsTrue (has_bit n (index_bit shape key % 64))) (ap (λ n. word_in shape state (Index vcpu n)) here ∙ sym is.takes.found) indexed)
      told waits here (inr (inl taken)) = taken_keeps p.local.cands w found (index_bit shape key) room (subst (λ (l : Local). IsTrue (is_cand l.cands (index_bit shape key))) (sym mine) taken)
      told waits here (inr (inr owed)) = elim (owed.kicks waits.waiting.waits) [
        | inl kick ↦ absurd (waits.told (record { actor = owed.actor; there = owed.there; last = kick.1; owes = kick.0 }))
        | inr own ↦
            absurd
            (owes_none key vcpu local (and_parts (may_take local) (owes_no_mark local) is.takes.meets).1
            (subst (λ n. IsTrue (owes_mark key vcpu (seat_at state n).local)) own owed.owes))
      ]
        where
          may_take : Local → Bool
          may_take l = may_take_index l.phase

  -- The next candidate.

  looks_at :
      (k : Key) (is : IsStep shape state ideal vcpu (Look (Irq k)) found left tables) (lasts : Lasts is (last_in shape track) (last_in shape later_track)) (from : ℕ) (offers : List Offer) → IsTrue (is_next shape vcpu p.local.cands from k) → IsUnkicked shape (later is) vcpu
      → ((key : Key) → IsDue shape state track vcpu key → IsAhead shape p from key ⊎ Contains offers (offer_in shape state key)) → (key : Key) → IsDue shape (later is) later_track vcpu key
      → ((IsTrue (is_cand (looked shape vcpu (Irq k) found p.local).cands (index_bit shape key))) × (index_bit shape k + 1 ≤ index_bit shape key)) ⊎ Contains (offers ++ offered k (irq_of found)) (offer_in shape (later is) key)
  looks_at k is lasts from offers next calm covers key due =
      let before = due_before is vcpu within track later_track lasts (λ own. absurd (true≢false (sym own.0))) refl calm key due in
      let same : offer_in shape (later is) key ≡ offer_in shape state key = ap (λ irq. record { key = key; irq = irq }) before.same in
      elim (covers key before.due) [
        | inr there ↦ inr (subst (Contains (offers ++ offered k (irq_of found))) (sym same) (Contains-append_left offers (offered k (irq_of found)) (offer_in shape state key) there))
        | inl ahead ↦ at before.due same ahead (next_is shape vcpu p from k next)
      ]
    where
      at : IsDue shape state track vcpu key → offer_in shape (later is) key ≡ offer_in shape state key → IsAhead shape p from key → IsNext shape vcpu p from k
          → ((IsTrue (is_cand (looked shape vcpu (Irq k) found p.local).cands (index_bit shape key))) × (index_bit shape k + 1 ≤ index_bit shape key)) ⊎ Contains (offers ++ offered k (irq_of found)) (offer_in shape (later is) key)
      at waited same ahead next = elim (cases_eq (index_bit shape key) (index_bit shape k)) [
        | inl equal ↦
            (let here : key ≡ k = same_bit shape vcpu key k is.good waited.waiting.there (has is) own own_k equal in
            let irq : record_in shape state key ≡ irq_of found = ap irq_of (ap (λ j. word_in shape state (Irq j)) here ∙ sym is.takes.found) in
            inr (subst (Contains (offers ++ offered k (irq_of found))) (sym (same ∙ both key k here irq))
            (at_end offers k (irq_of found) (ap (λ (i : IrqRecord). i.holder) (sym irq) ∙ waited.waiting.home) (ap (λ (i : IrqRecord). i.want) (sym irq) ∙ waited.waiting.unwanted))))
        | inr differ ↦
            inl (look_keeps shape vcpu found k key p.local is.good waited.waiting.there (has is) each own (λ e. differ (ap (index_bit shape) e)) ahead.cand, beyond differ)
      ]
        where
          good_bit : next.bit < index_bits shape
          good_bit = let below = next.search.below in let above = next.search.above in omega (arith, below, above)

          bit_k : index_bit shape k ≡ next.bit
          bit_k = ap (index_bit shape) next.is ∙ bit_of_key shape vcpu next.bit is.good good_bit

          own_k : IsTrue (is_of_vcpu vcpu k)
          own_k = subst (λ j. IsTrue (is_of_vcpu vcpu j)) (sym next.is) (own_of_bit shape vcpu next.bit)

          own : IsTrue (is_of_vcpu vcpu key)
          own = concerns_own shape key vcpu (word_in shape state (Irq key)) waited.waiting.there (is.sound.words (Irq key) waited.waiting.there) (waiting_concerns shape vcpu (record_in shape state key) waited.waiting.waits)

          each : length p.local.cands.words ≡ 96
          each = ap (λ (l : Local). length l.cands.words) seat.local ∙ (is.sound.locals vcpu is.takes.actor).cands.each

          both : (one other : Key) → one ≡ other → {i j : IrqRecord} → i ≡ j → (let first : Offer = record { key = one; irq = i } in first) ≡ record { key = other; irq = j }
          both one other e {i} {j} f = ap (λ key. record { key = key; irq = i }) e ∙ ap (λ irq. record { key = other; irq = irq }) f

          beyond : index_bit shape key ≢ index_bit shape k → index_bit shape k + 1 ≤ index_bit shape key
          beyond differ = elim (cases_lt (index_bit shape key) (index_bit shape k)) [
            | inl less ↦ (let from_here = ahead.ahead in let at_k = bit_k in absurd (true≢false (sym ahead.cand ∙ next.search.first (index_bit shape key) from_here (omega (arith, less, at_k)))))
            | inr more ↦ omega (arith, more, differ)
          ]

-- A scan goes on by its own steps alone.

abbrev pub is_scan_step : CoreStep → Bool
is_scan_step (Look (Irq key)) = true
is_scan_step (Claim key seen) = true
is_scan_step (Kick other) = true
is_scan_step (Mark key other) = true
is_scan_step (TakeIndex word) = true
is_scan_step step = false

pub only_idle : (shape : GuestShape) (vcpu : ℕ) (local : Local) (step : CoreStep) → is_scan_step step ≡ false → (scan : Scan) → IsTrue (scan_allows shape vcpu local scan step) → scan ≡ idle
only_idle shape vcpu local step other idle h = refl
only_idle shape vcpu local (Look (Irq key)) other scan h = absurd (true≢false other)
only_idle shape vcpu local (Claim key seen) other scan h = absurd (true≢false other)
only_idle shape vcpu local (Kick target) other scan h = absurd (true≢false other)
only_idle shape vcpu local (Mark key target) other scan h = absurd (true≢false other)
only_idle shape vcpu local (TakeIndex word) other scan h = absurd (true≢false other)
only_idle shape vcpu local step other scan h = absurd (true≢false (sym h))

-- a scan has claims or takes left, or marks
pub record IsClaiming (scan : Scan) : Type 0 where
  pub claims : List Key
  pub takes : List Key
  pub is : scan ≡ claiming claims takes

-- so it is after a claim or take
pub still_claiming : (key : Key) (done : Bool) (claims takes : List Key) → IsClaiming (tried key done (claiming claims takes))
still_claiming key done claims takes = of (has_key key claims)
  where
    of : (b : Bool) → IsClaiming (if b then claiming (without_key key claims) (if done then takes else without_key key takes) else claiming claims (without_key key takes))
    of true = record { claims = without_key key claims; takes = if done then takes else without_key key takes; is = refl }
    of false = record { claims = claims; takes = without_key key takes; is = refl }

-- a scan without end, with another state: what is filled stays so
pub as_filled : (shape : GuestShape) (vcpu : ℕ) (p q : Progress) (offers : List Offer) (lrs : ℕ) (purpose : Purpose) → q.regs ≡ p.regs → q.trapping ≡ p.trapping → q.local.cpu ≡ p.local.cpu → IsFilled shape vcpu p offers lrs purpose → IsFilled shape vcpu q offers lrs purpose
as_filled shape vcpu p q offers lrs planned regs trapping cpu (filled, mode) =
    (regs ∙ filled ∙ ap (λ c. let fill = plan offers vcpu c shape lrs in regs_of fill c lrs) (sym cpu), trapping ∙ mode ∙ ap (λ c. (plan offers vcpu c shape lrs).trapping) (sym cpu))
as_filled shape vcpu p q offers lrs trapped regs trapping cpu filled = regs ∙ filled ∙ ap (λ c. alone (option_map (chosen_as Pending) (first_among offers vcpu c shape)) c lrs) (sym cpu)
as_filled shape vcpu p q offers lrs bare regs trapping cpu filled = regs ∙ filled ∙ ap (λ c. alone None c lrs) (sym cpu)

module _ {shape : GuestShape} {state : CoreState} {ideal : Ideal} {vcpu found left : ℕ} {tables : Option Maps} (within : vcpu < shape.vcpus) (track later_track : Track) (all_told : AllTold shape state (last_in shape track)) (p : Progress) (seat : IsSeatOf p (seat_at state vcpu)) where
  -- what was found is so after a step too
  scanned_on :
      (step : CoreStep) (is : IsStep shape state ideal vcpu step found left tables) (lasts : Lasts is (last_in shape track) (last_in shape later_track)) (q : Progress) → (IsOwnRelease step vcpu vcpu → ⊥) → is_poll_by vcpu vcpu step ≡ false → q.regs ≡ p.regs → q.trapping ≡ p.trapping → q.local.cpu ≡ p.local.cpu → IsUnkicked shape (later is) vcpu
      → HasScanned shape state track vcpu p → HasScanned shape (later is) later_track vcpu q
  scanned_on step is lasts q other no_poll regs trapping cpu calm scanned = record {
    offers = scanned.offers;
    lrs = scanned.lrs;
    purpose = scanned.purpose;
    filled = as_filled shape vcpu p q scanned.offers scanned.lrs scanned.purpose regs trapping cpu scanned.filled;
    covers = λ key due.
        let before = due_before is vcpu within track later_track lasts other no_poll calm key due in
        subst (Contains scanned.offers) (ap (λ irq. record { key = key; irq = irq }) (sym before.same)) (scanned.covers key before.due);
  }

  -- of one that is no step of a scan
  leaves_quiet : (step : CoreStep) (is : IsStep shape state ideal vcpu step found left tables) (lasts : Lasts is (last_in shape track) (last_in shape later_track)) (q : Progress) → is_scan_step step ≡ false → IsTrue (scan_allows shape vcpu p.local p.scan step) → (p.scan ≡ idle → q.scan ≡ idle) → Covers shape (later is) later_track vcpu q q.scan
  leaves_quiet step is lasts q quiet allowed same = subst (Covers shape (later is) later_track vcpu q) (sym (same (only_idle shape vcpu p.local step quiet p.scan allowed))) tt

  leaves_look :
      (k : Key) (is : IsStep shape state ideal vcpu (Look (Irq k)) found left tables) (lasts : Lasts is (last_in shape track) (last_in shape later_track)) → IsProperStep shape vcpu p (Look (Irq k)) → (IsUnkicked shape state vcpu → p.failed ≡ false → Covers shape state track vcpu p p.scan) → Leaves is track later_track p
  leaves_look k is lasts proper covers calm failed = of p.scan refl proper.scan (covers ((unkicked_before is vcpu within refl calm).0) failed)
    where
      q : Progress
      q = with_made shape vcpu (one vcpu (Look (Irq k)) found left tables).made p (changed_by shape vcpu (Look (Irq k)) found true p)

      of : (scan : Scan) → p.scan ≡ scan → IsTrue (scan_allows shape vcpu p.local scan (Look (Irq k))) → Covers shape state track vcpu p p.scan → Covers shape (later is) later_track vcpu q q.scan
      of idle e allowed before = subst (Covers shape (later is) later_track vcpu q) (sym (ap (scan_looked shape k (irq_of found)) e)) tt
      of (looking purpose from offers) e allowed before =
          subst (Covers shape (later is) later_track vcpu q) (sym (ap (scan_looked shape k (irq_of found)) e))
          (λ key due.
          elim (looks_at within track later_track all_told p seat k is lasts from offers allowed calm (subst (Covers shape state track vcpu p) e before) key due) [
            | inl still ↦ inl (record { cand = still.0; ahead = still.1 })
            | inr there ↦ inr there
          ])
      of scan e allowed before = absurd (true≢false (sym allowed))

  leaves_take_index :
      (w : ℕ) (is : IsStep shape state ideal vcpu (TakeIndex w) found left tables) (lasts : Lasts is (last_in shape track) (last_in shape later_track)) → IsProperStep shape vcpu p (TakeIndex w) → (IsUnkicked shape state vcpu → p.failed ≡ false → Covers shape state track vcpu p p.scan) → Leaves is track later_track p
  leaves_take_index w is lasts proper covers calm failed = of p.scan refl proper.scan proper.trap (covers ((unkicked_before is vcpu within refl calm).0) failed)
    where
      q : Progress
      q = with_made shape vcpu (one vcpu (TakeIndex w) found left tables).made p (changed_by shape vcpu (TakeIndex w) found true p)

      of : (scan : Scan) → p.scan ≡ scan → IsTrue (scan_allows shape vcpu p.local scan (TakeIndex w)) → IsTrue (not (is_idle p.scan) || (p.trapping && w == 0 && is_empty p.local.at)) → Covers shape state track vcpu p p.scan → Covers shape (later is) later_track vcpu q q.scan
      of idle e allowed trap before =
          let first : w ≡ 0 = eqb-true w 0 (and_parts p.trapping (w == 0) (and_parts (p.trapping && w == 0) (is_empty p.local.at) (subst (λ b. IsTrue (not b || (p.trapping && w == 0 && is_empty p.local.at))) (ap is_idle e) trap)).0).1 in
          subst (Covers shape (later is) later_track vcpu q) (sym (ap word_taken e))
          (λ key due. takes_word within track later_track all_told p seat w is lasts 0 first calm (λ other waits. inr (omega arith)) key due)
      of (taking purpose words) e allowed trap before =
          subst (Covers shape (later is) later_track vcpu q) (sym (ap word_taken e))
          (λ key due. takes_word within track later_track all_told p seat w is lasts words (eqb-true w words allowed) calm (subst (Covers shape state track vcpu p) e before) key due)
      of scan e allowed trap before = absurd (true≢false (sym allowed))

  -- a kick, also of the vCPU itself where a claim failed
  leaves_kick : (other : ℕ) (is : IsStep shape state ideal vcpu (Kick other) found left tables) (lasts : Lasts is (last_in shape track) (last_in shape later_track)) → (IsUnkicked shape state vcpu → p.failed ≡ false → Covers shape state track vcpu p p.scan) → Leaves is track later_track p
  leaves_kick other is lasts covers calm failed = of p.scan refl (covers ((unkicked_before is vcpu within refl calm).0) (kick_failed p.failed other vcpu ((unkicked_before is vcpu within refl calm).1) failed))
    where
      q : Progress
      q = with_made shape vcpu (one vcpu (Kick other) found left tables).made p (changed_by shape vcpu (Kick other) found true p)

      before_is : (key : Key) → IsDue shape (later is) later_track vcpu key → DueSo is vcpu within track later_track lasts key
      before_is key due = due_before is vcpu within track later_track lasts (λ own. absurd (true≢false (sym own.0))) refl calm key due

      of : (scan : Scan) → p.scan ≡ scan → Covers shape state track vcpu p p.scan → Covers shape (later is) later_track vcpu q q.scan
      of idle e before = subst (Covers shape (later is) later_track vcpu q) (sym e) tt
      of (taking purpose words) e before =
          subst (Covers shape (later is) later_track vcpu q) (sym e) (λ key due. subst (Covers shape state track vcpu p) e before key (before_is key due).due)
      of (looking purpose from offers) e before =
          subst (Covers shape (later is) later_track vcpu q) (sym e)
          (λ key due.
          let was = before_is key due in
          elim (subst (Covers shape state track vcpu p) e before key was.due) [
            | inl ahead ↦ inl (record { cand = ahead.cand; ahead = ahead.ahead })
            | inr there ↦ inr (subst (Contains offers) (ap (λ irq. record { key = key; irq = irq }) (sym was.same)) there)
          ])
      of (claiming claims takes) e before =
          subst (Covers shape (later is) later_track vcpu q) (sym e) (scanned_on (Kick other) is lasts q (λ own. absurd (true≢false (sym own.0))) refl refl refl refl calm (subst (Covers shape state track vcpu p) e before))

  leaves_mark :
      (k : Key) (v : ℕ) (is : IsStep shape state ideal vcpu (Mark k v) found left tables) (lasts : Lasts is (last_in shape track) (last_in shape later_track)) → IsProperStep shape vcpu p (Mark k v) → (IsUnkicked shape state vcpu → p.failed ≡ false → Covers shape state track vcpu p p.scan) → Leaves is track later_track p
  leaves_mark k v is lasts proper covers calm failed = of p.scan refl proper.scan (covers ((unkicked_before is vcpu within refl calm).0) failed)
    where
      q : Progress
      q = with_made shape vcpu (one vcpu (Mark k v) found left tables).made p (changed_by shape vcpu (Mark k v) found true p)

      of : (scan : Scan) → p.scan ≡ scan → IsTrue (scan_allows shape vcpu p.local scan (Mark k v)) → Covers shape state track vcpu p p.scan → Covers shape (later is) later_track vcpu q q.scan
      of idle e allowed before = subst (Covers shape (later is) later_track vcpu q) (sym e) tt
      of (claiming [] []) e allowed before =
          subst (Covers shape (later is) later_track vcpu q) (sym e) (scanned_on (Mark k v) is lasts q (λ own. absurd (true≢false (sym own.0))) refl refl refl refl calm (subst (Covers shape state track vcpu p) e before))
      of scan e allowed before = absurd (true≢false (sym allowed))

  leaves_claim :
      (k : Key) (seen : ℕ) (is : IsStep shape state ideal vcpu (Claim k seen) found left tables) (lasts : Lasts is (last_in shape track) (last_in shape later_track)) → IsProperStep shape vcpu p (Claim k seen) → (IsUnkicked shape state vcpu → p.failed ≡ false → Covers shape state track vcpu p p.scan) → Leaves is track later_track p
  leaves_claim k seen is lasts proper covers calm failed = of p.scan refl proper.scan (covers ((unkicked_before is vcpu within refl calm).0))
    where
      done : Bool
      done = succeeds shape vcpu p.local (Claim k seen) found

      q : Progress
      q = with_made shape vcpu (one vcpu (Claim k seen) found left tables).made p (changed_by shape vcpu (Claim k seen) found done p)

      -- what a claim of a scan leaves
      after : List Key → List Key → Progress
      after claims takes = with_made shape vcpu (one vcpu (Claim k seen) found left tables).made p (after_claim k (irq_of found) done (claiming claims takes) p)

      cpu : (local_after shape vcpu p.local (Claim k seen) found).cpu ≡ p.local.cpu
      cpu = either_way (λ (l : Local). l.cpu) done (claimed shape vcpu k found p.local) p.local refl

      of : (scan : Scan) → p.scan ≡ scan → IsTrue (scan_allows shape vcpu p.local scan (Claim k seen)) → (p.failed ≡ false → Covers shape state track vcpu p p.scan) → Covers shape (later is) later_track vcpu q q.scan
      of idle e allowed before = subst (Covers shape (later is) later_track vcpu q) (sym (ap (λ scan. (after_claim k (irq_of found) done scan p).scan) e ∙ e)) tt
      of (claiming claims takes) e allowed before =
          let same : q ≡ after claims takes = ap (λ scan. with_made shape vcpu (one vcpu (Claim k seen) found left tables).made p (after_claim k (irq_of found) done scan p)) e in
          let none : (p.failed || not done) ≡ false = sym (ap (λ (r : Progress). r.failed) same) ∙ failed in
          let tries = still_claiming k done claims takes in
          subst (λ r. Covers shape (later is) later_track vcpu r r.scan) (sym same)
          (subst (Covers shape (later is) later_track vcpu (after claims takes)) (sym tries.is)
          (scanned_on (Claim k seen) is lasts (after claims takes) (λ own. absurd (true≢false (sym own.0))) refl (ap (λ b. claim_left k b claims p.regs) (not-false done (or_parts p.failed (not done) none).1)) refl cpu calm
          (subst (Covers shape state track vcpu p) e (before (or_parts p.failed (not done) none).0))))
      of scan e allowed before = absurd (true≢false (sym allowed))

  leaves_poll :
      (reg : Option IccReg) (write : Option ℕ) (is : IsStep shape state ideal vcpu (Poll reg write) found left tables) (lasts : Lasts is (last_in shape track) (last_in shape later_track)) → IsProperStep shape vcpu p (Poll reg write) → Leaves is track later_track p
  leaves_poll None write is lasts proper calm failed = of (unwrap_or p.far false)
    where
      of : (b : Bool) → let q = with_made shape vcpu (one vcpu (Poll None write) found left tables).made p (begun b p) in Covers shape (later is) later_track vcpu q q.scan
      of true = λ key due. inr (omega arith)
      of false = λ key due. inr (omega arith)
  leaves_poll (Some reg) write is lasts proper calm failed = of (vcpu_of found).kick
    where
      free : p.scan ≡ idle
      free = only_idle shape vcpu p.local (Poll (Some reg) write) refl p.scan proper.scan

      of : (b : Bool) → let q = with_made shape vcpu (one vcpu (Poll (Some reg) write) found left tables).made p (after_poll (Some reg) write b p) in Covers shape (later is) later_track vcpu q q.scan
      of true = let q = with_made shape vcpu (one vcpu (Poll (Some reg) write) found left tables).made p (after_poll (Some reg) write true p) in subst (Covers shape (later is) later_track vcpu q) (sym free) tt
      of false = let q = with_made shape vcpu (one vcpu (Poll (Some reg) write) found left tables).made p (after_poll (Some reg) write false p) in subst (Covers shape (later is) later_track vcpu q) (sym free) tt

  -- a step that changes nothing of how far the scan is
  leaves_same : (step : CoreStep) (is : IsStep shape state ideal vcpu step found left tables) (lasts : Lasts is (last_in shape track) (last_in shape later_track)) → IsProperStep shape vcpu p step → is_scan_step step ≡ false → (changed_by shape vcpu step found (succeeds shape vcpu p.local step found) p).scan ≡ p.scan → Leaves is track later_track p
  leaves_same step is lasts proper quiet same calm failed =
      leaves_quiet step is lasts (with_made shape vcpu (one vcpu step found left tables).made p (changed_by shape vcpu step found (succeeds shape vcpu p.local step found) p)) quiet proper.scan (λ e. same ∙ e)

  pub leaves : (step : CoreStep) (is : IsStep shape state ideal vcpu step found left tables) (lasts : Lasts is (last_in shape track) (last_in shape later_track)) → IsProperStep shape vcpu p step → (IsUnkicked shape state vcpu → p.failed ≡ false → Covers shape state track vcpu p p.scan) → Leaves is track later_track p
  leaves (Look (Irq k)) is lasts proper covers = leaves_look k is lasts proper covers
  leaves (Claim k seen) is lasts proper covers = leaves_claim k seen is lasts proper covers
  leaves (Kick other) is lasts proper covers = leaves_kick other is lasts covers
  leaves (Mark k v) is lasts proper covers = leaves_mark k v is lasts proper covers
  leaves (TakeIndex w) is lasts proper covers = leaves_take_index w is lasts proper covers
  leaves (Poll reg write) is lasts proper covers = leaves_poll reg write is lasts proper
  leaves step is lasts proper covers = leaves_same step is lasts proper refl refl
