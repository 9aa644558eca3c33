-- A step of a vCPU while it enters: how far its scan is, with what it found as the guest has it.
use Rattle.std.proofs.Common.{◌≡◌, ℕ, ◌+◌, ◌<◌, ◌≤◌, ◌==◌, ◌&&◌, ◌||◌, inl, inr, true≢false, not, Bool, true, false, IsTrue, List, [], ◌∷◌, ◌++◌, Contains, Option, None, is_none, unwrap_or, if◌then◌else◌, refl, sym, ap, ◌∙◌, subst, arith}
use Rattle.std.proofs.lemmas.Bool.{and_parts}
use Rattle.std.proofs.lemmas.List.{append-nil}
use Rattle.std.proofs.lemmas.List.Elements.{Contains-push_cases}
use Rattle.law_serial_is_eager.specs.Words.{Key, GuestShape, has_interrupt, is_of_vcpu, IsShape, irq_of}
use Rattle.law_serial_is_eager.specs.Histories.{IdealGuest}
use Rattle.law_serial_is_eager.specs.Registers.{Maps}
use Rattle.law_serial_is_eager.specs.Lists.{Offer}
use Rattle.law_serial_is_eager.specs.Core.{Local, Phase, Off, Scanning, Claiming, Loaded, Folding, Made, CoreStep, Look, Claim, Poll, Kick, Mark, TakeIndex, Irq, Vcpu, Queue, Ctlr, Plain, Index, Line, is_settled_by_look, local_after, phase_after, succeeds, settled, index_bit, index_bits, index_words, Progress, after_claim, claim_left, is_end_of, IsProperStep, is_empty, planned, Scan, idle, taking, looking, claiming, has_key, is_idle, offered, scan_allows, scan_looked, without_key, word_taken}
use Rattle.law_serial_is_eager.proofs.PortCore.StepTies.{none_is}
use Rattle.law_serial_is_eager.specs.CoreProper.Progress.{changed_by}
use Rattle.law_serial_is_eager.proofs.CoreProper.ScanLemmas.{IsNext, bit_of_key, next_is, own_of_bit}
use Rattle.law_serial_is_eager.specs.LawCoreIsHistory.Related.{is_folding}
use Rattle.law_serial_is_eager.proofs.LawCoreIsHistory.KickSteps.{is_poll}
use Rattle.law_serial_is_eager.proofs.LawScansMissNone.ScanSteps.{is_scan_step, only_idle, with_made}
use Rattle.law_serial_is_eager.proofs.LawLateOnesLeave.PollLemmas.{inverse}
use Rattle.law_entries_are_plans.proofs.PlaceLemmas.{bit_in, offer_as, offer_home}
use Rattle.law_entries_are_plans.proofs.PlanLemmas.{AreFound, HasPlan, IsFound}
use Rattle.law_entries_are_plans.proofs.RisingLemmas.{rises_push}

-- while it scans it has nothing at its interface, and gives nothing back
pub record IsScanning (local : Local) : Type 0 where
  pub empty : local.at ≡ []
  pub stays : is_folding local.phase ≡ false

-- a scan is over but for claims and marks, or wholly
abbrev pub is_filled : Scan → Bool
is_filled idle = true
is_filled (claiming claims others) = true
is_filled scan = false

-- how far it is: it takes its index, it looks at its candidates and found some as the guest has them, or it has the plan over the guest
pub data Enters (shape : GuestShape) (guest : IdealGuest) (vcpu n : ℕ) (p : Progress) : Type 0 where
  takes : (words : ℕ) → p.scan ≡ taking planned words → IsScanning p.local → Enters shape guest vcpu n p
  looks : (from : ℕ) (offers : List Offer) → p.scan ≡ looking planned from offers → AreFound shape guest vcpu from offers → IsScanning p.local → Enters shape guest vcpu n p
  has : is_filled p.scan ≡ true → HasPlan shape guest vcpu n p.regs → Enters shape guest vcpu n p

-- Its local state.

scanning_take : (shape : GuestShape) (vcpu word found : ℕ) (local : Local) → IsScanning local → IsScanning (local_after shape vcpu local (TakeIndex word) found)
scanning_take shape vcpu word found local is = record { empty = is.empty; stays = of local.phase is.stays }
  where
    of : (phase : Phase) → is_folding phase ≡ false → is_folding (phase_after shape word phase) ≡ false
    of Off h = refl
    of Scanning h = either (word + 1 == index_words shape)
      where
        either : (b : Bool) → is_folding (if b then Claiming else Scanning) ≡ false
        either true = refl
        either false = refl
    of Claiming h = refl
    of Loaded h = refl
    of Folding h = h

scanning_look : (shape : GuestShape) (vcpu found : ℕ) (key : Key) (local : Local) → IsScanning local → IsScanning (local_after shape vcpu local (Look (Irq key)) found)
scanning_look shape vcpu found key local is = of (is_settled_by_look shape vcpu (irq_of found))
  where
    of : (b : Bool) → IsScanning (if b then record local { cands = settled shape vcpu key local.cands } else local)
    of true = record { empty = is.empty; stays = is.stays }
    of false = is

-- The step, before the scan goes on.

module _ (shape : GuestShape) (good : IsShape shape) (guest : IdealGuest) (vcpu n : ℕ) (p : Progress) (found left : ℕ) (tables : Option Maps) where
  abbrev pub q_of : CoreStep → Progress
  q_of step = let made : Made = record { step = step; found = found; left = left; tables = tables } in with_made shape vcpu made p (changed_by shape vcpu step found (succeeds shape vcpu p.local step found) p)

  abbrev Now : Progress → Type 0
  Now q = Enters shape guest vcpu n q

  -- of one that is no step of a scan, and changes nothing of how far it is
  enters_quiet : (step : CoreStep) → IsProperStep shape vcpu p step → is_scan_step step ≡ false → (q_of step).scan ≡ p.scan → (q_of step).regs ≡ p.regs → Now p → Now (q_of step)
  enters_quiet step proper quiet scan regs now = of now
    where
      free : p.scan ≡ idle
      free = only_idle shape vcpu p.local step quiet p.scan proper.scan

      of : Now p → Now (q_of step)
      of (takes words e is) = absurd (let h = free in cc)
      of (looks from offers e are is) = absurd (let h = free in cc)
      of (has e plan) = has (ap is_filled scan ∙ e) (regs ∙ plan)

  -- the next candidate
  enters_look :
      (k : Key) → IsTrue (has_interrupt shape k) → IsProperStep shape vcpu p (Look (Irq k)) → ((irq_of found).holder ≡ None → (irq_of found).want ≡ false → offer_as k (irq_of found) ≡ offer_home guest k) → Now p → Now (q_of (Look (Irq k)))
  enters_look k there proper seen now = of now
    where
      allowed : (scan : Scan) → p.scan ≡ scan → IsTrue (scan_allows shape vcpu p.local scan (Look (Irq k)))
      allowed scan e = subst (λ s. IsTrue (scan_allows shape vcpu p.local s (Look (Irq k)))) e proper.scan

      scan_is : (scan : Scan) → p.scan ≡ scan → (q_of (Look (Irq k))).scan ≡ scan_looked shape k (irq_of found) scan
      scan_is scan e = ap (scan_looked shape k (irq_of found)) e

      regs_are : (scan : Scan) → p.scan ≡ scan → is_filled scan ≡ true → HasPlan shape guest vcpu n p.regs → Now (q_of (Look (Irq k)))
      regs_are idle e f plan = has (ap is_filled (scan_is idle e)) plan
      regs_are (taking purpose words) e f plan = absurd (true≢false (sym f))
      regs_are (looking purpose from offers) e f plan = absurd (true≢false (sym f))
      regs_are (claiming [] []) e f plan = absurd (true≢false (sym (allowed (claiming [] []) e)))
      regs_are (claiming [] (t ∷ ts)) e f plan = absurd (true≢false (sym (allowed (claiming [] (t ∷ ts)) e)))
      regs_are (claiming (c ∷ cs) ts) e f plan = absurd (true≢false (sym (allowed (claiming (c ∷ cs) ts) e)))

      more : (from : ℕ) (offers : List Offer) → AreFound shape guest vcpu from offers → IsNext shape vcpu p from k → AreFound shape guest vcpu (index_bit shape k + 1) (offers ++ offered k (irq_of found))
      more from offers are next = by (is_none (irq_of found).holder && not (irq_of found).want) refl
        where
          one : Offer
          one = offer_as k (irq_of found)

          in_index : next.bit < index_bits shape
          in_index = let below = next.search.below in let above = next.search.above in omega (arith, below, above)

          bit_is : index_bit shape k ≡ next.bit
          bit_is = ap (index_bit shape) next.is ∙ bit_of_key shape vcpu next.bit good in_index

          later : from ≤ index_bit shape k
          later = let above = next.search.above in let at = bit_is in omega (arith, above, at)

          still : (offer : Offer) → Contains offers offer → IsFound shape guest vcpu (index_bit shape k + 1) offer
          still offer h = let is = are.each offer h in let below = is.below in let low = later in record { there = is.there; own = is.own; below = omega (arith, below, low); is = is.is }

          by : (b : Bool) → (is_none (irq_of found).holder && not (irq_of found).want) ≡ b → AreFound shape guest vcpu (index_bit shape k + 1) (offers ++ (if b then (record { key = k; irq = irq_of found }) ∷ [] else []))
          by false e = subst (AreFound shape guest vcpu (index_bit shape k + 1)) (sym (append-nil offers)) (record { each = still; rise = are.rise })
          by true e =
              let both = and_parts (is_none (irq_of found).holder) (not (irq_of found).want) e in
              record {
                each = λ offer h. elim (Contains-push_cases offers one offer h) [
                  | inl old ↦ still offer old
                  | inr new ↦
                      subst (IsFound shape guest vcpu (index_bit shape k + 1)) new
                      (record { there = there; own = subst (λ j. IsTrue (is_of_vcpu vcpu j)) (sym next.is) (own_of_bit shape vcpu next.bit); below = omega arith; is = seen (none_is (irq_of found).holder both.0) (inverse (irq_of found).want both.1) })
                ];
                rise = rises_push (bit_in shape) 0 offers one are.rise (omega arith) (λ offer h. let below = (are.each offer h).below in let low = later in omega (arith, below, low));
              }

      of : Now p → Now (q_of (Look (Irq k)))
      of (takes words e is) = absurd (true≢false (sym (allowed (taking planned words) e)))
      of (looks from offers e are is) =
          looks (index_bit shape k + 1) (offers ++ offered k (irq_of found)) (scan_is (looking planned from offers) e) (more from offers are (next_is shape vcpu p from k (allowed (looking planned from offers) e))) (scanning_look shape vcpu found k p.local is)
      of (has e plan) = regs_are p.scan refl e plan

  -- a claim of the scan, or a take
  enters_claim : (k : Key) (seen : ℕ) → IsProperStep shape vcpu p (Claim k seen) → is_end_of shape vcpu p.operation k ≡ false → (q_of (Claim k seen)).failed ≡ false → Now p → Now (q_of (Claim k seen))
  enters_claim k seen proper no_end failed now = of now
    where
      done : Bool
      done = succeeds shape vcpu p.local (Claim k seen) found

      allowed : (scan : Scan) → p.scan ≡ scan → IsTrue (scan_allows shape vcpu p.local scan (Claim k seen))
      allowed scan e = subst (λ s. IsTrue (scan_allows shape vcpu p.local s (Claim k seen))) e proper.scan

      tried_is : (b : Bool) (claims others : List Key) (ok : Bool) → is_filled (if b then claiming (without_key k claims) (if ok then others else without_key k others) else claiming claims (without_key k others)) ≡ true
      tried_is true claims others ok = refl
      tried_is false claims others ok = refl

      done_is : (a b : Bool) → (a || not b) ≡ false → b ≡ true
      done_is true b h = absurd (true≢false h)
      done_is false true h = refl
      done_is false false h = absurd (true≢false h)

      and_false : (a b c : Bool) → b ≡ false → IsTrue (a && b && c) → ⊥
      and_false a b c e h = true≢false (sym (and_parts a b (and_parts (a && b) c h).0).1 ∙ e)

      regs_are : (scan : Scan) → p.scan ≡ scan → is_filled scan ≡ true → HasPlan shape guest vcpu n p.regs → Now (q_of (Claim k seen))
      regs_are idle e f plan =
          absurd (and_false (unwrap_or p.far false) (is_end_of shape vcpu p.operation k) (is_empty p.local.at) no_end (subst (λ s. IsTrue (not (is_idle s) || (unwrap_or p.far false && is_end_of shape vcpu p.operation k && is_empty p.local.at))) e proper.far))
      regs_are (taking purpose words) e f plan = absurd (true≢false (sym f))
      regs_are (looking purpose from offers) e f plan = absurd (true≢false (sym f))
      regs_are (claiming claims others) e f plan =
          let same : after_claim k (irq_of found) done p.scan p ≡ after_claim k (irq_of found) done (claiming claims others) p = ap (λ s. after_claim k (irq_of found) done s p) e in
          let none : (p.failed || not done) ≡ false = sym (ap (λ (r : Progress). r.failed) same) ∙ failed in
          has (ap (λ (r : Progress). is_filled r.scan) same ∙ tried_is (has_key k claims) claims others done) (ap (λ (r : Progress). r.regs) same ∙ ap (λ b. claim_left k b claims p.regs) (done_is p.failed done none) ∙ plan)

      of : Now p → Now (q_of (Claim k seen))
      of (takes words e is) = absurd (true≢false (sym (allowed (taking planned words) e)))
      of (looks from offers e are is) = absurd (true≢false (sym (allowed (looking planned from offers) e)))
      of (has e plan) = regs_are p.scan refl e plan

  enters_kick : (other : ℕ) → Now p → Now (q_of (Kick other))
  enters_kick other (takes words e is) = takes words e (record { empty = is.empty; stays = is.stays })
  enters_kick other (looks from offers e are is) = looks from offers e are (record { empty = is.empty; stays = is.stays })
  enters_kick other (has e plan) = has e plan

  enters_mark : (k : Key) (v : ℕ) → IsProperStep shape vcpu p (Mark k v) → Now p → Now (q_of (Mark k v))
  enters_mark k v proper (takes words e is) = absurd (true≢false (sym (subst (λ s. IsTrue (scan_allows shape vcpu p.local s (Mark k v))) e proper.scan)))
  enters_mark k v proper (looks from offers e are is) = absurd (true≢false (sym (subst (λ s. IsTrue (scan_allows shape vcpu p.local s (Mark k v))) e proper.scan)))
  enters_mark k v proper (has e plan) = has e plan

  -- the next word of the index
  enters_take : (w : ℕ) → IsProperStep shape vcpu p (TakeIndex w) → (q_of (TakeIndex w)).scanned ≡ false → Now p → Now (q_of (TakeIndex w))
  enters_take w proper untrapped now = of now
    where
      allowed : (scan : Scan) → p.scan ≡ scan → IsTrue (scan_allows shape vcpu p.local scan (TakeIndex w))
      allowed scan e = subst (λ s. IsTrue (scan_allows shape vcpu p.local s (TakeIndex w))) e proper.scan

      busy : (a b : Bool) → (a || b) ≡ false → b ≡ false
      busy true b h = absurd (true≢false h)
      busy false b h = h

      regs_are : (scan : Scan) → p.scan ≡ scan → is_filled scan ≡ true → Now (q_of (TakeIndex w))
      regs_are idle e f = absurd (true≢false (sym (ap is_idle e) ∙ busy p.scanned (is_idle p.scan) untrapped))
      regs_are (taking purpose words) e f = absurd (true≢false (sym f))
      regs_are (looking purpose from offers) e f = absurd (true≢false (sym f))
      regs_are (claiming [] []) e f = absurd (true≢false (sym (allowed (claiming [] []) e)))
      regs_are (claiming [] (t ∷ ts)) e f = absurd (true≢false (sym (allowed (claiming [] (t ∷ ts)) e)))
      regs_are (claiming (c ∷ cs) ts) e f = absurd (true≢false (sym (allowed (claiming (c ∷ cs) ts) e)))

      of : Now p → Now (q_of (TakeIndex w))
      of (takes words e is) = takes (words + 1) (ap word_taken e) (scanning_take shape vcpu w found p.local is)
      of (looks from offers e are is) = absurd (true≢false (sym (allowed (looking planned from offers) e)))
      of (has e plan) = regs_are p.scan refl e

  -- each step but a look for a kick
  pub enters_made :
      (step : CoreStep) → is_poll step ≡ false → IsProperStep shape vcpu p step → ((key : Key) → is_end_of shape vcpu p.operation key ≡ false)
      → ((k : Key) → step ≡ Look (Irq k) → IsTrue (has_interrupt shape k) × ((irq_of found).holder ≡ None → (irq_of found).want ≡ false → offer_as k (irq_of found) ≡ offer_home guest k)) → (q_of step).failed ≡ false → (q_of step).scanned ≡ false
      → Now p → Now (q_of step)
  enters_made (Look (Irq k)) other proper no_end seen failed untrapped now = let is = seen k refl in enters_look k is.0 proper is.1 now
  enters_made (Look (Vcpu v)) other proper no_end seen failed untrapped now = enters_quiet (Look (Vcpu v)) proper refl refl refl now
  enters_made (Look Queue) other proper no_end seen failed untrapped now = enters_quiet (Look Queue) proper refl refl refl now
  enters_made (Look Ctlr) other proper no_end seen failed untrapped now = enters_quiet (Look Ctlr) proper refl refl refl now
  enters_made (Look (Plain i)) other proper no_end seen failed untrapped now = enters_quiet (Look (Plain i)) proper refl refl refl now
  enters_made (Look (Index v m)) other proper no_end seen failed untrapped now = enters_quiet (Look (Index v m)) proper refl refl refl now
  enters_made (Look (Line m)) other proper no_end seen failed untrapped now = enters_quiet (Look (Line m)) proper refl refl refl now
  enters_made (Claim k s) other proper no_end seen failed untrapped now = enters_claim k s proper (no_end k) failed now
  enters_made (Kick v) other proper no_end seen failed untrapped now = enters_kick v now
  enters_made (Mark k v) other proper no_end seen failed untrapped now = enters_mark k v proper now
  enters_made (TakeIndex w) other proper no_end seen failed untrapped now = enters_take w proper untrapped now
  enters_made (Poll reg write) other proper no_end seen failed untrapped now = absurd (true≢false other)
  enters_made step other proper no_end seen failed untrapped now = enters_quiet step proper refl refl refl now
