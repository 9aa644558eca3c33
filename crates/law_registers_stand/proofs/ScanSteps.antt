-- A vCPU's own steps while it scans, and any of its own steps, keep what its registers stand for.
use Rattle.std.proofs.Common.{◌≡◌, ◌≢◌, ℕ, ◌<◌, ◌≤◌, ◌==◌, ◌&&◌, ◌||◌, inl, inr, true≢false, Bool, true, false, IsTrue, List, [], ◌∷◌, ◌++◌, Contains, Option, Some, if◌then◌else◌, refl, sym, ap, subst, ◌∙◌, arith}
use Rattle.std.proofs.lemmas.Bool.{and_parts, eqb-true}
use Rattle.std.proofs.lemmas.Option.{same_Some}
use Rattle.law_core_is_history.specs.Words.{Key, GuestShape, has_interrupt, is_of_vcpu, irq_of}
use Rattle.law_core_is_history.specs.Histories.{Ideal}
use Rattle.law_core_is_history.specs.Registers.{Maps}
use Rattle.law_core_is_history.specs.Lists.{Offer, Choice}
use Rattle.law_core_is_history.specs.Core.{AtIrq, Made, CoreStep, Look, Claim, Kick, Mark, TakeIndex, Irq, Vcpu, Queue, Ctlr, Plain, Index, Line, claimed, claimed_at, may_move, succeeds, known, is_vcpu, entry_for, index_bit, CoreState, seat_at, word_of, IsLocal, IsSeatOf, Progress, after_claim, IsProperStep, without_claim, without_take, Purpose, Scan, idle, taking, looking, claiming, has_key, scan_allows, scan_looked, without_key, word_taken}
use Rattle.law_core_is_history.proofs.CoreProper.ReachLemmas.{number_is}
use Rattle.law_core_is_history.proofs.CoreProper.ScanLemmas.{bit_of_key, own_of_bit, next_is}
use Rattle.law_core_is_history.proofs.StepContext.{one, IsStep, has, finds as can_find}
use Rattle.law_registers_stand.specs.Stands.{takes_active}
use Rattle.law_registers_stand.proofs.ClaimSteps.{comes, misses}
use Rattle.law_registers_stand.proofs.ComeLemmas.{IsClaiming, IsToClaim, claiming_on, known_on}
use Rattle.law_registers_stand.proofs.KeyLemmas.{of_key}
use Rattle.law_registers_stand.proofs.LookSteps.{IsLooking, looking_on, looks}
use Rattle.law_registers_stand.proofs.StandLemmas.{Standing}
use Rattle.law_registers_stand.proofs.TakeSteps.{takes_causes, takes_none}
use Rattle.law_registers_stand.proofs.StandSteps.{after_made, idle_step, look_part, some_is}

module _ (finds : Bool) (shape : GuestShape) (state : CoreState) (ideal : Ideal) (vcpu found left : ℕ) (tables : Option Maps) (within : vcpu < shape.vcpus) (p : Progress) (seat : IsSeatOf p (seat_at state vcpu)) (some : 1 ≤ p.lrs) (few : p.lrs ≤ 16) where
  abbrev made_by : CoreStep → Made
  made_by step = (one vcpu step found left tables).made

  abbrev now : CoreStep → Progress
  now step = after_made shape vcpu (made_by step) p

  -- While the words of the index are taken, and the candidates looked at.

  -- a step on no interrupt's word leaves what is known of these
  knows_on : (step : CoreStep) (is : IsStep shape state ideal vcpu step found left tables) → ((key : Key) → word_of shape vcpu step ≢ Irq key) → (key : Key) → IsTrue (has_interrupt shape key) → known shape vcpu (p.own ++ made_by step ∷ []) (Irq key) ≡ known shape vcpu p.own (Irq key)
  knows_on step is apart key there = known_on shape vcpu p.own (made_by step) (Irq key) is.good (has is) there (apart key)

  taking_step : (purpose : Purpose) (words : ℕ) (step : CoreStep) (is : IsStep shape state ideal vcpu step found left tables) → p.scan ≡ taking purpose words → IsTrue (scan_allows shape vcpu p.local (taking purpose words) step) → p.local.at ≡ [] → Standing finds shape vcpu (now step) (now step).scan
  taking_step purpose words (TakeIndex word) is e h empty = subst (λ s. Standing finds shape vcpu (now (TakeIndex word)) (word_taken s)) (sym e) empty
  taking_step purpose words (Kick v) is e h empty = subst (Standing finds shape vcpu (now (Kick v))) (sym e) empty
  taking_step purpose words step is e h empty = absurd (true≢false (sym h))

  looking_step :
      (purpose : Purpose) (from : ℕ) (offers : List Offer) (step : CoreStep) (is : IsStep shape state ideal vcpu step found left tables) → p.scan ≡ looking purpose from offers → IsTrue (scan_allows shape vcpu p.local (looking purpose from offers) step) → IsLooking shape vcpu p.local p.own from offers
      → Standing finds shape vcpu (now step) (now step).scan
  looking_step purpose from offers (Look (Irq key)) is e h looking_is =
      let next = next_is shape vcpu p from key h in
      let above = next.search.above in
      let below = next.search.below in
      let bit : index_bit shape key ≡ next.bit = ap (index_bit shape) next.is ∙ bit_of_key shape vcpu next.bit is.good (omega (arith, above, below)) in
      let mine : IsTrue (is_of_vcpu vcpu key) = subst (λ k. IsTrue (is_of_vcpu vcpu k)) (sym next.is) (own_of_bit shape vcpu next.bit) in
      subst (λ s. Standing finds shape vcpu (now (Look (Irq key))) (scan_looked shape key (irq_of found) s)) (sym e)
      (looks shape is.good vcpu p.local (now (Look (Irq key))).local p.own (made_by (Look (Irq key))) from offers looking_is key refl is.takes.left (has is) mine (can_find is).valid (omega (arith, above, bit)) (look_part shape vcpu found p.local (λ l. l.at) key (λ l c. refl)))
  looking_step purpose from offers (Kick v) is e h looking_is =
      subst (Standing finds shape vcpu (now (Kick v))) (sym e) (looking_on shape vcpu p.local (now (Kick v)).local p.own (made_by (Kick v)) from offers refl (knows_on (Kick v) is (λ key e. absurd (cc))) looking_is)
  looking_step purpose from offers (Look (Vcpu v)) is e h looking_is = absurd (true≢false (sym h))
  looking_step purpose from offers (Look Queue) is e h looking_is = absurd (true≢false (sym h))
  looking_step purpose from offers (Look Ctlr) is e h looking_is = absurd (true≢false (sym h))
  looking_step purpose from offers (Look (Plain i)) is e h looking_is = absurd (true≢false (sym h))
  looking_step purpose from offers (Look (Index v n)) is e h looking_is = absurd (true≢false (sym h))
  looking_step purpose from offers (Look (Line n)) is e h looking_is = absurd (true≢false (sym h))
  looking_step purpose from offers step is e h looking_is = absurd (true≢false (sym h))

  -- While it claims.

  -- what it claims was found as it is
  pub found_as : (key : Key) (seen : ℕ) (claims takes : List Key) (is : IsStep shape state ideal vcpu (Claim key seen) found left tables) → IsProperStep shape vcpu p (Claim key seen) → succeeds shape vcpu p.local (Claim key seen) found ≡ true → (c : Choice) → c.key ≡ key → IsToClaim shape vcpu p.own p.local.at takes c → irq_of found ≡ c.irq
  found_as key seen claims takes is proper done c same to =
      let knows : known shape vcpu p.own (Irq key) ≡ Some seen = number_is seen (known shape vcpu p.own (Irq key)) proper.seen in
      let word : to.word ≡ seen = same_Some to.word seen (sym to.known_as ∙ ap (λ k. known shape vcpu p.own (Irq k)) same ∙ knows) in
      ap irq_of (eqb-true found seen (and_parts (found == seen) (may_move shape vcpu p.local key (irq_of found)) done).0 ∙ sym word) ∙ to.irq

  claim_step :
      (claims takes : List Key) (key : Key) (seen : ℕ) (is : IsStep shape state ideal vcpu (Claim key seen) found left tables) → p.scan ≡ claiming claims takes → IsProperStep shape vcpu p (Claim key seen) → (has_key key claims || has_key key takes) ≡ true → IsLocal shape vcpu p.local → IsClaiming shape vcpu p.local p.own p.regs claims takes
      → Standing finds shape vcpu (now (Claim key seen)) (now (Claim key seen)).scan
  claim_step claims takes key seen is e proper among is_local before =
      let by : Bool → Scan → Progress = λ done s. record (after_claim key (irq_of found) done s p) { local = if done then claimed shape vcpu key found p.local else p.local; own = p.own ++ made_by (Claim key seen) ∷ [] } in
      subst (λ s. Standing finds shape vcpu (by (succeeds shape vcpu p.local (Claim key seen) found) s) (by (succeeds shape vcpu p.local (Claim key seen) found) s).scan) (sym e) (of (succeeds shape vcpu p.local (Claim key seen) found) refl (has_key key claims) refl among)
    where
      parts : (IsTrue (is_vcpu shape vcpu && is_of_vcpu vcpu key)) × IsTrue (has_interrupt shape key)
      parts = and_parts (is_vcpu shape vcpu && is_of_vcpu vcpu key) (has_interrupt shape key) is.takes.can

      mine : IsTrue (is_of_vcpu vcpu key)
      mine = (and_parts (is_vcpu shape vcpu) (is_of_vcpu vcpu key) parts.0).1

      choice : has_key key claims ≡ true → (c : Choice) × Contains before.rest c × (c.key ≡ key)
      choice h = of_key key before.rest (ap (has_key key) (sym before.keys) ∙ h)

      here : has_key key claims ≡ false → has_key key takes ≡ true → (entry : AtIrq) × (entry_for key p.local.at ≡ Some entry)
      here none take = elim (before.placed key take) [ inl claim ↦ absurd (true≢false (sym claim ∙ none)) | inr at ↦ some_is (entry_for key p.local.at) at ]

      of : (done : Bool) → succeeds shape vcpu p.local (Claim key seen) found ≡ done → (claim : Bool) → has_key key claims ≡ claim → (claim || has_key key takes) ≡ true
          → let q = record (after_claim key (irq_of found) done (claiming claims takes) p) { local = if done then claimed shape vcpu key found p.local else p.local; own = p.own ++ made_by (Claim key seen) ∷ [] } in Standing finds shape vcpu q q.scan
      of true s true h among =
          let c = choice h in
          let irq = found_as key seen claims takes is proper s c.0 c.2 (before.each c.0 c.1) in
          let came = comes shape is.good vcpu p.local is_local.at p.own p.regs claims takes before c.0 c.1 (made_by (Claim key seen)) (ap Irq (sym c.2)) in
          subst (Standing finds shape vcpu (record (after_claim key (irq_of found) true (claiming claims takes) p) { local = claimed shape vcpu key found p.local; own = p.own ++ made_by (Claim key seen) ∷ [] })) (sym (ap (λ b. if b then claiming (without_key key claims) takes else claiming claims (without_key key takes)) h))
          (subst (λ k. IsClaiming shape vcpu (claimed_at shape vcpu k (irq_of found) p.local) (p.own ++ made_by (Claim key seen) ∷ []) p.regs (without_key k claims) takes) c.2
          (subst (λ i. IsClaiming shape vcpu (claimed_at shape vcpu c.0.key i p.local) (p.own ++ made_by (Claim key seen) ∷ []) p.regs (without_key c.0.key claims) takes) (sym irq) came))
      of false s true h among =
          let c = choice h in
          let missed = misses shape is.good vcpu p.local is_local.at p.own p.regs claims takes before c.0 c.1 (made_by (Claim key seen)) (ap Irq (sym c.2)) in
          subst (Standing finds shape vcpu (record (after_claim key (irq_of found) false (claiming claims takes) p) { local = p.local; own = p.own ++ made_by (Claim key seen) ∷ [] })) (sym (ap (λ b. if b then claiming (without_key key claims) (without_key key takes) else claiming claims (without_key key takes)) h))
          (subst (λ r. IsClaiming shape vcpu p.local (p.own ++ made_by (Claim key seen) ∷ []) r (without_key key claims) (without_key key takes)) (sym (ap (λ b. if b then without_claim key p.regs else without_take key p.regs) h))
          (subst (λ k. IsClaiming shape vcpu p.local (p.own ++ made_by (Claim key seen) ∷ []) (without_claim k p.regs) (without_key k claims) (without_key k takes)) c.2 missed))
      of true s false h among =
          let entry = here h among in
          subst (Standing finds shape vcpu (record (after_claim key (irq_of found) true (claiming claims takes) p) { local = claimed shape vcpu key found p.local; own = p.own ++ made_by (Claim key seen) ∷ [] })) (sym (ap (λ b. if b then claiming (without_key key claims) takes else claiming claims (without_key key takes)) h))
          (takes_causes shape is.good vcpu p.local is_local.at is_local.once p.own p.regs claims takes before key parts.1 mine (made_by (Claim key seen)) refl h among entry.0 entry.1 (irq_of found))
      of false s false h among =
          let entry = here h among in
          subst (Standing finds shape vcpu (record (after_claim key (irq_of found) false (claiming claims takes) p) { local = p.local; own = p.own ++ made_by (Claim key seen) ∷ [] })) (sym (ap (λ b. if b then claiming (without_key key claims) (without_key key takes) else claiming claims (without_key key takes)) h))
          (subst (λ r. IsClaiming shape vcpu p.local (p.own ++ made_by (Claim key seen) ∷ []) r claims (without_key key takes)) (sym (ap (λ b. if b then without_claim key p.regs else without_take key p.regs) h))
          (takes_none shape is.good vcpu p.local is_local.at is_local.once p.own p.regs claims takes before key parts.1 mine (made_by (Claim key seen)) refl h among entry.0 entry.1))

  claiming_step :
      (claims takes : List Key) (step : CoreStep) (is : IsStep shape state ideal vcpu step found left tables) → p.scan ≡ claiming claims takes → IsProperStep shape vcpu p step → IsTrue (scan_allows shape vcpu p.local (claiming claims takes) step) → IsLocal shape vcpu p.local → IsClaiming shape vcpu p.local p.own p.regs claims takes
      → Standing finds shape vcpu (now step) (now step).scan
  claiming_step claims takes (Claim key seen) is e proper h is_local before = claim_step claims takes key seen is e proper h is_local before
  claiming_step claims takes (Kick v) is e proper h is_local before =
      subst (Standing finds shape vcpu (now (Kick v))) (sym e) (claiming_on shape vcpu p.local (now (Kick v)).local p.own (p.own ++ made_by (Kick v) ∷ []) p.regs claims takes refl refl (knows_on (Kick v) is (λ key e. absurd (cc))) before)
  claiming_step claims takes (Mark key v) is e proper h is_local before =
      subst (Standing finds shape vcpu (now (Mark key v))) (sym e) (claiming_on shape vcpu p.local (now (Mark key v)).local p.own (p.own ++ made_by (Mark key v) ∷ []) p.regs claims takes refl refl (knows_on (Mark key v) is (λ k e. absurd (cc))) before)
  claiming_step claims takes (Look (Irq key)) is e proper h is_local before = absurd (true≢false (sym h))
  claiming_step claims takes (Look (Vcpu v)) is e proper h is_local before = absurd (true≢false (sym h))
  claiming_step claims takes (Look Queue) is e proper h is_local before = absurd (true≢false (sym h))
  claiming_step claims takes (Look Ctlr) is e proper h is_local before = absurd (true≢false (sym h))
  claiming_step claims takes (Look (Plain i)) is e proper h is_local before = absurd (true≢false (sym h))
  claiming_step claims takes (Look (Index v n)) is e proper h is_local before = absurd (true≢false (sym h))
  claiming_step claims takes (Look (Line n)) is e proper h is_local before = absurd (true≢false (sym h))
  claiming_step claims takes step is e proper h is_local before = absurd (true≢false (sym h))

  -- Any of its own steps.

  pub own_step :
      (step : CoreStep) (is : IsStep shape state ideal vcpu step found left tables) → IsProperStep shape vcpu p step → (IsTrue finds → IsTrue (takes_active vcpu p.scan step found)) → IsLocal shape vcpu p.local → IsLocal shape vcpu (now step).local → Standing finds shape vcpu p p.scan → Standing finds shape vcpu (now step) (now step).scan
  own_step step is proper active is_local after before = by p.scan refl
    where
      by : (s : Scan) → p.scan ≡ s → Standing finds shape vcpu (now step) (now step).scan
      by idle e = idle_step finds shape state ideal vcpu found left tables within p seat some few step is e proper active is_local after before
      by (taking purpose words) e = taking_step purpose words step is e (subst (λ s. IsTrue (scan_allows shape vcpu p.local s step)) e proper.scan) (subst (Standing finds shape vcpu p) e before)
      by (looking purpose from offers) e = looking_step purpose from offers step is e (subst (λ s. IsTrue (scan_allows shape vcpu p.local s step)) e proper.scan) (subst (Standing finds shape vcpu p) e before)
      by (claiming claims takes) e = claiming_step claims takes step is e proper (subst (λ s. IsTrue (scan_allows shape vcpu p.local s step)) e proper.scan) is_local (subst (Standing finds shape vcpu p) e before)
