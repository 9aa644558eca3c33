-- An interrupt that a vCPU ends from afar is as its look found it, but for what the vCPU is still to be told, at every moment of every proper run.
use Rattle.std.proofs.Common.{◌≡◌, ◌≢◌, ℕ, ◌<◌, ◌&&◌, ◌||◌, inl, inr, true≢false, not, Bool, true, false, IsTrue, Option, Some, None, is_none, unwrap_or, if◌then◌else◌, refl, sym, ap, ◌∙◌, subst}
use Rattle.std.specs.List.{list_all}
use Rattle.std.specs.Option.{option_map_or}
use Rattle.std.proofs.lemmas.Bool.{and_parts, eq-eqb, not-false, or_parts, or_right}
use Rattle.std.proofs.lemmas.Option.{none-some}
use Rattle.law_registers_stand.specs.Words.{Key, Icc, GuestShape, has_interrupt, is_same_key, IsShape, Irq as IrqRecord, is_number, is_ripe, irq_of}
use Rattle.law_registers_stand.proofs.GicBase.KeyLemmas.{same_key}
use Rattle.law_registers_stand.specs.Calls.{Operation, Access}
use Rattle.law_registers_stand.specs.Histories.{Track, Ideal}
use Rattle.law_registers_stand.specs.Registers.{Maps}
use Rattle.law_registers_stand.specs.Core.{AtIrq, Local, Made, CoreStep, Look, Claim, Release, Poll, Kick, Irq, succeeds, vcpu_of, CoreState, seat_at, word_in, word_of, after_moment, Act, begins, makes, ends, Progress, after_claim, after_poll, begun, ended_by, is_end_of, progressed, IsProperStep, is_empty, Scan, idle, claiming, is_idle, scan_allows, concerns}
use Rattle.law_registers_stand.specs.CoreProper.Progress.{changed_by}
use Rattle.law_registers_stand.specs.LawCoreIsHistory.Related.{is_folding}
use Rattle.law_registers_stand.proofs.LawCoreIsHistory.StandingLemmas.{passes, not_given}
use Rattle.law_registers_stand.proofs.LawCoreIsHistory.StepContext.{IsStep}
use Rattle.law_scans_miss_none.specs.Excuse.{IsExcused}
use Rattle.law_registers_stand.specs.Followed.{Followed}
use Rattle.law_scans_miss_none.specs.Far.{HasLookedFar, FarEndsAreKnown}
use Rattle.law_scans_miss_none.specs.Index.{waits_for}
use Rattle.law_scans_miss_none.specs.Waiting.{record_in}
use Rattle.law_registers_stand.proofs.LawCoreIsHistory.AfterLemmas.{later, word_cases, left_in}
use Rattle.law_scans_miss_none.proofs.CalmSteps.{IsCalm, OwnCalm, scans, accesses, goes_on, kick_failed, no_poll_by, own_calm}
use Rattle.law_scans_miss_none.proofs.Frame.{follow, IsAt, IsActing, excused_part, is_step, lasts, IsKeptBy, runs_keep}
use Rattle.law_scans_miss_none.proofs.ProgressLemmas.{operation_on, local_on, far_on, failure_on}
use Rattle.law_scans_miss_none.proofs.TellSteps.{tells, claim_held}
use Rattle.law_scans_miss_none.proofs.ToldLemmas.{is_release, IsOwnRelease, step_changes, Lasts, apart_quiet}
use Rattle.law_registers_stand.proofs.LawCoreIsHistory.KickSteps.{is_kick_of, unkicked_before}
use Rattle.law_scans_miss_none.proofs.WaitingSteps.{last_in, excused_on, excused_now}

-- an interrupt that is active by a vCPU concerns it, and waits for it
active_waits : (shape : GuestShape) (vcpu : ℕ) (irq : IrqRecord) → irq.act_by ≡ Some vcpu → IsTrue (waits_for shape vcpu irq)
active_waits shape vcpu irq e = or_right (is_none irq.act_by && is_ripe irq vcpu shape) (is_number vcpu irq.act_by) (ap (is_number vcpu) e ∙ eq-eqb vcpu vcpu refl)

active_concerns : (shape : GuestShape) (vcpu : ℕ) (irq : IrqRecord) → irq.act_by ≡ Some vcpu → IsTrue (concerns shape vcpu irq)
active_concerns shape vcpu irq e = or_right (is_ripe irq vcpu shape) (is_number vcpu irq.act_by) (ap (is_number vcpu) e ∙ eq-eqb vcpu vcpu refl)

-- a step leaves an interrupt active by a vCPU and at no interface only where it was so before, or the vCPU is still to be told
module _ {shape : GuestShape} {state : CoreState} {ideal : Ideal} {actor : ℕ} {step : CoreStep} {found left : ℕ} {tables : Option Maps} (is : IsStep shape state ideal actor step found left tables) (vcpu : ℕ) (within : vcpu < shape.vcpus) (track later_track : Track)
    (lasted : Lasts is (last_in shape track) (last_in shape later_track)) where
  excused_far :
      (key : Key) → IsTrue (has_interrupt shape key) → is_kick_of vcpu step ≡ false → (IsOwnRelease step actor vcpu → ⊥) → ((record_in shape state key).holder ≡ None → (record_in shape state key).act_by ≡ Some vcpu → IsExcused shape state track vcpu key)
      → (record_in shape (later is) key).holder ≡ None → (record_in shape (later is) key).act_by ≡ Some vcpu → IsExcused shape (later is) later_track vcpu key
  excused_far key there no_kick other before home active = elim (word_cases is (Irq key) there) [
    | inl here ↦ on here
    | inr apart ↦ kept (ap irq_of apart.1) (apart_quiet is key apart.0)
  ]
    where
      kept : record_in shape (later is) key ≡ record_in shape state key → step_changes shape state actor step found key ≡ false → IsExcused shape (later is) later_track vcpu key
      kept same quiet = excused_on is vcpu within track later_track lasted key there quiet no_kick (before (ap (λ (i : IrqRecord). i.holder) (sym same) ∙ home) (ap (λ (i : IrqRecord). i.act_by) (sym same) ∙ active))

      on : (word_of shape actor step ≡ Irq key) × (word_in shape (later is) (Irq key) ≡ left) → IsExcused shape (later is) later_track vcpu key
      on here =
          let word : record_in shape (later is) key ≡ irq_of left = ap irq_of here.1 in
          let was : record_in shape state key ≡ irq_of found = ap irq_of (sym (is.takes.found ∙ ap (word_in shape state) here.0)) in
          let by : (irq_of left).act_by ≡ Some vcpu = ap (λ (i : IrqRecord). i.act_by) (sym word) ∙ active in
          let free : (irq_of left).holder ≡ None = ap (λ (i : IrqRecord). i.holder) (sym word) ∙ home in
          elim (tells step is key vcpu here.0 within free (active_concerns shape vcpu (irq_of left) by)) [
            | inl same ↦
                excused_on is vcpu within track later_track lasted key there same.quiet no_kick
                (before (ap (λ (i : IrqRecord). i.holder) was ∙ ap (λ (i : IrqRecord). i.holder) (sym same.same) ∙ free) (ap (λ (i : IrqRecord). i.act_by) was ∙ ap (λ (i : IrqRecord). i.act_by) (sym same.same) ∙ by))
            | inr owed ↦
                elim (owed.kick (active_waits shape vcpu (irq_of left) by)) [
                  | inl kick ↦ excused_now is vcpu within track later_track lasted key there owed.changes kick
                  | inr own ↦ absurd (other own)
                ]
          ]

-- a vCPU that does not give back releases nothing
pub no_release :
    {shape : GuestShape} {state : CoreState} {ideal : Ideal} {vcpu found left : ℕ} {tables : Option Maps} (step : CoreStep) → IsStep shape state ideal vcpu step found left tables → vcpu < shape.vcpus → is_folding (seat_at state vcpu).local.phase ≡ false
    → IsTrue (is_release step) → ⊥
no_release {state = state} {vcpu = vcpu} (Release key) is within stays h =
    let says = is.related.seats vcpu within in
    let none = subst (λ b. IsTrue (b || list_all (λ (at : AtIrq). not at.given) (seat_at state vcpu).local.at)) stays says.given in
    let can = is.takes.meets in
    true≢false (sym can.given ∙ not_given can.entry.given (passes (λ (at : AtIrq). not at.given) key (seat_at state vcpu).local.at can.entry none can.at))
no_release step is within stays h = true≢false (sym h)

-- a call ends one interrupt at most
one_end : (shape : GuestShape) (vcpu : ℕ) (operation : Option Operation) (j k : Key) → IsTrue (is_end_of shape vcpu operation j) → IsTrue (is_end_of shape vcpu operation k) → j ≡ k
one_end shape vcpu (Some (Access (Icc reg write))) j k h g = of (ended_by shape vcpu reg write) h g
  where
    of : (o : Option Key) → IsTrue (option_map_or (is_same_key j) o false) → IsTrue (option_map_or (is_same_key k) o false) → j ≡ k
    of None h g = absurd (true≢false (sym h))
    of (Some key) h g = same_key j key h ∙ sym (same_key k key g)
one_end shape vcpu operation j k h g = absurd (true≢false (sym h))

abbrev Known : GuestShape → ℕ → CoreState → Followed → Progress → Type 0
Known shape vcpu state at p =
    (key : Key) → HasLookedFar shape state vcpu p key → (record_in shape state key).holder ≡ None → (record_in shape state key).act_by ≡ Some vcpu → IsExcused shape state at.track vcpu key

-- a vCPU that begins a scan looked at nothing to end, or found it active
scanned : (p : Progress) → (begun (unwrap_or p.far false) p).far ≡ Some false → ⊥
scanned p h = of p.far refl h
  where
    some_is : (a b : Bool) → Some a ≡ Some b → a ≡ b
    some_is a b e = cc

    of : (o : Option Bool) → p.far ≡ o → (begun (unwrap_or o false) p).far ≡ Some false → ⊥
    of None e h = absurd (cc)
    of (Some true) e h = true≢false (some_is true false (sym e ∙ h))
    of (Some false) e h = absurd (cc)

-- how far a vCPU is after a step, before its scan goes on
abbrev After : GuestShape → ℕ → ℕ → Progress → CoreStep → Progress
After shape vcpu found p step = changed_by shape vcpu step found (succeeds shape vcpu p.local step found) p

-- before the step the vCPU had looked so too
record LookedBefore (p : Progress) : Type 0 where
  pub failed : p.failed ≡ false
  pub far : p.far ≡ Some false

-- the vCPU's own step goes on as it was, or looked at the interrupt or took it
module _ {shape : GuestShape} {state : CoreState} {ideal : Ideal} {vcpu found left : ℕ} {tables : Option Maps} (p : Progress) (mine : p.local ≡ (seat_at state vcpu).local) (key : Key) (ends_it : IsTrue (is_end_of shape vcpu p.operation key)) where
  looked_before :
      (step : CoreStep) (is : IsStep shape state ideal vcpu step found left tables) → IsProperStep shape vcpu p step → is_kick_of vcpu step ≡ false → (After shape vcpu found p step).failed ≡ false → (After shape vcpu found p step).far ≡ Some false → (record_in shape (later is) key).holder ≡ None
      → (record_in shape (later is) key).act_by ≡ Some vcpu → LookedBefore p
  looked_before (Look (Irq k)) is proper no_kick failed far home active = of (is_end_of shape vcpu p.operation k) refl far
    where
      of : (b : Bool) → is_end_of shape vcpu p.operation k ≡ b → (if b then Some (is_number vcpu (irq_of found).act_by) else p.far) ≡ Some false → LookedBefore p
      of false e far = record { failed = failed; far = far }
      of true e far =
          let same : k ≡ key = one_end shape vcpu p.operation k key e ends_it in
          let word : word_in shape (later is) (Irq key) ≡ found = ap (λ j. word_in shape (later is) (Irq j)) (sym same) ∙ left_in is ∙ is.takes.left in
          absurd (true≢false (sym (ap (is_number vcpu) (ap (λ n. (irq_of n).act_by) (sym word) ∙ active) ∙ eq-eqb vcpu vcpu refl) ∙ some_is (is_number vcpu (irq_of found).act_by) false far))
        where
          some_is : (a b : Bool) → Some a ≡ Some b → a ≡ b
          some_is a b e = cc
  looked_before (Claim k seen) is proper no_kick failed far home active = of p.scan refl proper.scan failed far
    where
      done : Bool
      done = succeeds shape vcpu p.local (Claim k seen) found

      of : (scan : Scan) → p.scan ≡ scan → IsTrue (scan_allows shape vcpu p.local scan (Claim k seen)) → (after_claim k (irq_of found) done scan p).failed ≡ false → (after_claim k (irq_of found) done scan p).far ≡ Some false → LookedBefore p
      of (claiming claims takes) e allowed failed far = record { failed = (or_parts p.failed (not done) failed).0; far = far }
      of idle e allowed failed far =
          let bare = subst (λ b. IsTrue (not b || (unwrap_or p.far false && is_end_of shape vcpu p.operation k && is_empty p.local.at))) (ap is_idle e) proper.far in
          let named = (and_parts (unwrap_or p.far false) (is_end_of shape vcpu p.operation k) (and_parts (unwrap_or p.far false && is_end_of shape vcpu p.operation k) (is_empty p.local.at) bare).0).1 in
          let same : k ≡ key = one_end shape vcpu p.operation k key named ends_it in
          let ok : succeeds shape vcpu (seat_at state vcpu).local (Claim k seen) found ≡ true = ap (λ l. succeeds shape vcpu l (Claim k seen) found) (sym mine) ∙ not-false done (or_parts p.failed (not done) failed).1 in
          absurd (none-some vcpu (sym home ∙ ap (λ j. (irq_of (word_in shape (later is) (Irq j))).holder) (sym same) ∙ ap (λ n. (irq_of n).holder) (left_in is) ∙ claim_held k seen is ok))
      of scan e allowed failed far = absurd (true≢false (sym allowed))
  looked_before (Poll None write) is proper no_kick failed far home active = absurd (scanned p far)
  looked_before (Poll (Some reg) write) is proper no_kick failed far home active = of (vcpu_of found).kick far
    where
      of : (b : Bool) → (after_poll (Some reg) write b p).far ≡ Some false → LookedBefore p
      of true h = absurd (cc)
      of false h = absurd (cc)
  looked_before (Kick other) is proper no_kick failed far home active = record { failed = kick_failed p.failed other vcpu no_kick failed; far = far }
  looked_before step is proper no_kick failed far home active = record { failed = failed; far = far }

module _ (shape : GuestShape) (good : IsShape shape) (vcpu : ℕ) (within : vcpu < shape.vcpus) where
  kept : IsKeptBy shape vcpu (Known shape vcpu)
  kept = record { other = other; own = own }
    where
      other :
          (state : CoreState) (at : Followed) (progress : ℕ → Progress) (actor : ℕ) (act : Act) → actor ≢ vcpu → IsAt shape state at progress → IsActing shape state progress actor act → Known shape vcpu state at (progress vcpu)
          → Known shape vcpu (after_moment shape state (record { actor = actor; act = act })) (follow shape state at (record { actor = actor; act = act })) (progress vcpu)
      other state at progress actor (begins operation lrs) apart here acts known = λ key far home active. excused_part shape state at progress actor (begins operation lrs) here acts refl vcpu key (known key far home active)
      other state at progress actor (ends answer) apart here acts known = λ key far home active. excused_part shape state at progress actor (ends answer) here acts refl vcpu key (known key far home active)
      other state at progress actor (makes made) apart here acts known = λ key far home active.
          let is = is_step shape good state at progress actor made here acts in
          let before = unkicked_before is vcpu within (no_poll_by vcpu actor made.step apart) far.unkicked in
          excused_far is vcpu within at.track (follow shape state at (record { actor = actor; act = makes made })).track (lasts shape good state at progress actor made here acts) key far.there before.1 (λ own. apart own.1)
          (known key (record { there = far.there; unkicked = before.0; stays = far.stays; none_failed = far.none_failed; ends = far.ends; inactive = far.inactive })) home active

      own : (state : CoreState) (at : Followed) (progress : ℕ → Progress) (act : Act) → IsAt shape state at progress → IsActing shape state progress vcpu act → Known shape vcpu state at (progress vcpu)
          → Known shape vcpu (after_moment shape state (record { actor = vcpu; act = act })) (follow shape state at (record { actor = vcpu; act = act })) (progressed shape vcpu (progress vcpu) act)
      own state at progress (begins operation lrs) here acts known = λ key far home active. absurd (none_far far.inactive)
        where
          none_far : None ≡ Some false → ⊥
          none_far e = absurd (cc)
      own state at progress (ends answer) here acts known = λ key far home active. absurd (true≢false (sym far.ends))
      own state at progress (makes made) here acts known = λ key far home active.
          let p = progress vcpu in
          let seat = here.seats vcpu acts.there in
          let is = is_step shape good state at progress vcpu made here acts in
          let ends_it : IsTrue (is_end_of shape vcpu p.operation key) = subst (λ o. IsTrue (is_end_of shape vcpu o key)) (operation_on shape vcpu made p) far.ends in
          let calm = own_calm within p.local seat.local made.step is far.unkicked (sym (ap (λ (l : Local). is_folding l.phase) (local_on shape vcpu made p)) ∙ far.stays) in
          of state at progress made here acts known key far.there ends_it (sym (failure_on shape vcpu made p) ∙ far.none_failed) (sym (far_on shape vcpu made p) ∙ far.inactive) home active calm
        where
          goes :
              (state : CoreState) (at : Followed) (progress : ℕ → Progress) (made : Made) (here : IsAt shape state at progress) (acts : IsActing shape state progress vcpu (makes made)) → Known shape vcpu state at (progress vcpu) → (key : Key) → IsTrue (has_interrupt shape key)
              → IsTrue (is_end_of shape vcpu (progress vcpu).operation key) → (changed_by shape vcpu made.step made.found (succeeds shape vcpu (progress vcpu).local made.step made.found) (progress vcpu)).failed ≡ false
              → (changed_by shape vcpu made.step made.found (succeeds shape vcpu (progress vcpu).local made.step made.found) (progress vcpu)).far ≡ Some false
              → (record_in shape (later (is_step shape good state at progress vcpu made here acts)) key).holder ≡ None → (record_in shape (later (is_step shape good state at progress vcpu made here acts)) key).act_by ≡ Some vcpu
              → IsCalm shape state vcpu made.step (progress vcpu).local
              → IsExcused shape (later (is_step shape good state at progress vcpu made here acts)) (follow shape state at (record { actor = vcpu; act = makes made })).track vcpu key
          goes state at progress made here acts known key there ends_it failed far home active calm =
              let p = progress vcpu in
              let seat = here.seats vcpu acts.there in
              let is = is_step shape good state at progress vcpu made here acts in
              let before = looked_before p seat.local key ends_it made.step is acts.proper calm.no_kick failed far home active in
              excused_far is vcpu within at.track (follow shape state at (record { actor = vcpu; act = makes made })).track (lasts shape good state at progress vcpu made here acts) key there calm.no_kick
              (λ own. no_release made.step is within (ap (λ (l : Local). is_folding l.phase) (sym seat.local) ∙ calm.stays) own.0)
              (known key (record { there = there; unkicked = calm.unkicked; stays = calm.stays; none_failed = before.failed; ends = ends_it; inactive = before.far })) home active

          of :
              (state : CoreState) (at : Followed) (progress : ℕ → Progress) (made : Made) (here : IsAt shape state at progress) (acts : IsActing shape state progress vcpu (makes made)) → Known shape vcpu state at (progress vcpu) → (key : Key) → IsTrue (has_interrupt shape key)
              → IsTrue (is_end_of shape vcpu (progress vcpu).operation key) → (changed_by shape vcpu made.step made.found (succeeds shape vcpu (progress vcpu).local made.step made.found) (progress vcpu)).failed ≡ false
              → (changed_by shape vcpu made.step made.found (succeeds shape vcpu (progress vcpu).local made.step made.found) (progress vcpu)).far ≡ Some false
              → (record_in shape (later (is_step shape good state at progress vcpu made here acts)) key).holder ≡ None → (record_in shape (later (is_step shape good state at progress vcpu made here acts)) key).act_by ≡ Some vcpu
              → OwnCalm shape state vcpu made.step made.found (progress vcpu).local
              → IsExcused shape (later (is_step shape good state at progress vcpu made here acts)) (follow shape state at (record { actor = vcpu; act = makes made })).track vcpu key
          of state at progress made here acts known key there ends_it failed far home active (scans write e) = absurd (scanned (progress vcpu) (ap (λ step. (changed_by shape vcpu step made.found (succeeds shape vcpu (progress vcpu).local step made.found) (progress vcpu)).far) (sym e) ∙ far))
          of state at progress made here acts known key there ends_it failed far home active (accesses reg write e free calm) = goes state at progress made here acts known key there ends_it failed far home active calm
          of state at progress made here acts known key there ends_it failed far home active (goes_on no_poll calm) = goes state at progress made here acts known key there ends_it failed far home active calm

pub far_ends_are_known : FarEndsAreKnown
far_ends_are_known guest number moments vcpu key good proper within far home active =
    (runs_keep guest number vcpu (Known guest.shape vcpu) good (kept guest.shape good.sound.shape vcpu within) (λ key far home active. absurd (none_far far.inactive)) moments proper).keeps key far home active
  where
    none_far : None ≡ Some false → ⊥
    none_far e = absurd (cc)
