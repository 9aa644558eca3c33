-- Changes of what stands at an interface are owed, at every moment of every proper run.
use Rattle.std.proofs.Common.{◌≡◌, ◌≢◌, ℕ, ◌+◌, ◌<◌, ◌==◌, ◌⊎◌, inl, inr, true≢false, true, false, IsTrue, All, List, [], ◌∷◌, ◌++◌, Option, Some, None, is_some, slice_index_or, refl, sym, ap, ◌∙◌, subst}
use Rattle.std.proofs.lemmas.Bool.{cases_eq, eq-eqb, and_from}
use Rattle.std.proofs.lemmas.List.Elements.{All-nil, All-push, All-weaker}
use Rattle.law_registers_stand.specs.Words.{Key, GuestShape, has_interrupt, place_of, IsShape, is_number, Irq as IrqRecord, irq_of}
use Rattle.law_registers_stand.specs.Calls.{Reach, Happened}
use Rattle.law_registers_stand.specs.GicCall.declared.event.Found.TheVariants.{Nothing}
use Rattle.std.proofs.lemmas.Option.{none-some}
use Rattle.law_registers_stand.specs.Core.{AtIrq, Meets, is_at, silent, word_of, Local, Made, Poll, Irq, Vcpu, local_after, CoreState, Seat, opening, seat_at, word_in, after_moment, Act, begins, makes, ends, Progress, opening_progress, progressed, is_settled}
use Rattle.law_registers_stand.proofs.PortCore.OpeningLemmas.{record_opens}
use Rattle.law_registers_stand.specs.Histories.{Turn, Doing, Changes, doing_of, changes_of, turn_of, with_doing, IdealGuest, CanOpen}
use Rattle.law_registers_stand.specs.LawCoreIsHistory.Related.{is_folding}
use Rattle.law_registers_stand.specs.LawCoreIsHistory.Simulates.{IsSimulatedAs}
use Rattle.law_registers_stand.proofs.LawCoreIsHistory.StepContext.{IsStep}
use Rattle.law_scans_miss_none.specs.Index.{owes_kick}
use Rattle.law_registers_stand.specs.Followed.{Followed, opening_followed}
use Rattle.law_scans_miss_none.specs.Standing.{IsOwing, AreOwed, ChangesAreOwed}
use Rattle.law_scans_miss_none.specs.Waiting.{record_in}
use Rattle.law_registers_stand.specs.Asks.{IsUnkicked}
use Rattle.law_registers_stand.proofs.LawCoreIsHistory.AfterLemmas.{later, local_mine, seat_other, word_stays}
use Rattle.law_scans_miss_none.proofs.CalmSteps.{IsCalm, OwnCalm, scans, accesses, goes_on, no_poll_by, own_calm}
use Rattle.law_scans_miss_none.proofs.ProgressLemmas.{local_on}
use Rattle.law_scans_miss_none.proofs.ToldLemmas.{event_changes, event_subject, step_changes}
use Rattle.law_scans_miss_none.proofs.Frame.{changing_goes_on, follow, IsAt, IsActing, is_part, part_settled, settled_owes, is_step, after_event, event, simulated, operation_after, number_after, owing_goes_on, IsKeptBy, runs_keep}
use Rattle.law_scans_miss_none.proofs.HeldLemmas.{HeldSo, stays, alters, arrives, held_so}
use Rattle.law_scans_miss_none.proofs.TrackLemmas.{current_on, doing_other, last_made, changes_apart, since_reach, happens_changes}
use Rattle.law_registers_stand.proofs.LawCoreIsHistory.KickSteps.{is_kick_of, unkicked_before}
use Rattle.law_scans_miss_none.proofs.WaitingSteps.{owes_on}

-- what is said of an interrupt at the interface of a vCPU
abbrev Owed : GuestShape → ℕ → CoreState → Followed → Progress → Type 0
Owed shape vcpu state at p =
    (key : Key) → IsTrue (has_interrupt shape key) → IsUnkicked shape state vcpu → is_folding p.local.phase ≡ false → (record_in shape state key).holder ≡ Some vcpu → AreOwed shape state at.track vcpu key

module _ (shape : GuestShape) (good : IsShape shape) (vcpu : ℕ) (within : vcpu < shape.vcpus) where
  -- a step
  module _ (state : CoreState) (at : Followed) (progress : ℕ → Progress) (actor : ℕ) (made : Made) (here : IsAt shape state at progress) (acts : IsActing shape state progress actor (makes made)) where
    is : IsStep shape state at.ideal actor made.step made.found made.left made.tables
    is = is_step shape good state at progress actor made here acts

    abbrev next : Followed
    next = follow shape state at (record { actor = actor; act = makes made })

    abbrev since_at : List Changes → Key → List Turn
    since_at changes key = (slice_index_or changes (place_of shape key) (record { last = None; since = [] })).since

    -- a call that goes on and owes the vCPU a kick does so after it
    owing_on : is_kick_of vcpu made.step ≡ false → (turn : Turn) → IsOwing shape state at.track vcpu turn → IsOwing shape (later is) next.track vcpu turn
    owing_on no_kick turn owing = record {
      there = owing.there;
      current =
          subst (λ b. IsTrue b)
          (sym (current_on at.track next.track turn (operation_after shape good state at progress actor made here acts (event shape good state at progress actor made here acts) (simulated shape good state at progress actor made here acts) turn.actor)
          (number_after shape good state at progress actor made here acts (event shape good state at progress actor made here acts) (simulated shape good state at progress actor made here acts) turn.actor (owing_goes_on shape good state at progress actor made here acts turn.actor vcpu owing.owes))))
          owing.current;
      owes = elim (cases_eq turn.actor actor) [
        | inl same ↦
            subst (λ n. IsTrue (owes_kick vcpu (seat_at (later is) n).local)) (sym same)
            (subst (λ (l : Local). IsTrue (owes_kick vcpu l)) (sym (local_mine is)) (owes_on shape actor vcpu (seat_at state actor).local made.step made.found good within is.takes.can no_kick (subst (λ n. IsTrue (owes_kick vcpu (seat_at state n).local)) same owing.owes)))
        | inr differ ↦ subst (λ (s : Seat). IsTrue (owes_kick vcpu s.local)) (sym (seat_other is turn.actor differ)) owing.owes
      ];
    }

    since_kept : (o : Option Happened) → IsSimulatedAs shape (later is) at.ideal actor o → (key : Key) → IsTrue (has_interrupt shape key) → (event_subject o ≡ Some key → ⊥) → (changes_of shape (after_event shape good state at progress actor made here acts o).track key).since ≡ (changes_of shape at.track key).since
    since_kept None sim key there apart = refl
    since_kept (Some one) sim key there apart =
        ap (λ changes. since_at changes key) (happens_changes shape good at.ideal actor one.event one.found at.track here.related.shape_is sim.can)
        ∙ ap (λ (c : Changes). c.since) (changes_apart shape good actor one.event at.track sim.can key there apart)

    since_changed : (o : Option Happened) → IsSimulatedAs shape (later is) at.ideal actor o → (key : Key) → IsTrue (has_interrupt shape key) → event_changes o key ≡ true
        → (changes_of shape (after_event shape good state at progress actor made here acts o).track key).since ≡ (changes_of shape at.track key).since ++ turn_of at.track actor ∷ []
    since_changed None sim key there changes = absurd (true≢false (sym changes))
    since_changed (Some one) sim key there changes =
        ap (λ changes. since_at changes key) (happens_changes shape good at.ideal actor one.event one.found at.track here.related.shape_is sim.can)
        ∙ ap (λ (c : Changes). c.since) (last_made shape good actor one.event at.track sim.can key there here.changes_each changes)

    since_arrived : (o : Option Happened) → IsSimulatedAs shape (later is) at.ideal actor o → (key : Key) → IsTrue (has_interrupt shape key) → o ≡ silent (Reach key actor) → (changes_of shape (after_event shape good state at progress actor made here acts o).track key).since ≡ []
    since_arrived None sim key there e = absurd (cc)
    since_arrived (Some one) sim key there e =
        ap (λ changes. since_at changes key) (happens_changes shape good at.ideal actor one.event one.found at.track here.related.shape_is sim.can)
        ∙ since_reach shape good actor one.event at.track sim.can key there here.changes_each actor (event_is one (record { event = Reach key actor; found = Nothing }) e)
      where
        event_is : (one other : Happened) → Some one ≡ Some other → one.event ≡ other.event
        event_is one other e = cc

    -- the call in which the step changes an interrupt
    owing_now : (key : Key) → step_changes shape state actor made.step made.found key ≡ true → IsTrue (owes_kick vcpu (local_after shape actor (seat_at state actor).local made.step made.found)) → IsOwing shape (later is) next.track vcpu (turn_of at.track actor)
    owing_now key changes owes =
        let what = event shape good state at progress actor made here acts in
        let sim = simulated shape good state at progress actor made here acts in
        record {
          there = acts.there;
          current =
              and_from (is_some (doing_of next.track actor).operation) ((doing_of next.track actor).number == (doing_of at.track actor).number)
              (subst (λ o. IsTrue (is_some o)) (sym (operation_after shape good state at progress actor made here acts what sim actor ∙ here.calls actor acts.there)) acts.fit)
              (eq-eqb (doing_of next.track actor).number (doing_of at.track actor).number (number_after shape good state at progress actor made here acts what sim actor (λ same. changing_goes_on what key changes)));
          owes = subst (λ (l : Local). IsTrue (owes_kick vcpu l)) (sym (local_mine is)) owes;
        }

    -- what stands there after it
    owed_next : (p : Progress) → IsCalm shape state vcpu made.step p.local ⊎ ((key : Key) → HeldSo is key vcpu → ⊥) → Owed shape vcpu state at p → (key : Key) → IsTrue (has_interrupt shape key) → (record_in shape (later is) key).holder ≡ Some vcpu → AreOwed shape (later is) next.track vcpu key
    owed_next p cases owed key there held = of cases (held_so is key vcpu there held)
      where
        what : Option Happened
        what = event shape good state at progress actor made here acts

        sim : IsSimulatedAs shape (later is) at.ideal actor what
        sim = simulated shape good state at progress actor made here acts

        of : IsCalm shape state vcpu made.step p.local ⊎ ((key : Key) → HeldSo is key vcpu → ⊥) → HeldSo is key vcpu → AreOwed shape (later is) next.track vcpu key
        of (inr never) so = absurd (never key so)
        of (inl calm) (stays before apart) =
            subst (All (IsOwing shape (later is) next.track vcpu)) (sym (since_kept what sim key there apart))
            (All-weaker (IsOwing shape state at.track vcpu) (IsOwing shape (later is) next.track vcpu) (owing_on calm.no_kick) (changes_of shape at.track key).since (owed key there calm.unkicked calm.stays before))
        of (inl calm) (alters before changes owes) =
            subst (All (IsOwing shape (later is) next.track vcpu)) (sym (since_changed what sim key there changes))
            (All-push (IsOwing shape (later is) next.track vcpu) (changes_of shape at.track key).since (turn_of at.track actor)
            (All-weaker (IsOwing shape state at.track vcpu) (IsOwing shape (later is) next.track vcpu) (owing_on calm.no_kick) (changes_of shape at.track key).since (owed key there calm.unkicked calm.stays before)) (owing_now key changes owes))
        of (inl calm) (arrives same e) = subst (All (IsOwing shape (later is) next.track vcpu)) (sym (since_arrived what sim key there e)) (All-nil (IsOwing shape (later is) next.track vcpu))

  -- a begin or an end of a part
  part_owed :
      (state : CoreState) (at : Followed) (progress : ℕ → Progress) (actor : ℕ) (act : Act) (here : IsAt shape state at progress) (acts : IsActing shape state progress actor act) → is_part act ≡ true → (key : Key) → AreOwed shape state at.track vcpu key
      → AreOwed shape state (follow shape state at (record { actor = actor; act = act })).track vcpu key
  part_owed state at progress actor act here acts e key owed = of act e (part_settled shape state at progress actor act here acts e)
    where
      still : (doing : Doing) → IsTrue (is_settled (seat_at state actor).local) → AreOwed shape state (with_doing actor doing at.track) vcpu key
      still doing settled =
          All-weaker (IsOwing shape state at.track vcpu) (IsOwing shape state (with_doing actor doing at.track) vcpu)
          (λ turn owing. elim (cases_eq turn.actor actor) [
            | inl same ↦ absurd (settled_owes (seat_at state actor).local vcpu settled (subst (λ n. IsTrue (owes_kick vcpu (seat_at state n).local)) same owing.owes))
            | inr differ ↦
                record {
                  there = owing.there;
                  current =
                      (let apart = doing_other actor turn.actor doing at.track differ in
                      subst (λ b. IsTrue b) (sym (current_on at.track (with_doing actor doing at.track) turn (ap (λ (d : Doing). d.operation) apart) (ap (λ (d : Doing). d.number) apart))) owing.current);
                  owes = owing.owes;
                }
          ]) (changes_of shape at.track key).since owed

      of : (a : Act) → is_part a ≡ true → IsTrue (is_settled (seat_at state actor).local) → AreOwed shape state (follow shape state at (record { actor = actor; act = a })).track vcpu key
      of (begins operation lrs) e settled = still (record { operation = Some operation; number = (doing_of at.track actor).number + 1; done = []; fetched = false }) settled
      of (makes made) e settled = absurd (true≢false (sym e))
      of (ends answer) e settled = still (record (doing_of at.track actor) { operation = None }) settled

  -- nothing stands at the interface of a vCPU that begins a scan
  none_stands :
      (state : CoreState) (at : Followed) (progress : ℕ → Progress) (made : Made) (here : IsAt shape state at progress) (acts : IsActing shape state progress vcpu (makes made)) (write : Option ℕ) → made.step ≡ Poll None write → (key : Key) → IsTrue (has_interrupt shape key)
      → (record_in shape (later (is state at progress vcpu made here acts)) key).holder ≡ Some vcpu → ⊥
  none_stands state at progress made here acts write e key there held =
      let step = is state at progress vcpu made here acts in
      let empty : (seat_at state vcpu).local.at ≡ [] = subst (λ s. Meets shape vcpu (seat_at state vcpu).local (seat_at state vcpu).own s) e acts.run.0.meets in
      let same : word_in shape (later step) (Irq key) ≡ word_in shape state (Irq key) = word_stays step (Irq key) there (λ on. absurd_word vcpu key (sym (ap (word_of shape vcpu) e) ∙ on)) in
      let tied = here.sound.ties vcpu (Irq key) acts.there there in
      not_at ((seat_at state vcpu).local.at) key empty (sym tied ∙ ap (is_number vcpu) (ap (λ n. (irq_of n).holder) (sym same) ∙ held) ∙ eq-eqb vcpu vcpu refl)
    where
      absurd_word : (v : ℕ) (k : Key) → Vcpu v ≡ Irq k → ⊥
      absurd_word v k e = absurd (cc)

      not_at : (at : List AtIrq) (k : Key) → at ≡ [] → is_at k at ≡ true → ⊥
      not_at at k e h = true≢false (sym h ∙ ap (is_at k) e)

  kept : IsKeptBy shape vcpu (Owed shape vcpu)
  kept = record { other = other; own = own }
    where
      other :
          (state : CoreState) (at : Followed) (progress : ℕ → Progress) (actor : ℕ) (act : Act) → actor ≢ vcpu → IsAt shape state at progress → IsActing shape state progress actor act → Owed shape vcpu state at (progress vcpu)
          → Owed shape vcpu (after_moment shape state (record { actor = actor; act = act })) (follow shape state at (record { actor = actor; act = act })) (progress vcpu)
      other state at progress actor (begins operation lrs) apart here acts owed = λ key there free phase held. part_owed state at progress actor (begins operation lrs) here acts refl key (owed key there free phase held)
      other state at progress actor (makes made) apart here acts owed = λ key there free phase held.
          let before = unkicked_before (is state at progress actor made here acts) vcpu within (no_poll_by vcpu actor made.step apart) free in
          owed_next state at progress actor made here acts (progress vcpu) (inl (record { unkicked = before.0; no_kick = before.1; stays = phase })) owed key there held
      other state at progress actor (ends answer) apart here acts owed = λ key there free phase held. part_owed state at progress actor (ends answer) here acts refl key (owed key there free phase held)

      own : (state : CoreState) (at : Followed) (progress : ℕ → Progress) (act : Act) → IsAt shape state at progress → IsActing shape state progress vcpu act → Owed shape vcpu state at (progress vcpu)
          → Owed shape vcpu (after_moment shape state (record { actor = vcpu; act = act })) (follow shape state at (record { actor = vcpu; act = act })) (progressed shape vcpu (progress vcpu) act)
      own state at progress (begins operation lrs) here acts owed = λ key there free phase held. part_owed state at progress vcpu (begins operation lrs) here acts refl key (owed key there free phase held)
      own state at progress (ends answer) here acts owed = λ key there free phase held. part_owed state at progress vcpu (ends answer) here acts refl key (owed key there free phase held)
      own state at progress (makes made) here acts owed = λ key there free phase held.
          let p = progress vcpu in
          let by = own_calm within p.local (here.seats vcpu acts.there).local made.step (is state at progress vcpu made here acts) free (sym (ap (λ (l : Local). is_folding l.phase) (local_on shape vcpu made p)) ∙ phase) in
          of state at progress made here acts owed key there held by
        where
          of : (state : CoreState) (at : Followed) (progress : ℕ → Progress) (made : Made) (here : IsAt shape state at progress) (acts : IsActing shape state progress vcpu (makes made)) → Owed shape vcpu state at (progress vcpu) → (key : Key) → IsTrue (has_interrupt shape key)
              → (record_in shape (later (is state at progress vcpu made here acts)) key).holder ≡ Some vcpu → OwnCalm shape state vcpu made.step made.found (progress vcpu).local
              → AreOwed shape (later (is state at progress vcpu made here acts)) (follow shape state at (record { actor = vcpu; act = makes made })).track vcpu key
          of state at progress made here acts owed key there held (scans write e) = absurd (none_stands state at progress made here acts write e key there held)
          of state at progress made here acts owed key there held (accesses reg write e free calm) = owed_next state at progress vcpu made here acts (progress vcpu) (inl calm) owed key there held
          of state at progress made here acts owed key there held (goes_on no_poll calm) = owed_next state at progress vcpu made here acts (progress vcpu) (inl calm) owed key there held

-- as a guest opens nothing is held
opens : (guest : IdealGuest) (number vcpu : ℕ) → CanOpen guest → Owed guest.shape vcpu (opening guest number) (opening_followed guest) (opening_progress guest number vcpu)
opens guest number vcpu good key there free phase held =
    let word = record_opens guest number key good there in
    absurd (none-some vcpu (sym (ap (λ (i : IrqRecord). i.holder) word ∙ (good.sound.records key there).home.unheld) ∙ held))

pub changes_are_owed : ChangesAreOwed
changes_are_owed guest number moments vcpu key good proper within there free phase held =
    (runs_keep guest number vcpu (Owed guest.shape vcpu) good (kept guest.shape good.sound.shape vcpu within) (opens guest number vcpu good) moments proper).keeps key there free phase held
