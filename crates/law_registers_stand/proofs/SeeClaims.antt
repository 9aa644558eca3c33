-- A vCPU's claims, and any of its own steps, keep which ends its list registers see.
use Rattle.std.proofs.Common.{◌≡◌, ◌≢◌, ℕ, ◌<◌, ◌≤◌, ◌==◌, ◌&&◌, ◌||◌, inl, inr, true≢false, not, Bool, true, false, IsTrue, List, [], ◌∷◌, ◌++◌, fold, get_or, Contains, Option, Some, None, is_none, is_some, if◌then◌else◌, refl, sym, ap, subst, ◌∙◌}
use Rattle.std.specs.Option.{option_map_or}
use Rattle.std.proofs.lemmas.Bool.{and_parts}
use Rattle.std.proofs.lemmas.List.{get_or_default}
use Rattle.std.proofs.lemmas.List.Elements.{All-contains}
use Rattle.std.proofs.lemmas.Option.{same_Some}
use Rattle.law_core_is_history.specs.Words.{Key, GuestShape, has_interrupt, intid_of, is_of_vcpu, is_same_key, Irq, cleared, is_number, is_pending, irq_of}
use Rattle.law_core_is_history.proofs.GicBase.KeyLemmas.{same_key, same_itself, other_key}
use Rattle.law_core_is_history.specs.Calls.{Moved, may_reach, may_take, reached, taken}
use Rattle.law_core_is_history.specs.Histories.{changes_of, Ideal}
use Rattle.law_core_is_history.specs.Lists.{Seen, seen_in, listed_of, is_live, LrState, Invalid, Pending, Active, Both, state_has_active, state_number, unpacked, Choice, Offer, offer_of, sees_end}
use Rattle.law_core_is_history.proofs.GicIcv.PlaceLemmas.{live_id}
use Rattle.law_core_is_history.specs.Registers.{Maps}
use Rattle.law_core_is_history.specs.Core.{AtIrq, Local, Phase, Made, CoreStep, Look, Claim, Kick, Mark, TakeIndex, Irq as IrqWord, Vcpu, Queue, Ctlr, Plain, Index, Line, claimed, is_ready, may_hold, may_move, moved_of, succeeds, known, arrived, changed_at, entry_for, is_at, is_vcpu, with_entry, CoreState, seat_at, word_in, word_of, IsAt, IsLocal, event_moments, IsSeatOf, Progress, after_claim, is_paid, IsProperStep, Purpose, Scan, idle, taking, looking, claiming, has_key, is_both, scan_allows, scan_looked, word_taken, without_key}
use Rattle.law_core_is_history.proofs.PortCore.AtLemmas.{is_at_added, is_at_mapped}
use Rattle.law_core_is_history.proofs.CoreProper.ReachLemmas.{none_is, number_is, reached_local}
use Rattle.law_core_is_history.specs.Known.{IsKnown}
use Rattle.law_core_is_history.specs.Related.{bare as bare_irq}
use Rattle.law_core_is_history.specs.Simulates.{event_of}
use Rattle.law_core_is_history.proofs.AfterLemmas.{later}
use Rattle.law_core_is_history.proofs.KickSteps.{is_kick_of, is_poll_by, unkicked_before}
use Rattle.law_core_is_history.proofs.StepContext.{one, IsStep, has}
use Rattle.law_registers_stand.specs.Asks.{HasAll}
use Rattle.law_registers_stand.specs.Ends.{SeesEnd}
use Rattle.law_registers_stand.specs.Followed.{Followed, follows}
use Rattle.law_registers_stand.proofs.AskSteps.{kick_failed}
use Rattle.law_registers_stand.proofs.ComeLemmas.{seen_choice, Comes, finished_id, IsRight, IsToClaim, IsClaiming, is_there, key_by_id, known_on, none_some}
use Rattle.law_registers_stand.proofs.EoiLemmas.{same_state}
use Rattle.law_registers_stand.proofs.HeldSteps.{record_reached, record_same, record_taken}
use Rattle.law_registers_stand.proofs.KeyLemmas.{of_key, without_itself, without_other}
use Rattle.law_registers_stand.proofs.SeeLemmas.{behind, behind_bare, IsSeeing, Seeing, Sees}
use Rattle.law_registers_stand.proofs.StandLemmas.{Standing}
use Rattle.law_registers_stand.proofs.ScanSteps.{found_as}
use Rattle.law_registers_stand.proofs.StandSteps.{after_made, some_is}
use Rattle.law_registers_stand.proofs.TakeSteps.{taken_local}
use Rattle.law_registers_stand.proofs.TellLemmas.{IsTold}
use Rattle.law_registers_stand.proofs.SeeSteps.{idle_sees, quiet_sees}

-- The State that was chosen sees the end of what comes.

-- what is pending once its causes went is level-triggered
cleared_level : (irq : Irq) → is_pending (cleared irq) ≡ true → irq.edge ≡ false
cleared_level irq h = of irq.edge h
  where
    of : (b : Bool) → ((if b then false else irq.line) || false) ≡ true → b ≡ false
    of true h = absurd (cc)
    of false h = refl

not_edge : (b : Bool) → not b ≡ true → b ≡ false
not_edge true e = absurd (cc)
not_edge false e = refl

-- what gets to an interface, by whether it is inactive
abbrev reached_by : Bool → Irq → Moved
reached_by none irq = if none then record { irq = cleared irq; entry = record { pending = true; active = false; rise = irq.rise; soft = irq.soft } } else record { irq = irq; entry = record { pending = false; active = true; rise = false; soft = false } }

arrival_sees : (vcpu : ℕ) (c : Choice) (irq : Irq) → IsRight vcpu c → bare_irq irq ≡ (reached (bare_irq c.irq)).irq → behind (is_both c.entry.state) irq ≡ true → sees_end c.entry.state (offer_of c) ≡ true
arrival_sees vcpu c irq (inl pending) came h =
    let none : bare_irq irq ≡ cleared (bare_irq c.irq) = came ∙ ap (λ b. (reached_by b (bare_irq c.irq)).irq) pending.1 in
    let edge = cleared_level (bare_irq c.irq) (ap is_pending (sym none) ∙ sym (ap (λ s. behind (is_both s) irq) pending.0) ∙ h) in
    ap (λ b. not b || (is_pending c.irq && state_number c.entry.state == 2)) edge
arrival_sees vcpu c irq (inr is) came h = of c.entry.state is.0 h
  where
    same : bare_irq irq ≡ bare_irq c.irq
    same = came ∙ ap (λ o. (reached (record (bare_irq c.irq) { act_by = o })).irq) (number_is vcpu c.irq.act_by is.1) ∙ sym (ap (λ o. record (bare_irq c.irq) { act_by = o }) (number_is vcpu c.irq.act_by is.1))

    pending_sees : (a b : Bool) → b ≡ true → (a || (b && true)) ≡ true
    pending_sees true b e = refl
    pending_sees false b e = ap (λ x. x && true) e

    of : (state : LrState) → IsTrue (state_has_active state) → behind (is_both state) irq ≡ true → sees_end state (offer_of c) ≡ true
    of Invalid active h = absurd (cc)
    of Pending active h = absurd (cc)
    of Active active h = pending_sees (not c.irq.edge) (is_pending c.irq) (ap is_pending (sym same) ∙ h)
    of Both active h = ap (λ b. not b || (is_pending c.irq && false)) (ap (λ (i : Irq). i.edge) (sym same) ∙ not_edge irq.edge h)

module _ (shape : GuestShape) (state : CoreState) (ideal : Ideal) (vcpu found left : ℕ) (tables : Option Maps) (within : vcpu < shape.vcpus) (p : Progress) (seat : IsSeatOf p (seat_at state vcpu)) (some : 1 ≤ p.lrs) (few : p.lrs ≤ 16) (is_local : IsLocal shape vcpu p.local) (stands : Standing false shape vcpu p p.scan) (known_its : IsKnown shape state) (telling : Followed)
    (told : IsTold shape telling) where
  abbrev made_by : CoreStep → Made
  made_by step = (one vcpu step found left tables).made

  abbrev now : CoreStep → Progress
  now step = after_made shape vcpu (made_by step) p

  abbrev told_now : CoreStep → Followed
  told_now step = fold follows telling (event_moments vcpu (event_of shape state (one vcpu step found left tables)))

  -- While it claims.

  -- what is known of the other interrupts that are to be claimed
  knows_others : (claims takes : List Key) (key : Key) (seen : ℕ) (is : IsStep shape state ideal vcpu (Claim key seen) found left tables) → IsClaiming shape vcpu p.local p.own p.regs claims takes → (other : Key) → other ≢ key → has_key other claims ≡ true
      → known shape vcpu (p.own ++ made_by (Claim key seen) ∷ []) (IrqWord other) ≡ known shape vcpu p.own (IrqWord other)
  knows_others claims takes key seen is claiming_is other apart h =
      let d = of_key other claiming_is.rest (ap (has_key other) (sym claiming_is.keys) ∙ h) in
      let there : IsTrue (has_interrupt shape other) = subst (λ k. IsTrue (has_interrupt shape k)) d.2 (claiming_is.each d.0 d.1).there in
      known_on shape vcpu p.own (made_by (Claim key seen)) (IrqWord other) is.good (has is) there (λ e. apart (key_is key other e))
    where
      key_is : (j k : Key) → IrqWord j ≡ IrqWord k → k ≡ j
      key_is j k e = cc

  module _ (claims takes : List Key) (key : Key) (seen : ℕ) (is : IsStep shape state ideal vcpu (Claim key seen) found left tables) (claiming_is : IsClaiming shape vcpu p.local p.own p.regs claims takes) (proper : IsProperStep shape vcpu p (Claim key seen)) (done : succeeds shape vcpu p.local (Claim key seen) found ≡ true)
      (mine : claimed shape vcpu key found p.local ≡ (seat_at (later is) vcpu).local) (seeing : Seeing shape state vcpu telling p claims takes) where
    abbrev next : Local
    next = claimed shape vcpu key found p.local

    abbrev made : Made
    made = made_by (Claim key seen)

    there : IsTrue (has_interrupt shape key)
    there = (and_parts (is_vcpu shape vcpu && is_of_vcpu vcpu key) (has_interrupt shape key) is.takes.can).1

    done_seat : succeeds shape vcpu (seat_at state vcpu).local (Claim key seen) found ≡ true
    done_seat = ap (λ l. succeeds shape vcpu l (Claim key seen) found) (sym seat.local) ∙ done

    -- it claimed all before, where it has all that it chose now
    before_all : {q : Progress} → q.failed ≡ (p.failed || false) → HasAll shape (later is) vcpu q → HasAll shape state vcpu p
    before_all same all = record { none_failed = or_false p.failed (sym same ∙ all.none_failed); unkicked = (unkicked_before is vcpu within refl all.unkicked).0 }
      where
        or_false : (b : Bool) → (b || false) ≡ false → b ≡ false
        or_false true e = absurd (cc)
        or_false false e = refl

    -- another interrupt at the interface
    other_here : (takes_now : List Key) → IsTrue (is_ready p.local.phase) → IsTrue (is_ready next.phase) → IsSeeing shape vcpu state telling p.local p.own p.regs claims takes → (other : Key) → other ≢ key → IsTrue (has_interrupt shape other) → is_at other next.at ≡ true → is_at other p.local.at ≡ true
        → has_key other takes_now ≡ has_key other takes → (changes_of shape (told_now (Claim key seen)).track other).since ≡ [] → behind (has_key other takes_now) (irq_of (word_in shape (later is) (IrqWord other))) ≡ true → SeesEnd p.regs other
    other_here takes_now ready ready_now is_seeing other apart has_it at_now at same none behind_it =
        let record_was = record_same is known_its vcpu within other has_it (ap (λ (l : Local). is_at other l.at) (sym mine) ∙ at_now) (subst (λ (l : Local). IsTrue (is_ready l.phase)) mine ready_now) (ap (λ (l : Local). is_at other l.at) (sym seat.local) ∙ at) (subst (λ (l : Local). IsTrue (is_ready l.phase)) seat.local ready)
        (λ s e. absurd (apart (key_is key other seen s e))) telling told none in
        let now_irq = irq_of (word_in shape (later is) (IrqWord other)) in
        let was_irq = irq_of (word_in shape state (IrqWord other)) in
        is_seeing.here other has_it at record_was.0 (sym (behind_bare (has_key other takes) was_irq) ∙ ap (behind (has_key other takes)) (sym record_was.1) ∙ behind_bare (has_key other takes) now_irq ∙ ap (λ b. behind b now_irq) (sym same) ∙ behind_it)
      where
        key_is : (j k : Key) (a b : ℕ) → Claim j a ≡ Claim k b → k ≡ j
        key_is j k a b e = cc

    -- It got to the interface.

    module _ (claim : has_key key claims ≡ true) where
      abbrev choice : (c : Choice) × Contains claiming_is.rest c × (c.key ≡ key)
      choice = of_key key claiming_is.rest (ap (has_key key) (sym claiming_is.keys) ∙ claim)

      to : IsToClaim shape vcpu p.own p.local.at takes choice.0
      to = claiming_is.each choice.0 choice.1

      away : is_at key p.local.at ≡ false
      away = ap (λ k. is_at k p.local.at) (sym choice.2) ∙ to.away

      found_is : irq_of found ≡ choice.0.irq
      found_is = found_as false shape state ideal vcpu found left tables within p seat some few key seen claims takes is proper done choice.0 choice.2 to

      known_seen : known shape vcpu p.own (IrqWord key) ≡ Some seen
      known_seen = number_is seen (known shape vcpu p.own (IrqWord key)) proper.seen

      seen_is : irq_of seen ≡ choice.0.irq
      seen_is = ap irq_of (same_Some seen to.word (sym known_seen ∙ ap (λ k. known shape vcpu p.own (IrqWord k)) (sym choice.2) ∙ to.known_as)) ∙ to.irq

      next_at : next.at ≡ p.local.at ++ arrived key (irq_of found) (reached (irq_of found)).entry ∷ []
      next_at = ap (λ (l : Local). l.at) (reached_local shape vcpu key (irq_of found) p.local (none_some (entry_for key p.local.at) away))

      was_there : (other : Key) → other ≢ key → is_at other next.at ≡ true → is_at other p.local.at ≡ true
      was_there other apart h =
          or_first (is_at other p.local.at) (is_same_key key other) (sym (is_at_added other p.local.at (arrived key (irq_of found) (reached (irq_of found)).entry)) ∙ ap (is_at other) (sym next_at) ∙ h) (other_key key other (λ e. apart (sym e)))
        where
          or_first : (a b : Bool) → (a || b) ≡ true → b ≡ false → a ≡ true
          or_first true b e f = refl
          or_first false b e f = absurd (true≢false (sym e ∙ f))

      free : (irq_of found).holder ≡ None
      free =
          let may = (and_parts (found == seen) (may_move shape vcpu p.local key (irq_of found)) done).1 in
          let moves : IsTrue (is_none (irq_of found).holder && may_reach shape key (irq_of found) vcpu p.local.cpu && may_hold vcpu (irq_of found)) =
          subst (λ o. IsTrue (option_map_or (λ entry. is_number vcpu (irq_of found).holder && may_take shape key (moved_of (irq_of found) entry) vcpu p.local.cpu) o (is_none (irq_of found).holder && may_reach shape key (irq_of found) vcpu p.local.cpu && may_hold vcpu (irq_of found)))) (none_some (entry_for key p.local.at) away) may in
          none_is (irq_of found).holder (and_parts (is_none (irq_of found).holder) (may_reach shape key (irq_of found) vcpu p.local.cpu) (and_parts (is_none (irq_of found).holder && may_reach shape key (irq_of found) vcpu p.local.cpu) (may_hold vcpu (irq_of found)) moves).0).0

      -- its list register has the State that was chosen
      state_is : (word : ℕ) → Contains (listed_of p.regs) word → is_live (intid_of key) (seen_in word) ≡ true → (unpacked word).state ≡ choice.0.entry.state
      state_is word among live =
          let shown = claiming_is.shows.only among.0 (intid_of key) among.1 (ap (λ w. is_live (intid_of key) (seen_in w)) (at_word among) ∙ live) in
          of_seen (subst (λ w. Comes claiming_is.rest takes p.local.at (seen_in w)) (at_word among) shown)
        where
          at_word : (among : Contains (listed_of p.regs) word) → get_or (listed_of p.regs) among.0 0 ≡ word
          at_word among = get_or_default (listed_of p.regs) among.0 0 word among.1 ∙ among.2

          by_seen : seen_choice choice.0 ≡ seen_in word → (unpacked word).state ≡ choice.0.entry.state
          by_seen e = same_state (unpacked word).state choice.0.entry.state (ap (λ (s : Seen). s.pending) (sym e)) (ap (λ (s : Seen). s.active) (sym e))

          of_seen : Comes claiming_is.rest takes p.local.at (seen_in word) → (unpacked word).state ≡ choice.0.entry.state
          of_seen (inl awaited) =
              let d = claiming_is.each awaited.choice awaited.among in
              let id : intid_of awaited.choice.key ≡ intid_of choice.0.key = ap (λ (s : Seen). s.id) awaited.is ∙ live_id (seen_in word) (intid_of key) live ∙ ap intid_of (sym choice.2) in
              let same = key_by_id shape vcpu awaited.choice.key choice.0.key is.good d.there to.there d.mine to.mine id in
              by_seen (ap seen_choice (sym (claiming_is.one awaited.choice choice.0 awaited.among choice.1 same)) ∙ awaited.is)
          of_seen (inr here) =
              let at = All-contains (IsAt shape vcpu) p.local.at here.entry is_local.at here.among in
              let id : intid_of here.entry.key ≡ intid_of choice.0.key = sym (finished_id takes here.entry) ∙ ap (λ (s : Seen). s.id) here.is ∙ live_id (seen_in word) (intid_of key) live ∙ ap intid_of (sym choice.2) in
              let same = key_by_id shape vcpu here.entry.key choice.0.key is.good at.there to.there at.own to.mine id in
              absurd (true≢false (sym (is_there p.local.at here.entry here.among) ∙ ap (λ k. is_at k p.local.at) same ∙ to.away))

      pub comes_seen : {q : Progress} → q.local ≡ next → q.own ≡ p.own ++ made ∷ [] → q.regs ≡ p.regs → q.trapping ≡ p.trapping → q.debt ≡ p.debt → q.failed ≡ (p.failed || false) → Seeing shape (later is) vcpu (told_now (Claim key seen)) q (without_key key claims) takes
      comes_seen {q} local own regs trapping debt failed = λ ready untrapped owed all.
          let ready_before : IsTrue (is_ready p.local.phase) = subst (λ (l : Local). IsTrue (is_ready l.phase)) local ready in
          let before = seeing ready_before (sym trapping ∙ untrapped) (subst (λ d. IsTrue (is_paid d)) debt owed) (before_all failed all) in
          subst (λ (l : Local). IsSeeing shape vcpu (later is) (told_now (Claim key seen)) l q.own q.regs (without_key key claims) takes) (sym local)
          (subst (λ o. IsSeeing shape vcpu (later is) (told_now (Claim key seen)) next o q.regs (without_key key claims) takes) (sym own)
          (subst (λ r. IsSeeing shape vcpu (later is) (told_now (Claim key seen)) next (p.own ++ made ∷ []) r (without_key key claims) takes) (sym regs) (record {
            here = λ other has_it at none behind_it. of other (is_same_key key other) refl ready_before before has_it at none behind_it;
            coming = λ other h word w among live knows.
                let apart : other ≢ key = λ e. true≢false (sym h ∙ ap (λ k. has_key k (without_key key claims)) e ∙ without_itself key claims) in
                let was = sym (without_other key other claims apart) ∙ h in
                before.coming other was word w among live (sym (knows_others claims takes key seen is claiming_is other apart was) ∙ knows);
          })))
        where
          of : (other : Key) (b : Bool) → is_same_key key other ≡ b → IsTrue (is_ready p.local.phase) → IsSeeing shape vcpu state telling p.local p.own p.regs claims takes → IsTrue (has_interrupt shape other) → is_at other next.at ≡ true → (changes_of shape (told_now (Claim key seen)).track other).since ≡ []
              → behind (has_key other takes) (irq_of (word_in shape (later is) (IrqWord other))) ≡ true → SeesEnd p.regs other
          of other false e ready before has_it at none behind_it =
              let apart : other ≢ key = λ f. true≢false (sym (ap (is_same_key key) f ∙ same_itself key) ∙ e) in
              other_here takes ready ready before other apart has_it at (was_there other apart at) refl none behind_it
          of other true e ready before has_it at none behind_it =
              let same : key ≡ other = same_key key other e in
              let at_key : is_at key next.at ≡ true = ap (λ k. is_at k next.at) same ∙ at in
              let came = record_reached key seen is known_its within there done_seat (ap (λ (l : Local). is_at key l.at) (sym mine) ∙ at_key) (subst (λ (l : Local). IsTrue (is_ready l.phase)) mine ready) (ap (λ (l : Local). is_at key l.at) (sym seat.local) ∙ away) free in
              let irq = irq_of (word_in shape (later is) (IrqWord key)) in
              let sees = arrival_sees vcpu choice.0 irq to.right (came ∙ ap (λ i. (reached (bare_irq i)).irq) found_is)
              (ap (λ b. behind b irq) (sym to.both ∙ ap (λ k. has_key k takes) choice.2) ∙ ap (λ k. behind (has_key k takes) (irq_of (word_in shape (later is) (IrqWord k)))) same ∙ behind_it) in
              subst (SeesEnd p.regs) same (λ word among live.
              before.coming key claim word seen among live known_seen ∙ ap (λ s. sees_end s (record { key = key; irq = irq_of seen })) (state_is word among live) ∙ ap (λ i. sees_end choice.0.entry.state (record { key = key; irq = i })) seen_is ∙ sees)

    -- Its causes came.

    module _ (no_claim : has_key key claims ≡ false) (take : has_key key takes ≡ true) where
      here_now : (entry : AtIrq) × (entry_for key p.local.at ≡ Some entry)
      here_now = elim (claiming_is.placed key take) [ inl claim ↦ absurd (true≢false (sym claim ∙ no_claim)) | inr at ↦ some_is (entry_for key p.local.at) at ]

      at_before : is_at key p.local.at ≡ true
      at_before = ap is_some here_now.1

      abbrev change : AtIrq → AtIrq
      change entry = record (with_entry entry (taken (moved_of (irq_of found) here_now.0)).entry) { consumed = false }

      taken_at : next.at ≡ changed_at change key p.local.at
      taken_at = ap (λ (l : Local). l.at) (taken_local shape vcpu key (irq_of found) p.local here_now.0 here_now.1)

      same_at : (other : Key) → is_at other next.at ≡ is_at other p.local.at
      same_at other = ap (is_at other) taken_at ∙ is_at_mapped (λ entry. if is_same_key entry.key key then change entry else entry) keeps other p.local.at
        where
          keeps : (entry : AtIrq) → (if is_same_key entry.key key then change entry else entry).key ≡ entry.key
          keeps entry = of (is_same_key entry.key key)
            where
              of : (b : Bool) → (if b then change entry else entry).key ≡ entry.key
              of true = refl
              of false = refl

      ready_next : (phase : Phase) → next.phase ≡ phase → IsTrue (is_ready next.phase) → IsTrue (is_ready phase)
      ready_next phase e h = subst (λ phase. IsTrue (is_ready phase)) e h

      phase_is : next.phase ≡ p.local.phase
      phase_is = ap (λ (l : Local). l.phase) (taken_local shape vcpu key (irq_of found) p.local here_now.0 here_now.1)

      pub takes_seen : {q : Progress} → q.local ≡ next → q.own ≡ p.own ++ made ∷ [] → q.regs ≡ p.regs → q.trapping ≡ p.trapping → q.debt ≡ p.debt → q.failed ≡ (p.failed || false) → Seeing shape (later is) vcpu (told_now (Claim key seen)) q claims (without_key key takes)
      takes_seen {q} local own regs trapping debt failed = λ ready untrapped owed all.
          let ready_now : IsTrue (is_ready next.phase) = subst (λ (l : Local). IsTrue (is_ready l.phase)) local ready in
          let ready_before : IsTrue (is_ready p.local.phase) = ready_next p.local.phase phase_is ready_now in
          let before = seeing ready_before (sym trapping ∙ untrapped) (subst (λ d. IsTrue (is_paid d)) debt owed) (before_all failed all) in
          subst (λ (l : Local). IsSeeing shape vcpu (later is) (told_now (Claim key seen)) l q.own q.regs claims (without_key key takes)) (sym local)
          (subst (λ o. IsSeeing shape vcpu (later is) (told_now (Claim key seen)) next o q.regs claims (without_key key takes)) (sym own)
          (subst (λ r. IsSeeing shape vcpu (later is) (told_now (Claim key seen)) next (p.own ++ made ∷ []) r claims (without_key key takes)) (sym regs) (record {
            here = λ other has_it at none behind_it. of other (is_same_key key other) refl ready_before ready_now before has_it at none behind_it;
            coming = λ other h word w among live knows.
                let apart : other ≢ key = λ e. true≢false (sym h ∙ ap (λ k. has_key k claims) e ∙ no_claim) in
                before.coming other h word w among live (sym (knows_others claims takes key seen is claiming_is other apart h) ∙ knows);
          })))
        where
          of : (other : Key) (b : Bool) → is_same_key key other ≡ b → IsTrue (is_ready p.local.phase) → IsTrue (is_ready next.phase) → IsSeeing shape vcpu state telling p.local p.own p.regs claims takes → IsTrue (has_interrupt shape other) → is_at other next.at ≡ true
              → (changes_of shape (told_now (Claim key seen)).track other).since ≡ [] → behind (has_key other (without_key key takes)) (irq_of (word_in shape (later is) (IrqWord other))) ≡ true → SeesEnd p.regs other
          of other false e ready ready_now before has_it at none behind_it =
              let apart : other ≢ key = λ f. true≢false (sym (ap (is_same_key key) f ∙ same_itself key) ∙ e) in
              other_here (without_key key takes) ready ready_now before other apart has_it at (sym (same_at other) ∙ at) (without_other key other takes apart) none behind_it
          of other true e ready ready_now before has_it at none behind_it =
              let same : key ≡ other = same_key key other e in
              let at_key : is_at key next.at ≡ true = same_at key ∙ at_before in
              let came = record_taken key seen is known_its within there done_seat (ap (λ (l : Local). is_at key l.at) (sym mine) ∙ at_key) (subst (λ (l : Local). IsTrue (is_ready l.phase)) mine ready_now) (ap (λ (l : Local). is_at key l.at) (sym seat.local) ∙ at_before) (subst (λ (l : Local). IsTrue (is_ready l.phase)) seat.local ready) telling told
              (ap (λ k. (changes_of shape (told_now (Claim key seen)).track k).since) same ∙ none) in
              let irq = irq_of (word_in shape (later is) (IrqWord key)) in
              let was = irq_of (word_in shape state (IrqWord key)) in
              let pending : is_pending irq ≡ true = ap (λ b. behind b irq) (sym (without_itself key takes)) ∙ ap (λ k. behind (has_key k (without_key key takes)) (irq_of (word_in shape (later is) (IrqWord k)))) same ∙ behind_it in
              let level = cleared_level (bare_irq was) (ap is_pending (sym came.1) ∙ pending) in
              subst (SeesEnd p.regs) same (before.here key there at_before came.0 (ap (λ b. behind b was) take ∙ ap not level))

  claim_sees :
      (claims takes : List Key) (key : Key) (seen : ℕ) (is : IsStep shape state ideal vcpu (Claim key seen) found left tables) → (now (Claim key seen)).local ≡ (seat_at (later is) vcpu).local → p.scan ≡ claiming claims takes → IsProperStep shape vcpu p (Claim key seen) → (has_key key claims || has_key key takes) ≡ true
      → IsClaiming shape vcpu p.local p.own p.regs claims takes → Seeing shape state vcpu telling p claims takes → Sees shape (later is) vcpu (told_now (Claim key seen)) (now (Claim key seen)) (now (Claim key seen)).scan
  claim_sees claims takes key seen is mine e proper among claiming_is seeing =
      let by : Bool → Scan → Progress = λ done s. record (after_claim key (irq_of found) done s p) { local = if done then claimed shape vcpu key found p.local else p.local; own = p.own ++ made_by (Claim key seen) ∷ [] } in
      subst (λ s. Sees shape (later is) vcpu (told_now (Claim key seen)) (by (succeeds shape vcpu p.local (Claim key seen) found) s) (by (succeeds shape vcpu p.local (Claim key seen) found) s).scan) (sym e)
      (of (succeeds shape vcpu p.local (Claim key seen) found) refl mine (has_key key claims) refl among)
    where
      or_true : (b : Bool) → (b || true) ≡ false → ⊥
      or_true true e = absurd (cc)
      or_true false e = absurd (cc)

      none_left : (q : Progress) (b : Bool) (c d k t : List Key) → q.failed ≡ (p.failed || true) → Sees shape (later is) vcpu (told_now (Claim key seen)) q (if b then claiming c d else claiming k t)
      none_left q true c d k t failed = λ ready untrapped owed all. absurd (or_true p.failed (sym failed ∙ all.none_failed))
      none_left q false c d k t failed = λ ready untrapped owed all. absurd (or_true p.failed (sym failed ∙ all.none_failed))

      of : (done : Bool) → succeeds shape vcpu p.local (Claim key seen) found ≡ done → (if done then claimed shape vcpu key found p.local else p.local) ≡ (seat_at (later is) vcpu).local → (claim : Bool) → has_key key claims ≡ claim → (claim || has_key key takes) ≡ true
          → let q = record (after_claim key (irq_of found) done (claiming claims takes) p) { local = if done then claimed shape vcpu key found p.local else p.local; own = p.own ++ made_by (Claim key seen) ∷ [] } in Sees shape (later is) vcpu (told_now (Claim key seen)) q q.scan
      of false s mine claim h among =
          none_left (record (after_claim key (irq_of found) false (claiming claims takes) p) { local = p.local; own = p.own ++ made_by (Claim key seen) ∷ [] }) (has_key key claims) _ _ _ _ refl
      of true s mine true h among =
          let q : Progress = record (after_claim key (irq_of found) true (claiming claims takes) p) { local = claimed shape vcpu key found p.local; own = p.own ++ made_by (Claim key seen) ∷ [] } in
          subst (Sees shape (later is) vcpu (told_now (Claim key seen)) q) (sym (ap (λ b. if b then claiming (without_key key claims) takes else claiming claims (without_key key takes)) h))
          (comes_seen claims takes key seen is claiming_is proper s mine seeing h {q = q} refl refl refl refl refl refl)
      of true s mine false h among =
          let q : Progress = record (after_claim key (irq_of found) true (claiming claims takes) p) { local = claimed shape vcpu key found p.local; own = p.own ++ made_by (Claim key seen) ∷ [] } in
          subst (Sees shape (later is) vcpu (told_now (Claim key seen)) q) (sym (ap (λ b. if b then claiming (without_key key claims) takes else claiming claims (without_key key takes)) h))
          (takes_seen claims takes key seen is claiming_is proper s mine seeing h among {q = q} refl refl refl refl refl refl)

  quiet_claiming :
      (claims takes : List Key) (step : CoreStep) (is : IsStep shape state ideal vcpu step found left tables) → (now step).local ≡ (seat_at (later is) vcpu).local → p.scan ≡ claiming claims takes → IsClaiming shape vcpu p.local p.own p.regs claims takes → Seeing shape state vcpu telling p claims takes → is_poll_by vcpu vcpu step ≡ false
      → ((now step).failed ≡ false → is_kick_of vcpu step ≡ false → p.failed ≡ false) → (now step).scan ≡ p.scan → (now step).local.at ≡ p.local.at → (now step).regs ≡ p.regs → (now step).trapping ≡ p.trapping → (now step).debt ≡ p.debt → (now step).local.phase ≡ p.local.phase → ((key : Key) → word_of shape vcpu step ≢ IrqWord key)
      → ((key : Key) (seen : ℕ) → step ≡ Claim key seen → ⊥) → Sees shape (later is) vcpu (told_now step) (now step) (now step).scan
  quiet_claiming claims takes step is mine e claiming_is seeing poll failed same at regs trapping debt phase apart no_claim =
      subst (Sees shape (later is) vcpu (told_now step) (now step)) (sym (same ∙ e))
      (quiet_sees shape state ideal vcpu found left tables within p seat some few is_local stands known_its telling told step is mine claims takes seeing poll failed at regs trapping debt phase
      (λ key h. let d = of_key key claiming_is.rest (ap (has_key key) (sym claiming_is.keys) ∙ h) in known_on shape vcpu p.own (made_by step) (IrqWord key) is.good (has is) (subst (λ k. IsTrue (has_interrupt shape k)) d.2 (claiming_is.each d.0 d.1).there) (apart key)) no_claim)

  claiming_sees :
      (claims takes : List Key) (step : CoreStep) (is : IsStep shape state ideal vcpu step found left tables) → (now step).local ≡ (seat_at (later is) vcpu).local → p.scan ≡ claiming claims takes → IsProperStep shape vcpu p step → IsTrue (scan_allows shape vcpu p.local (claiming claims takes) step)
      → IsClaiming shape vcpu p.local p.own p.regs claims takes → Seeing shape state vcpu telling p claims takes → Sees shape (later is) vcpu (told_now step) (now step) (now step).scan
  claiming_sees claims takes (Claim key seen) is mine e proper h claiming_is seeing = claim_sees claims takes key seen is mine e proper h claiming_is seeing
  claiming_sees claims takes (Kick v) is mine e proper h claiming_is seeing =
      quiet_claiming claims takes (Kick v) is mine e claiming_is seeing refl (kick_failed shape state ideal vcpu found left tables within p seat is_local stands v) refl refl refl refl refl refl (λ key e. absurd (cc)) (λ key seen e. absurd (cc))
  claiming_sees claims takes (Mark k v) is mine e proper h claiming_is seeing = quiet_claiming claims takes (Mark k v) is mine e claiming_is seeing refl (λ f g. f) refl refl refl refl refl refl (λ key e. absurd (cc)) (λ key seen e. absurd (cc))
  claiming_sees claims takes (Look (IrqWord key)) is mine e proper h claiming_is seeing = absurd (true≢false (sym h))
  claiming_sees claims takes (Look (Vcpu v)) is mine e proper h claiming_is seeing = absurd (true≢false (sym h))
  claiming_sees claims takes (Look Queue) is mine e proper h claiming_is seeing = absurd (true≢false (sym h))
  claiming_sees claims takes (Look Ctlr) is mine e proper h claiming_is seeing = absurd (true≢false (sym h))
  claiming_sees claims takes (Look (Plain i)) is mine e proper h claiming_is seeing = absurd (true≢false (sym h))
  claiming_sees claims takes (Look (Index v n)) is mine e proper h claiming_is seeing = absurd (true≢false (sym h))
  claiming_sees claims takes (Look (Line n)) is mine e proper h claiming_is seeing = absurd (true≢false (sym h))
  claiming_sees claims takes step is mine e proper h claiming_is seeing = absurd (true≢false (sym h))

  -- While it takes its index, and looks, nothing is at the interface.

  taking_sees : (purpose : Purpose) (words : ℕ) (step : CoreStep) (is : IsStep shape state ideal vcpu step found left tables) → p.scan ≡ taking purpose words → IsTrue (scan_allows shape vcpu p.local (taking purpose words) step) → Sees shape (later is) vcpu (told_now step) (now step) (now step).scan
  taking_sees purpose words (TakeIndex word) is e h = subst (λ s. Sees shape (later is) vcpu (told_now (TakeIndex word)) (now (TakeIndex word)) (word_taken s)) (sym e) tt
  taking_sees purpose words (Kick v) is e h = subst (Sees shape (later is) vcpu (told_now (Kick v)) (now (Kick v))) (sym e) tt
  taking_sees purpose words step is e h = absurd (true≢false (sym h))

  looking_sees : (purpose : Purpose) (from : ℕ) (offers : List Offer) (step : CoreStep) (is : IsStep shape state ideal vcpu step found left tables) → p.scan ≡ looking purpose from offers → IsTrue (scan_allows shape vcpu p.local (looking purpose from offers) step) → Sees shape (later is) vcpu (told_now step) (now step) (now step).scan
  looking_sees purpose from offers (Look (IrqWord key)) is e h = subst (λ s. Sees shape (later is) vcpu (told_now (Look (IrqWord key))) (now (Look (IrqWord key))) (scan_looked shape key (irq_of found) s)) (sym e) tt
  looking_sees purpose from offers (Kick v) is e h = subst (Sees shape (later is) vcpu (told_now (Kick v)) (now (Kick v))) (sym e) tt
  looking_sees purpose from offers (Look (Vcpu v)) is e h = absurd (true≢false (sym h))
  looking_sees purpose from offers (Look Queue) is e h = absurd (true≢false (sym h))
  looking_sees purpose from offers (Look Ctlr) is e h = absurd (true≢false (sym h))
  looking_sees purpose from offers (Look (Plain i)) is e h = absurd (true≢false (sym h))
  looking_sees purpose from offers (Look (Index v n)) is e h = absurd (true≢false (sym h))
  looking_sees purpose from offers (Look (Line n)) is e h = absurd (true≢false (sym h))
  looking_sees purpose from offers step is e h = absurd (true≢false (sym h))

  -- Any of its own steps.

  pub own_sees : (step : CoreStep) (is : IsStep shape state ideal vcpu step found left tables) → (now step).local ≡ (seat_at (later is) vcpu).local → IsProperStep shape vcpu p step → Sees shape state vcpu telling p p.scan → Sees shape (later is) vcpu (told_now step) (now step) (now step).scan
  own_sees step is mine proper sees = by p.scan refl
    where
      by : (s : Scan) → p.scan ≡ s → Sees shape (later is) vcpu (told_now step) (now step) (now step).scan
      by idle e = idle_sees shape state ideal vcpu found left tables within p seat some few is_local stands known_its telling told step is mine e proper sees
      by (taking purpose words) e = taking_sees purpose words step is e (subst (λ s. IsTrue (scan_allows shape vcpu p.local s step)) e proper.scan)
      by (looking purpose from offers) e = looking_sees purpose from offers step is e (subst (λ s. IsTrue (scan_allows shape vcpu p.local s step)) e proper.scan)
      by (claiming claims takes) e = claiming_sees claims takes step is mine e proper (subst (λ s. IsTrue (scan_allows shape vcpu p.local s step)) e proper.scan) (subst (Standing false shape vcpu p) e stands) (subst (Sees shape state vcpu telling p) e sees)
