-- An access of a CPU interface in a run is fresh.
use Rattle.std.proofs.Common.{◌≡◌, ℕ, ◌+◌, ◌<◌, ◌==◌, ◌&&◌, ◌||◌, not, true≢false, Bool, true, false, IsTrue, List, [], ◌∷◌, ◌++◌, Option, Some, None, refl, sym, ap, ◌∙◌, subst, arith}
use Rattle.std.specs.List.{list_all}
use Rattle.std.specs.Option.{option_map_or}
use Rattle.std.proofs.lemmas.Bool.{and_parts, and_from, ltb-true, ne_eqb}
use Rattle.std.proofs.lemmas.List.{append_assoc}
use Rattle.law_serial_is_eager.specs.Words.{IccReg, Key, Icc, GuestShape, has_interrupt, key_at}
use Rattle.law_serial_is_eager.proofs.GicOpen.KeyLemmas.{key_at_there}
use Rattle.law_serial_is_eager.specs.Calls.{Cpu, Moment, Access}
use Rattle.law_serial_is_eager.specs.Histories.{asks_first, changes_of, comes_first, doing_of, ended_by, has_named, is_awaited, is_excused, is_far_active, is_fresh_at_acknowledge, is_fresh_at_end, is_fresh_at_interface, is_last_open, is_open, is_to_come, keys_in, Standing, standing_at, IdealGuest, CanOpen}
use Rattle.law_serial_is_eager.proofs.LawHistories.CourseLemmas.{mark_is}
use Rattle.law_serial_is_eager.proofs.LawEagerIsHistory.FirstLemmas.{all_keys}
use Rattle.law_serial_is_eager.specs.Core.{Made, Poll, Irq as IrqWord, vcpu_of, is_vcpu, CoreState, opening, seat_at, CanStep, is_poll, end_of_moments, ideal_of, makes, CoreMoment, Progress, opening_progress, progress_in, IsProperRun, has_key}
use Rattle.law_serial_is_eager.specs.LawCoreIsHistory.Whole.{AreEnded}
use Rattle.law_serial_is_eager.specs.LawRegistersStand.Followed.{Followed}
use Rattle.law_serial_is_eager.specs.LawScansMissNone.Excuse.{IsExcused, followed_in}
use Rattle.law_serial_is_eager.specs.LawScansMissNone.Index.{owes_kick}
use Rattle.law_serial_is_eager.specs.LawScansMissNone.Waiting.{record_in}
use Rattle.law_serial_is_eager.specs.LawScansMissNone.Wants.{IsWantedBy}
use Rattle.law_serial_is_eager.proofs.LawScansMissNone.Frame.{progress_is}
use Rattle.law_serial_is_eager.proofs.LawScansMissNone.RunFrame.{IsNextOf, progress_still}
use Rattle.law_serial_is_eager.proofs.LawScansMissNone.SinceSteps.{changes_are_owed}
use Rattle.law_serial_is_eager.proofs.LawScansMissNone.WantRuns.{wants_are_kept}
use Rattle.law_serial_is_eager.proofs.LawLateOnesLeave.PollLemmas.{IsPolled, polled}
use Rattle.law_serial_is_eager.proofs.LawLoneAccessesFindAll.AskLemmas.{far_known, none_first, not_folding}
use Rattle.law_serial_is_eager.proofs.LawLoneAccessesFindAll.LoneRuns.{ended_there}
use Rattle.law_serial_is_eager.proofs.ReadyRuns.{looked_far, may_ask}
use Rattle.law_serial_is_eager.proofs.WantLemmas.{names_none}
use Rattle.law_runs_are_fresh.proofs.ComingRuns.{coming}
use Rattle.law_runs_are_fresh.proofs.OpenLemmas.{all_open, all_stand, any_in_range, excused_open}
use Rattle.law_runs_are_fresh.proofs.OwnLemmas.{own_wants}
use Rattle.law_runs_are_fresh.proofs.ReadRuns.{IsWholeRun, wants_named}

module _ (guest : IdealGuest) (number : ℕ) (early : List CoreMoment) (v : ℕ) (made : Made) (reg : IccReg) (write : Option ℕ) (good : CanOpen guest) (next : IsNextOf guest number early v (makes made)) (step_is : made.step ≡ Poll (Some reg) write) (unkicked : (vcpu_of made.found).kick ≡ false)
    (free : IsTrue (owes_kick v (seat_at (end_of_moments guest.shape (opening guest number) early) v).local) → ⊥) where
  abbrev shape : GuestShape
  shape = guest.shape

  abbrev state : CoreState
  state = end_of_moments guest.shape (opening guest number) early

  abbrev at : Followed
  at = followed_in guest number early

  abbrev one : CoreMoment
  one = record { actor = v; act = makes made }

  few : v < guest.shape.vcpus
  few = ltb-true v guest.shape.vcpus (and_parts (is_vcpu guest.shape v) (is_poll (Some reg) write) (subst (CanStep guest.shape v) step_is next.acts.run.0.can)).0

  polls : IsPolled shape state v (progress_in guest number early v) reg write
  polls = polled guest number v good early made next reg write step_is unkicked

  shape_is : at.ideal.guest.shape ≡ guest.shape
  shape_is = next.at.related.shape_is

  -- what stands at its interface

  pub interface_fresh : IsTrue (is_fresh_at_interface at.ideal at.track (Cpu v reg write))
  interface_fresh =
      subst (λ (s : GuestShape). IsTrue (list_all (λ (standing : Standing). list_all (is_open at.track v) (changes_of s at.track standing.key).since) (standing_at at.ideal v))) (sym shape_is)
      (subst (λ list. IsTrue (list_all (λ (standing : Standing). list_all (is_open at.track v) (changes_of guest.shape at.track standing.key).since) list)) (sym (next.at.related.seats v few).at)
      (all_stand guest.shape v (λ (standing : Standing). list_all (is_open at.track v) (changes_of guest.shape at.track standing.key).since) (seat_at state v).local.at (next.at.sound.locals v next.acts.there).at
      (λ entry there stands. all_open guest.shape state at.track v free (changes_of guest.shape at.track entry.key).since
      (changes_are_owed guest number early v entry.key good next.before few there polls.free (not_folding (progress_in guest number early v).local.phase polls.ready)
      (mark_is v (record_in guest.shape state entry.key).holder (next.at.sound.ties v (IrqWord entry.key) next.acts.there there ∙ stands))))))

  -- what it ends elsewhere

  pub end_fresh : IsTrue (is_fresh_at_end at.ideal at.track (Cpu v reg write))
  end_fresh = subst (λ (s : GuestShape). IsTrue (option_map_or (λ key. not (is_far_active at.ideal v key) || is_last_open s at.track v key) (ended_by s v reg write) true)) (sym shape_is) (of (ended_by guest.shape v reg write) refl)
    where
      of : (o : Option Key) → ended_by guest.shape v reg write ≡ o → IsTrue (option_map_or (λ key. not (is_far_active at.ideal v key) || is_last_open guest.shape at.track v key) o true)
      of None e = refl
      of (Some key) e = by (is_far_active at.ideal v key) refl
        where
          by : (b : Bool) → is_far_active at.ideal v key ≡ b → IsTrue (not b || is_last_open guest.shape at.track v key)
          by false f = refl
          by true f = excused_open guest.shape state at.track v free key (far_known guest number early v good next.before few key (ended_there guest.shape v reg write key e) (looked_far guest number early v made reg write good next step_is unkicked key e) f)

  -- what comes first, where its call is for the access and all parts end

  module _ (operation : (progress_in guest number early v).operation ≡ Some (Access (Icc reg write))) (late : List CoreMoment) (whole : IsProperRun guest number ((early ++ (record { actor = v; act = makes made }) ∷ []) ++ late)) (ended : AreEnded guest.shape ((early ++ (record { actor = v; act = makes made }) ∷ []) ++ late)) (all : IsWholeRun guest number ((early ++ (record { actor = v; act = makes made }) ∷ []) ++ late)) where
    abbrev later : List Moment
    later = ideal_of guest.shape (end_of_moments guest.shape (opening guest number) (early ++ one ∷ [])) late

    -- an interrupt for which an access waits is awaited
    awaited : asks_first reg write ≡ true → (key : Key) → IsWantedBy guest.shape (progress_in guest number early) key → IsTrue (is_awaited guest.shape later at.track v key)
    awaited asks key wanted =
        any_in_range (λ actor. not (actor == v) && (has_named guest.shape (doing_of at.track actor) && is_to_come actor key later)) 0 (guest.shape.vcpus + guest.shape.devices) wanted.actor (omega arith) (let there = wanted.there in omega (arith, there))
        (and_from (not (wanted.actor == v)) (has_named guest.shape (doing_of at.track wanted.actor) && is_to_come wanted.actor key later) (ap not (ne_eqb wanted.actor v differ))
        (and_from (has_named guest.shape (doing_of at.track wanted.actor)) (is_to_come wanted.actor key later) named
        (coming guest number good wanted.actor wanted.there key late (early ++ one ∷ []) whole ended (subst (λ (q : Progress). IsTrue (has_key key q.wants)) (sym (progress_still guest number early v wanted.actor (makes made) differ)) wanted.wants))))
      where
        none : (progress_in guest number early v).wants ≡ []
        none = (own_wants guest number early next.before v next.acts.there).none (Access (Icc reg write)) operation (λ view key. names_none guest.shape view v reg write key asks)

        named : IsTrue (has_named guest.shape (doing_of at.track wanted.actor))
        named =
            wants_named guest number good wanted.actor wanted.there early (one ∷ late) next.before (subst (IsWholeRun guest number) (append_assoc early (one ∷ []) late) all)
            (next.at.calls wanted.actor wanted.there ∙ ap (λ (q : Progress). q.operation) (progress_is guest.shape early (opening_progress guest number) wanted.actor)) key wanted.wants

        differ : wanted.actor ≡ v → ⊥
        differ e = true≢false (sym (subst (λ n. IsTrue (has_key key (progress_in guest number early n).wants)) e wanted.wants) ∙ ap (has_key key) none)

    key_fresh : asks_first reg write ≡ true → (key : Key) → IsTrue (has_interrupt guest.shape key) → IsTrue (not (comes_first at.ideal v key) || (is_last_open guest.shape at.track v key || is_awaited guest.shape later at.track v key))
    key_fresh asks key there = of (comes_first at.ideal v key) refl (is_last_open guest.shape at.track v key) refl
      where
        by_want : (want : Bool) → (record_in guest.shape state key).want ≡ want → comes_first at.ideal v key ≡ true → is_last_open guest.shape at.track v key ≡ false → IsTrue (is_awaited guest.shape later at.track v key)
        by_want true w e f = awaited asks key (wants_are_kept guest number early good next.before.parted key there w)
        by_want false w e f =
            absurd (true≢false (sym e ∙ none_first guest number early v good next.before few (may_ask guest number early v made reg write good next step_is unkicked asks) key there
            (λ (excused : IsExcused guest.shape state at.track v key). true≢false (sym (excused_open guest.shape state at.track v free key excused) ∙ f)) w))

        of : (b : Bool) → comes_first at.ideal v key ≡ b → (c : Bool) → is_last_open guest.shape at.track v key ≡ c → IsTrue (not b || (c || is_awaited guest.shape later at.track v key))
        of false e c f = refl
        of true e true f = refl
        of true e false f = by_want (record_in guest.shape state key).want refl e f

    pub acknowledge_fresh : IsTrue (is_fresh_at_acknowledge later at.ideal at.track (Cpu v reg write))
    acknowledge_fresh = of (asks_first reg write) refl
      where
        of_all : asks_first reg write ≡ true → IsTrue (list_all (λ key. not (comes_first at.ideal v key) || is_excused later at.ideal at.track v key) (keys_in at.ideal.guest.shape))
        of_all asks =
            subst (λ (s : GuestShape). IsTrue (list_all (λ key. not (comes_first at.ideal v key) || (is_last_open s at.track v key || is_awaited s later at.track v key)) (keys_in s))) (sym shape_is)
            (all_keys guest.shape (λ key. not (comes_first at.ideal v key) || (is_last_open guest.shape at.track v key || is_awaited guest.shape later at.track v key)) (λ place within. key_fresh asks (key_at guest.shape place) (key_at_there guest.shape place good.sound.shape within)))

        of : (b : Bool) → asks_first reg write ≡ b → IsTrue (not b || list_all (λ key. not (comes_first at.ideal v key) || is_excused later at.ideal at.track v key) (keys_in at.ideal.guest.shape))
        of false e = refl
        of true e = of_all e
