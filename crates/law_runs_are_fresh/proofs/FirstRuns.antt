-- An acknowledge while no other actor is in a part finds the first of all that are deliverable once what stands at the vCPU's own interface is taken back.
use Rattle.std.proofs.Common.{◌≡◌, ℕ, ◌<◌, ◌==◌, ◌&&◌, ◌||◌, inl, inr, true≢false, Bool, true, false, IsTrue, All, List, [], ◌∷◌, ◌++◌, Contains, Some, None, is_some, if◌then◌else◌, refl, sym, ap, ◌∙◌, subst}
use Rattle.std.specs.List.{list_any}
use Rattle.std.proofs.lemmas.Bool.{cases_eq, false_from_ne_true}
use Rattle.std.proofs.lemmas.List.{append_assoc}
use Rattle.std.proofs.lemmas.List.Elements.{All-head}
use Rattle.law_serial_is_eager.specs.Words.{Key, Icc, GuestShape, has_interrupt}
use Rattle.law_serial_is_eager.specs.Calls.{Cpu, Found, Access}
use Rattle.law_serial_is_eager.specs.GicCall.declared.event.Found.TheVariants.{Answer}
use Rattle.law_serial_is_eager.specs.Registers.{interface_answer}
use Rattle.law_serial_is_eager.specs.Histories.{Turn, changes_of, comes_first, doing_of, has_left_all, IsHistory, opening_course, Standing, is_of, standing_at, IdealGuest, CanOpen}
use Rattle.law_serial_is_eager.proofs.LawHistories.CourseLemmas.{goes_before, mark_is}
use Rattle.law_serial_is_eager.proofs.LawHistories.StandLemmas.{of_key, standing_of_key, none_filtered}
use Rattle.law_serial_is_eager.proofs.LawHomeCommutes.SpotLemmas.{IsTidy}
use Rattle.law_serial_is_eager.specs.Core.{Made, Irq as IrqWord, interface_of, actor_count, is_at, CoreState, opening, seat_at, stands_for, with_found, after_moment, end_of_moments, event_moments, ideal_of, makes, CoreMoment, Progress, is_paid, opening_progress, progress_in, IsProperRun, is_empty}
use Rattle.law_serial_is_eager.proofs.CoreProper.PartLemmas.{ideal_append}
use Rattle.law_serial_is_eager.specs.LawCoreIsHistory.Laws.{AreCalls}
use Rattle.law_serial_is_eager.specs.LawCoreIsHistory.Whole.{AreEnded}
use Rattle.law_serial_is_eager.proofs.LawCoreIsHistory.HistorySteps.{runs_history}
use Rattle.law_serial_is_eager.proofs.LawCoreIsHistory.PrefixLemmas.{whole_is}
use Rattle.law_serial_is_eager.proofs.LawCoreIsHistory.StandingLemmas.{any_stands}
use Rattle.law_serial_is_eager.specs.LawRegistersStand.Followed.{Followed, opening_followed}
use Rattle.law_serial_is_eager.specs.LawScansMissNone.Excuse.{followed_in}
use Rattle.law_serial_is_eager.specs.LawScansMissNone.First.{MayAsk}
use Rattle.law_serial_is_eager.specs.LawScansMissNone.Index.{owes_kick}
use Rattle.law_serial_is_eager.specs.LawScansMissNone.Standing.{IsOwing}
use Rattle.law_serial_is_eager.specs.LawScansMissNone.Waiting.{record_in}
use Rattle.law_serial_is_eager.proofs.LawScansMissNone.Frame.{progress_is}
use Rattle.law_serial_is_eager.proofs.LawScansMissNone.RunFrame.{IsNextOf, proper_before}
use Rattle.law_serial_is_eager.proofs.LawScansMissNone.SinceSteps.{changes_are_owed}
use Rattle.law_serial_is_eager.specs.LawAccessesShowHome.Stay.{IsAsReached}
use Rattle.law_serial_is_eager.proofs.LawAccessesShowHome.StayLemmas.{stands_so, there_so}
use Rattle.law_serial_is_eager.proofs.LawAccessesShowHome.StayRuns.{stand_so, stands_as_reached}
use Rattle.law_serial_is_eager.proofs.LawLateOnesLeave.LateRuns.{late_ones_leave}
use Rattle.law_serial_is_eager.specs.LawLoneAccessesFindAll.Lone.{IsAlone}
use Rattle.law_serial_is_eager.proofs.LawLoneAccessesFindAll.AskLemmas.{none_first, not_folding}
use Rattle.law_serial_is_eager.proofs.LawLoneAccessesFindAll.LoneLemmas.{none_excused, not_wanted}
use Rattle.law_serial_is_eager.proofs.AccessRuns.{AllAccess, history_access}
use Rattle.law_serial_is_eager.proofs.AloneRuns.{next_at}
use Rattle.law_serial_is_eager.proofs.ReadyRuns.{may_ask}
use Rattle.law_serial_is_eager.proofs.WantLemmas.{names_none}
use Rattle.law_runs_are_fresh.specs.First.{AcknowledgesFindTheFirst, AsksAlone}
use Rattle.law_runs_are_fresh.proofs.AccessLemmas.{IsAtAccess, at_access}
use Rattle.law_runs_are_fresh.proofs.FirstLemmas.{first_is_own}
use Rattle.law_runs_are_fresh.proofs.OwnLemmas.{own_wants}

module _ (guest : IdealGuest) (number : ℕ) (early late : List CoreMoment) (v : ℕ) (made : Made) (good : CanOpen guest) (proper : IsProperRun guest number (early ++ (record { actor = v; act = makes made }) ∷ late))
    (calls : AreCalls guest.shape (opening guest number) (opening_course guest) (early ++ (record { actor = v; act = makes made }) ∷ late)) (ended : AreEnded guest.shape (early ++ (record { actor = v; act = makes made }) ∷ late)) (alone : AsksAlone guest number early v made) where
  abbrev shape : GuestShape
  shape = guest.shape

  abbrev state : CoreState
  state = end_of_moments guest.shape (opening guest number) early

  abbrev at : Followed
  at = followed_in guest number early

  abbrev one : CoreMoment
  one = record { actor = v; act = makes made }

  next : IsNextOf guest number early v (makes made)
  next = next_at guest number good early v (makes made) (proper_before guest number (early ++ one ∷ []) late (subst (IsProperRun guest number) (sym (append_assoc early (one ∷ []) late)) proper))

  history : IsHistory guest (ideal_of shape (opening guest number) (early ++ one ∷ late))
  history = (runs_history guest number (early ++ one ∷ late) good proper.parted calls).history

  history_early : IsHistory guest (ideal_of shape (opening guest number) early)
  history_early = (goes_before (opening_course guest) (ideal_of shape (opening guest number) early) (ideal_of shape state (one ∷ late)) (subst (IsHistory guest) (ideal_append shape (opening guest number) early (one ∷ late)) history)).0

  abbrev found : Found
  found = Answer (interface_answer alone.read.reg None (interface_of (seat_at state v).local))

  stands : stands_for shape v (seat_at state v).local (seat_at state v).own made.step made.found ≡ Some (record { event = Cpu v alone.read.reg None; found = found })
  stands =
      ap (λ s. stands_for shape v (seat_at state v).local (seat_at state v).own s made.found) alone.read.step_is
      ∙ ap (λ b. if b then None else with_found (Cpu v alone.read.reg None) (Answer (interface_answer alone.read.reg None (interface_of (seat_at state v).local)))) alone.read.unkicked

  here : IsAtAccess guest number early v alone.read.reg None
  here =
      at_access guest number good early v made next alone.read.reg None alone.read.step_is found (ideal_of shape (after_moment shape state one) late)
      (subst (λ o. AllAccess (opening_followed guest) (ideal_of shape (opening guest number) early ++ (event_moments v o ++ ideal_of shape (after_moment shape state one) late))) stands
      (subst (AllAccess (opening_followed guest)) (ideal_append shape (opening guest number) early (one ∷ late)) (history_access guest (ideal_of shape (opening guest number) (early ++ one ∷ late)) good history (whole_is guest number (early ++ one ∷ late) good proper.parted calls ended))))

  lone : IsAlone guest number early v
  lone = record { nobody = alone.nobody; owes_none = false_from_ne_true (owes_kick v (seat_at state v).local) here.free }

  may : MayAsk shape state v (progress_in guest number early v)
  may = may_ask guest number early v made alone.read.reg None good next alone.read.step_is alone.read.unkicked alone.read.asks

  unwanted : (actor : ℕ) → actor < actor_count shape → (progress_in guest number early actor).wants ≡ []
  unwanted actor there = elim (cases_eq actor v) [
    | inl same ↦
        subst (λ n. (progress_in guest number early n).wants ≡ []) (sym same)
        ((own_wants guest number early next.before v next.acts.there).none (Access (Icc alone.read.reg None)) here.operation (λ view key. names_none shape view v alone.read.reg None key alone.read.asks))
    | inr differ ↦ (own_wants guest number early next.before actor there).out (alone.nobody actor there differ)
  ]

  none_comes : (key : Key) → IsTrue (has_interrupt shape key) → comes_first at.ideal v key ≡ false
  none_comes key there =
      none_first guest number early v good next.before here.few may key there (none_excused guest number early v good next.before here.few lone key) (not_wanted guest number early v good next.before here.few lone unwanted key there)

  gone : IsTrue (has_left_all at.track v)
  gone = late_ones_leave guest number early v good next.before here.few here.first (right (is_empty (progress_in guest number early v).local.at) (is_paid (progress_in guest number early v).debt) may.paid)
    where
      right : (a b : Bool) → IsTrue b → IsTrue (a || b)
      right true b h = refl
      right false b h = h

  -- nothing that stands at the interface was changed since it got there
  none_now : (turns : List Turn) → All (IsOwing shape state at.track v) turns → turns ≡ []
  none_now [] owed = refl
  none_now (turn ∷ turns) owed =
      let owing = All-head (IsOwing shape state at.track v) turn turns owed in
      let differ : turn.actor ≡ v → ⊥ = λ e. here.free (subst (λ n. IsTrue (owes_kick v (seat_at state n).local)) e owing.owes) in
      let none : (doing_of at.track turn.actor).operation ≡ None =
      next.at.calls turn.actor owing.there ∙ ap (λ (q : Progress). q.operation) (progress_is shape early (opening_progress guest number) turn.actor) ∙ alone.nobody turn.actor owing.there differ in
      absurd (true≢false (sym owing.current ∙ ap (λ o. is_some o && (doing_of at.track turn.actor).number == turn.number) none))

  tidy : IsTidy shape at.ideal
  tidy = (stand_so guest (ideal_of shape (opening guest number) early) good history_early).1

  so : (standing : Standing) → Contains (standing_at at.ideal v) standing → IsAsReached shape at v standing
  so standing among = stands_as_reached guest (ideal_of shape (opening guest number) early) v standing good history_early here.few among unchanged
    where
      at_it : of_key at.ideal standing.key v ≡ standing_of_key standing.key standing.entry ∷ []
      at_it = stands_so shape at.ideal tidy v standing among

      there : IsTrue (has_interrupt shape standing.key)
      there = (there_so shape at.ideal tidy standing.key v standing.entry at_it).there

      any : (b : Bool) → list_any (is_of standing.key) (standing_at at.ideal v) ≡ b → b ≡ true
      any true e = refl
      any false e = absurd (let none = none_filtered (is_of standing.key) (standing_at at.ideal v) e in let some = at_it in cc)

      held : is_at standing.key (seat_at state v).local.at ≡ true
      held = sym (any_stands standing.key (seat_at state v).local.at) ∙ ap (list_any (is_of standing.key)) (sym (next.at.related.seats v here.few).at) ∙ any (list_any (is_of standing.key) (standing_at at.ideal v)) refl

      unchanged : (changes_of shape at.track standing.key).since ≡ []
      unchanged =
          none_now (changes_of shape at.track standing.key).since
          (changes_are_owed guest number early v standing.key good next.before here.few there may.unkicked (not_folding (progress_in guest number early v).local.phase may.loaded.ready)
          (mark_is v (record_in shape state standing.key).holder (next.at.sound.ties v (IrqWord standing.key) next.acts.there there ∙ held)))

pub acknowledges_find_the_first : AcknowledgesFindTheFirst
acknowledges_find_the_first guest number early late v made good proper calls ended alone =
    first_is_own guest.shape good.sound.shape (followed_in guest number early) (tidy guest number early late v made good proper calls ended alone) v alone.read.few (so guest number early late v made good proper calls ended alone) (gone guest number early late v made good proper calls ended alone)
    (none_comes guest number early late v made good proper calls ended alone)
