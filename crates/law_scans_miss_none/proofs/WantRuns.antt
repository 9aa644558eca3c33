-- Each interrupt for which an access waits is wanted by an actor, at every moment of every run.
use Rattle.std.proofs.Common.{◌≡◌, ◌≢◌, ℕ, ◌<◌, ◌==◌, ◌||◌, inl, inr, true≢false, Bool, true, false, IsTrue, List, [], ◌∷◌, map, filter, if◌then◌else◌, refl, sym, ap, ◌∙◌, subst}
use Rattle.std.proofs.lemmas.Bool.{cases_eq, eq-eqb, ne_eqb}
use Rattle.law_registers_stand.specs.Words.{Key, GuestShape, has_interrupt, IsShape, Irq as IrqRecord, irq_of}
use Rattle.law_registers_stand.proofs.GicBase.KeyLemmas.{same_itself}
use Rattle.law_registers_stand.specs.Histories.{IdealGuest, CanOpen}
use Rattle.law_registers_stand.specs.Core.{Local, Made, CoreStep, Irq, actor_count, succeeds, CoreState, opening, seat_at, word_in, after, Takes, IsRun, word_of, after_moment, end_of_moments, IsSeatOf, Act, begins, makes, ends, CoreMoment, own_acts, entries_of, entry_by, Progress, opening_progress, progressed, progress_of, stepped, has_key}
use Rattle.law_registers_stand.proofs.PortCore.OpeningLemmas.{record_opens, seat_opens}
use Rattle.law_registers_stand.specs.CoreProper.Progress.{changed_by}
use Rattle.law_registers_stand.proofs.CoreProper.FollowLemmas.{steps_follow}
use Rattle.law_registers_stand.proofs.LawCoreIsHistory.StepContext.{IsStep}
use Rattle.law_scans_miss_none.specs.Wants.{IsWantedBy, AreWanted, WantsAreKept}
use Rattle.law_registers_stand.proofs.LawCoreIsHistory.AfterLemmas.{later, word_cases, seat_mine, seat_other}
use Rattle.law_registers_stand.proofs.LawCoreIsHistory.ReachedRuns.{IsReached, reaches_next, reached_opens}
use Rattle.law_registers_stand.proofs.CoreProper.ScanLemmas.{wants_on}
use Rattle.law_scans_miss_none.proofs.ScanSteps.{with_made}
use Rattle.law_scans_miss_none.proofs.Frame.{moved_on, split}
use Rattle.law_scans_miss_none.proofs.WantSteps.{is_touch_of, as_touch, wanted_on, touch_ends, wants_kept}

-- a moment of a run, with how far its actors are
pub record IsAll (shape : GuestShape) (state : CoreState) (progress : ℕ → Progress) : Type 0 where
  pub reached : IsReached shape state
  pub seats : (actor : ℕ) → actor < actor_count shape → IsSeatOf (progress actor) (seat_at state actor)
  pub wanted : AreWanted shape state progress

module _ (shape : GuestShape) (good : IsShape shape) (state : CoreState) (progress : ℕ → Progress) (all : IsAll shape state progress) (actor : ℕ) where
  -- the actor itself, and every other one
  mine : (act : Act) → moved_on shape progress (record { actor = actor; act = act }) actor ≡ progressed shape actor (progress actor) act
  mine act = ap (λ b. if b then progressed shape actor (progress actor) act else progress actor) (eq-eqb actor actor refl)

  other : (act : Act) (n : ℕ) → n ≢ actor → moved_on shape progress (record { actor = actor; act = act }) n ≡ progress n
  other act n differ = ap (λ b. if b then progressed shape n (progress n) act else progress n) (ne_eqb actor n (λ e. differ (sym e)))

  -- a begin or an end of a part leaves all as it is
  stays : (act : Act) → (progressed shape actor (progress actor) act).local ≡ (progress actor).local → (progressed shape actor (progress actor) act).own ≡ (progress actor).own → (progressed shape actor (progress actor) act).wants ≡ (progress actor).wants
      → IsAll shape state (moved_on shape progress (record { actor = actor; act = act }))
  stays act local own wants = record {
    reached = all.reached;
    seats = λ n there. elim (cases_eq n actor) [
      | inl same ↦
          (let before = all.seats n there in
          subst (λ p. IsSeatOf p (seat_at state n)) (sym (ap (moved_on shape progress (record { actor = actor; act = act })) same ∙ mine act))
          (record { local = local ∙ ap (λ k. (progress k).local) (sym same) ∙ before.local; own = own ∙ ap (λ k. (progress k).own) (sym same) ∙ before.own }))
      | inr differ ↦ subst (λ p. IsSeatOf p (seat_at state n)) (sym (other act n differ)) (all.seats n there)
    ];
    wanted = λ key there h.
        let by = all.wanted key there h in
        record {
          actor = by.actor;
          there = by.there;
          wants = elim (cases_eq by.actor actor) [
            | inl same ↦
                subst (λ (p : Progress). IsTrue (has_key key p.wants)) (sym (ap (moved_on shape progress (record { actor = actor; act = act })) same ∙ mine act))
                (subst (λ keys. IsTrue (has_key key keys)) (sym wants) (subst (λ n. IsTrue (has_key key (progress n).wants)) same by.wants))
            | inr differ ↦ subst (λ (p : Progress). IsTrue (has_key key p.wants)) (sym (other act by.actor differ)) by.wants
          ];
        };
  }

  makes_one : (made : Made) → Takes shape state (entry_by actor made) → IsAll shape (after shape state (entry_by actor made)) (moved_on shape progress (record { actor = actor; act = makes made }))
  makes_one made takes = record {
    reached = reaches_next shape state (entry_by actor made) good all.reached takes;
    seats = λ n there. elim (cases_eq n actor) [
      | inl same ↦
          subst (λ k. IsSeatOf (moved_on shape progress (record { actor = actor; act = makes made }) k) (seat_at (later is) k)) (sym same)
          (subst (λ p. IsSeatOf p (seat_at (later is) actor)) (sym (mine (makes made)))
          (subst (IsSeatOf (stepped shape actor made (progress actor))) (sym (seat_mine is)) (steps_follow shape actor (made ∷ []) (progress actor) (seat_at state actor).local (seat_at state actor).own (all.seats actor takes.actor))))
      | inr differ ↦ subst (λ s. IsSeatOf (moved_on shape progress (record { actor = actor; act = makes made }) n) s) (sym (seat_other is n differ)) (subst (λ p. IsSeatOf p (seat_at state n)) (sym (other (makes made) n differ)) (all.seats n there))
    ];
    wanted = λ key there h. elim (word_cases is (Irq key) there) [
      | inl here ↦ on key there here (ap (λ n. (irq_of n).want) (sym here.1) ∙ h)
      | inr apart ↦ kept key (λ touch. absurd (apart.0 (touched made.step key touch))) (all.wanted key there (ap (λ n. (irq_of n).want) (sym apart.1) ∙ h))
    ];
  }
    where
      is : IsStep shape state all.reached.ideal actor made.step made.found made.left made.tables
      is = record { good = good; sound = all.reached.sound; related = all.reached.related; takes = takes }

      done : Bool
      done = succeeds shape actor (progress actor).local made.step made.found

      touched : (step : CoreStep) (key : Key) → IsTrue (is_touch_of key step) → word_of shape actor step ≡ Irq key
      touched step key touch = ap (word_of shape actor) (as_touch key step touch).is

      -- what an actor wants that is not touched
      kept : (key : Key) → (IsTrue (is_touch_of key made.step) → done ≡ false) → IsWantedBy shape progress key → IsWantedBy shape (moved_on shape progress (record { actor = actor; act = makes made })) key
      kept key still by = record {
        actor = by.actor;
        there = by.there;
        wants = elim (cases_eq by.actor actor) [
          | inl same ↦
              subst (λ (p : Progress). IsTrue (has_key key p.wants)) (sym (ap (moved_on shape progress (record { actor = actor; act = makes made })) same ∙ mine (makes made)))
              (subst (λ keys. IsTrue (has_key key keys)) (sym (wants_on shape actor (with_made shape actor made (progress actor) (changed_by shape actor made.step made.found done (progress actor)))))
              (wants_kept shape actor made.step made.found done (progress actor) key still (subst (λ n. IsTrue (has_key key (progress n).wants)) same by.wants)))
          | inr differ ↦ subst (λ (p : Progress). IsTrue (has_key key p.wants)) (sym (other (makes made) by.actor differ)) by.wants
        ];
      }

      on : (key : Key) → IsTrue (has_interrupt shape key) → (word_of shape actor made.step ≡ Irq key) × (word_in shape (later is) (Irq key) ≡ made.left) → (irq_of made.left).want ≡ true → IsWantedBy shape (moved_on shape progress (record { actor = actor; act = makes made })) key
      on key there here h = elim (wanted_on made.step is key here.0 h) [
        | inl before ↦
            kept key (λ touch. ap (λ (l : Local). succeeds shape actor l made.step made.found) (all.seats actor takes.actor).local ∙ untouched made.step is touch)
            (all.wanted key there (ap (λ n. (irq_of n).want) (sym (takes.found ∙ ap (word_in shape state) here.0)) ∙ before))
        | inr asks ↦
            record {
              actor = actor;
              there = takes.actor;
              wants =
                  subst (λ (p : Progress). IsTrue (has_key key p.wants)) (sym (mine (makes made)))
                  (subst (λ keys. IsTrue (has_key key keys)) (sym (wants_on shape actor (with_made shape actor made (progress actor) (changed_by shape actor made.step made.found done (progress actor)))))
                  (subst (λ step. IsTrue (has_key key (changed_by shape actor step made.found done (progress actor)).wants)) (sym asks) (ap (λ b. b || has_key key (progress actor).wants) (same_itself key))));
            }
      ]
        where
          untouched : (step : CoreStep) → IsStep shape state all.reached.ideal actor step made.found made.left made.tables → IsTrue (is_touch_of key step) → succeeds shape actor (seat_at state actor).local step made.found ≡ false
          untouched step at touch =
              let is_one = as_touch key step touch in
              ap (λ s. succeeds shape actor (seat_at state actor).local s made.found) is_one.is
              ∙ touch_ends key is_one.seen is_one.kind (subst (λ s. IsStep shape state all.reached.ideal actor s made.found made.left made.tables) is_one.is at) h

-- Runs.

module _ (shape : GuestShape) (good : IsShape shape) where
  one_moment : (state : CoreState) (progress : ℕ → Progress) (actor : ℕ) (act : Act) → IsRun shape state (entries_of (record { actor = actor; act = act } ∷ [])) → IsAll shape state progress
      → IsAll shape (after_moment shape state (record { actor = actor; act = act })) (moved_on shape progress (record { actor = actor; act = act }))
  one_moment state progress actor (begins operation lrs) run all = stays shape good state progress all actor (begins operation lrs) refl refl refl
  one_moment state progress actor (makes made) run all = makes_one shape good state progress all actor made run.0
  one_moment state progress actor (ends answer) run all = stays shape good state progress all actor (ends answer) refl refl refl

  -- how far the actors are after some moments
  abbrev pub all_on : (progress : ℕ → Progress) (moments : List CoreMoment) (actor : ℕ) → Progress
  all_on progress moments actor = progress_of shape actor (progress actor) (own_acts actor moments)

  all_more : (progress : ℕ → Progress) (moment : CoreMoment) (moments : List CoreMoment) (actor : ℕ) → all_on (moved_on shape progress moment) moments actor ≡ all_on progress (moment ∷ moments) actor
  all_more progress moment moments actor = of (moment.actor == actor)
    where
      rest : List Act
      rest = own_acts actor moments

      of : (b : Bool) → progress_of shape actor (if b then progressed shape actor (progress actor) moment.act else progress actor) rest
          ≡ progress_of shape actor (progress actor) (map (λ (m : CoreMoment). m.act) (if b then moment ∷ filter (λ (m : CoreMoment). m.actor == actor) moments else filter (λ (m : CoreMoment). m.actor == actor) moments))
      of true = refl
      of false = refl

  pub all_go : (moments : List CoreMoment) (state : CoreState) (progress : ℕ → Progress) → IsAll shape state progress → IsRun shape state (entries_of moments) → AreWanted shape (end_of_moments shape state moments) (all_on progress moments)
  all_go [] state progress all run = all.wanted
  all_go (moment ∷ moments) state progress all run =
      let parts = split shape state moment.actor moment.act moments run in
      let rest = all_go moments (after_moment shape state moment) (moved_on shape progress moment) (one_moment state progress moment.actor moment.act parts.0 all) parts.1 in
      λ key there h.
      let by = rest key there h in
      record { actor = by.actor; there = by.there; wants = subst (λ (p : Progress). IsTrue (has_key key p.wants)) (all_more progress moment moments by.actor) by.wants }

opens : (guest : IdealGuest) (number : ℕ) → CanOpen guest → IsAll guest.shape (opening guest number) (opening_progress guest number)
opens guest number good = record {
  reached = reached_opens guest number good;
  seats = λ actor there. subst (IsSeatOf (opening_progress guest number actor)) (sym (seat_opens guest number actor there)) (record { local = refl; own = refl });
  wanted = λ key there h.
      let word = record_opens guest number key good there in
      absurd (true≢false (sym h ∙ ap (λ (i : IrqRecord). i.want) word ∙ (good.sound.records key there).home.unwanted));
}

pub wants_are_kept : WantsAreKept
wants_are_kept guest number moments good parted = all_go guest.shape good.sound.shape moments (opening guest number) (opening_progress guest number) (opens guest number good) parted.run
