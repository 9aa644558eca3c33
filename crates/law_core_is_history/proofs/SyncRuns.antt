-- What a run says of the commands of the ITS.
use Rattle.std.proofs.Common.{◌≡◌, ℕ, Bool, true, false, cond, IsTrue, List, [], ◌∷◌, ◌++◌, fold, Option, option_map, Some, None, is_some, if◌then◌else◌, unwrap_or, refl, sym, ap, ◌∙◌, subst}
use Rattle.std.specs.Option.{option_map_or}
use Rattle.std.proofs.lemmas.Grind.{fold-append}
use Rattle.std.proofs.lemmas.Option.{none-some}
use Rattle.std.proofs.lemmas.List.Elements.{All-head, filter_map-append}
use Rattle.law_lines_translate.specs.Words.{GuestShape, IsShape}
use Rattle.law_histories.specs.ItsCmd.Command.{decoded}
use Rattle.law_lines_translate.specs.Registers.{QueueWord, queue_of, fault_number, Maps}
use Rattle.law_lines_translate.specs.GicCall.declared.event.Event.TheVariants.{Queue as QueueEvent}
use Rattle.law_lines_translate.specs.Calls.{Place, Done, Stalls, queue_event, command_words, next_offset, command_places, View, Cbaser}
use Rattle.law_lines_translate.specs.GicCall.declared.event.Place.TheVariants.{Word, Queue as QueuePlace}
use Rattle.law_lines_translate.specs.Histories.{opening_course, IsHistory, IsWhole, IdealGuest}
use Rattle.law_histories.proofs.SyncLaw.{sync_holds as histories_hold}
use Rattle.law_lines_translate.specs.Core.{Made, CoreStep, CommandDone, WordId, Queue, known_fault, Meets, word_after, is_on, known, known_word, known_view, is_known, since_turn, owes_no_kick, CoreState, opening, seat_at, word_in, after, Takes, IsRun, IsSound, after_moment, end_of_moments, ideal_of, CoreMoment, entry_by, step_of, entries_of, IsPartedRun}
use Rattle.law_lines_translate.proofs.PortCore.PlaceLemmas.{word_same}
use Rattle.law_lines_translate.proofs.PortCore.RunLemmas.{run_splits}
use Rattle.law_lines_translate.proofs.PortCore.StepTies.{few_actors}
use Rattle.law_lines_translate.proofs.PortCore.StepWords.{queue_back, queue_fits}
use Rattle.law_lines_translate.proofs.CoreProper.PartLemmas.{ideal_append, same_end}
use Rattle.law_core_is_history.specs.Known.{IsKnown}
use Rattle.law_core_is_history.specs.Laws.{AreCalls}
use Rattle.law_core_is_history.specs.Sync.{steps, StallsAlone, SyncHolds}
use Rattle.law_core_is_history.proofs.HistorySteps.{run_leads}
use Rattle.law_core_is_history.proofs.KnownSteps.{left_in, other_in}
use Rattle.law_core_is_history.proofs.PrefixLemmas.{parted_before, calls_before, whole_is}

-- What an actor knows since it took the ITS it knows by all its steps.

module _ (shape : GuestShape) (actor : ℕ) (word : WordId) where
  -- a step more
  abbrev last_on : Option ℕ → Made → Option ℕ
  last_on last made = if is_on shape actor word made then Some made.left else last

  abbrev kept_by : List Made → Made → List Made
  kept_by kept made = if is_some made.tables then made ∷ [] else kept ++ made ∷ []

  AreLike : List Made → Option ℕ → Type 0
  AreLike kept last = (n : ℕ) → fold last_on None kept ≡ Some n → last ≡ Some n

  like_more : (kept : List Made) (last : Option ℕ) (made : Made) → ((n : ℕ) → fold last_on None kept ≡ Some n → last ≡ Some n) → (n : ℕ) → fold last_on None (kept_by kept made) ≡ Some n → last_on last made ≡ Some n
  like_more kept last made like n = of (is_some made.tables) (is_on shape actor word made) refl
    where
      of : (t b : Bool) → is_on shape actor word made ≡ b → fold last_on None (cond t (made ∷ []) (kept ++ made ∷ [])) ≡ Some n → cond b (Some made.left) last ≡ Some n
      of true true e h = sym (ap (λ b. cond b (Some made.left) None) e) ∙ h
      of true false e h = absurd (none-some n (sym (ap (λ b. cond b (Some made.left) None) e) ∙ h))
      of false true e h = sym (fold-append last_on None kept (made ∷ []) ∙ ap (λ b. cond b (Some made.left) (fold last_on None kept)) e) ∙ h
      of false false e h = like n (sym (fold-append last_on None kept (made ∷ []) ∙ ap (λ b. cond b (Some made.left) (fold last_on None kept)) e) ∙ h)

  like_all : (own kept : List Made) (last : Option ℕ) → ((n : ℕ) → fold last_on None kept ≡ Some n → last ≡ Some n) → (n : ℕ) → fold last_on None (fold kept_by kept own) ≡ Some n → fold last_on last own ≡ Some n
  like_all [] kept last like n h = like n h
  like_all (made ∷ own) kept last like n h = like_all own (kept_by kept made) (last_on last made) (like_more kept last made like) n h

  pub known_since : (own : List Made) (n : ℕ) → known shape actor (since_turn own) word ≡ Some n → known shape actor own word ≡ Some n
  known_since own n h = like_all own [] None (λ m e. absurd (none-some m e)) n h

-- A bad command.

-- it stalls where the queue is
stalls_at : (shape : GuestShape) (view : View) (offset fault : ℕ) → queue_event shape view ≡ QueueEvent offset (Stalls fault) → view.offset ≡ offset
stalls_at shape view offset fault ends = of (fault_number shape view.maps (decoded (command_words shape view))) ends
  where
    of : (o : Option ℕ) → option_map_or (λ n. QueueEvent view.offset (Stalls n)) o (QueueEvent (next_offset view) (Done (command_words shape view))) ≡ QueueEvent offset (Stalls fault) → view.offset ≡ offset
    of None e = absurd (cc)
    of (Some n) e = cc

known_is : (o : Option ℕ) → IsTrue (is_some o) → o ≡ Some (unwrap_or o 0)
known_is None h = absurd (cc)
known_is (Some n) h = refl

module _ (shape : GuestShape) (state : CoreState) (actor offset : ℕ) (found left : ℕ) (tables : Option Maps) (good : IsShape shape) (sound : IsSound shape state) (known_all : IsKnown shape state) where
  made : Made
  made = record { step = CommandDone offset true None; found = found; left = left; tables = tables }

  module _ (takes : Takes shape state (entry_by actor (record { step = CommandDone offset true None; found = found; left = left; tables = tables }))) where
    own : List Made
    own = (seat_at state actor).own

    stays_at : offset ≡ (queue_of (word_in shape state Queue)).offset
    stays_at =
        let ends = takes.meets.queue.0 in
        let since = known_is (known shape actor (since_turn (seat_at state actor).own) Queue) (All-head (λ (place : Place). IsTrue (is_known shape actor (seat_at state actor).own place)) QueuePlace (Word Cbaser ∷ command_places shape (known_view shape actor (seat_at state actor).own)) ends.fetched) in
        let all = known_since shape actor Queue (seat_at state actor).own _ since in
        let word : known_word shape actor (since_turn (seat_at state actor).own) Queue ≡ word_in shape state Queue = ap (λ o. unwrap_or o 0) (sym all ∙ (known_all actor takes.actor takes.meets.turn).queue) in
        sym (stalls_at shape (known_view shape actor (seat_at state actor).own) offset (known_fault shape actor (seat_at state actor).own) ends.ends) ∙ ap (λ n. (queue_of n).offset) word

    stalls_alone : StallsAlone shape state (after shape state (entry_by actor (record { step = CommandDone offset true None; found = found; left = left; tables = tables })))
    stalls_alone =
        let entry = entry_by actor (record { step = CommandDone offset true None; found = found; left = left; tables = tables }) in
        let valid = sound.words Queue refl in
        let fits = queue_fits (word_in shape state Queue) (few_actors shape (queue_of (word_in shape state Queue)).turn good valid.1) in
        let now : queue_of left ≡ record (queue_of (word_in shape state Queue)) { offset = offset; stalled = true } =
        ap queue_of takes.left ∙ ap (λ n. queue_of (word_after shape actor (seat_at state actor).local (CommandDone offset true None) n)) takes.found
        ∙ queue_back (record (queue_of (word_in shape state Queue)) { offset = offset; stalled = true }) (record { actor = fits.actor; command = takes.can.0.place; within = takes.can.0.within }) in
        record {
          queue = ap queue_of (left_in shape state entry good sound takes) ∙ now ∙ ap (λ (n : ℕ). let q : QueueWord = record (queue_of (word_in shape state Queue)) { offset = n; stalled = true } in q) stays_at;
          others = λ word there differ. other_in shape state entry good sound takes word (λ e. differ (word_same shape word Queue good there refl e));
          maps = refl;
        }

-- Steps of a run.

entries_both : (early late : List CoreMoment) → entries_of (early ++ late) ≡ entries_of early ++ entries_of late
entries_both early late = filter_map-append (λ (moment : CoreMoment). option_map (entry_by moment.actor) (step_of moment.act)) early late

pub taken_at : (guest : IdealGuest) (number : ℕ) (early late : List CoreMoment) (actor : ℕ) (made : Made) → IsPartedRun guest number (early ++ steps actor made ∷ late) → Takes guest.shape (end_of_moments guest.shape (opening guest number) early) (entry_by actor made)
taken_at guest number early late actor made parted =
    let shape = guest.shape in
    let split = run_splits shape (opening guest number) (entries_of early) (entries_of (steps actor made ∷ late)) (subst (IsRun shape (opening guest number)) (entries_both early (steps actor made ∷ late)) parted.run) in
    subst (λ s. Takes shape s (entry_by actor made)) (sym (same_end shape (opening guest number) early)) split.1.0

kicks_sent : (shape : GuestShape) (actor offset : ℕ) (stalled : Bool) (ending : Option (List ℕ)) (state : CoreState) (step : CoreStep) → step ≡ CommandDone offset stalled ending → Meets shape actor (seat_at state actor).local (seat_at state actor).own step → IsTrue (owes_no_kick (seat_at state actor).local)
kicks_sent shape actor offset stalled ending state step e meets = (subst (Meets shape actor (seat_at state actor).local (seat_at state actor).own) e meets).kicks

pub runs_hold : SyncHolds
runs_hold guest number moments more good parted calls ended =
    let shape = guest.shape in
    let early = parted_before guest number moments more parted in
    let leads = run_leads guest number moments good early (calls_before shape (opening guest number) (opening_course guest) moments more calls) in
    let whole = run_leads guest number (moments ++ more) good parted calls in
    let splits = ideal_append shape (opening guest number) moments more in
    let synced = histories_hold guest (ideal_of shape (opening guest number) moments) (ideal_of shape (end_of_moments shape (opening guest number) moments) more) good (subst (IsHistory guest) splits whole.goes)
    (subst (IsWhole guest) splits (whole_is guest number (moments ++ more) good parted calls ended)) in
    record {
      history = synced;
      maps = sym leads.at.related.maps ∙ synced.maps;
      kicks = λ before late actor made split offset stalled ending step.
          kicks_sent shape actor offset stalled ending (end_of_moments shape (opening guest number) before) made.step step (taken_at guest number before late actor made (subst (IsPartedRun guest number) split early)).meets;
      stalls = λ before late actor made split offset step.
          let now = subst (IsPartedRun guest number) split early in
          let first = parted_before guest number before (steps actor made ∷ late) now in
          let lead = run_leads guest number before good first (calls_before shape (opening guest number) (opening_course guest) before (steps actor made ∷ late) (subst (AreCalls shape (opening guest number) (opening_course guest)) split (calls_before shape (opening guest number) (opening_course guest) moments more calls))) in
          subst (StallsAlone shape (end_of_moments shape (opening guest number) before)) (sym (fold-append (after_moment shape) (opening guest number) before (steps actor made ∷ [])))
          (stalled_so good.sound.shape (end_of_moments shape (opening guest number) before) actor made offset step lead.at.sound lead.at.known (taken_at guest number before late actor made now));
    }
  where
    stalled_so : IsShape guest.shape → (state : CoreState) (actor : ℕ) (made : Made) (offset : ℕ) → made.step ≡ CommandDone offset true None → IsSound guest.shape state → IsKnown guest.shape state → Takes guest.shape state (entry_by actor made) → StallsAlone guest.shape state (after guest.shape state (entry_by actor made))
    stalled_so shape_good state actor made offset e sound known_all takes =
        subst (λ step. Takes guest.shape state (entry_by actor (record { step = step; found = made.found; left = made.left; tables = made.tables })) → StallsAlone guest.shape state (after guest.shape state (entry_by actor (record { step = step; found = made.found; left = made.left; tables = made.tables })))) (sym e)
        (λ t. stalls_alone guest.shape state actor offset made.found made.left made.tables shape_good sound known_all t) takes
