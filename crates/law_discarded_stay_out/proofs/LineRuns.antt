-- The laws, of every run.
use Rattle.std.proofs.Common.{◌≡◌, ◌≢◌, ℕ, true≢false, false, IsTrue, List, [], ◌∷◌, ◌++◌, Some, refl, sym, ap, subst, ◌∙◌}
use Rattle.std.specs.Option.{ForSome}
use Rattle.std.specs.List.{list_any}
use Rattle.std.proofs.lemmas.List.{append-nil, append_assoc}
use Rattle.law_lines_translate.specs.Words.{GuestShape, IsShape}
use Rattle.law_lines_translate.specs.Histories.{IdealGuest, CanOpen}
use Rattle.law_lines_translate.specs.Core.{CoreStep, CommandDone, Look, LineEnter, Line, Entry, CoreState, after, end_of, has_word, line_of, opening, seat_at, word_in, word_of, IsRun, IsSound, Takes}
use Rattle.law_lines_translate.proofs.LineRuns.{runs_are_true}
use Rattle.law_lines_translate.proofs.PortCore.OpeningLemmas.{opens_sound}
use Rattle.law_lines_translate.proofs.PortCore.RunLemmas.{run_splits, runs_joined}
use Rattle.law_lines_translate.proofs.PortCore.StepLemmas.{run_sound, steps_sound, word_there}
use Rattle.law_discarded_stay_out.specs.StayOut.{AreStoredIn, DiscardedStayOut, IsMissed, LinesAreFilledAnew, ends_command, is_discard, is_mapping, is_stored_in, may_retranslate}
use Rattle.law_discarded_stay_out.proofs.LineSteps.{at_seat, clears, mine_later, step_stores}
use Rattle.law_discarded_stay_out.proofs.UnmapLemmas.{none_stored, unmaps}

run_stores : (shape : GuestShape) (state : CoreState) (since late : List Entry) → IsShape shape → IsSound shape state → AreStoredIn shape state since → IsRun shape state late → AreStoredIn shape (end_of shape state late) (since ++ late)
run_stores shape state since [] good sound are run = subst (AreStoredIn shape state) (sym (append-nil since)) are
run_stores shape state since (entry ∷ late) good sound are run =
    subst (AreStoredIn shape (end_of shape (after shape state entry) late)) (append_assoc since (entry ∷ []) late)
    (run_stores shape (after shape state entry) (since ++ entry ∷ []) late good (steps_sound shape state entry good sound run.0) (step_stores shape good state entry sound run.0 since are) run.1)

module _ (guest : IdealGuest) (number : ℕ) (before since : List Entry) (moved : Entry) (opens : CanOpen guest) (run : IsRun guest.shape (opening guest number) (before ++ moved ∷ since)) where
  abbrev shape : GuestShape
  shape = guest.shape

  abbrev good : IsShape guest.shape
  good = opens.sound.shape

  -- the state in which the step is made, and the one after it
  abbrev then : CoreState
  then = end_of shape (opening guest number) before

  abbrev next : CoreState
  next = after shape then moved

  parts : IsRun shape (opening guest number) before × IsRun shape then (moved ∷ since)
  parts = run_splits shape (opening guest number) before (moved ∷ since) run

  sound : IsSound shape then
  sound = run_sound shape (opening guest number) before good (opens_sound guest number opens) parts.0

  sound_next : IsSound shape next
  sound_next = steps_sound shape then moved good sound parts.1.0

  end_is : end_of shape (opening guest number) (before ++ moved ∷ since) ≡ end_of shape next since
  end_is = runs_joined.end shape (opening guest number) before (moved ∷ since)

  filled_anew : IsTrue (may_retranslate shape moved.made.step) → AreStoredIn shape (end_of shape (opening guest number) (before ++ moved ∷ since)) since
  filled_anew moves =
      subst (λ state. AreStoredIn shape state since) (sym end_is) (run_stores shape next [] since good sound_next (clears shape good then moved sound parts.1.0 (runs_are_true guest number before opens parts.0) moves) parts.1.1)

  -- a discard is such a step
  discard_moves : (pair : ℕ × ℕ) (step : CoreStep) → IsTrue (ends_command (is_discard pair) step) → IsTrue (may_retranslate shape step)
  discard_moves pair (CommandDone offset stalled ending) h = refl
  discard_moves pair step h = absurd (true≢false (sym h))

  unmapped : (pair : ℕ × ℕ) → IsTrue (ends_command (is_discard pair) moved.made.step) → list_any (λ entry. ends_command (is_mapping pair) entry.made.step) since ≡ false → is_stored_in pair since ≡ false
  unmapped pair discards quiet = none_stored shape good pair next since sound_next parts.1.1 (unmaps then.maps pair moved.made.step sound.maps.sound discards) quiet

-- where a message was not stored, its posts miss
module _ (shape : GuestShape) (good : IsShape shape) (state : CoreState) (sound : IsSound shape state) (since : List Entry) (are : AreStoredIn shape state since) (pair : ℕ × ℕ) (none : is_stored_in pair since ≡ false) where
  other : (one : ℕ × ℕ) → IsTrue (is_stored_in one since) → one ≢ pair
  other one stored same = true≢false (sym stored ∙ ap (λ p. is_stored_in p since) same ∙ none)

  looked : (entry : Entry) (line : ℕ) → Takes shape state entry → entry.made.step ≡ Look (Line line) → (line_of entry.made.found).pair ≢ Some pair
  looked entry line takes step e =
      let on : word_of shape entry.actor entry.made.step ≡ Line line = ap (word_of shape entry.actor) step in
      let there : IsTrue (has_word shape (Line line)) = subst (λ w. IsTrue (has_word shape w)) on (word_there shape entry.actor entry.made.step good takes.can) in
      other pair (are.lines line there pair (sym (ap (λ n. (line_of n).pair) (takes.found ∙ ap (word_in shape state) on)) ∙ e)) refl

  entered : (entry : Entry) (line seen : ℕ) → Takes shape state entry → entry.made.step ≡ LineEnter line seen → ForSome (seat_at (after shape state entry) entry.actor).local.line (λ entered. entered.pair ≢ pair)
  entered entry line seen takes step =
      at_seat shape good state entry sound takes (λ line. ForSome line (λ entered. entered.pair ≢ pair))
      (mine_later shape good state entry sound takes since are (λ entered. entered.pair ≢ pair)
      (λ line one lpi has on is. other one (are.lines line has one (sym (ap (λ n. (line_of n).pair) (takes.found ∙ ap (word_in shape state) on)) ∙ is)))
      (λ one e. other one.pair (are.devices entry.actor takes.actor one e))) entry.actor (λ one e. other one.pair (are.devices entry.actor takes.actor one e))

  missed : IsMissed shape state pair
  missed = record { look = looked; enter = entered; raise = λ actor there one e. other one.pair (are.devices actor there one e) }

pub lines_filled_anew : LinesAreFilledAnew
lines_filled_anew guest number before since moved opens run moves = filled_anew guest number before since moved opens run moves

pub discarded_out : DiscardedStayOut
discarded_out guest number before since done pair opens run discards = record {
  missed = λ none.
      missed guest.shape opens.sound.shape (end_of guest.shape (opening guest number) (before ++ done ∷ since))
      (run_sound guest.shape (opening guest number) (before ++ done ∷ since) opens.sound.shape (opens_sound guest number opens) run) since
      (filled_anew guest number before since done opens run (discard_moves guest number before since done opens run pair done.made.step discards)) pair none;
  unmapped = unmapped guest number before since done opens run pair discards;
}
