-- Every step keeps that each message was stored by one of the steps so far; and none is left by a step after which messages may become other LPIs.
use Rattle.std.proofs.Common.{◌≡◌, ℕ, ◌<◌, ◌==◌, ◌||◌, inl, inr, true≢false, Bool, true, false, IsTrue, List, [], ◌∷◌, ◌++◌, Option, Some, length, refl, sym, ap, subst, ◌∙◌, arith}
use Rattle.std.specs.Option.{ForSome, option_map_or}
use Rattle.std.proofs.lemmas.Bool.{eq-eqb, lt-ltb}
use Rattle.std.proofs.lemmas.List.Folds.{list_any-append}
use Rattle.std.proofs.lemmas.Option.{none-some}
use Rattle.law_lines_translate.specs.Words.{GuestShape, IsShape}
use Rattle.law_lines_translate.specs.Core.{CoreStep, RamPut, CommandDone, Line, Entry, Entered, CoreState, Meets, Seat, actor_count, after, has_all_shut, has_word, line_count, line_of, local_after, seat_at, word_after, word_in, word_of, IsSound, IsLineWord, IsValid, Takes}
use Rattle.law_lines_translate.specs.Lines.{AreTrue, IsClear}
use Rattle.law_lines_translate.proofs.OwnSteps.{line_same, moves_lines, own_line}
use Rattle.law_lines_translate.proofs.SetLemmas.{all_have, knows_some}
use Rattle.law_lines_translate.proofs.PortCore.FrameLemmas.{seat_changed, word_changed}
use Rattle.law_lines_translate.proofs.PortCore.StepLemmas.{found_valid, word_there}
use Rattle.law_lines_translate.proofs.PortCore.StepLines.{few_lines}
use Rattle.law_discarded_stay_out.specs.StayOut.{AreStoredIn, is_stored, is_stored_in, may_retranslate}
use Rattle.law_discarded_stay_out.proofs.LineWords.{had_or_stores}

-- what some steps stored, they and one more stored
or_first : (a b : Bool) → IsTrue a → IsTrue (a || b)
or_first true b h = refl
or_first false b h = absurd (true≢false (sym h))

or_second : (a b : Bool) → IsTrue b → IsTrue (a || (b || false))
or_second true b h = refl
or_second false true h = refl
or_second false false h = absurd (true≢false (sym h))

pub stored_more : (pair : ℕ × ℕ) (since : List Entry) (entry : Entry) → is_stored_in pair (since ++ entry ∷ []) ≡ (is_stored_in pair since || (is_stored pair entry.made || false))
stored_more pair since entry = list_any-append (λ (one : Entry). is_stored pair one.made) since (entry ∷ [])

module _ (shape : GuestShape) (good : IsShape shape) (state : CoreState) (entry : Entry) (sound : IsSound shape state) (takes : Takes shape state entry) where
  abbrev later : CoreState
  later = after shape state entry

  here : IsTrue (has_word shape (word_of shape entry.actor entry.made.step))
  here = word_there shape entry.actor entry.made.step good takes.can

  within : entry.actor < length state.seats
  within = subst (λ n. entry.actor < n) (sym sound.actors) takes.actor

  -- a line's word is the one that the step left, or as it was
  at_line : (line : ℕ) → IsTrue (has_word shape (Line line)) → (P : ℕ → Type 0) → (word_of shape entry.actor entry.made.step ≡ Line line → P (word_after shape entry.actor (seat_at state entry.actor).local entry.made.step entry.made.found))
      → P (word_in shape state (Line line)) → P (word_in shape later (Line line))
  at_line line there P on off = word_changed shape state.words (word_of shape entry.actor entry.made.step) (Line line) entry.made.left (λ w n. w ≡ Line line → P n) good sound.places here there (λ e. subst P (sym takes.left) (on e)) (λ differ e. off) refl

  -- what an actor has of lines is what the step left it, or as it was
  pub at_seat : (P : Option Entered → Type 0) → P (local_after shape entry.actor (seat_at state entry.actor).local entry.made.step entry.made.found).line → (other : ℕ) → P (seat_at state other).local.line → P (seat_at later other).local.line
  at_seat P mine other before = seat_changed state.seats entry.actor other _ (λ n (seat : Seat). P seat.local.line) within mine (λ differ. before)

  module _ (since : List Entry) (are : AreStoredIn shape state since) where
    found_line : (line : ℕ) → word_of shape entry.actor entry.made.step ≡ Line line → entry.made.found ≡ word_in shape state (Line line)
    found_line line on = takes.found ∙ ap (word_in shape state) on

    valid_line : (line : ℕ) → word_of shape entry.actor entry.made.step ≡ Line line → IsLineWord shape entry.made.found
    valid_line line on = subst (λ w. IsValid shape w entry.made.found) on (found_valid shape state entry good sound takes).valid

    kept : (pair : ℕ × ℕ) → IsTrue (is_stored_in pair since) → IsTrue (is_stored_in pair (since ++ entry ∷ []))
    kept pair h = stored_more pair since entry ∙ or_first (is_stored_in pair since) (is_stored pair entry.made || false) h

    found_stored : (line : ℕ) → IsTrue (has_word shape (Line line)) → word_of shape entry.actor entry.made.step ≡ Line line → (pair : ℕ × ℕ) → (line_of entry.made.found).pair ≡ Some pair → IsTrue (is_stored_in pair since)
    found_stored line there on pair e = are.lines line there pair (sym (ap (λ n. (line_of n).pair) (found_line line on)) ∙ e)

    lines_later : (line : ℕ) → IsTrue (has_word shape (Line line)) → ForSome (line_of (word_in shape later (Line line))).pair (λ pair. IsTrue (is_stored_in pair (since ++ entry ∷ [])))
    lines_later line there = at_line line there (λ n. ForSome (line_of n).pair (λ pair. IsTrue (is_stored_in pair (since ++ entry ∷ [])))) left (λ pair e. kept pair (are.lines line there pair e))
      where
        left : word_of shape entry.actor entry.made.step ≡ Line line → ForSome (line_of (word_after shape entry.actor (seat_at state entry.actor).local entry.made.step entry.made.found)).pair (λ pair. IsTrue (is_stored_in pair (since ++ entry ∷ [])))
        left on pair e = elim (had_or_stores shape good entry.actor takes.actor (seat_at state entry.actor).local (seat_at state entry.actor).own entry.made.found (valid_line line on) entry.made.step line takes.can takes.meets on pair e) [
          | inl had ↦ kept pair (found_stored line there on pair had)
          | inr now ↦ stored_more pair since entry ∙ or_second (is_stored_in pair since) (is_stored pair entry.made) now
        ]

    -- what is true of the message with which a device gets into a line is true of the message of a device that is in one
    pub mine_later : (P : Entered → Type 0) → ((line : ℕ) (pair : ℕ × ℕ) (lpi : ℕ) → IsTrue (has_word shape (Line line)) → word_of shape entry.actor entry.made.step ≡ Line line → (line_of entry.made.found).pair ≡ Some pair → P (record { line = line; pair = pair; lpi = lpi }))
        → ForSome (seat_at state entry.actor).local.line P → ForSome (local_after shape entry.actor (seat_at state entry.actor).local entry.made.step entry.made.found).line P
    mine_later P enters before =
        own_line shape entry.actor (seat_at state entry.actor).local entry.made.found P entry.made.step
        (λ line seen pair step is.
        let on : word_of shape entry.actor entry.made.step ≡ Line line = ap (word_of shape entry.actor) step in
        enters line pair (line_of entry.made.found).lpi (subst (λ w. IsTrue (has_word shape w)) on here) on is) before

    devices_later : (actor : ℕ) → actor < actor_count shape → ForSome (seat_at later actor).local.line (λ entered. IsTrue (is_stored_in entered.pair (since ++ entry ∷ [])))
    devices_later actor there =
        at_seat (λ line. ForSome line (λ entered. IsTrue (is_stored_in entered.pair (since ++ entry ∷ []))))
        (mine_later (λ entered. IsTrue (is_stored_in entered.pair (since ++ entry ∷ []))) (λ line pair lpi has on is. kept pair (found_stored line has on pair is)) (λ entered e. kept entered.pair (are.devices entry.actor takes.actor entered e))) actor
        (λ entered e. kept entered.pair (are.devices actor there entered e))

    pub step_stores : AreStoredIn shape later (since ++ entry ∷ [])
    step_stores = record { lines = lines_later; devices = devices_later }

  -- Where messages may become other LPIs by the step, its actor knows all lines to be shut: nobody is in one, and none has a message.
  module _ (lines : AreTrue shape state) (moved : IsTrue (may_retranslate shape entry.made.step)) where
    all_shut : IsTrue (has_all_shut (seat_at state entry.actor).local)
    all_shut = of entry.made.step moved takes.meets
      where
        of : (step : CoreStep) → IsTrue (may_retranslate shape step) → Meets shape entry.actor (seat_at state entry.actor).local (seat_at state entry.actor).own step → IsTrue (has_all_shut (seat_at state entry.actor).local)
        of (CommandDone offset stalled ending) moved meets = meets.lines
        of (RamPut index seen value) moved meets = meets.lines moved
        of step moved meets = absurd (true≢false (sym moved))

    turn : IsTrue (seat_at state entry.actor).local.turn
    turn = knows_some (seat_at state entry.actor).local 0 (lines.idle entry.actor takes.actor) (all_have (seat_at state entry.actor).local 0 all_shut (omega arith))

    clear : (line : ℕ) → IsTrue (has_word shape (Line line)) → IsClear shape state line
    clear line there = lines.shut entry.actor line takes.actor there turn (all_have (seat_at state entry.actor).local line all_shut (few_lines shape line there))

    nobody : (actor : ℕ) → actor < actor_count shape → (entered : Entered) → (seat_at state actor).local.line ≡ Some entered → ⊥
    nobody actor there entered e =
        let has : IsTrue (has_word shape (Line entered.line)) = lt-ltb entered.line (line_count shape) ((sound.locals actor there).line entered e).there in
        true≢false (sym (ap (λ o. option_map_or (λ (x : Entered). x.line == entered.line) o false) e ∙ eq-eqb entered.line entered.line refl) ∙ (clear entered.line has).nobody actor there)

    -- and the step is on no line
    still : moves_lines entry.made.step ≡ false
    still = of entry.made.step moved
      where
        of : (step : CoreStep) → IsTrue (may_retranslate shape step) → moves_lines step ≡ false
        of (CommandDone offset stalled ending) moved = refl
        of (RamPut index seen value) moved = refl
        of step moved = absurd (true≢false (sym moved))

    apart : (line : ℕ) → word_of shape entry.actor entry.made.step ≡ Line line → ⊥
    apart line on = of entry.made.step moved on
      where
        of : (step : CoreStep) → IsTrue (may_retranslate shape step) → word_of shape entry.actor step ≡ Line line → ⊥
        of (CommandDone offset stalled ending) moved on = absurd (cc)
        of (RamPut index seen value) moved on = absurd (cc)
        of step moved on = absurd (true≢false (sym moved))

    pub clears : AreStoredIn shape later []
    clears = record {
      lines = λ line there.
          at_line line there (λ n. ForSome (line_of n).pair (λ pair. IsTrue (is_stored_in pair []))) (λ on. absurd (apart line on)) (λ pair e. absurd (none-some pair (sym (clear line there).pair ∙ e)));
      devices = λ actor there.
          at_seat (λ line. ForSome line (λ entered. IsTrue (is_stored_in entered.pair [])))
          (λ entered e. absurd (nobody entry.actor takes.actor entered (sym (line_same shape entry.actor (seat_at state entry.actor).local entry.made.step entry.made.found still) ∙ e))) actor
          (λ entered e. absurd (nobody actor there entered e));
    }
