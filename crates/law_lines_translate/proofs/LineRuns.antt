-- What the lines say is true in every run.
use Rattle.std.proofs.Common.{◌≡◌, ℕ, ◌<◌, true≢false, IsTrue, List, [], ◌∷◌, sym, ap, subst, ◌∙◌}
use Rattle.std.proofs.lemmas.Option.{none-some}
use Rattle.floor_core.specs.Words.{GuestShape, IsShape, has_bit}
use Rattle.floor_core.specs.Histories.{IdealGuest, CanOpen}
use Rattle.floor_core.specs.Core.{Entry, Line, CoreState, Seat, actor_count, after, end_of, has_word, is_empty_line, line_of, opening, seat_at, word_in, IsRun, IsSound}
use Rattle.floor_core.proofs.PortCore.LineLemmas.{empty_is}
use Rattle.floor_core.proofs.PortCore.OpeningLemmas.{opens_sound, seat_opens, word_opens}
use Rattle.floor_core.proofs.PortCore.StepLemmas.{steps_sound}
use Rattle.floor_core.proofs.PortCore.StepLocals.{no_bit}
use Rattle.law_lines_translate.specs.Lines.{AreTrue, IsClear, LinesAreTrue}
use Rattle.law_lines_translate.proofs.LineSteps.{IsKept, all_empty, nobody, step_keeps}

-- what is kept is what the lines say
are_true : (shape : GuestShape) (state : CoreState) → IsSound shape state → IsKept shape state → AreTrue shape state
are_true shape state sound kept = record {
  inside = λ actor line within there. sound.ties actor (Line line) within there;
  devices = λ line there. (sound.words (Line line) there).inside;
  lines = kept.lines;
  actors = kept.actors;
  shut = λ actor line within there turn bit. clear line there (kept.shut actor line within there bit);
  changed = λ actor within turn changed.
      let all = kept.changed actor within turn changed in
      record { known = all; each = λ line there. clear line there (all_empty shape state sound kept actor within all line there) };
  idle = λ actor within. (sound.locals actor within).idle;
}
  where
    clear : (line : ℕ) → IsTrue (has_word shape (Line line)) → IsTrue (is_empty_line (line_of (word_in shape state (Line line)))) → IsClear shape state line
    clear line there empty = record { pair = (empty_is (line_of (word_in shape state (Line line))) empty).0; nobody = nobody shape state sound line there empty }

-- a run keeps it
run_keeps : (shape : GuestShape) (state : CoreState) (entries : List Entry) → IsShape shape → IsSound shape state → IsKept shape state → IsRun shape state entries → AreTrue shape (end_of shape state entries)
run_keeps shape state [] good sound kept run = are_true shape state sound kept
run_keeps shape state (entry ∷ entries) good sound kept run =
    run_keeps shape (after shape state entry) entries good (steps_sound shape state entry good sound run.0) (step_keeps shape good state entry.actor entry.made sound run.0 kept) run.1

-- a guest opens with empty lines, and nobody is in one
module _ (guest : IdealGuest) (number : ℕ) (good : CanOpen guest) where
  empty_open : (line : ℕ) → IsTrue (has_word guest.shape (Line line)) → word_in guest.shape (opening guest number) (Line line) ≡ 0
  empty_open line there = word_opens guest number (Line line) good there

  -- an actor opens without the ITS
  no_turn : (actor : ℕ) → actor < actor_count guest.shape → IsTrue (seat_at (opening guest number) actor).local.turn → ⊥
  no_turn actor within turn = true≢false (sym turn ∙ ap (λ (s : Seat). s.local.turn) (seat_opens guest number actor within))

  kept_open : IsKept guest.shape (opening guest number)
  kept_open = record {
    lines = λ line there pair e. absurd (none-some pair (sym (ap (λ n. (line_of n).pair) (empty_open line there)) ∙ e));
    actors = λ actor within entered e. absurd (none-some entered (sym (ap (λ (s : Seat). s.local.line) (seat_opens guest number actor within)) ∙ e));
    shut = λ actor line within there bit. absurd (no_bit line (subst (λ (s : Seat). IsTrue (has_bit s.local.shut line)) (seat_opens guest number actor within) bit));
    changed = λ actor within turn changed. absurd (no_turn actor within turn);
    knows = λ actor n within turn e. absurd (no_turn actor within turn);
  }

pub runs_are_true : LinesAreTrue
runs_are_true guest number entries good run = run_keeps guest.shape (opening guest number) entries good.sound.shape (opens_sound guest number good) (kept_open guest number good) run
