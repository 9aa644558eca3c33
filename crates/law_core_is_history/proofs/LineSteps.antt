-- Steps on the words of lines: they stand for nothing, and change nothing of what the ideal controller has.
use Rattle.std.proofs.Common.{◌≡◌, ℕ, ◌==◌, ◌&&◌, true≢false, Bool, true, false, List, Option, None, if◌then◌else◌, refl, sym, ap, subst}
use Rattle.law_lines_translate.specs.Words.{GuestShape}
use Rattle.law_lines_translate.specs.Calls.{Happened}
use Rattle.law_lines_translate.specs.Registers.{Maps}
use Rattle.law_lines_translate.specs.Histories.{Ideal}
use Rattle.law_lines_translate.specs.Core.{Local, Entered, Made, CoreStep, Look, LineEnter, LineLeave, LineFill, LineClose, Line, after, entered_line, event_done, is_empty_line, line_of, local_after, local_done, maps_by_step, seat_at, stands_for, succeeds, with_shut, without_shut, word_of, CoreState}
use Rattle.law_core_is_history.specs.Related.{Related, WordSays, is_folding, locals_of}
use Rattle.law_core_is_history.specs.Simulates.{IsSimulated, IsSimulatedAs}
use Rattle.law_core_is_history.proofs.RelatedLemmas.{quiet}
use Rattle.law_core_is_history.proofs.StepContext.{one, IsStep, has, seat_same}

-- a step is on a line's word
abbrev pub is_on_line : CoreStep → Bool
is_on_line (Look (Line line)) = true
is_on_line (LineEnter line seen) = true
is_on_line (LineLeave line) = true
is_on_line (LineFill line device event lpi) = true
is_on_line (LineClose line) = true
is_on_line step = false

either : {X : Type 0} (part : Local → X) (b : Bool) (x y : Local) → part x ≡ part y → part (if b then x else y) ≡ part y
either part true x y e = e
either part false x y e = refl

-- it changes nothing of its actor but the line that the actor is in and those that it knows to be shut
pub line_done :
    (shape : GuestShape) (actor found : ℕ) (before : Local) {X : Type 0} (part : Local → X) → ((local : Local) (line : Option Entered) (shut : ℕ) → part (record local { line = line; shut = shut }) ≡ part local) → (step : CoreStep) → is_on_line step ≡ true
    → part (local_done shape actor before step found) ≡ part before
line_done shape actor found before part same (Look (Line line)) e = either part (before.turn && is_empty_line (line_of found)) (with_shut line before) before (same before before.line (with_shut line before).shut)
line_done shape actor found before part same (LineEnter line seen) e = same before (entered_line line (line_of found) before).line before.shut
line_done shape actor found before part same (LineLeave line) e = same before None before.shut
line_done shape actor found before part same (LineFill line device event lpi) e = same before before.line (without_shut line before).shut
line_done shape actor found before part same (LineClose line) e = either part ((line_of found).inside == 0) (with_shut line before) before (same before before.line (with_shut line before).shut)
line_done shape actor found before part same step e = absurd (true≢false (sym e))

pub line_part :
    (shape : GuestShape) (actor found : ℕ) (before : Local) {X : Type 0} (part : Local → X) → ((local : Local) (line : Option Entered) (shut : ℕ) → part (record local { line = line; shut = shut }) ≡ part local) → (step : CoreStep) → is_on_line step ≡ true
    → part (local_after shape actor before step found) ≡ part before
line_part shape actor found before part same step e = either part (succeeds shape actor before step found) (local_done shape actor before step found) before (line_done shape actor found before part same step e)

-- and stands for nothing
none_either : (b : Bool) (o : Option Happened) → o ≡ None → (if b then o else None) ≡ None
none_either true o e = e
none_either false o e = refl

none_done : (shape : GuestShape) (actor : ℕ) (local : Local) (own : List Made) (step : CoreStep) (found : ℕ) → is_on_line step ≡ true → event_done shape actor local own step found ≡ None
none_done shape actor local own (Look (Line line)) found e = refl
none_done shape actor local own (LineEnter line seen) found e = refl
none_done shape actor local own (LineLeave line) found e = refl
none_done shape actor local own (LineFill line device event lpi) found e = refl
none_done shape actor local own (LineClose line) found e = refl
none_done shape actor local own step found e = absurd (true≢false (sym e))

pub line_silent : (shape : GuestShape) (actor : ℕ) (local : Local) (own : List Made) (step : CoreStep) (found : ℕ) → is_on_line step ≡ true → stands_for shape actor local own step found ≡ None
line_silent shape actor local own step found e = none_either (succeeds shape actor local step found) (event_done shape actor local own step found) (none_done shape actor local own step found e)

module _ {shape : GuestShape} {state : CoreState} {ideal : Ideal} {actor found left : ℕ} {tables : Option Maps} where
  pub simulates_on_line :
      (step : CoreStep) (line : ℕ) → is_on_line step ≡ true → word_of shape actor step ≡ Line line → maps_by_step state.maps step ≡ state.maps → IsStep shape state ideal actor step found left tables → IsSimulated shape state ideal (one actor step found left tables)
  simulates_on_line step line e on maps is =
      let local = locals_of state actor in
      let after = local_after shape actor local step found in
      subst (IsSimulatedAs shape (after_step step left tables) ideal actor) (sym (line_silent shape actor local (seat_at state actor).own step found e))
      (subst (λ m. Related shape (record (after_step step left tables) { maps = m }) ideal) (sym maps)
      (quiet shape state ideal actor _ (word_of shape actor step) left is.good is.sound is.related is.takes.actor (has is)
      (record {
        says = subst (λ w. WordSays shape (locals_of state) ideal w left) (sym on) tt;
        at = line_part shape actor found local (λ l. l.at) (λ l n s. refl) step e;
        mine = λ there.
            seat_same local after (line_part shape actor found local (λ l. l.at) (λ l n s. refl) step e) (line_part shape actor found local (λ l. l.cpu) (λ l n s. refl) step e) (ap is_folding (line_part shape actor found local (λ l. l.phase) (λ l n s. refl) step e))
            (is.related.seats actor there);
      })))
    where
      after_step : CoreStep → ℕ → Option Maps → CoreState
      after_step step left tables = after shape state (one actor step found left tables)
