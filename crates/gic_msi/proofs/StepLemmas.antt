-- Steps of which nothing is to be seen.
use Rattle.std.proofs.Common.{◌≡◌, ℕ, ◌==◌, ◌&&◌, true, false, IsTrue, List, [], ◌∷◌, ◌++◌, Some, None, is_none, is_some, if◌then◌else◌, refl, ap, ◌∙◌}
use Rattle.std.specs.List.{list_all}
use Rattle.std.specs.Option.{option_to_list}
use Rattle.std.proofs.lemmas.Bool.{eq-eqb}
use Rattle.std.proofs.lemmas.List.Folds.{list_all-append}
use Rattle.gic_msi.specs.Words.{is_number}
use Rattle.gic_msi.specs.Core.{Made, CoreStep, Look, LineEnter, Line, line_of, is_empty_line, with_shut, is_taking, known, place_of_word, left_by, word_done, local_done, event_done, stands_for, succeeds, Seen, AddsStep, made_by, shape_of, part_events}
use Rattle.gic_msi.specs.PortCall.Piece.{takes_none, is_plain, goes_by_known}
use Rattle.gic_msi.specs.DevPort.Device.{GoesUnseen}
use Rattle.gic_msi.specs.Post.{ChangesNothing, leaves_word}
use Rattle.gic_msi.proofs.PortCore.PortLemmas.{adds_join}
use Rattle.gic_msi.proofs.PortCall.PieceLemmas.{piece_one}
use Rattle.gic_msi.proofs.PortCall.SettleLemmas.{handed_none, local_made}
use Rattle.gic_msi.proofs.PortCall.TurnLemmas.{piece_then, events_then, known_by_last}
use Rattle.gic_msi.proofs.DevPort.ItsExec.FrameLemmas.{both}

-- a step that is plain and stands for nothing
pub unseen_step : (old new : Seen) (step : CoreStep) (found : ℕ) (add : AddsStep old new step found) → is_taking step ≡ false → IsTrue (is_plain step) → IsTrue (goes_by_known old step)
    → stands_for (shape_of old) old.actor old.local old.own step found ≡ None → GoesUnseen old new (made_by old step found add.tables ∷ [])
unseen_step old new step found add untaking plain known none =
    record {
      adds = add.adds;
      none_taken = both (is_none add.tables) true (handed_none step found old add.tables untaking add.handed) refl;
      silent = ap (λ o. option_to_list o ++ []) none;
      piece = piece_one old (made_by old step found add.tables) plain known;
    }

pub unseen_then : (old mid new : Seen) (early late : List Made) → GoesUnseen old mid early → GoesUnseen mid new late → GoesUnseen old new (early ++ late)
unseen_then old mid new early late one two =
    record {
      adds = adds_join old mid new early late one.adds two.adds;
      none_taken = list_all-append (λ made. is_none made.tables) early late ∙ both (takes_none early) (takes_none late) one.none_taken two.none_taken;
      silent = events_then old mid early late one.adds ∙ ap (λ events. events ++ part_events mid late) one.silent ∙ two.silent;
      piece = piece_then old mid early late one.adds one.piece two.piece;
    }

-- a step that does not do what it is for stands for nothing
pub failed_none : (seen : Seen) (step : CoreStep) (found : ℕ) → succeeds (shape_of seen) seen.actor seen.local step found ≡ false → stands_for (shape_of seen) seen.actor seen.local seen.own step found ≡ None
failed_none seen step found fails = ap (λ b. if b then event_done (shape_of seen) seen.actor seen.local seen.own step found else None) fails

-- A device's look at a line, and its try to enter it.

pub look_unseen : (old new : Seen) (line found : ℕ) (add : AddsStep old new (Look (Line line)) found) → GoesUnseen old new (made_by old (Look (Line line)) found add.tables ∷ [])
look_unseen old new line found add = unseen_step old new (Look (Line line)) found add refl refl refl refl

pub look_changes_nothing : (old new : Seen) (line found : ℕ) (add : AddsStep old new (Look (Line line)) found) → old.local.turn ≡ false → ChangesNothing old new (made_by old (Look (Line line)) found add.tables ∷ [])
look_changes_nothing old new line found add without =
    record {
      unseen = look_unseen old new line found add;
      words = both (found == found) true (eq-eqb found found refl) refl;
      local_is = local_made old new (Look (Line line)) found add ∙ ap (λ b. if b && is_empty_line (line_of found) then with_shut line old.local else old.local) without;
    }

-- the word that the device looked at is the one that it knows
pub goes_by_look : (old mid : Seen) (line seen : ℕ) → AddsStep old mid (Look (Line line)) seen → IsTrue (goes_by_known mid (LineEnter line seen))
goes_by_look old mid line seen add =
    let made = made_by old (Look (Line line)) seen add.tables in
    let place = place_of_word (shape_of old) (Line line) in
    let is : known (shape_of old) old.actor (old.own ++ made ∷ []) (Line line) ≡ Some seen
    = known_by_last (shape_of old) old.actor old.own made (Line line) (eq-eqb place place refl) in
    ap (λ told. goes_by_known told (LineEnter line seen)) add.adds.new_is ∙ ap (is_number seen) is ∙ eq-eqb seen seen refl

pub enter_misses : (old new : Seen) (line seen found : ℕ) (add : AddsStep old new (LineEnter line seen) found) → (found == seen) ≡ false → IsTrue (goes_by_known old (LineEnter line seen))
    → ChangesNothing old new (made_by old (LineEnter line seen) found add.tables ∷ [])
enter_misses old new line seen found add other known =
    let fails : succeeds (shape_of old) old.actor old.local (LineEnter line seen) found ≡ false = ap (λ b. b && is_some (line_of found).pair) other in
    record {
      unseen = unseen_step old new (LineEnter line seen) found add refl refl known (failed_none old (LineEnter line seen) found fails);
      words = both (left_by old (LineEnter line seen) found == found) true (eq-eqb (left_by old (LineEnter line seen) found) found (left fails)) refl;
      local_is = local_made old new (LineEnter line seen) found add ∙ ap (λ b. if b then local_done (shape_of old) old.actor old.local (LineEnter line seen) found else old.local) fails;
    }
  where
    left : succeeds (shape_of old) old.actor old.local (LineEnter line seen) found ≡ false → left_by old (LineEnter line seen) found ≡ found
    left e = ap (λ b. if b then word_done (shape_of old) old.actor old.local (LineEnter line seen) found else found) e

pub nothing_then : (old mid new : Seen) (early late : List Made) → ChangesNothing old mid early → ChangesNothing mid new late → ChangesNothing old new (early ++ late)
nothing_then old mid new early late one two =
    record {
      unseen = unseen_then old mid new early late one.unseen two.unseen;
      words = list_all-append leaves_word early late ∙ both (list_all leaves_word early) (list_all leaves_word late) one.words two.words;
      local_is = two.local_is ∙ one.local_is;
    }
