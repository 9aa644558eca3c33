-- A worked part closes the translation lines: each is empty, and stays so.
use Rattle.std.proofs.Common.{◌≡◌, ℕ, ◌<◌, ◌==◌, ◌&&◌, Bool, IsTrue, List, [], ◌∷◌, ◌++◌, map, length, None, slice_index_or, slice_set, refl, sym, ap, subst, ◌∙◌}
use Rattle.std.specs.List.{list_all}
use Rattle.std.proofs.lemmas.Bool.{and_parts, eqb-true}
use Rattle.std.proofs.lemmas.List.{get_or-set_same, length-set, set-get_or}
use Rattle.law_unmapped_lpis.specs.Words.{GuestShape}
use Rattle.pe_mem.specs.Core.{Entry, Line, CoreState, IsRun, Seat, actor_count, after, end_of, entry_by, has_word, no_seat, place_of_word, seat_at, word_in}
use Rattle.law_found_parts_are_calls.specs.WorkedCommand.{closes}

abbrev pub closing : ℕ → Entry
closing line = entry_by 0 (closes line)

-- a line of the guest is empty
abbrev is_clear : GuestShape → List ℕ → ℕ → Bool
is_clear shape words line = has_word shape (Line line) && slice_index_or words (place_of_word shape (Line line)) 0 == 0

-- vCPU 0 has the ITS, and these lines are empty
pub record CanClose (shape : GuestShape) (state : CoreState) (lines : List ℕ) : Type 0 where
  pub seats : 0 < length state.seats
  pub turn : IsTrue (seat_at state 0).local.turn
  pub clear : IsTrue (list_all (is_clear shape state.words) lines)

-- it closes them, one after the other
pub close_run : (shape : GuestShape) → 0 < actor_count shape → (lines : List ℕ) (state : CoreState) (rest : List Entry) → CanClose shape state lines → IsRun shape (end_of shape state (map closing lines)) rest → IsRun shape state (map closing lines ++ rest)
close_run shape there [] state rest can run = run
close_run shape there (line ∷ lines) state rest can run =
    (record { actor = there; can = here.0; meets = can.turn; found = sym empty; left = refl; tables = refl }, close_run shape there lines (after shape state (closing line)) rest (record { seats = seats; turn = turn; clear = clear }) run)
  where
    parts : IsTrue (is_clear shape state.words line) × IsTrue (list_all (is_clear shape state.words) lines)
    parts = and_parts (is_clear shape state.words line) (list_all (is_clear shape state.words) lines) can.clear

    here : IsTrue (has_word shape (Line line)) × IsTrue (slice_index_or state.words (place_of_word shape (Line line)) 0 == 0)
    here = and_parts (has_word shape (Line line)) (slice_index_or state.words (place_of_word shape (Line line)) 0 == 0) parts.0

    empty : word_in shape state (Line line) ≡ 0
    empty = eqb-true (word_in shape state (Line line)) 0 here.1

    words_same : slice_set state.words (place_of_word shape (Line line)) 0 ≡ state.words
    words_same = ap (slice_set state.words (place_of_word shape (Line line))) (sym empty) ∙ set-get_or state.words (place_of_word shape (Line line)) 0

    seats : 0 < length (after shape state (closing line)).seats
    seats = subst (λ n. 0 < n) (sym (length-set state.seats 0 _)) can.seats

    turn : IsTrue (seat_at (after shape state (closing line)) 0).local.turn
    turn = ap (λ (s : Seat). s.local.turn) (get_or-set_same state.seats 0 _ no_seat can.seats) ∙ can.turn

    clear : IsTrue (list_all (is_clear shape (after shape state (closing line)).words) lines)
    clear = subst (λ words. IsTrue (list_all (is_clear shape words) lines)) (sym words_same) parts.1
