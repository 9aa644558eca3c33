-- The worked run: each of its conditions computes.
use Rattle.std.proofs.Common.{ℕ, ◌<◌, ◌==◌, ◌&&◌, Bool, true, IsTrue, List, [], ◌∷◌, ◌++◌, map, nat_lt, None, All, refl, lit<}
use Rattle.std.specs.List.{range_with_len}
use Rattle.std.proofs.lemmas.Bool.{and_parts, eqb-true}
use Rattle.std.proofs.lemmas.List.Sums.{AllPass-from_list_all}
use Rattle.law_lines_translate.specs.Calls.{Cbaser, command_places}
use Rattle.law_lines_translate.specs.GicCall.declared.event.Place.TheVariants.{Queue as QueuePlace, Word}
use Rattle.law_lines_translate.specs.Core.{CoreState, Entry, Line, Made, actor_count, after, end_of, is_known, known_view, line_of, opening, packed_line, seat_at, word_in, IsRun}
use Rattle.law_lines_translate.proofs.PortCore.RunLemmas.{runs_joined}
use Rattle.law_discarded_stay_out.specs.Worked.{WorkedDiscard, close, discard_guest, done, early, fetch, fill, forget, late, post, takes_its, vcpu_turn}
use Rattle.law_discarded_stay_out.proofs.WorkedGuest.{guest_good}

vcpu_there : 0 < actor_count discard_guest.shape
vcpu_there = lit< tt

device_there : 1 < actor_count discard_guest.shape
device_there = lit< tt

-- The lines are closed one after the other.

abbrev may_close : CoreState → ℕ → Bool
may_close state line =
    nat_lt line 64
    && ((seat_at state 0).local.turn
    && ((close line).made.found == word_in discard_guest.shape state (Line line) && 0 == packed_line (record { pair = None; lpi = 8192; inside = (line_of (close line).made.found).inside })))

abbrev may_close_all : CoreState → List ℕ → Bool
may_close_all state [] = true
may_close_all state (line ∷ lines) = may_close state line && may_close_all (after discard_guest.shape state (close line)) lines

closes : (state : CoreState) (lines : List ℕ) → IsTrue (may_close_all state lines) → IsRun discard_guest.shape state (map close lines)
closes state [] h = tt
closes state (line ∷ lines) h =
    let all = and_parts (may_close state line) (may_close_all (after discard_guest.shape state (close line)) lines) h in
    let there = and_parts (nat_lt line 64) _ all.0 in
    let turn = and_parts (seat_at state 0).local.turn _ there.1 in
    let words = and_parts ((close line).made.found == word_in discard_guest.shape state (Line line)) _ turn.1 in (
      record {
        actor = vcpu_there;
        can = there.0;
        meets = turn.0;
        found = eqb-true (close line).made.found (word_in discard_guest.shape state (Line line)) words.0;
        left = eqb-true 0 (packed_line (record { pair = None; lpi = 8192; inside = (line_of (close line).made.found).inside })) words.1;
        tables = refl;
      },
      closes (after discard_guest.shape state (close line)) lines all.1,
    )

-- What is before that, and after.

abbrev first : List Entry
first = fill ++ post ++ takes_its 0 vcpu_turn ∷ []

abbrev sweep : List Entry
sweep = map close (range_with_len 0 64)

abbrev rest : List Entry
rest = fetch ++ forget ++ done ∷ late

abbrev opened : CoreState
opened = opening discard_guest 0

abbrev begun : CoreState
begun = end_of discard_guest.shape opened first

abbrev closed : CoreState
closed = end_of discard_guest.shape begun sweep

pub first_is_run : IsRun discard_guest.shape opened first
first_is_run = (
  record { actor = device_there; can = tt; meets = tt; found = refl; left = refl; tables = refl },
  (
    record { actor = device_there; can = lit< tt; meets = tt; found = refl; left = refl; tables = refl },
    (
      record { actor = device_there; can = record { there = refl; device_fits = lit< tt; event_fits = lit< tt; lpi_there = refl }; meets = record { turn = refl; some_open = refl; looked = refl; translates = refl }; found = refl; left = refl; tables = refl },
      (
        record { actor = device_there; can = tt; meets = refl; found = refl; left = refl; tables = refl },
        (
          record { actor = device_there; can = refl; meets = tt; found = refl; left = refl; tables = refl },
          (
            record { actor = device_there; can = refl; meets = refl; found = refl; left = refl; tables = refl },
            (
              record { actor = device_there; can = refl; meets = refl; found = refl; left = refl; tables = refl },
              (
                record { actor = device_there; can = refl; meets = tt; found = refl; left = refl; tables = refl },
                (
                  record { actor = device_there; can = lit< tt; meets = refl; found = refl; left = refl; tables = refl },
                  (
                    record { actor = device_there; can = refl; meets = refl; found = refl; left = refl; tables = refl },
                    (
                      record { actor = vcpu_there; can = tt; meets = tt; found = refl; left = refl; tables = refl },
                      tt,
                    ),
                  ),
                ),
              ),
            ),
          ),
        ),
      ),
    ),
  ),
)

pub sweep_is_run : IsRun discard_guest.shape begun sweep
sweep_is_run = closes begun (range_with_len 0 64) refl

abbrev own : List Made
own = (seat_at (end_of discard_guest.shape closed (fetch ++ forget)) 0).own

fetched : All (λ place. IsTrue (is_known discard_guest.shape 0 own place)) (QueuePlace ∷ Word Cbaser ∷ command_places discard_guest.shape (known_view discard_guest.shape 0 own))
fetched = AllPass-from_list_all (is_known discard_guest.shape 0 own) (QueuePlace ∷ Word Cbaser ∷ command_places discard_guest.shape (known_view discard_guest.shape 0 own)) refl

pub rest_is_run : IsRun discard_guest.shape closed rest
rest_is_run = (
  record { actor = vcpu_there; can = lit< tt; meets = tt; found = refl; left = refl; tables = refl },
  (
    record { actor = vcpu_there; can = lit< tt; meets = tt; found = refl; left = refl; tables = refl },
    (
      record { actor = vcpu_there; can = lit< tt; meets = tt; found = refl; left = refl; tables = refl },
      (
        record { actor = vcpu_there; can = lit< tt; meets = tt; found = refl; left = refl; tables = refl },
        (
          record { actor = vcpu_there; can = lit< tt; meets = tt; found = refl; left = refl; tables = refl },
          (
            record { actor = vcpu_there; can = record { there = refl; fits = refl }; meets = record { empty = refl; marks = refl; lines = λ e. refl }; found = refl; left = refl; tables = refl },
            (
              record { actor = vcpu_there; can = refl; meets = tt; found = refl; left = refl; tables = refl },
              (
                record { actor = vcpu_there; can = lit< tt; meets = refl; found = refl; left = refl; tables = refl },
                (
                  record { actor = vcpu_there; can = (record { place = refl; within = lit< tt }, (refl, refl)); meets = record { turn = refl; kicks = refl; lines = refl; queue = record { fetched = fetched; ends = refl } }; found = refl; left = refl; tables = refl },
                  (
                    record { actor = vcpu_there; can = tt; meets = refl; found = refl; left = refl; tables = refl },
                    (
                      record { actor = device_there; can = refl; meets = tt; found = refl; left = refl; tables = refl },
                      tt,
                    ),
                  ),
                ),
              ),
            ),
          ),
        ),
      ),
    ),
  ),
)

pub run : IsRun discard_guest.shape opened (early ++ done ∷ late)
run = runs_joined.is_run discard_guest.shape opened first (sweep ++ rest) first_is_run (runs_joined.is_run discard_guest.shape begun sweep rest sweep_is_run rest_is_run)

pub worked_discard : WorkedDiscard
worked_discard = record { good = guest_good; run = run; discards = refl; stored = refl; found = refl; not_stored = refl; missed = refl }
