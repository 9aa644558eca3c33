-- The lines are shut, one after the other.
use Rattle.std.proofs.Common.{◌≡◌, ℕ, ◌+◌, ◌-◌, ◌^◌, ◌<◌, ◌==◌, ◌&&◌, not, Bool, true, false, if◌then◌else◌, IsTrue, List, [], ◌∷◌, ◌++◌, is_none, bit_or, inl, inr, refl, sym, ap, subst, ◌∙◌, arith}
use Rattle.std.specs.List.{list_all}
use Rattle.std.specs.Int.{bit_at}
use Rattle.std.proofs.lemmas.Bool.{and_parts, eqb-true, ne_eqb, cases_eq, lt-ltb}
use Rattle.std.proofs.lemmas.List.Folds.{list_all-append}
use Rattle.std.proofs.lemmas.Nat.Bits.{bit_at_ones, same_from_bits_below}
use Rattle.port_call.specs.Words.{GuestShape, Lpi, has_bit, has_interrupt}
use Rattle.port_call.specs.Calls.{plain_count}
use Rattle.port_call.specs.Registers.{has_lpis}
use Rattle.port_call.specs.Core.{Local, Made, CoreStep, Look, LineClose, Irq, Vcpu, Index, Queue, Ctlr, Plain, Line, ends_command, place_of_word, plain_from, word_of, line_of, is_empty_line, line_count, with_shut, Seen, IsPort, AddsStep, CanMake, made_by, shape_of, part_events}
use Rattle.port_call.proofs.PortCore.LineLemmas.{with_self, with_other}
use Rattle.port_call.proofs.PortCore.PlaceLemmas.{lines_hold}
use Rattle.port_call.proofs.PortCore.PortLemmas.{adds_join}
use Rattle.port_call.specs.Piece.{takes_none}
use Rattle.port_call.proofs.PieceLemmas.{piece_nil, piece_one, seen_nil}
use Rattle.port_call.proofs.SettleLemmas.{handed_none, local_made}
use Rattle.port_call.proofs.TurnLemmas.{piece_then, events_then}
use Rattle.its_exec.specs.Shut.{is_shut_step, OnLines, ShutsLine, LeavesLine, LooksAtLine, ShutsAll}
use Rattle.its_exec.specs.Known.{are_within}
use Rattle.its_exec.specs.Plan.{IsFresh}
use Rattle.its_exec.proofs.FrameLemmas.{both, within_by, keeps_its, still_reading, off_each, untouched_on}
use Rattle.its_exec.proofs.LookLemmas.{lpi_place}

-- Steps on lines.

pub on_none : (seen : Seen) → OnLines seen seen
on_none seen = record { part = []; adds = record { new_is = sym (seen_nil seen) }; steps = refl; none_taken = refl; silent = refl; piece = piece_nil seen }

pub on_then : (old mid new : Seen) → OnLines old mid → OnLines mid new → OnLines old new
on_then old mid new one two =
    record {
      part = one.part ++ two.part;
      adds = adds_join old mid new one.part two.part one.adds two.adds;
      steps = list_all-append (λ made. is_shut_step made.step) one.part two.part ∙ both (list_all (λ made. is_shut_step made.step) one.part) (list_all (λ made. is_shut_step made.step) two.part) one.steps two.steps;
      none_taken = list_all-append (λ made. is_none made.tables) one.part two.part ∙ both (takes_none one.part) (takes_none two.part) one.none_taken two.none_taken;
      silent = events_then old mid one.part two.part one.adds ∙ ap (λ events. events ++ part_events mid two.part) one.silent ∙ two.silent;
      piece = piece_then old mid one.part two.part one.adds one.piece two.piece;
    }

close_on : (old new : Seen) (line found : ℕ) → AddsStep old new (LineClose line) found → OnLines old new
close_on old new line found add =
    let made = made_by old (LineClose line) found add.tables in
    record {
      part = made ∷ [];
      adds = add.adds;
      steps = refl;
      none_taken = both (is_none add.tables) true (handed_none (LineClose line) found old add.tables refl add.handed) refl;
      silent = refl;
      piece = piece_one old made refl refl;
    }

look_on : (old new : Seen) (line found : ℕ) → AddsStep old new (Look (Line line)) found → OnLines old new
look_on old new line found add =
    let made = made_by old (Look (Line line)) found add.tables in
    record {
      part = made ∷ [];
      adds = add.adds;
      steps = refl;
      none_taken = both (is_none add.tables) true (handed_none (Look (Line line)) found old add.tables refl add.handed) refl;
      silent = refl;
      piece = piece_one old made refl refl;
    }

-- What they leave.

pub can_close : (seen : Seen) (line : ℕ) → IsTrue seen.local.turn → line < line_count (shape_of seen) → CanMake seen (LineClose line)
can_close seen line turn there = record { can = lt-ltb line (line_count (shape_of seen)) there; seen_is = tt; meets = turn; tables = refl }

pub can_look : (seen : Seen) (line : ℕ) → line < line_count (shape_of seen) → CanMake seen (Look (Line line))
can_look seen line there = record { can = lt-ltb line (line_count (shape_of seen)) there; seen_is = tt; meets = tt; tables = refl }

-- the line was closed, and no device was in it, or one was
pub closed_shut : (old new : Seen) (line found : ℕ) → (line_of found).inside ≡ 0 → AddsStep old new (LineClose line) found → ShutsLine old new line
closed_shut old new line found none add =
    record { on = close_on old new line found add; local_is = local_made old new (LineClose line) found add ∙ ap (λ n. if n == 0 then with_shut line old.local else old.local) none }

pub closed_left : (old new : Seen) (line found : ℕ) → ((line_of found).inside == 0) ≡ false → AddsStep old new (LineClose line) found → LeavesLine old new
closed_left old new line found some add =
    record { on = close_on old new line found add; local_is = local_made old new (LineClose line) found add ∙ ap (λ b. if b then with_shut line old.local else old.local) some }

pub looked_at_line : (old new : Seen) (line found : ℕ) (empty : Bool) → IsTrue old.local.turn → empty ≡ is_empty_line (line_of found) → AddsStep old new (Look (Line line)) found → LooksAtLine old new line empty
looked_at_line old new line found empty turn is add = of empty (local_made old new (Look (Line line)) found add ∙ ap (λ b. if b && is_empty_line (line_of found) then with_shut line old.local else old.local) turn ∙ ap (λ b. if b then with_shut line old.local else old.local) (sym is))
  where
    of : (b : Bool) → new.local ≡ (if b then with_shut line old.local else old.local) → LooksAtLine old new line b
    of true e = record { on = look_on old new line found add; local_is = e }
    of false e = record { on = look_on old new line found add; local_is = e }

pub left_then : (old mid new : Seen) → LeavesLine old mid → LeavesLine mid new → LeavesLine old new
left_then old mid new one two = record { on = on_then old mid new one.on two.on; local_is = two.local_is ∙ one.local_is }

pub left_then_shut : (old mid new : Seen) (line : ℕ) → LeavesLine old mid → ShutsLine mid new line → ShutsLine old new line
left_then_shut old mid new line one two = record { on = on_then old mid new one.on two.on; local_is = two.local_is ∙ ap (with_shut line) one.local_is }

pub left_looks : (old mid new : Seen) (line : ℕ) (empty : Bool) → empty ≡ false → LeavesLine old mid → LooksAtLine mid new line empty → LeavesLine old new
left_looks old mid new line empty e one two = left_then old mid new one (subst (LooksAtLine mid new line) e two)

pub shut_looks : (old mid new : Seen) (line : ℕ) (empty : Bool) → empty ≡ true → LeavesLine old mid → LooksAtLine mid new line empty → ShutsLine old new line
shut_looks old mid new line empty e one two = left_then_shut old mid new line one (subst (LooksAtLine mid new line) e two)

pub left_shape : (old new : Seen) → OnLines old new → shape_of new ≡ shape_of old
left_shape old new on = ap shape_of on.adds.new_is

-- All lines.

-- the lines so far are shut
pub record Shutting (old now : Seen) (count : ℕ) : Type 0 where
  pub on : OnLines old now
  pub local_is : now.local ≡ record old.local { shut = now.local.shut }
  pub below : (line : ℕ) → line < count → IsTrue (has_bit now.local.shut line)

pub shutting_none : (seen : Seen) → Shutting seen seen 0
shutting_none seen = record { on = on_none seen; local_is = refl; below = λ line h. absurd (omega (arith, h)) }

pub shutting_more : (old now next : Seen) (line : ℕ) → Shutting old now line → ShutsLine now next line → Shutting old next (line + 1)
shutting_more old now next line so shuts =
    let with : ℕ → Local = λ set. record old.local { shut = set } in
    let set : next.local.shut ≡ bit_or now.local.shut (2 ^ line) = ap (λ l. l.shut) shuts.local_is in
    record {
      on = on_then old now next so.on shuts.on;
      local_is = shuts.local_is ∙ ap (with_shut line) so.local_is ∙ ap with (sym set);
      below = λ other h. subst (λ n. IsTrue (has_bit n other)) (sym set) (each other h);
    }
  where
    each : (other : ℕ) → other < line + 1 → has_bit (bit_or now.local.shut (2 ^ line)) other ≡ true
    each other h = elim (cases_eq other line) [
      | inl same ↦ subst (λ n. has_bit (bit_or now.local.shut (2 ^ line)) n ≡ true) (sym same) (with_self now.local.shut line)
      | inr differ ↦ with_other now.local.shut line other differ ∙ so.below other (omega (arith, h, differ))
    ]

pub shutting_turn : (old now : Seen) (count : ℕ) → IsTrue old.local.turn → Shutting old now count → IsTrue now.local.turn
shutting_turn old now count turn so = ap (λ l. l.turn) so.local_is ∙ turn

-- all bits of a set
all_bits : (set : ℕ) → set < 2 ^ 64 → ((line : ℕ) → line < 64 → IsTrue (has_bit set line)) → set ≡ 2 ^ 64 - 1
all_bits set fits each = same_from_bits_below 64 set (2 ^ 64 - 1) fits (omega arith) (λ i h. eqb-true (bit_at set i) 1 (each i h) ∙ sym (bit_at_ones 64 i h))

pub shutting_all : (old now : Seen) (count : ℕ) → IsPort now → has_lpis (shape_of old) ≡ true → count ≡ line_count (shape_of old) → Shutting old now count → ShutsAll old now
shutting_all old now count port lpis is so =
    let whole : count ≡ 64 = is ∙ ap (λ b. if b then 64 else 0) lpis in
    let with : ℕ → Local = λ set. record old.local { shut = set } in
    record { on = so.on; local_is = so.local_is ∙ ap with (all_bits now.local.shut port.local.shut (λ line h. so.below line (omega (arith, whole, h)))) }

-- What is known beside stays.

line_lpi_apart : (shape : GuestShape) (line id : ℕ) → IsTrue (has_interrupt shape (Lpi id)) → (place_of_word shape (Line line) == place_of_word shape (Irq (Lpi id))) ≡ false
line_lpi_apart shape line id there =
    let lt = lpi_place shape id there in
    let hold = lines_hold (plain_from shape + plain_count shape) in
    ne_eqb (place_of_word shape (Line line)) (place_of_word shape (Irq (Lpi id))) (λ e. omega (arith, e, lt, hold))

all_so : (p q : CoreStep → Bool) → ((step : CoreStep) → IsTrue (p step) → IsTrue (q step)) → (part : List Made) → IsTrue (list_all (λ made. p made.step) part) → IsTrue (list_all (λ made. q made.step) part)
all_so p q so [] h = refl
all_so p q so (made ∷ part) h =
    let parts = and_parts (p made.step) (list_all (λ made. p made.step) part) h in
    both (q made.step) (list_all (λ made. q made.step) part) (so made.step parts.0) (all_so p q so part parts.1)

pub shut_within : (old new : Seen) (on : OnLines old new) → IsTrue (are_within on.part)
shut_within old new on = within_by on.part on.none_taken (all_so is_shut_step (λ step. not (ends_command step)) by_step on.part on.steps)
  where
    by_step : (step : CoreStep) → IsTrue (is_shut_step step) → IsTrue (not (ends_command step))
    by_step (LineClose line) h = refl
    by_step (Look word) h = refl
    by_step _ h = absurd (cc)

-- the actor is still where a command begins
pub shut_fresh : (old new : Seen) → OnLines old new → IsFresh old → IsFresh new
shut_fresh old new on fresh =
    let same : shape_of new ≡ shape_of old = ap shape_of on.adds.new_is in
    let There : ℕ → GuestShape → Type 0 = λ id shape. IsTrue (has_interrupt shape (Lpi id)) in
    record {
      reading = still_reading old new on.part on.adds (all_so is_shut_step keeps_its keeps on.part on.steps) fresh.reading;
      each = λ id there. (let was = subst (There id) same there in untouched_on old new on.part id on.adds (shut_within old new on) (off_each (shape_of old) old.actor (Irq (Lpi id)) is_shut_step (apart id was) on.part on.steps) (fresh.each id was));
    }
  where
    keeps : (step : CoreStep) → IsTrue (is_shut_step step) → IsTrue (keeps_its step)
    keeps (LineClose line) h = refl
    keeps (Look word) h = refl
    keeps _ h = absurd (cc)

    apart : (id : ℕ) → IsTrue (has_interrupt (shape_of old) (Lpi id)) → (step : CoreStep) → IsTrue (is_shut_step step)
        → (place_of_word (shape_of old) (word_of (shape_of old) old.actor step) == place_of_word (shape_of old) (Irq (Lpi id))) ≡ false
    apart id there (LineClose line) h = line_lpi_apart (shape_of old) line id there
    apart id there (Look (Line line)) h = line_lpi_apart (shape_of old) line id there
    apart id there (Look (Irq key)) h = absurd (cc)
    apart id there (Look (Vcpu vcpu)) h = absurd (cc)
    apart id there (Look (Index vcpu word)) h = absurd (cc)
    apart id there (Look Queue) h = absurd (cc)
    apart id there (Look Ctlr) h = absurd (cc)
    apart id there (Look (Plain index)) h = absurd (cc)
    apart id there _ h = absurd (cc)
