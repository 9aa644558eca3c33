-- Steps on translation lines.
use Rattle.std.proofs.Common.{◌≡◌, ◌≢◌, ℕ, ◌-◌, ◌^◌, ◌<◌, ◌≤◌, ◌==◌, ◌&&◌, not, Bool, true, false, cond, nat_lt, IsTrue, List, is_some, Option, Some, None, refl, sym, ap, subst, ◌∙◌, arith}
use Rattle.std.specs.Int.{bit_not, w64}
use Rattle.std.specs.Option.{ForSome, option_map_or}
use Rattle.std.proofs.lemmas.Bool.{and_parts, both_ways, eqb-true, eq-eqb, ne_eqb, ltb-true}
use Rattle.std.proofs.lemmas.Grind.{common_steps}
use Rattle.std.proofs.lemmas.Option.{same_Some}
use Rattle.std.proofs.lemmas.Nat.{and_le_l, or_lt, pow_below, pow_pos}
use Rattle.core_words.specs.Words.{GuestShape, Lpi, IsShape, has_interrupt}
use Rattle.core_words.specs.Registers.{has_lpis}
use Rattle.core_words.specs.declared.line.Entered.{Entered}
use Rattle.core_words.specs.declared.line.Line.{Line as LineRecord}
use Rattle.port_core.specs.declared.local.Local.{Local}
use Rattle.port_core.specs.declared.run.Made.{Made}
use Rattle.port_core.specs.declared.step.CoreStep.TheVariants.{Look, LineEnter, LineLeave, LineFill, LineClose}
use Rattle.core_words.specs.declared.word_id.WordId.TheVariants.{Line}
use Rattle.port_core.specs.After.{entered_line}
use Rattle.core_words.specs.Forms.{is_empty_line, line_of, packed_line, IsLine}
use Rattle.port_core.specs.Local.{is_vcpu, is_inside, with_inside, without_inside, with_shut, without_shut}
use Rattle.core_words.specs.Place.{has_word, line_count}
use Rattle.port_core.specs.Valid.{IsEntered, IsLocal}
use Rattle.port_core.proofs.FrameLemmas.{Keeps}
use Rattle.port_core.proofs.LineLemmas.{line_fits, few_devices, entered_fits, left_fits, inside_self, inside_other, outside_self, outside_other, none_inside, empty_is}
use Rattle.port_core.proofs.StepTies.{none_is, keeps_word, keeps_line, IsLineIn}
use Rattle.port_core.proofs.StepMade.{IsMade, StepKeeps, keeps_tried}

is_not : (b : Bool) → IsTrue (not b) → b ≡ false
is_not true h = absurd (cc)
is_not false h = refl

-- an LPI of a guest is one of those that a line's word can say
lpi_range : (shape : GuestShape) (lpi : ℕ) → IsShape shape → IsTrue (has_interrupt shape (Lpi lpi)) → (8192 ≤ lpi) × (lpi < 16384)
lpi_range shape lpi good there = let lpis = good.lpis in (grind (arith, common_steps), grind (arith, common_steps))

-- a guest has 64 lines or none
pub few_lines : (shape : GuestShape) (number : ℕ) → IsTrue (has_word shape (Line number)) → number < 64
few_lines shape number there = of (has_lpis shape) there
  where
    of : (b : Bool) → IsTrue (nat_lt number (cond b 64 0)) → number < 64
    of true h = ltb-true number 64 h
    of false h = absurd (let none = ltb-true number 0 h in omega (arith, none))

-- The lines that the actor that has the ITS knows to be shut.

shut_more : (shape : GuestShape) (actor : ℕ) (number : ℕ) (local : Local) → number < 64 → IsTrue local.turn → IsLocal shape actor local → IsLocal shape actor (with_shut number local)
shut_more shape actor number local few turn is =
    record {
      points = is.points;
      levels = is.levels;
      at = is.at;
      once = is.once;
      room = is.room;
      owes = is.owes;
      marks_are = is.marks_are;
      marks = is.marks;
      cands = is.cands;
      device = λ e. record { at = (is.device e).at; cands = (is.device e).cands };
      line = is.line;
      shut = or_lt 64 local.shut (2 ^ number) is.shut (pow_below number 64 few);
      idle = λ e. absurd (both_ways local.turn e turn);
    }

shut_less : (shape : GuestShape) (actor : ℕ) (number : ℕ) (local : Local) → IsTrue local.turn → IsLocal shape actor local → IsLocal shape actor (without_shut number local)
shut_less shape actor number local turn is =
    record {
      points = is.points;
      levels = is.levels;
      at = is.at;
      once = is.once;
      room = is.room;
      owes = is.owes;
      marks_are = is.marks_are;
      marks = is.marks;
      cands = is.cands;
      device = λ e. record { at = (is.device e).at; cands = (is.device e).cands };
      line = is.line;
      shut = (let less = and_le_l local.shut (bit_not w64 (2 ^ number)) in let fits = is.shut in omega (arith, less, fits));
      idle = λ e. absurd (both_ways local.turn e turn);
    }

pub keeps_look_line : (shape : GuestShape) (actor : ℕ) (local : Local) (own : List Made) (number found : ℕ) → IsMade shape actor local own (Look (Line number)) found → StepKeeps shape actor local (Look (Line number)) found
keeps_look_line shape actor local own number found made = of local.turn (is_empty_line (line_of found)) refl
  where
    of : (turn empty : Bool) → local.turn ≡ turn → Keeps shape actor local (cond (turn && empty) (with_shut number local) local) (Line number) found found
    of true true e = keeps_word shape actor local (with_shut number local) (Line number) found made.find (shut_more shape actor number local (few_lines shape number made.can) e made.valid) (record { at = λ k. refl; turn = refl; ctlr = refl; line = λ n. refl })
    of true false e = keeps_word shape actor local local (Line number) found made.find made.valid (record { at = λ k. refl; turn = refl; ctlr = refl; line = λ n. refl })
    of false empty e = keeps_word shape actor local local (Line number) found made.find made.valid (record { at = λ k. refl; turn = refl; ctlr = refl; line = λ n. refl })

-- the line is closed: devices that are in it stay there
pub keeps_line_close : (shape : GuestShape) (actor : ℕ) (local : Local) (own : List Made) (number found : ℕ) → IsMade shape actor local own (LineClose number) found → StepKeeps shape actor local (LineClose number) found
keeps_line_close shape actor local own number found made = of ((line_of found).inside == 0)
  where
    fits : IsLine (line_of found)
    fits = line_fits found made.find.valid.word_is

    left : LineRecord
    left = record { pair = None; lpi = 8192; inside = (line_of found).inside }

    in_guest : IsLineIn shape left
    in_guest = record { fits = record { pair = λ pair e. absurd (cc); from = omega arith; lpi = omega arith; none = λ e. refl; inside = fits.inside }; lpi = λ pair e. absurd (cc); inside = made.find.valid.inside }

    of : (b : Bool) → Keeps shape actor local (cond b (with_shut number local) local) (Line number) found (packed_line left)
    of true =
        keeps_line shape actor local (with_shut number local) number found left in_guest (shut_more shape actor number local (few_lines shape number made.can) made.meets made.valid)
        (record { here = made.find.ties; others = λ other differ. refl; lines = λ other differ. refl; at = refl; turn = refl; ctlr = refl })
    of false = keeps_line shape actor local local number found left in_guest made.valid (record { here = made.find.ties; others = λ other differ. refl; lines = λ other differ. refl; at = refl; turn = refl; ctlr = refl })

-- a line is filled that nobody is in
pub keeps_line_fill :
    (shape : GuestShape) (actor : ℕ) (local : Local) (own : List Made) (number device event lpi found : ℕ) → IsMade shape actor local own (LineFill number device event lpi) found → StepKeeps shape actor local (LineFill number device event lpi) found
keeps_line_fill shape actor local own number device event lpi found made =
    keeps_tried shape actor local own (LineFill number device event lpi) found made
    (λ h.
    let none : (line_of found).inside ≡ 0 = (empty_is (line_of found) h).1 in
    let nobody : (other : ℕ) → is_inside shape other left ≡ is_inside shape other (line_of found) = λ other. none_inside shape other left refl ∙ sym (none_inside shape other (line_of found) none) in
    keeps_line shape actor local (without_shut number local) number found left in_guest (shut_less shape actor number local made.meets.turn made.valid)
    (record { here = nobody actor ∙ made.find.ties; others = λ other differ. nobody other; lines = λ other differ. refl; at = refl; turn = refl; ctlr = refl }))
  where
    left : LineRecord
    left = record { pair = Some (device, event); lpi = lpi; inside = 0 }

    some_same : (pair : ℕ × ℕ) → Some (device, event) ≡ Some pair → (device, event) ≡ pair
    some_same pair e = same_Some (device, event) pair e

    in_guest : IsLineIn shape left
    in_guest =
        record {
          fits = record {
            pair = λ pair e.
                let same = some_same pair e in
                (subst (λ (p : ℕ × ℕ). p.0 < 65536) same made.can.device_fits, subst (λ (p : ℕ × ℕ). p.1 < 65536) same made.can.event_fits);
            from = (lpi_range shape lpi made.good made.can.lpi_there).0;
            lpi = (lpi_range shape lpi made.good made.can.lpi_there).1;
            none = λ e. absurd (cc);
            inside = omega arith;
          };
          lpi = λ pair e. made.can.lpi_there;
          inside = pow_pos shape.devices;
        }

-- Devices that get into a line, and leave it.

pub keeps_line_enter : (shape : GuestShape) (actor : ℕ) (local : Local) (own : List Made) (number seen found : ℕ) → IsMade shape actor local own (LineEnter number seen) found → StepKeeps shape actor local (LineEnter number seen) found
keeps_line_enter shape actor local own number seen found made =
    keeps_tried shape actor local own (LineEnter number seen) found made
    (λ h.
    keeps_line shape actor local (entered_line number (line_of found) local) number found left in_guest (is_local (line_of found).pair refl)
    (record {
      here = inside_self shape actor (line_of found) device ∙ sym (in_it (line_of found).pair (and_parts (found == seen) (is_some (line_of found).pair) h).1);
      others = λ other differ. inside_other shape actor other (line_of found) differ device;
      lines = λ other differ. elsewhere other differ (line_of found).pair ∙ sym (ap (λ l. option_map_or (λ (one : Entered). one.line == other) l false) outside);
      at = refl;
      turn = refl;
      ctlr = refl;
    }))
  where
    device : is_vcpu shape actor ≡ false
    device = is_not (is_vcpu shape actor) (and_parts (not (is_vcpu shape actor)) (has_word shape (Line number)) made.can).0

    fits : IsLine (line_of found)
    fits = line_fits found made.find.valid.word_is

    left : LineRecord
    left = with_inside shape actor (line_of found)

    few : (actor - shape.vcpus < shape.devices) × (actor - shape.vcpus < 4)
    few = few_devices shape actor made.good made.there device

    in_guest : IsLineIn shape left
    in_guest =
        record {
          fits = entered_fits shape actor (line_of found) made.good made.there device fits;
          lpi = made.find.valid.lpi;
          inside = or_lt shape.devices (line_of found).inside (2 ^ (actor - shape.vcpus)) made.find.valid.inside (pow_below (actor - shape.vcpus) shape.devices few.0);
        }

    outside : local.line ≡ None
    outside = none_is local.line made.meets

    seat : Option (ℕ × ℕ) → Option Entered
    seat pair = option_map_or (λ one. Some (record { line = number; pair = one; lpi = (line_of found).lpi })) pair None

    in_it : (pair : Option (ℕ × ℕ)) → IsTrue (is_some pair) → option_map_or (λ (one : Entered). one.line == number) (seat pair) false ≡ true
    in_it (Some pair) h = eq-eqb number number refl
    in_it None h = absurd (cc)

    elsewhere : (other : ℕ) → other ≢ number → (pair : Option (ℕ × ℕ)) → option_map_or (λ (one : Entered). one.line == other) (seat pair) false ≡ false
    elsewhere other differ (Some pair) = ne_eqb number other (λ e. differ (sym e))
    elsewhere other differ None = refl

    is_entered : (pair : Option (ℕ × ℕ)) → (line_of found).pair ≡ pair → ForSome (seat pair) (IsEntered shape)
    is_entered None same one e = absurd (cc)
    is_entered (Some pair) same one e =
        let both = fits.pair pair same in
        subst (IsEntered shape) (same_Some (record { line = number; pair = pair; lpi = (line_of found).lpi }) one e)
        (record { there = ltb-true number (line_count shape) (and_parts (not (is_vcpu shape actor)) (has_word shape (Line number)) made.can).1; device = both.0; event = both.1; lpi = made.find.valid.lpi pair same })

    is_local : (pair : Option (ℕ × ℕ)) → (line_of found).pair ≡ pair → IsLocal shape actor (record local { line = seat pair })
    is_local pair same =
        let is = made.valid in
        record {
          points = is.points;
          levels = is.levels;
          at = is.at;
          once = is.once;
          room = is.room;
          owes = is.owes;
          marks_are = is.marks_are;
          marks = is.marks;
          cands = is.cands;
          device = λ e. record { at = (is.device e).at; cands = (is.device e).cands };
          line = is_entered pair same;
          shut = is.shut;
          idle = is.idle;
        }

pub keeps_line_leave : (shape : GuestShape) (actor : ℕ) (local : Local) (own : List Made) (number found : ℕ) → IsMade shape actor local own (LineLeave number) found → StepKeeps shape actor local (LineLeave number) found
keeps_line_leave shape actor local own number found made =
    let is = made.valid in
    let fits = line_fits found made.find.valid.word_is in
    let left = without_inside shape actor (line_of found) in
    let less = and_le_l (line_of found).inside (bit_not w64 (2 ^ (actor - shape.vcpus))) in
    let inside = made.find.valid.inside in
    keeps_line shape actor local (record local { line = None }) number found left (record { fits = left_fits shape actor (line_of found) fits; lpi = made.find.valid.lpi; inside = omega (arith, less, inside) })
    (record {
      points = is.points;
      levels = is.levels;
      at = is.at;
      once = is.once;
      room = is.room;
      owes = is.owes;
      marks_are = is.marks_are;
      marks = is.marks;
      cands = is.cands;
      device = λ e. record { at = (is.device e).at; cands = (is.device e).cands };
      line = λ one e. absurd (cc);
      shut = is.shut;
      idle = is.idle;
    })
    (record {
      here = outside_self shape actor (line_of found) made.good made.there device;
      others = λ other differ. outside_other shape actor other (line_of found) made.good made.there fits differ device;
      lines = λ other differ. sym (elsewhere other differ local.line made.meets);
      at = refl;
      turn = refl;
      ctlr = refl;
    })
  where
    device : is_vcpu shape actor ≡ false
    device = is_not (is_vcpu shape actor) (and_parts (not (is_vcpu shape actor)) (has_word shape (Line number)) made.can).0

    elsewhere : (other : ℕ) → other ≢ number → (line : Option Entered) → IsTrue (option_map_or (λ one. one.line == number) line false) → option_map_or (λ one. one.line == other) line false ≡ false
    elsewhere other differ None h = refl
    elsewhere other differ (Some one) h = ne_eqb one.line other (λ e. differ (sym e ∙ eqb-true one.line number h))
