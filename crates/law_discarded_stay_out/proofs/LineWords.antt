-- A message that a step leaves in a line was there before, or the step stored it.
use Rattle.std.proofs.Common.{◌≡◌, ℕ, ◌<◌, ◌≤◌, ◌==◌, ◌&&◌, ◌⊎◌, inl, inr, not, Bool, true, false, IsTrue, List, Some, None, if◌then◌else◌, refl, sym, ap, ◌∙◌, subst, arith}
use Rattle.std.proofs.lemmas.Bool.{and_parts, and_from, eq-eqb}
use Rattle.std.proofs.lemmas.Grind.{common_steps}
use Rattle.std.proofs.lemmas.Option.{none-some, same_Some}
use Rattle.law_lines_translate.specs.Words.{GuestShape, IsShape, Lpi, has_interrupt}
use Rattle.law_lines_translate.specs.Core.{Local, Made, CoreStep, Look, LineEnter, LineLeave, LineFill, LineClose, Line, LineRecord, CanFill, CanStep, Meets, IsLine, IsLineWord, actor_count, has_word, is_empty_line, is_vcpu, line_of, packed_line, succeeds, with_inside, without_inside, word_after, word_of}
use Rattle.law_lines_translate.proofs.PortCore.LineLemmas.{entered_fits, left_fits, line_back, line_fits}
use Rattle.law_discarded_stay_out.specs.StayOut.{is_fill}

is_not : (b : Bool) → IsTrue (not b) → b ≡ false
is_not true h = absurd (cc)
is_not false h = refl

-- the message of a line reads as it was packed
packed_pair : (line : LineRecord) → IsLine line → (line_of (packed_line line)).pair ≡ line.pair
packed_pair line is = ap (λ (one : LineRecord). one.pair) (line_back line is)

-- an LPI of a guest is one of those that a line's word can say
lpi_range : (shape : GuestShape) (lpi : ℕ) → IsShape shape → IsTrue (has_interrupt shape (Lpi lpi)) → (8192 ≤ lpi) × (lpi < 16384)
lpi_range shape lpi good there = let lpis = good.lpis in (grind (arith, common_steps), grind (arith, common_steps))

-- what a line is filled with can be said by its word
pub filled_fits : (shape : GuestShape) (line device event lpi : ℕ) → IsShape shape → CanFill shape line device event lpi → IsLine (record { pair = Some (device, event); lpi = lpi; inside = 0 })
filled_fits shape line device event lpi good can =
    let range = lpi_range shape lpi good can.lpi_there in
    record {
      pair = λ pair e.
          let same : (device, event) ≡ pair = same_Some (device, event) pair e in
          (subst (λ (p : ℕ × ℕ). p.0 < 65536) same can.device_fits, subst (λ (p : ℕ × ℕ). p.1 < 65536) same can.event_fits);
      from = range.0;
      lpi = range.1;
      none = λ e. absurd (cc);
      inside = omega arith;
    }

module _ (shape : GuestShape) (good : IsShape shape) (actor : ℕ) (there : actor < actor_count shape) (local : Local) (own : List Made) (found : ℕ) (is : IsLineWord shape found) where
  fits : IsLine (line_of found)
  fits = line_fits found is.word_is

  closed : IsLine (record { pair = None; lpi = 8192; inside = (line_of found).inside })
  closed = record { pair = λ pair e. absurd (cc); from = omega arith; lpi = omega arith; none = λ e. refl; inside = fits.inside }

  pub had_or_stores :
      (step : CoreStep) (line : ℕ) → CanStep shape actor step → Meets shape actor local own step → word_of shape actor step ≡ Line line → (pair : ℕ × ℕ) → (line_of (word_after shape actor local step found)).pair ≡ Some pair
      → ((line_of found).pair ≡ Some pair) ⊎ IsTrue (is_fill pair step && is_empty_line (line_of found))
  had_or_stores (Look word) line can meets on pair e = inl e
  had_or_stores (LineEnter number seen) line can meets on pair e = of (succeeds shape actor local (LineEnter number seen) found) e
    where
      device : is_vcpu shape actor ≡ false
      device = is_not (is_vcpu shape actor) (and_parts (not (is_vcpu shape actor)) (has_word shape (Line number)) can).0

      of : (b : Bool) → (line_of (if b then packed_line (with_inside shape actor (line_of found)) else found)).pair ≡ Some pair → ((line_of found).pair ≡ Some pair) ⊎ IsTrue (is_fill pair (LineEnter number seen) && is_empty_line (line_of found))
      of true e = inl (sym (packed_pair (with_inside shape actor (line_of found)) (entered_fits shape actor (line_of found) good there device fits)) ∙ e)
      of false e = inl e
  had_or_stores (LineLeave number) line can meets on pair e = inl (sym (packed_pair (without_inside shape actor (line_of found)) (left_fits shape actor (line_of found) fits)) ∙ e)
  had_or_stores (LineFill number device event lpi) line can meets on pair e = of (is_empty_line (line_of found)) refl e
    where
      of : (b : Bool) → is_empty_line (line_of found) ≡ b → (line_of (if b then packed_line (record { pair = Some (device, event); lpi = lpi; inside = 0 }) else found)).pair ≡ Some pair
          → ((line_of found).pair ≡ Some pair) ⊎ IsTrue (is_fill pair (LineFill number device event lpi) && is_empty_line (line_of found))
      of true empty e =
          let same : (device, event) ≡ pair = same_Some (device, event) pair (sym (packed_pair (record { pair = Some (device, event); lpi = lpi; inside = 0 }) (filled_fits shape number device event lpi good can)) ∙ e) in
          inr
          (and_from (device == pair.0 && event == pair.1) (is_empty_line (line_of found))
          (and_from (device == pair.0) (event == pair.1) (eq-eqb device pair.0 (ap (λ (p : ℕ × ℕ). p.0) same)) (eq-eqb event pair.1 (ap (λ (p : ℕ × ℕ). p.1) same))) empty)
      of false busy e = inl e
  had_or_stores (LineClose number) line can meets on pair e = absurd (none-some pair (sym (packed_pair (record { pair = None; lpi = 8192; inside = (line_of found).inside }) closed) ∙ e))
  had_or_stores step line can meets on pair e = absurd (cc)
