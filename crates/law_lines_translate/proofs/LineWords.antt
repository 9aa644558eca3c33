-- What steps on the words of lines leave of them.
use Rattle.std.proofs.Common.{◌≡◌, ℕ, ◌-◌, ◌^◌, ◌<◌, ◌≤◌, ◌==◌, ◌&&◌, ◌⊎◌, inl, inr, true≢false, not, Bool, true, false, IsTrue, List, Some, None, is_none, is_some, if◌then◌else◌, bit_and, refl, sym, ap, subst, ◌∙◌, arith}
use Rattle.std.specs.Int.{bit_not, w64}
use Rattle.std.proofs.lemmas.Bool.{and_parts, and_from, eqb-true, eq-eqb}
use Rattle.std.proofs.lemmas.Grind.{common_steps}
use Rattle.std.proofs.lemmas.Nat.{and_le_l}
use Rattle.std.proofs.lemmas.Option.{same_Some}
use Rattle.floor_core.specs.Words.{GuestShape, Lpi, IsShape, has_bit, has_interrupt}
use Rattle.floor_core.specs.Core.{Local, Made, CoreStep, Look, LineEnter, LineLeave, LineFill, LineClose, Line, LineRecord, CanFillNow, CanStep, Meets, IsLine, IsLineWord, actor_count, entered_line, has_word, is_empty_line, is_vcpu, line_of, local_after, packed_line, succeeds, with_inside, with_shut, without_inside, without_shut, word_after, word_of}
use Rattle.floor_core.proofs.PortCore.LineLemmas.{empty_is, entered_fits, left_fits, line_back, line_fits, without_self}
use Rattle.law_lines_translate.proofs.OwnSteps.{either}

line_number : (one other : ℕ) → Line one ≡ Line other → one ≡ other
line_number one other e = cc

-- Empty lines.

empty_by : (word : LineRecord) → word.pair ≡ None → word.inside ≡ 0 → IsTrue (is_empty_line word)
empty_by word pair inside = and_from (is_none word.pair) (word.inside == 0) (ap is_none pair) (eq-eqb word.inside 0 inside)

no_more : (n m : ℕ) → n ≡ 0 → bit_and n m ≡ 0
no_more n m e = let less = and_le_l n m in omega (arith, less, e)

-- the message of a line after a step on it: the one that it had, none, or one with which it is filled
pub data IsPairAfter (shape : GuestShape) (actor : ℕ) (local : Local) (own : List Made) (before later : LineRecord) : Type 0 where
  stays : later.pair ≡ before.pair → later.lpi ≡ before.lpi → IsPairAfter shape actor local own before later
  goes : later.pair ≡ None → IsPairAfter shape actor local own before later
  comes : (device event lpi : ℕ) → CanFillNow shape actor local own device event lpi → later.pair ≡ Some (device, event) → later.lpi ≡ lpi → IsPairAfter shape actor local own before later

is_not : (b : Bool) → IsTrue (not b) → b ≡ false
is_not true h = absurd (cc)
is_not false h = refl

-- an LPI of a guest is one of those that a line's word can say
lpi_range : (shape : GuestShape) (lpi : ℕ) → IsShape shape → IsTrue (has_interrupt shape (Lpi lpi)) → (8192 ≤ lpi) × (lpi < 16384)
lpi_range shape lpi good there = let lpis = good.lpis in (grind (arith, common_steps), grind (arith, common_steps))

module _ (shape : GuestShape) (good : IsShape shape) (actor : ℕ) (there : actor < actor_count shape) (local : Local) (own : List Made) (found : ℕ) (is : IsLineWord shape found) where
  abbrev pub left_by : CoreStep → LineRecord
  left_by step = line_of (word_after shape actor local step found)

  fits : IsLine (line_of found)
  fits = line_fits found is.word_is

  entered_is : is_vcpu shape actor ≡ false → line_of (packed_line (with_inside shape actor (line_of found))) ≡ with_inside shape actor (line_of found)
  entered_is device = line_back (with_inside shape actor (line_of found)) (entered_fits shape actor (line_of found) good there device fits)

  left_is : line_of (packed_line (without_inside shape actor (line_of found))) ≡ without_inside shape actor (line_of found)
  left_is = line_back (without_inside shape actor (line_of found)) (left_fits shape actor (line_of found) fits)

  closed_is : line_of (packed_line (record { pair = None; lpi = 8192; inside = (line_of found).inside })) ≡ record { pair = None; lpi = 8192; inside = (line_of found).inside }
  closed_is = line_back (record { pair = None; lpi = 8192; inside = (line_of found).inside }) (record { pair = λ pair e. absurd (cc); from = omega arith; lpi = omega arith; none = λ e. refl; inside = fits.inside })

  filled_is : (line device event lpi : ℕ) → CanStep shape actor (LineFill line device event lpi) → line_of (packed_line (record { pair = Some (device, event); lpi = lpi; inside = 0 })) ≡ record { pair = Some (device, event); lpi = lpi; inside = 0 }
  filled_is line device event lpi can =
      let range = lpi_range shape lpi good can.lpi_there in
      line_back (record { pair = Some (device, event); lpi = lpi; inside = 0 })
      (record {
        pair = λ pair e. let same = same_pair pair e in (subst (λ (p : ℕ × ℕ). p.0 < 65536) same can.device_fits, subst (λ (p : ℕ × ℕ). p.1 < 65536) same can.event_fits);
        from = range.0;
        lpi = range.1;
        none = λ e. absurd (cc);
        inside = omega arith;
      })
    where
      same_pair : (pair : ℕ × ℕ) → Some (device, event) ≡ Some pair → (device, event) ≡ pair
      same_pair pair e = same_Some (device, event) pair e

  -- the message
  pub pair_after : (step : CoreStep) (line : ℕ) → CanStep shape actor step → Meets shape actor local own step → word_of shape actor step ≡ Line line → IsPairAfter shape actor local own (line_of found) (left_by step)
  pair_after (Look word) line can meets on = stays refl refl
  pair_after (LineEnter number seen) line can meets on = of (succeeds shape actor local (LineEnter number seen) found)
    where
      device : is_vcpu shape actor ≡ false
      device = is_not (is_vcpu shape actor) (and_parts (not (is_vcpu shape actor)) (has_word shape (Line number)) can).0

      of : (b : Bool) → IsPairAfter shape actor local own (line_of found) (line_of (if b then packed_line (with_inside shape actor (line_of found)) else found))
      of true = stays (ap (λ (word : LineRecord). word.pair) (entered_is device)) (ap (λ (word : LineRecord). word.lpi) (entered_is device))
      of false = stays refl refl
  pair_after (LineLeave number) line can meets on = stays (ap (λ (word : LineRecord). word.pair) left_is) (ap (λ (word : LineRecord). word.lpi) left_is)
  pair_after (LineFill number device event lpi) line can meets on = of (succeeds shape actor local (LineFill number device event lpi) found)
    where
      of : (b : Bool) → IsPairAfter shape actor local own (line_of found) (line_of (if b then packed_line (record { pair = Some (device, event); lpi = lpi; inside = 0 }) else found))
      of true = comes device event lpi meets (ap (λ (word : LineRecord). word.pair) (filled_is number device event lpi can)) (ap (λ (word : LineRecord). word.lpi) (filled_is number device event lpi can))
      of false = stays refl refl
  pair_after (LineClose number) line can meets on = goes (ap (λ (word : LineRecord). word.pair) closed_is)
  pair_after step line can meets on = absurd (cc)

  -- an empty line stays so but by the actor that has the ITS

  enters_none : (number seen : ℕ) → IsTrue (is_empty_line (line_of found)) → IsTrue (is_empty_line (left_by (LineEnter number seen)))
  enters_none number seen h =
      subst (λ b. IsTrue (is_empty_line (line_of (if b then packed_line (with_inside shape actor (line_of found)) else found))))
      (sym (ap (λ o. (found == seen) && is_some o) (empty_is (line_of found) h).0 ∙ and_false (found == seen))) h
    where
      and_false : (b : Bool) → (b && false) ≡ false
      and_false true = refl
      and_false false = refl

  leaves_none : (number : ℕ) → IsTrue (is_empty_line (line_of found)) → IsTrue (is_empty_line (left_by (LineLeave number)))
  leaves_none number h =
      subst (λ word. IsTrue (is_empty_line word)) (sym left_is)
      (empty_by (without_inside shape actor (line_of found)) (empty_is (line_of found) h).0 (no_more (line_of found).inside (bit_not w64 (2 ^ (actor - shape.vcpus))) (empty_is (line_of found) h).1))

  closes_none : (number : ℕ) → (line_of found).inside ≡ 0 → IsTrue (is_empty_line (left_by (LineClose number)))
  closes_none number none = subst (λ word. IsTrue (is_empty_line word)) (sym closed_is) (empty_by (record { pair = None; lpi = 8192; inside = (line_of found).inside }) refl none)

  pub stays_empty : (step : CoreStep) (line : ℕ) → Meets shape actor local own step → word_of shape actor step ≡ Line line → IsTrue (is_empty_line (line_of found)) → IsTrue local.turn ⊎ IsTrue (is_empty_line (left_by step))
  stays_empty (Look word) line meets on h = inr h
  stays_empty (LineEnter number seen) line meets on h = inr (enters_none number seen h)
  stays_empty (LineLeave number) line meets on h = inr (leaves_none number h)
  stays_empty (LineFill number device event lpi) line meets on h = inl meets.turn
  stays_empty (LineClose number) line meets on h = inl meets
  stays_empty step line meets on h = absurd (cc)

  -- a line that its actor knows to be shut after a step on its word is empty then, where it was empty before if the actor knew it to be shut
  pub knew : (step : CoreStep) (line : ℕ) → line < 64 → Meets shape actor local own step → word_of shape actor step ≡ Line line → (IsTrue (has_bit local.shut line) → IsTrue (is_empty_line (line_of found))) → IsTrue (has_bit (local_after shape actor local step found).shut line)
      → IsTrue (is_empty_line (left_by step))
  knew (Look (Line number)) line small meets on before h = of (local.turn && is_empty_line (line_of found)) refl h
    where
      of : (b : Bool) → (local.turn && is_empty_line (line_of found)) ≡ b → IsTrue (has_bit (if b then with_shut number local else local).shut line) → IsTrue (is_empty_line (line_of found))
      of true e h = (and_parts local.turn (is_empty_line (line_of found)) e).1
      of false e h = before h
  knew (LineEnter number seen) line small meets on before h =
      enters_none number seen (before (subst (λ n. IsTrue (has_bit n line)) (either (λ l. l.shut) (succeeds shape actor local (LineEnter number seen) found) (entered_line number (line_of found) local) local refl) h))
  knew (LineLeave number) line small meets on before h = leaves_none number (before h)
  knew (LineFill number device event lpi) line small meets on before h = of (succeeds shape actor local (LineFill number device event lpi) found) h
    where
      of : (b : Bool) → IsTrue (has_bit (if b then without_shut number local else local).shut line) → IsTrue (is_empty_line (line_of (if b then packed_line (record { pair = Some (device, event); lpi = lpi; inside = 0 }) else found)))
      of true h = absurd (true≢false (sym (subst (λ n. IsTrue (has_bit (bit_and local.shut (bit_not w64 (2 ^ n))) line)) (line_number number line on) h) ∙ without_self local.shut line small))
      of false h = before h
  knew (LineClose number) line small meets on before h = of ((line_of found).inside == 0) refl h
    where
      of : (b : Bool) → ((line_of found).inside == 0) ≡ b → IsTrue (has_bit (if b then with_shut number local else local).shut line) → IsTrue (is_empty_line (left_by (LineClose number)))
      of true e h = closes_none number (eqb-true (line_of found).inside 0 e)
      of false e h = closes_none number (empty_is (line_of found) (before h)).1
  knew step line small meets on before h = absurd (cc)
