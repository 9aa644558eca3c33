-- What steps change of the line that their actor is in, of those that it knows to be shut, and of who has the ITS.
use Rattle.std.proofs.Common.{◌≡◌, ◌≢◌, ℕ, ◌^◌, ◌==◌, ◌&&◌, inl, inr, true≢false, Bool, true, false, IsTrue, Option, Some, None, if◌then◌else◌, refl, sym, ap, subst, ◌∙◌}
use Rattle.std.specs.Int.{bit_not, w64}
use Rattle.std.specs.Option.{option_map_or}
use Rattle.std.proofs.lemmas.Option.{none-some, same_Some}
use Rattle.floor_core.specs.Words.{GuestShape, IccReg, has_bit, irq_of}
use Rattle.floor_core.specs.Core.{Local, Entered, Folding, CoreStep, Look, Poll, TurnTake, TurnRelease, LineEnter, LineLeave, LineFill, LineClose, Irq, Line, accessed, entered_line, is_empty_line, is_settled_by_look, is_taking, line_of, local_after, local_done, settled, succeeds, vcpu_of, with_shut, without_shut, word_of}
use Rattle.floor_core.proofs.PortCore.StepLocals.{and_bit, no_bit, or_bit, pow_bit}

-- a step changes them: it is on a line's word, or gives the ITS back
abbrev pub moves_lines : CoreStep → Bool
moves_lines (Look (Line line)) = true
moves_lines (LineEnter line seen) = true
moves_lines (LineLeave line) = true
moves_lines (LineFill line device event lpi) = true
moves_lines (LineClose line) = true
moves_lines TurnRelease = true
moves_lines step = false

-- the two
abbrev lines_of : Local → Option Entered × ℕ
lines_of local = (local.line, local.shut)

pub either : {X : Type 0} (part : Local → X) (b : Bool) (x y : Local) → part x ≡ part y → part (if b then x else y) ≡ part y
either part true x y e = e
either part false x y e = refl

polled_same : (reg : Option IccReg) (write : Option ℕ) (found : ℕ) (shape : GuestShape) (actor : ℕ) (local : Local) → lines_of (local_done shape actor local (Poll reg write) found) ≡ lines_of local
polled_same None write found shape actor local = refl
polled_same (Some reg) write found shape actor local = of (vcpu_of found).kick
  where
    of : (b : Bool) → lines_of (if b then record local { phase = Folding } else accessed reg write local) ≡ lines_of local
    of true = refl
    of false = refl

done_same : (shape : GuestShape) (actor : ℕ) (local : Local) (step : CoreStep) (found : ℕ) → moves_lines step ≡ false → lines_of (local_done shape actor local step found) ≡ lines_of local
done_same shape actor local (Look (Irq key)) found e = either lines_of (is_settled_by_look shape actor (irq_of found)) (record local { cands = settled shape actor key local.cands }) local refl
done_same shape actor local (Look (Line line)) found e = absurd (true≢false e)
done_same shape actor local (Poll reg write) found e = polled_same reg write found shape actor local
done_same shape actor local (LineEnter line seen) found e = absurd (true≢false e)
done_same shape actor local (LineLeave line) found e = absurd (true≢false e)
done_same shape actor local (LineFill line device event lpi) found e = absurd (true≢false e)
done_same shape actor local (LineClose line) found e = absurd (true≢false e)
done_same shape actor local TurnRelease found e = absurd (true≢false e)
done_same shape actor local step found e = refl

pub own_same : (shape : GuestShape) (actor : ℕ) (local : Local) (step : CoreStep) (found : ℕ) → moves_lines step ≡ false → lines_of (local_after shape actor local step found) ≡ lines_of local
own_same shape actor local step found e = either lines_of (succeeds shape actor local step found) (local_done shape actor local step found) local (done_same shape actor local step found e)

pub line_same : (shape : GuestShape) (actor : ℕ) (local : Local) (step : CoreStep) (found : ℕ) → moves_lines step ≡ false → (local_after shape actor local step found).line ≡ local.line
line_same shape actor local step found e = ap (λ (two : Option Entered × ℕ). two.0) (own_same shape actor local step found e)

pub shut_same : (shape : GuestShape) (actor : ℕ) (local : Local) (step : CoreStep) (found : ℕ) → moves_lines step ≡ false → (local_after shape actor local step found).shut ≡ local.shut
shut_same shape actor local step found e = ap (λ (two : Option Entered × ℕ). two.1) (own_same shape actor local step found e)

-- What is true of the line that an actor is in, and of what it found there.

module _ (shape : GuestShape) (actor : ℕ) (local : Local) (found : ℕ) (P : Entered → Type 0) where
  enters : (line : ℕ) (b : Bool) (o : Option (ℕ × ℕ)) → (line_of found).pair ≡ o → ((pair : ℕ × ℕ) → (line_of found).pair ≡ Some pair → P (record { line = line; pair = pair; lpi = (line_of found).lpi })) → ((entered : Entered) → local.line ≡ Some entered → P entered)
      → (entered : Entered) → (if b then record local { line = option_map_or (λ pair. Some (record { line = line; pair = pair; lpi = (line_of found).lpi })) o None } else local).line ≡ Some entered → P entered
  enters line true (Some pair) is now before entered e = subst P (same_Some (record { line = line; pair = pair; lpi = (line_of found).lpi }) entered e) (now pair is)
  enters line true None is now before entered e = absurd (none-some entered e)
  enters line false o is now before entered e = before entered e

  -- it is true after a step where it was so before, and is of what a device finds that gets into a line
  pub own_line : (step : CoreStep) → ((line seen : ℕ) (pair : ℕ × ℕ) → step ≡ LineEnter line seen → (line_of found).pair ≡ Some pair → P (record { line = line; pair = pair; lpi = (line_of found).lpi }))
      → ((entered : Entered) → local.line ≡ Some entered → P entered) → (entered : Entered) → (local_after shape actor local step found).line ≡ Some entered → P entered
  own_line (LineEnter line seen) now before entered e = enters line (succeeds shape actor local (LineEnter line seen) found) (line_of found).pair refl (λ pair is. now line seen pair refl is) before entered e
  own_line (LineLeave line) now before entered e = absurd (none-some entered e)
  own_line (LineFill line device event lpi) now before entered e = before entered (sym (either (λ l. l.line) (succeeds shape actor local (LineFill line device event lpi) found) (without_shut line local) local refl) ∙ e)
  own_line (LineClose line) now before entered e = before entered (sym (either (λ l. l.line) ((line_of found).inside == 0) (with_shut line local) local refl) ∙ e)
  own_line (Look (Line line)) now before entered e = before entered (sym (either (λ l. l.line) (local.turn && is_empty_line (line_of found)) (with_shut line local) local refl) ∙ e)
  own_line TurnRelease now before entered e = before entered e
  own_line step now before entered e = before entered (sym (line_same shape actor local step found refl) ∙ e)

-- Who has the ITS after a step that does not take it had it before.
turn_done : (shape : GuestShape) (actor : ℕ) (local : Local) (step : CoreStep) (found : ℕ) → is_taking step ≡ false → IsTrue (local_done shape actor local step found).turn → IsTrue local.turn
turn_done shape actor local (TurnTake seen) found other h = absurd (true≢false other)
turn_done shape actor local TurnRelease found other h = absurd (true≢false (sym h))
turn_done shape actor local (Look (Irq key)) found other h = sym (either (λ l. l.turn) (is_settled_by_look shape actor (irq_of found)) (record local { cands = settled shape actor key local.cands }) local refl) ∙ h
turn_done shape actor local (Look (Line line)) found other h = sym (either (λ l. l.turn) (local.turn && is_empty_line (line_of found)) (with_shut line local) local refl) ∙ h
turn_done shape actor local (LineClose line) found other h = sym (either (λ l. l.turn) ((line_of found).inside == 0) (with_shut line local) local refl) ∙ h
turn_done shape actor local (Poll None write) found other h = h
turn_done shape actor local (Poll (Some reg) write) found other h = of (vcpu_of found).kick h
  where
    of : (b : Bool) → IsTrue (if b then record local { phase = Folding } else accessed reg write local).turn → IsTrue local.turn
    of true h = h
    of false h = h
turn_done shape actor local step found other h = h

pub turn_was : (shape : GuestShape) (actor : ℕ) (local : Local) (step : CoreStep) (found : ℕ) → (is_taking step && succeeds shape actor local step found) ≡ false → IsTrue (local_after shape actor local step found).turn → IsTrue local.turn
turn_was shape actor local step found none h = of (succeeds shape actor local step found) (is_taking step) refl none h
  where
    of : (b t : Bool) → is_taking step ≡ t → (t && b) ≡ false → IsTrue (if b then local_done shape actor local step found else local).turn → IsTrue local.turn
    of false t e none h = h
    of true true e none h = absurd (true≢false none)
    of true false e none h = turn_done shape actor local step found e h

-- A line that an actor knows to be shut after a step on another word it knew to be so before.
shut_before : (shape : GuestShape) (actor : ℕ) (local : Local) (number line : ℕ) (b : Bool) → Line number ≢ Line line → IsTrue (has_bit (if b then with_shut number local else local).shut line) → IsTrue (has_bit local.shut line)
shut_before shape actor local number line true apart h = elim (or_bit local.shut (2 ^ number) line h) [ inl before ↦ before | inr now ↦ absurd (apart (ap Line (sym (pow_bit number line now)))) ]
shut_before shape actor local number line false apart h = h

pub bit_before : (shape : GuestShape) (actor : ℕ) (local : Local) (step : CoreStep) (found line : ℕ) → word_of shape actor step ≢ Line line → IsTrue (has_bit (local_after shape actor local step found).shut line) → IsTrue (has_bit local.shut line)
bit_before shape actor local (Look (Line number)) found line apart h = shut_before shape actor local number line (local.turn && is_empty_line (line_of found)) apart h
bit_before shape actor local (LineEnter number seen) found line apart h = subst (λ n. IsTrue (has_bit n line)) (either (λ l. l.shut) (succeeds shape actor local (LineEnter number seen) found) (entered_line number (line_of found) local) local refl) h
bit_before shape actor local (LineLeave number) found line apart h = h
bit_before shape actor local (LineFill number device event lpi) found line apart h = of (succeeds shape actor local (LineFill number device event lpi) found) h
  where
    of : (b : Bool) → IsTrue (has_bit (if b then without_shut number local else local).shut line) → IsTrue (has_bit local.shut line)
    of true h = and_bit local.shut (bit_not w64 (2 ^ number)) line h
    of false h = h
bit_before shape actor local (LineClose number) found line apart h = shut_before shape actor local number line ((line_of found).inside == 0) apart h
bit_before shape actor local TurnRelease found line apart h = absurd (no_bit line h)
bit_before shape actor local step found line apart h = subst (λ n. IsTrue (has_bit n line)) (shut_same shape actor local step found refl) h
