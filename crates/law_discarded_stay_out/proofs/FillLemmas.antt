-- A line that its actor knows to be shut is empty, and so it is filled.
use Rattle.std.proofs.Common.{◌≡◌, ℕ, ◌+◌, ◌-◌, ◌^◌, ◌<◌, ◌==◌, ◌&&◌, not, true, false, zero, suc, IsTrue, [], ◌∷◌, Some, is_none, if◌then◌else◌, refl, sym, ap, subst, ◌∙◌, arith}
use Rattle.std.specs.Int.{bit_at}
use Rattle.std.proofs.lemmas.Bool.{and_from, eq-eqb, le-ltb}
use Rattle.std.proofs.lemmas.Nat.{pow_pos}
use Rattle.std.proofs.lemmas.Nat.Bits.{bit_at-lt, bit_at-zero, same_from_bits_below}
use Rattle.law_lines_translate.specs.Words.{GuestShape, IsShape, has_bit}
use Rattle.law_lines_translate.specs.Lines.{AreTrue, IsClear}
use Rattle.law_lines_translate.specs.Core.{CanStep, CoreStep, Line, LineRecord, CoreState, Meets, Takes, actor_count, end_of, has_word, is_empty_line, is_inside, is_vcpu, line_of, opening, packed_line, seat_at, word_after, word_in, word_of}
use Rattle.law_lines_translate.proofs.LineRuns.{runs_are_true}
use Rattle.law_lines_translate.proofs.PortCore.LineLemmas.{line_back}
use Rattle.law_lines_translate.proofs.PortCore.RunLemmas.{run_splits}
use Rattle.law_discarded_stay_out.specs.Fills.{FillsStore}
use Rattle.law_discarded_stay_out.proofs.LineWords.{filled_fits}

-- a set with no bit below its end is empty
none_in : (set count : ℕ) → set < 2 ^ count → ((d : ℕ) → d < count → has_bit set d ≡ false) → set ≡ 0
none_in set count fits none = same_from_bits_below count set 0 fits (pow_pos count) (λ d h. zero_bit (bit_at set d) (bit_at-lt set d) (none d h) ∙ sym (bit_at-zero d))
  where
    zero_bit : (n : ℕ) → n < 2 → (n == 1) ≡ false → n ≡ 0
    zero_bit zero few e = refl
    zero_bit (suc zero) few e = absurd (cc)
    zero_bit (suc (suc n)) few e = absurd (omega (arith, few))

module _ (shape : GuestShape) (good : IsShape shape) (state : CoreState) (are : AreTrue shape state) (line : ℕ) (there : IsTrue (has_word shape (Line line))) (clear : IsClear shape state line) where
  abbrev word : ℕ
  word = word_in shape state (Line line)

  device_out : (d : ℕ) → d < shape.devices → has_bit (line_of word).inside d ≡ false
  device_out d h =
      let actor = shape.vcpus + d in
      let here : actor < actor_count shape = omega (arith, h) in
      let out : is_inside shape actor (line_of word) ≡ false = are.inside actor line here there ∙ clear.nobody actor here in
      let device : is_vcpu shape actor ≡ false = le-ltb actor shape.vcpus (omega arith) in
      let back : actor - shape.vcpus ≡ d = omega arith in
      ap (has_bit (line_of word).inside) (sym back) ∙ sym (ap (λ b. not b && has_bit (line_of word).inside (actor - shape.vcpus)) device) ∙ out

  empty : IsTrue (is_empty_line (line_of word))
  empty =
      let none : (line_of word).inside ≡ 0 = none_in (line_of word).inside shape.devices (are.devices line there) device_out in
      and_from (is_none (line_of word).pair) ((line_of word).inside == 0) (ap is_none clear.pair) (eq-eqb (line_of word).inside 0 none)

pub fills : FillsStore
fills guest number before fill line device event lpi opens run step known =
    let shape = guest.shape in
    let good = opens.sound.shape in
    let state = end_of shape (opening guest number) before in
    let parts = run_splits shape (opening guest number) before (fill ∷ []) run in
    let takes : Takes shape state fill = parts.1.0 in
    let local = (seat_at state fill.actor).local in
    let own = (seat_at state fill.actor).own in
    let MeetsBy : CoreStep → Type 0 = λ step. Meets shape fill.actor local own step in
    let CanBy : CoreStep → Type 0 = λ step. CanStep shape fill.actor step in
    let meets = subst MeetsBy step takes.meets in
    let can = subst CanBy step takes.can in
    let are = runs_are_true guest number before opens parts.0 in
    let clear = are.shut fill.actor line takes.actor can.there meets.turn known in
    let found : fill.made.found ≡ word_in shape state (Line line) = takes.found ∙ ap (λ step. word_in shape state (word_of shape fill.actor step)) step in
    let is_empty : is_empty_line (line_of fill.made.found) ≡ true = ap (λ n. is_empty_line (line_of n)) found ∙ empty shape good state are line can.there clear in
    let filled : LineRecord = record { pair = Some (device, event); lpi = lpi; inside = 0 } in
    ap line_of (takes.left ∙ ap (λ step. word_after shape fill.actor local step fill.made.found) step ∙ ap (λ b. if b then packed_line filled else fill.made.found) is_empty)
    ∙ line_back filled (filled_fits shape line device event lpi good can)
