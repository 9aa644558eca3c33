-- What is saved of a scenario tells its standing.
use Rattle.std.proofs.Common.{◌≡◌, ℕ, ◌+◌, ◌-◌, ◌≤◌, List, [], ◌∷◌, ◌++◌, length, take, drop, Option, None, refl, sym, ap, ◌∙◌, arith}
use Rattle.std.proofs.lemmas.List.{length-set, length-replicate, length-drop, take-append-drop, drop-drop, drop_all}
use Rattle.std.proofs.lemmas.List.Sums.{sum_by-append}
use Rattle.std.proofs.Math.Seq.{take-add}
use Rattle.saved_guest.specs.IdealGuests.Words.{GuestShape, interrupt_count, Message, Wire, Msi}
use Rattle.saved_guest.specs.IdealGuests.Calls.{GuestSpec, shapes_of}
use Rattle.saved_guest.specs.IdealGuests.declared.guest.IdealGuest.{IdealGuest}
use Rattle.saved_guest.specs.ScnSaved.ScnBase.declared.standing.MovedWire.{MovedWire}
use Rattle.saved_guest.specs.ScnSaved.ScnBase.declared.standing.Standing.{Standing}
use Rattle.saved_guest.specs.ScnSaved.ScnBase.declared.step.Step.{Step}
use Rattle.saved_guest.specs.ScnSaved.ScnBase.declared.step.Step.TheVariants.{Vcpu, Device, Pe}
use Rattle.saved_guest.specs.ScnSaved.ScnBase.Standing.{wire_count, wire_place, wires_after, standing_after, opening_standing}
use Rattle.saved_guest.specs.Standing.{wires_of, all_wires}
use Rattle.saved_take.specs.Taken.{taken_of, wires_at, all_taken, stands_after, standing_at}
use Rattle.saved_take.specs.Back.{AreTaken, StandingTellsBack}
use Rattle.saved_take.proofs.BackLemmas.{wires_tell_back}

-- ---- what stays of a standing

length-wires_after : (shapes : List GuestShape) (step : Step) (wires : List (Option MovedWire)) → length (wires_after shapes step wires) ≡ length wires
length-wires_after shapes (Vcpu guest vcpu op) wires = refl
length-wires_after shapes (Device guest device (Message spi)) wires = refl
length-wires_after shapes (Device guest device (Wire key up)) wires = length-set wires (wire_place shapes guest key) _
length-wires_after shapes (Device guest device (Msi number event)) wires = refl
length-wires_after shapes (Pe pe op) wires = refl

shapes_stay : (steps : List Step) (standing : Standing) → (stands_after steps standing).shapes ≡ standing.shapes
shapes_stay [] standing = refl
shapes_stay (step ∷ steps) standing = shapes_stay steps (standing_after step standing)

wires_stay : (steps : List Step) (standing : Standing) → length (stands_after steps standing).wires ≡ length standing.wires
wires_stay [] standing = refl
wires_stay (step ∷ steps) standing = wires_stay steps (standing_after step standing) ∙ length-wires_after standing.shapes step standing.wires

-- ---- the wires of all guests

pub one_first : (shape : GuestShape) (rest : List GuestShape) → wire_count (shape ∷ rest) ≡ interrupt_count shape + wire_count rest
one_first shape rest =
    let one : wire_count (shape ∷ []) ≡ interrupt_count shape = omega arith in
    sum_by-append interrupt_count (shape ∷ []) rest ∙ ap (λ k. k + wire_count rest) one

pub room_for : (wires all at count rest left own : ℕ) → wires ≡ all → all ≡ at + (count + rest) → left ≡ wires - at → own ≡ count → own ≤ left
room_for wires all at count rest left own each parts long same = omega arith

module _ (standing : Standing) (each : length standing.wires ≡ wire_count standing.shapes) where
  before : ℕ → ℕ
  before n = wire_count (take n standing.shapes)

  -- those of the first guests, and those of the others
  pub parted : (n : ℕ) (rest : List GuestShape) → drop n standing.shapes ≡ rest → wire_count standing.shapes ≡ wire_count (take n standing.shapes) + wire_count rest
  parted n rest left =
      ap wire_count (sym (take-append-drop n standing.shapes)) ∙ sum_by-append interrupt_count (take n standing.shapes) (drop n standing.shapes) ∙ ap (λ shapes. wire_count (take n standing.shapes) + wire_count shapes) left

  next_left : (n : ℕ) (shape : GuestShape) (rest : List GuestShape) → drop n standing.shapes ≡ shape ∷ rest → drop (n + 1) standing.shapes ≡ rest
  next_left n shape rest left = sym (drop-drop 1 n standing.shapes) ∙ ap (drop 1) left

  pub next_before : (n : ℕ) (shape : GuestShape) (rest : List GuestShape) → drop n standing.shapes ≡ shape ∷ rest → wire_count (take (n + 1) standing.shapes) ≡ wire_count (take n standing.shapes) + interrupt_count shape
  next_before n shape rest left =
      let one : take 1 (drop n standing.shapes) ≡ shape ∷ [] = ap (take 1) left in
      let none : wire_count (shape ∷ []) ≡ interrupt_count shape = omega arith in
      ap wire_count (take-add n 1 standing.shapes)
      ∙ sum_by-append interrupt_count (take n standing.shapes) (take 1 (drop n standing.shapes))
      ∙ ap (λ shapes. wire_count (take n standing.shapes) + wire_count shapes) one
      ∙ ap (λ count. wire_count (take n standing.shapes) + count) none

  wires_from : (n : ℕ) (guests : List GuestSpec) (states : List IdealGuest) → drop n standing.shapes ≡ shapes_of guests → AreTaken standing n guests states → all_wires guests (all_taken standing n guests states) ≡ wires_at standing n
  wires_from n [] [] left taken = let all = parted n [] left in sym (drop_all (wire_count (take n standing.shapes)) standing.wires (omega (arith, each, all)))
  wires_from n [] (state ∷ states) left taken = absurd taken
  wires_from n (guest ∷ guests) [] left taken = absurd taken
  wires_from n (guest ∷ guests) (state ∷ states) left taken =
      let count = interrupt_count guest.shape in
      let at = wire_count (take n standing.shapes) in
      let same : interrupt_count state.shape ≡ count = ap interrupt_count taken.0.shape in
      let all : wire_count standing.shapes ≡ at + (count + wire_count (shapes_of guests)) = parted n (guest.shape ∷ shapes_of guests) left ∙ ap (λ k. at + k) (one_first guest.shape (shapes_of guests)) in
      let enough : interrupt_count state.shape ≤ length (wires_at standing n) =
      room_for (length standing.wires) (wire_count standing.shapes) at count (wire_count (shapes_of guests)) (length (wires_at standing n)) (interrupt_count state.shape) each all (length-drop at standing.wires) same in
      let own : wires_of guest.shape (taken_of guest (wires_at standing n) state).rec ≡ take count (wires_at standing n) =
      wires_tell_back guest (wires_at standing n) state taken.0.good taken.0.sound taken.0.shape enough taken.0.levels ∙ ap (λ k. take k (wires_at standing n)) same in
      let others : all_wires guests (all_taken standing (n + 1) guests states) ≡ wires_at standing (n + 1) = wires_from (n + 1) guests states (next_left n guest.shape (shapes_of guests) left) taken.1 in
      let further : wires_at standing (n + 1) ≡ drop count (wires_at standing n) =
      ap (λ k. drop k standing.wires) (next_before n guest.shape (shapes_of guests) left) ∙ sym (drop-drop count at standing.wires) in
      ap (λ wires. wires ++ all_wires guests (all_taken standing (n + 1) guests states)) own
      ∙ ap (λ wires. take count (wires_at standing n) ++ wires) (others ∙ further)
      ∙ take-append-drop count (wires_at standing n)

pub standing_tells_back : StandingTellsBack
standing_tells_back scenario done states taken =
    let standing = standing_at scenario done in
    let opened = opening_standing scenario.pes (shapes_of scenario.guests) in
    let shapes : standing.shapes ≡ shapes_of scenario.guests = shapes_stay (take done scenario.steps) opened in
    let none : Option MovedWire = None in
    let wires : length standing.wires ≡ wire_count (shapes_of scenario.guests) = wires_stay (take done scenario.steps) opened ∙ length-replicate (wire_count (shapes_of scenario.guests)) none in
    let told : all_wires scenario.guests (all_taken standing 0 scenario.guests states) ≡ standing.wires = wires_from standing (wires ∙ ap wire_count (sym shapes)) 0 scenario.guests states shapes taken in
    ap (λ (s : List GuestShape). let x : Standing = record { shapes = s; pes = standing.pes; wires = all_wires scenario.guests (all_taken standing 0 scenario.guests states) } in x) (sym shapes)
    ∙ ap (λ (w : List (Option MovedWire)). let x : Standing = record standing { wires = w } in x) told
