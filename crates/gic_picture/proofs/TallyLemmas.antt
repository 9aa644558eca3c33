-- What one more step makes of the guests, and of what is known of an interrupt.
use Rattle.std.proofs.Common.{◌≡◌, ℕ, ◌+◌, ◌<◌, Bool, true, false, not, cond, IsTrue, List, [], ◌∷◌, ◌++◌, All, length, map, take, get_or, refl, sym, ap, ◌∙◌, add-zero, add-one, arith}
use Rattle.std.specs.List.{range_with_len, count_by}
use Rattle.std.proofs.lemmas.List.{take_more}
use Rattle.std.proofs.lemmas.List.Sums.{sum_by_push, count_by-le-length}
use Rattle.std.proofs.lemmas.List.Elements.{All-same, All-map}
use Rattle.std.proofs.lemmas.List.FromFn.{length-range_with_len}
use Rattle.ideal_guest.proofs.GicCall.RangeLemmas.{range_with_len_more}
use Rattle.ideal_guest.specs.Words.{GuestShape}
use Rattle.ideal_guest.specs.declared.guest.IdealGuest.{IdealGuest}
use Rattle.scn_base.specs.declared.step.Step.{Step}
use Rattle.gic_ideal.specs.Eager.{after_step, after_steps}
use Rattle.gic_picture.specs.declared.names.IrqName.{IrqName}
use Rattle.gic_picture.specs.declared.rows.Tally.{Tally}
use Rattle.gic_picture.specs.Names.{is_there, names_from}
use Rattle.gic_picture.specs.Marks.{irq_in}
use Rattle.gic_picture.specs.Rows.{is_same_irq, next_tally, touches, tally_after}
use Rattle.gic_picture.proofs.NameLemmas.{irqs_there}

after_steps-append : (first next : List Step) (guests : List IdealGuest) → after_steps (first ++ next) guests ≡ after_steps next (after_steps first guests)
after_steps-append [] next guests = refl
after_steps-append (step ∷ first) next guests = after_steps-append first next (after_step step guests)

-- the guests after one more step
pub one_more_step : (steps : List Step) (guests : List IdealGuest) (n : ℕ) (d step : Step) → n < length steps → step ≡ get_or steps n d
    → after_steps (take (n + 1) steps) guests ≡ after_step step (after_steps (take n steps) guests)
one_more_step steps guests n d step within is =
    let more : take (n + 1) steps ≡ take n steps ++ step ∷ [] = take_more steps n d within ∙ ap (λ it. take n steps ++ it ∷ []) (sym is) in
    ap (λ some. after_steps some guests) more ∙ after_steps-append (take n steps) (step ∷ []) guests

-- one more number counts where it passes
count_by_push : (p : ℕ → Bool) (xs : List ℕ) (x : ℕ) (same : Bool) → p x ≡ not same → count_by p (xs ++ x ∷ []) ≡ cond same (count_by p xs) (count_by p xs + 1)
count_by_push p xs x true e = sum_by_push (λ y. cond (p y) 1 0) xs x ∙ rw (e, add-zero) refl
count_by_push p xs x false e = sum_by_push (λ y. cond (p y) 1 0) xs x ∙ rw e refl

-- what is known of an interrupt after one more step
pub next_tally-tally_after : (steps : List Step) (guests : List IdealGuest) (n : ℕ) (name : IrqName)
    → next_tally (irq_in (after_steps (take (n + 1) steps) guests) name) (tally_after steps guests n name) ≡ tally_after steps guests (n + 1) name
next_tally-tally_after steps guests n name =
    let p = touches steps guests name in
    let longer : range_with_len 0 (n + 1) ≡ range_with_len 0 n ++ n ∷ [] = rw add-one (range_with_len_more 0 n n (omega arith)) in
    let counted : count_by p (range_with_len 0 (n + 1))
    ≡ cond (is_same_irq (irq_in (after_steps (take n steps) guests) name) (irq_in (after_steps (take (n + 1) steps) guests) name)) (count_by p (range_with_len 0 n)) (count_by p (range_with_len 0 n) + 1)
    = ap (count_by p) longer ∙ count_by_push p (range_with_len 0 n) n _ refl in
    ap (λ count. record (tally_after steps guests (n + 1) name) { touches = count }) (sym counted)

-- the interrupts of tallies are there
pub tallies_there : (shapes : List GuestShape) (steps : List Step) (guests : List IdealGuest) (n : ℕ) (tallies : List Tally)
    → tallies ≡ map (tally_after steps guests n) (names_from 0 shapes) → All (λ tally. IsTrue (is_there shapes tally.name)) tallies
tallies_there shapes steps guests n tallies e =
    let P : Tally → Type 0 = λ tally. IsTrue (is_there shapes tally.name) in
    All-same P tallies (map (tally_after steps guests n) (names_from 0 shapes)) e (All-map P (tally_after steps guests n) (names_from 0 shapes) (irqs_there shapes))

-- there is room for one more touch while steps are left
pub tallies_room : (shapes : List GuestShape) (steps : List Step) (guests : List IdealGuest) (n most : ℕ) (tallies : List Tally) → n < most
    → tallies ≡ map (tally_after steps guests n) (names_from 0 shapes) → All (λ tally. tally.touches < most) tallies
tallies_room shapes steps guests n most tallies h e =
    let P : Tally → Type 0 = λ tally. tally.touches < most in
    let each : (name : IrqName) → P (tally_after steps guests n name) =
    λ name. omega (arith, count_by-le-length (touches steps guests name) (range_with_len 0 n), length-range_with_len 0 n) in
    All-same P tallies (map (tally_after steps guests n) (names_from 0 shapes)) e (All-map P (tally_after steps guests n) (names_from 0 shapes) (λ k name within. each (get_or (names_from 0 shapes) k name)))

-- the tallies after one more step
pub tallies_more : (names : List IrqName) (steps : List Step) (before now : List IdealGuest) (n : ℕ) (tallies next : List Tally) → tallies ≡ map (tally_after steps before n) names
    → now ≡ after_steps (take (n + 1) steps) before → next ≡ map (λ tally. next_tally (irq_in now tally.name) tally) tallies → next ≡ map (tally_after steps before (n + 1)) names
tallies_more names steps before now n tallies next e f g =
    g ∙ rw (e, f) (each names)
  where
    each : (some : List IrqName) → map (λ tally. next_tally (irq_in (after_steps (take (n + 1) steps) before) tally.name) tally) (map (tally_after steps before n) some) ≡ map (tally_after steps before (n + 1)) some
    each [] = refl
    each (name ∷ some) = rw (next_tally-tally_after steps before n name, each some) refl
