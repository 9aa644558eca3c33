-- The wires of all guests in one numbering: each has a place of its own.
use Rattle.std.proofs.Common.{◌≡◌, ◌≢◌, ℕ, zero, suc, ◌+◌, ◌<◌, List, [], ◌∷◌, take, Some, refl, ap, arith}
use Rattle.std.specs.List.{slice_get}
use Rattle.eager_rest.specs.LawSavesGoOn.RunsSplit.GicIdeal.IdealGuests.Words.{GuestShape, interrupt_count}
use Rattle.eager_rest.specs.LawSavesGoOn.RunsSplit.GicIdeal.ScnBase.Standing.{wire_count}
use Rattle.eager_rest.proofs.LawSavesGoOn.SavedTake.StandingBack.{one_first}

same_shape : (a b : GuestShape) → Some a ≡ Some b → interrupt_count a ≡ interrupt_count b
same_shape a b e = ap interrupt_count (of e)
  where
    of : Some a ≡ Some b → a ≡ b
    of e = cc

-- a wire of a guest is one of all
pub wire_within : (shapes : List GuestShape) (n : ℕ) (shape : GuestShape) (place : ℕ) → slice_get shapes n ≡ Some shape → place < interrupt_count shape → wire_count (take n shapes) + place < wire_count shapes
wire_within [] n shape place at few = absurd (cc)
wire_within (one ∷ shapes) zero shape place at few = let same = same_shape one shape at in let all = one_first one shapes in let none : wire_count (take 0 (one ∷ shapes)) ≡ 0 = refl in omega (arith, few, same, all, none)
wire_within (one ∷ shapes) (suc n) shape place at few =
    let later = wire_within shapes n shape place at few in
    let all = one_first one shapes in
    let before : wire_count (take (suc n) (one ∷ shapes)) ≡ interrupt_count one + wire_count (take n shapes) = one_first one (take n shapes) in
    omega (arith, later, all, before)

-- those of two guests are two
pub wires_apart : (shapes : List GuestShape) (n m : ℕ) (one other : GuestShape) (x y : ℕ) → n ≢ m → slice_get shapes n ≡ Some one → slice_get shapes m ≡ Some other → x < interrupt_count one → y < interrupt_count other
    → wire_count (take n shapes) + x ≢ wire_count (take m shapes) + y
wires_apart [] n m one other x y differ a b few less e = absurd (cc)
wires_apart (s ∷ shapes) zero zero one other x y differ a b few less e = differ refl
wires_apart (s ∷ shapes) zero (suc m) one other x y differ a b few less e =
    let same = same_shape s one a in
    let none : wire_count (take 0 (s ∷ shapes)) ≡ 0 = refl in
    let before : wire_count (take (suc m) (s ∷ shapes)) ≡ interrupt_count s + wire_count (take m shapes) = one_first s (take m shapes) in
    omega (arith, few, same, none, before, e)
wires_apart (s ∷ shapes) (suc n) zero one other x y differ a b few less e =
    let same = same_shape s other b in
    let none : wire_count (take 0 (s ∷ shapes)) ≡ 0 = refl in
    let before : wire_count (take (suc n) (s ∷ shapes)) ≡ interrupt_count s + wire_count (take n shapes) = one_first s (take n shapes) in
    omega (arith, less, same, none, before, e)
wires_apart (s ∷ shapes) (suc n) (suc m) one other x y differ a b few less e =
    let first : wire_count (take (suc n) (s ∷ shapes)) ≡ interrupt_count s + wire_count (take n shapes) = one_first s (take n shapes) in
    let second : wire_count (take (suc m) (s ∷ shapes)) ≡ interrupt_count s + wire_count (take m shapes) = one_first s (take m shapes) in
    wires_apart shapes n m one other x y (λ same. differ (ap suc same)) a b few less (omega (arith, first, second, e))
