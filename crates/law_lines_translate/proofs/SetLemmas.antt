-- Sets of lines, a bit each.
use Rattle.std.proofs.Common.{◌≡◌, ℕ, ◌-◌, ◌^◌, ◌<◌, max, Bool, true, false, IsTrue, bit_or, refl, sym, ap, subst, ◌∙◌, arith}
use Rattle.std.specs.Int.{bit_at}
use Rattle.std.proofs.lemmas.Bool.{eqb-true, eq-eqb}
use Rattle.std.proofs.lemmas.Nat.{or_lt, pow_below}
use Rattle.std.proofs.lemmas.Nat.Bits.{bit_at_or, bit_at_ones, bit_at-lt, same_from_bits_below}
use Rattle.floor_core.specs.Words.{has_bit}
use Rattle.floor_core.specs.Core.{Local, has_all_shut}
use Rattle.floor_core.proofs.PortCore.StepLocals.{no_bit}

-- where all bits are set, each is
pub all_have : (local : Local) (line : ℕ) → IsTrue (has_all_shut local) → line < 64 → IsTrue (has_bit local.shut line)
all_have local line all few = subst (λ n. IsTrue (has_bit n line)) (sym (eqb-true local.shut (2 ^ 64 - 1) all)) (eq-eqb (bit_at (2 ^ 64 - 1) line) 1 (bit_at_ones 64 line few))

-- and one more changes nothing
pub all_with : (shut line : ℕ) → shut ≡ 2 ^ 64 - 1 → line < 64 → bit_or shut (2 ^ line) ≡ 2 ^ 64 - 1
all_with shut line all few =
    same_from_bits_below 64 (bit_or shut (2 ^ line)) (2 ^ 64 - 1) (or_lt 64 shut (2 ^ line) (omega (arith, all)) (pow_below line 64 few)) (omega arith)
    (λ i small. most (bit_at shut i) (bit_at (2 ^ line) i) (bit_at (bit_or shut (2 ^ line)) i) (bit_at (2 ^ 64 - 1) i) (bit_at_or shut (2 ^ line) i) (ap (λ n. bit_at n i) all ∙ bit_at_ones 64 i small) (bit_at-lt (2 ^ line) i) (bit_at_ones 64 i small))
  where
    most : (x y m n : ℕ) → m ≡ max x y → x ≡ 1 → y < 2 → n ≡ 1 → m ≡ n
    most x y m n e one few ones = omega (arith, e, one, few, ones)

-- an actor that knows a line to be shut has the ITS, where one without it knows none
pub knows_some : (local : Local) (line : ℕ) → (local.turn ≡ false → local.shut ≡ 0) → IsTrue (has_bit local.shut line) → IsTrue local.turn
knows_some local line idle h = of local.turn idle
  where
    of : (b : Bool) → (b ≡ false → local.shut ≡ 0) → IsTrue b
    of true none = refl
    of false none = absurd (no_bit line (subst (λ n. IsTrue (has_bit n line)) (none refl) h))
