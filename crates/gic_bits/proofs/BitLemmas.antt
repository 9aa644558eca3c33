-- Flags in numbers.
use Rattle.std.proofs.Common.{◌≡◌, ◌<◌, ℕ, zero, suc, Bool, true, false, nat_eq, refl, arith}
use Rattle.gic_bits.specs.Bits.{bit_of}

-- a bit is its flag
pub bit_back : (n : ℕ) → n < 2 → bit_of (nat_eq n 1) ≡ n
bit_back zero small = refl
bit_back (suc zero) small = refl
bit_back (suc (suc n)) small = absurd (omega (arith, small))

-- a flag is its bit
pub flag_back : (b : Bool) → nat_eq (bit_of b) 1 ≡ b
flag_back false = refl
flag_back true = refl

pub flag_small : (b : Bool) → bit_of b < 2
flag_small false = omega arith
flag_small true = omega arith
