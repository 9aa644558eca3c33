-- Sets of vCPUs as words.
use Rattle.std.proofs.Common.{◌≤◌, ◌<◌, ◌+◌, ◌*◌, ◌%◌, ◌^◌, ℕ, arith}
use Rattle.std.proofs.Math.Pow.{pow_mono}

-- a greatest number of a set fits a word
pub sum_fits : (x n : ℕ) → n < 32 → x < 2 ^ n → x + 1 * 2 ^ n % 2 ^ 32 < 2 ^ 32
sum_fits x n h few = let at_most : 2 ^ n ≤ 2 ^ 31 = pow_mono {j = 31} (omega (arith, h)) in omega (arith, at_most)
