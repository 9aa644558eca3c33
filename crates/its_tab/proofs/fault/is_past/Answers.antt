use Rattle.std.proofs.Common.{◌≡◌, ℕ, ◌<◌, ◌≤◌, ◌/◌, ◌^◌, not, nat_lt, arith}
use Rattle.std.proofs.Math.Nat.{div-eq_of_lt}
use Rattle.std.proofs.Math.Pow.{pow_mono}
use Rattle.std.proofs.lemmas.Nat.{pow_pos, le-div}
use Rattle.std.proofs.lemmas.Grind.{common_steps}
use Rattle.its_tab.proofs.fault.is_past.Goals as goal

shifted : (event bits : ℕ) → nat_lt 0 (event / 2 ^ bits) ≡ not (nat_lt event (2 ^ bits))
shifted event bits =
    let below : event < 2 ^ bits → event / 2 ^ bits ≡ 0 = λ h. div-eq_of_lt h in
    let above : 2 ^ bits ≤ event → 1 ≤ event / 2 ^ bits = λ h. le-div 1 event (2 ^ bits) (pow_pos bits) (omega arith) in
    grind (arith, common_steps)

pub returns-then-bits-lt-BITS : goal.returns-then-bits-lt-BITS
returns-then-bits-lt-BITS c = shifted c.args.event c.args.bits

pub returns-else-bits-lt-BITS : goal.returns-else-bits-lt-BITS
returns-else-bits-lt-BITS c =
    let many : 32 ≤ c.args.bits = omega arith in
    let power : 2 ^ 32 ≤ 2 ^ c.args.bits = pow_mono many in
    let fits : c.args.event < 2 ^ 32 = omega arith in
    grind (arith, common_steps)
