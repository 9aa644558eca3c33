-- How many bytes spans have together.
use Rattle.std.proofs.Common.{ℕ, ◌+◌, ◌*◌, ◌≤◌, zero, suc, map, Bool, true, false, arith}
use Rattle.std.specs.Prelude.{if◌then◌else◌, ◌&&◌, nat_lt}
use Rattle.std.specs.List.{range_with_len}
use Rattle.ideal_guest.specs.declared.guest.IdealGuest.{IdealGuest}
use Rattle.ideal_guest.specs.Sound.{IsSound}
use Rattle.guest_memory.specs.declared.base.Bases.{Bases}
use Rattle.guest_memory.specs.declared.reads.Commands.{Commands}
use Rattle.guest_memory.specs.declared.wants.Span.{Span}
use Rattle.guest_memory.specs.Memory.{is_first, table_of, all_doublewords}
use Rattle.guest_memory.specs.Wants.{bytes_in, span, no_span, table_span}

-- spans of few bytes each
few_from : (span_of : ℕ → Span) (most : ℕ) → ((n : ℕ) → (span_of n).bytes ≤ most) → (first count : ℕ) → bytes_in (map span_of (range_with_len first count)) ≤ count * most
few_from span_of most each first zero = omega arith
few_from span_of most each first (suc count) =
    let one : (span_of first).bytes ≤ most = each first in
    let rest : bytes_in (map span_of (range_with_len (first + 1) count)) ≤ count * most = few_from span_of most each (first + 1) count in
    omega (arith, one, rest)

chosen : (some : Bool) (address bytes : ℕ) → bytes ≤ 4096 → (if some then span address bytes else no_span).bytes ≤ 4096
chosen true address bytes few = few
chosen false address bytes few = omega arith

-- the tables of all vCPUs
pub few_in_tables : (guest : IdealGuest) (bases : Bases) (commands : Commands) → IsSound guest → bytes_in (map (table_span guest bases commands) (range_with_len 0 32)) ≤ 32 * 4096
few_in_tables guest bases commands sound =
    few_from (table_span guest bases commands) 4096
    (λ vcpu.
    chosen (nat_lt 0 commands.count && nat_lt vcpu guest.shape.vcpus && is_first bases vcpu) (table_of bases vcpu) (8 * (all_doublewords guest.shape).count)
    (let lpis = sound.shape.lpis in omega (arith, lpis)))
    0 32
