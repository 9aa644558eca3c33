use Rattle.std.proofs.Common.{◌≡◌, ◌<◌, ℕ, length, get_or}
use Rattle.gic_vm.proofs.reset.fill.Given as goal

-- the places so far have the value
abbrev pub invariant-loop-place : goal.invariant-loop-place
invariant-loop-place g l =
    record {
      end : l.place-end ≡ length l.fn.list;
      long : length l.list ≡ length l.fn.list;
      full : (i : ℕ) → i < l.place → get_or l.list i l.value ≡ l.value;
    }
