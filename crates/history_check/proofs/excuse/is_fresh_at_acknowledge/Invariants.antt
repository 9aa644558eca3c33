use Rattle.std.proofs.Common.{◌≡◌, ◌||◌, not, true, map}
use Rattle.std.specs.List.{list_all, range_with_len}
use Rattle.floor_histories.specs.Words.{key_at}
use Rattle.floor_histories.specs.Histories.{comes_first, is_excused}
use Rattle.history_check.proofs.excuse.is_fresh_at_acknowledge.Given as goal

-- each interrupt so far that comes first is excused
abbrev pub invariant-loop-place : goal.invariant-loop-place
invariant-loop-place l =
    list_all (λ key. not (comes_first l.state l.vcpu key) || is_excused l.later l.state l.track l.vcpu key) (map (key_at l.state.guest.shape) (range_with_len 0 l.place)) ≡ true
