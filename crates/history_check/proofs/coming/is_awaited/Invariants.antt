use Rattle.std.proofs.Common.{◌≡◌, ◌==◌, ◌&&◌, not, false}
use Rattle.std.specs.List.{list_any, range_with_len}
use Rattle.floor_histories.specs.Histories.{doing_of, has_named, is_to_come}
use Rattle.history_check.proofs.coming.is_awaited.Given as goal

-- no call so far
abbrev pub invariant-loop-actor : goal.invariant-loop-actor
invariant-loop-actor l = list_any (λ actor. not (actor == l.vcpu) && (has_named l.shape (doing_of l.track actor) && is_to_come actor l.key l.later)) (range_with_len 0 l.actor) ≡ false
