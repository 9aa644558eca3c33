use Rattle.std.proofs.Common.{◌≡◌, Option, Some, None, false, fold, take}
use Rattle.std.specs.Option.{option_map_or}
use Rattle.floor_histories.specs.Histories.{Turn, is_open}
use Rattle.history_check.proofs.track.Track.is_last_of_open.Given as goal

abbrev pub invariant-loop-turn : goal.invariant-loop-turn
invariant-loop-turn l = l.is_open ≡ option_map_or (is_open l.self l.vcpu) (fold (λ (last : Option Turn) (turn : Turn). Some turn) None (take l.turn-index l.turns)) false
