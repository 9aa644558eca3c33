use Rattle.std.proofs.Common.{◌≡◌, take}
use Rattle.history_play.proofs.doings.copied_keys.Given as goal

abbrev pub invariant-loop-key : goal.invariant-loop-key
invariant-loop-key l = l.all ≡ take l.key-index l.keys
