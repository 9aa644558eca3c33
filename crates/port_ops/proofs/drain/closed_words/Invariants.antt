use Rattle.std.proofs.Common.{◌≡◌, take}
use Rattle.std.specs.Slots.{slots_items}
use Rattle.port_ops.proofs.drain.closed_words.Given as goal

-- the words so far
abbrev pub invariant-loop-place : goal.invariant-loop-place
invariant-loop-place g l = l.words ≡ take l.place (slots_items l.closed.words)
