use Rattle.std.proofs.Common.{◌≡◌, map, take}
use Rattle.guest_end.specs.Home.{home_irq}
use Rattle.guest_end.proofs.home.home_irqs.Given as goal

-- the records so far
abbrev pub invariant-loop-word : goal.invariant-loop-word
invariant-loop-word l = l.irqs ≡ map home_irq (take l.word-index l.words)
