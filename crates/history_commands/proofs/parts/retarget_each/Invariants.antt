use Rattle.std.proofs.Common.{◌≡◌, map, take}
use Rattle.history_commands.specs.GicCall.declared.command.Part.TheVariants.{Retarget}
use Rattle.history_commands.proofs.parts.retarget_each.Given as goal

-- a part for each so far
abbrev pub invariant-loop-lpi : goal.invariant-loop-lpi
invariant-loop-lpi l = l.parts ≡ map (λ lpi. Retarget lpi l.target) (take l.lpi-index l.ids)
