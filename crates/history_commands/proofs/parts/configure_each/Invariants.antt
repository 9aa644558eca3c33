use Rattle.std.proofs.Common.{◌≡◌, map, take}
use Rattle.history_commands.specs.GicCall.declared.command.Part.TheVariants.{Configure}
use Rattle.history_commands.proofs.parts.configure_each.Given as goal

-- a part for each so far
abbrev pub invariant-loop-lpi : goal.invariant-loop-lpi
invariant-loop-lpi l = l.parts ≡ map Configure (take l.lpi-index l.ids)
