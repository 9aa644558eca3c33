use Rattle.std.proofs.Common.{◌≡◌, take}
use Rattle.gic_check.proofs.its.copy_commands.Given as goal

abbrev pub invariant-loop-targets : goal.invariant-loop-targets
invariant-loop-targets l = l.copy ≡ take l.targets-index l.commands
