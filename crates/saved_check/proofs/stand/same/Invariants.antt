use Rattle.std.proofs.Common.{◌≡◌, take}
use Rattle.saved_check.proofs.stand.same.Given as goal

abbrev pub invariant-loop-resident : goal.invariant-loop-resident
invariant-loop-resident l = l.residents ≡ take l.resident-index l.pes
