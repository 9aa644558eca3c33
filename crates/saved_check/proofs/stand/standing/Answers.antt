use Rattle.std.proofs.Common.{sym, subst, rules}
use Rattle.saved_guest.specs.ScnSaved.ScnBase.Standing.{IsStanding}
use Rattle.saved_check.proofs.RunLemmas.{stands}
use Rattle.saved_check.proofs.stand.standing.Goals as goal

pub returns-clause-fine : goal.returns-clause-fine
returns-clause-fine c = subst IsStanding (sym (search rules)) (stands c.requires.0 c.args.saved.now c.requires.1)
