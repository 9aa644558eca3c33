use Rattle.std.proofs.Common.{arith}
use Rattle.serde_json.specs.View.{view}
use Rattle.scn_hint.specs.Hint.{IsFitGuest}
use Rattle.scn_hint.proofs.FitLemmas.{so_far, all_done}
use Rattle.scn_hint.proofs.place.first_guest.Goals as goal

pub loop-guest-preserved : goal.loop-guest-preserved
loop-guest-preserved c = so_far (IsFitGuest c.args.asks) view c.args.values.now c.loop-guest.guest c.index-values-guest.result (omega arith) c.index-values-guest.is c.loop-guest.invariant c.in_default.ensures.none

pub returns-clause-none : goal.returns-clause-none
returns-clause-none c = all_done (IsFitGuest c.args.asks) view c.args.values.now c.loop-guest.guest (omega arith) c.loop-guest.invariant
