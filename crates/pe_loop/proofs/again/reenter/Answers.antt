-- It leaves, and it enters.
use Rattle.pe_loop.proofs.again.reenter.Goals as goal

pub returns : goal.returns
returns g c = record { mid = g.P.Port.seen c.leave-shelved.new.port; shelved = c.leave-shelved.result; shelved_is = c.leave-shelved.ensures.value; leaves = c.leave-shelved.ensures.leaves; enters = c.enter.ensures }
