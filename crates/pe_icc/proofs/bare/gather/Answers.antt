-- It leaves, and enters with nothing.
use Rattle.pe_icc.proofs.BareLemmas.{gathers_so}
use Rattle.pe_icc.proofs.bare.gather.Goals as goal

pub returns : goal.returns
returns g c =
    gathers_so (g.P.Port.seen c.args.port.now) (g.P.Port.seen c.leave-shelved.new.port) (g.P.Port.seen c.enter_bare.new.port) c.args.vcpu c.enter_bare.result c.leave-shelved.result c.leave-shelved.ensures.value c.leave-shelved.ensures.leaves c.enter_bare.ensures
