-- The index, and the looks.
use Rattle.std.proofs.Common.{ap, ◌∙◌}
use Rattle.pe_loop.proofs.RoundLemmas.{rounds_so}
use Rattle.pe_loop.proofs.scan.look_round.Goals as goal

pub returns : goal.returns
returns g c =
    rounds_so (g.P.Port.seen c.args.port.now) (g.P.Port.seen c.take_index.new.port) (g.P.Port.seen c.look_over.new.port) c.args.lrs c.fresh-chooser.result c.look_over.new.chooser c.local_ref.result.now.cpu
    (g.P.Port.is_port c.take_index.new.port) c.take_index.ensures (ap (λ local. local.cpu) c.local_ref.ensures) c.fresh-chooser.ensures.lrs (c.fresh-chooser.ensures.vcpu ∙ c.actor.ensures) c.fresh-chooser.ensures.stands c.look_over.ensures
