-- The try is of the word that was looked at.
use Rattle.std.proofs.Common.{sym, ◌∙◌}
use Rattle.port_call.proofs.TurnLemmas.{tries}
use Rattle.port_call.proofs.turn.try_turn.Goals as goal

pub returns : goal.returns
returns g c =
    tries (g.P.Port.seen c.args.port.now) (g.P.Port.seen c.step-seen.new.self) (g.P.Port.seen c.step.new.self) c.step-seen.result c.step.result (g.P.Port.is_port c.step-seen.new.self) (sym c.is_free.ensures ∙ c.if-not-is_free.false) c.step.ensures.found c.step-seen.ensures.adds
    c.step.ensures.adds
