-- By what came of the claim and of the take.
use Rattle.pe_loop.proofs.ChosenLemmas.{chosen_missed, chosen_whole, chosen_both, other_state, takeable}
use Rattle.pe_loop.proofs.claims.claim_chosen.Goals as goal

pub returns-then-not-claim : goal.returns-then-not-claim
returns-then-not-claim g c =
    chosen_missed (g.P.Port.seen c.args.port.now) (g.P.Port.seen c.claim.new.port) c.args.choice.now (g.P.Port.is_port c.args.port.now).good.sound.shape c.requires c.if-not-claim.ensures

pub take_causes-requires : goal.take_causes-requires
take_causes-requires g c = takeable (g.P.Port.seen c.args.port.now) (g.P.Port.seen c.claim.new.port) c.args.choice.now (g.P.Port.is_port c.args.port.now) c.requires c.in-Both.is c.if-not-claim.ensures

pub returns-in-Both : goal.returns-in-Both
returns-in-Both g c =
    chosen_both (g.P.Port.seen c.args.port.now) (g.P.Port.seen c.claim.new.port) (g.P.Port.seen c.take_causes.new.port) c.args.choice.now c.take_causes.result (g.P.Port.is_port c.args.port.now) c.requires c.in-Both.is c.if-not-claim.ensures c.take_causes.ensures

pub returns-in-Invalid : goal.returns-in-Invalid
returns-in-Invalid g c =
    chosen_whole (g.P.Port.seen c.args.port.now) (g.P.Port.seen c.claim.new.port) c.args.choice.now (g.P.Port.is_port c.args.port.now).good.sound.shape c.requires (other_state c.args.choice.now.entry.state c.in-Invalid.is) c.if-not-claim.ensures
