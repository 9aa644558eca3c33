use Rattle.std.proofs.Common.{ap, ◌∙◌, sym, rules}
use Rattle.port_core.specs.After.{claimed_at}
use Rattle.port_core.specs.Effect.{may_move}
use Rattle.port_core.proofs.AdvanceLemmas.{claim_done}
use Rattle.port_core.proofs.local.Local.try_claim.Goals as goal

pub returns-then-may_claim : goal.returns-then-may_claim
returns-then-may_claim c =
    c.claim.ensures
    ∙ ap (λ irq. claimed_at c.args.shape.now c.args.actor c.args.key irq c.args.self.now) c.irq_in-irq.ensures.value
    ∙ claim_done c.args.shape.now c.args.actor c.args.self.now c.args.key c.args.seen c.args.found (search rules)
    (sym (ap (may_move c.args.shape.now c.args.actor c.args.self.now c.args.key) c.irq_in-irq.ensures.value) ∙ sym c.may_claim.ensures ∙ search rules)
