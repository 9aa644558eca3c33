-- Where the vCPU is one of them, and where not.
use Rattle.std.proofs.Common.{[], ◌∷◌, if◌then◌else◌, sym, ap, subst, ◌∙◌}
use Rattle.pe_loop.specs.Words.{Private, has_bit}
use Rattle.pe_loop.specs.GicCall.declared.event.Event.TheVariants.{Raise}
use Rattle.pe_icc.specs.Sgi.{Sends}
use Rattle.pe_icc.proofs.SgiLemmas.{sends_none, sends_one}
use Rattle.pe_icc.proofs.sgi.send_at.Goals as goal

pub returns-then-has_bit : goal.returns-then-has_bit
returns-then-has_bit g c =
    let old = g.P.Port.seen c.args.port.now in
    let new = g.P.Port.seen c.raise.new.port in
    let key = Private c.args.vcpu c.args.id in
    subst (λ b. Sends old new (if b then Raise key ∷ [] else [])) (sym c.if-has_bit.true ∙ c.has_bit.ensures ∙ ap (λ n. has_bit n c.args.vcpu) c.from.ensures) (sends_one old new key c.requires.owes c.raise.ensures)

pub returns-else-has_bit : goal.returns-else-has_bit
returns-else-has_bit g c =
    let old = g.P.Port.seen c.args.port.now in
    subst (λ b. Sends old old (if b then Raise (Private c.args.vcpu c.args.id) ∷ [] else [])) (sym c.if-has_bit.false ∙ c.has_bit.ensures ∙ ap (λ n. has_bit n c.args.vcpu) c.from.ensures) (sends_none old c.requires.owes)
