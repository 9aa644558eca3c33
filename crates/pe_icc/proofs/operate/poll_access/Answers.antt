-- With a kick, and without one.
use Rattle.std.proofs.Common.{refl, sym, ap, ◌∙◌}
use Rattle.pe_icc.proofs.PollLemmas.{kicked_so, done_so}
use Rattle.pe_icc.proofs.operate.poll_access.Goals as goal

pub returns-then-of : goal.returns-then-of
returns-then-of g c =
    kicked_so (g.P.Port.seen c.args.port.now) (g.P.Port.seen c.step-word.new.self) c.args.reg c.args.write c.step-word.result c.args.vcpu.now c.args.vcpu.now c.requires.set c.step-word.ensures.adds
    (sym (ap (λ word. word.kick) c.of.ensures) ∙ c.if-of.true) refl

pub returns : goal.returns
returns g c =
    done_so (g.P.Port.seen c.args.port.now) (g.P.Port.seen c.step-word.new.self) c.args.reg c.args.write c.step-word.result c.args.vcpu.now c.operate.new.vcpu c.operate.result (g.P.Port.is_port c.args.port.now) c.requires.set c.step-word.ensures.adds
    (sym (ap (λ word. word.kick) c.of.ensures) ∙ c.if-of.false) c.operate.ensures
