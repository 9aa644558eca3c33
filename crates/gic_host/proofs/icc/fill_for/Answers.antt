use Rattle.std.proofs.Common.{refl, ◌+◌, Bool, true, false, ◌≡◌, arith}
use Rattle.std.specs.Prelude.{not}
use Rattle.std.proofs.lemmas.Bool.{false≢true}
use Rattle.gic_host.specs.Text.{offers_at, shape_of}
use Rattle.gic_host.proofs.ControlLemmas.{plan_on, plan_untrapped}
use Rattle.gic_host.proofs.icc.fill_for.Goals as goal

unset : (b : Bool) → not b ≡ true → b ≡ false
unset true e = absurd (false≢true e)
unset false e = refl

pub returns-then-not-fill-clause-enabled : goal.returns-then-not-fill-clause-enabled
returns-then-not-fill-clause-enabled c =
    plan_on c.plan_all-fill.result (offers_at c.args.links.now c.args.vcpu) c.args.vcpu c.args.cpu.now (shape_of (c.args.vcpu + 1)) c.args.lrs (c.plan_all-fill.ensures.value (shape_of (c.args.vcpu + 1)) (omega arith))

pub returns-then-not-fill-clause-untrapped : goal.returns-then-not-fill-clause-untrapped
returns-then-not-fill-clause-untrapped c usable =
    plan_untrapped c.plan_all-fill.result (offers_at c.args.links.now c.args.vcpu) c.args.vcpu c.args.cpu.now (shape_of (c.args.vcpu + 1)) c.args.lrs c.args.reg c.args.write (c.plan_all-fill.ensures.value (shape_of (c.args.vcpu + 1)) (omega arith))
    (unset c.plan_all-fill.result.trapping c.if-not-fill.true) usable
