-- One PE after the other is left.
use Rattle.std.proofs.Common.{refl, subst, arith, rules}
use Rattle.law_one_thread_is_eager.specs.PortSeq.Ports.{told_all}
use Rattle.run_seq.proofs.CloseLemmas.{ClosesSoFar, all_closed, closes_none, next_leaves, next_ready, next_still}
use Rattle.run_seq.proofs.machine.Machine.close.Goals.{then-is_some+in-Regs-1, then-is_some+in-Nothing-1, else-is_some}
use Rattle.run_seq.proofs.machine.Machine.close.Goals as goal

pub loop-pe-init : goal.loop-pe-init
loop-pe-init g c = (closes_none c.args.self.now (told_all c.args.port.now), c.len-pe-end.ensures)

pub step-requires-clause-ready : goal.step-requires-clause-ready
step-requires-clause-ready g c = next_ready c.args.self.now c.loop-pe.self (told_all c.args.port.now) (told_all c.loop-pe.port) c.loop-pe.pe c.loop-pe.invariant.0 c.as_slice.result.now c.as_slice.ensures (omega (arith, c.loop-pe-test.true, c.loop-pe.invariant.1, c.loop-pe.invariant.0.each)) c.is_some.result c.is_some.ensures c.if-is_some.true c.requires.of

pub loop-pe-preserved : goal.loop-pe-preserved
loop-pe-preserved g c =
    elim c.if-is_some.branch [
      | then-is_some+in-Regs-1 w ↦ (
        next_leaves c.args.self.now c.loop-pe.self (told_all c.args.port.now) (told_all c.loop-pe.port) c.loop-pe.pe c.loop-pe.invariant.0 c.as_slice.result.now c.as_slice.ensures (omega (arith, c.loop-pe-test.true, c.loop-pe.invariant.1, c.loop-pe.invariant.0.each)) c.is_some.result c.is_some.ensures w.if-is_some.true c.requires.of w.step.new.self c.if-is_some.self w.step.new.port c.if-is_some.port w.step.result w.self-is w.port-is w.step.ensures,
        c.loop-pe.invariant.1,
      )
      | then-is_some+in-Nothing-1 w ↦ (
        next_leaves c.args.self.now c.loop-pe.self (told_all c.args.port.now) (told_all c.loop-pe.port) c.loop-pe.pe c.loop-pe.invariant.0 c.as_slice.result.now c.as_slice.ensures (omega (arith, c.loop-pe-test.true, c.loop-pe.invariant.1, c.loop-pe.invariant.0.each)) c.is_some.result c.is_some.ensures w.if-is_some.true c.requires.of w.step.new.self c.if-is_some.self w.step.new.port c.if-is_some.port w.step.result w.self-is w.port-is w.step.ensures,
        c.loop-pe.invariant.1,
      )
      | else-is_some w ↦ (
        next_still c.args.self.now c.loop-pe.self (told_all c.args.port.now) (told_all c.loop-pe.port) c.loop-pe.pe c.loop-pe.invariant.0 c.as_slice.result.now c.as_slice.ensures (omega (arith, c.loop-pe-test.true, c.loop-pe.invariant.1, c.loop-pe.invariant.0.each)) c.is_some.result c.is_some.ensures w.if-is_some.false c.if-is_some.self c.loop-pe.port c.if-is_some.port w.self-is w.port-is refl,
        c.loop-pe.invariant.1,
      )
    ]

pub returns : goal.returns
returns g c = all_closed c.args.self.now c.loop-pe.self (told_all c.args.port.now) (told_all c.loop-pe.port) (subst (ClosesSoFar c.args.self.now c.loop-pe.self (told_all c.args.port.now) (told_all c.loop-pe.port)) (search rules) c.loop-pe.invariant.0)
