use Rattle.std.proofs.Common.{rules, subst, sym}
use Rattle.history_check.specs.Ready.{IsReady}
use Rattle.history_check.proofs.ReadyLemmas.{ready_cpu}
use Rattle.history_check.proofs.state.State.set_cpu.Goals as goal

pub returns-clause-value : goal.returns-clause-value
returns-clause-value c = search rules

pub returns-clause-ready : goal.returns-clause-ready
returns-clause-ready c = subst IsReady (sym (returns-clause-value c)) (ready_cpu c.args.self.now c.args.vcpu c.args.cpu c.requires.ready c.requires.points)
