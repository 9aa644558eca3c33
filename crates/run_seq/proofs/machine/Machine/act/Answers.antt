-- What is asked of a call.
use Rattle.std.proofs.Common.{subst}
use Rattle.law_one_thread_is_eager.specs.PortSeq.Ports.{told_all}
use Rattle.run_seq.specs.Machine.{IsReady}
use Rattle.run_seq.proofs.ReadyLemmas.{can_operate, can_receive}
use Rattle.run_seq.proofs.machine.Machine.act.Goals as goal

pub operate-requires : goal.operate-requires
operate-requires g c =
    can_operate c.args.self.now (told_all c.args.port.now) c.in-Vcpu.guest c.in-Vcpu.vcpu c.in-Vcpu.op (subst (IsReady c.args.self.now (told_all c.args.port.now)) c.in-Vcpu.is c.requires.ready)

pub receive-requires : goal.receive-requires
receive-requires g c =
    can_receive c.args.self.now (told_all c.args.port.now) c.in-Device.guest c.in-Device.device c.in-Device.op (subst (IsReady c.args.self.now (told_all c.args.port.now)) c.in-Device.is c.requires.ready)
