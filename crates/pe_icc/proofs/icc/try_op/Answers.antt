-- A kick, or the access.
use Rattle.std.proofs.Common.{refl, subst}
use Rattle.pe_icc.specs.Operate.{Polls}
use Rattle.pe_icc.proofs.IccLemmas.{done_owes, done_set, tried_again, tried_done}
use Rattle.pe_icc.proofs.ReenterLemmas.{reenters_so}
use Rattle.pe_icc.proofs.icc.try_op.Goals as goal

pub send_sgis-requires : goal.send_sgis-requires
send_sgis-requires g c =
    let mid = g.P.Port.seen c.prepare-ready.new.port in
    let mid2 = g.P.Port.seen c.poll_access.new.port in
    let ready = c.prepare-ready.result in
    record {
      owes =
          done_owes mid mid2 c.args.reg c.args.write ready.vcpu c.poll_access.new.vcpu c.in-Done.answer
          (subst (Polls mid mid2 c.args.reg c.args.write ready.vcpu c.poll_access.new.vcpu) c.in-Done.is c.poll_access.ensures);
    }

pub refill-requires : goal.refill-requires
refill-requires g c =
    let mid = g.P.Port.seen c.prepare-ready.new.port in
    let mid2 = g.P.Port.seen c.poll_access.new.port in
    let ready = c.prepare-ready.result in
    done_set mid mid2 (g.P.Port.seen c.send_sgis.new.port) c.args.reg c.args.write ready c.poll_access.new.vcpu c.in-Done.answer c.prepare-ready.ensures.set
    (subst (Polls mid mid2 c.args.reg c.args.write ready.vcpu c.poll_access.new.vcpu) c.in-Done.is c.poll_access.ensures) c.send_sgis.ensures

pub returns-in-Kicked : goal.returns-in-Kicked
returns-in-Kicked g c =
    let old = g.P.Port.seen c.args.port.now in
    let mid = g.P.Port.seen c.prepare-ready.new.port in
    let mid2 = g.P.Port.seen c.poll_access.new.port in
    let ready = c.prepare-ready.result in
    tried_again old mid mid2 (g.P.Port.seen c.reenter.new.port) c.args.reg c.args.write c.args.stay ready (record { vcpu = c.reenter.result; owing = ready.owing }) c.poll_access.new.vcpu c.prepare-ready.ensures
    (subst (Polls mid mid2 c.args.reg c.args.write ready.vcpu c.poll_access.new.vcpu) c.in-Kicked.is c.poll_access.ensures) (reenters_so mid2 (g.P.Port.seen c.reenter.new.port) c.poll_access.new.vcpu c.reenter.result c.reenter.ensures) refl

pub returns-in-Done : goal.returns-in-Done
returns-in-Done g c =
    let old = g.P.Port.seen c.args.port.now in
    let mid = g.P.Port.seen c.prepare-ready.new.port in
    let mid2 = g.P.Port.seen c.poll_access.new.port in
    let ready = c.prepare-ready.result in
    tried_done old mid mid2 (g.P.Port.seen c.send_sgis.new.port) (g.P.Port.seen c.refill.new.port) c.args.reg c.args.write c.args.stay ready c.poll_access.new.vcpu c.refill.result c.in-Done.answer c.requires.usable c.prepare-ready.ensures
    (subst (Polls mid mid2 c.args.reg c.args.write ready.vcpu c.poll_access.new.vcpu) c.in-Done.is c.poll_access.ensures) c.send_sgis.ensures c.refill.ensures
