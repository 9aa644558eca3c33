-- An access of the CPU interface.
use Rattle.std.proofs.Common.{sym, subst}
use Rattle.pe_icc.specs.Words.{GuestOp, Icc}
use Rattle.pe_op.specs.Operation.{DoesOperation}
use Rattle.pe_op.proofs.FoundLemmas.{icc_found}
use Rattle.pe_op.proofs.operation.guest_op.Goals as goal

pub returns-in-Icc : goal.returns-in-Icc
returns-in-Icc g c =
    let old = g.P.Port.seen c.args.port.now in
    let new = g.P.Port.seen c.icc_op.new.port in
    let made = c.icc_op.ensures in
    let does : DoesOperation old new (Icc c.in-Icc.reg c.in-Icc.write) c.args.vcpu.now c.icc_op.new.vcpu c.icc_op.result
    = record {
      part = made.part;
      adds = made.adds;
      call = made.call;
      found = icc_found old made.part c.in-Icc.reg c.in-Icc.write c.icc_op.result made.call;
      proper = made.proper;
      goes_on = made.goes_on;
      answers = made.answers;
      made = made.light;
      up = made.up;
      same = made.same;
    } in
    subst (λ (op : GuestOp). DoesOperation old new op c.args.vcpu.now c.icc_op.new.vcpu c.icc_op.result) (sym c.in-Icc.is) does
