use Rattle.std.proofs.Common.{sym, ◌∙◌, arith}
use Rattle.serde_json.specs.View.{view}
use Rattle.scn_read.specs.Guest.{guest_fault, guest_of}
use Rattle.scn_read.proofs.ListLemmas.{faults_ok, read_ok, faults_err, read_err}
use Rattle.scn_read.proofs.guest.guests.Goals as goal
use Rattle.scn_read.proofs.guest.guests.Goals.{in-Ok+in_ok-push-in-Ok, in-Err}

pub loop-value-preserved : goal.loop-value-preserved
loop-value-preserved c =
    elim c.match-branch-2.branch [
      | in-Ok+in_ok-push-in-Ok w ↦ record {
        faults = faults_ok view guest_fault guest_of c.args.values.now c.loop-value.value-index c.value-item.result (omega arith) c.value-item.is c.loop-value.fault c.match-branch-2.fault _ w.in-Ok.guest (sym w.in-Ok.is ∙ c.in_ok-guest.ensures) w.fault-is c.loop-value.invariant.faults;
        read = read_ok view guest_fault guest_of c.args.values.now c.loop-value.value-index c.value-item.result (omega arith) c.value-item.is c.loop-value.fault c.match-branch-2.fault c.loop-value.guests c.match-branch-2.guests _ w.in-Ok.guest (sym w.in-Ok.is ∙ c.in_ok-guest.ensures) w.fault-is (w.guests-is ∙ w.in_ok-push-in-Ok.ensures.ok) c.loop-value.invariant.read;
      }
      | in-Err w ↦ record {
        faults = faults_err view guest_fault guest_of c.args.values.now c.loop-value.value-index c.value-item.result (omega arith) c.value-item.is c.loop-value.fault c.match-branch-2.fault _ w.in-Err.code (sym w.in-Err.is ∙ c.in_ok-guest.ensures) (w.fault-is ∙ w.first_code-fault.ensures) c.loop-value.invariant.faults;
        read = read_err c.loop-value.fault c.match-branch-2.fault w.in-Err.code (w.fault-is ∙ w.first_code-fault.ensures);
      }
    ]
