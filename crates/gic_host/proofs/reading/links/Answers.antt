use Rattle.std.proofs.Common.{◌∙◌, arith}
use Rattle.serde_json.specs.View.{view}
use Rattle.scn_read.proofs.ListLemmas.{faults_ok, read_ok, faults_err, read_err}
use Rattle.gic_host.specs.Reading.{link_fault, link_of}
use Rattle.gic_host.proofs.reading.links.Goals as goal
use Rattle.gic_host.proofs.reading.links.Goals.{in-Ok+in_ok-push-in-Ok, in-Err}

pub loop-value-preserved : goal.loop-value-preserved
loop-value-preserved c =
    elim c.match-link.branch [
      | in-Ok+in_ok-push-in-Ok w ↦ record {
        faults = faults_ok view (link_fault c.args.vcpus) link_of c.args.values.now c.loop-value.value-index c.value-item.result (omega arith) c.value-item.is c.loop-value.fault c.match-link.fault _ w.in-Ok.link w.in-Ok.ensures w.fault-is c.loop-value.invariant.faults;
        read = read_ok view (link_fault c.args.vcpus) link_of c.args.values.now c.loop-value.value-index c.value-item.result (omega arith) c.value-item.is c.loop-value.fault c.match-link.fault c.loop-value.links c.match-link.links _ w.in-Ok.link w.in-Ok.ensures w.fault-is (w.links-is ∙ w.in_ok-push-in-Ok.ensures.ok) c.loop-value.invariant.read;
      }
      | in-Err w ↦ record {
        faults = faults_err view (link_fault c.args.vcpus) link_of c.args.values.now c.loop-value.value-index c.value-item.result (omega arith) c.value-item.is c.loop-value.fault c.match-link.fault _ w.in-Err.code w.in-Err.ensures (w.fault-is ∙ w.first_code-fault.ensures) c.loop-value.invariant.faults;
        read = read_err c.loop-value.fault c.match-link.fault w.in-Err.code (w.fault-is ∙ w.first_code-fault.ensures);
      }
    ]
