use Rattle.std.proofs.Common.{◌∙◌, arith}
use Rattle.serde_json.specs.View.{view}
use Rattle.scn_read.specs.Preset.{preset_fault, preset_of}
use Rattle.scn_read.proofs.ListLemmas.{faults_ok, read_ok, faults_err, read_err}
use Rattle.scn_read.proofs.preset.presets.Goals as goal
use Rattle.scn_read.proofs.preset.presets.Goals.{in-Ok+in_ok-push-in-Ok, in-Err}

pub loop-value-preserved : goal.loop-value-preserved
loop-value-preserved c =
    elim c.match-preset.branch [
      | in-Ok+in_ok-push-in-Ok w ↦ record {
        faults = faults_ok view (preset_fault c.args.counts.vcpus c.args.counts.spis c.args.counts.espis) preset_of c.args.values.now c.loop-value.value-index c.value-item.result (omega arith) c.value-item.is c.loop-value.fault c.match-preset.fault _ w.in-Ok.preset w.in-Ok.ensures w.fault-is c.loop-value.invariant.faults;
        read = read_ok view (preset_fault c.args.counts.vcpus c.args.counts.spis c.args.counts.espis) preset_of c.args.values.now c.loop-value.value-index c.value-item.result (omega arith) c.value-item.is c.loop-value.fault c.match-preset.fault c.loop-value.presets c.match-preset.presets _ w.in-Ok.preset w.in-Ok.ensures w.fault-is (w.presets-is ∙ w.in_ok-push-in-Ok.ensures.ok) c.loop-value.invariant.read;
      }
      | in-Err w ↦ record {
        faults = faults_err view (preset_fault c.args.counts.vcpus c.args.counts.spis c.args.counts.espis) preset_of c.args.values.now c.loop-value.value-index c.value-item.result (omega arith) c.value-item.is c.loop-value.fault c.match-preset.fault _ w.in-Err.code w.in-Err.ensures (w.fault-is ∙ w.first_code-fault.ensures) c.loop-value.invariant.faults;
        read = read_err c.loop-value.fault c.match-preset.fault w.in-Err.code (w.fault-is ∙ w.first_code-fault.ensures);
      }
    ]
