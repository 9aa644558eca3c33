use Rattle.std.proofs.Common.{◌≡◌, ◌++◌, map, drop, fold, None}
use Rattle.serde_json.specs.View.{view}
use Rattle.scn_base.specs.Codes.{first_code, first_of}
use Rattle.scn_read.specs.Preset.{preset_fault, preset_of}
use Rattle.scn_read.proofs.preset.presets.Given as goal

-- the first fault so far and those of the presets that are left give the first of all; without one, the presets so far and those that are left are all
abbrev pub invariant-loop-value : goal.invariant-loop-value
invariant-loop-value l =
    record {
      faults : fold first_code l.fault (map (preset_fault l.counts.vcpus l.counts.spis l.counts.espis) (map view (drop l.value-index l.values))) ≡ first_of (map (preset_fault l.counts.vcpus l.counts.spis l.counts.espis) (map view l.values));
      read : l.fault ≡ None → l.presets ++ map preset_of (map view (drop l.value-index l.values)) ≡ map preset_of (map view l.values);
    }
