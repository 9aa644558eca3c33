use Rattle.std.proofs.Common.{◌≡◌, ◌+◌, ◌++◌, true, drop, string_bytes}
use Rattle.std.specs.Prelude.{is_some}
use Rattle.gic_host.specs.State.{opening}
use Rattle.gic_host.specs.Text.{lines}
use Rattle.gic_host.specs.Good.{are_good_steps}
use Rattle.gic_host.specs.Access.{IsRunning}
use Rattle.gic_host.proofs.run.run_host.Given as goal

-- the state is one of a run, the steps that are left have no fault in it, and their lines end the text
abbrev pub invariant-loop-index : goal.invariant-loop-index
invariant-loop-index l =
    record {
      running : IsRunning l.scenario.links l.scenario.vcpus l.host;
      good : are_good_steps l.scenario.links l.scenario.vcpus (is_some l.host.loaded) (drop l.index l.scenario.steps) ≡ true;
      told : string_bytes l.text ++ lines l.scenario.lrs (l.index + 1) l.host (drop l.index l.scenario.steps) ≡ lines l.scenario.lrs 1 (opening l.scenario) l.scenario.steps;
    }
