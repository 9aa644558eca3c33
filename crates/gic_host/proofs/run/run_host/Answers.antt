use Rattle.std.proofs.Common.{◌≡◌, ◌++◌, ◌∙◌, ℕ, List, None, get_or, ap, sym, subst}
use Rattle.std.specs.Prelude.{is_some}
use Rattle.gic_host.specs.declared.step.HostStep.{HostStep}
use Rattle.gic_host.specs.declared.step.HostStep.TheVariants.{Phys}
use Rattle.gic_host.specs.State.{HostState, opening, after}
use Rattle.gic_host.specs.Text.{lines}
use Rattle.gic_host.specs.Good.{step_fault, are_good_steps}
use Rattle.gic_host.specs.Access.{IsRunning}
use Rattle.gic_host.proofs.RunLemmas.{parts, running_opening, running_after, step_good, rest_good, lines_more}
use Rattle.gic_host.proofs.run.run_host.Goals as goal

pub loop-index-init : goal.loop-index-init
loop-index-init c =
    let good = parts c.args.scenario.now c.requires in
    let opens : c.in_ok-host.host ≡ opening c.args.scenario.now = c.in_ok-host.ensures in
    record {
      running = subst (λ (h : HostState). IsRunning c.args.scenario.now.links c.args.scenario.now.vcpus h) (sym opens) (running_opening c.args.scenario.now good);
      good = ap (λ (h : HostState). are_good_steps c.args.scenario.now.links c.args.scenario.now.vcpus (is_some h.loaded) c.args.scenario.now.steps) opens ∙ good.steps;
      told = ap (λ (text : List ℕ). text ++ lines c.args.scenario.now.lrs 1 c.in_ok-host.host c.args.scenario.now.steps) c.new-text.ensures.bytes ∙ ap (λ (h : HostState). lines c.args.scenario.now.lrs 1 h c.args.scenario.now.steps) opens;
    }

pub loop-index-preserved : goal.loop-index-preserved
loop-index-preserved c =
    let scenario = c.args.scenario.now in
    let items : List HostStep = c.as_slice-step-items.result.now in
    let good = c.loop-index.invariant.good in
    let fault = step_good scenario c.loop-index.host items c.as_slice-step-items.ensures c.loop-index.index (Phys 0 None) c.loop-index-test.true good in
    let state : c.take_step.new.host ≡ after (get_or items c.loop-index.index (Phys 0 None)) c.loop-index.host = c.in_ok-take_step.ensures.state in
    rw state
    (record {
      running = running_after scenario.links scenario.vcpus (get_or items c.loop-index.index (Phys 0 None)) c.loop-index.host c.loop-index.invariant.running fault;
      good = rest_good scenario c.loop-index.host items c.as_slice-step-items.ensures c.loop-index.index (Phys 0 None) c.loop-index-test.true good;
      told = lines_more scenario c.loop-index.host items c.as_slice-step-items.ensures c.loop-index.index (Phys 0 None) c.loop-index-test.true good _ _ _ c.in_ok-take_step.ensures.text c.loop-index.invariant.told;
    })

pub take_step-requires-clause-lrs : goal.take_step-requires-clause-lrs
take_step-requires-clause-lrs c = let good = parts c.args.scenario.now c.requires in (good.some_register, good.registers)

pub take_step-requires-clause-running : goal.take_step-requires-clause-running
take_step-requires-clause-running c = subst (λ (n : ℕ). IsRunning c.args.scenario.now.links n c.loop-index.host) (sym c.loop-index.invariant.running.cpus) c.loop-index.invariant.running

pub take_step-requires-clause-good : goal.take_step-requires-clause-good
take_step-requires-clause-good c =
    let scenario = c.args.scenario.now in
    let items : List HostStep = c.as_slice-step-items.result.now in
    ap (λ (n : ℕ). step_fault scenario.links n (is_some c.loop-index.host.loaded) (get_or items c.loop-index.index (Phys 0 None))) c.loop-index.invariant.running.cpus
    ∙ step_good scenario c.loop-index.host items c.as_slice-step-items.ensures c.loop-index.index (Phys 0 None) c.loop-index-test.true c.loop-index.invariant.good
