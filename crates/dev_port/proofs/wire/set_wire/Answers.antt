-- A step of the wire, and what it owes.
use Rattle.std.proofs.Common.{◌≡◌, if◌then◌else◌, Ok, Err, ap, sym, subst, ◌∙◌}
use Rattle.its_exec.specs.Core.{CoreStep, AddsStep}
use Rattle.dev_port.specs.Device.{wire_step}
use Rattle.dev_port.proofs.CallLemmas.{other_level, wire_made}
use Rattle.dev_port.proofs.wire.set_wire.Goals as goal
use Rattle.dev_port.proofs.wire.set_wire.Goals.{then-up, else-up}

pub returns-clause-result : goal.returns-clause-result
returns-clause-result g c = ap (λ so. if so then Err (record {}) else Ok tt) (sym (other_level c.args.wire.now c.args.up c.if-wire-up.false))

pub returns-clause-changed : goal.returns-clause-changed
returns-clause-changed g c =
    let old = g.P.Port.seen c.args.port.now in
    let mid = g.P.Port.seen c.step.new.self in
    let moved : c.if-up.step ≡ wire_step c.args.wire.now.key c.args.up = elim c.if-up.branch [
      | then-up w ↦ w.step-is ∙ ap (wire_step c.args.wire.now.key) (sym w.if-up.true)
      | else-up w ↦ w.step-is ∙ ap (wire_step c.args.wire.now.key) (sym w.if-up.false)
    ] in
    let Adds : CoreStep → Type 0 = λ step. AddsStep old mid step c.step.result in
    wire_made old mid (g.P.Port.seen c.settle.new.port) c.args.wire.now.key c.args.up c.step.result (g.P.Port.is_port c.args.port.now) (g.P.Port.is_port c.settle.new.port) c.requires.ready (subst Adds moved c.step.ensures.adds) c.settle.ensures
