use Rattle.std.proofs.Common.{◌≡◌, ◌-◌, ◌∙◌, None, ap, sym, arith, get_or}
use Rattle.std.specs.Option.{option_map}
use Rattle.vcpu_refill.specs.Plan.{pending_choice}
use Rattle.vcpu_refill.proofs.FillLemmas.{choice_active, choice_pending, choice_past}
use Rattle.vcpu_refill.proofs.chooser.Chooser.choice_at.Goals as goal

pub returns-then-place-active-clause-value : goal.returns-then-place-active-clause-value
returns-then-place-active-clause-value c shape there actives deliverables keeps long fits =
    c.active_choice.ensures.value shape there
    ∙ choice_active actives deliverables c.args.cut c.args.self.now.vcpu c.args.cpu.now shape c.args.self.now.lrs c.args.place c.args.self.now.active.places (ap (λ r. r.places) keeps.kept_active) c.requires (omega (arith, long, c.if-place-active.true))

pub returns-then-place-self-clause-value : goal.returns-then-place-self-clause-value
returns-then-place-self-clause-value c shape there actives deliverables keeps long fits =
    let lrs : c.self.inside.lrs ≡ c.args.self.now.lrs = ap (λ kept. kept.lrs) c.self.view_is in
    c.pending_choice.ensures.value
    ∙ ap (λ n. option_map pending_choice (get_or c.args.self.now.deliverable.places (c.args.place - n) None)) (sym long)
    ∙ choice_pending actives deliverables c.args.cut c.args.self.now.vcpu c.args.cpu.now shape c.args.self.now.lrs c.args.place c.args.self.now.deliverable.places (ap (λ r. r.places) keeps.kept_deliverable) c.requires
    (omega (arith, long, c.if-place-active.false)) (omega (arith, lrs, c.if-place-self.true))

pub returns-clause-value : goal.returns-clause-value
returns-clause-value c shape there actives deliverables keeps long fits =
    let lrs : c.self.inside.lrs ≡ c.args.self.now.lrs = ap (λ kept. kept.lrs) c.self.view_is in
    choice_past actives deliverables c.args.cut c.args.self.now.vcpu c.args.cpu.now shape c.args.self.now.lrs c.args.place (omega (arith, long, fits)) (omega (arith, lrs, c.if-place-self.false))
