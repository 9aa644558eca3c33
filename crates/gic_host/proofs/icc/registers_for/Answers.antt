use Rattle.std.proofs.Common.{◌∙◌, ◌∷◌, ap, ℕ, List, take}
use Rattle.gic_host.proofs.WholeLemmas.{plan_linked, plan_numbers, plan_shown}
use Rattle.gic_host.proofs.icc.registers_for.Goals as goal

pub linked-fill-requires : goal.linked-fill-requires
linked-fill-requires c =
    plan_linked c.args.links.now c.args.states.now c.requires.good c.requires.links_are c.args.vcpu c.args.cpu.now c.args.lrs c.plan_all-fill.result c.plan_all-fill.ensures.value

pub words-requires : goal.words-requires
words-requires c =
    c.linked-fill.ensures.entries (plan_numbers c.args.links.now c.args.states.now c.requires.good c.requires.links_are c.args.vcpu c.args.cpu.now c.args.lrs c.plan_all-fill.result c.plan_all-fill.ensures.value)

pub returns : goal.returns
returns c vcpus less =
    ap (λ (words : List ℕ). c.linked-fill.result.hcr ∷ take c.args.lrs words) c.words.ensures
    ∙ plan_shown c.args.links.now c.args.states.now c.requires.good c.requires.links_are c.args.vcpu c.args.cpu.now c.args.lrs c.plan_all-fill.result c.plan_all-fill.ensures.value c.linked-fill.result vcpus c.linked-fill.ensures.value less
