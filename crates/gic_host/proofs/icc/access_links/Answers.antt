use Rattle.std.proofs.Common.{◌∙◌, ap, ℕ, List, map}
use Rattle.gic_ich.specs.GicPrio.Interface.{interface_answer}
use Rattle.floor_lists.specs.Lists.{Fill, regs_of, listed_of}
use Rattle.gic_host.specs.State.{interface_of}
use Rattle.gic_host.specs.Access.{read_back}
use Rattle.gic_host.proofs.WholeLemmas.{linked_ok, numbers_ok, answer_ok, cpu_ok, links_ok}
use Rattle.gic_host.proofs.icc.access_links.Goals as goal

pub linked-requires : goal.linked-requires
linked-requires c =
    linked_ok c.args.links.now c.args.states.now c.requires.good c.requires.links_are c.args.vcpu c.args.cpu.now c.requires.points c.args.lrs c.requires.lrs.0 c.requires.lrs.1 c.args.reg c.args.write c.fill_for-fill.result
    c.fill_for-fill.ensures.choice c.fill_for-fill.ensures.entries c.fill_for-fill.ensures.enabled

pub registers-before-requires-clause-entries : goal.registers-before-requires-clause-entries
registers-before-requires-clause-entries c =
    c.linked.ensures.entries
    (numbers_ok c.args.links.now c.args.states.now c.requires.good c.requires.links_are c.args.vcpu c.args.cpu.now c.requires.points c.args.lrs c.requires.lrs.0 c.requires.lrs.1 c.args.reg c.args.write c.fill_for-fill.result
    c.fill_for-fill.ensures.choice c.fill_for-fill.ensures.entries c.fill_for-fill.ensures.enabled)

pub returns-clause-answer : goal.returns-clause-answer
returns-clause-answer c =
    c.value_of.ensures (interface_answer c.args.reg c.args.write (interface_of c.args.cpu.now c.args.vcpu c.args.states.now))
    (answer_ok c.args.links.now c.args.states.now c.requires.good c.requires.links_are c.args.vcpu c.args.cpu.now c.requires.points c.args.lrs c.requires.lrs.0 c.requires.lrs.1 c.args.reg c.args.write c.fill_for-fill.result
    c.fill_for-fill.ensures.choice c.fill_for-fill.ensures.entries c.fill_for-fill.ensures.enabled c.registers-before.result c.access-outcome.new.regs c.access-outcome.result
    (c.registers-before.ensures ∙ ap (λ (f : Fill). regs_of f c.args.cpu.now c.args.lrs) c.linked.ensures.value) (c.fill_for-fill.ensures.untrapped c.requires.usable) c.access-outcome.ensures.follows c.access-outcome.ensures.places)

pub returns-clause-cpu : goal.returns-clause-cpu
returns-clause-cpu c =
    c.cpu_of.ensures.value
    ∙ cpu_ok c.args.links.now c.args.states.now c.requires.good c.requires.links_are c.args.vcpu c.args.cpu.now c.requires.points c.args.lrs c.requires.lrs.0 c.requires.lrs.1 c.args.reg c.args.write c.fill_for-fill.result
    c.fill_for-fill.ensures.choice c.fill_for-fill.ensures.entries c.fill_for-fill.ensures.enabled c.registers-before.result c.access-outcome.new.regs c.access-outcome.result
    (c.registers-before.ensures ∙ ap (λ (f : Fill). regs_of f c.args.cpu.now c.args.lrs) c.linked.ensures.value) (c.fill_for-fill.ensures.untrapped c.requires.usable) c.access-outcome.ensures.follows c.access-outcome.ensures.places

pub returns-clause-links : goal.returns-clause-links
returns-clause-links c =
    c.read_back.ensures
    ∙ ap (λ (words : List ℕ). map (read_back c.args.vcpu words c.listed-2.result.now) c.args.states.now) c.listed.ensures
    ∙ ap (λ (words : List ℕ). map (read_back c.args.vcpu (listed_of c.registers-before.result) words) c.args.states.now) c.listed-2.ensures
    ∙ links_ok c.args.links.now c.args.states.now c.requires.good c.requires.links_are c.args.vcpu c.args.cpu.now c.requires.points c.args.lrs c.requires.lrs.0 c.requires.lrs.1 c.args.reg c.args.write c.fill_for-fill.result
    c.fill_for-fill.ensures.choice c.fill_for-fill.ensures.entries c.fill_for-fill.ensures.enabled c.registers-before.result c.access-outcome.new.regs c.access-outcome.result
    (c.registers-before.ensures ∙ ap (λ (f : Fill). regs_of f c.args.cpu.now c.args.lrs) c.linked.ensures.value) (c.fill_for-fill.ensures.untrapped c.requires.usable) c.access-outcome.ensures.follows c.access-outcome.ensures.places
