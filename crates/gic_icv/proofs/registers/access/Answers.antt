use Rattle.std.proofs.Common.{sym, ap, ◌∙◌}
use Rattle.gic_ich.specs.GicPrio.Access.{answer_of}
use Rattle.gic_icv.specs.declared.registers.Outcome.TheVariants.{Value, Done}
use Rattle.gic_icv.specs.Registers.{cpu_in, candidates_of, registers_after, answered}
use Rattle.gic_icv.proofs.FollowLemmas.{follows_as, no_answer}
use Rattle.gic_icv.proofs.KeepLemmas.{kept}
use Rattle.gic_icv.proofs.registers.access.Goals as goal

pub returns-in-None-clause-follows : goal.returns-in-None-clause-follows
returns-in-None-clause-follows c = λ interface is agrees none.
    let regs = c.args.regs.now in
    let reg = c.args.reg in
    follows_as reg c.args.write regs interface (Value c.read_register.result) c.read_register.new.regs is agrees
    (sym (ap answered (ap (λ write. answer_of reg write (cpu_in regs) (candidates_of regs)) c.in-None.is ∙ c.read_register.ensures.value)))
    (c.read_register.ensures.registers ∙ ap (λ write. registers_after reg write regs) (sym c.in-None.is))

pub returns-in-Some-write-clause-follows : goal.returns-in-Some-write-clause-follows
returns-in-Some-write-clause-follows c = λ interface is agrees none.
    let regs = c.args.regs.now in
    let reg = c.args.reg in
    let value = c.in-Some-write.value in
    follows_as reg c.args.write regs interface Done c.write_register.new.regs is agrees
    (sym (ap answered (ap (λ write. answer_of reg write (cpu_in regs) (candidates_of regs)) c.in-Some-write.is ∙ no_answer reg value (cpu_in regs) (candidates_of regs))))
    (c.write_register.ensures ∙ ap (λ write. registers_after reg write regs) (sym c.in-Some-write.is))

pub returns-in-None-clause-places : goal.returns-in-None-clause-places
returns-in-None-clause-places c = λ interface held is stand none.
    kept c.args.reg c.args.write c.args.regs.now held interface c.read_register.new.regs is stand
    (c.read_register.ensures.registers ∙ ap (λ write. registers_after c.args.reg write c.args.regs.now) (sym c.in-None.is))

pub returns-in-Some-write-clause-places : goal.returns-in-Some-write-clause-places
returns-in-Some-write-clause-places c = λ interface held is stand none.
    kept c.args.reg c.args.write c.args.regs.now held interface c.write_register.new.regs is stand
    (c.write_register.ensures ∙ ap (λ write. registers_after c.args.reg write c.args.regs.now) (sym c.in-Some-write.is))
