use Rattle.ideal_guest.proofs.guest.IdealGuest.operate.Goals as goal

pub returns-in-Mem-clause-answer : goal.returns-in-Mem-clause-answer
returns-in-Mem-clause-answer c = rw c.in-Mem.is (c.operate_memory.ensures.answer c.args.vcpu)

pub returns-in-Mem-clause-after : goal.returns-in-Mem-clause-after
returns-in-Mem-clause-after c = rw c.in-Mem.is (c.operate_memory.ensures.after c.args.vcpu)
