-- The read, or the write of the bytes.
use Rattle.std.proofs.Common.{Some, None, sym, ap, subst, ◌∙◌}
use Rattle.its_exec.specs.Registers.{part_of}
use Rattle.its_exec.specs.PortCall.Memory.{ReadsMemory}
use Rattle.pe_mem.proofs.MemoryLemmas.{reads_memory, writes_memory, writes_outside, access_by}
use Rattle.pe_mem.proofs.memory.access_memory.Goals as goal

pub returns-in_default : goal.returns-in_default
returns-in_default g c =
    let old = g.P.Port.seen c.args.port.now in
    let new = g.P.Port.seen c.read_memory.new.port in
    access_by old new c.args.address c.args.size c.read_memory.result c.args.write None c.in_default.is
    (reads_memory old new c.args.address c.args.size c.read_memory.result c.requires.ease (subst (λ address. ReadsMemory old new address c.args.size c.read_memory.result) c.from.ensures c.read_memory.ensures))

pub returns-in-Some-split : goal.returns-in-Some-split
returns-in-Some-split g c =
    let old = g.P.Port.seen c.args.port.now in
    let new = g.P.Port.seen c.update.new.port in
    access_by old new c.args.address c.args.size 0 c.args.write (Some c.in-Some.value) c.in-Some.is
    (writes_memory old new c.args.address c.args.size c.in-Some.value c.in-Some-split.part c.requires.ease
    (ap (λ shape. part_of c.args.address c.args.size shape.ram) (sym c.shape.ensures) ∙ ap (λ address. part_of address c.args.size c.shape.result.ram) (sym c.from-2.ensures) ∙ sym c.split.ensures.value ∙ c.in-Some-split.is) c.update.ensures)

pub returns-in_default-split : goal.returns-in_default-split
returns-in_default-split g c =
    let old = g.P.Port.seen c.args.port.now in
    access_by old old c.args.address c.args.size 0 c.args.write (Some c.in-Some.value) c.in-Some.is
    (writes_outside old c.args.address c.args.size c.in-Some.value c.requires.ease
    (ap (λ shape. part_of c.args.address c.args.size shape.ram) (sym c.shape.ensures) ∙ ap (λ address. part_of address c.args.size c.shape.result.ram) (sym c.from-2.ensures) ∙ sym c.split.ensures.value ∙ c.in_default-split.is))
