-- The look at the word, or none.
use Rattle.std.proofs.Common.{sym, ap, ◌∙◌}
use Rattle.floor_core.specs.Registers.{part_of}
use Rattle.port_call.proofs.MemoryLemmas.{reads_in, reads_outside}
use Rattle.port_call.proofs.memory.read_memory.Goals as goal

pub returns-in-Some : goal.returns-in-Some
returns-in-Some g c =
    reads_in (g.P.Port.seen c.args.port.now) (g.P.Port.seen c.read_plain.new.port) c.args.address c.args.size c.read_plain.result c.extract.result c.in-Some.part
    (sym (sym c.in-Some.is ∙ c.split.ensures.value ∙ ap (λ shape. part_of c.args.address c.args.size shape.ram) c.shape-ram.ensures))
    c.read_plain.ensures c.extract.ensures.value

pub returns-in-None : goal.returns-in-None
returns-in-None g c =
    reads_outside (g.P.Port.seen c.args.port.now) c.args.address c.args.size
    (sym (sym c.in-None.is ∙ c.split.ensures.value ∙ ap (λ shape. part_of c.args.address c.args.size shape.ram) c.shape-ram.ensures))
