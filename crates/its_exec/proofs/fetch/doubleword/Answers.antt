-- The look at the doubleword, or none.
use Rattle.std.proofs.Common.{sym, ap, ◌∙◌, ◌+◌, ◌*◌, ◌%◌}
use Rattle.port_call.specs.Registers.{part_of}
use Rattle.its_exec.proofs.FetchLemmas.{doubleword_in, doubleword_known, doubleword_out}
use Rattle.port_call.proofs.MemoryLemmas.{reads_outside}
use Rattle.its_exec.proofs.fetch.doubleword.Goals as goal

pub returns-in-Some-clause-reads : goal.returns-in-Some-clause-reads
returns-in-Some-clause-reads g c =
    doubleword_in (g.P.Port.seen c.args.port.now) (g.P.Port.seen c.read_plain.new.port) _ c.read_plain.result c.shape-ram.result.ram c.in-Some.part
    (sym (sym c.in-Some.is ∙ c.split.ensures.value ∙ ap (λ n. part_of (c.args.address + n) 8 c.shape-ram.result.ram) c.from.ensures)) (ap (λ shape. shape.ram) c.shape-ram.ensures) c.read_plain.type_inv c.read_plain.ensures

pub returns-in-Some-clause-knows : goal.returns-in-Some-clause-knows
returns-in-Some-clause-knows g c =
    doubleword_known (g.P.Port.seen c.args.port.now) (g.P.Port.seen c.read_plain.new.port) c.args.address c.args.number c.read_plain.result c.shape-ram.result.ram c.in-Some.part c.requires.aligned
    (sym (sym c.in-Some.is ∙ c.split.ensures.value ∙ ap (λ n. part_of (c.args.address + n) 8 c.shape-ram.result.ram) c.from.ensures)) c.read_plain.ensures

pub returns-in-None-clause-reads : goal.returns-in-None-clause-reads
returns-in-None-clause-reads g c =
    reads_outside (g.P.Port.seen c.args.port.now) _ 8
    (sym
    (sym c.in-None.is ∙ c.split.ensures.value ∙ ap (λ n. part_of (c.args.address + n) 8 c.shape-ram.result.ram) c.from.ensures ∙ ap (λ shape. part_of (c.args.address + 8 * c.args.number) 8 shape.ram) c.shape-ram.ensures))

pub returns-in-None-clause-knows : goal.returns-in-None-clause-knows
returns-in-None-clause-knows g c =
    doubleword_out (g.P.Port.seen c.args.port.now) c.args.address c.args.number c.shape-ram.result.ram c.requires.aligned (ap (λ shape. shape.ram % 8) c.shape-ram.ensures ∙ (g.P.Port.is_port c.args.port.now).good.sound.shape.ram_words)
    (sym (sym c.in-None.is ∙ c.split.ensures.value ∙ ap (λ n. part_of (c.args.address + n) 8 c.shape-ram.result.ram) c.from.ensures)) (ap (λ shape. shape.ram) c.shape-ram.ensures)
