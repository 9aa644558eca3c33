-- The store.
use Rattle.std.proofs.Common.{ap, ◌∙◌}
use Rattle.pe_mem.specs.Words.{bit_of}
use Rattle.pe_mem.specs.Registers.{enabled_in}
use Rattle.pe_mem.specs.Calls.{ItsCtlr}
use Rattle.pe_its.proofs.RegisterLemmas.{low_enabled, control_writes}
use Rattle.pe_its.proofs.StoredLemmas.{control_knows, stored_has, stored_ready, ready_has}
use Rattle.pe_its.proofs.register.write_control.Goals as goal

pub put_plain-requires-clause-may : goal.put_plain-requires-clause-may
put_plain-requires-clause-may g c = record { fault = tt; lines = λ e. c.requires.ready.lines }

pub returns-clause-writes : goal.returns-clause-writes
returns-clause-writes g c =
    control_writes (g.P.Port.seen c.args.port.now) (g.P.Port.seen c.put_plain.new.port) c.args.queue c.args.value c.from-ctlr.result
    (c.from-ctlr.ensures ∙ ap bit_of (c.enabled_in.ensures ∙ ap enabled_in c.low.ensures ∙ low_enabled c.args.value)) c.put_plain.ensures c.requires.ready

pub returns-clause-ready : goal.returns-clause-ready
returns-clause-ready g c =
    let old = g.P.Port.seen c.args.port.now in
    let new = g.P.Port.seen c.put_plain.new.port in
    stored_ready old new ItsCtlr c.from-ctlr.result c.args.queue (record c.args.queue { ctlr = c.from-ctlr.result }) c.put_plain.ensures c.requires.ready (control_knows old new c.from-ctlr.result c.args.queue c.put_plain.ensures c.requires.ready.knows)

pub returns-clause-has : goal.returns-clause-has
returns-clause-has g c =
    let old = g.P.Port.seen c.args.port.now in
    stored_has old (g.P.Port.seen c.put_plain.new.port) ItsCtlr c.from-ctlr.result c.put_plain.ensures (ready_has old _ _ c.args.queue c.requires.ready)
