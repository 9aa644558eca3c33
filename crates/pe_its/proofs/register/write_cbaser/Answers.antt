-- The stores round the move of the queue, unless the ITS is enabled.
use Rattle.std.proofs.Common.{refl, sym, ap, ◌∙◌}
use Rattle.pe_mem.specs.Registers.{enabled_in}
use Rattle.pe_mem.specs.Calls.{Cwriter}
use Rattle.pe_mem.specs.Core.{has_all_shut}
use Rattle.pe_mem.proofs.PortCall.StoreLemmas.{may_any}
use Rattle.pe_its.proofs.RegisterLemmas.{low_enabled, cbaser_writes, cbaser_ignored, cbaser_has}
use Rattle.pe_its.proofs.register.write_cbaser.Goals as goal

pub put_plain-requires-clause-may : goal.put_plain-requires-clause-may
put_plain-requires-clause-may g c = may_any (g.P.Port.seen c.args.port.now) Cwriter refl refl

pub move_queue-requires-clause-lines : goal.move_queue-requires-clause-lines
move_queue-requires-clause-lines g c = ap has_all_shut c.put_plain.ensures.local_is ∙ c.requires.ready.lines

pub returns-then-enabled_in-clause-writes : goal.returns-then-enabled_in-clause-writes
returns-then-enabled_in-clause-writes g c =
    cbaser_ignored (g.P.Port.seen c.args.port.now) c.args.queue c.args.half c.args.value (sym (low_enabled c.args.queue.ctlr) ∙ ap enabled_in (sym c.low.ensures) ∙ sym c.enabled_in.ensures ∙ c.if-enabled_in.true)

pub returns-clause-writes : goal.returns-clause-writes
returns-clause-writes g c =
    cbaser_writes (g.P.Port.seen c.args.port.now) (g.P.Port.seen c.put_plain.new.port) (g.P.Port.seen c.move_queue.new.port) (g.P.Port.seen c.change_word.new.port) c.args.queue c.args.half c.args.value c.change_word.result
    (sym (low_enabled c.args.queue.ctlr) ∙ ap enabled_in (sym c.low.ensures) ∙ sym c.enabled_in.ensures ∙ c.if-enabled_in.false) c.put_plain.ensures c.move_queue.ensures.moves c.change_word.ensures

pub returns-clause-has : goal.returns-clause-has
returns-clause-has g c =
    cbaser_has (g.P.Port.seen c.args.port.now) (g.P.Port.seen c.put_plain.new.port) (g.P.Port.seen c.move_queue.new.port) (g.P.Port.seen c.change_word.new.port) c.args.queue c.move_queue.new.queue c.args.half c.args.value c.change_word.result
    c.requires.ready c.put_plain.ensures c.move_queue.ensures.ready c.change_word.ensures
