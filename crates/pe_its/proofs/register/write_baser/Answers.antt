-- The store, unless the ITS is enabled.
use Rattle.std.proofs.Common.{sym, ap, subst, ◌∙◌}
use Rattle.pe_mem.specs.Registers.{enabled_in}
use Rattle.pe_mem.specs.Calls.{PlainWord}
use Rattle.pe_its.specs.declared.change.Change.TheVariants.{Baser}
use Rattle.pe_its.specs.Change.{changed_by, ChangesWord}
use Rattle.pe_its.proofs.RegisterLemmas.{low_enabled, baser_writes, baser_ignored, changed_has}
use Rattle.pe_its.proofs.StoredLemmas.{ready_has}
use Rattle.pe_its.proofs.register.write_baser.Goals as goal

pub returns-then-not-enabled_in-clause-writes : goal.returns-then-not-enabled_in-clause-writes
returns-then-not-enabled_in-clause-writes g c =
    let old = g.P.Port.seen c.args.port.now in
    let new = g.P.Port.seen c.change_word.new.port in
    let Of : PlainWord → Type 0 = λ word. ChangesWord old new word (changed_by (Baser c.args.half c.args.value)) c.change_word.result in
    baser_writes old new c.args.queue c.args.table c.args.half c.args.value c.change_word.result (sym (low_enabled c.args.queue.ctlr) ∙ ap enabled_in (sym c.low.ensures) ∙ sym c.enabled_in.ensures ∙ c.if-not-enabled_in.true)
    (subst Of c.word_of.ensures c.change_word.ensures)

pub returns-then-not-enabled_in-clause-has : goal.returns-then-not-enabled_in-clause-has
returns-then-not-enabled_in-clause-has g c =
    let old = g.P.Port.seen c.args.port.now in
    changed_has old (g.P.Port.seen c.change_word.new.port) c.word_of.result (changed_by (Baser c.args.half c.args.value)) c.change_word.result c.change_word.ensures (ready_has old _ _ c.args.queue c.requires.ready)

pub returns-else-not-enabled_in-clause-writes : goal.returns-else-not-enabled_in-clause-writes
returns-else-not-enabled_in-clause-writes g c =
    baser_ignored (g.P.Port.seen c.args.port.now) c.args.queue c.args.table c.args.half c.args.value (sym (low_enabled c.args.queue.ctlr) ∙ ap enabled_in (sym c.low.ensures) ∙ sym c.enabled_in.ensures ∙ c.if-not-enabled_in.false)
