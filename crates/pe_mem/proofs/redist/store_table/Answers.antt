-- The look, and the store.
use Rattle.std.proofs.Common.{subst}
use Rattle.pe_mem.specs.Redist.{LooksAtLpis}
use Rattle.pe_mem.specs.Store.{changed_by}
use Rattle.pe_mem.proofs.RedistLemmas.{stores_table, keeps_table}
use Rattle.pe_mem.proofs.redist.store_table.Goals as goal

pub returns-then-not-look_at_lpis : goal.returns-then-not-look_at_lpis
returns-then-not-look_at_lpis g c =
    let old = g.P.Port.seen c.args.port.now in
    let mid = g.P.Port.seen c.look_at_lpis.new.port in
    stores_table old mid (g.P.Port.seen c.update.new.port) c.args.vcpu c.args.word (changed_by c.args.change) c.requires.ease c.requires.kept (subst (LooksAtLpis old mid c.args.vcpu) c.if-not-look_at_lpis.true c.look_at_lpis.ensures) c.update.ensures

pub returns-else-not-look_at_lpis : goal.returns-else-not-look_at_lpis
returns-else-not-look_at_lpis g c =
    let old = g.P.Port.seen c.args.port.now in
    let mid = g.P.Port.seen c.look_at_lpis.new.port in
    keeps_table old mid c.args.vcpu c.args.word (changed_by c.args.change) c.requires.ease (subst (LooksAtLpis old mid c.args.vcpu) c.if-not-look_at_lpis.false c.look_at_lpis.ensures)
