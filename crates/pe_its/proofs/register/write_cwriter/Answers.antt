-- The store, unless the offset is out of the queue, and the end of a stall.
use Rattle.std.proofs.Common.{sym, ◌∙◌}
use Rattle.pe_mem.specs.Calls.{Cwriter}
use Rattle.pe_its.proofs.RegisterLemmas.{cwriter_ignored, cwriter_stored, cwriter_done}
use Rattle.pe_its.proofs.StoredLemmas.{cwriter_knows, stored_maps, stored_has, missed_has, stored_ready, ready_has, has_then}
use Rattle.pe_its.proofs.register.write_cwriter.Goals as goal

pub returns-in_default-clause-writes : goal.returns-in_default-clause-writes
returns-in_default-clause-writes g c = cwriter_ignored (g.P.Port.seen c.args.port.now) (g.P.Port.seen c.change_word.new.port) c.args.queue c.args.half c.args.value c.in_default.ensures

pub returns-in_default-clause-has : goal.returns-in_default-clause-has
returns-in_default-clause-has g c =
    let old = g.P.Port.seen c.args.port.now in missed_has old (g.P.Port.seen c.change_word.new.port) Cwriter c.in_default.ensures.looks (ready_has old _ _ c.args.queue c.requires.ready)

pub retry-requires : goal.retry-requires
retry-requires g c =
    let old = g.P.Port.seen c.args.port.now in
    let mid = g.P.Port.seen c.change_word.new.port in
    let stores = cwriter_stored old mid c.args.queue.cbaser c.args.half c.args.value c.in-Some.found c.written-written.result c.offset_in.result c.in-Some.ensures c.written-written.ensures.value c.offset_in.ensures.value in
    record { ready = stored_ready old mid Cwriter c.offset_in.result c.args.queue (record c.args.queue { cwriter = c.offset_in.result }) stores c.requires.ready (cwriter_knows old mid c.offset_in.result c.args.queue stores c.requires.ready.knows) }

pub returns-clause-writes : goal.returns-clause-writes
returns-clause-writes g c =
    let old = g.P.Port.seen c.args.port.now in
    let mid = g.P.Port.seen c.change_word.new.port in
    let stores = cwriter_stored old mid c.args.queue.cbaser c.args.half c.args.value c.in-Some.found c.written-written.result c.offset_in.result c.in-Some.ensures c.written-written.ensures.value c.offset_in.ensures.value in
    cwriter_done old mid (g.P.Port.seen c.retry.new.port) c.args.queue c.retry.new.queue c.args.half c.args.value c.in-Some.found c.written-written.result c.offset_in.result c.in-Some.ensures c.written-written.ensures.value c.offset_in.ensures.value
    c.retry.ensures.retries c.retry.ensures.queue (sym c.retry.ensures.has.maps ∙ stored_maps old mid Cwriter c.offset_in.result stores) c.retry.ensures.ready.knows

pub returns-clause-has : goal.returns-clause-has
returns-clause-has g c =
    let old = g.P.Port.seen c.args.port.now in
    let mid = g.P.Port.seen c.change_word.new.port in
    let stores = cwriter_stored old mid c.args.queue.cbaser c.args.half c.args.value c.in-Some.found c.written-written.result c.offset_in.result c.in-Some.ensures c.written-written.ensures.value c.offset_in.ensures.value in
    has_then old mid (g.P.Port.seen c.retry.new.port) (stored_has old mid Cwriter c.offset_in.result stores (ready_has old _ _ c.args.queue c.requires.ready)) c.retry.ensures.has
