-- The looks, the register, and the commands.
use Rattle.std.proofs.Common.{true, refl, sym, subst, ◌∙◌}
use Rattle.pe_mem.specs.Words.{GuestShape}
use Rattle.pe_mem.specs.Registers.{Maps}
use Rattle.pe_mem.specs.Core.{shape_of}
use Rattle.pe_mem.specs.ItsExec.Queue.{IsReady, HasIts}
use Rattle.pe_mem.proofs.ItsExec.QueueLemmas.{looked_ready}
use Rattle.pe_its.proofs.StoredLemmas.{ready_now}
use Rattle.pe_its.proofs.write.serve.Goals as goal

pub write_register-requires-clause-ready : goal.write_register-requires-clause-ready
write_register-requires-clause-ready g c =
    let old = g.P.Port.seen c.args.port.now in
    let mid = g.P.Port.seen c.look_at_queue-queue.new.port in
    ready_now mid (shape_of old) c.args.tables.now c.look_at_queue-queue.result
    (looked_ready old mid (shape_of old) c.args.tables.now c.look_at_queue-queue.result refl c.requires.has.taken c.requires.has.ease c.requires.has.lines c.requires.has.maps c.requires.has.valid c.requires.fresh c.look_at_queue-queue.ensures)

pub returns-in_default-clause-has : goal.returns-in_default-clause-has
returns-in_default-clause-has g c =
    let old = g.P.Port.seen c.args.port.now in
    let mid = g.P.Port.seen c.look_at_queue-queue.new.port in
    let ready = looked_ready old mid (shape_of old) c.args.tables.now c.look_at_queue-queue.result refl c.requires.has.taken c.requires.has.ease c.requires.has.lines c.requires.has.maps c.requires.has.valid c.requires.fresh c.look_at_queue-queue.ensures in
    subst (HasIts (g.P.Port.seen c.write_register.new.port)) (sym ready.maps) c.write_register.ensures.has

pub run_commands-requires : goal.run_commands-requires
run_commands-requires g c =
    let old = g.P.Port.seen c.args.port.now in
    let mid = g.P.Port.seen c.look_at_queue-queue.new.port in
    let new = g.P.Port.seen c.write_register.new.port in
    let ready = looked_ready old mid (shape_of old) c.args.tables.now c.look_at_queue-queue.result refl c.requires.has.taken c.requires.has.ease c.requires.has.lines c.requires.has.maps c.requires.has.valid c.requires.fresh c.look_at_queue-queue.ensures in
    let By : Maps → Type 0 = λ maps. IsReady new (shape_of new) maps c.in-Some.queue in
    let For : GuestShape → Type 0 = λ shape. IsReady new shape c.args.tables.now c.in-Some.queue in
    record { ready = subst For (sym c.shape-shape.ensures) (subst By (sym (ready.maps ∙ c.write_register.ensures.has.maps)) c.in-Some.ensures.ready) }

pub returns-in-Some-clause-serves : goal.returns-in-Some-clause-serves
returns-in-Some-clause-serves g c =
    record {
      mid = g.P.Port.seen c.write_register.new.port;
      starts = true;
      begins = record { start = g.P.Port.seen c.look_at_queue-queue.new.port; queue = c.look_at_queue-queue.result; looks = c.look_at_queue-queue.ensures; writes = c.in-Some.ensures.writes };
      runs = record { shape = c.shape-shape.result; tables = c.run_commands.new.tables; end = c.run_commands.result; over = c.run_commands.ensures.ends };
    }
