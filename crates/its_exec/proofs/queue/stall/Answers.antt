-- The end of a bad command.
use Rattle.std.proofs.Common.{ℕ, subst}
use Rattle.port_call.specs.Calls.{Fault}
use Rattle.port_call.specs.Store.{Stores}
use Rattle.its_exec.proofs.QueueLemmas.{can_store, can_stall}
use Rattle.its_exec.proofs.queue.stall.Goals as goal

pub put_plain-requires-clause-may : goal.put_plain-requires-clause-may
put_plain-requires-clause-may g c = can_store (g.P.Port.seen c.args.port.now) c.args.queue.now (g.P.Port.is_port c.args.port.now) c.requires.taken c.requires.bad.next.knows c.requires.runs

pub step-requires : goal.step-requires
step-requires g c =
    let old = g.P.Port.seen c.args.port.now in
    let mid = g.P.Port.seen c.put_plain.new.port in
    let Of : ℕ → Type 0 = λ n. Stores old mid Fault n in
    can_stall old mid c.args.queue.now c.args.fault (g.P.Port.is_port c.args.port.now) (g.P.Port.is_port c.put_plain.new.port) c.requires.taken c.requires.ease c.requires.bad (subst Of c.from.ensures c.put_plain.ensures)
