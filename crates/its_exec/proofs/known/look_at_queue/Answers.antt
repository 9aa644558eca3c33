-- The looks, one after the other.
use Rattle.its_exec.proofs.LookLemmas.{looks_with}
use Rattle.its_exec.proofs.known.look_at_queue.Goals as goal

pub returns : goal.returns
returns g c =
    looks_with (g.P.Port.seen c.args.port.now) (g.P.Port.seen c.step-word.new.self) (g.P.Port.seen c.read_plain.new.port) (g.P.Port.seen c.read_plain-2.new.port) (g.P.Port.seen c.read_plain-3.new.port) c.step-word.result c.read_plain.result
    c.read_plain-2.result c.read_plain-3.result c.unpack.result c.unwrap-queue.result c.unwrap-queue.ensures c.unpack.ensures.value c.unpack.ensures.queue c.step-word.ensures.adds c.read_plain.ensures c.read_plain-2.ensures c.read_plain-3.ensures
