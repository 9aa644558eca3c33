-- The queue is moved.
use Rattle.its_exec.proofs.QueueLemmas.{can_move, moved_is, moved_ready}
use Rattle.its_exec.proofs.queue.move_queue.Goals as goal

pub step-requires : goal.step-requires
step-requires g c = can_move (g.P.Port.seen c.args.port.now) c.args.offset (g.P.Port.is_port c.args.port.now) c.requires.turn c.requires.ease c.requires.lines c.requires.place

pub returns-clause-moves : goal.returns-clause-moves
returns-clause-moves g c = moved_is (g.P.Port.seen c.args.port.now) (g.P.Port.seen c.step.new.self) c.args.offset (record { found = c.step.result; adds = c.step.ensures.adds })

pub returns-clause-ready : goal.returns-clause-ready
returns-clause-ready g c = λ shape tables ready.
    moved_ready (g.P.Port.seen c.args.port.now) (g.P.Port.seen c.step.new.self) shape tables c.args.queue.now c.args.offset c.requires.place ready (record { found = c.step.result; adds = c.step.ensures.adds })
