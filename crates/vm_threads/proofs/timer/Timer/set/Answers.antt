-- It moves, or has that level.
use Rattle.vm_threads.specs.Timer.{has_level}
use Rattle.vm_threads.proofs.TimerLemmas.{calls_again, moves_so}
use Rattle.vm_threads.proofs.timer.Timer.set.Goals as goal

pub returns-clause-moves : goal.returns-clause-moves
returns-clause-moves g c =
    moves_so (g.P.Port.seen c.args.port.now) (g.P.Port.seen c.set_wire.new.port) c.args.self.now.vcpu c.args.self.now.ppi c.args.up (has_level c.args.self.now.up c.args.up) c.set_wire.result c.set_wire.ensures.result c.set_wire.ensures.unchanged c.set_wire.ensures.changed

pub returns-clause-ready : goal.returns-clause-ready
returns-clause-ready g c =
    let old = g.P.Port.seen c.args.port.now in
    let new = g.P.Port.seen c.set_wire.new.port in
    let before = c.args.self.now in
    let level = has_level before.up c.args.up in
    calls_again old new before.vcpu before.ppi c.args.up level (moves_so old new before.vcpu before.ppi c.args.up level c.set_wire.result c.set_wire.ensures.result c.set_wire.ensures.unchanged c.set_wire.ensures.changed) c.requires.ready
