-- Each kind of part.
use Rattle.std.proofs.Common.{ap}
use Rattle.port_call.specs.Calls.{Clear}
use Rattle.port_call.specs.GicCall.declared.command.Part.TheVariants.{Forget, Retarget, Raise}
use Rattle.port_call.specs.Core.{shape_of}
use Rattle.its_exec.specs.Parts.{lpi_of}
use Rattle.its_exec.proofs.PartLemmas.{as_part, part_there, raised_part, forgotten, retargeted, cleared}
use Rattle.its_exec.proofs.part.do_part.Goals as goal

pub touch-requires-clause-lines : goal.touch-requires-clause-lines
touch-requires-clause-lines g c = λ e. c.requires.holds.lines

pub touch-requires-in-Retarget-clause-lines : goal.touch-requires-in-Retarget-clause-lines
touch-requires-in-Retarget-clause-lines g c = λ e. c.requires.holds.lines

pub returns-in-Raise : goal.returns-in-Raise
returns-in-Raise g c =
    let old = g.P.Port.seen c.args.port.now in
    let new = g.P.Port.seen c.raise.new.port in
    let there = part_there (shape_of old) c.args.part c.in-Raise.lpi (ap lpi_of c.in-Raise.is) c.requires.part in
    as_part old new c.args.fetched.now.address c.args.part (Raise c.in-Raise.lpi) c.in-Raise.is (raised_part old new c.args.fetched.now.address c.in-Raise.lpi there c.requires.ease c.raise.ensures)

pub returns-in-Forget : goal.returns-in-Forget
returns-in-Forget g c =
    let old = g.P.Port.seen c.args.port.now in
    let new = g.P.Port.seen c.touch.new.port in
    let there = part_there (shape_of old) c.args.part c.in-Forget.lpi (ap lpi_of c.in-Forget.is) c.requires.part in
    as_part old new c.args.fetched.now.address c.args.part (Forget c.in-Forget.lpi) c.in-Forget.is (forgotten old new c.args.fetched.now.address c.in-Forget.lpi c.touch.result there c.touch.ensures)

pub returns-in-Retarget : goal.returns-in-Retarget
returns-in-Retarget g c =
    let old = g.P.Port.seen c.args.port.now in
    let new = g.P.Port.seen c.touch-in-Retarget.new.port in
    let there = part_there (shape_of old) c.args.part c.in-Retarget.lpi (ap lpi_of c.in-Retarget.is) c.requires.part in
    as_part old new c.args.fetched.now.address c.args.part (Retarget c.in-Retarget.lpi c.in-Retarget.target) c.in-Retarget.is
    (retargeted old new c.args.fetched.now.address c.in-Retarget.lpi c.touch-in-Retarget.result c.in-Retarget.target there c.touch-in-Retarget.ensures)

pub returns-in-Clear : goal.returns-in-Clear
returns-in-Clear g c =
    let old = g.P.Port.seen c.args.port.now in
    let new = g.P.Port.seen c.touch-in-Clear.new.port in
    let there = part_there (shape_of old) c.args.part c.in-Clear.lpi (ap lpi_of c.in-Clear.is) c.requires.part in
    as_part old new c.args.fetched.now.address c.args.part (Clear c.in-Clear.lpi) c.in-Clear.is (cleared old new c.args.fetched.now.address c.in-Clear.lpi c.touch-in-Clear.result there c.touch-in-Clear.ensures)
