-- The next LPI that an event has, as long as there is one.
use Rattle.std.proofs.Common.{arith}
use Rattle.port_call.specs.Core.{shape_of}
use Rattle.its_exec.proofs.SweepLemmas.{owned_there, sweeping_none, sweeping_more, sweeping_over, sweeping_there, sweeping_fits, sweeping_less}
use Rattle.its_exec.proofs.sweep.do_sweep.Goals as goal

pub loop-lpi-init : goal.loop-lpi-init
loop-lpi-init g c = sweeping_none (g.P.Port.seen c.args.port.now) c.args.fetched.now c.args.tables.now c.args.command.now c.requires.ease c.requires.holds c.requires.fresh

pub sweep_lpi-requires-clause-there : goal.sweep_lpi-requires-clause-there
sweep_lpi-requires-clause-there g c =
    sweeping_there (g.P.Port.seen c.args.port.now) (g.P.Port.seen c.loop-lpi.port) c.args.fetched.now c.args.tables.now c.args.command.now c.loop-lpi.from c.in-Some.lpi c.requires.sound c.requires.valid c.in-Some.ensures.found c.loop-lpi.invariant

pub sweep_lpi-requires-clause-untouched : goal.sweep_lpi-requires-clause-untouched
sweep_lpi-requires-clause-untouched g c =
    c.loop-lpi.invariant.untouched c.in-Some.lpi (owned_there (shape_of (g.P.Port.seen c.args.port.now)) c.args.tables.now c.in-Some.lpi c.requires.sound c.requires.valid c.in-Some.ensures.found) c.in-Some.ensures.least.0

pub overflow_add-from : goal.overflow_add-from
overflow_add-from g c =
    let fits = sweeping_fits (shape_of (g.P.Port.seen c.args.port.now)) c.args.tables.now c.in-Some.lpi (g.P.Port.is_port c.args.port.now).good.sound.shape.lpis c.requires.sound c.requires.valid c.in-Some.ensures.found in
    omega (arith, fits)

pub loop-lpi-smaller : goal.loop-lpi-smaller
loop-lpi-smaller g c =
    sweeping_less (shape_of (g.P.Port.seen c.args.port.now)) c.args.tables.now c.loop-lpi.from c.in-Some.lpi c.requires.sound c.requires.valid c.in-Some.ensures.found c.in-Some.ensures.least.0

pub loop-lpi-preserved : goal.loop-lpi-preserved
loop-lpi-preserved g c =
    sweeping_more (g.P.Port.seen c.args.port.now) (g.P.Port.seen c.loop-lpi.port) (g.P.Port.seen c.sweep_lpi.new.port) c.args.fetched.now c.args.tables.now c.args.command.now c.loop-lpi.from c.in-Some.lpi
    (g.P.Port.is_port c.args.port.now).good.sound.shape.ram_words (owned_there (shape_of (g.P.Port.seen c.args.port.now)) c.args.tables.now c.in-Some.lpi c.requires.sound c.requires.valid c.in-Some.ensures.found) c.in-Some.ensures.least.0
    c.in-Some.ensures.least.1 c.sweep_lpi.ensures c.loop-lpi.invariant

pub returns : goal.returns
returns g c =
    sweeping_over (g.P.Port.seen c.args.port.now) (g.P.Port.seen c.loop-lpi.port) c.args.fetched.now c.args.tables.now c.args.command.now c.loop-lpi.from c.in_default.ensures.none c.loop-lpi.invariant
