-- What it does, if anything.
use Rattle.its_exec.proofs.SweepLemmas.{picked_there, picked_ease, picked_holds}
use Rattle.its_exec.proofs.sweep.sweep_lpi.Goals as goal

pub do_some-requires-clause-part : goal.do_some-requires-clause-part
do_some-requires-clause-part g c =
    picked_there (g.P.Port.seen c.args.port.now) (g.P.Port.seen c.part_for-part.new.port) c.args.tables.now c.args.command.now c.args.lpi c.part_for-part.result c.part_for-part.ensures

pub do_some-requires-clause-ease : goal.do_some-requires-clause-ease
do_some-requires-clause-ease g c =
    picked_ease (g.P.Port.seen c.args.port.now) (g.P.Port.seen c.part_for-part.new.port) c.args.tables.now c.args.command.now c.args.lpi c.part_for-part.result c.part_for-part.ensures c.requires.ease

pub do_some-requires-clause-holds : goal.do_some-requires-clause-holds
do_some-requires-clause-holds g c =
    picked_holds (g.P.Port.seen c.args.port.now) (g.P.Port.seen c.part_for-part.new.port) c.args.fetched.now c.args.tables.now c.args.command.now c.args.lpi c.part_for-part.result c.part_for-part.ensures c.requires.holds

pub returns : goal.returns
returns g c = record { mid = g.P.Port.seen c.part_for-part.new.port; part = c.part_for-part.result; picks = c.part_for-part.ensures; does = c.do_some.ensures }
