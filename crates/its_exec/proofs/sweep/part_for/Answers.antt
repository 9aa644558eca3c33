-- Each kind of command.
use Rattle.port_call.specs.Core.{shape_of}
use Rattle.its_exec.proofs.SweepLemmas.{mapc_picks, mapc_fits, invall_picks, picks_as}
use Rattle.port_call.specs.Registers.{Movall}
use Rattle.its_exec.proofs.sweep.part_for.Goals as goal

pub mapc_target-target-requires : goal.mapc_target-target-requires
mapc_target-target-requires g c =
    mapc_fits (shape_of (g.P.Port.seen c.args.port.now)) c.args.command.now c.in-Mapc.icid c.in-Mapc.rdbase c.in-Mapc.valid (g.P.Port.is_port c.args.port.now).good.sound.shape.vcpus c.in-Mapc.is c.requires.vcpus

pub returns-in-Mapc : goal.returns-in-Mapc
returns-in-Mapc g c =
    mapc_picks (g.P.Port.seen c.args.port.now) c.args.tables.now c.args.command.now c.in-Mapc.icid c.in-Mapc.rdbase c.args.lpi c.in-Mapc.valid c.mapc_target-target.result c.in_collection.result c.in-Mapc.is c.mapc_target-target.ensures
    c.in_collection.ensures c.requires.there c.requires.vcpus

pub returns-in-Invall : goal.returns-in-Invall
returns-in-Invall g c =
    invall_picks (g.P.Port.seen c.args.port.now) c.args.tables.now c.args.command.now c.in-Invall.icid c.args.lpi c.in_collection-in-Invall.result c.in-Invall.is c.in_collection-in-Invall.ensures c.requires.there c.requires.untouched

pub returns-in-Movall : goal.returns-in-Movall
returns-in-Movall g c =
    picks_as (g.P.Port.seen c.args.port.now) (g.P.Port.seen c.moved.new.port) c.args.tables.now c.args.command.now (Movall c.in-Movall.rdbase c.in-Movall.second) c.args.lpi c.moved.result c.in-Movall.is c.moved.ensures
