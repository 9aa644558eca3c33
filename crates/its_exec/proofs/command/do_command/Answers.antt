-- A MAPD forgets the LPIs of its device.
use Rattle.std.proofs.Common.{ap}
use Rattle.port_call.specs.Calls.{parts, lpis_of_device}
use Rattle.port_call.specs.Core.{shape_of}
use Rattle.its_exec.proofs.PlainLemmas.{does_mapd}
use Rattle.its_exec.proofs.command.do_command.Goals as goal

pub returns-in-Mapd-default-default-default-true-clause-does : goal.returns-in-Mapd-default-default-default-true-clause-does
returns-in-Mapd-default-default-default-true-clause-does g c =
    let old = g.P.Port.seen c.args.port.now in
    let new = g.P.Port.seen c.replace_device.new.port in
    let address = c.args.fetched.now.address in
    let maps = c.args.tables.now in
    let ids = lpis_of_device maps c.in-Mapd-default-default-default-true.device in
    does_mapd old new address maps c.args.command.now ids (λ targets. ap (parts (shape_of old) maps targets) c.in-Mapd-default-default-default-true.is) c.replace_device.ensures.does

pub returns-in-Mapd-clause-does : goal.returns-in-Mapd-clause-does
returns-in-Mapd-clause-does g c =
    let old = g.P.Port.seen c.args.port.now in
    let maps = c.args.tables.now in
    does_mapd old (g.P.Port.seen c.forget_device.new.port) c.args.fetched.now.address maps c.args.command.now (lpis_of_device maps c.in-Mapd.device) (λ targets. ap (parts (shape_of old) maps targets) c.in-Mapd.is) c.forget_device.ensures.does
