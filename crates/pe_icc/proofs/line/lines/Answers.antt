-- In trap mode, and out of it.
use Rattle.std.proofs.Common.{ap}
use Rattle.pe_loop.specs.Core.{Local, interface_of, shape_of}
use Rattle.pe_loop.proofs.CoreProper.InterfaceLemmas.{is_interface}
use Rattle.pe_icc.proofs.LineLemmas.{real_ids, tells_plain, tells_trapped}
use Rattle.pe_icc.proofs.line.lines.Goals as goal

pub returns-then-vcpu : goal.returns-then-vcpu
returns-then-vcpu g c =
    tells_trapped (g.P.Port.seen c.args.port.now) (g.P.Port.seen c.look_for_first-first.new.port) c.args.vcpu.now c.look_for_first-first.result c.local_ref.result.now.cpu c.of.result c.requires c.if-vcpu.true c.look_for_first-first.ensures
    (ap (λ (local : Local). local.cpu) c.local_ref.ensures) c.of.ensures

pub returns : goal.returns
returns g c =
    let old = g.P.Port.seen c.args.port.now in
    let port = g.P.Port.is_port c.args.port.now in
    let good = port.good.sound.shape in
    tells_plain old c.args.vcpu.now c.lines_of_registers.result c.requires c.if-vcpu.false
    (c.lines_of_registers.ensures (interface_of old.local) (is_interface (shape_of old) old.actor old.local good port.local) c.requires.on.stands (real_ids (shape_of old) old.actor old.local.cpu old.local.at good port.local.at))
