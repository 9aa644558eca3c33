use Rattle.std.proofs.Common.{rules, ◌∙◌}
use Rattle.port_ops.proofs.WorldLemmas.{each_local, local_at}
use Rattle.port_seq.proofs.guest.GuestPort.own_local.Goals as goal

pub index-requires : goal.index-requires
index-requires c =
    let port = c.args.self.now in
    let key = port.table.shared.key in
    let each = each_local key.guest key.number port.seat.me.0 port.locals.items port.own in
    let there = port.there in
    search rules

pub returns : goal.returns
returns c =
    let port = c.args.self.now in
    let key = port.table.shared.key in
    c.index.ensures ∙ local_at key.guest key.number port.seat.me.0 port.locals.items port.actor c.index.result.now port.own port.there
