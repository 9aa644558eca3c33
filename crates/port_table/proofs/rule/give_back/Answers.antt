use Rattle.port_table.proofs.RuleLemmas.{may_return}
use Rattle.port_table.proofs.rule.give_back.Goals as goal

pub operate-requires : goal.operate-requires
operate-requires c =
    let table = c.args.table.now in
    let seat = c.args.seat.now in
    record { home = c.requires.home; there = c.requires.words; allows = may_return table.key c.args._actor table.table_id.slots seat.id seat.me c.requires.good c.requires.actor c.requires.view c.requires.turn }
