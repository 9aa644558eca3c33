use Rattle.port_table.proofs.RuleLemmas.{may_join}
use Rattle.port_table.proofs.rule.join_in.Goals as goal

pub join_seat-requires : goal.join_seat-requires
join_seat-requires c =
    let root = c.args.root.now in
    let seat = c.args.seat in (
      c.requires.home,
      c.requires.seat,
      c.requires.none,
      c.requires.words,
      may_join c.args.table.now.key root.id seat.id c.args._actor root.me.0 seat.me.0 c.requires.root c.requires.view,
    )
