use Rattle.port_table.proofs.RuleLemmas.{may_split}
use Rattle.port_table.proofs.rule.split_as.Goals as goal

pub split_seat-requires : goal.split_seat-requires
split_seat-requires g c =
    let root = c.args.root.now in (
      c.requires.home,
      c.requires.words,
      may_split c.args.table.now.key root.id g.D.Naming.actor root.me.0 c.requires.root c.requires.new,
    )
