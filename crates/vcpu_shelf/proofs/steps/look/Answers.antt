use Rattle.std.proofs.Common.{◌<◌, subst, sym}
use Rattle.vcpu_shelf.proofs.RuleLemmas.{may_look}
use Rattle.vcpu_shelf.proofs.steps.look.Goals as goal

pub load-requires : goal.load-requires
load-requires g c =
    let owners = c.args.owners.now in
    let seat = c.args.seat.now in
    let t = g.T.Traveller in (
      c.requires.home,
      subst (λ n. c.args.place < n) (sym c.requires.words) c.requires.there,
      may_look t.place t.next t.done owners.key owners.table_id.slots seat.id c.args.place seat.me c.requires.there,
    )
