use Rattle.std.proofs.Common.{◌<◌, subst, sym}
use Rattle.vcpu_shelf.proofs.RuleLemmas.{may_split}
use Rattle.vcpu_shelf.proofs.seats.split.Goals as goal

pub split_seat-other-requires : goal.split_seat-other-requires
split_seat-other-requires g c =
    let shelf = c.args.shelf.now in
    let seat = c.args.seat.now.seat in
    let t = g.T.Traveller in (
      c.requires.of,
      subst (λ n. 0 < n) (sym shelf.words) shelf.some,
      may_split t.place t.next t.done shelf.owners.shared.key seat.id seat.me.0,
    )
