use Rattle.std.proofs.Common.{◌<◌, IsTrue, List, Option, subst, sym, ap, ◌∙◌}
use Rattle.atomic_table.specs.Table.{Me}
use Rattle.vcpu_shelf.specs.declared.view.Deed.{Deed}
use Rattle.vcpu_shelf.specs.declared.view.View.{View}
use Rattle.vcpu_shelf.specs.Shelf.{shelf_told, seat_told}
use Rattle.vcpu_shelf.specs.View.{slots_out, is_found_finished}
use Rattle.vcpu_shelf.proofs.RuleLemmas.{may_join}
use Rattle.vcpu_shelf.proofs.ToldLemmas.{all_done_joined}
use Rattle.vcpu_shelf.proofs.seats.join.Goals as goal

pub join_seat-requires : goal.join_seat-requires
join_seat-requires g c =
    let shelf = c.args.shelf.now in
    let seat = c.args.seat.now.seat in
    let other = c.args.other.seat in
    let t = g.T.Traveller in (
      c.requires.of,
      c.requires.other,
      c.args.other.held ∙ ap slots_out c.requires.none,
      subst (λ n. 0 < n) (sym shelf.words) shelf.some,
      may_join t.place t.next t.done shelf.owners.shared.key seat.id other.id seat.me.0 other.me.0,
    )

pub returns-clause-all_done : goal.returns-clause-all_done
returns-clause-all_done g c = λ either.
    let saw = all_done_joined (shelf_told c.args.shelf.now) (seat_told c.args.seat.now) (seat_told c.args.other) either in
    let deeds = ap (λ (m : Me (Option g.row.T.Denot) View). m.0.deeds) c.join_seat.ensures.2 in
    record { each = λ place there. subst (λ (list : List Deed). IsTrue (is_found_finished place list)) (sym deeds) (saw.each place there) }
