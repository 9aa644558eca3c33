use Rattle.std.proofs.Common.{◌≡◌, false, [], slice_index_or, sym, ap, subst, ◌∙◌}
use Rattle.port_ops.specs.Words.{GuestShape}
use Rattle.port_ops.specs.PortCore.declared.local.Local.{Local}
use Rattle.port_ops.specs.PortCore.Known.{known_maps}
use Rattle.port_ops.specs.PortCore.Local.{opening_local}
use Rattle.port_ops.specs.PortCore.Run.{opening_local_of}
use Rattle.port_ops.specs.Calls.{opening_cpu}
use Rattle.port_ops.specs.PortCore.Actor.{actor_at}
use Rattle.port_ops.specs.PortCore.Valid.{IsLocal}
use Rattle.port_table.specs.declared.view.View.TheVariants.{Out}
use Rattle.port_table.specs.Rule.{local_of}
use Rattle.port_table.specs.Slot.{held, has_taken}
use Rattle.port_table.specs.View.{own_of}
use Rattle.port_table.proofs.OpenLemmas.{opening_valid}
use Rattle.port_table.proofs.guest.GuestTable.split.Goals as goal

pub invariant_of-result : goal.invariant_of-result
invariant_of-result c =
    let words = c.args.self.now in
    let key = words.table.shared.key in
    let actor = c.args.actor in
    let seat = c.split_off-seat.result in
    let view : seat.me.0 ≡ Out actor [] = ap (λ m. m.0) c.split_off-seat.ensures.out.1 in
    let cpus = c.as_slice.ensures ∙ words.interfaces in
    let opens : c.local_at_opening.result ≡ opening_local_of key.guest key.number actor =
    c.local_at_opening.ensures ∙ ap (λ (s : GuestShape). opening_local (actor_at s words.number actor) (slice_index_or c.as_slice.result.now actor (opening_cpu false))) words.same
    ∙ ap (λ n. opening_local (actor_at key.guest.shape n actor) (slice_index_or c.as_slice.result.now actor (opening_cpu false))) words.numbered
    ∙ ap (λ cpus. opening_local (actor_at key.guest.shape key.number actor) (slice_index_or cpus actor (opening_cpu false))) cpus in
    record {
      good = words.good;
      there = c.requires.there;
      home = c.split_off-seat.ensures.out.0 ∙ c.requires.home;
      words = words.words;
      slots = words.slots;
      same = words.same;
      number = words.numbered;
      view = view ∙ ap (Out actor) (sym (ap own_of view));
      made = opens ∙ ap (local_of key actor) (sym (ap own_of view));
      valid = ∣ subst (IsLocal key.guest.shape actor) (sym opens) (opening_valid key actor words.good c.requires.there) ∣₁;
      held = ap (λ m. m.1) c.split_off-seat.ensures.out.1 ∙ sym (ap (λ (l : Local). held l.turn (has_taken seat.me.1) (known_maps (own_of seat.me.0))) opens);
    }
