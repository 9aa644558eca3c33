use Rattle.std.proofs.Common.{◌≡◌, false, arith, map, slice_index_or, ap, ◌∙◌}
use Rattle.std.specs.List.{range_with_len}
use Rattle.port_core.proofs.GicOpen.RangeLemmas.{map_pushed}
use Rattle.port_core.specs.Actor.{actor_at, actor_count}
use Rattle.port_core.specs.Calls.{opening_cpu}
use Rattle.port_core.specs.Local.{opening_local}
use Rattle.port_core.specs.Run.{Seat, opening_local_of, opening_seat}
use Rattle.port_ops.proofs.WorldLemmas.{map_twice}
use Rattle.port_ops.proofs.opened.Opened.locals.Goals as goal

pub loop-actor-preserved : goal.loop-actor-preserved
loop-actor-preserved c =
    let opened = c.args.self.now in
    record {
      end = c.loop-actor.invariant.end;
      same = c.loop-actor.invariant.same;
      so_far =
          map_pushed (opening_local_of opened.guest opened.number) c.loop-actor.actor c.loop-actor.locals.items _ c.local_at_opening.result c.loop-actor.invariant.so_far c.in_ok-push.ensures.items
          (c.local_at_opening.ensures ∙ ap (λ cpus. opening_local (actor_at opened.guest.shape opened.number c.loop-actor.actor) (slice_index_or cpus c.loop-actor.actor (opening_cpu false))) c.as_slice.ensures);
    }

pub returns : goal.returns
returns c =
    let opened = c.args.self.now in
    let count = actor_count opened.guest.shape in
    let last : c.loop-actor.actor ≡ count = omega (arith, c.loop-actor.auto.actor-end, c.loop-actor-test.false, c.loop-actor.invariant.end) in
    c.loop-actor.invariant.so_far
    ∙ ap (λ n. map (opening_local_of opened.guest opened.number) (range_with_len 0 n)) last
    ∙ map_twice (opening_seat opened.guest opened.number) (λ (seat : Seat). seat.local) (range_with_len 0 count)
