use Rattle.std.proofs.Common.{◌≡◌, map}
use Rattle.std.specs.List.{range_with_len}
use Rattle.port_core.specs.Actor.{actor_count}
use Rattle.port_core.specs.Run.{opening_local_of}
use Rattle.port_ops.proofs.opened.Opened.locals.Given as goal

-- those of the actors so far
abbrev pub invariant-loop-actor : goal.invariant-loop-actor
invariant-loop-actor l =
    record {
      end : l.actor-end ≡ actor_count l.shape;
      same : l.shape ≡ l.self.guest.shape;
      so_far : l.locals.items ≡ map (opening_local_of l.self.guest l.self.number) (range_with_len 0 l.actor);
    }
