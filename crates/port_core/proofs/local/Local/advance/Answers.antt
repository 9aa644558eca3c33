use Rattle.std.proofs.Common.{subst, sym, ◌≡◌}
use Rattle.port_core.specs.After.{local_after}
use Rattle.port_core.proofs.local.Local.advance.Goals as goal

pub returns-in-Touch : goal.returns-in-Touch
returns-in-Touch c =
    subst (λ step. c.try_touch.new.self ≡ local_after c.args.shape.now c.args.actor c.args.self.now step c.args.found) (sym c.in-Touch.is) (c.try_touch.ensures c.args.actor)

pub returns-in-LineEnter : goal.returns-in-LineEnter
returns-in-LineEnter c =
    subst (λ step. c.enter_line.new.self ≡ local_after c.args.shape.now c.args.actor c.args.self.now step c.args.found) (sym c.in-LineEnter.is) (c.enter_line.ensures c.args.shape.now c.args.actor)
