use Rattle.std.proofs.Common.{None, Some, ap, ◌∙◌}
use Rattle.std.proofs.Math.ListN.{set}
use Rattle.vcpu_refill.proofs.ShiftLemmas.{set_turned, front_turned}
use Rattle.vcpu_refill.proofs.ranking.put_in_front.Goals as goal

pub returns-clause-after : goal.returns-clause-after
returns-clause-after c =
    ap (λ v. set c.rotate_right.new.self 0 v) c.replace.ensures.after ∙ set_turned None (Some c.args.offer) c.args.places.now c.rotate_right.new.self c.requires c.rotate_right.ensures.after

pub returns-clause-out : goal.returns-clause-out
returns-clause-out c = c.replace.ensures.value ∙ front_turned None None c.args.places.now c.rotate_right.new.self c.requires c.rotate_right.ensures.after
