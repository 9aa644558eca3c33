use Rattle.std.proofs.Common.{None, Some, ◌∙◌}
use Rattle.vcpu_refill.proofs.ShiftLemmas.{put_mid_moved, last_of_part}
use Rattle.vcpu_refill.proofs.ranking.put_at.Goals as goal

pub returns-clause-after : goal.returns-clause-after
returns-clause-after c = put_mid_moved (Some c.args.offer) c.args.place c.args.places.now c.put_in_front.new.places c.requires c.put_in_front.ensures.after

pub returns-clause-out : goal.returns-clause-out
returns-clause-out c = c.put_in_front.ensures.out ∙ last_of_part None c.args.place c.args.places.now c.requires
