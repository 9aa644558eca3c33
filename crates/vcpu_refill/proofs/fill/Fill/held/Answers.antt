use Rattle.std.proofs.Common.{◌≡◌, ◌<◌, ◌∙◌, None, length, sym, arith, get_or}
use Rattle.std.proofs.Math.ListN.{length-set}
use Rattle.std.specs.Option.{option_map}
use Rattle.vcpu_refill.specs.Plan.{held_as}
use Rattle.vcpu_refill.proofs.FillLemmas.{filled_more, filled_all}
use Rattle.vcpu_refill.proofs.fill.Fill.held.Goals as goal

pub loop-place-preserved : goal.loop-place-preserved
loop-place-preserved c =
    let within : c.loop-place.place < length c.loop-place.slot-items = omega arith in
    record {
      long = length-set _ _ _ ∙ c.loop-place.invariant.long;
      filled = filled_more None (λ k. option_map held_as (get_or c.args.self.now.choice k None)) c.loop-place.slot-items c.loop-place.place c.held_at.result within c.held_at.ensures c.loop-place.invariant.filled;
    }

pub returns : goal.returns
returns c =
    let long : length c.args.self.now.choice ≡ 16 = omega arith in
    filled_all (option_map held_as) None None c.args.self.now.choice c.loop-place.slot-items (c.loop-place.invariant.long ∙ sym long) (λ k less. c.loop-place.invariant.filled k (omega (arith, less, c.loop-place.invariant.long)))
