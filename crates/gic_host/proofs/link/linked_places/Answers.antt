use Rattle.std.proofs.Common.{◌<◌, ◌∙◌, None, length, sym, arith, get_or}
use Rattle.std.proofs.Math.ListN.{length-set}
use Rattle.std.specs.Option.{option_map}
use Rattle.floor_lists.proofs.VcpuRefill.FillLemmas.{filled_more, filled_all}
use Rattle.gic_host.specs.Link.{linked_choice}
use Rattle.gic_host.proofs.link.linked_places.Goals as goal

pub loop-place-preserved : goal.loop-place-preserved
loop-place-preserved c =
    let within : c.loop-place.place < length c.loop-place.slot-items = omega arith in
    record {
      whole = c.loop-place.invariant.whole;
      long = length-set _ _ _ ∙ c.loop-place.invariant.long;
      filled = filled_more None (λ k. option_map (linked_choice c.args.links.now c.args.vcpu) (get_or c.args.places.now k None)) c.loop-place.slot-items c.loop-place.place c.linked_place.result within c.linked_place.ensures c.loop-place.invariant.filled;
    }

pub returns : goal.returns
returns c =
    filled_all (option_map (linked_choice c.args.links.now c.args.vcpu)) None None c.args.places.now c.loop-place.slot-items (c.loop-place.invariant.long ∙ sym c.loop-place.invariant.whole) (λ k less. c.loop-place.invariant.filled k (omega (arith, less, c.loop-place.invariant.long)))
