use Rattle.std.proofs.Common.{◌≡◌, ◌<◌, ◌∙◌, None, length, sym, arith, get_or}
use Rattle.std.proofs.Math.ListN.{length-set}
use Rattle.vcpu_refill.specs.Plan.{word_of}
use Rattle.vcpu_refill.proofs.FillLemmas.{filled_more, filled_all}
use Rattle.vcpu_refill.proofs.fill.Fill.words.Goals as goal

pub loop-place-preserved : goal.loop-place-preserved
loop-place-preserved c =
    let within : c.loop-place.place < length c.loop-place.slot-items = omega arith in
    record {
      long = length-set _ _ _ ∙ c.loop-place.invariant.long;
      filled = filled_more 0 (λ k. word_of (get_or c.args.self.now.choice k None)) c.loop-place.slot-items c.loop-place.place c.word.result within c.word.ensures c.loop-place.invariant.filled;
    }

pub word-requires : goal.word-requires
word-requires c =
    let within : c.loop-place.place < length c.args.self.now.choice = omega arith in
    c.requires c.loop-place.place None within

pub returns : goal.returns
returns c =
    let long : length c.args.self.now.choice ≡ 16 = omega arith in
    filled_all word_of None 0 c.args.self.now.choice c.loop-place.slot-items (c.loop-place.invariant.long ∙ sym long) (λ k less. c.loop-place.invariant.filled k (omega (arith, less, c.loop-place.invariant.long)))
