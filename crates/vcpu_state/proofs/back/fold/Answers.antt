use Rattle.std.proofs.Common.{◌≡◌, ◌∙◌, ℕ, ◌<◌, ◌+◌, Option, None, List, length, arith, get_or, subst, sym}
use Rattle.std.proofs.Math.ListN.{set, length-set}
use Rattle.std.proofs.lemmas.List.FromFn.{fill_by_all}
use Rattle.std.proofs.lemmas.List.Edits.{fill_by_more}
use Rattle.gic_ich.specs.Words.{Back}
use Rattle.vcpu_state.specs.Fold.{back_at}
use Rattle.vcpu_state.proofs.back.fold.Goals as goal

-- one more place
one_more : (f : ℕ → Option Back) (xs : List (Option Back)) (place : ℕ) (value : Option Back) → place < length xs → value ≡ f place → ((k : ℕ) → k < place → get_or xs k None ≡ f k) → (k : ℕ) → k < place + 1 → get_or (set xs place value) k None ≡ f k
one_more f xs place value within is before =
    subst (λ v. (k : ℕ) → k < place + 1 → get_or (set xs place v) k None ≡ f k) (sym is) (fill_by_more f xs place None within before)

pub loop-place-preserved : goal.loop-place-preserved
loop-place-preserved c =
    let within : c.loop-place.place < length c.loop-place.slot-items = omega arith in
    record {
      long = length-set _ _ _ ∙ c.loop-place.invariant.long;
      filled = one_more (back_at c.args.regs.now c.args.held.now) c.loop-place.slot-items c.loop-place.place c.back_from.result within c.back_from.ensures c.loop-place.invariant.filled;
    }

pub returns : goal.returns
returns c = let at_end : c.loop-place.place ≡ 16 = omega arith in
    fill_by_all (back_at c.args.regs.now c.args.held.now) c.loop-place.slot-items 16 None c.loop-place.invariant.long (λ k h. c.loop-place.invariant.filled k (omega (arith, h)))
