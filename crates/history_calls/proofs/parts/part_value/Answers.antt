use Rattle.std.proofs.Common.{◌≡◌, ◌+◌, refl, ap, sym, ◌∙◌, add-one}
use Rattle.history_calls.specs.Registers.{part_at as put_at}
use Rattle.history_calls.specs.Calls.{part_at, part_value}
use Rattle.history_calls.specs.Found.{found_by}
use Rattle.history_calls.proofs.parts.part_value.Goals as goal

pub loop-number-preserved : goal.loop-number-preserved
loop-number-preserved c =
    let shape = c.args.shape.now in
    let view = found_by c.args.piece.now in
    let kind = c.args.kind in
    let n = c.loop-number.number in
    let next : part_value shape view c.args.frame kind c.args.first (n + 1) ≡ part_value shape view c.args.frame kind c.args.first n + put_at kind (part_at shape view c.args.frame kind c.args.first n) n = rw add-one refl in
    record {
      so_far = c.with_part-value.ensures.value ∙ ap (λ v. v + put_at kind c.part.result n) c.loop-number.invariant.so_far ∙ ap (λ p. part_value shape view c.args.frame kind c.args.first n + put_at kind p n) c.part.ensures.value ∙ sym next;
      below = c.with_part-value.ensures.before;
    }
