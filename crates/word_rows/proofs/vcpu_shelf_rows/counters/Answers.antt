use Rattle.std.proofs.Common.{◌+◌, ℕ, List, length, refl, sym, ap, subst, ◌∙◌}
use Rattle.std.proofs.lemmas.List.{length_push}
use Rattle.word_rows.specs.declared.vcpu_shelf_rows.Counter.{Counter}
use Rattle.vcpu_shelf.specs.Answer.{AreInPlace}
use Rattle.vcpu_shelf.proofs.PlaceLemmas.{in_place_push}
use Rattle.word_rows.proofs.vcpu_shelf_rows.counters.Goals as goal

pub loop-place-preserved : goal.loop-place-preserved
loop-place-preserved c =
    let at = c.loop-place in
    let items = c.in_ok-push.ensures.items in
    record {
      count = ap (λ (all : List Counter). length all) items ∙ length_push at.all.items _ ∙ ap (λ (n : ℕ). n + 1) at.invariant.count;
      end = refl;
      placed = subst (λ (all : List Counter). AreInPlace (λ counter. counter.place) all) (sym items) (in_place_push (λ (counter : Counter). counter.place) at.all.items _ at.invariant.placed (sym at.invariant.count));
    }
