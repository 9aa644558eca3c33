use Rattle.std.proofs.Common.{rules}
use Rattle.std.proofs.lemmas.List.Sorted.{answers_always}
use Rattle.gic_picture.specs.Rows.{calm_of}
use Rattle.gic_picture.proofs.rows.sort.Goals as goal

pub returns : goal.returns
returns c =
    record {
      same = c.in_ok-sort_by_key.ensures.permutation;
      busiest = c.in_ok-sort_by_key.ensures.sorted calm_of (answers_always _ _ _ (λ f a r next called. search rules));
      stable = c.in_ok-sort_by_key.ensures.stable calm_of (answers_always _ _ _ (λ f a r next called. search rules));
    }
