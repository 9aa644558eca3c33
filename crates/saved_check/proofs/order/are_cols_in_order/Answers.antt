use Rattle.std.proofs.Common.{sym, rules, nat_lt}
use Rattle.std.specs.Cmp.{nat_cmp_total}
use Rattle.std.proofs.lemmas.List.Sorted.{answers_always}
use Rattle.saved_check.specs.Tables.{col_entry}
use Rattle.saved_check.proofs.OrderLemmas.{nat_cmp-ltb, tells_key_order}
use Rattle.saved_check.proofs.order.are_cols_in_order.Goals as goal

pub returns : goal.returns
returns c =
    tells_key_order nat_cmp_total col_entry (λ x y. nat_lt x.icid y.icid) (λ x y. sym (nat_cmp-ltb x.icid y.icid)) c.args.cols.now c.is_sorted_by.result
    (c.is_sorted_by.ensures.cases (λ x y. nat_lt x.icid y.icid) (answers_always _ _ _ (λ f a r g h. search rules)))
