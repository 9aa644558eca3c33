use Rattle.std.proofs.Common.{sym, rules, nat_lt}
use Rattle.std.specs.Cmp.{nat_cmp_total}
use Rattle.std.proofs.lemmas.List.Sorted.{answers_always}
use Rattle.saved_check.specs.Rows.{ram_index}
use Rattle.saved_check.proofs.OrderLemmas.{nat_cmp-ltb, tells_order}
use Rattle.saved_check.proofs.order.are_words_in_order.Goals as goal

pub returns : goal.returns
returns c =
    tells_order nat_cmp_total ram_index (λ x y. nat_lt x.index y.index) (λ x y. sym (nat_cmp-ltb x.index y.index)) c.args.words.now c.is_sorted_by.result
    (c.is_sorted_by.ensures.cases (λ x y. nat_lt x.index y.index) (answers_always _ _ _ (λ f a r g h. search rules)))
