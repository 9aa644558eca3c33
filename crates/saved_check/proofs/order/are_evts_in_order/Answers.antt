use Rattle.std.proofs.Common.{refl, rules}
use Rattle.std.specs.Ordering.{is_lt}
use Rattle.std.proofs.lemmas.List.Sorted.{answers_always}
use Rattle.saved_guest.specs.IdealGuests.Registers.{event_cmp}
use Rattle.saved_guest.proofs.IdealGuests.ItsTab.TableLemmas.{event_order}
use Rattle.saved_check.specs.Tables.{evt_entry}
use Rattle.saved_check.proofs.OrderLemmas.{tells_key_order}
use Rattle.saved_check.proofs.order.are_evts_in_order.Goals as goal

pub returns : goal.returns
returns c =
    tells_key_order event_order evt_entry (λ x y. is_lt (event_cmp (x.device, x.event) (y.device, y.event))) (λ x y. refl) c.args.evts.now c.is_sorted_by.result
    (c.is_sorted_by.ensures.cases (λ x y. is_lt (event_cmp (x.device, x.event) (y.device, y.event))) (answers_always _ _ _ (λ f a r g h. search rules)))
