use Rattle.std.proofs.Common.{◌∙◌, ap}
use Rattle.std.specs.List.{list_all}
use Rattle.history_calls.specs.Exact.{is_told}
use Rattle.history_calls.specs.Found.{open_by}
use Rattle.history_calls.proofs.CallLemmas.{first_found}
use Rattle.history_calls.proofs.PlainLemmas.{events_told}
use Rattle.history_calls.proofs.calls.is_first.Goals as goal

pub count_made-count-requires : goal.count_made-count-requires
count_made-count-requires c = ap (list_all is_told) (c.as_slice.ensures ∙ c.in_ok-events.ensures) ∙ events_told c.args.shape.now c.args.actor (open_by c.args.piece.now) c.args.operation.now c.requires.plain

pub returns : goal.returns
returns c =
    first_found c.args.shape.now c.args.actor c.args.operation.now c.args.piece.now c.as_slice.result.now c.count_made-count.result c.vcpu_of.result c.is_some.result (c.as_slice.ensures ∙ c.in_ok-events.ensures) c.vcpu_of.ensures c.is_some.ensures
    c.count_made-count.ensures.some c.count_made-count.ensures.none
