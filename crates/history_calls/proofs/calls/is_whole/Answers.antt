use Rattle.std.proofs.Common.{◌∙◌, ap}
use Rattle.std.specs.List.{list_all}
use Rattle.history_calls.specs.Exact.{is_told}
use Rattle.history_calls.specs.Found.{found_by}
use Rattle.history_calls.proofs.CallLemmas.{whole_lost}
use Rattle.history_calls.proofs.PlainLemmas.{events_told}
use Rattle.history_calls.proofs.calls.is_whole.Goals as goal

pub count_made-requires : goal.count_made-requires
count_made-requires c = ap (list_all is_told) (c.as_slice.ensures ∙ c.in_ok-events.ensures) ∙ events_told c.args.shape.now c.args.actor (found_by c.args.piece.now) c.args.operation.now c.requires.plain

pub returns : goal.returns
returns c =
    whole_lost c.args.shape.now c.args.actor c.args.operation.now c.args.piece.now c.as_slice.result.now c.count_made.result c.vcpu_of.result (c.as_slice.ensures ∙ c.in_ok-events.ensures) c.vcpu_of.ensures c.in-None.is c.count_made.ensures.none
