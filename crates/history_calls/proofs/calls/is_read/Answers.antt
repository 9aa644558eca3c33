use Rattle.std.proofs.Common.{[], sym, ap, ◌∙◌}
use Rattle.std.specs.List.{cons_option}
use Rattle.history_calls.specs.Exact.{places_by}
use Rattle.history_calls.specs.Found.{found_by}
use Rattle.history_calls.proofs.CallLemmas.{read_decided}
use Rattle.history_calls.proofs.calls.is_read.Goals as goal

pub returns-in-Some : goal.returns-in-Some
returns-in-Some c =
    let view = found_by c.args.piece.now in
    read_decided view c.args.piece.now (places_by c.args.shape.now view c.args.operation.now) c.in-Some.place c.was_read.result (ap (λ o. cons_option o []) (sym c.in-Some.is) ∙ c.place_of.ensures view) c.was_read.ensures
