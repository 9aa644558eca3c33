use Rattle.std.proofs.Common.{◌≡◌, Bool, [], ◌∙◌}
use Rattle.std.specs.List.{cons_option}
use Rattle.std.proofs.lemmas.Result.{IfOk-weaker}
use Rattle.history_calls.specs.Calls.{memory_written}
use Rattle.history_calls.specs.Found.{seen_by}
use Rattle.history_calls.proofs.events.memory_events.Goals as goal

pub returns : goal.returns
returns c =
    IfOk-weaker c.one_or_none.result (λ events. events ≡ cons_option c.memory_event.result []) (λ events. (is_open : Bool) → events ≡ memory_written c.args.shape.now (seen_by is_open c.args.piece.now) c.args.offset c.args.size c.args.value)
    (λ events is is_open. is ∙ c.memory_event.ensures is_open) c.one_or_none.ensures
