use Rattle.std.proofs.Common.{◌≡◌, Bool, [], ◌∙◌}
use Rattle.std.specs.List.{cons_option}
use Rattle.std.proofs.lemmas.Result.{IfOk-weaker}
use Rattle.history_calls.specs.Registers.{Router}
use Rattle.history_calls.specs.Calls.{dist_plain}
use Rattle.history_calls.specs.Found.{seen_by}
use Rattle.history_calls.proofs.events.router_events.Goals as goal

pub returns : goal.returns
returns c =
    IfOk-weaker c.one_or_none.result (λ events. events ≡ cons_option c.router_event.result []) (λ events. (is_open : Bool) → events ≡ dist_plain c.args.shape.now (seen_by is_open c.args.piece.now) (Router c.args.id) c.args.half c.args.write)
    (λ events is is_open. is ∙ c.router_event.ensures is_open) c.one_or_none.ensures
