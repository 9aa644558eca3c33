use Rattle.std.proofs.Common.{sym, ◌∙◌}
use Rattle.history_calls.specs.Found.{seen_by}
use Rattle.history_calls.proofs.PlainLemmas.{its_makes_none}
use Rattle.history_calls.proofs.events.access_events.Goals as goal

pub returns-in-Its-default : goal.returns-in-Its-default
returns-in-Its-default c =
    c.new-in-Its-default.ensures ∙ sym (its_makes_none c.args.shape.now (seen_by c.args.is_open c.args.piece.now) c.args.frame c.args.offset c.args.size c.args.write c.in-Its-default.is-0 c.requires.plain)
