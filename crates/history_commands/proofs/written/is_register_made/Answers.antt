use Rattle.std.proofs.Common.{◌∙◌}
use Rattle.history_commands.proofs.RegisterLemmas.{these_of_its, unmade, made_decided}
use Rattle.history_commands.proofs.written.is_register_made.Goals as goal

pub are_these-requires : goal.are_these-requires
are_these-requires c = these_of_its c.args.shape.now c.args.actor c.args.reference c.args.value c.args.piece.now c.as_slice.result.now (c.as_slice.ensures ∙ c.in_ok-events.ensures)

pub returns-then-not-are_these : goal.returns-then-not-are_these
returns-then-not-are_these c =
    unmade c.args.shape.now c.args.actor c.args.reference c.args.value c.args.piece.now c.as_slice.result.now (c.as_slice.ensures ∙ c.in_ok-events.ensures) c.are_these.result c.if-not-are_these.true c.are_these.ensures

pub returns : goal.returns
returns c =
    made_decided c.args.shape.now c.args.actor c.args.reference c.args.value c.args.piece.now c.as_slice.result.now (c.as_slice.ensures ∙ c.in_ok-events.ensures) c.are_these.result c.are_read.result c.if-not-are_these.false c.are_these.ensures
    (c.are_read.ensures c.args.value)
