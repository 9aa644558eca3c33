use Rattle.std.proofs.Common.{◌∙◌}
use Rattle.history_turns.proofs.RiseSteps.{rising_told, unmade_rising, rising_decided}
use Rattle.history_turns.proofs.rise.is_rising.Goals as goal

pub are_these-requires : goal.are_these-requires
are_these-requires c = rising_told c.args.shape.now c.args.actor c.args.noted.now c.args.piece.now c.as_slice.result.now (c.as_slice.ensures ∙ c.in_ok-events.ensures)

pub returns : goal.returns
returns c =
    rising_decided c.args.shape.now c.args.actor c.args.noted.now c.args.piece.now c.as_slice.result.now (c.as_slice.ensures ∙ c.in_ok-events.ensures) c.are_these.result c.may_all_be_touched.result c.if-not-are_these.false c.are_these.ensures
    c.may_all_be_touched.ensures

pub returns-then-not-are_these : goal.returns-then-not-are_these
returns-then-not-are_these c =
    unmade_rising c.args.shape.now c.args.actor c.args.noted.now c.args.piece.now c.as_slice.result.now (c.as_slice.ensures ∙ c.in_ok-events.ensures) c.are_these.result c.if-not-are_these.true c.are_these.ensures
