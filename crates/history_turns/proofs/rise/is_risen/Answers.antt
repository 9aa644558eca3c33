use Rattle.std.proofs.Common.{◌∙◌}
use Rattle.history_turns.proofs.RiseSteps.{risen_told, unmade_risen, unread_risen, risen_decided}
use Rattle.history_turns.proofs.rise.is_risen.Goals.{then-not-are_these-via-then-not-are_these, then-not-are_these-via-else-not-are_these+then-not-are_read}
use Rattle.history_turns.proofs.rise.is_risen.Goals as goal

pub are_these-requires : goal.are_these-requires
are_these-requires c = risen_told c.args.shape.now c.args.actor c.args.vcpu c.args.noted.now c.args.is_on c.args.piece.now c.as_slice.result.now (c.as_slice.ensures ∙ c.in_ok-events.ensures)

pub returns : goal.returns
returns c =
    risen_decided c.args.shape.now c.args.actor c.args.vcpu c.args.noted.now c.args.is_on c.args.piece.now c.as_slice.result.now (c.as_slice.ensures ∙ c.in_ok-events.ensures) c.are_these.result c.are_read.result c.are_settled.result
    c.if-not-are_these.false c.are_these.ensures c.if-not-are_read.false c.are_read.ensures c.are_settled.ensures

pub returns-then-not-are_these : goal.returns-then-not-are_these
returns-then-not-are_these c =
    let are = c.as_slice.ensures ∙ c.in_ok-events.ensures in
    elim c.then-not-are_these.branch [
      | then-not-are_these-via-then-not-are_these w ↦
          unmade_risen c.args.shape.now c.args.actor c.args.vcpu c.args.noted.now c.args.is_on c.args.piece.now c.as_slice.result.now are c.are_these.result w.if-not-are_these.true c.are_these.ensures
      | then-not-are_these-via-else-not-are_these+then-not-are_read w ↦
          unread_risen c.args.shape.now c.args.actor c.args.vcpu c.args.noted.now c.args.is_on c.args.piece.now c.as_slice.result.now are w.are_read.result w.if-not-are_read.true w.are_read.ensures
    ]
