use Rattle.std.proofs.Common.{sym, ap, ◌∙◌}
use Rattle.history_commands.specs.Calls.{Happened, is_beside}
use Rattle.history_commands.proofs.NamedLemmas.{here_named, here_beside, rest_whole}
use Rattle.history_commands.proofs.named.from_named.Goals as goal

pub returns-then-not-is_beside : goal.returns-then-not-is_beside
returns-then-not-is_beside c =
    rest_whole c.args.actor c.args.piece.now c.loop-index.index c.index-piece-index.result c.loop-index-test.true (sym c.index-piece-index.is)
    ∙ sym
    (here_named c.args.actor c.args.piece.now c.loop-index.index c.index-piece-index.result c.loop-index-test.true (sym c.index-piece-index.is)
    (ap (λ (h : Happened). is_beside c.args.actor h.event) (sym c.made.view_is) ∙ sym c.is_beside.ensures ∙ c.if-not-is_beside.true))
    ∙ c.loop-index.invariant.left

pub loop-index-preserved : goal.loop-index-preserved
loop-index-preserved c = record {
  end = c.loop-index.invariant.end;
  left =
      here_beside c.args.actor c.args.piece.now c.loop-index.index c.index-piece-index.result c.loop-index-test.true (sym c.index-piece-index.is)
      (ap (λ (h : Happened). is_beside c.args.actor h.event) (sym c.made.view_is) ∙ sym c.is_beside.ensures ∙ c.if-not-is_beside.false)
      ∙ c.loop-index.invariant.left;
}
