use Rattle.std.proofs.Common.{◌≡◌, sym, ap, ◌∙◌, subst}
use Rattle.std.specs.List.{list_all}
use Rattle.std.proofs.lemmas.Result.{IfOk-weaker}
use Rattle.trace_told.specs.Words.{IsShape}
use Rattle.trace_told.specs.LegalPlay.LegalSteps.Step.{pass_of, may_all_be_answered}
use Rattle.trace_told.specs.LegalPlay.LegalSteps.Waiting.{may_be_answered}
use Rattle.trace_told.specs.LegalPlay.Answering.{AreGood}
use Rattle.trace_told.specs.LegalPlay.Board.{BoardOf}
use Rattle.trace_told.specs.LegalPlay.Pieces.{AreCalls}
use Rattle.gic_check.specs.Play.{IsPlayed, IsSomePlay}
use Rattle.gic_check.proofs.PlayLemmas.{good, is_shape}
use Rattle.gic_check.proofs.play.may_be_answered.Goals as goal

pub may_all_be_answered-requires : goal.may_all_be_answered-requires
may_all_be_answered-requires c =
    let b : BoardOf = record { state = c.board.inside.state; track = c.board.inside.track; pieces = c.board.inside.pieces; waits = c.board.inside.waits; moments = c.board.inside.moments } in
    let same : b ≡ c.args.board.now = c.board.view_is in
    let p = subst (λ x. IsSomePlay x c.args._notes.now) (sym same) c.requires.play in
    record {
      shape = subst IsShape (sym c.shape.ensures) (is_shape p.guest p.moments b c.args._notes.now p.is);
      good = subst (λ s. AreGood s b.track) (sym c.shape.ensures) (good p.guest p.moments b c.args._notes.now p.is);
    }

pub returns : goal.returns
returns c guest moments is0 =
    let b : BoardOf = record { state = c.board.inside.state; track = c.board.inside.track; pieces = c.board.inside.pieces; waits = c.board.inside.waits; moments = c.board.inside.moments } in
    let same : b ≡ c.args.board.now = c.board.view_is in
    let is = subst (λ x. IsPlayed guest moments x c.args._notes.now) (sym same) is0 in
    let course = (pass_of guest moments).course in
    IfOk-weaker c.may_all_be_answered.result (λ may. may ≡ list_all (may_be_answered c.shape.result.now course) c.as_slice-2.result.now) (λ may. may ≡ may_all_be_answered guest (pass_of guest moments))
    (λ may so. so ∙ (ap (λ s. list_all (may_be_answered s course) c.as_slice-2.result.now) (c.shape.ensures ∙ is.of.shape_is) ∙ ap (list_all (may_be_answered guest.shape course)) (c.as_slice-2.ensures ∙ sym is.of.waits_are)))
    (c.may_all_be_answered.ensures course (subst (AreCalls course b.track) (sym c.as_slice.ensures) is.of.calls))
