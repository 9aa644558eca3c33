use Rattle.std.proofs.Common.{subst, sym, ap, ◌∙◌}
use Rattle.legal_steps.specs.Waiting.{waits_after}
use Rattle.legal_play.specs.Board.{BoardOf, IsOfPass, IsComingNext}
use Rattle.legal_play.proofs.BoardLemmas.{advanced}
use Rattle.legal_play.proofs.board.Board.advance.Goals as goal

pub returns-clause-value : goal.returns-clause-value
returns-clause-value c pass of =
    let moment = c.args.moment.now in
    let shape = c.args.self.now.state.guest.shape in
    let inside : BoardOf = record { state = c.self.inside.state; track = c.self.inside.track; pieces = c.self.inside.pieces; waits = c.self.inside.waits; moments = c.self.inside.moments } in
    advanced shape pass inside moment c.follow.new.state c.follow.new.track c.note.new.pieces c.in_ok-waits.waits
    (subst (IsOfPass shape pass) (sym c.self.view_is) of)
    (subst (λ board. IsComingNext board.state board.track moment) (sym c.self.view_is) c.requires.coming)
    c.in_ok-follow.ensures.ready
    c.in_ok-follow.ensures.state
    c.in_ok-follow.ensures.track
    c.in_ok-note.ensures.value
    (c.in_ok-waits.ensures ∙ ap (waits_after inside.state inside.track moment) c.as_slice.ensures)
