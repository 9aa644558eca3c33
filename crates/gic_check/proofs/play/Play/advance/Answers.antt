use Rattle.std.proofs.Common.{◌≡◌, ◌+◌, ◌<◌, ◌^◌, IsTrue, false, sym, ap, ◌∙◌, subst}
use Rattle.trace_told.specs.LegalPlay.LegalSteps.Step.{pass_of, passed}
use Rattle.trace_told.specs.LegalPlay.Board.{IsOfPass, IsComingNext}
use Rattle.trace_told.specs.LegalPlay.HistoryPlay.Coming.{is_unknown}
use Rattle.gic_check.specs.Notes.{AreAllDone}
use Rattle.gic_check.specs.Play.{PlayOf, is_good_moment, IsPlayed, IsSomePlay}
use Rattle.gic_check.proofs.PlayLemmas.{room}
use Rattle.gic_check.proofs.AdvanceLemmas.{can_note, can_see, next_done, advanced}
use Rattle.gic_check.proofs.play.Play.advance.Goals as goal

pub note_before-requires : goal.note_before-requires
note_before-requires c =
    let p = subst (λ (q : PlayOf). IsSomePlay q.board q.notes) (sym c.self.view_is) c.requires.play in
    let done = subst (λ (q : PlayOf). AreAllDone q.board.state q.done) (sym c.self.view_is) c.requires.done in
    record {
      roomy =
          can_note p.guest p.moments c.self.inside.board c.self.inside.notes c.self.inside.done p.is done c.args.moment.now (subst (λ (q : PlayOf). IsTrue (is_good_moment q.board.state.guest.shape c.args.moment.now)) (sym c.self.view_is) c.requires.good)
          (subst (λ (q : PlayOf). IsComingNext q.board.state q.board.track c.args.moment.now) (sym c.self.view_is) c.requires.coming);
    }

pub advance-requires : goal.advance-requires
advance-requires c =
    let p = subst (λ (q : PlayOf). IsSomePlay q.board q.notes) (sym c.self.view_is) c.requires.play in
    record {
      room = room p.guest p.moments c.self.inside.board c.self.inside.notes p.is;
      coming = subst (λ (q : PlayOf). IsComingNext q.board.state q.board.track c.args.moment.now) (sym c.self.view_is) c.requires.coming;
      known = subst (λ (q : PlayOf). is_unknown q.board.state c.args.moment.now ≡ false) (sym c.self.view_is) c.requires.known;
      moments = subst (λ (q : PlayOf). q.board.moments + 1 < 2 ^ 64) (sym c.self.view_is) c.requires.moments;
    }

pub note_after-requires : goal.note_after-requires
note_after-requires c =
    let p = subst (λ (q : PlayOf). IsSomePlay q.board q.notes) (sym c.self.view_is) c.requires.play in
    let done = subst (λ (q : PlayOf). AreAllDone q.board.state q.done) (sym c.self.view_is) c.requires.done in
    let all = subst (AreAllDone c.self.inside.board.state) (sym c.as_slice-all.ensures) done in
    let of = c.in_ok-advance.ensures.value (pass_of p.guest p.moments) (subst (λ s. IsOfPass s (pass_of p.guest p.moments) c.self.inside.board) (sym p.is.of.shape_is) p.is.of) in
    can_see p.guest p.moments c.self.inside.board c.self.inside.notes c.as_slice-all.result.now p.is all c.args.moment.now c.advance.new.self c.note_before.new.notes (subst (λ s. IsOfPass s (passed (pass_of p.guest p.moments) c.args.moment.now) c.advance.new.self) p.is.of.shape_is of)
    (subst (λ (q : PlayOf). IsComingNext q.board.state q.board.track c.args.moment.now) (sym c.self.view_is) c.requires.coming)
    (subst (λ (q : PlayOf). IsTrue (is_good_moment q.board.state.guest.shape c.args.moment.now)) (sym c.self.view_is) c.requires.good) c.in_ok-note_before.ensures

pub returns-clause-played : goal.returns-clause-played
returns-clause-played c guest moments is0 =
    let is = subst (λ (q : PlayOf). IsPlayed guest moments q.board q.notes) (sym c.self.view_is) is0 in
    let done = subst (λ (q : PlayOf). AreAllDone q.board.state q.done) (sym c.self.view_is) c.requires.done in
    let all = subst (AreAllDone c.self.inside.board.state) (sym c.as_slice-all.ensures) done in
    let of = c.in_ok-advance.ensures.value (pass_of guest moments) (subst (λ s. IsOfPass s (pass_of guest moments) c.self.inside.board) (sym is.of.shape_is) is.of) in
    advanced guest moments c.self.inside.board c.self.inside.notes c.as_slice-all.result.now is all c.args.moment.now c.advance.new.self c.note_before.new.notes c.note_after.new.notes
    (subst (λ s. IsOfPass s (passed (pass_of guest moments) c.args.moment.now) c.advance.new.self) is.of.shape_is of)
    (subst (λ (q : PlayOf). IsComingNext q.board.state q.board.track c.args.moment.now) (sym c.self.view_is) c.requires.coming)
    (subst (λ (q : PlayOf). IsTrue (is_good_moment q.board.state.guest.shape c.args.moment.now)) (sym c.self.view_is) c.requires.good) c.in_ok-note_before.ensures c.in_ok-note_after.ensures

pub returns-clause-all : goal.returns-clause-all
returns-clause-all c =
    let p = subst (λ (q : PlayOf). IsSomePlay q.board q.notes) (sym c.self.view_is) c.requires.play in
    let done = subst (λ (q : PlayOf). AreAllDone q.board.state q.done) (sym c.self.view_is) c.requires.done in
    let of = c.in_ok-advance.ensures.value (pass_of p.guest p.moments) (subst (λ s. IsOfPass s (pass_of p.guest p.moments) c.self.inside.board) (sym p.is.of.shape_is) p.is.of) in
    subst (AreAllDone c.advance.new.self.state) (sym c.in_ok-note_done.ensures)
    (next_done p.guest p.moments c.self.inside.board c.self.inside.notes c.self.inside.done p.is done c.args.moment.now c.advance.new.self (subst (λ s. IsOfPass s (passed (pass_of p.guest p.moments) c.args.moment.now) c.advance.new.self) p.is.of.shape_is of)
    (subst (λ (q : PlayOf). is_unknown q.board.state c.args.moment.now ≡ false) (sym c.self.view_is) c.requires.known))

pub returns-clause-count : goal.returns-clause-count
returns-clause-count c = c.in_ok-advance.ensures.count ∙ ap (λ (q : PlayOf). q.board.moments + 1) c.self.view_is
