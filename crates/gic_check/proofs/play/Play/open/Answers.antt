use Rattle.std.proofs.Common.{sym, subst}
use Rattle.trace_told.specs.Histories.{opening_guest}
use Rattle.gic_check.specs.Notes.{AreAllDone}
use Rattle.gic_check.proofs.PlayLemmas.{opened, opened_done}
use Rattle.gic_check.proofs.play.Play.open.Goals as goal

pub returns : goal.returns
returns c = record {
  played = opened (opening_guest c.args.guest.now) c.in_ok-board.board c.in_ok-notes.notes c.in_ok-board.ensures.value c.in_ok-notes.ensures;
  done = subst (AreAllDone c.in_ok-board.board.state) (sym c.new-done.ensures) (opened_done c.args.guest.now c.in_ok-board.board c.in_ok-board.ensures.value);
  none = c.in_ok-board.ensures.none;
}
