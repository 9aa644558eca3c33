use Rattle.std.proofs.Common.{◌↔◌, ◌≤◌, drop}
use Rattle.history_commands.specs.Mapped.{mapped_by, targets_by}
use Rattle.history_commands.specs.Stage.{Follow}
use Rattle.history_commands.specs.Followed.{stage_from, stage_of}
use Rattle.history_commands.proofs.follow.follows.Given as goal

-- all events may follow exactly where those that are left may, from the stage that the walk has come to
abbrev pub invariant-loop-made : goal.invariant-loop-made
invariant-loop-made l =
    record {
      left :
          Follow l.shape (targets_by l.commands) l.actor l.is_open (stage_from (mapped_by l.shape l.done) l.fn.start) l.piece
          ↔ Follow l.shape (targets_by l.commands) l.actor l.is_open (stage_of l.walk) (drop l.made-index l.piece);
      few : l.walk.number ≤ l.made-index;
    }
