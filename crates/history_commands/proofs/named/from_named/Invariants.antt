use Rattle.std.proofs.Common.{◌≡◌, drop, length}
use Rattle.history_commands.specs.Walked.{from_named}
use Rattle.history_commands.proofs.named.from_named.Given as goal

-- those that are left tell it
abbrev pub invariant-loop-index : goal.invariant-loop-index
invariant-loop-index l =
    record {
      end : l.index-end ≡ length l.piece;
      left : from_named l.actor (drop l.index l.piece) ≡ from_named l.actor l.piece;
    }
