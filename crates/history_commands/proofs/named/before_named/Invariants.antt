use Rattle.std.proofs.Common.{◌≡◌, ◌++◌, take, drop, length}
use Rattle.history_commands.specs.Walked.{before_named}
use Rattle.history_commands.proofs.named.before_named.Given as goal

-- those so far come before, and so do the first ones that are left
abbrev pub invariant-loop-index : goal.invariant-loop-index
invariant-loop-index l =
    record {
      end : l.index-end ≡ length l.piece;
      left : take l.index l.piece ++ before_named l.actor (drop l.index l.piece) ≡ before_named l.actor l.piece;
    }
