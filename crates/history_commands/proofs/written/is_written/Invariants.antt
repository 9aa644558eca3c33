use Rattle.std.proofs.Common.{◌≡◌, ◌<◌, ◌+◌, ℕ, length}
use Rattle.history_commands.specs.Mapped.{mapped_by, targets_by}
use Rattle.history_commands.proofs.RegisterLemmas.{IsCut}
use Rattle.history_commands.proofs.written.is_written.Given as goal

-- none so far is one
abbrev pub invariant-loop-cut : goal.invariant-loop-cut
invariant-loop-cut l =
    record {
      end : l.cut-end ≡ l.most + 1;
      none : (cut : ℕ) → cut < l.cut → IsCut l.shape (mapped_by l.shape l.done) (targets_by l.commands) l.actor l.offset l.size l.value l.is_open l.piece cut → ⊥;
    }
