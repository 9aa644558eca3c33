use Rattle.std.proofs.Common.{◌≡◌, fold, drop}
use Rattle.history_commands.specs.Mapped.{mapped_after, mapped_by}
use Rattle.history_commands.proofs.mapped.tables_after.Given as goal

-- the commands so far and those that are left map it
abbrev pub invariant-loop-words : goal.invariant-loop-words
invariant-loop-words l = fold (mapped_after l.shape) l.tables (drop l.words-index l.done) ≡ mapped_by l.shape l.done
