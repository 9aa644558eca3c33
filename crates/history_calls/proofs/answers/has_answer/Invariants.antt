use Rattle.std.proofs.Common.{Contains, take}
use Rattle.history_calls.specs.Exact.{access_read}
use Rattle.history_calls.proofs.answers.has_answer.Given as goal

-- none so far
abbrev pub invariant-loop-made : goal.invariant-loop-made
invariant-loop-made l = Contains (take l.made-index l.piece) (access_read l.actor l.reg l.write l.answer) → ⊥
