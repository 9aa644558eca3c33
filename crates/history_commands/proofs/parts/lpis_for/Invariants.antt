use Rattle.std.proofs.Common.{◌≡◌, filter}
use Rattle.std.specs.List.{range_with_len}
use Rattle.history_commands.specs.Words.{is_number}
use Rattle.history_commands.specs.Mapped.{targets_by}
use Rattle.history_commands.proofs.parts.lpis_for.Given as goal

-- those so far
abbrev pub invariant-loop-place : goal.invariant-loop-place
invariant-loop-place l = l.ids ≡ filter (λ id. is_number l.vcpu (targets_by l.commands l.number id)) (range_with_len 8192 l.place)
