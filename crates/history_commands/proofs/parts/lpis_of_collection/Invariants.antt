use Rattle.std.proofs.Common.{◌≡◌, filter}
use Rattle.std.specs.List.{range_with_len}
use Rattle.history_commands.specs.Words.{is_number}
use Rattle.history_commands.specs.Registers.{collection_of}
use Rattle.history_commands.proofs.parts.lpis_of_collection.Given as goal

-- those so far
abbrev pub invariant-loop-number : goal.invariant-loop-number
invariant-loop-number l = l.ids ≡ filter (λ id. is_number l.icid (collection_of l.tables id)) (range_with_len 8192 l.number)
