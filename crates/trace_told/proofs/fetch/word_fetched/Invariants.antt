use Rattle.std.proofs.Common.{◌≡◌, drop, fold}
use Rattle.trace_told.specs.Told.{fetching, nothing_fetched}
use Rattle.trace_told.proofs.fetch.word_fetched.Given as goal

-- the events so far and those that are left tell it
abbrev pub invariant-loop-made : goal.invariant-loop-made
invariant-loop-made l = fold (fetching l.vcpu l.place) (record { is_open = l.is_open; word = l.word }) (drop l.made-index l.piece) ≡ fold (fetching l.vcpu l.place) nothing_fetched l.piece
