use Rattle.std.proofs.Common.{◌≡◌, length}
use Rattle.vcpu_shelf.specs.Answer.{AreInPlace}
use Rattle.word_rows.proofs.vcpu_shelf_rows.counters.Given as goal

-- the counters so far
abbrev pub invariant-loop-place : goal.invariant-loop-place
invariant-loop-place l = record { count : length l.all.items ≡ l.place; end : l.place-end ≡ length l.fn.dues; placed : AreInPlace (λ counter. counter.place) l.all.items }
