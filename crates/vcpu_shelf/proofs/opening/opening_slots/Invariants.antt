use Rattle.std.proofs.Common.{◌≡◌, Some, map}
use Rattle.vcpu_shelf.proofs.opening.opening_slots.Given as goal

-- the slots so far
abbrev pub invariant-loop-traveller : goal.invariant-loop-traveller
invariant-loop-traveller g l = l.slots.items ≡ map (λ (traveller : g.row.T.Denot). Some traveller) l.yielded
