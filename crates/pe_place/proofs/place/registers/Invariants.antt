-- The words so far, and there is room for the others.
use Rattle.std.proofs.Common.{◌≡◌, ◌<◌, ◌∷◌, take, vec_capacity}
use Rattle.pe_place.proofs.place.registers.Given as goal

abbrev pub invariant-loop-word : goal.invariant-loop-word
invariant-loop-word l = (l.list.items ≡ l.vcpu.regs.hcr ∷ take l.word-index l.word-items) × (16 < vec_capacity l.list)
