use Rattle.std.proofs.Common.{◌≡◌, ◌∷◌, take}
use Rattle.gic_ideal.proofs.shown.listed.Given as goal

-- the words so far
abbrev pub invariant-loop-word : goal.invariant-loop-word
invariant-loop-word l = l.shown ≡ l.hcr ∷ take l.word-index l.words
