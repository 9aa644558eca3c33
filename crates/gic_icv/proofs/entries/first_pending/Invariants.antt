use Rattle.std.proofs.Common.{◌≡◌, take}
use Rattle.gic_ich.specs.GicPrio.Delivery.{first_of}
use Rattle.gic_icv.specs.Entries.{candidates_in}
use Rattle.gic_icv.proofs.entries.first_pending.Given as goal

-- the first of those looked at
abbrev pub invariant-loop-word : goal.invariant-loop-word
invariant-loop-word l = l.first ≡ first_of (candidates_in l.cpu (take l.word-index l.words))
