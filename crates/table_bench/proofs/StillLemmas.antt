-- What a message leaves.
use Rattle.std.proofs.Common.{◌≡◌, true, IsTrue, List, sym, subst}
use Rattle.gic_msi.specs.Words.{Key, has_interrupt}
use Rattle.gic_msi.specs.Registers.{has_lpis}
use Rattle.gic_msi.specs.Core.{Made, Seen, Adds, shape_of}

-- an interrupt is there still
pub still_there : (old new : Seen) (part : List Made) (key : Key) → Adds old new part → IsTrue (has_interrupt (shape_of old) key) → IsTrue (has_interrupt (shape_of new) key)
still_there old new part key adds there = subst (λ seen. IsTrue (has_interrupt (shape_of seen) key)) (sym adds.new_is) there

-- the guest has LPIs still
pub has_lpis_still : (old new : Seen) (part : List Made) → Adds old new part → has_lpis (shape_of old) ≡ true → has_lpis (shape_of new) ≡ true
has_lpis_still old new part adds lpis = subst (λ seen. has_lpis (shape_of seen) ≡ true) (sym adds.new_is) lpis
