-- Accesses of the ITS as whole calls.
use Rattle.std.proofs.Common.{◌≡◌, ℕ, false, Option, Some, None, refl, sym, subst}
use Rattle.pe_mem.specs.Words.{Its, GuestShape}
use Rattle.pe_mem.specs.GicImap.declared.map.RegRef.{RegRef}
use Rattle.pe_mem.specs.GicImap.declared.map.RegRef.TheVariants.{Plain, Reserved}
use Rattle.pe_mem.specs.GicImap.Map.{decoded}
use Rattle.pe_mem.specs.Calls.{takes_turn}
use Rattle.pe_mem.specs.Core.{Seen, IsPort, shape_of}
use Rattle.pe_mem.specs.Call.{CanAccess, MakesAccess, ServesAccess}
use Rattle.pe_mem.proofs.CallLemmas.{can_ease, makes_access}
use Rattle.pe_its.proofs.ReadLemmas.{serves_ignored}

-- a read does not take the ITS
read_takes_none : (shape : GuestShape) (ref : RegRef) → takes_turn shape ref None ≡ false
read_takes_none shape (Plain reg half) = refl
read_takes_none shape Reserved = refl

access_by : (old new : Seen) (offset size : ℕ) (write its answer : Option ℕ) → write ≡ its → MakesAccess old new Its offset size its answer → MakesAccess old new Its offset size write answer
access_by old new offset size write its answer e made = let By : Option ℕ → Type 0 = λ write. MakesAccess old new Its offset size write answer in subst By (sym e) made

pub reads_its : (old new : Seen) (offset size value : ℕ) (write : Option ℕ) → write ≡ None → IsPort new → CanAccess old → ServesAccess old new Its offset size None value → MakesAccess old new Its offset size write (Some value)
reads_its old new offset size value write e is_new can serves =
    access_by old new offset size write None (Some value) e (makes_access old new Its offset size None value (Some value) is_new can (read_takes_none (shape_of old) (decoded offset size)) refl serves)

pub ignores_write : (old : Seen) (offset size value : ℕ) (write : Option ℕ) → write ≡ Some value → IsPort old → CanAccess old → takes_turn (shape_of old) (decoded offset size) (Some value) ≡ false → MakesAccess old old Its offset size write None
ignores_write old offset size value write e is_port can ignored =
    access_by old old offset size write (Some value) None e (makes_access old old Its offset size (Some value) 0 None is_port can ignored refl (serves_ignored old offset size value (can_ease old can) ignored))
