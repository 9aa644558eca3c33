-- The LPIs of the commands that are about several (IHI 0069, "ITS commands": MAPC, INVALL and MOVALL).
use Rattle.std.specs.Prelude.{ℕ, is_some, Bool, Option}
use Rattle.std.specs.Option.{option_map, option_and_then}
use Rattle.its_tab.specs.Maps.{Maps, pair_of, target_of, owner_of}

-- the collection of an LPI: that of the event that has its INTID
abbrev pub collection_of : Maps → ℕ → Option ℕ
collection_of maps id = option_map (λ pair. pair.1) (option_and_then (pair_of maps) (owner_of maps id))

-- an LPI has a target vCPU: its collection is mapped
abbrev pub has_target : Maps → ℕ → Bool
has_target maps id = is_some (option_and_then (target_of maps) (collection_of maps id))
