-- What is kept of some interrupts in delivery order: as many as a PE has list registers at most.
use Rattle.std.specs.Prelude.{Bool, true, nat_lt, List, Option, length, map, slice_get}
use Rattle.std.specs.List.{range_with_len}
use Rattle.std.specs.Option.{option_map_or}
use Rattle.vcpu_refill.specs.declared.offer.Offer.{Offer}
use Rattle.vcpu_refill.specs.declared.ranking.Ranking.{Ranking}
use Rattle.vcpu_refill.specs.Order.{goes_before}

-- the elements of a list, one in each of 16 places, and none where the list has ended
unfoldable pub in_places : {X : Type 0} → List X → List (Option X)
in_places xs = map (slice_get xs) (range_with_len 0 16)

-- the first 16 of some interrupts, and whether there are more
abbrev pub ranking_of : List Offer → Ranking
ranking_of offers = record { places = in_places offers; more = nat_lt 16 (length offers) }

-- a place is free, or has an interrupt that this one goes before
abbrev pub gives_way : Offer → Option Offer → Bool
gives_way offer kept = option_map_or (goes_before offer) kept true
