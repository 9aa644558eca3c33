-- The tables of an ITS, or who has taken them.
use Rattle.std.specs.Prelude.{ℕ, Option, Some, None}
use Rattle.port_ops.specs.Registers.{Maps}
use Rattle.port_seq.specs.declared.its_home.ItsHome.{ItsHome}
use Rattle.port_seq.specs.declared.its_home.ItsHome.TheVariants.{Here, TakenBy}

-- the maps of the tables that are here
abbrev pub maps_here : ItsHome → Option Maps
maps_here (Here maps) = Some maps
maps_here (TakenBy actor) = None

-- the actor that has taken them
abbrev pub taker_of : ItsHome → Option ℕ
taker_of (Here maps) = None
taker_of (TakenBy actor) = Some actor
