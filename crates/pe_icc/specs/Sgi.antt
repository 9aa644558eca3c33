-- The SGIs that a write of ICC_SGI1R sends (IHI 0069, ICC_SGI1R_EL1).
use Rattle.std.specs.Prelude.{◌≡◌, ℕ, IsTrue, List, [], map, filter_map, Option, None}
use Rattle.std.specs.List.{range_with_len}
use Rattle.pe_loop.specs.Words.{IccReg, Sgi1r}
use Rattle.pe_loop.specs.Calls.{Event, icc_raises, sgi_at, Happened}
use Rattle.pe_loop.specs.GicCall.declared.event.Found.TheVariants.{Nothing}
use Rattle.pe_loop.specs.Core.{Made, Seen, Adds, shape_of, part_events}
use Rattle.pe_loop.specs.PortCall.Piece.{takes_none, IsPiece}
use Rattle.pe_loop.specs.PortCall.Rest.{StaysAtEase}

-- an event that hands out nothing
abbrev pub silent : Event → Happened
silent event = record { event = event; found = Nothing }

-- an actor raised interrupts, and told the vCPUs that this concerns: these events are to be seen of it, and it owes nothing
pub record Sends (old new : Seen) (events : List Event) : Type 0 where
  pub part : List Made
  pub adds : Adds old new part
  pub none_taken : IsTrue (takes_none part)
  pub events_are : part_events old part ≡ map silent events
  pub none : events ≡ [] → part ≡ []
  pub piece : IsPiece old part
  pub stays : StaysAtEase old.local new.local

-- it raised the SGI of a value at those of the first vCPUs that the value names
abbrev pub sgis_before : ℕ → ℕ → ℕ → List Event
sgis_before value sender count = filter_map (sgi_at value sender) (range_with_len 0 count)

-- the value that an access writes to ICC_SGI1R, if it does
abbrev pub sgi_written : IccReg → Option ℕ → Option ℕ
sgi_written Sgi1r write = write
sgi_written reg write = None

-- it sent the SGIs of a write
abbrev pub SendsSgis : Seen → Seen → IccReg → Option ℕ → Type 0
SendsSgis old new reg write = Sends old new (icc_raises (shape_of old) old.actor reg write)
