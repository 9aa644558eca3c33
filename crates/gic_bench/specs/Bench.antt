-- What the bench does and counts (own choice).
use Rattle.std.specs.Prelude.{ℕ, ◌+◌, ◌%◌, ◌^◌, ◌≡◌, Bool, true, false, None}
use Rattle.its_tab.specs.Words.{GuestShape}
use Rattle.its_tab.specs.ItsCmd.declared.command.Command.{Command}
use Rattle.its_tab.specs.Maps.{Maps}
use Rattle.its_tab.specs.Fault.{fault_of}
use Rattle.gic_bench.specs.declared.tables.Tally.{Tally}

-- two numbers of 64 bits together, modulo 2^64
abbrev pub together : ℕ → ℕ → ℕ
together a b = (a + b) % 2 ^ 64

-- two tallies together, count by count
abbrev pub tallied : Tally → Tally → Tally
tallied a b =
    record {
      mapped = together a.mapped b.mapped;
      found = together a.found b.found;
      moved = together a.moved b.moved;
      listed = together a.listed b.listed;
      discarded = together a.discarded b.discarded;
      dropped = together a.dropped b.dropped;
      sum = together a.sum b.sum;
    }

-- the LPI that the bench gives an event: 8192 and the event's number, in 32 bits
abbrev pub lpi_of : ℕ → ℕ
lpi_of event = (8192 + event) % 2 ^ 32

-- the guest of the bench: one vCPU, and as many LPIs as a guest can have
abbrev pub shape : GuestShape
shape = record { vcpus = 1; spis = 32; espis = 0; devices = 1; lpis = 4096; ram = 65536 }

-- a command was done, and had no fault, or it was left and the maps are as they were
abbrev pub IsDoneWhere : Bool → Command → Maps → Maps → Maps → Type 0
IsDoneWhere true command before after done = (fault_of shape before command ≡ None) × (after ≡ done)
IsDoneWhere false command before after done = after ≡ before
