-- The state in which a guest opens.
use Rattle.std.specs.Prelude.{[], false, replicate}
use Rattle.floor_calls.specs.Registers.{enables_in}
use Rattle.floor_calls.specs.Calls.{GuestSpec, irqs_of, cpus_of, opening_enables, plain_count}
use Rattle.ideal_guest.specs.declared.guest.IdealGuest.{IdealGuest}

-- the state in which a guest opens: its plain words are 0, and its ITS has mapped nothing and has an empty queue
abbrev pub opening : GuestSpec → IdealGuest
opening guest =
    record {
      shape = guest.shape;
      irqs = irqs_of guest;
      cpus = cpus_of guest;
      enables = enables_in (opening_enables guest.on);
      words = replicate (plain_count guest.shape) 0;
      offset = 0;
      is_stalled = false;
      tables = record { devices = []; events = []; collections = [] };
    }
