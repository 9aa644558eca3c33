-- What ports of one thread tell.
use Rattle.std.specs.Prelude.{map}
use Rattle.port_seq.specs.declared.guest.GuestPort.{GuestPort}
use Rattle.port_seq.specs.declared.port.SeqPort.{SeqPort}
use Rattle.port_seq.specs.Home.{taker_of}
use Rattle.port_seq.specs.Told.{GuestTold, SeqTold}

-- what the port of a guest tells
abbrev pub told : GuestPort → GuestTold
told port =
    record {
      home = port.seat.table_id;
      guest = port.table.shared.key.guest;
      number = port.table.shared.key.number;
      world = port.seat.me.0;
      taken = taker_of port.its;
      actor = port.actor;
    }

-- what the port of a scenario tells
abbrev pub told_all : SeqPort → SeqTold
told_all port = record { guests = map told port.guests.items; guest = port.guest }
