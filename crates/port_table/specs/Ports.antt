-- What the shared words of a guest, its root and an actor's port tell.
use Rattle.std.specs.Prelude.{None}
use Rattle.port_ops.specs.PortCore.Port.{Seen}
use Rattle.port_table.specs.declared.guest.GuestTable.{GuestTable}
use Rattle.port_table.specs.declared.guest.GuestRoot.{GuestRoot}
use Rattle.port_table.specs.declared.port.TablePort.{TablePort}
use Rattle.port_table.specs.Slot.{has_taken}
use Rattle.port_table.specs.Told.{WordsTold, RootTold}
use Rattle.port_table.specs.View.{own_of, split_of, joined_of}

abbrev pub words_told : GuestTable → WordsTold
words_told words = record { home = words.table.shared.table_id; guest = words.table.shared.key.guest; number = words.table.shared.key.number }

abbrev pub root_told : GuestRoot → RootTold
root_told root = record { home = root.seat.table_id; split = split_of root.seat.me.0; joined = joined_of root.seat.me.0 }

abbrev pub seen_of : TablePort → Seen
seen_of port =
    record {
      home = port.seat.table_id;
      guest = port.table.now.key.guest;
      number = port.table.now.key.number;
      actor = port.actor;
      local = port.local;
      own = own_of port.seat.me.0;
      taken = has_taken port.seat.me.1;
      world = None;
    }
