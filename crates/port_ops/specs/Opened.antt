-- No guest.
use Rattle.std.specs.Prelude.{false, []}
use Rattle.port_core.specs.Calls.{GuestSpec}
use Rattle.port_core.specs.IdealGuests.Opening.{opening}
use Rattle.port_ops.specs.declared.opened.Opened.{Opened}

-- no guest
abbrev pub no_guest : GuestSpec
no_guest = record { shape = record { vcpus = 0; spis = 0; espis = 0; devices = 0; lpis = 0; ram = 0 }; on = false; presets = [] }

abbrev pub no_opened : Opened
no_opened = record { number = 0; guest = opening no_guest }
