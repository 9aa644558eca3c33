-- What is true of all that an actor's port tells.
use Rattle.std.specs.Prelude.{◌≡◌, ℕ, Bool, true, false, IsTrue, List, Option}
use Rattle.std.proofs.Common.{sym, ap, ◌∙◌, refl}
use Rattle.std.proofs.Math.Logic.{∥∥₁_elim}
use Rattle.port_ops.specs.Registers.{Maps}
use Rattle.port_ops.specs.PortCore.Known.{known_maps}
use Rattle.port_ops.specs.PortCore.Port.{IsPort}
use Rattle.port_ops.specs.Props.{port_prop}
use Rattle.port_table.specs.declared.port.TablePort.{TablePort}
use Rattle.port_table.specs.Ports.{seen_of}
use Rattle.port_table.specs.Slot.{held, has_taken}
use Rattle.port_table.specs.View.{own_of}

-- who has taken the tables has the ITS
taker_has : (turn : Bool) (maps : Maps) (slots : List (ℕ × Option Maps)) → slots ≡ held turn (has_taken slots) maps → IsTrue (has_taken slots) → IsTrue turn
taker_has true maps slots e h = refl
taker_has false maps slots e h = let both : true ≡ false = sym h ∙ ap has_taken e in absurd (cc)

pub table_is_port : (port : TablePort) → IsPort (seen_of port)
table_is_port port =
    ∥∥₁_elim port.valid (port_prop (seen_of port))
    (λ local. record { good = port.good; actor = port.there; local = local; made = port.made; turn = taker_has port.local.turn (known_maps (own_of port.seat.me.0)) port.seat.me.1 port.held })
