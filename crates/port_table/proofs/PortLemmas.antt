-- The tables of the ITS in the slot that an actor's port holds.
use Rattle.std.proofs.Common.{◌≡◌, ℕ, Bool, true, false, IsTrue, List, [], ◌∷◌, Option, Some, None, sym, ap, ◌∙◌}
use Rattle.atomic_table.specs.Table.{rest}
use Rattle.port_ops.specs.Registers.{Maps}
use Rattle.port_ops.specs.PortCore.Known.{known_maps}
use Rattle.port_table.specs.declared.port.TablePort.{TablePort}
use Rattle.port_table.specs.Ports.{seen_of}
use Rattle.port_table.specs.Slot.{held, has_taken}
use Rattle.port_table.specs.View.{own_of}

-- the slot of an actor that has the ITS
slot_with : (slots : List (ℕ × Option Maps)) (turn taken : Bool) (maps : Maps) → slots ≡ held turn (has_taken slots) maps → IsTrue turn → has_taken slots ≡ taken → slots ≡ held true taken maps
slot_with slots turn taken maps e t h = e ∙ ap (λ b. held b (has_taken slots) maps) t ∙ ap (λ b. held true b maps) h

-- it has the tables, or they are taken out of it
pub has_tables : (port : TablePort) → IsTrue port.local.turn → (seen_of port).taken ≡ false → port.seat.me.1 ≡ (0, Some (known_maps (own_of port.seat.me.0))) ∷ []
has_tables port turn home = slot_with port.seat.me.1 port.local.turn false (known_maps (own_of port.seat.me.0)) port.held turn home

pub has_none : (port : TablePort) → IsTrue port.local.turn → IsTrue (seen_of port).taken → port.seat.me.1 ≡ (0, None) ∷ []
has_none port turn taken = slot_with port.seat.me.1 port.local.turn true (known_maps (own_of port.seat.me.0)) port.held turn taken

-- so the seat may read and write it
pub held_slot : (slots : List (ℕ × Option Maps)) (tables : Option Maps) → slots ≡ (0, tables) ∷ [] → (old : Option Maps) × (slots ≡ (0, old) ∷ rest slots)
held_slot slots tables e = (tables, e ∙ ap (λ s. (0, tables) ∷ s) (sym (ap rest e)))

pub holds_tables : (port : TablePort) → IsTrue port.local.turn → (seen_of port).taken ≡ false → (old : Option Maps) × (port.seat.me.1 ≡ (0, old) ∷ rest port.seat.me.1)
holds_tables port turn home = held_slot port.seat.me.1 (Some (known_maps (own_of port.seat.me.0))) (has_tables port turn home)

pub holds_none : (port : TablePort) → IsTrue port.local.turn → IsTrue (seen_of port).taken → (old : Option Maps) × (port.seat.me.1 ≡ (0, old) ∷ rest port.seat.me.1)
holds_none port turn taken = held_slot port.seat.me.1 None (has_none port turn taken)
