-- The moves of an interrupt between the distributor and a CPU interface (own choice of the moves, which the architecture leaves to
-- the implementation; IHI 0069, "Interrupt handling state machine", for the states).
use Rattle.std.specs.Prelude.{ℕ, ◌&&◌, ◌||◌, not, Bool, true, false, IsTrue, Some, None, is_none, if◌then◌else◌}
use Rattle.floor_registers.specs.Words.{Key, GuestShape, Irq, is_number, IsRecordOf, cleared, has_active_state}
use Rattle.floor_registers.specs.Registers.{CpuRec, is_deliverable, AtInterface}
use Rattle.gic_call.specs.declared.moves.Entry.{Entry}
use Rattle.gic_call.specs.declared.moves.Moved.{Moved}

-- an interrupt that is at no interface may get to the vCPU's: deliverable to the vCPU, or active by it
abbrev pub may_reach : GuestShape → Key → Irq → ℕ → CpuRec → Bool
may_reach shape key irq vcpu cpu = is_number vcpu irq.act_by || is_deliverable key irq vcpu cpu shape

-- it gets there: pending with the latched causes, which its record loses, or active, and its record keeps its causes
abbrev pub reached : Irq → Moved
reached irq =
    if is_none irq.act_by then record { irq = cleared irq; entry = record { pending = true; active = false; rise = irq.rise; soft = irq.soft } }
    else record { irq = irq; entry = record { pending = false; active = true; rise = false; soft = false } }

-- an interrupt that is active there and not pending may become pending there too: it would be deliverable, were it not active
abbrev pub may_take : GuestShape → Key → Moved → ℕ → CpuRec → Bool
may_take shape key moved vcpu cpu = moved.entry.active && not moved.entry.pending && is_deliverable key (record moved.irq { act_by = None }) vcpu cpu shape

-- it becomes pending with the latched causes, which its record loses
abbrev pub taken : Moved → Moved
taken moved = record { irq = cleared moved.irq; entry = record { pending = true; active = moved.entry.active; rise = moved.irq.rise; soft = moved.irq.soft } }

-- it leaves: the record gets the causes back, and is active by the vCPU exactly where the entry is active
abbrev pub left : ℕ → Moved → Irq
left vcpu moved =
    record moved.irq {
      rise = moved.irq.rise || moved.entry.rise;
      soft = moved.irq.soft || moved.entry.soft;
      act_by = if moved.entry.active then Some vcpu else None;
    }

-- what an interface can have of an interrupt: an LPI is never active, and what is not pending there has no causes there
pub record IsEntryOf (key : Key) (entry : Entry) : Type 0 where
  pub kind : IsTrue (not entry.active || has_active_state key)
  pub causes : IsTrue (entry.pending || not (entry.rise || entry.soft))

-- an interrupt of a guest at an interface: its record, and what the interface can have of it
pub record IsMovedOf (shape : GuestShape) (key : Key) (moved : Moved) : Type 0 where
  pub irq : IsRecordOf shape key moved.irq
  pub entry : IsEntryOf key moved.entry

-- the interrupt as accesses of the interface's registers see it, with copies of its priority and its group
abbrev pub at_interface : Key → Moved → AtInterface
at_interface key moved =
    record {
      key = key;
      prio = moved.irq.prio;
      group = moved.irq.group;
      pending = moved.entry.pending;
      active = moved.entry.active;
      rise = moved.entry.rise;
      soft = moved.entry.soft;
    }

-- what the interface has of it, without these copies
abbrev pub entry_of : AtInterface → Entry
entry_of at = record { pending = at.pending; active = at.active; rise = at.rise; soft = at.soft }
