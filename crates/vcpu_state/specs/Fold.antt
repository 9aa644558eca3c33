-- What the interrupts in list registers bring back (own choice, over IHI 0069, ICH_LR<n>_EL2.State).
use Rattle.std.specs.Prelude.{ℕ, ◌≡◌, ◌&&◌, Option, Some, None, List, map, slice_index, Contains}
use Rattle.std.specs.List.{slice_index_or, range_with_len}
use Rattle.std.specs.Option.{option_map}
use Rattle.gic_ich.specs.Words.{HeldIrq, Back}
use Rattle.gic_ich.specs.GicLr.Entry.{unpacked, state_has_pending, state_has_active}
use Rattle.gic_ich.specs.GicPrio.Interface.{AtInterface, InterfaceState}
use Rattle.gic_ich.specs.declared.regs.IchRegs.{IchRegs}
use Rattle.gic_ich.specs.Place.{StandFor}

-- what a held interrupt brings back from a list register: its causes, unless an acknowledge consumed them, where the State is 1 or 3, and
-- that it is active, where the State is 2 or 3
abbrev pub back_of : ℕ → HeldIrq → Back
back_of word held =
    let state = (unpacked word).state in
    record {
      rise = held.rise && state_has_pending state;
      soft = held.soft && state_has_pending state;
      active = state_has_active state;
    }

-- what comes back from the list register at a place, none where nothing was held
abbrev pub back_at : IchRegs → List (Option HeldIrq) → ℕ → Option Back
back_at regs held place = option_map (back_of (slice_index regs.lr place)) (slice_index_or held place None)

-- what comes back from each list register
abbrev pub folded : IchRegs → List (Option HeldIrq) → List (Option Back)
folded regs held = map (back_at regs held) (range_with_len 0 16)

-- what the interface has of an interrupt: the causes that no acknowledge consumed, and its active state
abbrev pub back_from : AtInterface → Back
back_from entry = record { rise = entry.rise; soft = entry.soft; active = entry.active }

-- what comes back from the list register at a place is what the interface has of the interrupt that is held there
pub record ComesBack (regs : IchRegs) (held : List (Option HeldIrq)) (place : ℕ) (one : HeldIrq) (at : List AtInterface) : Type 0 where
  pub entry : AtInterface
  pub among : Contains at entry
  pub key : entry.key ≡ one.key
  pub back : back_at regs held place ≡ Some (back_from entry)

-- so it is at each place, where the registers with what is held stand for the interface
abbrev pub EachComesBack : Type 0
EachComesBack =
    (regs : IchRegs) (held : List (Option HeldIrq)) (interface : InterfaceState) (place : ℕ) (one : HeldIrq) → StandFor regs held interface → slice_index_or held place None ≡ Some one → ComesBack regs held place one interface.at
