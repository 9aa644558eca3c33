-- When the registers of a virtual CPU interface stand for a CPU record and the interrupts at its interface.
use Rattle.std.specs.Prelude.{ℕ, ◌≡◌, ◌≤◌, ◌==◌, ◌&&◌, ◌||◌, Bool, Option, List, length, filter, map, find}
use Rattle.gic_ich.specs.Words.{IccReg, HeldIrq}
use Rattle.gic_ich.specs.GicPrio.Interface.{AtInterface, InterfaceState, IsInterface, interface_after, interface_answer}
use Rattle.gic_ich.specs.declared.regs.IchRegs.{IchRegs}
use Rattle.gic_ich.specs.Regs.{listed_of}
use Rattle.gic_ich.specs.Place.{Seen, seen_in, seen_of, HoldCpu, StandFor}
use Rattle.gic_icv.specs.declared.registers.Outcome.{Outcome}
use Rattle.gic_icv.specs.Registers.{answered}

-- it is of this INTID, and pending or active
abbrev pub is_live : ℕ → Seen → Bool
is_live id seen = seen.id == id && (seen.pending || seen.active)

-- what list registers show
abbrev pub seen_words : List ℕ → List Seen
seen_words words = map seen_in words

-- what an interface shows
abbrev pub seen_entries : List AtInterface → List Seen
seen_entries at = map seen_of at

-- the registers stand for the interface: they hold its CPU record, each interrupt that is pending or active there has exactly one list
-- register, with its INTID, priority, group and state, and no other list register has a State other than 0
pub record Agrees (regs : IchRegs) (interface : InterfaceState) : Type 0 where
  pub holds : HoldCpu regs interface.cpu
  pub same : (id : ℕ) → find (is_live id) (seen_words (listed_of regs)) ≡ find (is_live id) (seen_entries interface.at)
  pub once : (id : ℕ) → length (filter (is_live id) (seen_words (listed_of regs))) ≤ 1

-- registers that stand for an interface place by place stand for it
abbrev pub PlacesAgree : Type 0
PlacesAgree = (regs : IchRegs) (held : List (Option HeldIrq)) (interface : InterfaceState) → IsInterface interface → StandFor regs held interface → Agrees regs interface

-- an access answers and leaves what the rules of a CPU interface say
pub record Follows (reg : IccReg) (write : Option ℕ) (interface : InterfaceState) (outcome : Outcome) (regs : IchRegs) : Type 0 where
  pub answer : outcome ≡ answered (interface_answer reg write interface)
  pub stays : IsInterface (interface_after reg write interface)
  pub registers : Agrees regs (interface_after reg write interface)
