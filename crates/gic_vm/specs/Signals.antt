-- What a line says of the vCPU's next acknowledge.
use Rattle.std.specs.Prelude.{◌≡◌, ℕ, Bool, not, None}
use Rattle.ideal_guest.specs.Words.{IccReg, Iar0, Iar1, Icc}
use Rattle.ideal_guest.specs.Registers.{is_special}
use Rattle.ideal_guest.specs.declared.guest.IdealGuest.{IdealGuest}
use Rattle.ideal_guest.specs.Sound.{IsSound}
use Rattle.ideal_guest.specs.Call.{op_answer}
use Rattle.gic_vm.specs.Lines.{lines_of}
use Rattle.gic_vm.specs.Calls.{value_in}

-- a read of this register by the vCPU would answer the INTID of an interrupt, and none of the special ones, 1020 to 1023
abbrev pub answers_interrupt : IccReg → IdealGuest → ℕ → Bool
answers_interrupt reg guest vcpu = not (is_special (value_in (op_answer (Icc reg None) guest vcpu)))

-- IRQ is asserted exactly where IAR1 would answer an interrupt, and FIQ exactly where IAR0 would
pub record IsTold (guest : IdealGuest) (vcpu : ℕ) : Type 0 where
  pub irq : (lines_of guest vcpu).irq ≡ answers_interrupt Iar1 guest vcpu
  pub fiq : (lines_of guest vcpu).fiq ≡ answers_interrupt Iar0 guest vcpu

-- so it is of every vCPU, in each state that the ideal controller reaches
abbrev pub LinesTellAnswers : Type 0
LinesTellAnswers = (guest : IdealGuest) (vcpu : ℕ) → IsSound guest → IsTold guest vcpu
