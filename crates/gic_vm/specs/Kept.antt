-- What a machine keeps beside its guest.
use Rattle.std.specs.Prelude.{◌≡◌, ◌<◌, ℕ, List, IsTrue}
use Rattle.ideal_guest.specs.declared.guest.IdealGuest.{IdealGuest}
use Rattle.ideal_guest.specs.Sound.{IsSound}
use Rattle.gic_vm.specs.declared.layout.Layout.{Layout}
use Rattle.gic_line.specs.declared.lines.Lines.{Lines}
use Rattle.gic_vm.specs.Layout.{is_layout}
use Rattle.gic_vm.specs.Lines.{lines_of, lines_in}

-- these are the lines of each vCPU of the guest
abbrev pub AreLinesOf : IdealGuest → List Lines → Type 0
AreLinesOf guest lines = (vcpu : ℕ) → vcpu < guest.shape.vcpus → lines_in lines vcpu ≡ lines_of guest vcpu

-- the guest is one that the ideal controller reaches, its frames are placed, and the lines are its vCPUs'
pub record IsKept (layout : Layout) (guest : IdealGuest) (lines : List Lines) : Type 0 where
  pub sound : IsSound guest
  pub layout_good : IsTrue (is_layout guest.shape layout)
  pub lines_are : AreLinesOf guest lines
