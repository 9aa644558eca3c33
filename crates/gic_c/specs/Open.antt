-- How a handle gets a machine.
use Rattle.std.specs.Prelude.{◌≡◌, ◌==◌, ◌&&◌, ℕ, Bool, IsTrue, Some, None}
use Rattle.vm_saved.specs.GicVm.Identity.{IsMachineShape}
use Rattle.vm_saved.specs.GicVm.Layout.{is_layout}
use Rattle.vm_saved.specs.GicVm.State.{shape_of, opening_of}
use Rattle.vm_saved.specs.GicVm.declared.layout.MachineSpec.{MachineSpec}
use Rattle.gic_c.specs.declared.handle.RvMachine.{RvMachine}
use Rattle.gic_c.specs.declared.open.RvSpec.{RvSpec}
use Rattle.gic_c.specs.Board.{opened_with}
use Rattle.gic_c.specs.Handle.{board_of}

-- the bytes of what C hands in (own choice: a later library tells by them what it was built for)
abbrev pub spec_bytes : ℕ
spec_bytes = 64

-- what C hands in is what this library knows: its size, and nothing in the fields that are kept for later ones
abbrev pub is_known : RvSpec → Bool
is_known spec = spec.size == spec_bytes && spec.reserved0 == 0 && spec.reserved1 == 0 && spec.reserved2 == 0

-- the machine that it describes
abbrev pub described : RvSpec → MachineSpec
described spec =
    record {
      vcpus = spec.vcpus;
      spis = spec.spis;
      espis = spec.espis;
      lpis = spec.lpis;
      layout = record { dist = spec.dist; redist = spec.redist; its = spec.its };
    }

-- there can be such a machine
pub record IsGood (spec : MachineSpec) : Type 0 where
  pub shape : IsMachineShape (shape_of spec)
  pub layout : IsTrue (is_layout (shape_of spec) spec.layout)

-- the handle is closed, and the machine can be opened where there is memory
pub record CanOpen (handle : RvMachine) (spec : RvSpec) : Type 0 where
  pub closed : board_of handle ≡ None
  pub known : IsTrue (is_known spec)
  pub good : IsGood (described spec)

-- the handle has the machine as it opens
abbrev pub IsOpened : RvMachine → RvSpec → Type 0
IsOpened handle spec = board_of handle ≡ Some (opened_with (opening_of (described spec)) spec.vcpus)
