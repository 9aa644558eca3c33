-- The scenario that a number stands for (own choice).
use Rattle.std.specs.Prelude.{ℕ, zero, suc, ◌+◌, ◌*◌, ◌%◌, List, [], ◌∷◌, map, true, Some, None, nat_lt, if◌then◌else◌}
use Rattle.std.specs.List.{range_with_len}
use Rattle.scn_base.specs.Words.{GuestShape, Iar1, Eoir1, Dist, Icc, Mem, Message}
use Rattle.scn_base.specs.declared.scenario.Scenario.{Scenario}
use Rattle.scn_base.specs.GicGuest.declared.guest.GuestSpec.{GuestSpec}
use Rattle.scn_base.specs.GicGuest.declared.preset.Preset.{Preset}
use Rattle.scn_base.specs.declared.step.Step.{Step}
use Rattle.scn_base.specs.declared.step.Step.TheVariants.{Vcpu, Device}
use Rattle.gic_soak.specs.Draw.{draw}

-- ---- the guest

-- two vCPUs, the SPIs 32 to 63, and a device
abbrev pub shape : GuestShape
shape = record { vcpus = 2; spis = 32; espis = 0; devices = 1; lpis = 0; ram = 0 }

-- an SPI opens edge-triggered, in group 1; its INTID gives its priority and its target
abbrev pub preset : ℕ → Preset
preset id = record { id = id; prio = 8 * (id % 16) + 64; edge = true; group = 1; to = Some (id % 2); vcpu = None }

-- the guest opens on, with a preset of each SPI
abbrev pub guest : GuestSpec
guest = record { shape = shape; on = true; presets = map preset (range_with_len 32 32) }

-- ---- the steps, each with the state of the generator after what was drawn for it

-- the device sends a message of an SPI
abbrev pub message : ℕ → Step × ℕ
message x = let spi = draw 32 x in (Device 0 0 (Message (32 + spi.0)), spi.1)

-- a vCPU reads ICC_IAR1: it acknowledges an interrupt
abbrev pub acknowledge : ℕ → Step × ℕ
acknowledge x = let vcpu = draw 2 x in (Vcpu 0 vcpu.0 (Icc Iar1 None), vcpu.1)

-- a vCPU writes an SPI to ICC_EOIR1: it ends the interrupt; the vCPU is drawn first
abbrev pub end_of_interrupt : ℕ → Step × ℕ
end_of_interrupt x = let vcpu = draw 2 x in let spi = draw 32 vcpu.1 in (Vcpu 0 vcpu.0 (Icc Eoir1 (Some (32 + spi.0))), spi.1)

-- vCPU 0 writes ones to GICD_ICACTIVER1: it deactivates all SPIs
abbrev pub deactivation : ℕ → Step × ℕ
deactivation x = (Vcpu 0 0 (Mem Dist 0x384 4 (Some 0xFFFFFFFF)), x)

-- of eight numbers three stand for a message, two for an acknowledge, two for an end of interrupt, and one for a deactivation
abbrev pub step : ℕ → Step × ℕ
step x = let kind = draw 8 x in
    if nat_lt kind.0 3 then message kind.1
    else (if nat_lt kind.0 5 then acknowledge kind.1
    else (if nat_lt kind.0 7 then end_of_interrupt kind.1
    else deactivation kind.1))

-- so many steps from a state on
abbrev pub steps_from : ℕ → ℕ → List Step
steps_from zero x = []
steps_from (suc count) x = let next = step x in next.0 ∷ steps_from count next.1

-- ---- the scenario

-- the scenario of a number and a count of steps: each vCPU on a PE, and fewer list registers than interrupts
abbrev pub generated : ℕ → ℕ → Scenario
generated number count = record { pes = 2; lrs = 2; guests = guest ∷ []; steps = steps_from count number }
