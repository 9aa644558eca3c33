-- A vCPU onto a PE and off it again, with the record of its CPU interface in the registers between (IHI 0069, "AArch64 virtualization
-- control system registers").
use Rattle.std.specs.Prelude.{ℕ, ◌^◌, false, None, replicate}
use Rattle.gic_ich.specs.Hcr.{hcr_en}
use Rattle.gic_ich.specs.Vmcr.{vmcr_of, cpu_of}
use Rattle.vcpu_state.specs.declared.shelved.Shelved.{Shelved}
use Rattle.vcpu_state.specs.declared.loaded.Loaded.{Loaded}

-- the vCPU on a PE with n list registers, before it takes an interrupt
abbrev pub loaded_of : Shelved → ℕ → Loaded
loaded_of vcpu n =
    record {
      base = vcpu;
      regs = record { lr = replicate 16 0; n = n; vmcr = vmcr_of vcpu.cpu; hcr = 2 ^ hcr_en; ap0r = vcpu.cpu.ap0; ap1r = vcpu.cpu.ap1 };
      held = replicate 16 None;
      trapping = false;
    }

-- the vCPU off its PE, with the CPU record that the registers hold
abbrev pub shelved_of : Loaded → Shelved
shelved_of vcpu = record vcpu.base { cpu = cpu_of vcpu.regs vcpu.base.cpu.lpis }
