-- Which steps read (own choice).
use Rattle.std.specs.Prelude.{Bool, true, false, Some, None}
use Rattle.scn_base.specs.Words.{Icc, Mem}
use Rattle.scn_base.specs.declared.step.Step.{Step}
use Rattle.scn_base.specs.declared.step.Step.TheVariants.{Vcpu, Device, Pe}

-- the step is a vCPU's and reads
abbrev pub is_read : Step → Bool
is_read (Vcpu guest vcpu (Icc reg None)) = true
is_read (Vcpu guest vcpu (Icc reg (Some value))) = false
is_read (Vcpu guest vcpu (Mem frame offset size None)) = true
is_read (Vcpu guest vcpu (Mem frame offset size (Some value))) = false
is_read (Device guest device op) = false
is_read (Pe pe op) = false
