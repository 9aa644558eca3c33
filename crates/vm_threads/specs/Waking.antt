-- Whom a step kicks.
use Rattle.std.specs.Prelude.{ℕ, Option, Some, None}
use Rattle.dev_port.specs.Core.{CoreStep, Kick, EnableLpis}

-- the vCPU that a step kicks: one that sets EnableLPIs kicks too
abbrev pub kicked_by : CoreStep → Option ℕ
kicked_by (Kick vcpu) = Some vcpu
kicked_by (EnableLpis vcpu) = Some vcpu
kicked_by step = None
