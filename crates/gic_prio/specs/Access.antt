-- What an access of a CPU interface register does, where these candidates can be delivered to the vCPU: a read (no value) or a
-- write of a value (IHI 0069, "AArch64 System register descriptions"). One that a register does not have does nothing.
use Rattle.std.specs.Prelude.{ℕ, List, Option, Some, None, unwrap_or, if◌then◌else◌}
use Rattle.std.specs.Option.{option_map_or}
use Rattle.floor_words.specs.Words.{G0, G1, IccReg, Iar0, Iar1, Hppir0, Hppir1, Eoir0, Eoir1, Dir}
use Rattle.gic_prio.specs.declared.cpu.CpuRec.{CpuRec}
use Rattle.gic_prio.specs.declared.candidate.Candidate.{Candidate}
use Rattle.gic_prio.specs.Priority.{level_activated}
use Rattle.gic_prio.specs.Signal.{acknowledged, highest_pending, intid_read, intid_written, ended, eoir_deactivates, dir_deactivates}
use Rattle.gic_prio.specs.Registers.{plain_read, plain_write}

-- the interrupt that the access acknowledges
abbrev pub taken_by : IccReg → Option ℕ → CpuRec → List Candidate → Option Candidate
taken_by Iar0 None cpu candidates = acknowledged G0 cpu candidates
taken_by Iar1 None cpu candidates = acknowledged G1 cpu candidates
taken_by reg write cpu candidates = None

-- the INTID of the interrupt that the access deactivates, if that one is active by this vCPU
abbrev pub deactivated_by : IccReg → Option ℕ → CpuRec → Option ℕ
deactivated_by Eoir0 (Some value) cpu = let id = intid_written value in if eoir_deactivates G0 id cpu then Some id else None
deactivated_by Eoir1 (Some value) cpu = let id = intid_written value in if eoir_deactivates G1 id cpu then Some id else None
deactivated_by Dir (Some value) cpu = let id = intid_written value in if dir_deactivates id cpu then Some id else None
deactivated_by reg write cpu = None

-- what the access reads
abbrev pub answer_of : IccReg → Option ℕ → CpuRec → List Candidate → Option ℕ
answer_of Iar0 None cpu candidates = Some (intid_read (acknowledged G0 cpu candidates))
answer_of Iar1 None cpu candidates = Some (intid_read (acknowledged G1 cpu candidates))
answer_of Hppir0 None cpu candidates = Some (intid_read (highest_pending G0 candidates))
answer_of Hppir1 None cpu candidates = Some (intid_read (highest_pending G1 candidates))
answer_of reg None cpu candidates = plain_read reg cpu
answer_of reg (Some value) cpu candidates = None

-- the record after an acknowledge of an interrupt, or of none: its level is active
abbrev pub activated_by : Option Candidate → CpuRec → CpuRec
activated_by taken cpu = option_map_or (λ found. level_activated found.prio found.group cpu) taken cpu

-- the record after a write, which is as it was where the write is ignored
abbrev pub written_by : IccReg → ℕ → CpuRec → Option CpuRec
written_by Eoir0 value cpu = ended G0 (intid_written value) cpu
written_by Eoir1 value cpu = ended G1 (intid_written value) cpu
written_by reg value cpu = plain_write reg value cpu

-- the record after the access
abbrev pub cpu_after : IccReg → Option ℕ → CpuRec → List Candidate → CpuRec
cpu_after reg None cpu candidates = activated_by (taken_by reg None cpu candidates) cpu
cpu_after reg (Some value) cpu candidates = unwrap_or (written_by reg value cpu) cpu
