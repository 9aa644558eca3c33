-- What the registers of a CPU interface do to its record (IHI 0069, "AArch64 System register descriptions").
use Rattle.std.specs.Prelude.{ℕ, ◌%◌, ◌^◌, ◌&&◌, ◌||◌, ◌==◌, Bool, true, false, not, nat_le, nat_lt, Option, Some, None, is_some, option_and_then, if◌then◌else◌, List}
use Rattle.std.specs.Option.{option_map_or}
use Rattle.floor_words.specs.GicWord.declared.record.Group.{Group}
use Rattle.floor_words.specs.Words.{G0, G1}
use Rattle.gic_prio.specs.declared.cpu.CpuRec.{CpuRec}
use Rattle.gic_prio.specs.Priority.{is_signalled, least_level, running_level, level_dropped}
use Rattle.gic_prio.specs.declared.candidate.Candidate.{Candidate}
use Rattle.gic_prio.specs.Delivery.{first_of}

-- the two groups are one
abbrev pub is_same_group : Group → Group → Bool
is_same_group G0 G0 = true
is_same_group G0 G1 = false
is_same_group G1 G0 = false
is_same_group G1 G1 = true

-- the candidate that a read of IAR of this group acknowledges: the first of all, if it is of the group and signalled
abbrev pub acknowledged : Group → CpuRec → List Candidate → Option Candidate
acknowledged group cpu candidates =
    option_and_then (λ first. if is_same_group first.group group && is_signalled first.prio first.group cpu then Some first else None) (first_of candidates)

-- the candidate that a read of HPPIR of this group answers: the first of all, if it is of the group, whatever the mask and the
-- running priority are (IHI 0069, ICC_HPPIR0 and ICC_HPPIR1; own choice: they are ignored)
abbrev pub highest_pending : Group → List Candidate → Option Candidate
highest_pending group candidates = option_and_then (λ first. if is_same_group first.group group then Some first else None) (first_of candidates)

-- the INTID that a read answers, or 1023 for no interrupt (IHI 0069, "Special INTIDs")
abbrev pub intid_read : Option Candidate → ℕ
intid_read found = option_map_or (λ candidate. candidate.id) found 1023

-- the INTID in a value that is written to EOIR or DIR: bits [23:0]
abbrev pub intid_written : ℕ → ℕ
intid_written value = value % 2 ^ 24

-- the INTIDs that name no interrupt: 1020 to 1023 (IHI 0069, "Special INTIDs")
abbrev pub is_special : ℕ → Bool
is_special id = nat_le 1020 id && nat_le id 1023

-- the record after a write of EOIR of this group with this INTID, or none where the write is ignored: for a special INTID,
-- where no level is active, and where the least active level is not in this group (own choice)
abbrev pub ended : Group → ℕ → CpuRec → Option CpuRec
ended group id cpu =
    if is_special id || running_level cpu == 32 || nat_lt (running_level cpu) (least_level group cpu) then None else Some (level_dropped group cpu)

-- a write of EOIR of this group with this INTID deactivates the interrupt of that number, if it is active by this vCPU:
-- where the write is not ignored and EOImode is 0 (IHI 0069, ICC_EOIR0 and ICC_EOIR1; own choice: whichever group it has)
abbrev pub eoir_deactivates : Group → ℕ → CpuRec → Bool
eoir_deactivates group id cpu = is_some (ended group id cpu) && not cpu.eoimode

-- a write of DIR with this INTID deactivates the interrupt of that number, if it is active by this vCPU: where EOImode is 1,
-- and for no special INTID (IHI 0069, ICC_DIR; own choice: it is ignored otherwise)
abbrev pub dir_deactivates : ℕ → CpuRec → Bool
dir_deactivates id cpu = cpu.eoimode && not (is_special id)
