-- Priorities at a CPU interface (IHI 0069, "Interrupt prioritization").
use Rattle.std.specs.Prelude.{ℕ, ◌≤◌, ◌<◌, ◌+◌, ◌*◌, ◌/◌, ◌^◌, ◌&&◌, ◌==◌, min, Bool, nat_lt, if◌then◌else◌}
use Rattle.floor_words.specs.GicWord.declared.record.Group.{Group}
use Rattle.floor_words.specs.Words.{G0, G1}
use Rattle.gic_prio.specs.declared.cpu.CpuRec.{CpuRec}
use Rattle.gic_prio.specs.Levels.{least_in, with_level, without_level}

-- the binary points have three bits (IHI 0069, ICC_BPR0 and ICC_BPR1)
pub record HasBinaryPoints (cpu : CpuRec) : Type 0 where
  pub group_0 : cpu.bpr0 ≤ 7
  pub group_1 : cpu.bpr1 ≤ 7

-- the active levels of each group are some of the 32
pub record HasLevels (cpu : CpuRec) : Type 0 where
  pub group_0 : cpu.ap0 < 2 ^ 32
  pub group_1 : cpu.ap1 < 2 ^ 32

-- how many low bits of a priority do not count in comparisons with the running priority (IHI 0069, "Priority grouping")
abbrev pub dropped_bits : Group → CpuRec → ℕ
dropped_bits G0 cpu = cpu.bpr0 + 1
dropped_bits G1 cpu = if cpu.cbpr then cpu.bpr0 + 1 else cpu.bpr1

-- the priority without those bits
abbrev pub group_priority_of : ℕ → Group → CpuRec → ℕ
group_priority_of prio group cpu = prio / 2 ^ dropped_bits group cpu * 2 ^ dropped_bits group cpu

-- the level that an interrupt of this priority makes active
abbrev pub level_of : ℕ → Group → CpuRec → ℕ
level_of prio group cpu = group_priority_of prio group cpu / 8

-- the set of the active levels of a group (IHI 0069, ICC_AP0R0 and ICC_AP1R0)
abbrev pub levels_of : Group → CpuRec → ℕ
levels_of G0 cpu = cpu.ap0
levels_of G1 cpu = cpu.ap1

-- the record with these active levels of a group
abbrev pub with_levels : Group → ℕ → CpuRec → CpuRec
with_levels G0 levels cpu = record cpu { ap0 = levels }
with_levels G1 levels cpu = record cpu { ap1 = levels }

-- the least of the active levels of a group, or 32 where there is none
abbrev pub least_level : Group → CpuRec → ℕ
least_level group cpu = least_in (levels_of group cpu)

-- the least active level of both groups, or 32 where there is none
abbrev pub running_level : CpuRec → ℕ
running_level cpu = min (least_level G0 cpu) (least_level G1 cpu)

-- the running priority: 8 times that level, or 0xFF where no level is active (IHI 0069, ICC_RPR)
abbrev pub running_of : CpuRec → ℕ
running_of cpu = if running_level cpu == 32 then 0xFF else running_level cpu * 8

-- an interrupt of this priority and group preempts what runs, and the mask lets it through
abbrev pub is_signalled : ℕ → Group → CpuRec → Bool
is_signalled prio group cpu = nat_lt prio cpu.pmr && nat_lt (group_priority_of prio group cpu) (running_of cpu)

-- the record with the level of this priority active
abbrev pub level_activated : ℕ → Group → CpuRec → CpuRec
level_activated prio group cpu = with_levels group (with_level (level_of prio group cpu) (levels_of group cpu)) cpu

-- the record with the least level of this group no longer active
abbrev pub level_dropped : Group → CpuRec → CpuRec
level_dropped group cpu = with_levels group (without_level (least_level group cpu) (levels_of group cpu)) cpu
