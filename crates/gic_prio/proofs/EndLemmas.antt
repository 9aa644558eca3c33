-- The end of an interrupt that was signalled and acknowledged.
use Rattle.std.proofs.Common.{◌≡◌, ℕ, ◌<◌, ◌^◌, ◌/◌, false, Some, IsTrue, arith}
use Rattle.gic_prio.specs.Levels.{least_in, with_level}
use Rattle.std.proofs.lemmas.Grind.{common_steps}
use Rattle.floor_words.specs.GicWord.declared.record.Group.{Group}
use Rattle.floor_words.specs.Words.{G0, G1}
use Rattle.gic_prio.specs.declared.cpu.CpuRec.{CpuRec}
use Rattle.gic_prio.specs.Priority.{group_priority_of, running_of, is_signalled, level_activated}
use Rattle.gic_prio.specs.Signal.{is_special, ended}
use Rattle.gic_prio.proofs.LevelLemmas.{IsBelow, below_least, least_with, without_least, level_of_signalled}

-- the level that a group 0 interrupt made active is the least, and its end clears it
ended_0 : (id level : ℕ) (cpu : CpuRec) → is_special id ≡ false → IsBelow level cpu.ap0 → level < least_in cpu.ap1 → ended G0 id (record cpu { ap0 = with_level level cpu.ap0 }) ≡ Some cpu
ended_0 id level cpu named below other =
    let small : level < 32 = below.small in
    rw (named, least_with level cpu.ap0 below, without_least level cpu.ap0 below) (grind (arith, common_steps))

ended_1 : (id level : ℕ) (cpu : CpuRec) → is_special id ≡ false → IsBelow level cpu.ap1 → level < least_in cpu.ap0 → ended G1 id (record cpu { ap1 = with_level level cpu.ap1 }) ≡ Some cpu
ended_1 id level cpu named below other =
    let small : level < 32 = below.small in
    rw (named, least_with level cpu.ap1 below, without_least level cpu.ap1 below) (grind (arith, common_steps))

pub ended_raised : (prio : ℕ) (group : Group) (id : ℕ) (cpu : CpuRec) → cpu.ap0 < 2 ^ 32 → cpu.ap1 < 2 ^ 32 → IsTrue (is_signalled prio group cpu) → is_special id ≡ false → ended group id (level_activated prio group cpu) ≡ Some cpu
ended_raised prio G0 id cpu h k signalled named =
    let preempts : group_priority_of prio G0 cpu < running_of cpu = grind (arith, common_steps) in
    let lower = level_of_signalled (group_priority_of prio G0 cpu) cpu.ap0 cpu.ap1 h k preempts in
    ended_0 id (group_priority_of prio G0 cpu / 8) cpu named (below_least (group_priority_of prio G0 cpu / 8) cpu.ap0 h lower.0) lower.1
ended_raised prio G1 id cpu h k signalled named =
    let preempts : group_priority_of prio G1 cpu < running_of cpu = grind (arith, common_steps) in
    let lower = level_of_signalled (group_priority_of prio G1 cpu) cpu.ap0 cpu.ap1 h k preempts in
    ended_1 id (group_priority_of prio G1 cpu / 8) cpu named (below_least (group_priority_of prio G1 cpu / 8) cpu.ap1 k lower.1) lower.0
