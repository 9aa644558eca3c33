-- What an access acknowledges, and the binary points through it.
use Rattle.std.proofs.Common.{◌≡◌, ℕ, ◌&&◌, Bool, true, false, cond, if◌then◌else◌, Option, Some, None, unwrap_or, List, ◌∙◌, arith}
use Rattle.std.proofs.lemmas.Option.{none-some, option_and_then_some}
use Rattle.floor_words.specs.GicWord.declared.record.Group.{Group}
use Rattle.floor_words.specs.Words.{G0, G1, IccReg, Iar0, Iar1, Eoir0, Eoir1, Pmr, Bpr0, Bpr1, Ctlr, Igrpen0, Igrpen1}
use Rattle.gic_prio.specs.declared.cpu.CpuRec.{CpuRec}
use Rattle.gic_prio.specs.declared.candidate.Candidate.{Candidate}
use Rattle.gic_prio.specs.Priority.{HasBinaryPoints, HasLevels, level_of, is_signalled, level_activated, with_levels, level_dropped}
use Rattle.gic_prio.specs.Delivery.{first_of}
use Rattle.gic_prio.specs.Signal.{is_same_group, acknowledged, intid_written, ended}
use Rattle.gic_prio.specs.Registers.{plain_write, binary_point_written}
use Rattle.gic_prio.proofs.SetLemmas.{with_level_fits, without_level_fits}
use Rattle.gic_prio.specs.Access.{taken_by, activated_by, cpu_after}

-- what a read of IAR acknowledges is the first
pub acknowledged_first : (group : Group) (cpu : CpuRec) (among : List Candidate) (found : Candidate) → acknowledged group cpu among ≡ Some found → first_of among ≡ Some found
acknowledged_first group cpu among found h =
    option_and_then_some (λ first. if is_same_group first.group group && is_signalled first.prio first.group cpu then Some first else None) (first_of among) found h
    (λ first e g. e ∙ chosen (is_same_group first.group group && is_signalled first.prio first.group cpu) first g)
  where
    chosen : (b : Bool) (first : Candidate) → cond b (Some first) None ≡ Some found → Some first ≡ Some found
    chosen true first g = g
    chosen false first g = absurd (none-some found g)

-- what an access acknowledges is the first
pub taken_first : (reg : IccReg) (write : Option ℕ) (cpu : CpuRec) (among : List Candidate) (f : Candidate) → taken_by reg write cpu among ≡ Some f → first_of among ≡ Some f
taken_first Iar0 None cpu among f h = acknowledged_first G0 cpu among f h
taken_first Iar1 None cpu among f h = acknowledged_first G1 cpu among f h
taken_first reg write cpu among f h = absurd (none-some f h)

-- the record keeps its binary points in range
points_levels : (group : Group) (levels : ℕ) (cpu : CpuRec) → HasBinaryPoints cpu → HasBinaryPoints (with_levels group levels cpu)
points_levels G0 levels cpu h = record { group_0 = h.group_0; group_1 = h.group_1 }
points_levels G1 levels cpu h = record { group_0 = h.group_0; group_1 = h.group_1 }

points_activated : (taken : Option Candidate) (cpu : CpuRec) → HasBinaryPoints cpu → HasBinaryPoints (activated_by taken cpu)
points_activated None cpu h = h
points_activated (Some found) cpu h = points_levels found.group _ cpu h

points_chosen : (b : Bool) (cpu next : CpuRec) → HasBinaryPoints cpu → HasBinaryPoints next → HasBinaryPoints (unwrap_or (cond b None (Some next)) cpu)
points_chosen true cpu next h k = h
points_chosen false cpu next h k = k

points_kept : (b : Bool) (cpu next : CpuRec) → HasBinaryPoints cpu → HasBinaryPoints next → HasBinaryPoints (cond b cpu next)
points_kept true cpu next h k = h
points_kept false cpu next h k = k

points_ended : (group : Group) (id : ℕ) (cpu : CpuRec) → HasBinaryPoints cpu → HasBinaryPoints (unwrap_or (ended group id cpu) cpu)
points_ended group id cpu h = points_chosen _ cpu (level_dropped group cpu) h (points_levels group _ cpu h)

points_plain : (reg : IccReg) (value : ℕ) (cpu : CpuRec) → HasBinaryPoints cpu → HasBinaryPoints (unwrap_or (plain_write reg value cpu) cpu)
points_plain Pmr value cpu h = record { group_0 = h.group_0; group_1 = h.group_1 }
points_plain Bpr0 value cpu h = record { group_0 = omega arith; group_1 = h.group_1 }
points_plain Bpr1 value cpu h = points_kept cpu.cbpr cpu _ h (record { group_0 = h.group_0; group_1 = omega arith })
points_plain Ctlr value cpu h = record { group_0 = h.group_0; group_1 = h.group_1 }
points_plain Igrpen0 value cpu h = record { group_0 = h.group_0; group_1 = h.group_1 }
points_plain Igrpen1 value cpu h = record { group_0 = h.group_0; group_1 = h.group_1 }
points_plain reg value cpu h = h

pub points_after : (reg : IccReg) (write : Option ℕ) (cpu : CpuRec) (among : List Candidate) → HasBinaryPoints cpu → HasBinaryPoints (cpu_after reg write cpu among)
points_after reg None cpu among h = points_activated (taken_by reg None cpu among) cpu h
points_after Eoir0 (Some value) cpu among h = points_ended G0 (intid_written value) cpu h
points_after Eoir1 (Some value) cpu among h = points_ended G1 (intid_written value) cpu h
points_after reg (Some value) cpu among h = points_plain reg value cpu h

-- the record keeps its levels below 32
levels_activated : (taken : Option Candidate) (cpu : CpuRec) → HasLevels cpu → HasLevels (activated_by taken cpu)
levels_activated None cpu h = h
levels_activated (Some found) cpu h = of found.group
  where
    of : (group : Group) → HasLevels (level_activated found.prio group cpu)
    of G0 = record { group_0 = with_level_fits (level_of found.prio G0 cpu) cpu.ap0; group_1 = h.group_1 }
    of G1 = record { group_0 = h.group_0; group_1 = with_level_fits (level_of found.prio G1 cpu) cpu.ap1 }

levels_dropped : (group : Group) (cpu : CpuRec) → HasLevels cpu → HasLevels (level_dropped group cpu)
levels_dropped G0 cpu h = record { group_0 = without_level_fits _ cpu.ap0; group_1 = h.group_1 }
levels_dropped G1 cpu h = record { group_0 = h.group_0; group_1 = without_level_fits _ cpu.ap1 }

levels_chosen : (b : Bool) (cpu next : CpuRec) → HasLevels cpu → HasLevels next → HasLevels (unwrap_or (cond b None (Some next)) cpu)
levels_chosen true cpu next h k = h
levels_chosen false cpu next h k = k

levels_ended : (group : Group) (id : ℕ) (cpu : CpuRec) → HasLevels cpu → HasLevels (unwrap_or (ended group id cpu) cpu)
levels_ended group id cpu h = levels_chosen _ cpu (level_dropped group cpu) h (levels_dropped group cpu h)

levels_plain : (reg : IccReg) (value : ℕ) (cpu : CpuRec) → HasLevels cpu → HasLevels (unwrap_or (plain_write reg value cpu) cpu)
levels_plain Pmr value cpu h = record { group_0 = h.group_0; group_1 = h.group_1 }
levels_plain Bpr0 value cpu h = record { group_0 = h.group_0; group_1 = h.group_1 }
levels_plain Bpr1 value cpu h = of cpu.cbpr
  where
    of : (b : Bool) → HasLevels (cond b cpu (record cpu { bpr1 = binary_point_written 3 value }))
    of true = h
    of false = record { group_0 = h.group_0; group_1 = h.group_1 }
levels_plain Ctlr value cpu h = record { group_0 = h.group_0; group_1 = h.group_1 }
levels_plain Igrpen0 value cpu h = record { group_0 = h.group_0; group_1 = h.group_1 }
levels_plain Igrpen1 value cpu h = record { group_0 = h.group_0; group_1 = h.group_1 }
levels_plain reg value cpu h = h

pub levels_after : (reg : IccReg) (write : Option ℕ) (cpu : CpuRec) (among : List Candidate) → HasLevels cpu → HasLevels (cpu_after reg write cpu among)
levels_after reg None cpu among h = levels_activated (taken_by reg None cpu among) cpu h
levels_after Eoir0 (Some value) cpu among h = levels_ended G0 (intid_written value) cpu h
levels_after Eoir1 (Some value) cpu among h = levels_ended G1 (intid_written value) cpu h
levels_after reg (Some value) cpu among h = levels_plain reg value cpu h
