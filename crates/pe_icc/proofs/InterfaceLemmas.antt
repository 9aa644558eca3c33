-- What an access leaves at a vCPU's interface.
use Rattle.std.proofs.Common.{◌≡◌, ℕ, ◌==◌, ◌&&◌, ◌||◌, not, Bool, true, false, cond, if◌then◌else◌, List, [], ◌∷◌, nat_lt, Option, Some, None, unwrap_or, refl, ap, ◌∙◌}
use Rattle.std.specs.List.{list_all}
use Rattle.pe_loop.specs.Words.{IccReg, Eoir0, Eoir1, Bpr1, intid_of, G0, G1, is_number}
use Rattle.pe_loop.specs.GicWord.declared.record.Group.{Group}
use Rattle.pe_loop.specs.Registers.{Candidate, CpuRec, taken_by, deactivated_by, activated_by, cpu_after, candidates_at, level_activated, level_dropped, least_level, running_level, binary_point_written, intid_written, is_special}
use Rattle.pe_loop.specs.Core.{AtIrq, Local, interface_of, acknowledged_entry, deactivated_entry, changed_id, id_of, accessed}

-- What an access leaves there.

-- nothing of it was given back
whole_changed : (change : AtIrq → AtIrq) → ((one : AtIrq) → (change one).given ≡ one.given) → (id : Option ℕ) (at : List AtIrq) → list_all (λ at. not at.given) (changed_id change id at) ≡ list_all (λ at. not at.given) at
whole_changed change same id [] = refl
whole_changed change same id (one ∷ rest) =
    ap (λ b. not b && list_all (λ at. not at.given) (changed_id change id rest)) (of (is_number (intid_of one.key) id)) ∙ ap (λ b. not one.given && b) (whole_changed change same id rest)
  where
    of : (b : Bool) → (if b then change one else one).given ≡ one.given
    of true = same one
    of false = refl

pub whole_accessed : (reg : IccReg) (write : Option ℕ) (local : Local) → list_all (λ at. not at.given) (accessed reg write local).at ≡ list_all (λ at. not at.given) local.at
whole_accessed reg write local =
    let found = taken_by reg write local.cpu (candidates_at (interface_of local)) in
    whole_changed deactivated_entry (λ one. refl) (deactivated_by reg write local.cpu) (changed_id acknowledged_entry (id_of found) local.at) ∙ whole_changed acknowledged_entry (λ one. refl) (id_of found) local.at

-- EnableLPIs is as it was
pub lpis_kept : (reg : IccReg) (write : Option ℕ) (cpu : CpuRec) (candidates : List Candidate) → (cpu_after reg write cpu candidates).lpis ≡ cpu.lpis
lpis_kept reg None cpu candidates = of (taken_by reg None cpu candidates)
  where
    at : (prio : ℕ) (group : Group) → (level_activated prio group cpu).lpis ≡ cpu.lpis
    at prio G0 = refl
    at prio G1 = refl

    of : (found : Option Candidate) → (activated_by found cpu).lpis ≡ cpu.lpis
    of None = refl
    of (Some one) = at one.prio one.group
lpis_kept Eoir0 (Some value) cpu candidates = of (is_special (intid_written value) || running_level cpu == 32 || nat_lt (running_level cpu) (least_level G0 cpu))
  where
    of : (b : Bool) → (unwrap_or (cond b None (Some (level_dropped G0 cpu))) cpu).lpis ≡ cpu.lpis
    of true = refl
    of false = refl
lpis_kept Eoir1 (Some value) cpu candidates = of (is_special (intid_written value) || running_level cpu == 32 || nat_lt (running_level cpu) (least_level G1 cpu))
  where
    of : (b : Bool) → (unwrap_or (cond b None (Some (level_dropped G1 cpu))) cpu).lpis ≡ cpu.lpis
    of true = refl
    of false = refl
lpis_kept Bpr1 (Some value) cpu candidates = of cpu.cbpr
  where
    of : (b : Bool) → (cond b cpu (record cpu { bpr1 = binary_point_written 3 value })).lpis ≡ cpu.lpis
    of true = refl
    of false = refl
lpis_kept reg (Some value) cpu candidates = refl
