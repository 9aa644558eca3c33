-- The registers of a CPU interface are in range.
use Rattle.std.proofs.Common.{◌≡◌, ℕ, zero, suc, ◌≤◌, ◌%◌, ◌||◌, not, Bool, true, false, cond, IsTrue, Option, Some, None, unwrap_or, List, [], ◌∷◌, All, get_or, refl, arith}
use Rattle.eager_rest.specs.LawSavesGoOn.RunsSplit.GicIdeal.IdealGuests.Words.{GuestShape, G0, G1, IccReg, Pmr, Bpr0, Bpr1, Ctlr, Igrpen0, Igrpen1, Eoir0, Eoir1}
use Rattle.eager_rest.specs.LawSavesGoOn.RunsSplit.GicIdeal.IdealGuests.GicWord.declared.record.Group.{Group}
use Rattle.eager_rest.specs.LawSavesGoOn.RunsSplit.GicIdeal.IdealGuests.Registers.{CpuRec, Candidate, has_lpis, taken_by, activated_by, cpu_after, with_levels, level_dropped, ended, intid_written, plain_write, binary_point_written}
use Rattle.eager_rest.specs.LawSavesGoOn.RunsSplit.GicIdeal.IdealGuests.Calls.{opening_cpu}

-- the priority mask, the binary points and EnableLPIs
pub record AreInRange (shape : GuestShape) (pmr bpr0 bpr1 : ℕ) (lpis : Bool) : Type 0 where
  pub mask : pmr ≤ 248
  pub mask_bits : pmr % 8 ≡ 0
  pub least_0 : 2 ≤ bpr0
  pub most_0 : bpr0 ≤ 7
  pub least_1 : 3 ≤ bpr1
  pub most_1 : bpr1 ≤ 7
  pub enabled : IsTrue (has_lpis shape || not lpis)

abbrev pub IsInRange : GuestShape → CpuRec → Type 0
IsInRange shape cpu = AreInRange shape cpu.pmr cpu.bpr0 cpu.bpr1 cpu.lpis

-- EnableLPIs is 0 as a guest opens
not_enabled : (b : Bool) → IsTrue (b || true)
not_enabled true = refl
not_enabled false = refl

pub opens_in_range : (shape : GuestShape) (on : Bool) → IsInRange shape (opening_cpu on)
opens_in_range shape true = record { mask = omega arith; mask_bits = refl; least_0 = omega arith; most_0 = omega arith; least_1 = omega arith; most_1 = omega arith; enabled = not_enabled (has_lpis shape) }
opens_in_range shape false = record { mask = omega arith; mask_bits = refl; least_0 = omega arith; most_0 = omega arith; least_1 = omega arith; most_1 = omega arith; enabled = not_enabled (has_lpis shape) }

module _ (shape : GuestShape) where
  levels_in_range : (group : Group) (levels : ℕ) (cpu : CpuRec) → IsInRange shape cpu → IsInRange shape (with_levels group levels cpu)
  levels_in_range G0 levels cpu is = is
  levels_in_range G1 levels cpu is = is

  activated_in_range : (taken : Option Candidate) (cpu : CpuRec) → IsInRange shape cpu → IsInRange shape (activated_by taken cpu)
  activated_in_range None cpu is = is
  activated_in_range (Some found) cpu is = levels_in_range found.group _ cpu is

  chosen : (b : Bool) (cpu next : CpuRec) → IsInRange shape cpu → IsInRange shape next → IsInRange shape (unwrap_or (cond b None (Some next)) cpu)
  chosen true cpu next is then = is
  chosen false cpu next is then = then

  kept : (b : Bool) (cpu next : CpuRec) → IsInRange shape cpu → IsInRange shape next → IsInRange shape (cond b cpu next)
  kept true cpu next is then = is
  kept false cpu next is then = then

  ended_in_range : (group : Group) (id : ℕ) (cpu : CpuRec) → IsInRange shape cpu → IsInRange shape (unwrap_or (ended group id cpu) cpu)
  ended_in_range group id cpu is = chosen _ cpu (level_dropped group cpu) is (levels_in_range group _ cpu is)

  plain_in_range : (reg : IccReg) (value : ℕ) (cpu : CpuRec) → IsInRange shape cpu → IsInRange shape (unwrap_or (plain_write reg value cpu) cpu)
  plain_in_range Pmr value cpu is = record { mask = omega arith; mask_bits = omega arith; least_0 = is.least_0; most_0 = is.most_0; least_1 = is.least_1; most_1 = is.most_1; enabled = is.enabled }
  plain_in_range Bpr0 value cpu is = record { mask = is.mask; mask_bits = is.mask_bits; least_0 = omega arith; most_0 = omega arith; least_1 = is.least_1; most_1 = is.most_1; enabled = is.enabled }
  plain_in_range Bpr1 value cpu is =
      kept cpu.cbpr cpu (record cpu { bpr1 = binary_point_written 3 value }) is
      (record { mask = is.mask; mask_bits = is.mask_bits; least_0 = is.least_0; most_0 = is.most_0; least_1 = omega arith; most_1 = omega arith; enabled = is.enabled })
  plain_in_range Ctlr value cpu is = is
  plain_in_range Igrpen0 value cpu is = is
  plain_in_range Igrpen1 value cpu is = is
  plain_in_range reg value cpu is = is

  pub after_in_range : (reg : IccReg) (write : Option ℕ) (cpu : CpuRec) (among : List Candidate) → IsInRange shape cpu → IsInRange shape (cpu_after reg write cpu among)
  after_in_range reg None cpu among is = activated_in_range (taken_by reg None cpu among) cpu is
  after_in_range Eoir0 (Some value) cpu among is = ended_in_range G0 (intid_written value) cpu is
  after_in_range Eoir1 (Some value) cpu among is = ended_in_range G1 (intid_written value) cpu is
  after_in_range reg (Some value) cpu among is = plain_in_range reg value cpu is

  -- each, also where there is none
  pub cpu_in_range : (cpus : List CpuRec) (n : ℕ) → All (IsInRange shape) cpus → IsInRange shape (get_or cpus n (opening_cpu false))
  cpu_in_range [] n all = opens_in_range shape false
  cpu_in_range (cpu ∷ cpus) zero all = all 0 cpu (omega arith)
  cpu_in_range (cpu ∷ cpus) (suc n) all = cpu_in_range cpus n (λ k d l. all (suc k) d (omega (arith, l)))
