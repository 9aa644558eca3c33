-- What an access of a CPU interface register does does not depend on EnableLPIs, and leaves it.
use Rattle.std.proofs.Common.{◌≡◌, ℕ, ◌==◌, ◌&&◌, ◌||◌, not, Bool, true, false, cond, List, [], ◌∷◌, nat_lt, is_some, Option, Some, None, unwrap_or, option_and_then, filter_map, refl, sym, ap, ◌∙◌, subst}
use Rattle.std.specs.List.{cons_option}
use Rattle.law_lines_translate.specs.Words.{IccReg, Iar0, Iar1, Eoir0, Eoir1, Dir, Bpr1, intid_of, G0, G1}
use Rattle.law_lines_translate.specs.GicWord.declared.record.Group.{Group}
use Rattle.law_lines_translate.specs.Registers.{Candidate, CpuRec, taken_by, deactivated_by, answer_of, activated_by, written_by, cpu_after, AtInterface, candidate_of, acknowledged_at, deactivated_at, interface_answer, interface_after, level_activated, least_level, running_level, level_dropped, is_signalled, first_of, is_group_enabled, binary_point_written, acknowledged, ended, intid_read, intid_written, is_same_group, is_special}
use Rattle.law_core_is_history.specs.Related.{but_lpis, IsCpuRelated}

abbrev pub with_lpis : Bool → CpuRec → CpuRec
with_lpis lpis cpu = record cpu { lpis = lpis }

module _ (lpis : Bool) (cpu : CpuRec) where
  activated_at : (prio : ℕ) (group : Group) → level_activated prio group (with_lpis lpis cpu) ≡ with_lpis lpis (level_activated prio group cpu)
  activated_at prio G0 = refl
  activated_at prio G1 = refl

  activated_lpis : (found : Option Candidate) → activated_by found (with_lpis lpis cpu) ≡ with_lpis lpis (activated_by found cpu)
  activated_lpis None = refl
  activated_lpis (Some one) = activated_at one.prio one.group

  -- an end, which is ignored or not
  ended_or : (one : CpuRec) (b : Bool) → unwrap_or (cond b None (Some (with_lpis lpis one))) (with_lpis lpis cpu) ≡ with_lpis lpis (unwrap_or (cond b None (Some one)) cpu)
  ended_or one true = refl
  ended_or one false = refl

  ended_lpis : (group : Group) (id : ℕ) → unwrap_or (ended group id (with_lpis lpis cpu)) (with_lpis lpis cpu) ≡ with_lpis lpis (unwrap_or (ended group id cpu) cpu)
  ended_lpis G0 id = ended_or (level_dropped G0 cpu) (is_special id || running_level cpu == 32 || nat_lt (running_level cpu) (least_level G0 cpu))
  ended_lpis G1 id = ended_or (level_dropped G1 cpu) (is_special id || running_level cpu == 32 || nat_lt (running_level cpu) (least_level G1 cpu))

  is_ended_or : (one other : CpuRec) (b : Bool) → is_some (cond {A = Option CpuRec} b None (Some one)) ≡ is_some (cond {A = Option CpuRec} b None (Some other))
  is_ended_or one other true = refl
  is_ended_or one other false = refl

  is_ended_lpis : (group : Group) (id : ℕ) → is_some (ended group id (with_lpis lpis cpu)) ≡ is_some (ended group id cpu)
  is_ended_lpis G0 id = is_ended_or (level_dropped G0 (with_lpis lpis cpu)) (level_dropped G0 cpu) (is_special id || running_level cpu == 32 || nat_lt (running_level cpu) (least_level G0 cpu))
  is_ended_lpis G1 id = is_ended_or (level_dropped G1 (with_lpis lpis cpu)) (level_dropped G1 cpu) (is_special id || running_level cpu == 32 || nat_lt (running_level cpu) (least_level G1 cpu))

  written_lpis : (reg : IccReg) (value : ℕ) → unwrap_or (written_by reg value (with_lpis lpis cpu)) (with_lpis lpis cpu) ≡ with_lpis lpis (unwrap_or (written_by reg value cpu) cpu)
  written_lpis Eoir0 value = ended_lpis G0 (intid_written value)
  written_lpis Eoir1 value = ended_lpis G1 (intid_written value)
  written_lpis Bpr1 value = of cpu.cbpr
    where
      of : (b : Bool) → cond b (with_lpis lpis cpu) (record (with_lpis lpis cpu) { bpr1 = binary_point_written 3 value }) ≡ with_lpis lpis (cond b cpu (record cpu { bpr1 = binary_point_written 3 value }))
      of true = refl
      of false = refl
  written_lpis reg value = refl

  signalled_lpis : (prio : ℕ) (group : Group) → is_signalled prio group (with_lpis lpis cpu) ≡ is_signalled prio group cpu
  signalled_lpis prio G0 = refl
  signalled_lpis prio G1 = refl

  acknowledged_lpis : (group : Group) (candidates : List Candidate) → acknowledged group (with_lpis lpis cpu) candidates ≡ acknowledged group cpu candidates
  acknowledged_lpis group candidates = of (first_of candidates)
    where
      of : (o : Option Candidate)
          → option_and_then (λ first. cond (is_same_group first.group group && is_signalled first.prio first.group (with_lpis lpis cpu)) (Some first) None) o ≡ option_and_then (λ first. cond (is_same_group first.group group && is_signalled first.prio first.group cpu) (Some first) None) o
      of None = refl
      of (Some first) = ap (λ s. cond (is_same_group first.group group && s) (Some first) None) (signalled_lpis first.prio first.group)

  pub taken_lpis : (reg : IccReg) (write : Option ℕ) (candidates : List Candidate) → taken_by reg write (with_lpis lpis cpu) candidates ≡ taken_by reg write cpu candidates
  taken_lpis Iar0 None candidates = acknowledged_lpis G0 candidates
  taken_lpis Iar1 None candidates = acknowledged_lpis G1 candidates
  taken_lpis reg write candidates = refl

  pub after_lpis : (reg : IccReg) (write : Option ℕ) (candidates : List Candidate) → cpu_after reg write (with_lpis lpis cpu) candidates ≡ with_lpis lpis (cpu_after reg write cpu candidates)
  after_lpis reg None candidates = ap (λ found. activated_by found (with_lpis lpis cpu)) (taken_lpis reg None candidates) ∙ activated_lpis (taken_by reg None cpu candidates)
  after_lpis reg (Some value) candidates = written_lpis reg value

  pub deactivated_lpis : (reg : IccReg) (write : Option ℕ) → deactivated_by reg write (with_lpis lpis cpu) ≡ deactivated_by reg write cpu
  deactivated_lpis Eoir0 (Some value) = ap (λ b. cond (b && not cpu.eoimode) (Some (intid_written value)) None) (is_ended_lpis G0 (intid_written value))
  deactivated_lpis Eoir1 (Some value) = ap (λ b. cond (b && not cpu.eoimode) (Some (intid_written value)) None) (is_ended_lpis G1 (intid_written value))
  deactivated_lpis Dir (Some value) = refl
  deactivated_lpis reg write = refl

  pub answer_lpis : (reg : IccReg) (write : Option ℕ) (candidates : List Candidate) → answer_of reg write (with_lpis lpis cpu) candidates ≡ answer_of reg write cpu candidates
  answer_lpis Iar0 None candidates = ap (λ found. Some (intid_read found)) (acknowledged_lpis G0 candidates)
  answer_lpis Iar1 None candidates = ap (λ found. Some (intid_read found)) (acknowledged_lpis G1 candidates)
  answer_lpis reg None candidates = refl
  answer_lpis reg (Some value) candidates = refl

  enabled_lpis : (group : Group) → is_group_enabled group (with_lpis lpis cpu) ≡ is_group_enabled group cpu
  enabled_lpis G0 = refl
  enabled_lpis G1 = refl

  candidate_lpis : (entry : AtInterface) → candidate_of (with_lpis lpis cpu) entry ≡ candidate_of cpu entry
  candidate_lpis entry = ap (λ b. cond (entry.pending && not entry.active && b) (Some (record { id = intid_of entry.key; prio = entry.prio; group = entry.group })) None) (enabled_lpis entry.group)

  pub candidates_lpis : (at : List AtInterface) → filter_map (candidate_of (with_lpis lpis cpu)) at ≡ filter_map (candidate_of cpu) at
  candidates_lpis [] = refl
  candidates_lpis (one ∷ rest) = ap (λ o. cons_option o (filter_map (candidate_of (with_lpis lpis cpu)) rest)) (candidate_lpis one) ∙ ap (cons_option (candidate_of cpu one)) (candidates_lpis rest)

-- An access by a copy of the record that may be older than another copy.
module _ (own cpu : CpuRec) (related : IsCpuRelated own cpu) (reg : IccReg) (write : Option ℕ) (at : List AtInterface) where
  cpu_is : with_lpis cpu.lpis own ≡ cpu
  cpu_is = ap (with_lpis cpu.lpis) (sym related.same)

  -- reads the same
  pub same_answer : interface_answer reg write (record { cpu = cpu; at = at }) ≡ interface_answer reg write (record { cpu = own; at = at })
  same_answer = subst (λ c. interface_answer reg write (record { cpu = c; at = at }) ≡ interface_answer reg write (record { cpu = own; at = at })) cpu_is
      (ap (answer_of reg write (with_lpis cpu.lpis own)) (candidates_lpis cpu.lpis own at) ∙ answer_lpis cpu.lpis own reg write (filter_map (candidate_of own) at))

  -- does the same to what is at the interface
  pub same_at : (interface_after reg write (record { cpu = cpu; at = at })).at ≡ (interface_after reg write (record { cpu = own; at = at })).at
  same_at = subst (λ c. (interface_after reg write (record { cpu = c; at = at })).at ≡ (interface_after reg write (record { cpu = own; at = at })).at) cpu_is
      (ap (λ ended. deactivated_at ended (acknowledged_at (taken_by reg write (with_lpis cpu.lpis own) (filter_map (candidate_of (with_lpis cpu.lpis own)) at)) at)) (deactivated_lpis cpu.lpis own reg write)
      ∙ ap (λ found. deactivated_at (deactivated_by reg write own) (acknowledged_at found at)) (ap (taken_by reg write (with_lpis cpu.lpis own)) (candidates_lpis cpu.lpis own at) ∙ taken_lpis cpu.lpis own reg write (filter_map (candidate_of own) at)))

  -- and to the record but for EnableLPIs, which it leaves
  after_is : (interface_after reg write (record { cpu = cpu; at = at })).cpu ≡ with_lpis cpu.lpis (interface_after reg write (record { cpu = own; at = at })).cpu
  after_is = subst (λ c. cpu_after reg write c (filter_map (candidate_of c) at) ≡ with_lpis cpu.lpis (cpu_after reg write own (filter_map (candidate_of own) at))) cpu_is
      (ap (cpu_after reg write (with_lpis cpu.lpis own)) (candidates_lpis cpu.lpis own at) ∙ after_lpis cpu.lpis own reg write (filter_map (candidate_of own) at))

  pub same_lpis : (interface_after reg write (record { cpu = cpu; at = at })).cpu.lpis ≡ cpu.lpis
  same_lpis = ap (λ (c : CpuRec). c.lpis) after_is

  pub same_cpu : IsCpuRelated (interface_after reg write (record { cpu = own; at = at })).cpu (interface_after reg write (record { cpu = cpu; at = at })).cpu
  same_cpu = record { same = ap but_lpis after_is; lpis = λ h. same_lpis ∙ related.lpis (sym (ap (λ (c : CpuRec). c.lpis) (after_lpis own.lpis own reg write (filter_map (candidate_of own) at))) ∙ h) }
