-- What a read of IAR answers, and what an acknowledge leaves.
use Rattle.std.proofs.Common.{◌≡◌, ◌≢◌, ℕ, zero, suc, ◌*◌, ◌/◌, ◌%◌, ◌^◌, ◌<◌, min, Bool, true, false, ◌&&◌, cond, Option, Some, None, IsTrue, List, All, inl, inr, ◌↔◌, refl, sym, ap, ◌∙◌, subst, eqb, option_and_then, arith}
use Rattle.std.proofs.lemmas.Grind.{common_steps}
use Rattle.std.proofs.lemmas.Option.{none-some, same_Some, cond_some}
use Rattle.std.proofs.lemmas.List.Elements.{All-contains}
use Rattle.std.proofs.Math.Nat.{pow-suc, mul-mod_left}
use Rattle.floor_words.specs.GicWord.declared.record.Group.{Group}
use Rattle.floor_words.specs.Words.{G0, G1}
use Rattle.gic_prio.specs.declared.cpu.CpuRec.{CpuRec}
use Rattle.gic_prio.specs.declared.candidate.Candidate.{Candidate}
use Rattle.gic_prio.specs.Levels.{least_in}
use Rattle.gic_prio.specs.Priority.{dropped_bits, group_priority_of, running_of, is_signalled, level_activated}
use Rattle.gic_prio.specs.Delivery.{first_of}
use Rattle.gic_prio.specs.Signal.{is_same_group, acknowledged, intid_read}
use Rattle.gic_prio.specs.Laws.{IsPassedOver, IsUnanswered, Preempts}
use Rattle.gic_prio.proofs.FirstLemmas.{first_is, empty_or_first, found}
use Rattle.gic_prio.proofs.LevelLemmas.{IsBelow, below_least, least_with, level_of_signalled}

-- a priority that is a multiple of 8 has a group priority that is one
multiple : (prio dropped : ℕ) → prio % 8 ≡ 0 → prio / 2 ^ dropped * 2 ^ dropped % 8 ≡ 0
multiple prio zero h = omega (arith, h)
multiple prio (suc zero) h = omega (arith, h)
multiple prio (suc (suc zero)) h = omega (arith, h)
multiple prio (suc (suc (suc n))) h =
    let weight : 2 ^ suc (suc (suc n)) ≡ 2 ^ n * 8 = rw (pow-suc 2 (suc (suc n)), pow-suc 2 (suc n), pow-suc 2 n) (omega arith) in
    let whole = prio / 2 ^ suc (suc (suc n)) in
    let regroup : whole * 2 ^ suc (suc (suc n)) ≡ whole * 2 ^ n * 8 = rw weight (omega arith) in
    rw regroup (mul-mod_left (whole * 2 ^ n) 8)

-- what a read of IAR of a group acknowledges is the first candidate, of the group, and signalled
pub record WasAnswered (group : Group) (cpu : CpuRec) (among : List Candidate) (found : Candidate) : Type 0 where
  pub first : first_of among ≡ Some found
  pub group_is : found.group ≡ group
  pub signalled : is_signalled found.prio found.group cpu ≡ true

-- the groups are one, or not
same_group : (a b : Group) → is_same_group a b ≡ true → a ≡ b
same_group G0 G0 e = refl
same_group G0 G1 e = absurd (cc)
same_group G1 G0 e = absurd (cc)
same_group G1 G1 e = refl

other_group : (a b : Group) → is_same_group a b ≡ false → a ≢ b
other_group G0 G0 e same = absurd (cc)
other_group G0 G1 e same = cc
other_group G1 G0 e same = cc
other_group G1 G1 e same = absurd (cc)

itself : (a : Group) → is_same_group a a ≡ true
itself G0 = refl
itself G1 = refl

-- the answer of a read of IAR where there is a first candidate
abbrev answer : Group → CpuRec → Candidate → Option Candidate
answer group cpu first = cond (is_same_group first.group group && is_signalled first.prio first.group cpu) (Some first) None

passed : (group : Group) (cpu : CpuRec) (first : Candidate) → first.id ≢ 1023 → intid_read (answer group cpu first) ≡ 1023 → IsPassedOver group cpu first
passed group cpu first named e =
    by_tests (is_same_group first.group group) (is_signalled first.prio first.group cpu) refl refl e
  where
    by_tests : (same signalled : Bool) → is_same_group first.group group ≡ same → is_signalled first.prio first.group cpu ≡ signalled → intid_read (cond (same && signalled) (Some first) None) ≡ 1023 → IsPassedOver group cpu first
    by_tests true true a b f = absurd (named f)
    by_tests true false a b f = inr b
    by_tests false signalled a b f = inl (other_group first.group group a)

unanswered : (group : Group) (cpu : CpuRec) (first : Candidate) → IsPassedOver group cpu first → intid_read (answer group cpu first) ≡ 1023
unanswered group cpu first (inl other) = by_test (is_same_group first.group group) refl
  where
    by_test : (same : Bool) → is_same_group first.group group ≡ same → intid_read (cond (same && is_signalled first.prio first.group cpu) (Some first) None) ≡ 1023
    by_test true e = absurd (other (same_group first.group group e))
    by_test false e = refl
unanswered group cpu first (inr masked) = rw masked (by_test (is_same_group first.group group))
  where
    by_test : (same : Bool) → intid_read (cond (same && false) (Some first) None) ≡ 1023
    by_test true = refl
    by_test false = refl

-- 1023 exactly where there is no candidate, or the first is passed over
pub spurious : (group : Group) (cpu : CpuRec) (candidates : List Candidate) → All (λ one. one.id ≢ 1023) candidates → (intid_read (acknowledged group cpu candidates) ≡ 1023) ↔ IsUnanswered group cpu candidates
spurious group cpu candidates named =
    elim (empty_or_first candidates) [
      | inl is ↦ ((λ e. inl is), λ e. rw is refl)
      | inr has ↦
          let first : first_of candidates ≡ Some has.0 = found candidates has.0 has.1 in
          let some : has.0.id ≢ 1023 = All-contains (λ one. one.id ≢ 1023) candidates has.0 named (first_is candidates has.0 first).among in
          ((λ e. inr (has.0, first, passed group cpu has.0 some (rw first at e))), back has.0 first)
    ]
  where
    back : (first : Candidate) → first_of candidates ≡ Some first → IsUnanswered group cpu candidates → intid_read (acknowledged group cpu candidates) ≡ 1023
    back first is (inl empty) = rw empty refl
    back first is (inr other) =
        let same : other.0 ≡ first = same_Some other.0 first (sym other.1 ∙ is) in
        rw is (unanswered group cpu first (subst (IsPassedOver group cpu) same other.2))

pub answered_first : (group : Group) (cpu : CpuRec) (among : List Candidate) (found : Candidate) → acknowledged group cpu among ≡ Some found → WasAnswered group cpu among found
answered_first group cpu among found h = of (first_of among) refl h
  where
    of : (o : Option Candidate) → first_of among ≡ o → option_and_then (answer group cpu) o ≡ Some found → WasAnswered group cpu among found
    of None e g = absurd (none-some found g)
    of (Some one) e g =
        let is = cond_some (is_same_group one.group group && is_signalled one.prio one.group cpu) one found g in
        let tests = both (is_same_group one.group group) (is_signalled one.prio one.group cpu) is.0 in
        record {
          first = e ∙ ap Some is.1;
          group_is = ap (λ c. c.group) (sym is.1) ∙ same_group one.group group tests.0;
          signalled = ap (λ c. is_signalled c.prio c.group cpu) (sym is.1) ∙ tests.1;
        }
      where
        both : (a b : Bool) → (a && b) ≡ true → (a ≡ true) × (b ≡ true)
        both true b h = (refl, h)
        both false b h = absurd (cc)

-- the running priority where a level below all others is active
of_level : (level other kept : ℕ) → level < 32 → level < other → level * 8 ≡ kept → cond (eqb (min level other) 32) 255 (min level other * 8) ≡ kept
of_level level other kept small lower is = grind (arith, common_steps)

of_other : (level other kept : ℕ) → level < 32 → level < other → level * 8 ≡ kept → cond (eqb (min other level) 32) 255 (min other level * 8) ≡ kept
of_other level other kept small lower is = grind (arith, common_steps)

-- the running priority after an acknowledge
runs : (prio : ℕ) (group : Group) (cpu : CpuRec) → cpu.ap0 < 2 ^ 32 → cpu.ap1 < 2 ^ 32 → prio % 8 ≡ 0 → IsTrue (is_signalled prio group cpu) → running_of (level_activated prio group cpu) ≡ group_priority_of prio group cpu
runs prio G0 cpu h k step signalled =
    let kept = group_priority_of prio G0 cpu in
    let preempts : kept < running_of cpu = grind (arith, common_steps) in
    let lower = level_of_signalled kept cpu.ap0 cpu.ap1 h k preempts in
    let below : IsBelow (kept / 8) cpu.ap0 = below_least (kept / 8) cpu.ap0 h lower.0 in
    let whole : kept / 8 * 8 ≡ kept = omega (arith, multiple prio (dropped_bits G0 cpu) step) in
    rw (least_with (kept / 8) cpu.ap0 below) (of_level (kept / 8) (least_in cpu.ap1) kept below.small lower.1 whole)
runs prio G1 cpu h k step signalled =
    let kept = group_priority_of prio G1 cpu in
    let preempts : kept < running_of cpu = grind (arith, common_steps) in
    let lower = level_of_signalled kept cpu.ap0 cpu.ap1 h k preempts in
    let below : IsBelow (kept / 8) cpu.ap1 = below_least (kept / 8) cpu.ap1 k lower.1 in
    let whole : kept / 8 * 8 ≡ kept = omega (arith, multiple prio (dropped_bits G1 cpu) step) in
    rw (least_with (kept / 8) cpu.ap1 below) (of_other (kept / 8) (least_in cpu.ap0) kept below.small lower.0 whole)

-- what is signalled is more urgent than what runs
urgent : (prio : ℕ) (group : Group) (cpu : CpuRec) → IsTrue (is_signalled prio group cpu) → group_priority_of prio group cpu < running_of cpu
urgent prio group cpu h = grind (arith, common_steps)

pub preempts : (prio : ℕ) (group : Group) (cpu : CpuRec) → cpu.ap0 < 2 ^ 32 → cpu.ap1 < 2 ^ 32 → prio % 8 ≡ 0 → IsTrue (is_signalled prio group cpu) → Preempts prio group cpu (level_activated prio group cpu)
preempts prio group cpu h k step signalled =
    let running = runs prio group cpu h k step signalled in
    record {
      running = running;
      others = λ other of shown. rw running at (urgent other of (level_activated prio group cpu) shown);
    }
