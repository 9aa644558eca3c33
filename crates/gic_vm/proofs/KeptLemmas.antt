-- What a machine keeps, from one state of its guest to the next.
use Rattle.std.proofs.Common.{◌≡◌, ℕ, ◌≤◌, ◌&&◌, if◌then◌else◌, Bool, true, false, nat_lt, not, zero, suc, ◌+◌, ◌^◌, IsTrue, List, Option, option_and_then, Some, None, is_some, sym, ap, subst, ◌∙◌, refl, true≢false, arith}
use Rattle.std.specs.Bool.{beq}
use Rattle.std.proofs.lemmas.Grind.{common_steps}
use Rattle.std.proofs.lemmas.List.{get_or_past}
use Rattle.ideal_guest.specs.GicWord.declared.record.Group.{Group}
use Rattle.ideal_guest.specs.Words.{GuestShape, G0, G1}
use Rattle.ideal_guest.specs.Registers.{CpuRec, Candidate, acknowledged, first_of, is_same_group, is_signalled, group_priority_of, running_of}
use Rattle.ideal_guest.specs.Calls.{opening_cpu}
use Rattle.ideal_guest.specs.Ideal.{cpu_at, candidates}
use Rattle.ideal_guest.specs.declared.guest.IdealGuest.{IdealGuest}
use Rattle.ideal_guest.specs.Sound.{IsSound}
use Rattle.gic_vm.specs.declared.layout.Layout.{Layout}
use Rattle.gic_line.specs.declared.lines.Lines.{Lines}
use Rattle.gic_vm.specs.Layout.{is_layout}
use Rattle.gic_vm.specs.Lines.{lines_of, lines_in, is_same_lines, down, changed_of, changed_between}
use Rattle.gic_vm.specs.Kept.{IsKept, AreLinesOf}
use Rattle.gic_vm.proofs.LineLemmas.{changed_alike}

-- a machine that has its layout keeps it, with the lines of what its guest is now
pub kept_after : (layout : Layout) (before after : IdealGuest) (old new : List Lines) → IsKept layout before old → IsSound after → after.shape ≡ before.shape → AreLinesOf after new → IsKept layout after new
kept_after layout before after old new kept sound same are =
    record {
      sound = sound;
      layout_good = subst (λ (shape : GuestShape). IsTrue (is_layout shape layout)) (sym same) kept.layout_good;
      lines_are = are;
    }

-- whose lines differ from those that were kept
pub changed_is : (layout : Layout) (before after : IdealGuest) (old : List Lines) (changed : ℕ) → IsKept layout before old → after.shape ≡ before.shape → changed ≡ changed_of (lines_in old) (lines_of after) after.shape.vcpus → changed ≡ changed_between before after
changed_is layout before after old changed kept same is =
    is ∙ ap (λ (shape : GuestShape). changed_of (lines_in old) (lines_of after) shape.vcpus) same ∙ changed_alike (lines_in old) (lines_of before) (lines_of after) before.shape.vcpus kept.lines_are

-- an interface as it opens lets no priority through
below_none : (prio : ℕ) → nat_lt prio 0 ≡ false
below_none prio = grind (arith, common_steps)

never : (prio : ℕ) (group : Group) → is_signalled prio group (opening_cpu false) ≡ false
never prio group = ap (λ (b : Bool). b && nat_lt (group_priority_of prio group (opening_cpu false)) (running_of (opening_cpu false))) (below_none prio)

-- so nothing is acknowledged there
none_signalled : (group : Group) (first : Option Candidate) → option_and_then (λ first. if is_same_group first.group group && is_signalled first.prio first.group (opening_cpu false) then Some first else None) first ≡ None
none_signalled group None = refl
none_signalled group (Some first) = of (is_same_group first.group group) (is_signalled first.prio first.group (opening_cpu false)) (never first.prio first.group)
  where
    of : (same signalled : Bool) → signalled ≡ false → (if same && signalled then Some first else None) ≡ None
    of true true e = absurd (true≢false e)
    of true false e = refl
    of false signalled e = refl

abbrev as_lines : Bool → Bool → Lines
as_lines irq fiq = record { irq = irq; fiq = fiq }

-- the lines of a vCPU that is not there are down
pub absent_down : (guest : IdealGuest) (vcpu : ℕ) → IsSound guest → guest.shape.vcpus ≤ vcpu → lines_of guest vcpu ≡ down
absent_down guest vcpu sound absent =
    let among = candidates guest vcpu in
    let is : cpu_at guest vcpu ≡ opening_cpu false = get_or_past guest.cpus vcpu (opening_cpu false) (omega (arith, sound.cpus, absent)) in
    ap (λ (cpu : CpuRec). as_lines (is_some (acknowledged G1 cpu among)) (is_some (acknowledged G0 cpu among))) is
    ∙ ap (λ (found : Option Candidate). as_lines (is_some found) (is_some (acknowledged G0 (opening_cpu false) among))) (none_signalled G1 (first_of among))
    ∙ ap (λ (found : Option Candidate). as_lines false (is_some found)) (none_signalled G0 (first_of among))

-- lines are like themselves
same_lines : (lines : Lines) → not (is_same_lines lines lines) ≡ false
same_lines lines = of lines.irq lines.fiq
  where
    of : (a b : Bool) → not (beq a a && beq b b) ≡ false
    of true true = refl
    of true false = refl
    of false true = refl
    of false false = refl

none_changed : (lines : ℕ → Lines) (n : ℕ) → changed_of lines lines n ≡ 0
none_changed lines zero = refl
none_changed lines (suc n) =
    ap (λ (b : Bool). changed_of lines lines n + (if b then 2 ^ n else 0)) (same_lines (lines n)) ∙ omega (arith, none_changed lines n)

-- a guest that stays as it is changes no lines
pub unchanged : (guest : IdealGuest) → changed_between guest guest ≡ 0
unchanged guest = none_changed (lines_of guest) guest.shape.vcpus
