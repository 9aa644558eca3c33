-- Accesses by address.
use Rattle.std.proofs.Common.{◌≡◌, ℕ, ◌<◌, IsTrue, Option, Some, None, List, refl, sym, ap, subst, ◌∙◌}
use Rattle.ideal_guest.specs.Words.{GuestShape, Irq}
use Rattle.ideal_guest.specs.Registers.{CpuRec}
use Rattle.ideal_guest.specs.declared.guest.IdealGuest.{IdealGuest}
use Rattle.gic_vm.specs.declared.done.Done.{Done}
use Rattle.gic_vm.specs.declared.layout.Layout.{Layout}
use Rattle.gic_line.specs.declared.lines.Lines.{Lines}
use Rattle.guest_memory.specs.declared.access.Access.{Access}
use Rattle.gic_vm.specs.Layout.{is_layout}
use Rattle.gic_vm.specs.Kept.{IsKept}
use Rattle.gic_vm.specs.State.{MachineState, with_guest}
use Rattle.gic_vm.specs.Calls.{done_by}
use Rattle.gic_vm.specs.Own.{after_access, access_read}
use Rattle.guest_memory.specs.Memory.{IsKeptBut}
use Rattle.gic_vm.specs.Lines.{lines_of, changed_of, changed_between}
use Rattle.gic_vm.specs.Mmio.{IsReady, IsMade}
use Rattle.gic_vm.proofs.LineLemmas.{changed_alike}
use Rattle.gic_vm.proofs.DoneLemmas.{as_done, done_none}

-- copies change no line
pub kept_lines : (before after : IdealGuest) (vcpu : ℕ) → IsKeptBut before after → lines_of after vcpu ≡ lines_of before vcpu
kept_lines before after vcpu kept =
    ap (λ (shape : GuestShape). lines_of (of shape after.irqs after.cpus) vcpu) kept.shape
    ∙ ap (λ (irqs : List Irq). lines_of (of before.shape irqs after.cpus) vcpu) kept.irqs
    ∙ ap (λ (cpus : List CpuRec). lines_of (of before.shape before.irqs cpus) vcpu) kept.cpus
  where
    of : GuestShape → List Irq → List CpuRec → IdealGuest
    of shape irqs cpus = record before { shape = shape; irqs = irqs; cpus = cpus }

-- so the lines that change are those that change from before the copies on
pub kept_changed : (before copied after : IdealGuest) → IsKeptBut before copied → changed_between copied after ≡ changed_between before after
kept_changed before copied after kept =
    ap (λ (shape : GuestShape). changed_of (lines_of copied) (lines_of after) shape.vcpus) kept.shape
    ∙ changed_alike (lines_of copied) (lines_of before) (lines_of after) before.shape.vcpus (λ vcpu there. kept_lines before copied vcpu kept)

-- a machine keeps what it keeps while the guest's memory is copied
pub kept_copied : (layout : Layout) (before after : IdealGuest) (lines : List Lines) → IsKept layout before lines → IsKeptBut before after → IsKept layout after lines
kept_copied layout before after lines kept copied =
    record {
      sound = copied.sound;
      layout_good = subst (λ (shape : GuestShape). IsTrue (is_layout shape layout)) (sym copied.shape) kept.layout_good;
      lines_are = λ vcpu there. kept.lines_are vcpu (subst (λ (shape : GuestShape). vcpu < shape.vcpus) copied.shape there) ∙ sym (kept_lines before after vcpu copied);
    }

-- an access that is made after the copies
pub is_made : (May : ℕ → Option ℕ → Type 0) (access : Access) (vcpu : ℕ) (before : MachineState) (copied : IdealGuest) (after : MachineState) (done : Done) → IsReady May (Some access) before copied → IsKeptBut before.guest copied → after ≡ after_access access (with_guest before copied) vcpu → done ≡ done_by (access_read access (with_guest before copied) vcpu) copied (after_access access (with_guest before copied) vcpu).guest → IsMade May (Some access) vcpu before after done
is_made May access vcpu before copied after done ready kept machine answers =
    let value = access_read access (with_guest before copied) vcpu in
    record {
      copied = copied;
      ready = ready;
      machine = machine;
      answers =
          answers ∙ ap (λ (changed : ℕ). as_done value changed) (kept_changed before.guest copied (after_access access (with_guest before copied) vcpu).guest kept)
          ∙ ap (λ (m : MachineState). done_by value before.guest m.guest) (sym machine);
    }

-- no access
pub none_made : (May : ℕ → Option ℕ → Type 0) (vcpu : ℕ) (machine : MachineState) → IsMade May None vcpu machine machine (as_done 0 0)
none_made May vcpu machine = record { copied = machine.guest; ready = refl; machine = refl; answers = done_none machine.guest }

-- the access that was found
pub made_along : (May : ℕ → Option ℕ → Type 0) (one other : Option Access) (vcpu : ℕ) (before after : MachineState) (done : Done) → one ≡ other → IsMade May one vcpu before after done → IsMade May other vcpu before after done
made_along May one other vcpu before after done same made = subst (λ (access : Option Access). IsMade May access vcpu before after done) same made
