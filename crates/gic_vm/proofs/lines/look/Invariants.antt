use Rattle.std.proofs.Common.{◌≡◌, ◌<◌, ◌≤◌, ℕ, length}
use Rattle.gic_vm.specs.Lines.{lines_of, lines_in, changed_of}
use Rattle.gic_vm.proofs.lines.look.Given as goal

-- the lines of the vCPUs so far are as they are now, the others as they were, and it is known which of the former differ
abbrev pub invariant-loop-vcpu : goal.invariant-loop-vcpu
invariant-loop-vcpu l =
    record {
      end : l.vcpu-end ≡ l.guest.shape.vcpus;
      room : length l.lines ≡ 32;
      changed : l.changed ≡ changed_of (lines_in l.fn.lines) (lines_of l.guest) l.vcpu;
      now : (vcpu : ℕ) → vcpu < l.vcpu → lines_in l.lines vcpu ≡ lines_of l.guest vcpu;
      before : (vcpu : ℕ) → l.vcpu ≤ vcpu → lines_in l.lines vcpu ≡ lines_in l.fn.lines vcpu;
    }
