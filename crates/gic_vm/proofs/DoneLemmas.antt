-- What calls answer.
use Rattle.std.proofs.Common.{◌≡◌, ℕ, ◌<◌, Bool, true, false, if◌then◌else◌, nat_lt, Some, None, Result, Ok, List, sym, ap, ◌∙◌, arith}
use Rattle.std.specs.Bool.{beq}
use Rattle.std.proofs.lemmas.Grind.{common_steps}
use Rattle.ideal_guest.specs.Words.{Key, Wire}
use Rattle.ideal_guest.specs.declared.guest.IdealGuest.{IdealGuest}
use Rattle.ideal_guest.specs.Ideal.{irq_at}
use Rattle.ideal_guest.specs.Call.{after_device}
use Rattle.gic_vm.specs.declared.done.Done.{Done}
use Rattle.gic_vm.specs.declared.done.Refused.{Refused}
use Rattle.gic_vm.specs.declared.layout.Layout.{Layout}
use Rattle.gic_line.specs.declared.lines.Lines.{Lines}
use Rattle.gic_vm.specs.Lines.{lines_of, lines_in, changed_of, changed_between}
use Rattle.gic_vm.specs.State.{MachineState}
use Rattle.gic_vm.specs.Kept.{IsKept}
use Rattle.gic_vm.specs.Calls.{done_by, levelled, told}
use Rattle.gic_vm.specs.Reset.{with_cpu_reset, reset_cpu_of}
use Rattle.gic_vm.proofs.KeptLemmas.{changed_is, unchanged}

abbrev pub as_done : ℕ → ℕ → Done
as_done value changed = record { value = value; changed = changed }

-- a call that makes this of the guest, and looks at the lines again
pub done_is : (machine : MachineState) (layout : Layout) (guest after : IdealGuest) (lines : List Lines) (goes_to : IdealGuest → IdealGuest) (value to_read changed : ℕ) → guest ≡ machine.guest → IsKept layout guest lines → after ≡ goes_to guest → after.shape ≡ guest.shape → changed ≡ changed_of (lines_in lines) (lines_of after) after.shape.vcpus → value ≡ to_read → as_done value changed ≡ done_by to_read machine.guest (goes_to machine.guest)
done_is machine layout guest after lines goes_to value to_read changed guest_is kept goes shape looked reads =
    let told : changed ≡ changed_between machine.guest (goes_to machine.guest) =
    changed_is layout guest after lines changed kept shape looked
    ∙ ap (λ (old : IdealGuest). changed_between old after) guest_is
    ∙ ap (λ (new : IdealGuest). changed_between machine.guest new) (goes ∙ ap goes_to guest_is) in
    ap (λ (n : ℕ). as_done n changed) reads ∙ ap (λ (n : ℕ). as_done to_read n) told

-- a call that leaves the guest as it is
pub done_none : (guest : IdealGuest) → as_done 0 0 ≡ done_by 0 guest guest
done_none guest = ap (λ (n : ℕ). as_done 0 n) (sym (unchanged guest))

-- the reset of a vCPU that is there
pub reset_is : (vcpu : ℕ) (guest : IdealGuest) (done : Done) → vcpu < guest.shape.vcpus → done ≡ done_by 0 guest (with_cpu_reset vcpu guest) → ◌≡◌ {A = Result Done Refused} (Ok done) (told (reset_cpu_of vcpu guest) guest)
reset_is vcpu guest done there is =
    ap (λ (d : Done). Ok d) is ∙ ap (λ (b : Bool). told (if b then Some (with_cpu_reset vcpu guest) else None) guest) (sym (less vcpu guest.shape.vcpus there))
  where
    less : (x y : ℕ) → x < y → nat_lt x y ≡ true
    less x y h = grind (arith, common_steps, h)

-- a wire that has its level, and one that moves
pub level_kept : (guest : IdealGuest) (key : Key) (up : Bool) → beq (irq_at guest key).line up ≡ true → as_done 0 0 ≡ done_by 0 guest (levelled key up guest)
level_kept guest key up same = done_none guest ∙ ap (λ (b : Bool). done_by 0 guest (if b then guest else after_device (Wire key up) guest)) (sym same)

pub level_moved : (guest : IdealGuest) (key : Key) (up : Bool) → beq (irq_at guest key).line up ≡ false → done_by 0 guest (after_device (Wire key up) guest) ≡ done_by 0 guest (levelled key up guest)
level_moved guest key up other = ap (λ (b : Bool). done_by 0 guest (if b then guest else after_device (Wire key up) guest)) (sym other)
