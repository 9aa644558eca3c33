use Rattle.std.proofs.Common.{◌≡◌, ℕ, ◌<◌, ◌≤◌, List, None, length, get_or}
use Rattle.std.specs.Prelude.{slice_get, IfSome}
use Rattle.std.specs.List.{AllWithin}
use Rattle.gic_ich.specs.GicLr.Entry.{IsEntry}
use Rattle.gic_ich.specs.Words.{GuestShape}
use Rattle.vcpu_refill.specs.declared.offer.Offer.{Offer}
use Rattle.vcpu_refill.specs.Chooser.{Keeps}
use Rattle.vcpu_refill.specs.Plan.{choices_of}
use Rattle.vcpu_refill.proofs.chooser.Chooser.choices.Given as goal

-- each place so far has what stands in its list register
abbrev pub invariant-loop-place : goal.invariant-loop-place
invariant-loop-place l =
    record {
      long : length l.slot-items ≡ 16;
      entries : AllWithin (λ place. IfSome place (λ choice. IsEntry choice.entry)) l.slot-items 0 l.place;
      filled :
          (shape : GuestShape) → l.self.vcpu < shape.vcpus → (actives deliverables : List Offer) → Keeps l.self actives deliverables → length actives ≡ l.active → l.active ≤ l.self.lrs → (k : ℕ) → k < l.place → get_or l.slot-items k None ≡ slice_get (choices_of actives deliverables l.cut l.self.vcpu l.cpu shape l.self.lrs) k;
    }
