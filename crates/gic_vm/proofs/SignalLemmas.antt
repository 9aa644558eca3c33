-- What a line says of the vCPU's next acknowledge.
use Rattle.std.proofs.Common.{◌≡◌, ℕ, not, false, IsTrue, Option, None, Some, is_some, refl, sym, ap, ◌∙◌, arith}
use Rattle.std.proofs.lemmas.Grind.{common_steps}
use Rattle.ideal_guest.specs.Words.{GuestShape, IsShape, Key, Private, Spi, Lpi, has_interrupt, intid_of, IccReg, Iar0, Iar1}
use Rattle.ideal_guest.specs.Registers.{Candidate, taken_by, intid_read, is_special}
use Rattle.ideal_guest.specs.declared.guest.IdealGuest.{IdealGuest}
use Rattle.ideal_guest.specs.Ideal.{cpu_at, candidates}
use Rattle.ideal_guest.specs.Sound.{IsSound}
use Rattle.ideal_guest.proofs.CandidateLemmas.{taken_was}
use Rattle.gic_vm.specs.Signals.{LinesTellAnswers}

-- no interrupt has a special INTID
none_special : (shape : GuestShape) (key : Key) → IsShape shape → IsTrue (has_interrupt shape key) → is_special (intid_of key) ≡ false
none_special shape (Private vcpu id) is h = grind (arith, common_steps, h, is.spis)
none_special shape (Spi id) is h = grind (arith, common_steps, h, is.spis)
none_special shape (Lpi id) is h = grind (arith, common_steps, h, is.spis)

-- a read that acknowledges answers an INTID that is none of these, and any other read one that is
told_by : (taken : Option Candidate) → ((found : Candidate) → taken ≡ Some found → is_special found.id ≡ false) → is_some taken ≡ not (is_special (intid_read taken))
told_by None named = refl
told_by (Some found) named = sym (ap not (named found refl))

-- what is acknowledged has no special INTID
taken_named : (reg : IccReg) (guest : IdealGuest) (vcpu : ℕ) (found : Candidate) → IsSound guest → taken_by reg None (cpu_at guest vcpu) (candidates guest vcpu) ≡ Some found → is_special found.id ≡ false
taken_named reg guest vcpu found sound taken =
    let was = taken_was reg None guest vcpu found sound taken in
    ap is_special was.of.id ∙ none_special guest.shape was.key sound.shape was.of.there

pub lines_told : LinesTellAnswers
lines_told guest vcpu sound =
    record {
      irq = told_by (taken_by Iar1 None (cpu_at guest vcpu) (candidates guest vcpu)) (λ found taken. taken_named Iar1 guest vcpu found sound taken);
      fiq = told_by (taken_by Iar0 None (cpu_at guest vcpu) (candidates guest vcpu)) (λ found taken. taken_named Iar0 guest vcpu found sound taken);
    }
