-- The test of keys tells whether they are one.
use Rattle.std.proofs.Common.{◌≡◌, ◌≢◌, ℕ, true, false, ap, arith}
use Rattle.std.proofs.lemmas.Grind.{common_steps}
use Rattle.std.proofs.lemmas.Bool.{false_from_ne_true}
use Rattle.gic_base.specs.declared.interrupt.Key.{Key}
use Rattle.gic_base.specs.declared.interrupt.Key.TheVariants.{Private, Spi, Lpi}
use Rattle.gic_base.specs.Interrupt.{is_same_key}

pub same_key : (j k : Key) → is_same_key j k ≡ true → j ≡ k
same_key (Private v i) (Private w j) h = both v w i j (grind (arith, common_steps, h)) (grind (arith, common_steps, h))
  where
    both : (v w i j : ℕ) → v ≡ w → i ≡ j → Private v i ≡ Private w j
    both v w i j e f = cc
same_key (Private v i) (Spi j) h = absurd (cc)
same_key (Private v i) (Lpi j) h = absurd (cc)
same_key (Spi i) (Private w j) h = absurd (cc)
same_key (Spi i) (Spi j) h = ap Spi (grind (arith, common_steps, h))
same_key (Spi i) (Lpi j) h = absurd (cc)
same_key (Lpi i) (Private w j) h = absurd (cc)
same_key (Lpi i) (Spi j) h = absurd (cc)
same_key (Lpi i) (Lpi j) h = ap Lpi (grind (arith, common_steps, h))

pub same_itself : (k : Key) → is_same_key k k ≡ true
same_itself (Private v i) = grind (arith, common_steps)
same_itself (Spi i) = grind (arith, common_steps)
same_itself (Lpi i) = grind (arith, common_steps)

pub other_key : (j k : Key) → j ≢ k → is_same_key j k ≡ false
other_key j k differ = false_from_ne_true (is_same_key j k) (λ e. differ (same_key j k e))
