-- The INTIDs of a guest's interrupts.
use Rattle.std.proofs.Common.{◌≡◌, ℕ, ◌+◌, ◌^◌, ◌<◌, ◌≤◌, ◌||◌, Bool, true, false, IsTrue, refl, sym, ap, ◌∙◌, arith}
use Rattle.std.proofs.lemmas.Bool.{and_parts, eqb-true, leb-true, ltb-true}
use Rattle.floor_histories.specs.Words.{Key, Private, Spi, Lpi, GuestShape, intid_of, has_interrupt, is_of_vcpu, is_within, IsShape}

-- the INTIDs of a kind
abbrev pub IsInRange : Key → Type 0
IsInRange (Private vcpu id) = id < 32
IsInRange (Spi id) = (32 ≤ id) × (id < 8192)
IsInRange (Lpi id) = (8192 ≤ id) × (id < 16384)

within_is : (first count n : ℕ) → IsTrue (is_within first count n) → (first ≤ n) × (n < first + count)
within_is first count n h = let parts = and_parts _ _ h in (leb-true first n parts.0, ltb-true n (first + count) parts.1)

pub in_range : (shape : GuestShape) (key : Key) → IsShape shape → IsTrue (has_interrupt shape key) → IsInRange key
in_range shape (Private vcpu id) good h = ltb-true id 32 (and_parts _ _ h).1
in_range shape (Spi id) good h = of (is_within 32 shape.spis id) refl h
  where
    of : (b : Bool) → is_within 32 shape.spis id ≡ b → IsTrue (b || is_within 4096 shape.espis id) → (32 ≤ id) × (id < 8192)
    of true e h = let parts = within_is 32 shape.spis id e in let low = parts.0 in let high = parts.1 in let few = good.spis in (low, omega (arith, high, few))
    of false e h = let parts = within_is 4096 shape.espis id h in let low = parts.0 in let high = parts.1 in let few = good.espis in (omega (arith, low), omega (arith, high, few))
in_range shape (Lpi id) good h = let parts = within_is 8192 shape.lpis id h in let low = parts.0 in let high = parts.1 in let few = good.lpis in (low, omega (arith, high, few))

pub id_fits : (key : Key) → IsInRange key → intid_of key < 2 ^ 32
id_fits (Private vcpu id) h = omega (arith, h)
id_fits (Spi id) h = let high = h.1 in omega (arith, high)
id_fits (Lpi id) h = let high = h.1 in omega (arith, high)

-- two interrupts that a vCPU can get to have two INTIDs
pub same_by_id : (vcpu : ℕ) (j k : Key) → IsInRange j → IsInRange k → IsTrue (is_of_vcpu vcpu j) → IsTrue (is_of_vcpu vcpu k) → intid_of j ≡ intid_of k → j ≡ k
same_by_id vcpu (Private v i) (Private w j) a b one other e = both v w i j (eqb-true v vcpu one ∙ sym (eqb-true w vcpu other)) e
  where
    both : (v w i j : ℕ) → v ≡ w → i ≡ j → Private v i ≡ Private w j
    both v w i j e f = cc
same_by_id vcpu (Private v i) (Spi j) a b one other e = absurd (let low = b.0 in omega (arith, a, low, e))
same_by_id vcpu (Private v i) (Lpi j) a b one other e = absurd (let low = b.0 in omega (arith, a, low, e))
same_by_id vcpu (Spi i) (Private w j) a b one other e = absurd (let low = a.0 in omega (arith, b, low, e))
same_by_id vcpu (Spi i) (Spi j) a b one other e = ap Spi e
same_by_id vcpu (Spi i) (Lpi j) a b one other e = absurd (let high = a.1 in let low = b.0 in omega (arith, high, low, e))
same_by_id vcpu (Lpi i) (Private w j) a b one other e = absurd (let low = a.0 in omega (arith, b, low, e))
same_by_id vcpu (Lpi i) (Spi j) a b one other e = absurd (let high = b.1 in let low = a.0 in omega (arith, high, low, e))
same_by_id vcpu (Lpi i) (Lpi j) a b one other e = ap Lpi e
