-- The places of keys, and the records that stand there.
use Rattle.std.proofs.Common.{◌≡◌, ◌≢◌, ℕ, ◌<◌, if◌then◌else◌, Bool, true, false, IsTrue, List, length, get_or, set, refl, sym, ap, ◌∙◌, arith}
use Rattle.std.proofs.lemmas.Grind.{common_steps}
use Rattle.std.proofs.lemmas.List.{get_or-set_same, get_or-set_other, length-set}
use Rattle.gic_guest.specs.Words.{GuestShape, Key, Private, Spi, Lpi, IsShape, has_interrupt, interrupt_count, place_of, key_at, Irq}
use Rattle.gic_open.specs.Opening.{opening_irq, irq_in, with_irq_in}

-- an interrupt that is there has a place
pub place_within : (shape : GuestShape) (key : Key) → IsShape shape → IsTrue (has_interrupt shape key) → place_of shape key < interrupt_count shape
place_within shape (Private vcpu id) is h = grind (arith, common_steps)
place_within shape (Spi id) is h = grind (arith, common_steps)
place_within shape (Lpi id) is h = grind (arith, common_steps)

-- at its place it stands
pub key_at_place : (shape : GuestShape) (key : Key) → IsShape shape → IsTrue (has_interrupt shape key) → key_at shape (place_of shape key) ≡ key
key_at_place shape (Private vcpu id) is h = grind (arith, common_steps)
key_at_place shape (Spi id) is h = grind (arith, common_steps)
key_at_place shape (Lpi id) is h = grind (arith, common_steps)

-- at each place stands an interrupt that is there
pub key_at_there : (shape : GuestShape) (place : ℕ) → IsShape shape → place < interrupt_count shape → IsTrue (has_interrupt shape (key_at shape place))
key_at_there shape place is h = grind (arith, common_steps)

-- the interrupt at a place has that place
pub place_at : (shape : GuestShape) (place : ℕ) → IsShape shape → place < interrupt_count shape → place_of shape (key_at shape place) ≡ place
place_at shape place is h = grind (arith, common_steps)

-- two interrupts at one place are one
pub place_same : (shape : GuestShape) (j k : Key) → IsShape shape → IsTrue (has_interrupt shape j) → IsTrue (has_interrupt shape k) → place_of shape j ≡ place_of shape k → j ≡ k
place_same shape j k is h i e = sym (key_at_place shape j is h) ∙ ap (key_at shape) e ∙ key_at_place shape k is i

-- the record of an interrupt that is there stands at its place, and is written there
pub irq_in_there : (shape : GuestShape) (irqs : List Irq) (key : Key) → IsTrue (has_interrupt shape key) → irq_in shape irqs key ≡ get_or irqs (place_of shape key) (opening_irq false key)
irq_in_there shape irqs key there = rw there refl

pub with_irq_in_there : (shape : GuestShape) (key : Key) (irq : Irq) (irqs : List Irq) → IsTrue (has_interrupt shape key) → with_irq_in shape key irq irqs ≡ set irqs (place_of shape key) irq
with_irq_in_there shape key irq irqs there = rw there refl

-- as many records stay
pub length-with_irq_in : (shape : GuestShape) (key : Key) (irq : Irq) (irqs : List Irq) → length (with_irq_in shape key irq irqs) ≡ length irqs
length-with_irq_in shape key irq irqs = by_there (has_interrupt shape key)
  where
    by_there : (there : Bool) → length (if there then set irqs (place_of shape key) irq else irqs) ≡ length irqs
    by_there true = length-set irqs _ _
    by_there false = refl

-- what is written is read
pub irq_same : (shape : GuestShape) (key : Key) (irq : Irq) (irqs : List Irq) → IsShape shape → length irqs ≡ interrupt_count shape → IsTrue (has_interrupt shape key) → irq_in shape (with_irq_in shape key irq irqs) key ≡ irq
irq_same shape key irq irqs is each there =
    rw (irq_in_there shape (with_irq_in shape key irq irqs) key there, with_irq_in_there shape key irq irqs there)
    (get_or-set_same irqs (place_of shape key) irq (opening_irq false key) (omega (arith, each, place_within shape key is there)))

-- and nothing else
pub irq_other : (shape : GuestShape) (j k : Key) (irq : Irq) (irqs : List Irq) → IsShape shape → j ≢ k → irq_in shape (with_irq_in shape j irq irqs) k ≡ irq_in shape irqs k
irq_other shape j k irq irqs is differ = by_there (has_interrupt shape j) refl (has_interrupt shape k) refl
  where
    by_there : (b : Bool) → has_interrupt shape j ≡ b → (c : Bool) → has_interrupt shape k ≡ c
        → (if c then get_or (if b then set irqs (place_of shape j) irq else irqs) (place_of shape k) (opening_irq false k) else opening_irq false k)
        ≡ (if c then get_or irqs (place_of shape k) (opening_irq false k) else opening_irq false k)
    by_there b e false g = refl
    by_there false e true g = refl
    by_there true e true g = get_or-set_other irqs (place_of shape j) (place_of shape k) irq (opening_irq false k) (λ same. differ (place_same shape j k is e g (sym same)))
