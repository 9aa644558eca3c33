-- What a change of the record of one interrupt leaves of another.
use Rattle.std.proofs.Common.{◌≡◌, ◌≢◌, ℕ, Bool, true, false, cond, IsTrue, Option, Some, None, length, refl, sym, ap, ◌∙◌, arith}
use Rattle.std.specs.Option.{option_map_or}
use Rattle.std.proofs.lemmas.Grind.{common_steps}
use Rattle.floor_calls.specs.Words.{Irq, GuestShape, Key, Private, Spi, Lpi, IsShape, has_interrupt, interrupt_count, intid_of, is_same_key, key_of, acknowledged, deactivated, IccReg}
use Rattle.floor_calls.proofs.GicBase.KeyLemmas.{same_key, same_itself}
use Rattle.floor_calls.specs.Calls.{irq_in, with_irq_in}
use Rattle.floor_calls.proofs.GicOpen.KeyLemmas.{irq_same, irq_other, length-with_irq_in}
use Rattle.ideal_guest.specs.declared.guest.IdealGuest.{IdealGuest}
use Rattle.floor_calls.specs.Registers.{CpuRec, Candidate, taken_by, deactivated_by, cpu_after}
use Rattle.ideal_guest.specs.Ideal.{is_named, irq_at, cpu_at, with_cpu, candidates, changed_irq, changed_at, after_acknowledge, after_deactivation, after_access}

-- keys whose test is false are two
other_key : (j k : Key) → is_same_key j k ≡ false → j ≢ k
other_key j k h e = absurd (differ (is_same_key j k) h (ap (is_same_key j) (sym e) ∙ same_itself j))
  where
    differ : (b : Bool) → b ≡ false → b ≡ true → ⊥
    differ b f t = cc

-- the guest has a record for each of its interrupts
pub record IsWhole (guest : IdealGuest) : Type 0 where
  pub shape : IsShape guest.shape
  pub each : length guest.irqs ≡ interrupt_count guest.shape

pub whole_changed : (j : Key) (change : Irq → Irq) (guest : IdealGuest) → IsWhole guest → IsWhole (changed_irq j change guest)
whole_changed j change guest whole = record { shape = whole.shape; each = length-with_irq_in guest.shape j (change (irq_at guest j)) guest.irqs ∙ whole.each }

-- the record of an interrupt that is there changes where the change is of it, and else stays
pub irq_changed : (guest : IdealGuest) (j k : Key) (change : Irq → Irq) → IsWhole guest → IsTrue (has_interrupt guest.shape k) → irq_at (changed_irq j change guest) k ≡ cond (is_same_key k j) (change (irq_at guest k)) (irq_at guest k)
irq_changed guest j k change whole there = by_test (is_same_key k j) refl
  where
    after : Irq
    after = irq_at (changed_irq j change guest) k

    here : (j : Key) → k ≡ j → irq_in guest.shape (with_irq_in guest.shape j (change (irq_at guest j)) guest.irqs) k ≡ change (irq_at guest k)
    here j e = rw (sym e) (irq_same guest.shape k (change (irq_at guest k)) guest.irqs whole.shape whole.each there)

    by_test : (b : Bool) → is_same_key k j ≡ b → irq_in guest.shape (with_irq_in guest.shape j (change (irq_at guest j)) guest.irqs) k ≡ cond b (change (irq_at guest k)) (irq_at guest k)
    by_test true e = here j (same_key k j e)
    by_test false e = irq_other guest.shape j k (change (irq_at guest j)) guest.irqs whole.shape (λ same. other_key k j e (sym same))

-- the same of the interrupt with an INTID
pub irq_changed_at : (guest : IdealGuest) (id vcpu : ℕ) (k : Key) (change : Key → Irq → Irq) → IsWhole guest → IsTrue (has_interrupt guest.shape k) → irq_at (changed_at id vcpu change guest) k ≡ cond (is_named id vcpu guest.shape k) (change k (irq_at guest k)) (irq_at guest k)
irq_changed_at guest id vcpu k change whole there = of (key_of id vcpu guest.shape)
  where
    as_named : (j : Key) (b : Bool) → is_same_key k j ≡ b → cond b (change j (irq_at guest k)) (irq_at guest k) ≡ cond b (change k (irq_at guest k)) (irq_at guest k)
    as_named j true e = ap (λ key. change key (irq_at guest k)) (sym (same_key k j e))
    as_named j false e = refl

    of : (o : Option Key) → irq_at (option_map_or (λ key. changed_irq key (change key) guest) o guest) k ≡ cond (option_map_or (is_same_key k) o false) (change k (irq_at guest k)) (irq_at guest k)
    of None = refl
    of (Some j) = irq_changed guest j k (change j) whole there ∙ as_named j (is_same_key k j) refl

pub whole_changed_at : (id vcpu : ℕ) (change : Key → Irq → Irq) (guest : IdealGuest) → IsWhole guest → IsWhole (changed_at id vcpu change guest)
whole_changed_at id vcpu change guest whole = of (key_of id vcpu guest.shape)
  where
    of : (o : Option Key) → IsWhole (option_map_or (λ key. changed_irq key (change key) guest) o guest)
    of None = whole
    of (Some key) = whole_changed key (change key) guest whole

-- nothing but records changes
pub shape_changed_at : (id vcpu : ℕ) (change : Key → Irq → Irq) (guest : IdealGuest) → (changed_at id vcpu change guest).shape ≡ guest.shape
shape_changed_at id vcpu change guest = of (key_of id vcpu guest.shape)
  where
    of : (o : Option Key) → (option_map_or (λ key. changed_irq key (change key) guest) o guest).shape ≡ guest.shape
    of None = refl
    of (Some key) = refl

pub cpus_changed_at : (id vcpu : ℕ) (change : Key → Irq → Irq) (guest : IdealGuest) → (changed_at id vcpu change guest).cpus ≡ guest.cpus
cpus_changed_at id vcpu change guest = of (key_of id vcpu guest.shape)
  where
    of : (o : Option Key) → (option_map_or (λ key. changed_irq key (change key) guest) o guest).cpus ≡ guest.cpus
    of None = refl
    of (Some key) = refl

-- an interrupt that an INTID names has it, and is there
pub key_intid : (id vcpu : ℕ) (shape : GuestShape) (key : Key) → key_of id vcpu shape ≡ Some key → intid_of key ≡ id
key_intid id vcpu shape (Private v i) h = grind (arith, common_steps, h)
key_intid id vcpu shape (Spi i) h = grind (arith, common_steps, h)
key_intid id vcpu shape (Lpi i) h = grind (arith, common_steps, h)

pub key_there : (id vcpu : ℕ) (shape : GuestShape) (key : Key) → key_of id vcpu shape ≡ Some key → IsTrue (has_interrupt shape key)
key_there id vcpu shape key h = grind (arith, common_steps, h)

pub named_is : (id vcpu : ℕ) (shape : GuestShape) (key : Key) → is_named id vcpu shape key ≡ true → key_of id vcpu shape ≡ Some key
named_is id vcpu shape key h = of (key_of id vcpu shape) h
  where
    of : (o : Option Key) → option_map_or (is_same_key key) o false ≡ true → o ≡ Some key
    of None e = absurd (cc)
    of (Some j) e = ap Some (sym (same_key key j e))

pub is_named_by : (id vcpu : ℕ) (shape : GuestShape) (key : Key) → key_of id vcpu shape ≡ Some key → is_named id vcpu shape key ≡ true
is_named_by id vcpu shape key h = ap (λ o. option_map_or (is_same_key key) o false) h ∙ same_itself key

-- what no change of a record changes, an access of a CPU interface register leaves, if the record of a CPU interface does not matter
kept_at : {X : Type 0} (f : IdealGuest → X) (id vcpu : ℕ) (change : Key → Irq → Irq) (guest : IdealGuest) → ((key : Key) (made : Irq → Irq) (g : IdealGuest) → f (changed_irq key made g) ≡ f g) → f (changed_at id vcpu change guest) ≡ f guest
kept_at f id vcpu change guest kept = of (key_of id vcpu guest.shape)
  where
    of : (o : Option Key) → f (option_map_or (λ key. changed_irq key (change key) guest) o guest) ≡ f guest
    of None = refl
    of (Some key) = kept key (change key) guest

kept_access : {X : Type 0} (f : IdealGuest → X) (reg : IccReg) (write : Option ℕ) (guest : IdealGuest) (vcpu : ℕ) → ((key : Key) (made : Irq → Irq) (g : IdealGuest) → f (changed_irq key made g) ≡ f g)
    → ((g : IdealGuest) (cpu : CpuRec) → f (with_cpu g vcpu cpu) ≡ f g) → f (after_access reg write guest vcpu) ≡ f guest
kept_access f reg write guest vcpu kept kept_cpu =
    kept_cpu (after_deactivation named middle vcpu) (cpu_after reg write (cpu_at guest vcpu) (candidates guest vcpu)) ∙ ended named ∙ begun taken
  where
    taken : Option Candidate
    taken = taken_by reg write (cpu_at guest vcpu) (candidates guest vcpu)

    named : Option ℕ
    named = deactivated_by reg write (cpu_at guest vcpu)

    middle : IdealGuest
    middle = after_acknowledge taken guest vcpu

    begun : (o : Option Candidate) → f (after_acknowledge o guest vcpu) ≡ f guest
    begun None = refl
    begun (Some found) = kept_at f found.id vcpu (λ key irq. acknowledged key vcpu irq) guest kept

    ended : (o : Option ℕ) → f (after_deactivation o middle vcpu) ≡ f middle
    ended None = refl
    ended (Some id) = kept_at f id vcpu (λ key irq. deactivated vcpu irq) middle kept

pub shape_access : (reg : IccReg) (write : Option ℕ) (guest : IdealGuest) (vcpu : ℕ) → (after_access reg write guest vcpu).shape ≡ guest.shape
shape_access reg write guest vcpu = kept_access (λ g. g.shape) reg write guest vcpu (λ key made g. refl) (λ g cpu. refl)

pub tables_access : (reg : IccReg) (write : Option ℕ) (guest : IdealGuest) (vcpu : ℕ) → (after_access reg write guest vcpu).tables ≡ guest.tables
tables_access reg write guest vcpu = kept_access (λ g. g.tables) reg write guest vcpu (λ key made g. refl) (λ g cpu. refl)
