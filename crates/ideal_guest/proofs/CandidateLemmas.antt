-- What is acknowledged at one guest.
use Rattle.std.proofs.Common.{◌≡◌, ◌≢◌, ℕ, ◌+◌, ◌<◌, zero, suc, Bool, true, false, not, cond, IsTrue, is_none, Option, Some, None, List, All, find, refl, sym, ap, ◌∙◌, subst, arith}
use Rattle.std.specs.List.{range_with_len, filter_map, cons_option, list_any}
use Rattle.std.specs.Option.{option_map_or}
use Rattle.std.proofs.lemmas.Grind.{common_steps}
use Rattle.std.proofs.lemmas.Option.{none-some, same_Some, cond_some}
use Rattle.std.proofs.lemmas.List.Elements.{All-cons}
use Rattle.floor_calls.specs.Words.{Irq, Route, Affinity, Target, is_pending, is_number, target_in, is_routed_as, IccReg, Iar0, Iar1, Key, Private, Spi, Lpi, GuestShape, IsShape, has_interrupt, interrupt_count, intid_of, key_at, key_of}
use Rattle.floor_calls.specs.Registers.{CpuRec, Candidate, is_deliverable, is_before, first_of, taken_by, deactivated_by}
use Rattle.floor_calls.proofs.GicPrio.AccessLemmas.{taken_first}
use Rattle.floor_calls.proofs.GicOpen.KeyLemmas.{key_at_there}
use Rattle.ideal_guest.specs.declared.guest.IdealGuest.{IdealGuest}
use Rattle.ideal_guest.specs.Ideal.{irq_at, cpu_at, candidate_at, candidates, is_named}
use Rattle.ideal_guest.specs.Sound.{IsSound}
use Rattle.ideal_guest.proofs.KeyLemmas.{named_is}

-- the interrupt is there and deliverable, and the candidate is of its INTID, priority and group
pub record IsCandidateOf (guest : IdealGuest) (vcpu : ℕ) (found : Candidate) (key : Key) : Type 0 where
  pub there : IsTrue (has_interrupt guest.shape key)
  pub deliverable : is_deliverable key (irq_at guest key) vcpu (cpu_at guest vcpu) guest.shape ≡ true
  pub id : found.id ≡ intid_of key
  pub prio : found.prio ≡ (irq_at guest key).prio
  pub group : found.group ≡ (irq_at guest key).group

-- what stands at a place
candidate_was : (guest : IdealGuest) (vcpu place : ℕ) (found : Candidate) → IsShape guest.shape → place < interrupt_count guest.shape → candidate_at guest vcpu place ≡ Some found → IsCandidateOf guest vcpu found (key_at guest.shape place)
candidate_was guest vcpu place found shape within h =
    let key = key_at guest.shape place in
    let one : Candidate = record { id = intid_of key; prio = (irq_at guest key).prio; group = (irq_at guest key).group } in
    let is = cond_some (is_deliverable key (irq_at guest key) vcpu (cpu_at guest vcpu) guest.shape) one found h in
    record {
      there = key_at_there guest.shape place shape within;
      deliverable = is.0;
      id = ap (λ c. c.id) (sym is.1);
      prio = ap (λ c. c.prio) (sym is.1);
      group = ap (λ c. c.group) (sym is.1);
    }

-- a number at which something is found
pub record FoundAt {X : Type 0} (f : ℕ → Option X) (limit : ℕ) (x : X) : Type 0 where
  pub place : ℕ
  pub within : place < limit
  pub is : f place ≡ Some x

-- what a search finds was found at a number
found_at : {X : Type 0} (f : ℕ → Option X) (p : X → Bool) (a n limit : ℕ) (x : X) → a + n ≡ limit → find p (filter_map f (range_with_len a n)) ≡ Some x → FoundAt f limit x
found_at f p a zero limit x e h = absurd (none-some x h)
found_at {X = X} f p a (suc n) limit x e h = head (f a) refl (λ g. found_at f p (a + 1) n limit x (omega (arith, e)) g) h
  where
    more : List X
    more = filter_map f (range_with_len (a + 1) n)

    head : (o : Option X) → f a ≡ o → (find p more ≡ Some x → FoundAt f limit x) → find p (cons_option o more) ≡ Some x → FoundAt f limit x
    head None i rest g = rest g
    head (Some y) i rest g =
        elim (p y) as (λ b. cond b (Some y) (find p more) ≡ Some x → FoundAt f limit x) [
          | true ↦ (λ k. record { place = a; within = omega (arith, e); is = cc })
          | false ↦ rest
        ] g

-- what holds of each that is found holds of all
all_found : {X : Type 0} (P : X → Type 0) (f : ℕ → Option X) (a n limit : ℕ) → a + n ≡ limit → ((i : ℕ) (x : X) → i < limit → f i ≡ Some x → P x) → All P (filter_map f (range_with_len a n))
all_found P f a zero limit e each = λ k d l. absurd (omega (arith, l))
all_found {X = X} P f a (suc n) limit e each = head (f a) refl (all_found P f (a + 1) n limit (omega (arith, e)) each)
  where
    head : (o : Option X) → f a ≡ o → All P (filter_map f (range_with_len (a + 1) n)) → All P (cons_option o (filter_map f (range_with_len (a + 1) n)))
    head None i rest = rest
    head (Some x) i rest = All-cons P x (filter_map f (range_with_len (a + 1) n)) (each a x (omega (arith, e)) i) rest

-- no interrupt has the INTID 1023
not_spurious : (shape : GuestShape) (key : Key) → IsShape shape → IsTrue (has_interrupt shape key) → intid_of key ≢ 1023
not_spurious shape (Private vcpu id) is h e = grind (arith, common_steps, h, e, is.spis)
not_spurious shape (Spi id) is h e = grind (arith, common_steps, h, e, is.spis)
not_spurious shape (Lpi id) is h e = grind (arith, common_steps, h, e, is.spis)

pub candidates_named : (guest : IdealGuest) (vcpu : ℕ) → IsShape guest.shape → All (λ one. one.id ≢ 1023) (candidates guest vcpu)
candidates_named guest vcpu shape =
    all_found (λ one. one.id ≢ 1023) (candidate_at guest vcpu) 0 (interrupt_count guest.shape) (interrupt_count guest.shape) (omega arith)
    (λ place one within is. let was = candidate_was guest vcpu place one shape within is in λ e. not_spurious guest.shape (key_at guest.shape place) shape was.there (sym was.id ∙ e))

-- what is deliverable to a vCPU is for it
for_vcpu : (key : Key) (irq : Irq) (vcpu : ℕ) (cpu : CpuRec) (shape : GuestShape) → is_deliverable key irq vcpu cpu shape ≡ true → is_number vcpu (target_in irq.route shape) ≡ true
for_vcpu key irq vcpu cpu shape h = grind (arith, common_steps, h)

pub deliverable_pending : (key : Key) (irq : Irq) (vcpu : ℕ) (cpu : CpuRec) (shape : GuestShape) → is_deliverable key irq vcpu cpu shape ≡ true → is_pending irq ≡ true
deliverable_pending key irq vcpu cpu shape h = grind (arith, common_steps, h)

pub deliverable_inactive : (key : Key) (irq : Irq) (vcpu : ℕ) (cpu : CpuRec) (shape : GuestShape) → is_deliverable key irq vcpu cpu shape ≡ true → irq.act_by ≡ None
deliverable_inactive key irq vcpu cpu shape h = none irq.act_by (grind (arith, common_steps, h))
  where
    none : (o : Option ℕ) → is_none o ≡ true → o ≡ None
    none None e = refl
    none (Some n) e = absurd (cc)

number_is : (n : ℕ) (o : Option ℕ) → is_number n o ≡ true → o ≡ Some n
number_is n None e = absurd (cc)
number_is n (Some m) e = ap Some (grind (arith, common_steps, e))

-- a private interrupt that is for a vCPU is its own
own : (vcpu v id : ℕ) (shape : GuestShape) (route : Route) → is_routed_as shape (Private v id) route ≡ true → is_number vcpu (target_in route shape) ≡ true → vcpu ≡ v
own vcpu v id shape (Affinity affinity) r t = absurd (cc)
own vcpu v id shape (Target target) r t = same_Some vcpu v (sym (number_is vcpu target t) ∙ number_is v target r)

-- so its INTID names it there
key_of_own : (v id : ℕ) (shape : GuestShape) → IsTrue (has_interrupt shape (Private v id)) → key_of id v shape ≡ Some (Private v id)
key_of_own v id shape h = grind (arith, common_steps, h)

key_of_spi : (vcpu id : ℕ) (shape : GuestShape) → IsTrue (has_interrupt shape (Spi id)) → key_of id vcpu shape ≡ Some (Spi id)
key_of_spi vcpu id shape h = grind (arith, common_steps, h)

key_of_lpi : (vcpu id : ℕ) (shape : GuestShape) → IsShape shape → IsTrue (has_interrupt shape (Lpi id)) → key_of id vcpu shape ≡ Some (Lpi id)
key_of_lpi vcpu id shape is h = grind (arith, common_steps, h, is.spis, is.espis)

named_if_for : (guest : IdealGuest) (vcpu : ℕ) (key : Key) → IsSound guest → IsTrue (has_interrupt guest.shape key) → is_number vcpu (target_in (irq_at guest key).route guest.shape) ≡ true → key_of (intid_of key) vcpu guest.shape ≡ Some key
named_if_for guest vcpu (Private v id) sound there target =
    let key = Private v id in
    let same : vcpu ≡ v = own vcpu v id guest.shape (irq_at guest key).route (sound.records key there).valid.route target in
    ap (λ n. key_of id n guest.shape) same ∙ key_of_own v id guest.shape there
named_if_for guest vcpu (Spi id) sound there target = key_of_spi vcpu id guest.shape there
named_if_for guest vcpu (Lpi id) sound there target = key_of_lpi vcpu id guest.shape sound.shape there

-- the first of all candidates is of an interrupt, which its INTID names
pub record WasFirst (guest : IdealGuest) (vcpu : ℕ) (found : Candidate) : Type 0 where
  pub key : Key
  pub of : IsCandidateOf guest vcpu found key
  pub named : key_of found.id vcpu guest.shape ≡ Some key

pub first_was : (guest : IdealGuest) (vcpu : ℕ) (found : Candidate) → IsSound guest → first_of (candidates guest vcpu) ≡ Some found → WasFirst guest vcpu found
first_was guest vcpu found sound h =
    let count = interrupt_count guest.shape in
    let at : FoundAt (candidate_at guest vcpu) count found = found_at (candidate_at guest vcpu) (λ one. not (list_any (λ other. is_before other one) (candidates guest vcpu))) 0 count count found (omega arith) h in
    let key = key_at guest.shape at.place in
    let was = candidate_was guest vcpu at.place found sound.shape at.within at.is in
    record {
      key = key;
      of = was;
      named = ap (λ id. key_of id vcpu guest.shape) was.id ∙ named_if_for guest vcpu key sound was.there (for_vcpu key (irq_at guest key) vcpu (cpu_at guest vcpu) guest.shape was.deliverable);
    }

pub taken_was : (reg : IccReg) (write : Option ℕ) (guest : IdealGuest) (vcpu : ℕ) (found : Candidate) → IsSound guest → taken_by reg write (cpu_at guest vcpu) (candidates guest vcpu) ≡ Some found → WasFirst guest vcpu found
taken_was reg write guest vcpu found sound h = first_was guest vcpu found sound (taken_first reg write (cpu_at guest vcpu) (candidates guest vcpu) found h)

-- an access that acknowledges deactivates nothing
pub taken_names_none : (reg : IccReg) (write : Option ℕ) (cpu : CpuRec) (among : List Candidate) (found : Candidate) → taken_by reg write cpu among ≡ Some found → deactivated_by reg write cpu ≡ None
taken_names_none Iar0 None cpu among found h = refl
taken_names_none Iar1 None cpu among found h = refl
taken_names_none reg write cpu among found h = absurd (none-some found h)

-- what an access acknowledges
pub record WasTaken (reg : IccReg) (write : Option ℕ) (guest : IdealGuest) (vcpu : ℕ) (key : Key) : Type 0 where
  pub found : Candidate
  pub taken : taken_by reg write (cpu_at guest vcpu) (candidates guest vcpu) ≡ Some found
  pub named : key_of found.id vcpu guest.shape ≡ Some key

pub taken_named : (reg : IccReg) (write : Option ℕ) (guest : IdealGuest) (vcpu : ℕ) (key : Key) → option_map_or (λ found. is_named found.id vcpu guest.shape key) (taken_by reg write (cpu_at guest vcpu) (candidates guest vcpu)) false ≡ true → WasTaken reg write guest vcpu key
taken_named reg write guest vcpu key h = of (taken_by reg write (cpu_at guest vcpu) (candidates guest vcpu)) refl h
  where
    of : (o : Option Candidate) → taken_by reg write (cpu_at guest vcpu) (candidates guest vcpu) ≡ o → option_map_or (λ found. is_named found.id vcpu guest.shape key) o false ≡ true → WasTaken reg write guest vcpu key
    of None e g = absurd (cc)
    of (Some found) e g = record { found = found; taken = e; named = named_is found.id vcpu guest.shape key g }

-- it was a candidate
pub taken_of : (reg : IccReg) (write : Option ℕ) (guest : IdealGuest) (vcpu : ℕ) (key : Key) → IsSound guest → (was : WasTaken reg write guest vcpu key) → IsCandidateOf guest vcpu was.found key
taken_of reg write guest vcpu key sound was =
    let first = taken_was reg write guest vcpu was.found sound was.taken in
    subst (IsCandidateOf guest vcpu was.found) (same_Some first.key key (sym first.named ∙ was.named)) first.of
