-- One interrupt at the interface of a vCPU, and none elsewhere.
use Rattle.std.proofs.Common.{◌≡◌, ℕ, ◌<◌, zero, suc, Bool, true, false, not, ◌||◌, cond, IsTrue, List, [], ◌∷◌, ◌++◌, map, replicate, find, Option, option_map, Some, None, refl, sym, ap, ◌∙◌, slice_set, slice_index_or, arith}
use Rattle.std.specs.List.{list_any}
use Rattle.std.specs.Option.{option_map_or}
use Rattle.std.proofs.lemmas.List.{get_or-set_same, set-set, length-replicate, set-get_or}
use Rattle.floor_histories.specs.Words.{IccReg, Key, GuestShape, has_interrupt, is_same_key, place_of, Irq}
use Rattle.floor_histories.proofs.GicBase.KeyLemmas.{same_itself}
use Rattle.floor_histories.specs.Calls.{irq_in, with_irq_in, opening_irq, Entry, Moved, reached, left}
use Rattle.floor_histories.specs.Registers.{InterfaceState, interface_after}
use Rattle.floor_histories.specs.Histories.{IdealGuest, irq_at, cpu_at, with_cpu, changed_irq, Ideal, Standing, standing_at, is_of, moved_at, is_home, interface_at, shown_at, after_reach, after_leave, standing_of, without}
use Rattle.floor_histories.specs.GicHistory.Moves.{after_access}
use Rattle.law_eager_is_history.specs.Moments.{settled}

-- a guest with something at the interface of one of so many vCPUs, and nothing at the others
abbrev pub standing : ℕ → ℕ → IdealGuest → List Standing → Ideal
standing n vcpu guest here = record { guest = guest; at = slice_set (replicate n []) vcpu here; spreads = None; has_its = None }

pub none_standing : (n vcpu : ℕ) (guest : IdealGuest) → standing n vcpu guest [] ≡ record { guest = guest; at = replicate n []; spreads = None; has_its = None }
none_standing n vcpu guest = ap (λ at. let s : Ideal = record { guest = guest; at = at; spreads = None; has_its = None } in s) (of n vcpu)
  where
    of : (n vcpu : ℕ) → slice_set {A = List Standing} (replicate n []) vcpu [] ≡ replicate n []
    of zero vcpu = refl
    of (suc n) zero = refl
    of (suc n) (suc vcpu) = ap (λ xs. [] ∷ xs) (of n vcpu)

pub nothing_at : (guest : IdealGuest) (vcpu : ℕ) → standing_at (settled guest) vcpu ≡ []
nothing_at guest vcpu = of guest.shape.vcpus vcpu
  where
    of : (n vcpu : ℕ) → slice_index_or {A = List Standing} (replicate n []) vcpu [] ≡ []
    of zero vcpu = refl
    of (suc n) zero = refl
    of (suc n) (suc vcpu) = of n vcpu

module _ (n vcpu : ℕ) (there : vcpu < n) where
  pub here_at : (guest : IdealGuest) (here : List Standing) → standing_at (standing n vcpu guest here) vcpu ≡ here
  here_at guest here = get_or-set_same (replicate n []) vcpu here [] (omega (arith, there, length-replicate {A = List Standing} n []))

  pub interface_is : (guest : IdealGuest) (here : List Standing) → interface_at (standing n vcpu guest here) vcpu ≡ record { cpu = cpu_at guest vcpu; at = map (shown_at (standing n vcpu guest here)) here }
  interface_is guest here = ap (λ xs. let i : InterfaceState = record { cpu = cpu_at guest vcpu; at = map (shown_at (standing n vcpu guest here)) xs } in i) (here_at guest here)

  again : (guest : IdealGuest) (here next : List Standing) → (let s : Ideal = record { guest = guest; at = slice_set (slice_set (replicate n []) vcpu here) vcpu next; spreads = None; has_its = None } in s) ≡ standing n vcpu guest next
  again guest here next = ap (λ at. let s : Ideal = record { guest = guest; at = at; spreads = None; has_its = None } in s) (set-set (replicate n []) vcpu here next)

  pub access_is : (guest : IdealGuest) (here : List Standing) (reg : IccReg) (write : Option ℕ) (interface : InterfaceState) → interface_at (standing n vcpu guest here) vcpu ≡ interface
      → after_access vcpu reg write (standing n vcpu guest here) ≡ standing n vcpu (with_cpu guest vcpu (interface_after reg write interface).cpu) (map standing_of (interface_after reg write interface).at)
  access_is guest here reg write interface e =
      ap (λ (i : InterfaceState). let s : Ideal = record { guest = with_cpu guest vcpu (interface_after reg write i).cpu; at = slice_set (slice_set (replicate n []) vcpu here) vcpu (map standing_of (interface_after reg write i).at); spreads = None; has_its = None } in s) e
      ∙ again (with_cpu guest vcpu (interface_after reg write interface).cpu) here (map standing_of (interface_after reg write interface).at)

  pub moved_here : (guest : IdealGuest) (key : Key) (entry : Entry) → moved_at (standing n vcpu guest ((record { key = key; entry = entry }) ∷ [])) vcpu key ≡ Some (record { irq = irq_at guest key; entry = entry })
  moved_here guest key entry =
      let one : Standing = record { key = key; entry = entry } in
      let moved : Standing → Moved = λ s. record { irq = irq_at guest key; entry = s.entry } in
      ap (λ xs. option_map moved (find (is_of key) xs)) (here_at guest (one ∷ []))
      ∙ ap (λ b. option_map moved (cond b (Some one) None)) (same_itself key)

  pub leave_is : (guest : IdealGuest) (key : Key) (entry : Entry) → after_leave key vcpu (standing n vcpu guest ((record { key = key; entry = entry }) ∷ [])) ≡ standing n vcpu (changed_irq key (λ before. left vcpu (record { irq = before; entry = entry })) guest) []
  leave_is guest key entry =
      let one : Standing = record { key = key; entry = entry } in
      let state = standing n vcpu guest (one ∷ []) in
      let irq : Irq = left vcpu (record { irq = irq_at guest key; entry = entry }) in
      let next = changed_irq key (λ before. irq) guest in
      ap (λ o. option_map_or (λ (moved : Moved). let s : Ideal = record { guest = changed_irq key (λ before. left vcpu moved) guest; at = slice_set (slice_set (replicate n []) vcpu (one ∷ [])) vcpu (without key (standing_at state vcpu)); spreads = None; has_its = None } in s) o state) (moved_here guest key entry)
      ∙ ap (λ xs. let s : Ideal = record { guest = next; at = slice_set (slice_set (replicate n []) vcpu (one ∷ [])) vcpu (without key xs); spreads = None; has_its = None } in s) (here_at guest (one ∷ []))
      ∙ ap (λ b. let s : Ideal = record { guest = next; at = slice_set (slice_set (replicate n []) vcpu (one ∷ [])) vcpu (cond (not b) (one ∷ []) []); spreads = None; has_its = None } in s) (same_itself key)
      ∙ again next (one ∷ []) []

-- an interrupt gets to an interface where none stands
pub reach_is : (guest : IdealGuest) (vcpu : ℕ) (key : Key) → after_reach key vcpu (settled guest) ≡ standing guest.shape.vcpus vcpu (changed_irq key (λ before. (reached before).irq) guest) ((record { key = key; entry = (reached (irq_at guest key)).entry }) ∷ [])
reach_is guest vcpu key =
    let one : Standing = record { key = key; entry = (reached (irq_at guest key)).entry } in
    ap (λ xs. let s : Ideal = record { guest = changed_irq key (λ before. (reached before).irq) guest; at = slice_set (replicate guest.shape.vcpus []) vcpu (xs ++ one ∷ []); spreads = None; has_its = None } in s) (nothing_at guest vcpu)

-- which interrupts are home then
pub only_here : (n vcpu : ℕ) (guest : IdealGuest) (key other : Key) (entry : Entry) → IsTrue (is_home (standing n vcpu guest ((record { key = key; entry = entry }) ∷ [])) other) → vcpu < n → is_same_key key other ≡ false
only_here n vcpu guest key other entry home there = of (is_same_key key other) refl (any n vcpu there)
  where
    one : Standing
    one = record { key = key; entry = entry }

    any : (n vcpu : ℕ) → vcpu < n → is_same_key key other ≡ true → list_any (list_any (is_of other)) (slice_set (replicate n []) vcpu ((record { key = key; entry = entry }) ∷ [])) ≡ true
    any zero vcpu h e = absurd (omega (arith, h))
    any (suc n) zero h e = ap (λ b. (b || false) || list_any (list_any (is_of other)) (replicate n [])) e
    any (suc n) (suc vcpu) h e = any n vcpu (omega (arith, h)) e

    of : (b : Bool) → is_same_key key other ≡ b → (is_same_key key other ≡ true → list_any (list_any (is_of other)) (slice_set (replicate n []) vcpu ((record { key = key; entry = entry }) ∷ [])) ≡ true) → b ≡ false
    of true e f = let bad : not true ≡ true = ap not (sym (f e)) ∙ home in absurd (cc)
    of false e f = refl

-- Records.

-- a record that is written twice, and one that is written as it is
pub twice : (shape : GuestShape) (key : Key) (one two : Irq) (irqs : List Irq) → with_irq_in shape key two (with_irq_in shape key one irqs) ≡ with_irq_in shape key two irqs
twice shape key one two irqs = of (has_interrupt shape key)
  where
    of : (b : Bool) → cond b (slice_set (cond b (slice_set irqs (place_of shape key) one) irqs) (place_of shape key) two) (cond b (slice_set irqs (place_of shape key) one) irqs) ≡ cond b (slice_set irqs (place_of shape key) two) irqs
    of true = set-set irqs (place_of shape key) one two
    of false = refl

pub as_it_is : (shape : GuestShape) (key : Key) (irqs : List Irq) → with_irq_in shape key (irq_in shape irqs key) irqs ≡ irqs
as_it_is shape key irqs = of (has_interrupt shape key)
  where
    of : (b : Bool) → cond b (slice_set irqs (place_of shape key) (cond b (slice_index_or irqs (place_of shape key) (opening_irq false key)) (opening_irq false key))) irqs ≡ irqs
    of true = set-get_or irqs (place_of shape key) (opening_irq false key)
    of false = refl
