-- What is of each interrupt once all that stands at one vCPU's interface is taken back.
use Rattle.std.proofs.Common.{◌≡◌, ℕ, ◌<◌, not, inl, inr, Bool, true, false, IsTrue, List, [], ◌∷◌, find, fold, Option, option_map, Some, None, length, refl, sym, ap, ◌∙◌, subst}
use Rattle.std.specs.List.{list_any}
use Rattle.std.specs.Option.{option_map_or}
use Rattle.std.proofs.lemmas.Bool.{cases_eq}
use Rattle.law_serial_is_eager.specs.Words.{Key, GuestShape, has_interrupt}
use Rattle.law_serial_is_eager.specs.Calls.{Entry, left}
use Rattle.law_serial_is_eager.specs.Histories.{IdealGuest, irq_at, cpu_at, after_leave, emptied, without, Ideal, Standing, standing_at, is_of, is_home, with_irq, with_standing}
use Rattle.law_serial_is_eager.proofs.LawHistories.StandLemmas.{of_key, standing_of_key, any_nowhere, any_somewhere, none_filtered, put_other}
use Rattle.law_serial_is_eager.proofs.LawHomeCommutes.HomeLemmas.{emptied_gone, leave_all, rest_all, with_irqs}
use Rattle.law_serial_is_eager.proofs.LawHomeCommutes.SpotLemmas.{Spot, back, IsSpot, IsThere, IsTidy, moved_of}
use Rattle.law_serial_is_eager.proofs.LawAccessesShowHome.ListLemmas.{none_passes}

-- what leaves an interface leaves what stands at others
leave_other : (state : Ideal) (key other : Key) (vcpu seat : ℕ) → (seat ≡ vcpu → ⊥) → of_key (after_leave other vcpu state) key seat ≡ of_key state key seat
leave_other state key other vcpu seat differ = of (find (is_of other) (standing_at state vcpu))
  where
    of : (o : Option Standing) → of_key (option_map_or (λ moved. with_standing (with_irq state other (left vcpu moved)) vcpu (without other (standing_at state vcpu))) (option_map (moved_of state other) o) state) key seat ≡ of_key state key seat
    of None = refl
    of (Some one) = put_other state key vcpu (without other (standing_at state vcpu)) seat differ

other_all : (xs : List Standing) (state : Ideal) (key : Key) (vcpu seat : ℕ) → (seat ≡ vcpu → ⊥) → of_key (fold (λ now standing. after_leave standing.key vcpu now) state xs) key seat ≡ of_key state key seat
other_all [] state key vcpu seat differ = refl
other_all (x ∷ xs) state key vcpu seat differ = other_all xs (after_leave x.key vcpu state) key vcpu seat differ ∙ leave_other state key x.key vcpu seat differ

module _ (shape : GuestShape) (state : Ideal) (tidy : IsTidy shape state) (vcpu : ℕ) (few : vcpu < shape.vcpus) where
  in_seats : vcpu < length state.at
  in_seats = subst (λ n. vcpu < n) (sym tidy.seats) few

  -- all but records and what stands there is as before
  rest_is : with_irqs (emptied state vcpu).guest [] ≡ with_irqs state.guest []
  rest_is = (rest_all (standing_at state vcpu) state vcpu).rest

  pub shape_back : (emptied state vcpu).guest.shape ≡ shape
  shape_back = ap (λ (g : IdealGuest). g.shape) rest_is ∙ tidy.shape_is

  pub cpu_back : cpu_at (emptied state vcpu).guest vcpu ≡ cpu_at state.guest vcpu
  cpu_back = ap (λ g. cpu_at g vcpu) rest_is

  -- an interrupt is at no interface, stood at this one, or stands at another's
  pub data Place (key : Key) : Type 0 where
    nowhere : is_home state key ≡ true → is_home (emptied state vcpu) key ≡ true → irq_at (emptied state vcpu).guest key ≡ irq_at state.guest key → Place key
    here : (entry : Entry) → IsThere shape key (of_key state key) (record { vcpu = vcpu; entry = entry }) → is_home (emptied state vcpu) key ≡ true
        → irq_at (emptied state vcpu).guest key ≡ left vcpu (record { irq = irq_at state.guest key; entry = entry }) → Place key
    away : is_home (emptied state vcpu) key ≡ false → Place key

  home_so : (now : Ideal) (key : Key) → ((v : ℕ) → of_key now key v ≡ []) → is_home now key ≡ true
  home_so now key none = ap not (any_nowhere (is_of key) now.at (λ n. none_passes (is_of key) (standing_at now n) (none n)))

  home_not : (now : Ideal) (key : Key) (w : ℕ) (standing : Standing) → of_key now key w ≡ standing ∷ [] → is_home now key ≡ false
  home_not now key w standing at = ap not (any_somewhere (is_of key) now.at w (not_none (list_any (is_of key) (standing_at now w)) refl))
    where
      not_none : (b : Bool) → list_any (is_of key) (standing_at now w) ≡ b → b ≡ true
      not_none true e = refl
      not_none false e = absurd (let none = none_filtered (is_of key) (standing_at now w) e in cc)

  -- nothing of one that stood at no other is left
  none_back : (key : Key) → ((v : ℕ) → (v ≡ vcpu → ⊥) → of_key state key v ≡ []) → (v : ℕ) → of_key (emptied state vcpu) key v ≡ []
  none_back key none v = elim (cases_eq v vcpu) [
    | inl e ↦ subst (λ n. of_key (emptied state vcpu) key n ≡ []) (sym e) (emptied_gone key vcpu state in_seats)
    | inr differ ↦ other_all (standing_at state vcpu) state key vcpu v differ ∙ none v differ
  ]

  -- its record is as taken back
  irq_back : (key : Key) → IsTrue (has_interrupt shape key) → (spot : Option Spot) → IsSpot shape key (of_key state key) spot → ((v : ℕ) → of_key (emptied state vcpu) key v ≡ []) → irq_at (emptied state vcpu).guest key ≡ back spot (irq_at state.guest key)
  irq_back key there spot is none =
      let end = leave_all shape key there (back spot (irq_at state.guest key)) (standing_at state vcpu) state vcpu few (record { tidy = tidy; spot = spot; is = is; irq_is = refl }) in of end.spot end.is end.irq_is
    where
      of : (o : Option Spot) → IsSpot shape key (of_key (emptied state vcpu) key) o → back o (irq_at (emptied state vcpu).guest key) ≡ back spot (irq_at state.guest key) → irq_at (emptied state vcpu).guest key ≡ back spot (irq_at state.guest key)
      of None at e = e
      of (Some one) at e = absurd (let gone = none one.vcpu in let some = at.here in cc)

  -- one that stood there is home with what the interface had of it
  pub here_is : (key : Key) (entry : Entry) → IsThere shape key (of_key state key) (record { vcpu = vcpu; entry = entry }) → (is_home (emptied state vcpu) key ≡ true) × (irq_at (emptied state vcpu).guest key ≡ left vcpu (record { irq = irq_at state.guest key; entry = entry }))
  here_is key entry is =
      let none = none_back key (λ v differ. is.elsewhere v differ) in (home_so (emptied state vcpu) key none, irq_back key is.there (Some (record { vcpu = vcpu; entry = entry })) is none)

  pub place_is : (key : Key) → IsTrue (has_interrupt shape key) → Place key
  place_is key there = of (tidy.placed key).spot (tidy.placed key).is
    where
      of : (spot : Option Spot) → IsSpot shape key (of_key state key) spot → Place key
      of None is = let none = none_back key (λ v differ. is v) in nowhere (home_so state key is) (home_so (emptied state vcpu) key none) (irq_back key there None is none)
      of (Some one) is = elim (cases_eq one.vcpu vcpu) [
        | inl e ↦
            (let at : IsThere shape key (of_key state key) (record { vcpu = vcpu; entry = one.entry }) = subst (λ v. IsThere shape key (of_key state key) (record { vcpu = v; entry = one.entry })) e is in
            let both = here_is key one.entry at in here one.entry at both.0 both.1)
        | inr differ ↦ away (home_not (emptied state vcpu) key one.vcpu (standing_of_key key one.entry) (other_all (standing_at state vcpu) state key vcpu one.vcpu differ ∙ is.here))
      ]
