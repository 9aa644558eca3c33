-- Who stands in a list register, and who does not matter.
use Rattle.std.proofs.Common.{◌≡◌, ◌-◌, ℕ, Bool, true, false, not, ◌&&◌, cond, Some, List, [], ◌∷◌, ◌++◌, length, take, drop, Contains, inl, inr, refl, sym, ap, ◌∙◌, subst}
use Rattle.std.specs.Prelude.{map, filter, if◌then◌else◌, IsTrue}
use Rattle.std.proofs.lemmas.List.{take-append-drop}
use Rattle.std.proofs.lemmas.List.Elements.{Contains-append_left, Contains-append_cases, filter-append}
use Rattle.std.proofs.lemmas.List.Sorted.{IsPermutation-sym, Contains-permutation}
use Rattle.gic_ich.specs.Words.{GuestShape}
use Rattle.gic_ich.specs.GicLr.declared.entry.LrState.TheVariants.{Pending, Active, Both}
use Rattle.gic_ich.specs.GicLr.Entry.{state_has_active}
use Rattle.gic_ich.specs.GicPrio.declared.cpu.CpuRec.{CpuRec}
use Rattle.vcpu_refill.specs.declared.offer.Offer.{Offer}
use Rattle.vcpu_refill.specs.declared.fill.Choice.{Choice}
use Rattle.vcpu_refill.specs.Order.{ordered, is_active_by, is_deliverable_to, is_deliverable_once_inactive, active_among, deliverable_among}
use Rattle.vcpu_refill.specs.Plan.{is_cut, active_choice, active_state, pending_choice, plan_from, plan}
use Rattle.vcpu_refill.specs.Laws.{IsEarned, PlannedIsEarned, OthersDoNotMatter, offer_of}
use Rattle.vcpu_refill.proofs.ElementLemmas.{Contains-here, Contains-there, Contains-cases, Contains-nothing, map_cases}
use Rattle.vcpu_refill.proofs.SortLemmas.{ordered_sorts}
use Rattle.vcpu_refill.proofs.LawLemmas.{chosen_from}

-- what passes a test is of the list, and passes it
pub from_filter : {X : Type 0} (p : X → Bool) (xs : List X) (y : X) → Contains (filter p xs) y → Contains xs y × (p y ≡ true)
from_filter p [] y has = absurd (Contains-nothing y has)
from_filter {X} p (x ∷ xs) y has = by_test (p x) refl (from_filter p xs y) has
  where
    by_test : (b : Bool) → p x ≡ b → (Contains (filter p xs) y → Contains xs y × (p y ≡ true)) → Contains (cond b (x ∷ filter p xs) (filter p xs)) y → Contains (x ∷ xs) y × (p y ≡ true)
    by_test true e rest has =
        elim (Contains-cases x y (filter p xs) has) [
          | inl is ↦ (subst (Contains (x ∷ xs)) is (Contains-here x xs), sym (ap p is) ∙ e)
          | inr later ↦ (Contains-there x y xs (rest later).0, (rest later).1)
        ]
    by_test false e rest has = (Contains-there x y xs (rest has).0, (rest has).1)

pub from_ordered : (p : Offer → Bool) (offers : List Offer) (y : Offer) → Contains (ordered (filter p offers)) y → Contains offers y × (p y ≡ true)
from_ordered p offers y has =
    from_filter p offers y (Contains-permutation (ordered (filter p offers)) (filter p offers) y (IsPermutation-sym (filter p offers) (ordered (filter p offers)) (ordered_sorts (filter p offers)).same) has)

pub from_take : (n : ℕ) (xs : List Offer) (y : Offer) → Contains (take n xs) y → Contains xs y
from_take n xs y has = subst (λ zs. Contains zs y) (take-append-drop n xs) (Contains-append_left (take n xs) (drop n xs) y has)

-- an active interrupt has State 2 or 3
active_has : (cut : Bool) (vcpu : ℕ) (cpu : CpuRec) (shape : GuestShape) (offer : Offer) → IsTrue (state_has_active (active_state cut vcpu cpu shape offer))
active_has cut vcpu cpu shape offer = by_test (not cut && is_deliverable_once_inactive vcpu cpu shape offer)
  where
    by_test : (b : Bool) → IsTrue (state_has_active (if b then Both else Active))
    by_test true = refl
    by_test false = refl

pub earned : PlannedIsEarned
earned offers vcpu cpu shape n chosen has =
    let active = active_among offers vcpu in
    let deliverable = deliverable_among offers vcpu cpu shape in
    let cut = is_cut active deliverable n in
    let mode = chosen_from active deliverable vcpu cpu shape n chosen has in
    elim (Contains-append_cases (map (active_choice cut vcpu cpu shape) active) (map pending_choice (take (n - length active) deliverable)) chosen mode.1) [
      | inl first ↦
          let found = map_cases (active_choice cut vcpu cpu shape) active chosen first in
          let from = from_ordered (is_active_by vcpu) offers found.0 found.1 in
          subst (IsEarned offers vcpu cpu shape) found.2 (record { offered = from.0; whole = refl; state = inr (active_has cut vcpu cpu shape found.0, from.1) })
      | inr rest ↦
          let found = map_cases pending_choice (take (n - length active) deliverable) chosen rest in
          let from = from_ordered (is_deliverable_to vcpu cpu shape) offers found.0 (from_take (n - length active) deliverable found.0 found.1) in
          subst (IsEarned offers vcpu cpu shape) found.2 (record { offered = from.0; whole = refl; state = inl (refl, from.1) })
    ]

-- what stands in a list register with State 3 would be deliverable, were it not active
pub both_deliverable : (offers : List Offer) (vcpu : ℕ) (cpu : CpuRec) (shape : GuestShape) (n : ℕ) (chosen : Choice) → Contains (plan offers vcpu cpu shape n).choice (Some chosen) → chosen.entry.state ≡ Both → IsTrue (is_deliverable_once_inactive vcpu cpu shape (offer_of chosen))
both_deliverable offers vcpu cpu shape n chosen has both =
    let active = active_among offers vcpu in
    let deliverable = deliverable_among offers vcpu cpu shape in
    let cut = is_cut active deliverable n in
    let mode = chosen_from active deliverable vcpu cpu shape n chosen has in
    elim (Contains-append_cases (map (active_choice cut vcpu cpu shape) active) (map pending_choice (take (n - length active) deliverable)) chosen mode.1) [
      | inl first ↦
          let found = map_cases (active_choice cut vcpu cpu shape) active chosen first in
          let state = ap (λ choice. choice.entry.state) found.2 ∙ both in
          subst (λ offer. IsTrue (is_deliverable_once_inactive vcpu cpu shape offer)) (ap offer_of found.2) (by_test (not cut) (is_deliverable_once_inactive vcpu cpu shape found.0) state)
      | inr rest ↦
          let found = map_cases pending_choice (take (n - length active) deliverable) chosen rest in
          absurd (pending_both (ap (λ choice. choice.entry.state) found.2 ∙ both))
    ]
  where
    pending_both : Pending ≡ Both → ⊥
    pending_both e = cc

    by_test : (uncut once : Bool) → (if uncut && once then Both else Active) ≡ Both → IsTrue once
    by_test true true e = refl
    by_test true false e = absurd (cc)
    by_test false once e = absurd (cc)

-- nothing has State 3 where the plan is cut
pub both_uncut : (offers : List Offer) (vcpu : ℕ) (cpu : CpuRec) (shape : GuestShape) (n : ℕ) (chosen : Choice) → Contains (plan offers vcpu cpu shape n).choice (Some chosen) → chosen.entry.state ≡ Both → (plan offers vcpu cpu shape n).cut ≡ false
both_uncut offers vcpu cpu shape n chosen has both =
    let active = active_among offers vcpu in
    let deliverable = deliverable_among offers vcpu cpu shape in
    let cut = is_cut active deliverable n in
    let mode = chosen_from active deliverable vcpu cpu shape n chosen has in
    elim (Contains-append_cases (map (active_choice cut vcpu cpu shape) active) (map pending_choice (take (n - length active) deliverable)) chosen mode.1) [
      | inl first ↦
          let found = map_cases (active_choice cut vcpu cpu shape) active chosen first in
          by_test cut (is_deliverable_once_inactive vcpu cpu shape found.0) (ap (λ choice. choice.entry.state) found.2 ∙ both)
      | inr rest ↦
          let found = map_cases pending_choice (take (n - length active) deliverable) chosen rest in
          absurd (pending_both (ap (λ choice. choice.entry.state) found.2 ∙ both))
    ]
  where
    pending_both : Pending ≡ Both → ⊥
    pending_both e = cc

    by_test : (cut once : Bool) → (if not cut && once then Both else Active) ≡ Both → cut ≡ false
    by_test true once e = absurd (cc)
    by_test false once e = refl

-- what does not pass a test is not among those that do
skipped : (p : Offer → Bool) (before after : List Offer) (x : Offer) → p x ≡ false → filter p (before ++ x ∷ after) ≡ filter p (before ++ after)
skipped p before after x h = filter-append p before (x ∷ after) ∙ ap (λ rest. filter p before ++ rest) (dropped p after x h) ∙ sym (filter-append p before after)
  where
    dropped : (p : Offer → Bool) (after : List Offer) (x : Offer) → p x ≡ false → filter p (x ∷ after) ≡ filter p after
    dropped p after x h = rw h refl

pub others : OthersDoNotMatter
others before after offer vcpu cpu shape n is_not could_not =
    let active : active_among (before ++ offer ∷ after) vcpu ≡ active_among (before ++ after) vcpu = ap ordered (skipped (is_active_by vcpu) before after offer is_not) in
    let deliverable : deliverable_among (before ++ offer ∷ after) vcpu cpu shape ≡ deliverable_among (before ++ after) vcpu cpu shape = ap ordered (skipped (is_deliverable_to vcpu cpu shape) before after offer could_not) in
    ap (λ a. plan_from a (deliverable_among (before ++ offer ∷ after) vcpu cpu shape) vcpu cpu shape n) active
    ∙ ap (λ d. plan_from (active_among (before ++ after) vcpu) d vcpu cpu shape n) deliverable
