-- What every plan keeps.
use Rattle.std.proofs.Common.{◌≡◌, ◌≤◌, ◌+◌, ◌-◌, ℕ, zero, suc, nat_lt, Bool, true, false, not, ◌&&◌, List, [], ◌∷◌, ◌++◌, length, length-append, take, drop, Some, Contains, inl, inr, refl, sym, ap, ◌∙◌, subst, arith}
use Rattle.std.specs.Prelude.{map, min, filter, if◌then◌else◌}
use Rattle.std.proofs.lemmas.Bool.{and_parts, ltb-true}
use Rattle.std.proofs.lemmas.Grind.{common_steps}
use Rattle.std.proofs.lemmas.List.{length-map, length-take, take-append-drop, take_all}
use Rattle.std.proofs.lemmas.List.Elements.{Contains-append_left, Contains-append_right, Contains-append_cases}
use Rattle.gic_ich.specs.GicLr.declared.entry.LrState.TheVariants.{Pending, Active, Both}
use Rattle.gic_ich.specs.GicPrio.declared.cpu.CpuRec.{CpuRec}
use Rattle.gic_ich.specs.Words.{GuestShape}
use Rattle.vcpu_refill.specs.declared.offer.Offer.{Offer}
use Rattle.vcpu_refill.specs.declared.fill.Choice.{Choice}
use Rattle.vcpu_refill.specs.Order.{is_active_by, is_deliverable_to, is_deliverable_once_inactive, active_among, deliverable_among}
use Rattle.vcpu_refill.specs.Ranking.{in_places}
use Rattle.vcpu_refill.specs.Plan.{is_trapping, is_cut, active_choice, active_state, pending_choice, choices_of, plan, plan_from}
use Rattle.vcpu_refill.specs.Laws.{IsPlanned, ComesAfter, offer_of, EveryActiveIsPlanned, EveryDeliverableIsPlanned, LeftOutComesAfter, BothLeavesNothingOut}
use Rattle.vcpu_refill.proofs.ElementLemmas.{Contains-here, Contains-filter, Contains-map, Contains-nothing, map_cases, Contains-from_places, Contains-in_places}
use Rattle.vcpu_refill.proofs.OrderLemmas.{Contains-ordered, in_order, in_order-ordered, back_not_before, one_is_before}

-- out of trap mode the choices are not more than the list registers
pub choices_few : (active deliverable : List Offer) (cut : Bool) (vcpu : ℕ) (cpu : CpuRec) (shape : GuestShape) (n : ℕ) → is_trapping active deliverable n ≡ false → length (choices_of active deliverable cut vcpu cpu shape n) ≤ n
choices_few active deliverable cut vcpu cpu shape n is =
    let first = map (active_choice cut vcpu cpu shape) active in
    let rest = take (n - length active) deliverable in
    let fits : length active + min 1 (length deliverable) ≤ n = grind (arith, common_steps, is) in
    omega (arith, fits, length-append first (map pending_choice rest), length-map active (active_choice cut vcpu cpu shape), length-map rest pending_choice, length-take (n - length active) deliverable)

-- a choice stands in a list register
placed : (active deliverable : List Offer) (vcpu : ℕ) (cpu : CpuRec) (shape : GuestShape) (n : ℕ) (choice : Choice) → n ≤ 16 → is_trapping active deliverable n ≡ false → Contains (choices_of active deliverable (is_cut active deliverable n) vcpu cpu shape n) choice → IsPlanned (plan_from active deliverable vcpu cpu shape n) (offer_of choice)
placed active deliverable vcpu cpu shape n choice few untrapped has =
    let choices = choices_of active deliverable (is_cut active deliverable n) vcpu cpu shape n in
    record {
      choice = choice;
      among =
          subst (λ b. Contains (in_places (if b then [] else choices)) (Some choice)) (sym untrapped)
          (Contains-in_places choices choice (omega (arith, few, choices_few active deliverable (is_cut active deliverable n) vcpu cpu shape n untrapped)) has);
      is = refl;
    }

-- an active interrupt is among the choices
active_placed : (active deliverable : List Offer) (vcpu : ℕ) (cpu : CpuRec) (shape : GuestShape) (n : ℕ) (offer : Offer) → n ≤ 16 → is_trapping active deliverable n ≡ false → Contains active offer → IsPlanned (plan_from active deliverable vcpu cpu shape n) offer
active_placed active deliverable vcpu cpu shape n offer few untrapped has =
    let cut = is_cut active deliverable n in
    placed active deliverable vcpu cpu shape n (active_choice cut vcpu cpu shape offer) few untrapped
    (Contains-append_left (map (active_choice cut vcpu cpu shape) active) (map pending_choice (take (n - length active) deliverable)) (active_choice cut vcpu cpu shape offer)
    (Contains-map (active_choice cut vcpu cpu shape) active offer has))

-- so is one of the first deliverable ones
pending_placed : (active deliverable : List Offer) (vcpu : ℕ) (cpu : CpuRec) (shape : GuestShape) (n : ℕ) (offer : Offer) → n ≤ 16 → is_trapping active deliverable n ≡ false → Contains (take (n - length active) deliverable) offer → IsPlanned (plan_from active deliverable vcpu cpu shape n) offer
pending_placed active deliverable vcpu cpu shape n offer few untrapped has =
    let cut = is_cut active deliverable n in
    placed active deliverable vcpu cpu shape n (pending_choice offer) few untrapped
    (Contains-append_right (map (active_choice cut vcpu cpu shape) active) (map pending_choice (take (n - length active) deliverable)) (pending_choice offer)
    (Contains-map pending_choice (take (n - length active) deliverable) offer has))

pub every_active : EveryActiveIsPlanned
every_active offers vcpu cpu shape n offer few has is untrapped =
    active_placed (active_among offers vcpu) (deliverable_among offers vcpu cpu shape) vcpu cpu shape n offer few untrapped
    (Contains-ordered (filter (is_active_by vcpu) offers) offer (Contains-filter (is_active_by vcpu) offers offer is has))

pub every_deliverable : EveryDeliverableIsPlanned
every_deliverable offers vcpu cpu shape n offer few has is untrapped uncut =
    let active = active_among offers vcpu in
    let deliverable = deliverable_among offers vcpu cpu shape in
    let fits : length deliverable ≤ n - length active = all_fit active deliverable n untrapped uncut in
    pending_placed active deliverable vcpu cpu shape n offer few untrapped
    (subst (λ xs. Contains xs offer) (sym (take_all (n - length active) deliverable fits))
    (Contains-ordered (filter (is_deliverable_to vcpu cpu shape) offers) offer (Contains-filter (is_deliverable_to vcpu cpu shape) offers offer is has)))
  where
    all_fit : (active deliverable : List Offer) (n : ℕ) → is_trapping active deliverable n ≡ false → is_cut active deliverable n ≡ false → length deliverable ≤ n - length active
    all_fit active deliverable n untrapped uncut = grind (arith, common_steps, untrapped, uncut)

-- what stands in a list register is a choice, and nothing is in trap mode
pub chosen_from : (active deliverable : List Offer) (vcpu : ℕ) (cpu : CpuRec) (shape : GuestShape) (n : ℕ) (chosen : Choice) → Contains (plan_from active deliverable vcpu cpu shape n).choice (Some chosen) → (is_trapping active deliverable n ≡ false) × Contains (choices_of active deliverable (is_cut active deliverable n) vcpu cpu shape n) chosen
chosen_from active deliverable vcpu cpu shape n chosen has = by_mode (is_trapping active deliverable n) (Contains-from_places (if is_trapping active deliverable n then [] else choices_of active deliverable (is_cut active deliverable n) vcpu cpu shape n) chosen has)
  where
    by_mode : (b : Bool) → Contains (if b then [] else choices_of active deliverable (is_cut active deliverable n) vcpu cpu shape n) chosen → (b ≡ false) × Contains (choices_of active deliverable (is_cut active deliverable n) vcpu cpu shape n) chosen
    by_mode true has = absurd (Contains-nothing chosen has)
    by_mode false has = (refl, has)

-- an active interrupt never has State 1
active_not_pending : (cut : Bool) (vcpu : ℕ) (cpu : CpuRec) (shape : GuestShape) (offer : Offer) → active_state cut vcpu cpu shape offer ≡ Pending → ⊥
active_not_pending cut vcpu cpu shape offer h = by_test (not cut && is_deliverable_once_inactive vcpu cpu shape offer) h
  where
    by_test : (b : Bool) → (if b then Both else Active) ≡ Pending → ⊥
    by_test true h = cc
    by_test false h = cc

-- a choice with State 1 is of one of the first deliverable interrupts
pending_from : (active deliverable : List Offer) (cut : Bool) (vcpu : ℕ) (cpu : CpuRec) (shape : GuestShape) (n : ℕ) (chosen : Choice) → Contains (choices_of active deliverable cut vcpu cpu shape n) chosen → chosen.entry.state ≡ Pending → Contains (take (n - length active) deliverable) (offer_of chosen)
pending_from active deliverable cut vcpu cpu shape n chosen has state =
    elim (Contains-append_cases (map (active_choice cut vcpu cpu shape) active) (map pending_choice (take (n - length active) deliverable)) chosen has) [
      | inl first ↦
          let found = map_cases (active_choice cut vcpu cpu shape) active chosen first in
          absurd (active_not_pending cut vcpu cpu shape found.0 (ap (λ choice. choice.entry.state) found.2 ∙ state))
      | inr rest ↦
          let found = map_cases pending_choice (take (n - length active) deliverable) chosen rest in
          subst (Contains (take (n - length active) deliverable)) (ap offer_of found.2) found.1
    ]

left_behind : (active deliverable : List Offer) (vcpu : ℕ) (cpu : CpuRec) (shape : GuestShape) (n : ℕ) (left : Offer) (chosen : Choice) → n ≤ 16 → in_order deliverable ≡ true → Contains deliverable left → (IsPlanned (plan_from active deliverable vcpu cpu shape n) left → ⊥) → Contains (plan_from active deliverable vcpu cpu shape n).choice (Some chosen) → chosen.entry.state ≡ Pending → ComesAfter left (offer_of chosen)
left_behind active deliverable vcpu cpu shape n left chosen few sorted among out has state =
    let mode = chosen_from active deliverable vcpu cpu shape n chosen has in
    let front = take (n - length active) deliverable in
    let back = drop (n - length active) deliverable in
    let whole : front ++ back ≡ deliverable = take-append-drop (n - length active) deliverable in
    let chosen_in : Contains front (offer_of chosen) = pending_from active deliverable (is_cut active deliverable n) vcpu cpu shape n chosen mode.1 state in
    elim (Contains-append_cases front back left (subst (λ xs. Contains xs left) (sym whole) among)) [
      | inl in_front ↦ absurd (out (pending_placed active deliverable vcpu cpu shape n left few mode.0 in_front))
      | inr in_back ↦
          let later = back_not_before front back (offer_of chosen) left (ap in_order whole ∙ sorted) chosen_in in_back in
          record { not_before = later; after = one_is_before left (offer_of chosen) later }
    ]

pub left_out : LeftOutComesAfter
left_out offers vcpu cpu shape n left chosen few has is out among state =
    left_behind (active_among offers vcpu) (deliverable_among offers vcpu cpu shape) vcpu cpu shape n left chosen few (in_order-ordered (filter (is_deliverable_to vcpu cpu shape) offers))
    (Contains-ordered (filter (is_deliverable_to vcpu cpu shape) offers) left (Contains-filter (is_deliverable_to vcpu cpu shape) offers left is has)) out among state

-- an active interrupt has State 3 only where nothing is cut off
both_uncut : (cut : Bool) (vcpu : ℕ) (cpu : CpuRec) (shape : GuestShape) (offer : Offer) → active_state cut vcpu cpu shape offer ≡ Both → cut ≡ false
both_uncut false vcpu cpu shape offer h = refl
both_uncut true vcpu cpu shape offer h = cc

-- a choice with State 3 is of an active interrupt, and nothing is cut off
both_from : (active deliverable : List Offer) (cut : Bool) (vcpu : ℕ) (cpu : CpuRec) (shape : GuestShape) (n : ℕ) (chosen : Choice) → Contains (choices_of active deliverable cut vcpu cpu shape n) chosen → chosen.entry.state ≡ Both → cut ≡ false
both_from active deliverable cut vcpu cpu shape n chosen has state =
    elim (Contains-append_cases (map (active_choice cut vcpu cpu shape) active) (map pending_choice (take (n - length active) deliverable)) chosen has) [
      | inl first ↦
          let found = map_cases (active_choice cut vcpu cpu shape) active chosen first in
          both_uncut cut vcpu cpu shape found.0 (ap (λ choice. choice.entry.state) found.2 ∙ state)
      | inr rest ↦
          let found = map_cases pending_choice (take (n - length active) deliverable) chosen rest in
          let other : Pending ≡ Both = ap (λ choice. choice.entry.state) found.2 ∙ state in
          cc
    ]

pub both_leaves : BothLeavesNothingOut
both_leaves offers vcpu cpu shape n chosen offer few has state among is =
    let active = active_among offers vcpu in
    let deliverable = deliverable_among offers vcpu cpu shape in
    let mode = chosen_from active deliverable vcpu cpu shape n chosen has in
    every_deliverable offers vcpu cpu shape n offer few among is mode.0 (both_from active deliverable (is_cut active deliverable n) vcpu cpu shape n chosen mode.1 state)

-- where something is cut off, an interrupt stands in a list register with State 1
first_kept : (m : ℕ) (one : Offer) (offers : List Offer) → 1 ≤ m → Contains (take m (one ∷ offers)) one
first_kept zero one offers l = absurd (omega (arith, l))
first_kept (suc m) one offers l = Contains-here one (take m offers)

cut_by : (active deliverable : List Offer) (vcpu : ℕ) (cpu : CpuRec) (shape : GuestShape) (n : ℕ) → n ≤ 16 → is_cut active deliverable n ≡ true
    → (choice : Choice) × Contains (plan_from active deliverable vcpu cpu shape n).choice (Some choice) × (choice.entry.state ≡ Pending)
cut_by active [] vcpu cpu shape n few cut = absurd (let less = ltb-true (n - length active) 0 (and_parts (not (is_trapping active [] n)) (nat_lt (n - length active) 0) cut).1 in omega (arith, less))
cut_by active (one ∷ offers) vcpu cpu shape n few cut =
    let parts = and_parts (not (is_trapping active (one ∷ offers) n)) (nat_lt (n - length active) (length (one ∷ offers))) cut in
    let untrapped : is_trapping active (one ∷ offers) n ≡ false = not_true (is_trapping active (one ∷ offers) n) parts.0 in
    let choices = choices_of active (one ∷ offers) (is_cut active (one ∷ offers) n) vcpu cpu shape n in
    let fits : length active + min 1 (length (one ∷ offers)) ≤ n = grind (arith, common_steps, untrapped) in
    let room : 1 ≤ n - length active = omega (arith, fits) in (
      pending_choice one,
      subst (λ b. Contains (in_places (if b then [] else choices)) (Some (pending_choice one))) (sym untrapped)
          (Contains-in_places choices (pending_choice one) (omega (arith, few, choices_few active (one ∷ offers) (is_cut active (one ∷ offers) n) vcpu cpu shape n untrapped))
          (Contains-append_right (map (active_choice (is_cut active (one ∷ offers) n) vcpu cpu shape) active) (map pending_choice (take (n - length active) (one ∷ offers))) (pending_choice one)
          (Contains-map pending_choice (take (n - length active) (one ∷ offers)) one (first_kept (n - length active) one offers room)))),
      refl,
    )
  where
    not_true : (b : Bool) → not b ≡ true → b ≡ false
    not_true true e = absurd (cc)
    not_true false e = refl

pub cut_leaves_pending : (offers : List Offer) (vcpu : ℕ) (cpu : CpuRec) (shape : GuestShape) (n : ℕ) → n ≤ 16 → (plan offers vcpu cpu shape n).cut ≡ true → (choice : Choice) × Contains (plan offers vcpu cpu shape n).choice (Some choice) × (choice.entry.state ≡ Pending)
cut_leaves_pending offers vcpu cpu shape n few cut = cut_by (active_among offers vcpu) (deliverable_among offers vcpu cpu shape) vcpu cpu shape n few cut
