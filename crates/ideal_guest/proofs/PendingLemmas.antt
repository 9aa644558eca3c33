-- A search among those that are pending finds what a search among all finds.
use Rattle.std.proofs.Common.{◌≡◌, ℕ, zero, suc, ◌+◌, ◌<◌, ◌≤◌, Bool, true, false, cond, Option, Some, None, List, [], ◌∷◌, length, slice_get, slice_index, get_or, take, ◌++◌, refl, sym, ap, ◌∙◌, subst, true≢false, append-nil, arith}
use Rattle.std.specs.List.{range_with_len, filter_map, filter, cons_option, AllByRecursion}
use Rattle.std.specs.Option.{option_map_or}
use Rattle.std.proofs.lemmas.Option.{slice_get-get_or}
use Rattle.std.proofs.lemmas.List.{take_more, take_all}
use Rattle.std.proofs.lemmas.List.Elements.{filter_map-append}
use Rattle.floor_calls.specs.Words.{Irq, is_pending, IsShape, interrupt_count, key_at, place_of, intid_of}
use Rattle.floor_calls.specs.Registers.{Candidate, is_deliverable, first_of}
use Rattle.floor_calls.specs.Calls.{irq_in, opening_irq}
use Rattle.floor_calls.proofs.GicOpen.KeyLemmas.{key_at_there, place_at, irq_in_there}
use Rattle.irq_records.specs.Pending.{is_pending_at, pending_places}
use Rattle.ideal_guest.specs.declared.guest.IdealGuest.{IdealGuest}
use Rattle.ideal_guest.specs.Ideal.{irq_at, cpu_at, candidate_at, candidates}
use Rattle.ideal_guest.specs.Sound.{IsSound}
use Rattle.ideal_guest.proofs.CandidateLemmas.{deliverable_pending}

-- each number of a range that passes a test is in the range
widened : (p : ℕ → Bool) (low n : ℕ) → AllByRecursion (λ k. k < low + 1 + n) (filter p (range_with_len (low + 1) n)) → AllByRecursion (λ k. k < low + suc n) (filter p (range_with_len low (suc n)))
widened p low n more = elim (p low) as (λ b. AllByRecursion (λ k. k < low + suc n) (cond b (low ∷ filter p (range_with_len (low + 1) n)) (filter p (range_with_len (low + 1) n)))) [
  | true ↦ (omega arith, same)
  | false ↦ same
]
  where
    same : AllByRecursion (λ k. k < low + suc n) (filter p (range_with_len (low + 1) n))
    same = subst (λ high. AllByRecursion (λ k. k < high) (filter p (range_with_len (low + 1) n))) (omega arith) more

passing_within : (p : ℕ → Bool) (low n : ℕ) → AllByRecursion (λ k. k < low + n) (filter p (range_with_len low n))
passing_within p low zero = tt
passing_within p low (suc n) = widened p low n (passing_within p (low + 1) n)

at : (P : ℕ → Type 0) (ks : List ℕ) (i : ℕ) → AllByRecursion P ks → i < length ks → P (slice_index ks i)
at P [] i all h = absurd (omega (arith, h))
at P (k ∷ ks) zero all h = all.0
at P (k ∷ ks) (suc i) all h = at P ks i all.1 (omega (arith, h))

pub pending_within : (irqs : List Irq) (index : ℕ) → index < length (pending_places irqs) → slice_index (pending_places irqs) index < length irqs
pending_within irqs index h = at (λ k. k < length irqs) (pending_places irqs) index (subst (λ n. AllByRecursion (λ k. k < n) (pending_places irqs)) (omega arith) (passing_within (is_pending_at irqs) 0 (length irqs))) h

-- what is found where a test fails is nothing, so those that pass it are enough
enough_step : {X : Type 0} (f : ℕ → Option X) (p : ℕ → Bool) (low n : ℕ) → (p low ≡ false → f low ≡ None) → filter_map f (filter p (range_with_len (low + 1) n)) ≡ filter_map f (range_with_len (low + 1) n)
    → filter_map f (filter p (range_with_len low (suc n))) ≡ filter_map f (range_with_len low (suc n))
enough_step f p low n none more = elim (p low) as (λ b. p low ≡ b → filter_map f (cond b (low ∷ filter p (range_with_len (low + 1) n)) (filter p (range_with_len (low + 1) n))) ≡ cons_option (f low) (filter_map f (range_with_len (low + 1) n))) [
  | true ↦ λ t. ap (cons_option (f low)) more
  | false ↦ λ t. more ∙ sym (ap (λ o. cons_option o (filter_map f (range_with_len (low + 1) n))) (none t))
] refl

enough : {X : Type 0} (f : ℕ → Option X) (p : ℕ → Bool) (low n high : ℕ) → low + n ≡ high → ((k : ℕ) → k < high → p k ≡ false → f k ≡ None) → filter_map f (filter p (range_with_len low n)) ≡ filter_map f (range_with_len low n)
enough f p low zero high e none = refl
enough f p low (suc n) high e none = enough_step f p low n (none low (omega (arith, e))) (enough f p (low + 1) n high (omega (arith, e)) none)

-- the record at a place is the one that the index speaks of
pending_here : (guest : IdealGuest) (place : ℕ) → IsSound guest → place < length guest.irqs → is_pending (irq_at guest (key_at guest.shape place)) ≡ is_pending_at guest.irqs place
pending_here guest place sound h =
    let shape = guest.shape in
    let key = key_at shape place in
    let within : place < interrupt_count shape = omega (arith, h, sound.irqs) in
    ap is_pending (irq_in_there shape guest.irqs key (key_at_there shape place sound.shape within) ∙ ap (λ n. get_or guest.irqs n (opening_irq false key)) (place_at shape place sound.shape within))
    ∙ sym (ap (λ o. option_map_or is_pending o false) (slice_get-get_or guest.irqs place (opening_irq false key) h))

none_quiet : (guest : IdealGuest) (vcpu place : ℕ) → IsSound guest → place < length guest.irqs → is_pending_at guest.irqs place ≡ false → candidate_at guest vcpu place ≡ None
none_quiet guest vcpu place sound h quiet =
    let key = key_at guest.shape place in
    let irq = irq_at guest key in
    not_some (is_deliverable key irq vcpu (cpu_at guest vcpu) guest.shape) (record { id = intid_of key; prio = irq.prio; group = irq.group }) (λ t. true≢false (sym (deliverable_pending key irq vcpu (cpu_at guest vcpu) guest.shape t) ∙ pending_here guest place sound h ∙ quiet))
  where
    not_some : (b : Bool) (one : Candidate) → (b ≡ true → ⊥) → cond b (Some one) None ≡ None
    not_some true one why = absurd (why refl)
    not_some false one why = refl

pub candidates_are : (guest : IdealGuest) (vcpu : ℕ) → IsSound guest → filter_map (candidate_at guest vcpu) (pending_places guest.irqs) ≡ candidates guest vcpu
candidates_are guest vcpu sound =
    enough (candidate_at guest vcpu) (is_pending_at guest.irqs) 0 (length guest.irqs) (length guest.irqs) (omega arith) (λ place h quiet. none_quiet guest vcpu place sound h quiet)
    ∙ ap (λ n. filter_map (candidate_at guest vcpu) (range_with_len 0 n)) sound.irqs

-- one more of a list of places adds what is found there
one_more : (f : ℕ → Option Candidate) (places : List ℕ) (i place : ℕ) → i < length places → place ≡ slice_index places i → filter_map f (take (i + 1) places) ≡ filter_map f (take i places) ++ cons_option (f place) []
one_more f places i place h is =
    ap (filter_map f) (take_more places i 0 h)
    ∙ filter_map-append f (take i places) (get_or places i 0 ∷ [])
    ∙ ap (λ p. filter_map f (take i places) ++ cons_option (f p) []) (sym is)

pub found_more : (f : ℕ → Option Candidate) (places : List ℕ) (i place : ℕ) (next : Candidate) → i < length places → place ≡ slice_index places i → f place ≡ Some next → filter_map f (take (i + 1) places) ≡ filter_map f (take i places) ++ next ∷ []
found_more f places i place next h is there = one_more f places i place h is ∙ ap (λ o. filter_map f (take i places) ++ cons_option o []) there

pub none_more : (f : ℕ → Option Candidate) (places : List ℕ) (i place : ℕ) → i < length places → place ≡ slice_index places i → f place ≡ None → filter_map f (take (i + 1) places) ≡ filter_map f (take i places)
none_more f places i place h is none = one_more f places i place h is ∙ ap (λ o. filter_map f (take i places) ++ cons_option o []) none ∙ append-nil (filter_map f (take i places))

-- the search at its end
pub first_found : (guest : IdealGuest) (vcpu index : ℕ) (first : Option Candidate) → IsSound guest → length (pending_places guest.irqs) ≤ index → first ≡ first_of (filter_map (candidate_at guest vcpu) (take index (pending_places guest.irqs))) → first ≡ first_of (candidates guest vcpu)
first_found guest vcpu index first sound whole so_far = so_far ∙ ap (λ places. first_of (filter_map (candidate_at guest vcpu) places)) (take_all index (pending_places guest.irqs) whole) ∙ ap first_of (candidates_are guest vcpu sound)
