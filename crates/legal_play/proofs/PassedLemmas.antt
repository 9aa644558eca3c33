-- An access of a CPU interface passes by interrupts that are pending alone.
use Rattle.std.proofs.Common.{◌≡◌, ℕ, zero, suc, ◌+◌, ◌<◌, ◌≤◌, Bool, true, false, cond, ◌&&◌, List, [], ◌∷◌, ◌++◌, map, filter, take, length, get_or, slice_get, slice_index, refl, sym, ap, ◌∙◌, subst, true≢false, append_assoc, arith}
use Rattle.std.specs.List.{range_with_len}
use Rattle.std.specs.Option.{option_map_or}
use Rattle.std.proofs.lemmas.Option.{slice_get-get_or}
use Rattle.std.proofs.lemmas.List.{take_more, take_all, map-append}
use Rattle.std.proofs.lemmas.List.Elements.{filter-append}
use Rattle.legal_steps.specs.Words.{Irq, is_pending, interrupt_count, key_at}
use Rattle.legal_steps.specs.Registers.{is_deliverable}
use Rattle.legal_steps.specs.Calls.{opening_irq}
use Rattle.legal_steps.specs.Histories.{Ideal, Track, irq_at, cpu_at, keys_in}
use Rattle.legal_steps.specs.Waiting.{is_passed_by}
use Rattle.legal_steps.proofs.GicHistory.GicOpen.KeyLemmas.{key_at_there, place_at, irq_in_there}
use Rattle.legal_steps.proofs.GicHistory.IdealGuests.CandidateLemmas.{deliverable_pending}
use Rattle.legal_steps.proofs.GicHistory.IdealGuests.PendingLemmas.{pending_within}
use Rattle.history_play.specs.HistoryCheck.Ready.{IsReady}

-- the places of the interrupts that are pending, as the records of a guest count them
abbrev pub is_pending_at : List Irq → ℕ → Bool
is_pending_at irqs place = option_map_or is_pending (slice_get irqs place) false

abbrev pub places_of : List Irq → List ℕ
places_of irqs = filter (is_pending_at irqs) (range_with_len 0 (length irqs))

-- what a test fails on is not kept, so those that pass another one are enough that it fails without
kept_step : {X : Type 0} (f : ℕ → X) (q : X → Bool) (p : ℕ → Bool) (low n : ℕ) → (p low ≡ false → q (f low) ≡ false)
    → filter q (map f (filter p (range_with_len (low + 1) n))) ≡ filter q (map f (range_with_len (low + 1) n)) → filter q (map f (filter p (range_with_len low (suc n)))) ≡ filter q (map f (range_with_len low (suc n)))
kept_step f q p low n none more = elim (p low) as (λ b. p low ≡ b → filter q (map f (cond b (low ∷ filter p (range_with_len (low + 1) n)) (filter p (range_with_len (low + 1) n)))) ≡ cond (q (f low)) (f low ∷ filter q (map f (range_with_len (low + 1) n))) (filter q (map f (range_with_len (low + 1) n)))) [
  | true ↦ λ t. ap (λ ys. cond (q (f low)) (f low ∷ ys) ys) more
  | false ↦ λ t. more ∙ sym (ap (λ b. cond b (f low ∷ filter q (map f (range_with_len (low + 1) n))) (filter q (map f (range_with_len (low + 1) n)))) (none t))
] refl

kept_all : {X : Type 0} (f : ℕ → X) (q : X → Bool) (p : ℕ → Bool) (low n high : ℕ) → low + n ≡ high → ((k : ℕ) → k < high → p k ≡ false → q (f k) ≡ false) → filter q (map f (filter p (range_with_len low n))) ≡ filter q (map f (range_with_len low n))
kept_all f q p low zero high e none = refl
kept_all f q p low (suc n) high e none = kept_step f q p low n (none low (omega (arith, e))) (kept_all f q p (low + 1) n high (omega (arith, e)) none)

-- a home interrupt that comes first is pending
here : (state : Ideal) (place : ℕ) → IsReady state → place < length state.guest.irqs → is_pending (irq_at state.guest (key_at state.guest.shape place)) ≡ is_pending_at state.guest.irqs place
here state place ready h =
    let shape = state.guest.shape in
    let key = key_at shape place in
    let within : place < interrupt_count shape = omega (arith, h, ready.irqs) in
    ap is_pending (irq_in_there shape state.guest.irqs key (key_at_there shape place ready.shape within) ∙ ap (λ n. get_or state.guest.irqs n (opening_irq false key)) (place_at shape place ready.shape within))
    ∙ sym (ap (λ o. option_map_or is_pending o false) (slice_get-get_or state.guest.irqs place (opening_irq false key) h))

not_true : (b : Bool) → (b ≡ true → ⊥) → b ≡ false
not_true true why = absurd (why refl)
not_true false why = refl

nowhere : (home can ahead last : Bool) → can ≡ false → (((home && can) && ahead) && last) ≡ false
nowhere true can ahead last cannot = ap (λ b. (b && ahead) && last) cannot
nowhere false can ahead last cannot = refl

none_passed : (state : Ideal) (track : Track) (vcpu place : ℕ) → IsReady state → place < length state.guest.irqs → is_pending_at state.guest.irqs place ≡ false → is_passed_by state track vcpu (key_at state.guest.shape place) ≡ false
none_passed state track vcpu place ready h quiet =
    let key = key_at state.guest.shape place in
    let irq = irq_at state.guest key in
    nowhere _ (is_deliverable key irq vcpu (cpu_at state.guest vcpu) state.guest.shape) _ _
    (not_true _ (λ t. true≢false (sym (deliverable_pending key irq vcpu (cpu_at state.guest vcpu) state.guest.shape t) ∙ (here state place ready h ∙ quiet))))

pub passed_are : (state : Ideal) (track : Track) (vcpu : ℕ) → IsReady state
    → filter (is_passed_by state track vcpu) (map (key_at state.guest.shape) (places_of state.guest.irqs)) ≡ filter (is_passed_by state track vcpu) (keys_in state.guest.shape)
passed_are state track vcpu ready =
    let irqs = state.guest.irqs in
    kept_all (key_at state.guest.shape) (is_passed_by state track vcpu) (is_pending_at irqs) 0 (length irqs) (length irqs) (omega arith) (λ place h quiet. none_passed state track vcpu place ready h quiet)
    ∙ ap (λ n. filter (is_passed_by state track vcpu) (map (key_at state.guest.shape) (range_with_len 0 n))) ready.irqs

-- the place of one that is pending is that of an interrupt
pub within : (state : Ideal) (index place : ℕ) → IsReady state → index < length (places_of state.guest.irqs) → place ≡ slice_index (places_of state.guest.irqs) index → place < interrupt_count state.guest.shape
within state index place ready h is = subst (λ n. place < n) ready.irqs (subst (λ p. p < length state.guest.irqs) (sym is) (pending_within state.guest.irqs index h))

-- what is kept of the first of some places, with one more
module _ {X Y : Type 0} (f : ℕ → X) (q : X → Bool) (g : X → Y) (places : List ℕ) (i place : ℕ) (h : i < length places) (is : place ≡ slice_index places i) where
  further : map f (take (i + 1) places) ≡ map f (take i places) ++ f place ∷ []
  further = ap (map f) (take_more places i 0 h ∙ ap (λ p. take i places ++ p ∷ []) (sym is)) ∙ map-append f (take i places) (place ∷ [])

  kept_one : map g (filter q (map f (take (i + 1) places))) ≡ map g (filter q (map f (take i places))) ++ map g (cond (q (f place)) (f place ∷ []) [])
  kept_one =
      ap (λ xs. map g (filter q xs)) further ∙ (ap (map g) (filter-append q (map f (take i places)) (f place ∷ [])) ∙ map-append g (filter q (map f (take i places))) (cond (q (f place)) (f place ∷ []) []))

  pub kept_more : (before waits next : List Y) → waits ≡ before ++ map g (filter q (map f (take i places))) → next ≡ waits ++ map g (cond (q (f place)) (f place ∷ []) []) → next ≡ before ++ map g (filter q (map f (take (i + 1) places)))
  kept_more before waits next so more =
      more ∙ (ap (λ ys. ys ++ map g (cond (q (f place)) (f place ∷ []) [])) so ∙ (append_assoc before (map g (filter q (map f (take i places)))) (map g (cond (q (f place)) (f place ∷ []) [])) ∙ ap (λ ys. before ++ ys) (sym kept_one)))

-- all that are passed by were noted once all that are pending were looked at
pub all_passed : {Y : Type 0} (state : Ideal) (track : Track) (vcpu index : ℕ) (g : _ → Y) (before waits : List Y) → IsReady state → length (places_of state.guest.irqs) ≤ index
    → waits ≡ before ++ map g (filter (is_passed_by state track vcpu) (map (key_at state.guest.shape) (take index (places_of state.guest.irqs))))
    → waits ≡ before ++ map g (filter (is_passed_by state track vcpu) (keys_in state.guest.shape))
all_passed state track vcpu index g before waits ready whole so =
    so
    ∙ (ap (λ places. before ++ map g (filter (is_passed_by state track vcpu) (map (key_at state.guest.shape) places))) (take_all index (places_of state.guest.irqs) whole) ∙ ap (λ keys. before ++ map g keys) (passed_are state track vcpu ready))
