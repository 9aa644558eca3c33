-- What stands in each list register.
use Rattle.std.proofs.Common.{◌≡◌, ◌≤◌, ◌<◌, ◌+◌, ◌-◌, ℕ, zero, suc, Bool, false, List, [], ◌∷◌, ◌++◌, length, length-append, get_or, take, Option, None, refl, sym, ap, ◌∙◌, subst, arith}
use Rattle.std.specs.Prelude.{slice_get, map, min}
use Rattle.std.proofs.lemmas.Grind.{common_steps}
use Rattle.std.specs.Option.{option_map}
use Rattle.std.proofs.Math.ListN.{set}
use Rattle.std.proofs.lemmas.List.{length-map, length-take, ext_get_or, get_or-map}
use Rattle.std.proofs.lemmas.List.Edits.{fill_by_more}
use Rattle.std.proofs.lemmas.Option.{slice_get-map, slice_get_past}
use Rattle.gic_ich.specs.GicPrio.declared.cpu.CpuRec.{CpuRec}
use Rattle.gic_ich.specs.Words.{GuestShape}
use Rattle.vcpu_refill.specs.declared.offer.Offer.{Offer}
use Rattle.vcpu_refill.specs.Ranking.{in_places}
use Rattle.vcpu_refill.specs.Plan.{is_trapping, active_choice, pending_choice, choices_of}
use Rattle.vcpu_refill.proofs.PlaceLemmas.{get_or-in_places}

slice_get-append_left : {X : Type 0} (xs ys : List X) (k : ℕ) → k < length xs → slice_get (xs ++ ys) k ≡ slice_get xs k
slice_get-append_left [] ys k less = absurd (omega (arith, less))
slice_get-append_left (x ∷ xs) ys zero less = refl
slice_get-append_left (x ∷ xs) ys (suc k) less = slice_get-append_left xs ys k (omega (arith, less))

slice_get-append_right : {X : Type 0} (xs ys : List X) (k : ℕ) → slice_get (xs ++ ys) (length xs + k) ≡ slice_get ys k
slice_get-append_right [] ys k = ap (slice_get ys) (omega arith)
slice_get-append_right (x ∷ xs) ys k =
    let next : length (x ∷ xs) + k ≡ suc (length xs + k) = omega arith in
    ap (slice_get ((x ∷ xs) ++ ys)) next ∙ slice_get-append_right xs ys k

slice_get-take : {X : Type 0} (n : ℕ) (xs : List X) (k : ℕ) → k < n → slice_get (take n xs) k ≡ slice_get xs k
slice_get-take zero xs k less = absurd (omega (arith, less))
slice_get-take (suc n) [] k less = refl
slice_get-take (suc n) (x ∷ xs) zero less = refl
slice_get-take (suc n) (x ∷ xs) (suc k) less = slice_get-take n xs k (omega (arith, less))

-- an active interrupt stands at its own place
pub choice_active : (active deliverable : List Offer) (cut : Bool) (vcpu : ℕ) (cpu : CpuRec) (shape : GuestShape) (n place : ℕ) (kept : List (Option Offer)) → kept ≡ in_places active → place < 16 → place < length active → option_map (active_choice cut vcpu cpu shape) (get_or kept place None) ≡ slice_get (choices_of active deliverable cut vcpu cpu shape n) place
choice_active active deliverable cut vcpu cpu shape n place kept is few within =
    ap (option_map (active_choice cut vcpu cpu shape)) (ap (λ places. get_or places place None) is ∙ get_or-in_places active place None few)
    ∙ sym (slice_get-map (active_choice cut vcpu cpu shape) active place)
    ∙ sym (slice_get-append_left (map (active_choice cut vcpu cpu shape) active) (map pending_choice (take (n - length active) deliverable)) place (omega (arith, within, length-map active (active_choice cut vcpu cpu shape))))

-- a deliverable one stands behind the active ones
pub choice_pending : (active deliverable : List Offer) (cut : Bool) (vcpu : ℕ) (cpu : CpuRec) (shape : GuestShape) (n place : ℕ) (kept : List (Option Offer)) → kept ≡ in_places deliverable → place < 16 → length active ≤ place → place < n → option_map pending_choice (get_or kept (place - length active) None) ≡ slice_get (choices_of active deliverable cut vcpu cpu shape n) place
choice_pending active deliverable cut vcpu cpu shape n place kept is few past within =
    let first = map (active_choice cut vcpu cpu shape) active in
    let then_ = map pending_choice (take (n - length active) deliverable) in
    let at : length first + (place - length active) ≡ place = omega (arith, past, length-map active (active_choice cut vcpu cpu shape)) in
    ap (option_map pending_choice)
    (ap (λ places. get_or places (place - length active) None) is
    ∙ get_or-in_places deliverable (place - length active) None (omega (arith, few))
    ∙ sym (slice_get-take (n - length active) deliverable (place - length active) (omega (arith, past, within))))
    ∙ sym (slice_get-map pending_choice (take (n - length active) deliverable) (place - length active))
    ∙ sym (slice_get-append_right first then_ (place - length active))
    ∙ ap (slice_get (first ++ then_)) at

-- nothing stands past the list registers
pub choice_past : (active deliverable : List Offer) (cut : Bool) (vcpu : ℕ) (cpu : CpuRec) (shape : GuestShape) (n place : ℕ) → length active ≤ n → n ≤ place → None ≡ slice_get (choices_of active deliverable cut vcpu cpu shape n) place
choice_past active deliverable cut vcpu cpu shape n place fits past =
    let first = map (active_choice cut vcpu cpu shape) active in
    let rest = take (n - length active) deliverable in
    let long : length (first ++ map pending_choice rest) ≤ place =
    omega (arith, past, fits, length-append first (map pending_choice rest), length-map active (active_choice cut vcpu cpu shape), length-map rest pending_choice, length-take (n - length active) deliverable) in
    sym (slice_get_past (first ++ map pending_choice rest) place long)

-- one more place
pub filled_more : {X : Type 0} (d : X) (f : ℕ → X) (xs : List X) (place : ℕ) (value : X) → place < length xs → value ≡ f place → ((k : ℕ) → k < place → get_or xs k d ≡ f k) → (k : ℕ) → k < place + 1 → get_or (set xs place value) k d ≡ f k
filled_more d f xs place value within is before =
    subst (λ v. (k : ℕ) → k < place + 1 → get_or (set xs place v) k d ≡ f k) (sym is) (fill_by_more f xs place d within before)

-- out of trap mode the active interrupts fit
pub fits_untrapped : (active deliverable : List Offer) (n count : ℕ) → is_trapping active deliverable n ≡ false → n ≤ 16 → count ≡ min 16 (length active) → (length active ≡ count) × (count ≤ n)
fits_untrapped active deliverable n count is few counted =
    let within : length active + min 1 (length deliverable) ≤ n = grind (arith, common_steps, is) in
    (omega (arith, within, few, counted), omega (arith, within, few, counted))

-- a list with what each place gives
pub filled_all : {X Y : Type 0} (f : X → Y) (d : X) (e : Y) (places : List X) (filled : List Y) → length filled ≡ length places → ((k : ℕ) → k < length filled → get_or filled k e ≡ f (get_or places k d)) → filled ≡ map f places
filled_all f d e places filled long is =
    ext_get_or e filled (map f places) (long ∙ sym (length-map places f))
    (λ k less. is k less ∙ sym (get_or-map f places k d e (omega (arith, less, long))))
