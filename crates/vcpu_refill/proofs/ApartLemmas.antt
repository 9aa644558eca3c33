-- No interrupt stands in two list registers.
use Rattle.std.proofs.Common.{◌≡◌, ◌≢◌, ◌<◌, ◌-◌, ℕ, zero, suc, Bool, true, false, cond, Some, List, [], ◌∷◌, ◌++◌, length, take, get_or, All, Contains, ◌⊎◌, inl, inr, refl, sym, ap, ◌∙◌, subst, arith}
use Rattle.std.specs.Prelude.{fold, map, filter, slice_get, AllPairs, if◌then◌else◌}
use Rattle.std.proofs.lemmas.Grind.{common_steps}
use Rattle.std.proofs.lemmas.List.{length-map, get_or-map, map-append, get_or_default}
use Rattle.std.proofs.lemmas.List.Elements.{All-cons, All-head, All-tail, All-append, All-take, Contains-get_or}
use Rattle.std.proofs.lemmas.List.Kept.{AllPairs-cons, AllPairs-filter}
use Rattle.std.proofs.lemmas.List.Sorted.{All-permutation}
use Rattle.std.proofs.lemmas.Option.{slice_get_within, get_or_from_slice_get}
use Rattle.gic_ich.specs.Words.{GuestShape}
use Rattle.gic_ich.specs.GicPrio.declared.cpu.CpuRec.{CpuRec}
use Rattle.vcpu_refill.specs.declared.offer.Offer.{Offer}
use Rattle.vcpu_refill.specs.declared.fill.Choice.{Choice}
use Rattle.vcpu_refill.specs.Order.{goes_before, inserted, ordered, is_active_by, is_deliverable_to, active_among, deliverable_among}
use Rattle.vcpu_refill.specs.Ranking.{in_places}
use Rattle.vcpu_refill.specs.Plan.{is_trapping, is_cut, active_choice, pending_choice, choices_of}
use Rattle.vcpu_refill.specs.Laws.{PlannedOnce, offer_of}
use Rattle.vcpu_refill.proofs.ElementLemmas.{Contains-here, Contains-there}
use Rattle.vcpu_refill.proofs.PlaceLemmas.{get_or-in_places, length-in_places}
use Rattle.vcpu_refill.proofs.SortLemmas.{permuted-inserted}
use Rattle.vcpu_refill.proofs.EarnedLemmas.{from_ordered, from_take}

-- the interrupts are apart
abbrev pub Differ : Offer → Offer → Type 0
Differ one other = one.key ≢ other.key

abbrev pub Apart : List Offer → Type 0
Apart offers = AllPairs Differ offers

head_apart : (x : Offer) (xs : List Offer) → Apart (x ∷ xs) → All (Differ x) xs
head_apart x xs h k d within = h zero (suc k) d (omega arith) (omega (arith, within))

tail_apart : (x : Offer) (xs : List Offer) → Apart (x ∷ xs) → Apart xs
tail_apart x xs h i j d less within = h (suc i) (suc j) d (omega (arith, less)) (omega (arith, within))

-- one more among ordered ones
apart-inserted : (one : Offer) (xs : List Offer) → All (Differ one) xs → Apart xs → Apart (inserted one xs)
apart-inserted one [] differ h = AllPairs-cons Differ one [] differ h
apart-inserted one (x ∷ xs) differ h = by_order (goes_before one x) (apart-inserted one xs (All-tail (Differ one) x xs differ) (tail_apart x xs h))
  where
    by_order : (b : Bool) → Apart (inserted one xs) → Apart (cond b (one ∷ x ∷ xs) (x ∷ inserted one xs))
    by_order true rest = AllPairs-cons Differ one (x ∷ xs) differ h
    by_order false rest =
        AllPairs-cons Differ x (inserted one xs)
        (All-permutation (Differ x) (one ∷ xs) (inserted one xs) (permuted-inserted one xs) (All-cons (Differ x) one xs (λ e. All-head (Differ one) x xs differ (sym e)) (head_apart x xs h)))
        rest

apart-fold : (sorted xs : List Offer) → All (λ x. All (Differ x) sorted) xs → Apart sorted → Apart xs → Apart (fold (λ before one. inserted one before) sorted xs)
apart-fold sorted [] differ done rest = done
apart-fold sorted (x ∷ xs) differ done rest =
    apart-fold (inserted x sorted) xs
    (λ k d within. All-permutation (Differ (get_or xs k d)) (x ∷ sorted) (inserted x sorted) (permuted-inserted x sorted)
    (All-cons (Differ (get_or xs k d)) x sorted (λ e. head_apart x xs rest k d within (sym e)) (differ (suc k) d (omega (arith, within)))))
    (apart-inserted x sorted (differ zero x (omega arith)) done)
    (tail_apart x xs rest)

apart-ordered : (xs : List Offer) → Apart xs → Apart (ordered xs)
apart-ordered xs h = apart-fold [] xs (λ k d within j e less. absurd (omega (arith, less))) (λ i j d less within. absurd (omega (arith, within))) h

apart-take : (n : ℕ) (xs : List Offer) → Apart xs → Apart (take n xs)
apart-take zero xs h = λ i j d less within. absurd (omega (arith, within))
apart-take (suc n) [] h = λ i j d less within. absurd (omega (arith, within))
apart-take (suc n) (x ∷ xs) h = AllPairs-cons Differ x (take n xs) (All-take (Differ x) n xs (head_apart x xs h)) (apart-take n xs (tail_apart x xs h))

apart-append : (xs ys : List Offer) → ((x y : Offer) → Contains xs x → Contains ys y → Differ x y) → Apart xs → Apart ys → Apart (xs ++ ys)
apart-append [] ys cross front back = back
apart-append (x ∷ xs) ys cross front back =
    AllPairs-cons Differ x (xs ++ ys)
    (All-append (Differ x) xs ys (head_apart x xs front) (λ k d within. cross x (get_or ys k d) (Contains-here x xs) (Contains-get_or ys k d within)))
    (apart-append xs ys (λ one other has have. cross one other (Contains-there x one xs has) have) (tail_apart x xs front) back)

-- two offers of one interrupt are one
same_offer : (offers : List Offer) (x y : Offer) → Apart offers → Contains offers x → Contains offers y → x.key ≡ y.key → x ≡ y
same_offer offers x y h (i, within, is) (j, less, are) e = by_order (grind arith)
  where
    by_order : (i < j) ⊎ ((i ≡ j) ⊎ (j < i)) → x ≡ y
    by_order (inl before) = absurd (h i j x before less (ap (λ offer. offer.key) is ∙ e ∙ sym (ap (λ offer. offer.key) (get_or_default offers j x y less ∙ are))))
    by_order (inr (inl same)) = sym is ∙ ap (λ k. get_or offers k x) same ∙ get_or_default offers j x y less ∙ are
    by_order (inr (inr after)) = absurd (h j i x after within (ap (λ offer. offer.key) (get_or_default offers j x y less ∙ are) ∙ sym e ∙ sym (ap (λ offer. offer.key) is)))

-- what is active by the vCPU is not deliverable to it
not_both : (vcpu : ℕ) (cpu : CpuRec) (shape : GuestShape) (offer : Offer) → is_active_by vcpu offer ≡ true → is_deliverable_to vcpu cpu shape offer ≡ true → ⊥
not_both vcpu cpu shape offer active deliverable = grind (arith, common_steps, active, deliverable)

-- the interrupts that may stand in list registers, one after the other
chosen_apart : (offers : List Offer) (vcpu : ℕ) (cpu : CpuRec) (shape : GuestShape) (n : ℕ) → Apart offers → Apart (active_among offers vcpu ++ take n (deliverable_among offers vcpu cpu shape))
chosen_apart offers vcpu cpu shape n h =
    let active = active_among offers vcpu in
    let deliverable = deliverable_among offers vcpu cpu shape in
    apart-append active (take n deliverable)
    (λ x y has have e.
    let of_x = from_ordered (is_active_by vcpu) offers x has in
    let of_y = from_ordered (is_deliverable_to vcpu cpu shape) offers y (from_take n deliverable y have) in
    not_both vcpu cpu shape y (ap (is_active_by vcpu) (sym (same_offer offers x y h of_x.0 of_y.0 e)) ∙ of_x.1) of_y.1)
    (apart-ordered (filter (is_active_by vcpu) offers) (AllPairs-filter Differ (is_active_by vcpu) offers h))
    (apart-take n deliverable (apart-ordered (filter (is_deliverable_to vcpu cpu shape) offers) (AllPairs-filter Differ (is_deliverable_to vcpu cpu shape) offers h)))

-- a choice is of the interrupt that was chosen
offers_chosen : (choose : Offer → Choice) → ((offer : Offer) → offer_of (choose offer) ≡ offer) → (offers : List Offer) → map offer_of (map choose offers) ≡ offers
offers_chosen choose is [] = refl
offers_chosen choose is (offer ∷ offers) = cc (is offer, offers_chosen choose is offers)

-- two places of a list of choices with one interrupt are one place
pub one_place : (choices : List Choice) (j k : ℕ) (one other : Choice) → Apart (map offer_of choices) → slice_get choices j ≡ Some one → slice_get choices k ≡ Some other → one.key ≡ other.key → j ≡ k
one_place choices j k one other h is are e = by_order (grind arith)
  where
    at : (i : ℕ) (it : Choice) → slice_get choices i ≡ Some it → (get_or (map offer_of choices) i (offer_of one)).key ≡ it.key
    at i it found =
        ap (λ offer. offer.key)
        (get_or-map offer_of choices i it (offer_of one) (slice_get_within choices i it found) ∙ ap offer_of (get_or_from_slice_get choices i it it found))

    inside : (i : ℕ) (it : Choice) → slice_get choices i ≡ Some it → i < length (map offer_of choices)
    inside i it found = omega (arith, length-map choices offer_of, slice_get_within choices i it found)

    by_order : (j < k) ⊎ ((j ≡ k) ⊎ (k < j)) → j ≡ k
    by_order (inl before) = absurd (h j k (offer_of one) before (inside k other are) (at j one is ∙ e ∙ sym (at k other are)))
    by_order (inr (inl same)) = same
    by_order (inr (inr after)) = absurd (h k j (offer_of one) after (inside j one is) (at k other are ∙ sym e ∙ sym (at j one is)))

-- what stands in a place is an element there
placed_at : (choices : List Choice) (j : ℕ) (one : Choice) → slice_get (in_places choices) j ≡ Some (Some one) → slice_get choices j ≡ Some one
placed_at choices j one h =
    let few : j < 16 = omega (arith, length-in_places choices, slice_get_within (in_places choices) j (Some one) h) in
    sym (get_or-in_places choices j (Some one) few) ∙ get_or_from_slice_get (in_places choices) j (Some one) (Some one) h

-- the interrupts of the choices are apart
pub choices_apart : (offers : List Offer) (vcpu : ℕ) (cpu : CpuRec) (shape : GuestShape) (n : ℕ) (cut : Bool) → Apart offers → Apart (map offer_of (choices_of (active_among offers vcpu) (deliverable_among offers vcpu cpu shape) cut vcpu cpu shape n))
choices_apart offers vcpu cpu shape n cut h =
    let active = active_among offers vcpu in
    let deliverable = deliverable_among offers vcpu cpu shape in
    let choose = active_choice cut vcpu cpu shape in
    let rest = take (n - length active) deliverable in
    let whole : map offer_of (map choose active ++ map pending_choice rest) ≡ active ++ rest =
    map-append offer_of (map choose active) (map pending_choice rest)
    ∙ ap (λ front. front ++ map offer_of (map pending_choice rest)) (offers_chosen choose (λ offer. refl) active)
    ∙ ap (λ back. active ++ back) (offers_chosen pending_choice (λ offer. refl) rest) in
    subst Apart (sym whole) (chosen_apart offers vcpu cpu shape (n - length active) h)

pub once : PlannedOnce
once offers vcpu cpu shape n j k one other h is are e = by_mode (is_trapping active deliverable n) is are
  where
    active : List Offer
    active = active_among offers vcpu

    deliverable : List Offer
    deliverable = deliverable_among offers vcpu cpu shape

    choices : List Choice
    choices = choices_of active deliverable (is_cut active deliverable n) vcpu cpu shape n

    by_mode : (b : Bool) → slice_get (in_places (if b then [] else choices)) j ≡ Some (Some one) → slice_get (in_places (if b then [] else choices)) k ≡ Some (Some other) → j ≡ k
    by_mode true is are = absurd (omega (arith, slice_get_within [] j one (placed_at [] j one is)))
    by_mode false is are = one_place choices j k one other (choices_apart offers vcpu cpu shape n (is_cut active deliverable n) h) (placed_at choices j one is) (placed_at choices k other are) e
