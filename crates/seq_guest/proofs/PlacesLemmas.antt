-- Where the vCPUs of a guest are, as it changes for one after the other.
use Rattle.std.proofs.Common.{◌≡◌, ◌≢◌, ℕ, ◌+◌, ◌<◌, ◌≤◌, ◌==◌, Bool, true, false, if◌then◌else◌, List, [], ◌∷◌, zero, suc, length, set, Some, inl, inr, refl, sym, ap, subst, ◌∙◌, arith}
use Rattle.std.specs.Prelude.{slice_get, nat_lt}
use Rattle.std.specs.Option.{option_map_or}
use Rattle.std.proofs.lemmas.Bool.{cases_eq, cases_lt, eq-eqb, ne_eqb, lt-ltb, le-ltb}
use Rattle.std.proofs.lemmas.List.{get_or-set_same, length-set}
use Rattle.std.proofs.lemmas.Option.{slice_get-get_or, slice_get_past, slice_get_within}
use Rattle.port_seq.specs.Told.{GuestTold}
use Rattle.pe_place.specs.declared.place.Place.{Place}
use Rattle.seq_guest.specs.declared.vcpus.Vcpus.{Vcpus}
use Rattle.pe_place.specs.Place.{Spot, shelf, spot_of, gone_aside}
use Rattle.seq_guest.proofs.SeatLemmas.{some_is}
use Rattle.seq_guest.specs.Guest.{AreAt, spot_at, ChangesSpots, for_none, for_one, but_one, for_below}

get_other : {A : Type 0} (xs : List A) (i j : ℕ) (y : A) → j ≢ i → slice_get (set xs i y) j ≡ slice_get xs j
get_other [] i j y apart = refl
get_other (x ∷ xs) zero zero y apart = absurd (apart refl)
get_other (x ∷ xs) zero (suc j) y apart = refl
get_other (x ∷ xs) (suc i) zero y apart = refl
get_other (x ∷ xs) (suc i) (suc j) y apart = get_other xs i j y (λ e. apart (ap suc e))

pub get_same : {A : Type 0} (xs : List A) (i : ℕ) (y : A) → i < length xs → slice_get (set xs i y) i ≡ Some y
get_same xs i y within = slice_get-get_or (set xs i y) i y (subst (λ n. i < n) (sym (length-set xs i y)) within) ∙ ap Some (get_or-set_same xs i y y within)

pub place_set : (items : List Place) (vcpu : ℕ) (place after found : Place) → slice_get items vcpu ≡ Some place → slice_get (set items vcpu after) vcpu ≡ Some found → after ≡ found
place_set items vcpu place after found is there = some_is after found (sym (get_same items vcpu after (slice_get_within items vcpu place is)) ∙ there)

-- one vCPU is elsewhere

one_is :
    (before next : Vcpus) (vcpu : ℕ) (place after : Place) (change : Spot → Spot) → next.places.items ≡ set before.places.items vcpu after → slice_get before.places.items vcpu ≡ Some place → spot_of after ≡ change (spot_of place) → (other : ℕ)
    → spot_at next other ≡ for_one vcpu change other (spot_at before other)
one_is before next vcpu place after change items_are is spot other =
    let items = before.places.items in
    let by : Bool → Spot = λ t. if t then change (spot_at before other) else spot_at before other in
    elim (cases_eq other vcpu) [
      | inl same ↦
          ap (λ items. option_map_or spot_of (slice_get items other) shelf) items_are
          ∙ ap (λ n. option_map_or spot_of (slice_get (set items vcpu after) n) shelf) same
          ∙ ap (λ found. option_map_or spot_of found shelf) (get_same items vcpu after (slice_get_within items vcpu place is))
          ∙ spot
          ∙ ap (λ found. change (option_map_or spot_of found shelf)) (sym is ∙ ap (slice_get items) (sym same))
          ∙ ap by (sym (eq-eqb other vcpu same))
      | inr apart ↦
          ap (λ items. option_map_or spot_of (slice_get items other) shelf) items_are
          ∙ ap (λ found. option_map_or spot_of found shelf) (get_other items vcpu other after apart)
          ∙ ap by (sym (ne_eqb other vcpu apart))
    ]

pub one_spot :
    (before next : Vcpus) (vcpu : ℕ) (place after : Place) (change : Spot → Spot) → next.places.items ≡ set before.places.items vcpu after → slice_get before.places.items vcpu ≡ Some place → spot_of after ≡ change (spot_of place) → ChangesSpots (for_one vcpu change) before next
one_spot before next vcpu place after change items_are is spot = record { spot = one_is before next vcpu place after change items_are is spot }

pub same_spot : (before next : Vcpus) (vcpu : ℕ) (place after : Place) → next.places.items ≡ set before.places.items vcpu after → slice_get before.places.items vcpu ≡ Some place → spot_of after ≡ spot_of place → ChangesSpots for_none before next
same_spot before next vcpu place after items_are is spot = record { spot = λ other. one_is before next vcpu place after (λ spot. spot) items_are is spot other ∙ both (other == vcpu) (spot_at before other) }
  where
    both : (t : Bool) (spot : Spot) → (if t then spot else spot) ≡ spot
    both true spot = refl
    both false spot = refl

-- where it is then
pub spot_then : (items : List Place) (vcpu : ℕ) (place after : Place) → slice_get items vcpu ≡ Some place → option_map_or spot_of (slice_get (set items vcpu after) vcpu) shelf ≡ spot_of after
spot_then items vcpu place after is = ap (λ found. option_map_or spot_of found shelf) (get_same items vcpu after (slice_get_within items vcpu place is))

-- past the last vCPU nothing is
pub past_spot : (told : GuestTold) (vcpus : Vcpus) (vcpu : ℕ) → AreAt told vcpus → told.guest.shape.vcpus ≤ vcpu → spot_at vcpus vcpu ≡ shelf
past_spot told vcpus vcpu at past = ap (λ found. option_map_or spot_of found shelf) (slice_get_past vcpus.places.items vcpu (subst (λ n. n ≤ vcpu) (sym at.each) past))

-- one more of those below a number

below_same : (vcpu bound : ℕ) → vcpu ≢ bound → nat_lt vcpu bound ≡ nat_lt vcpu (bound + 1)
below_same vcpu bound apart =
    elim (cases_lt vcpu bound) [
      | inl low ↦ lt-ltb vcpu bound low ∙ sym (lt-ltb vcpu (bound + 1) (omega (arith, low)))
      | inr high ↦ le-ltb vcpu bound high ∙ sym (le-ltb vcpu (bound + 1) (above high))
    ]
  where
    above : bound ≤ vcpu → bound + 1 ≤ vcpu
    above high = elim (cases_lt bound vcpu) [
      | inl less ↦ omega (arith, less)
      | inr more ↦ absurd (apart (omega (arith, high, more)))
    ]

more_is : (change : ℕ → Spot → Spot) (bound : ℕ) (a b d : Vcpus) → ChangesSpots (for_below bound change) a b → ChangesSpots (for_one bound (change bound)) b d → (vcpu : ℕ) → spot_at d vcpu ≡ for_below (bound + 1) change vcpu (spot_at a vcpu)
more_is change bound a b d first second vcpu =
    let by : Bool → Spot = λ t. if t then change vcpu (spot_at a vcpu) else spot_at a vcpu in
    let one : Bool → Spot = λ t. if t then change bound (spot_at b vcpu) else spot_at b vcpu in
    elim (cases_eq vcpu bound) [
      | inl same ↦
          second.spot vcpu
          ∙ ap one (eq-eqb vcpu bound same)
          ∙ ap (change bound) (first.spot vcpu ∙ ap by (le-ltb vcpu bound (omega (arith, same))))
          ∙ ap (λ n. change n (spot_at a vcpu)) (sym same)
          ∙ ap by (sym (lt-ltb vcpu (bound + 1) (omega (arith, same))))
      | inr apart ↦ second.spot vcpu ∙ ap one (ne_eqb vcpu bound apart) ∙ first.spot vcpu ∙ ap by (below_same vcpu bound apart)
    ]

pub below_more : (change : ℕ → Spot → Spot) (bound : ℕ) (a b d : Vcpus) → ChangesSpots (for_below bound change) a b → ChangesSpots (for_one bound (change bound)) b d → ChangesSpots (for_below (bound + 1) change) a d
below_more change bound a b d first second = record { spot = more_is change bound a b d first second }

-- one for which nothing changes
pub below_skip : (change : ℕ → Spot → Spot) (bound : ℕ) (a b : Vcpus) → ((spot : Spot) → change bound spot ≡ spot) → ChangesSpots (for_below bound change) a b → ChangesSpots (for_below (bound + 1) change) a b
below_skip change bound a b same first = below_more change bound a b b first (record { spot = λ vcpu. either (vcpu == bound) (spot_at b vcpu) })
  where
    either : (t : Bool) (spot : Spot) → spot ≡ (if t then change bound spot else spot)
    either true spot = sym (same spot)
    either false spot = refl

-- none and all of them

pub below_none : (change : ℕ → Spot → Spot) (a : Vcpus) → ChangesSpots (for_below 0 change) a a
below_none change a = record { spot = λ vcpu. ap (λ (t : Bool). if t then change vcpu (spot_at a vcpu) else spot_at a vcpu) (sym (le-ltb vcpu 0 (omega arith))) }

all_is : (told : GuestTold) (change : ℕ → Spot → Spot) (a b : Vcpus) → AreAt told a → ((vcpu : ℕ) → change vcpu shelf ≡ shelf) → ChangesSpots (for_below told.guest.shape.vcpus change) a b → (vcpu : ℕ) → spot_at b vcpu ≡ change vcpu (spot_at a vcpu)
all_is told change a b at still first vcpu =
    let bound = told.guest.shape.vcpus in
    let by : Bool → Spot = λ t. if t then change vcpu (spot_at a vcpu) else spot_at a vcpu in
    elim (cases_lt vcpu bound) [
      | inl low ↦ first.spot vcpu ∙ ap by (lt-ltb vcpu bound low)
      | inr past ↦ first.spot vcpu ∙ ap by (le-ltb vcpu bound past) ∙ past_spot told a vcpu at past ∙ sym (still vcpu) ∙ ap (change vcpu) (sym (past_spot told a vcpu at past))
    ]

pub below_all : (told : GuestTold) (change : ℕ → Spot → Spot) (a b : Vcpus) → AreAt told a → ((vcpu : ℕ) → change vcpu shelf ≡ shelf) → ChangesSpots (for_below told.guest.shape.vcpus change) a b → ChangesSpots change a b
below_all told change a b at still first = record { spot = all_is told change a b at still first }

-- Changes one after the other.

pub spots_none : (a : Vcpus) → ChangesSpots for_none a a
spots_none a = record { spot = λ vcpu. refl }

pub spots_then : (change : ℕ → Spot → Spot) (a b d : Vcpus) → ChangesSpots change a b → ChangesSpots for_none b d → ChangesSpots change a d
spots_then change a b d first second = record { spot = λ vcpu. second.spot vcpu ∙ first.spot vcpu }

-- one that is on no PE does not leave
pub still_but : (but vcpu : ℕ) → but_one but gone_aside vcpu shelf ≡ shelf
still_but but vcpu = either (vcpu == but)
  where
    either : (t : Bool) → (if t then shelf else shelf) ≡ shelf
    either true = refl
    either false = refl
