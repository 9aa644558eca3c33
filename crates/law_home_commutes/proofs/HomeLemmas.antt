-- What the guest is with all taken back: interrupt by interrupt, and as a whole.
use Rattle.std.proofs.Common.{◌≡◌, ℕ, ◌+◌, ◌||◌, ◌<◌, ◌≤◌, zero, suc, Bool, true, false, cond, IsTrue, inl, inr, List, [], ◌∷◌, filter, find, fold, length, Option, option_map, Some, None, refl, sym, ap, ◌∙◌, subst, arith, slice_index_or}
use Rattle.std.specs.List.{list_any, range_with_len}
use Rattle.std.specs.Option.{option_map_or}
use Rattle.std.proofs.lemmas.Bool.{cases_eq}
use Rattle.std.proofs.lemmas.List.{ext_get_or, get_or_default, length-set}
use Rattle.law_histories.specs.Words.{Key, GuestShape, has_interrupt, interrupt_count, is_same_key, key_at, place_of, Irq}
use Rattle.law_histories.proofs.GicBase.KeyLemmas.{same_key}
use Rattle.law_histories.specs.Calls.{irq_in, opening_irq, Leave, left}
use Rattle.law_histories.proofs.GicOpen.KeyLemmas.{irq_in_there, key_at_there}
use Rattle.law_histories.specs.Histories.{IdealGuest, irq_at, Ideal, Standing, standing_at, is_of, with_irq, with_standing, after_leave, without, emptied, all_left, home}
use Rattle.law_histories.proofs.IdealGuests.KeyLemmas.{IsWhole, whole_changed}
use Rattle.law_histories.proofs.SpreadSteps.{place_at}
use Rattle.law_histories.proofs.StandLemmas.{of_key, none_filtered, put_here, put_other, left_other, left_key}
use Rattle.law_histories.proofs.StateLemmas.{guest_is}
use Rattle.law_home_commutes.proofs.MoveLemmas.{tidy_moved, leaves}
use Rattle.law_home_commutes.proofs.SpotLemmas.{Spot, back, IsSpot, IsTidy, moved_of}

-- One interrupt that leaves.

abbrev leave_by : Ideal → Key → ℕ → Option Standing → Ideal
leave_by state other vcpu o = option_map_or (λ moved. with_standing (with_irq state other (left vcpu moved)) vcpu (without other (standing_at state vcpu))) (option_map (moved_of state other) o) state

seats_leave : (state : Ideal) (other : Key) (vcpu : ℕ) → length (after_leave other vcpu state).at ≡ length state.at
seats_leave state other vcpu = of (find (is_of other) (standing_at state vcpu))
  where
    of : (o : Option Standing) → length (leave_by state other vcpu o).at ≡ length state.at
    of None = refl
    of (Some one) = length-set state.at vcpu (without other (standing_at state vcpu))

-- a state in which an interrupt has this record once it is taken back
pub record IsBack (shape : GuestShape) (key : Key) (irq : Irq) (state : Ideal) : Type 0 where
  pub tidy : IsTidy shape state
  pub spot : Option Spot
  pub is : IsSpot shape key (of_key state key) spot
  pub irq_is : back spot (irq_at state.guest key) ≡ irq

module _ (shape : GuestShape) (key : Key) (there : IsTrue (has_interrupt shape key)) (irq : Irq) where
  leave_back : (state : Ideal) (other : Key) (vcpu : ℕ) → vcpu < shape.vcpus → IsBack shape key irq state → IsBack shape key irq (after_leave other vcpu state)
  leave_back state other vcpu few is =
      let moved = leaves shape state is.tidy vcpu few key other is.spot is.is in
      record {
        tidy = tidy_moved shape state (after_leave other vcpu state) is.tidy (guest_is 0 (Leave other vcpu) state) (seats_leave state other vcpu) (λ one spot at. leaves shape state is.tidy vcpu few one other spot at);
        spot = moved.then;
        is = moved.is;
        irq_is = moved.irq_is there ∙ is.irq_is;
      }

  -- some leave one vCPU's interface, and all that stand there, and then those of several
  pub leave_all : (xs : List Standing) (state : Ideal) (vcpu : ℕ) → vcpu < shape.vcpus → IsBack shape key irq state → IsBack shape key irq (fold (λ now standing. after_leave standing.key vcpu now) state xs)
  leave_all [] state vcpu few is = is
  leave_all (x ∷ xs) state vcpu few is = leave_all xs (after_leave x.key vcpu state) vcpu few (leave_back state x.key vcpu few is)

  empty_all : (a n : ℕ) (state : Ideal) → a + n ≤ shape.vcpus → IsBack shape key irq state → IsBack shape key irq (fold emptied state (range_with_len a n))
  empty_all a zero state few is = is
  empty_all a (suc n) state few is = empty_all (a + 1) n (emptied state a) (omega (arith, few)) (leave_all (standing_at state a) state a (omega (arith, few)) is)

-- Nothing stays.

-- where one leaves, nothing of another gets there
leave_none : (state : Ideal) (key other : Key) (vcpu seat : ℕ) → vcpu < length state.at → of_key state key seat ≡ [] → of_key (after_leave other vcpu state) key seat ≡ []
leave_none state key other vcpu seat few none = of (find (is_of other) (standing_at state vcpu))
  where
    gone : List Standing
    gone = without other (standing_at state vcpu)

    at_seat : of_key (with_standing state vcpu (without other (standing_at state vcpu))) key seat ≡ []
    at_seat = elim (cases_eq seat vcpu) [
      | inl e ↦ subst (λ v. of_key (with_standing state vcpu (without other (standing_at state vcpu))) key v ≡ []) (sym e) (put_here state key vcpu (without other (standing_at state vcpu)) few ∙ by_key (is_same_key key other) refl (subst (λ v. of_key state key v ≡ []) e none))
      | inr differ ↦ put_other state key vcpu (without other (standing_at state vcpu)) seat differ ∙ none
    ]
      where
        by_key : (b : Bool) → is_same_key key other ≡ b → of_key state key vcpu ≡ [] → filter (is_of key) (without other (standing_at state vcpu)) ≡ []
        by_key true e h = subst (λ k. filter (is_of key) (without k (standing_at state vcpu)) ≡ []) (same_key key other e) (left_key key (standing_at state vcpu))
        by_key false e h = left_other key other (standing_at state vcpu) e ∙ h

    of : (o : Option Standing) → of_key (leave_by state other vcpu o) key seat ≡ []
    of None = none
    of (Some one) = at_seat

none_found : {X : Type 0} (p : X → Bool) (xs : List X) → find p xs ≡ None → filter p xs ≡ []
none_found p [] h = refl
none_found p (x ∷ xs) h = of (p x) h (none_found p xs)
  where
    of : (b : Bool) → cond b (Some x) (find p xs) ≡ None → (find p xs ≡ None → filter p xs ≡ []) → cond b (x ∷ filter p xs) (filter p xs) ≡ []
    of true h later = absurd (cc)
    of false h later = later h

-- the interrupt that leaves is gone
leave_gone : (state : Ideal) (key : Key) (vcpu : ℕ) → vcpu < length state.at → of_key (after_leave key vcpu state) key vcpu ≡ []
leave_gone state key vcpu few = of (find (is_of key) (standing_at state vcpu)) refl
  where
    of : (o : Option Standing) → find (is_of key) (standing_at state vcpu) ≡ o → of_key (leave_by state key vcpu o) key vcpu ≡ []
    of None e = none_found (is_of key) (standing_at state vcpu) e
    of (Some one) e = put_here state key vcpu (without key (standing_at state vcpu)) few ∙ left_key key (standing_at state vcpu)

module _ (key : Key) (vcpu : ℕ) where
  -- after all of a list left, the interrupt is gone if it was there only as one of them
  gone_all : (xs : List Standing) (state : Ideal) → vcpu < length state.at → (list_any (is_of key) xs ≡ false → of_key state key vcpu ≡ []) → of_key (fold (λ now standing. after_leave standing.key vcpu now) state xs) key vcpu ≡ []
  gone_all [] state few only = only refl
  gone_all (x ∷ xs) state few only = gone_all xs (after_leave x.key vcpu state) (subst (λ n. vcpu < n) (sym (seats_leave state x.key vcpu)) few) (of (is_of key x) refl)
    where
      of : (b : Bool) → is_of key x ≡ b → list_any (is_of key) xs ≡ false → of_key (after_leave x.key vcpu state) key vcpu ≡ []
      of true e h = subst (λ k. of_key (after_leave k vcpu state) key vcpu ≡ []) (sym (same_key x.key key e)) (leave_gone state key vcpu few)
      of false e h = leave_none state key x.key vcpu vcpu few (only (ap (λ b. b || list_any (is_of key) xs) e ∙ h))

  pub emptied_gone : (state : Ideal) → vcpu < length state.at → of_key (emptied state vcpu) key vcpu ≡ []
  emptied_gone state few = gone_all (standing_at state vcpu) state few (none_filtered (is_of key) (standing_at state vcpu))

-- and none comes back as others leave
module _ (key : Key) (seat : ℕ) where
  none_all : (xs : List Standing) (state : Ideal) (vcpu : ℕ) → vcpu < length state.at → of_key state key seat ≡ [] → of_key (fold (λ now standing. after_leave standing.key vcpu now) state xs) key seat ≡ []
  none_all [] state vcpu few none = none
  none_all (x ∷ xs) state vcpu few none = none_all xs (after_leave x.key vcpu state) vcpu (subst (λ n. vcpu < n) (sym (seats_leave state x.key vcpu)) few) (leave_none state key x.key vcpu seat few none)

seats_all : (xs : List Standing) (state : Ideal) (vcpu : ℕ) → length (fold (λ now standing. after_leave standing.key vcpu now) state xs).at ≡ length state.at
seats_all [] state vcpu = refl
seats_all (x ∷ xs) state vcpu = seats_all xs (after_leave x.key vcpu state) vcpu ∙ seats_leave state x.key vcpu

module _ (key : Key) (seat : ℕ) where
  none_later : (a n : ℕ) (state : Ideal) → a + n ≤ length state.at → of_key state key seat ≡ [] → of_key (fold emptied state (range_with_len a n)) key seat ≡ []
  none_later a zero state few none = none
  none_later a (suc n) state few none =
      none_later (a + 1) n (emptied state a) (subst (λ m. a + 1 + n ≤ m) (sym (seats_all (standing_at state a) state a)) (omega (arith, few)))
      (none_all key seat (standing_at state a) state a (omega (arith, few)) none)

  none_left : (a n : ℕ) (state : Ideal) → a + n ≤ length state.at → a ≤ seat → seat < a + n → of_key (fold emptied state (range_with_len a n)) key seat ≡ []
  none_left a zero state few low high = absurd (omega (arith, low, high))
  none_left a (suc n) state few low high =
      let rest : a + 1 + n ≤ length (emptied state a).at = subst (λ m. a + 1 + n ≤ m) (sym (seats_all (standing_at state a) state a)) (omega (arith, few)) in
      elim (cases_eq a seat) [
        | inl e ↦ none_later (a + 1) n (emptied state a) rest (subst (λ s. of_key (emptied state a) key s ≡ []) e (emptied_gone key a state (omega (arith, few))))
        | inr differ ↦ none_left (a + 1) n (emptied state a) rest (omega (arith, low, differ)) (omega (arith, high))
      ]

-- The record of an interrupt with all taken back.

module _ (shape : GuestShape) (state : Ideal) (tidy : IsTidy shape state) where
  begins : (key : Key) (spot : Option Spot) → IsSpot shape key (of_key state key) spot → IsBack shape key (back spot (irq_at state.guest key)) state
  begins key spot is = record { tidy = tidy; spot = spot; is = is; irq_is = refl }

  ends : (key : Key) → IsTrue (has_interrupt shape key) → (spot : Option Spot) → IsSpot shape key (of_key state key) spot → IsBack shape key (back spot (irq_at state.guest key)) (all_left state)
  ends key there spot is =
      subst (λ n. IsBack shape key (back spot (irq_at state.guest key)) (fold emptied state (range_with_len 0 n))) (sym (ap (λ (s : GuestShape). s.vcpus) tidy.shape_is))
      (empty_all shape key there (back spot (irq_at state.guest key)) 0 shape.vcpus state (omega arith) (begins key spot is))

  empties : (key : Key) (seat : ℕ) → seat < shape.vcpus → of_key (all_left state) key seat ≡ []
  empties key seat few =
      subst (λ n. of_key (fold emptied state (range_with_len 0 n)) key seat ≡ []) (sym (ap (λ (s : GuestShape). s.vcpus) tidy.shape_is))
      (none_left key seat 0 shape.vcpus state (omega (arith, tidy.seats)) (omega arith) (omega (arith, few)))

  pub home_irq : (key : Key) → IsTrue (has_interrupt shape key) → (spot : Option Spot) → IsSpot shape key (of_key state key) spot → irq_at (home state) key ≡ back spot (irq_at state.guest key)
  home_irq key there spot is = let end = ends key there spot is in of end.spot end.is end.irq_is
    where
      of : (o : Option Spot) → IsSpot shape key (of_key (all_left state) key) o → back o (irq_at (all_left state).guest key) ≡ back spot (irq_at state.guest key) → irq_at (home state) key ≡ back spot (irq_at state.guest key)
      of None at e = e
      of (Some one) at e = absurd (let none = empties key one.vcpu at.few in let some = at.here in cc)

-- The whole guest.

-- a guest with these records
abbrev pub with_irqs : IdealGuest → List Irq → IdealGuest
with_irqs guest irqs = record guest { irqs = irqs }

-- what leaves changes records alone
rest_leave : (state : Ideal) (other : Key) (vcpu : ℕ) → with_irqs (after_leave other vcpu state).guest [] ≡ with_irqs state.guest []
rest_leave state other vcpu = of (find (is_of other) (standing_at state vcpu))
  where
    of : (o : Option Standing) → with_irqs (leave_by state other vcpu o).guest [] ≡ with_irqs state.guest []
    of None = refl
    of (Some one) = refl

whole_leave : (state : Ideal) (other : Key) (vcpu : ℕ) → IsWhole state.guest → IsWhole (after_leave other vcpu state).guest
whole_leave state other vcpu whole = of (find (is_of other) (standing_at state vcpu))
  where
    of : (o : Option Standing) → IsWhole (leave_by state other vcpu o).guest
    of None = whole
    of (Some one) = whole_changed other (λ before. left vcpu (moved_of state other one)) state.guest whole

pub record IsRest (before after : IdealGuest) : Type 0 where
  pub rest : with_irqs after [] ≡ with_irqs before []
  pub whole : IsWhole before → IsWhole after

pub rest_all : (xs : List Standing) (state : Ideal) (vcpu : ℕ) → IsRest state.guest (fold (λ now standing. after_leave standing.key vcpu now) state xs).guest
rest_all [] state vcpu = record { rest = refl; whole = λ w. w }
rest_all (x ∷ xs) state vcpu =
    let later = rest_all xs (after_leave x.key vcpu state) vcpu in
    record { rest = later.rest ∙ rest_leave state x.key vcpu; whole = λ w. later.whole (whole_leave state x.key vcpu w) }

rest_empty : (a n : ℕ) (state : Ideal) → IsRest state.guest (fold emptied state (range_with_len a n)).guest
rest_empty a zero state = record { rest = refl; whole = λ w. w }
rest_empty a (suc n) state =
    let later = rest_empty (a + 1) n (emptied state a) in
    let first = rest_all (standing_at state a) state a in
    record { rest = later.rest ∙ first.rest; whole = λ w. later.whole (first.whole w) }

pub home_rest : (state : Ideal) → with_irqs (home state) [] ≡ with_irqs state.guest []
home_rest state = (rest_empty 0 state.guest.shape.vcpus state).rest

pub home_whole : (state : Ideal) → IsWhole state.guest → IsWhole (home state)
home_whole state = (rest_empty 0 state.guest.shape.vcpus state).whole

-- two guests with the same records, and the same beside
pub same_guest : (one other : IdealGuest) → IsWhole one → IsWhole other → with_irqs one [] ≡ with_irqs other [] → ((key : Key) → IsTrue (has_interrupt one.shape key) → irq_at one key ≡ irq_at other key) → one ≡ other
same_guest one other whole whole' rest same = ap (λ g. with_irqs g one.irqs) rest ∙ ap (λ irqs. with_irqs other irqs) irqs_same
  where
    shape_same : one.shape ≡ other.shape
    shape_same = ap (λ (g : IdealGuest). g.shape) rest

    at_place : (i : ℕ) → i < interrupt_count one.shape → slice_index_or one.irqs i (opening_irq false (key_at one.shape i)) ≡ slice_index_or other.irqs i (opening_irq false (key_at one.shape i))
    at_place i few =
        let key = key_at one.shape i in
        let there : IsTrue (has_interrupt one.shape key) = key_at_there one.shape i whole.shape few in
        let place : place_of one.shape key ≡ i = place_at one.shape i whole.shape few in
        sym (ap (λ n. slice_index_or one.irqs n (opening_irq false key)) place) ∙ sym (irq_in_there one.shape one.irqs key there)
        ∙ same key there ∙ ap (λ s. irq_in s other.irqs key) (sym shape_same) ∙ irq_in_there one.shape other.irqs key there ∙ ap (λ n. slice_index_or other.irqs n (opening_irq false key)) place

    default : Irq
    default = opening_irq false (key_at one.shape 0)

    other_each : length other.irqs ≡ interrupt_count one.shape
    other_each = whole'.each ∙ ap interrupt_count (sym shape_same)

    irqs_same : one.irqs ≡ other.irqs
    irqs_same =
        ext_get_or default one.irqs other.irqs (whole.each ∙ sym other_each)
        (λ i few.
        get_or_default one.irqs i default (opening_irq false (key_at one.shape i)) few ∙ at_place i (subst (λ n. i < n) whole.each few)
        ∙ get_or_default other.irqs i (opening_irq false (key_at one.shape i)) default (subst (λ n. i < n) (whole.each ∙ sym other_each) few))

-- the record of an interrupt, once it is taken back, is that of another guest
pub record IsTold (shape : GuestShape) (state : Ideal) (target : IdealGuest) (key : Key) : Type 0 where
  pub spot : Option Spot
  pub is : IsSpot shape key (of_key state key) spot
  pub irq_is : back spot (irq_at state.guest key) ≡ irq_at target key

-- so what is with all taken back is told by its records
pub home_is : (shape : GuestShape) (state : Ideal) (target : IdealGuest) → IsTidy shape state → IsWhole target → with_irqs state.guest [] ≡ with_irqs target []
    → ((key : Key) → IsTrue (has_interrupt shape key) → IsTold shape state target key) → home state ≡ target
home_is shape state target tidy whole rest same =
    same_guest (home state) target (home_whole state tidy.whole) whole (home_rest state ∙ rest)
    (λ key there.
    let here : IsTrue (has_interrupt shape key) = subst (λ s. IsTrue (has_interrupt s key)) (ap (λ (g : IdealGuest). g.shape) (home_rest state) ∙ tidy.shape_is) there in
    let told = same key here in
    home_irq shape state tidy key here told.spot told.is ∙ told.irq_is)
