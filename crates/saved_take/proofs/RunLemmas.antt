-- A run that is saved: where it stands after some steps, and what is saved of each guest.
use Rattle.std.proofs.Common.{◌≡◌, ℕ, zero, suc, ◌+◌, drop-cons, ◌<◌, ◌≤◌, true, List, [], ◌∷◌, ◌++◌, length, take, drop, get_or, Option, Some, None, is_none, refl, sym, ap, ◌∙◌, subst, arith}
use Rattle.std.specs.Prelude.{slice_get}
use Rattle.std.proofs.lemmas.Bool.{and_parts, and_from}
use Rattle.std.proofs.lemmas.List.{append_assoc, append-nil, drop_all, drop-drop, length-drop, length-map}
use Rattle.std.proofs.lemmas.List.FromFn.{length-range_with_len}
use Rattle.std.specs.List.{range_with_len}
use Rattle.std.proofs.lemmas.Option.{get_or_from_slice_get, slice_get-map, slice_get_within}
use Rattle.std.specs.Option.{option_map}
use Rattle.saved_guest.specs.IdealGuests.Calls.{GuestSpec, shapes_of}
use Rattle.saved_guest.specs.IdealGuests.Words.{interrupt_count}
use Rattle.saved_guest.specs.IdealGuests.declared.guest.IdealGuest.{IdealGuest}
use Rattle.saved_guest.specs.ScnSaved.ScnBase.declared.scenario.Scenario.{Scenario}
use Rattle.saved_guest.specs.ScnSaved.ScnBase.declared.standing.Standing.{Standing}
use Rattle.saved_guest.specs.ScnSaved.ScnBase.declared.standing.MovedWire.{MovedWire}
use Rattle.saved_guest.specs.ScnSaved.ScnBase.declared.step.Mode.TheVariants.{Schedule}
use Rattle.saved_guest.specs.ScnSaved.ScnBase.declared.step.Step.{Step}
use Rattle.saved_guest.specs.ScnSaved.ScnBase.Good.{IsGood}
use Rattle.saved_guest.specs.ScnSaved.ScnBase.Standing.{IsStanding, opening_standing, standing_after, wire_count}
use Rattle.saved_guest.specs.ScnSaved.ScnBase.StepFault.{step_fault}
use Rattle.scn_base.proofs.StepLemmas.{good_no_fault, have_no_fault}
use Rattle.saved_guest.specs.ScnSaved.declared.state.GuestState.{GuestState}
use Rattle.saved_take.proofs.StandingBack.{next_before, one_first, parted, room_for}
use Rattle.saved_take.specs.Run.{AreStatesOf, IsStateOf}
use Rattle.saved_take.specs.Taken.{all_taken, stands_after, taken_of, wires_at}

none_is : {X : Type 0} (o : Option X) → is_none o ≡ true → o ≡ None
none_is None e = refl
none_is (Some x) e = absurd (cc)

-- The steps, one after the other.

-- some of the items are followed, and the others have no fault
pub record FollowsSoFar (scenario : Scenario) (items : List Step) (number : ℕ) (standing : Standing) : Type 0 where
  pub fine : IsStanding standing
  pub is : stands_after (drop number items) standing ≡ stands_after items (opening_standing scenario.pes (shapes_of scenario.guests))
  pub clean : have_no_fault Schedule standing (drop number items) ≡ true

-- of steps without a fault the first have none
first_clean : (standing : Standing) (steps : List Step) (count : ℕ) → have_no_fault Schedule standing steps ≡ true → have_no_fault Schedule standing (take count steps) ≡ true
first_clean standing steps zero clean = refl
first_clean standing [] (suc count) clean = refl
first_clean standing (step ∷ steps) (suc count) clean =
    let both = and_parts (is_none (step_fault Schedule standing step)) (have_no_fault Schedule (standing_after step standing) steps) clean in
    and_from (is_none (step_fault Schedule standing step)) (have_no_fault Schedule (standing_after step standing) (take count steps)) both.0 (first_clean (standing_after step standing) steps count both.1)

pub follows_none : (scenario : Scenario) (done : ℕ) (items : List Step) (standing : Standing) → IsGood Schedule scenario → items ≡ take done scenario.steps → standing ≡ opening_standing scenario.pes (shapes_of scenario.guests) → IsStanding standing
    → FollowsSoFar scenario items 0 standing
follows_none scenario done items standing good items_are is fine =
    let opened : Standing = opening_standing scenario.pes (shapes_of scenario.guests) in
    let pes : length opened.pes ≡ scenario.pes = length-map (range_with_len 0 scenario.pes) _ ∙ length-range_with_len 0 scenario.pes in
    let clean : have_no_fault Schedule opened (take done scenario.steps) ≡ true
    = first_clean opened scenario.steps done (good_no_fault Schedule opened scenario.pes scenario.steps pes good.each_step good.in_turn) in
    record {
      fine = fine;
      is = ap (stands_after items) is;
      clean = subst (λ items. have_no_fault Schedule standing items ≡ true) (sym items_are) (subst (λ standing. have_no_fault Schedule standing (take done scenario.steps) ≡ true) (sym is) clean);
    }

module _ (scenario : Scenario) (items : List Step) (number : ℕ) (standing : Standing) (so : FollowsSoFar scenario items number standing) where
  module _ (default : Step) (there : number < length items) where
    abbrev step : Step
    step = get_or items number default

    next : drop number items ≡ step ∷ drop (suc number) items
    next = drop-cons items number default there

    both : (is_none (step_fault Schedule standing step) ≡ true) × (have_no_fault Schedule (standing_after step standing) (drop (suc number) items) ≡ true)
    both = and_parts (is_none (step_fault Schedule standing step)) (have_no_fault Schedule (standing_after step standing) (drop (suc number) items)) (subst (λ items. have_no_fault Schedule standing items ≡ true) next so.clean)

    pub next_clean : step_fault Schedule standing step ≡ None
    next_clean = none_is (step_fault Schedule standing step) both.0

    pub follows_more : (later : Standing) → later ≡ standing_after step standing → IsStanding later → FollowsSoFar scenario items (number + 1) later
    follows_more later later_is fine = subst (λ n. FollowsSoFar scenario items n later) (omega arith) more
      where
        more : FollowsSoFar scenario items (suc number) later
        more = record {
          fine = fine;
          is = ap (stands_after (drop (suc number) items)) later_is ∙ sym (ap (λ items. stands_after items standing) next) ∙ so.is;
          clean = subst (λ later. have_no_fault Schedule later (drop (suc number) items) ≡ true) (sym later_is) both.1;
        }

  pub follows_all : length items ≤ number → standing ≡ stands_after items (opening_standing scenario.pes (shapes_of scenario.guests))
  follows_all past = ap (λ items. stands_after items standing) (sym (drop_all number items past)) ∙ so.is

-- The guests, one after the other.

drop_get : {X : Type 0} (xs : List X) (n : ℕ) (x : X) → slice_get xs n ≡ Some x → drop n xs ≡ x ∷ drop (suc n) xs
drop_get xs n x is = drop-cons xs n x (slice_get_within xs n x is) ∙ ap (λ one. one ∷ drop (suc n) xs) (get_or_from_slice_get xs n x x is)

get_drop : {X : Type 0} (xs : List X) (n : ℕ) (x : X) (rest : List X) → drop n xs ≡ x ∷ rest → slice_get xs n ≡ Some x
get_drop [] zero x rest e = absurd (cc)
get_drop [] (suc n) x rest e = absurd (cc)
get_drop (y ∷ xs) zero x rest e = cc
get_drop (y ∷ xs) (suc n) x rest e = get_drop xs n x rest e

drop_rest : {X : Type 0} (xs : List X) (n : ℕ) (x : X) (rest : List X) → drop n xs ≡ x ∷ rest → drop (suc n) xs ≡ rest
drop_rest [] zero x rest e = absurd (cc)
drop_rest [] (suc n) x rest e = absurd (cc)
drop_rest (y ∷ xs) zero x rest e = cc
drop_rest (y ∷ xs) (suc n) x rest e = drop_rest xs n x rest e

-- the first of some states is that of the first guest
pub record IsFirst (guest : GuestSpec) (later : List GuestSpec) (states : List IdealGuest) : Type 0 where
  pub state : IdealGuest
  pub others : List IdealGuest
  pub is : states ≡ state ∷ others
  pub of : IsStateOf guest state
  pub left : AreStatesOf later others

first_state : (guest : GuestSpec) (later : List GuestSpec) (states : List IdealGuest) → AreStatesOf (guest ∷ later) states → IsFirst guest later states
first_state guest later [] are = absurd are
first_state guest later (state ∷ others) are = record { state = state; others = others; is = refl; of = are.0; left = are.1 }

-- what is saved of the first guests
pub record TakesSoFar (guests : List GuestSpec) (standing : Standing) (states : List IdealGuest) (wires : List (Option MovedWire)) (list : List GuestState) (number : ℕ) : Type 0 where
  pub wires_are : wires ≡ wires_at standing number
  pub is : list ++ all_taken standing number (drop number guests) (drop number states) ≡ all_taken standing 0 guests states
  pub left : AreStatesOf (drop number guests) (drop number states)

pub takes_none : (guests : List GuestSpec) (standing : Standing) (states : List IdealGuest) (wires : List (Option MovedWire)) (list : List GuestState) → AreStatesOf guests states → wires ≡ standing.wires → list ≡ [] → TakesSoFar guests standing states wires list 0
takes_none guests standing states wires list are wires_are none = record { wires_are = wires_are; is = ap (λ list. list ++ all_taken standing 0 guests states) none; left = are }

module _ (guests : List GuestSpec) (standing : Standing) (states : List IdealGuest) (wires : List (Option MovedWire)) (list : List GuestState) (number : ℕ) (so : TakesSoFar guests standing states wires list number) (fine : IsStanding standing) (shapes : standing.shapes ≡ shapes_of guests) where
  module _ (guest : GuestSpec) (here : slice_get guests number ≡ Some guest) where
    pub state_now : IsFirst guest (drop (suc number) guests) (drop number states)
    state_now = first_state guest (drop (suc number) guests) (drop number states) (subst (λ guests. AreStatesOf guests (drop number states)) (drop_get guests number guest here) so.left)

    states_next : drop (suc number) states ≡ state_now.others
    states_next = drop_rest states number state_now.state state_now.others state_now.is

    pub next_state : (state : IdealGuest) → get_or states number state ≡ state → state_now.state ≡ state
    next_state state is = sym (get_or_from_slice_get states number state_now.state state (get_drop states number state_now.state state_now.others state_now.is)) ∙ is

    shape_there : slice_get standing.shapes number ≡ Some guest.shape
    shape_there = ap (λ shapes. slice_get shapes number) shapes ∙ slice_get-map (λ (guest : GuestSpec). guest.shape) guests number ∙ ap (option_map (λ (guest : GuestSpec). guest.shape)) here

    -- its wires are among those that are left
    pub wires_last : interrupt_count guest.shape ≤ length wires
    wires_last =
        let later = drop (suc number) standing.shapes in
        let all = parted standing fine.wires number (guest.shape ∷ later) (drop_get standing.shapes number guest.shape shape_there) ∙ ap (λ count. wire_count (take number standing.shapes) + count) (one_first guest.shape later) in
        room_for (length standing.wires) (wire_count standing.shapes) (wire_count (take number standing.shapes)) (interrupt_count guest.shape) (wire_count later) (length wires) (interrupt_count guest.shape) fine.wires all
        (ap length so.wires_are ∙ length-drop (wire_count (take number standing.shapes)) standing.wires) refl

    pub takes_more : (state : IdealGuest) (one : GuestState) (all : List GuestState) (rest : List (Option MovedWire)) → get_or states number state ≡ state → one ≡ taken_of guest wires state → all ≡ list ++ one ∷ [] → rest ≡ drop (interrupt_count guest.shape) wires
        → TakesSoFar guests standing states rest all (number + 1)
    takes_more state one all rest state_is one_is pushed rest_is = subst (TakesSoFar guests standing states rest all) one_more (record {
      wires_are =
          rest_is
          ∙ ap (drop (interrupt_count guest.shape)) so.wires_are
          ∙ drop-drop (interrupt_count guest.shape) (wire_count (take number standing.shapes)) standing.wires
          ∙ ap (λ count. drop count standing.wires) (sym (next_before standing fine.wires number guest.shape (drop (suc number) standing.shapes) (drop_get standing.shapes number guest.shape shape_there)) ∙ ap (λ n. wire_count (take n standing.shapes)) (sym one_more));
      is =
          ap (λ all. all ++ all_taken standing (suc number) (drop (suc number) guests) (drop (suc number) states)) pushed
          ∙ append_assoc list (one ∷ []) (all_taken standing (suc number) (drop (suc number) guests) (drop (suc number) states))
          ∙ ap (λ one. list ++ one ∷ all_taken standing (suc number) (drop (suc number) guests) (drop (suc number) states)) (one_is ∙ ap (λ wires. taken_of guest wires state) so.wires_are ∙ ap (taken_of guest (wires_at standing number)) (sym (next_state state state_is)))
          ∙ ap (λ states. list ++ taken_of guest (wires_at standing number) state_now.state ∷ all_taken standing (suc number) (drop (suc number) guests) states) states_next
          ∙ ap (λ n. list ++ taken_of guest (wires_at standing number) state_now.state ∷ all_taken standing n (drop (suc number) guests) state_now.others) one_more
          ∙ sym (ap (λ states. list ++ all_taken standing number (guest ∷ drop (suc number) guests) states) state_now.is)
          ∙ sym (ap (λ guests. list ++ all_taken standing number guests (drop number states)) (drop_get guests number guest here))
          ∙ so.is;
      left = subst (AreStatesOf (drop (suc number) guests)) (sym states_next) state_now.left;
    })
      where
        one_more : suc number ≡ number + 1
        one_more = omega arith

    pub next_fine : (state : IdealGuest) → get_or states number state ≡ state → IsStateOf guest state
    next_fine state is = subst (IsStateOf guest) (next_state state is) state_now.of

  pub takes_all : length guests ≤ number → list ≡ all_taken standing 0 guests states
  takes_all past =
      sym (append-nil list)
      ∙ ap (λ guests. list ++ all_taken standing number guests (drop number states)) (sym (drop_all number guests past))
      ∙ so.is

-- steps leave the guests' shapes
pub same_shapes : (steps : List Step) (standing : Standing) → (stands_after steps standing).shapes ≡ standing.shapes
same_shapes [] standing = refl
same_shapes (step ∷ steps) standing = same_shapes steps (standing_after step standing)
