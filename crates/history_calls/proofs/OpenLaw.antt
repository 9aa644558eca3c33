-- Each open call after moments of a guest noted of each LPI a vCPU, or that it is for none; and it is at an LPI of a pending table only once it stored EnableLPIs.
use Rattle.std.proofs.Common.{◌≡◌, ◌⊎◌, ℕ, zero, suc, nat_lt, ◌&&◌, Bool, true, false, cond, List, [], ◌∷◌, ◌++◌, map, Contains, Option, option_map, Some, None, slice_set, slice_index_or, unwrap_or, refl, sym, ap, ◌∙◌, subst, arith, inl, inr}
use Rattle.std.specs.List.{list_any}
use Rattle.std.specs.Option.{option_map_or}
use Rattle.std.proofs.lemmas.Bool.{or_parts}
use Rattle.std.proofs.lemmas.Grind.{common_steps}
use Rattle.std.proofs.lemmas.List.Elements.{Contains-push}
use Rattle.std.proofs.lemmas.List.Folds.{list_any-append}
use Rattle.std.proofs.lemmas.Option.{same_Some, none-some}
use Rattle.history_calls.specs.Words.{Key}
use Rattle.history_calls.specs.Calls.{Event, Enable, Touch, ItsBegin, Done, Runs, Stalls, Found, Happened, Operation, Moment, Begin, Happens}
use Rattle.legal_lists.specs.GicCall.declared.event.Event.TheVariants.{Queue}
use Rattle.legal_lists.specs.GicCall.declared.event.Moment.TheVariants.{End}
use Rattle.history_calls.specs.Histories.{Ideal, Call, Course, call_of, course_of, opening_course, gone_on, happened, begun, made, seeing, is_passed, is_ahead, come_to, lpi_in, targets_in}
use Rattle.legal_lists.proofs.CourseLemmas.{nobody_opens}
use Rattle.history_calls.specs.Exact.{is_enable, IsOpen, CallsAreOpen}

-- In a list of calls.

pub set_cases : {X : Type 0} (xs : List (Option X)) (n : ℕ) (y : Option X) (m : ℕ) → (slice_index_or (slice_set xs n y) m None ≡ y) ⊎ (slice_index_or (slice_set xs n y) m None ≡ slice_index_or xs m None)
set_cases [] n y m = inr refl
set_cases (x ∷ xs) zero y zero = inl refl
set_cases (x ∷ xs) zero y (suc m) = inr refl
set_cases (x ∷ xs) (suc n) y zero = inr refl
set_cases (x ∷ xs) (suc n) y (suc m) = set_cases xs n y m

pub mapped : {X : Type 0} (f : X → X) (xs : List (Option X)) (n : ℕ) → slice_index_or (map (option_map f) xs) n None ≡ option_map f (slice_index_or xs n None)
mapped f [] n = refl
mapped f (x ∷ xs) zero = refl
mapped f (x ∷ xs) (suc n) = mapped f xs n

-- A call that makes an event, before it notes for which vCPUs the LPIs are then.

abbrev enables : List Happened → Bool
enables piece = list_any (λ (h : Happened). is_enable h.event) piece

record IsHalf (call : Call) : Type 0 where
  seen : (id : ℕ) → is_passed call.place id ≡ true → (other : Option ℕ) × Contains (call.targets id) other
  place : enables call.piece ≡ false → call.place ≡ None

before_none : (piece : List Happened) (one : Happened) → enables (piece ++ one ∷ []) ≡ false → enables piece ≡ false
before_none piece one h = (or_parts (enables piece) (enables (one ∷ [])) (sym (list_any-append (λ (h : Happened). is_enable h.event) piece (one ∷ [])) ∙ h)).0

after_enable : (piece : List Happened) (vcpu : ℕ) (found : Found) → enables (piece ++ (record { event = Enable vcpu; found = found }) ∷ []) ≡ false → ⊥
after_enable piece vcpu found h =
    let last = (or_parts (enables piece) true (sym (list_any-append (λ (h : Happened). is_enable h.event) piece ((record { event = Enable vcpu; found = found }) ∷ [])) ∙ h)).1 in absurd (cc)

-- of an LPI that it has passed the touch of another one tells nothing
passed_stays : (place : Option ℕ) (key : Key) (id : ℕ) → is_passed (come_to place key) id ≡ true → is_ahead place key id ≡ false
passed_stays None key id h = refl
passed_stays (Some here) key id h = of (lpi_in key) h
  where
    of : (o : Option ℕ) → is_passed (option_map (λ before. unwrap_or o before) (Some here)) id ≡ true → (true && option_map_or (λ lpi. nat_lt lpi id) o false) ≡ false
    of None k = refl
    of (Some lpi) k = grind (arith, common_steps, k)

none_below : (id : ℕ) → nat_lt id 0 ≡ true → ⊥
none_below id h = grind (arith, common_steps, h)

half_made : (ideal : Ideal) (event : Event) (found : Found) (call : Call) → IsOpen call → IsHalf (made ideal event found call)
half_made ideal (Enable vcpu) found call is = record { seen = λ id h. absurd (none_below id h); place = λ h. absurd (after_enable call.piece vcpu found h) }
half_made ideal (Touch key touching) found call is = record {
  seen = λ id h. ((is.seen id).0, subst (λ targets. Contains targets (is.seen id).0) (sym (ap (λ b. cond b [] (call.targets id)) (passed_stays call.place key id h))) (is.seen id).1);
  place = λ h. ap (λ o. come_to o key) (is.place (before_none call.piece _ h));
}
half_made ideal ItsBegin found call is = record { seen = λ id h. is.seen id; place = λ h. is.place (before_none call.piece _ h) }
half_made ideal (Queue offset Runs) found call is = record { seen = λ id h. is.seen id; place = λ h. is.place (before_none call.piece _ h) }
half_made ideal (Queue offset (Done words)) found call is = record { seen = λ id h. is.seen id; place = λ h. is.place (before_none call.piece _ h) }
half_made ideal (Queue offset (Stalls fault)) found call is = record { seen = λ id h. is.seen id; place = λ h. is.place (before_none call.piece _ h) }
half_made ideal event found call is = record { seen = λ id h. is.seen id; place = λ h. is.place (before_none call.piece _ h) }

half_seeing : (ideal : Ideal) (call : Call) → IsHalf call → IsOpen (seeing ideal call)
half_seeing ideal call is = record { seen = λ id. of id (is_passed call.place id) (is.seen id); place = is.place }
  where
    of : (id : ℕ) (b : Bool) → (b ≡ true → (other : Option ℕ) × Contains (call.targets id) other) → (other : Option ℕ) × Contains (cond b (call.targets id) (call.targets id ++ targets_in ideal id ∷ [])) other
    of id true h = h refl
    of id false h = (targets_in ideal id, Contains-push (call.targets id) (targets_in ideal id))

open_half : (call : Call) → IsOpen call → IsHalf call
open_half call is = record { seen = λ id h. is.seen id; place = is.place }

open_begun : (ideal : Ideal) (operation : Operation) → IsOpen (begun ideal operation)
open_begun ideal operation = record { seen = λ id. (targets_in ideal id, Contains-push [] (targets_in ideal id)); place = λ h. refl }

-- Along moments.

abbrev AreOpen : Option Call → Type 0
AreOpen o = (call : Call) → o ≡ Some call → IsOpen call

none_open : (o : Option Call) → o ≡ None → AreOpen o
none_open o e call is = absurd (none-some call (sym e ∙ is))

some_open : (call : Call) → IsOpen call → AreOpen (Some call)
some_open call is other e = subst IsOpen (same_Some call other e) is

step : (course : Course) (moment : Moment) → ((actor : ℕ) → AreOpen (call_of course actor)) → (actor : ℕ) → AreOpen (call_of (gone_on course moment) actor)
step course (Begin actor operation) all other = elim (set_cases course.calls actor (Some (begun course.ideal operation)) other) [
  | inl e ↦ subst AreOpen (sym e) (some_open (begun course.ideal operation) (open_begun course.ideal operation))
  | inr e ↦ subst AreOpen (sym e) (all other)
]
step course (End actor answer) all other = elim (set_cases course.calls actor None other) [
  | inl e ↦ none_open _ e
  | inr e ↦ subst AreOpen (sym e) (all other)
]
step course (Happens actor event found) all other = subst AreOpen (sym (mapped (seeing ideal) (slice_set course.calls actor mine) other)) (elim (set_cases course.calls actor mine other) [
  | inl e ↦ subst (λ o. AreOpen (option_map (seeing ideal) o)) (sym e) (of (call_of course actor) (all actor))
  | inr e ↦ subst (λ o. AreOpen (option_map (seeing ideal) o)) (sym e) (seen (call_of course other) (all other))
])
  where
    ideal : Ideal
    ideal = happened actor event course.ideal

    mine : Option Call
    mine = option_map (made course.ideal event found) (call_of course actor)

    of : (o : Option Call) → AreOpen o → AreOpen (option_map (seeing ideal) (option_map (made course.ideal event found) o))
    of None is = none_open None refl
    of (Some call) is = some_open (seeing ideal (made course.ideal event found call)) (half_seeing ideal (made course.ideal event found call) (half_made course.ideal event found call (is call refl)))

    seen : (o : Option Call) → AreOpen o → AreOpen (option_map (seeing ideal) o)
    seen None is = none_open None refl
    seen (Some call) is = some_open (seeing ideal call) (half_seeing ideal call (open_half call (is call refl)))

along : (course : Course) (moments : List Moment) → ((actor : ℕ) → AreOpen (call_of course actor)) → (actor : ℕ) → AreOpen (call_of (course_of course moments) actor)
along course [] all = all
along course (moment ∷ moments) all = along (gone_on course moment) moments (step course moment all)

pub calls_open : CallsAreOpen
calls_open guest moments actor call is = along (opening_course guest) moments (λ actor. none_open (call_of (opening_course guest) actor) (nobody_opens guest actor)) actor call is
