-- What a moment leaves of the calls that are open.
use Rattle.std.proofs.Common.{◌≡◌, ◌≢◌, ℕ, ◌<◌, zero, suc, inl, inr, IsTrue, List, [], ◌∷◌, ◌++◌, map, length, Option, option_map, Some, None, is_none, All, refl, sym, ap, ◌∙◌, arith, slice_set, slice_index_or, replicate, is_some}
use Rattle.std.proofs.lemmas.Bool.{cases_lt, eqb-true}
use Rattle.std.proofs.lemmas.Grind.{fold-append}
use Rattle.std.proofs.lemmas.List.{get_or-set_same, get_or-set_other, get_or_past, length-set, length-map, length-replicate}
use Rattle.std.proofs.lemmas.List.Elements.{All-get_or}
use Rattle.std.proofs.lemmas.Option.{none-some}
use Rattle.floor_histories.specs.Words.{GuestShape, is_number}
use Rattle.floor_histories.specs.Calls.{Event, Up, Down, Touch, Reach, Take, Leave, Enable, Cpu, Put, CtlrBegin, CtlrEnd, ItsBegin, Found, Moment, Begin, Happens, Operation, Runs, Done, Stalls}
use Rattle.floor_histories.specs.GicCall.declared.event.Event.TheVariants.{Raise, Read, ItsEnd, Queue}
use Rattle.floor_histories.specs.GicCall.declared.event.Moment.TheVariants.{End}
use Rattle.floor_histories.proofs.IdealGuests.KeyLemmas.{IsWhole}
use Rattle.floor_histories.specs.Histories.{Ideal, happened, Call, Course, GoesOn, actor_count, opening_course, call_of, begun, noted, made, seeing, gone_on, course_of, IdealGuest, CanOpen}
use Rattle.law_histories.proofs.StateLemmas.{guest_is}

-- a course of a guest of this shape: it has a place for each call, and for each record
pub record IsCourse (shape : GuestShape) (course : Course) : Type 0 where
  pub shape_is : course.ideal.guest.shape ≡ shape
  pub whole : IsWhole course.ideal.guest
  pub each : length course.calls ≡ actor_count shape

pub opens : (guest : IdealGuest) → CanOpen guest → IsCourse guest.shape (opening_course guest)
opens guest good = record {
  shape_is = refl;
  whole = record { shape = good.sound.shape; each = good.sound.irqs };
  each = length-replicate (actor_count guest.shape) None;
}

pub nobody_opens : (guest : IdealGuest) (actor : ℕ) → call_of (opening_course guest) actor ≡ None
nobody_opens guest actor = of (actor_count guest.shape) actor
  where
    none : Option Call
    none = None

    of : (n actor : ℕ) → slice_index_or (replicate n none) actor none ≡ none
    of zero actor = refl
    of (suc n) zero = refl
    of (suc n) (suc actor) = of n actor

-- In a list of calls.

some_within : {X : Type 0} (xs : List (Option X)) (n : ℕ) (x : X) → slice_index_or xs n None ≡ Some x → n < length xs
some_within xs n x h = elim (cases_lt n (length xs)) [
  | inl l ↦ l
  | inr past ↦ absurd (none-some x (sym (get_or_past xs n None past) ∙ h))
]

mapped : {X : Type 0} (f : X → X) (xs : List (Option X)) (n : ℕ) → slice_index_or (map (option_map f) xs) n None ≡ option_map f (slice_index_or xs n None)
mapped f [] n = refl
mapped f (x ∷ xs) zero = refl
mapped f (x ∷ xs) (suc n) = mapped f xs n

freed : {X : Type 0} (xs : List (Option X)) (n : ℕ) → slice_index_or (slice_set xs n None) n None ≡ None
freed xs n = elim (cases_lt n (length xs)) [
  | inl l ↦ get_or-set_same xs n None None l
  | inr past ↦ get_or_past (slice_set xs n None) n None (omega (arith, past, length-set xs n None))
]

-- After a moment.

module _ (course : Course) (actor : ℕ) where
  pub begun_here : (operation : Operation) → actor < length course.calls → call_of (gone_on course (Begin actor operation)) actor ≡ Some (begun course.ideal operation)
  begun_here operation there = get_or-set_same course.calls actor _ None there

  pub begun_other : (operation : Operation) (other : ℕ) → other ≢ actor → call_of (gone_on course (Begin actor operation)) other ≡ call_of course other
  begun_other operation other differ = get_or-set_other course.calls actor other _ None differ

  pub ended_here : (answer : Option ℕ) → call_of (gone_on course (End actor answer)) actor ≡ None
  ended_here answer = freed course.calls actor

  pub ended_other : (answer : Option ℕ) (other : ℕ) → other ≢ actor → call_of (gone_on course (End actor answer)) other ≡ call_of course other
  ended_other answer other differ = get_or-set_other course.calls actor other None None differ

  module _ (event : Event) (found : Found) where
    after : Ideal
    after = happened actor event course.ideal

    pub made_here : (call : Call) → call_of course actor ≡ Some call → call_of (gone_on course (Happens actor event found)) actor ≡ Some (seeing (happened actor event course.ideal) (made course.ideal event found call))
    made_here call is =
        mapped (seeing (happened actor event course.ideal)) (slice_set course.calls actor (option_map (made course.ideal event found) (call_of course actor))) actor
        ∙ ap (option_map (seeing (happened actor event course.ideal)))
        (get_or-set_same course.calls actor (option_map (made course.ideal event found) (call_of course actor)) None (some_within course.calls actor call is) ∙ ap (option_map (made course.ideal event found)) is)

    pub made_other : (other : ℕ) → other ≢ actor → call_of (gone_on course (Happens actor event found)) other ≡ option_map (seeing (happened actor event course.ideal)) (call_of course other)
    made_other other differ =
        mapped (seeing (happened actor event course.ideal)) (slice_set course.calls actor (option_map (made course.ideal event found) (call_of course actor))) other
        ∙ ap (option_map (seeing (happened actor event course.ideal))) (get_or-set_other course.calls actor other _ None differ)

-- what a call notes changes none of its events
pub noted_piece : (ideal : Ideal) (event : Event) (call : Call) → (noted ideal event call).piece ≡ call.piece
noted_piece ideal (Raise key) call = refl
noted_piece ideal (Up key) call = refl
noted_piece ideal (Down key) call = refl
noted_piece ideal (Touch key touching) call = refl
noted_piece ideal (Reach key vcpu) call = refl
noted_piece ideal (Take key vcpu) call = refl
noted_piece ideal (Leave key vcpu) call = refl
noted_piece ideal (Enable vcpu) call = refl
noted_piece ideal (Cpu vcpu reg write) call = refl
noted_piece ideal (Read place) call = refl
noted_piece ideal (Put word value) call = refl
noted_piece ideal (CtlrBegin enables) call = refl
noted_piece ideal CtlrEnd call = refl
noted_piece ideal ItsBegin call = refl
noted_piece ideal ItsEnd call = refl
noted_piece ideal (Queue offset Runs) call = refl
noted_piece ideal (Queue offset (Done words)) call = refl
noted_piece ideal (Queue offset (Stalls fault)) call = refl

-- an actor that makes an event is in a call
pub call_is : (o : Option Call) → IsTrue (is_some o) → (call : Call) × (o ≡ Some call)
call_is None h = absurd (cc)
call_is (Some call) h = (call, refl)

pub none_is : (o : Option Call) → IsTrue (is_none o) → o ≡ None
none_is None h = refl
none_is (Some call) h = absurd (cc)

pub goes : (shape : GuestShape) (course : Course) (moment : Moment) → IsCourse shape course → IsCourse shape (gone_on course moment)
goes shape course (Begin actor operation) at = record { shape_is = at.shape_is; whole = at.whole; each = length-set course.calls actor _ ∙ at.each }
goes shape course (End actor answer) at = record { shape_is = at.shape_is; whole = at.whole; each = length-set course.calls actor _ ∙ at.each }
goes shape course (Happens actor event found) at =
    let same = guest_is actor event course.ideal in
    let mine = option_map (made course.ideal event found) (call_of course actor) in
    record {
      shape_is = same.shape ∙ at.shape_is;
      whole = same.whole at.whole;
      each = length-map (slice_set course.calls actor mine) (option_map (seeing (happened actor event course.ideal))) ∙ length-set course.calls actor mine ∙ at.each;
    }

-- where all calls ended, nobody is in one
pub nobody : (calls : List (Option Call)) (actor : ℕ) → All (λ call. IsTrue (is_none call)) calls → slice_index_or calls actor None ≡ None
nobody calls actor all = elim (cases_lt actor (length calls)) [
  | inl l ↦ none_is (slice_index_or calls actor None) (All-get_or (λ (call : Option Call). IsTrue (is_none call)) calls actor None l all)
  | inr past ↦ get_or_past calls actor None past
]

-- the state after a moment and others
pub course_both : (course : Course) (one other : List Moment) → course_of course (one ++ other) ≡ course_of (course_of course one) other
course_both course one other = fold-append gone_on course one other

-- a mark is the actor's
pub mark_is : (n : ℕ) (o : Option ℕ) → IsTrue (is_number n o) → o ≡ Some n
mark_is n None h = absurd (cc)
mark_is n (Some m) h = ap Some (eqb-true m n h)

-- of a history the beginning goes on, and the rest from where that ended
pub goes_before : (course : Course) (early late : List Moment) → GoesOn course (early ++ late) → GoesOn course early × GoesOn (course_of course early) late
goes_before course [] late going = (tt, going)
goes_before course (moment ∷ moments) late going = let rest = goes_before (gone_on course moment) moments late going.1 in ((going.0, rest.0), rest.1)
