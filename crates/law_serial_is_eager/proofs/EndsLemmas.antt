-- What a call that is open is once it ends, where all calls end.
use Rattle.std.proofs.Common.{◌≡◌, ℕ, inl, inr, List, [], ◌∷◌, ◌++◌, Option, option_map, Some, None, refl, sym, subst, Bool}
use Rattle.std.proofs.lemmas.Bool.{cases_eq}
use Rattle.std.proofs.lemmas.List.{append-nil, append_assoc}
use Rattle.law_lone_calls_are_eager.specs.Words.{GuestShape}
use Rattle.law_lone_calls_are_eager.specs.Calls.{Event, Up, Down, Touch, Reach, Take, Leave, Enable, Cpu, Put, CtlrBegin, CtlrEnd, ItsBegin, Found, Moment, Begin, Happens, Operation, Runs, Done, Stalls, Beside, Happened, IsCall}
use Rattle.law_lone_calls_are_eager.specs.GicCall.declared.event.Event.TheVariants.{Raise, Read, ItsEnd, Queue}
use Rattle.law_lone_calls_are_eager.specs.GicCall.declared.event.Moment.TheVariants.{End}
use Rattle.law_lone_calls_are_eager.specs.Histories.{Call, Course, GoesOn, IsCallEnded, IsNext, call_of, course_of, gone_on, made, noted, seeing, vcpu_of, happened, Ideal}
use Rattle.law_lone_calls_are_eager.proofs.LawHistories.CourseLemmas.{IsCourse, begun_other, call_is, ended_other, goes, made_here, made_other, none_is, noted_piece}

-- what a call notes changes not what it is for
pub noted_operation : (ideal : Ideal) (event : Event) (call : Call) → (noted ideal event call).operation ≡ call.operation
noted_operation ideal (Raise key) call = refl
noted_operation ideal (Up key) call = refl
noted_operation ideal (Down key) call = refl
noted_operation ideal (Touch key touching) call = refl
noted_operation ideal (Reach key vcpu) call = refl
noted_operation ideal (Take key vcpu) call = refl
noted_operation ideal (Leave key vcpu) call = refl
noted_operation ideal (Enable vcpu) call = refl
noted_operation ideal (Cpu vcpu reg write) call = refl
noted_operation ideal (Read place) call = refl
noted_operation ideal (Put word value) call = refl
noted_operation ideal (CtlrBegin enables) call = refl
noted_operation ideal CtlrEnd call = refl
noted_operation ideal ItsBegin call = refl
noted_operation ideal ItsEnd call = refl
noted_operation ideal (Queue offset Runs) call = refl
noted_operation ideal (Queue offset (Done words)) call = refl
noted_operation ideal (Queue offset (Stalls fault)) call = refl

-- an actor's events so far and more of them are a call for this
pub record EndsAs (shape : GuestShape) (actor : ℕ) (operation : Operation) (piece : List Happened) : Type 0 where
  pub beside : Beside
  pub more : List Happened
  pub answer : Option ℕ
  pub is_call : IsCall shape beside (vcpu_of shape actor) operation (piece ++ more) answer

-- so are those of a call that is open
abbrev pub WillEnd : GuestShape → ℕ → Option Call → Type 0
WillEnd shape actor None = Unit {0}
WillEnd shape actor (Some call) = EndsAs shape actor call.operation call.piece

module _ (shape : GuestShape) (actor : ℕ) where
  seen_ends : (ideal : Ideal) (o : Option Call) → WillEnd shape actor (option_map (seeing ideal) o) → WillEnd shape actor o
  seen_ends ideal None will = tt
  seen_ends ideal (Some call) will = will

  ended_so : (signals : Bool) (o : Option Call) (answer : Option ℕ) → IsCallEnded signals shape actor o answer → WillEnd shape actor o
  ended_so signals None answer is = tt
  ended_so signals (Some call) answer is = record {
    beside = is.beside;
    more = [];
    answer = answer;
    is_call = subst (λ piece. IsCall shape is.beside (vcpu_of shape actor) call.operation piece answer) (sym (append-nil call.piece)) is.is_call;
  }

  made_ends : (course : Course) (event : Event) (found : Found) (call : Call) → WillEnd shape actor (Some (seeing (happened actor event course.ideal) (made course.ideal event found call))) → EndsAs shape actor call.operation (call.piece ++ (record { event = event; found = found }) ∷ [])
  made_ends course event found call will =
      let one : Happened = record { event = event; found = found } in
      subst (λ op. EndsAs shape actor op (call.piece ++ one ∷ [])) (noted_operation course.ideal event call) (subst (λ piece. EndsAs shape actor (noted course.ideal event call).operation (piece ++ one ∷ [])) (noted_piece course.ideal event call) will)

  one_less : (operation : Operation) (piece : List Happened) (one : Happened) → EndsAs shape actor operation (piece ++ one ∷ []) → EndsAs shape actor operation piece
  one_less operation piece one it = record {
    beside = it.beside;
    more = one ∷ it.more;
    answer = it.answer;
    is_call = subst (λ whole. IsCall shape it.beside (vcpu_of shape actor) operation whole it.answer) (append_assoc piece (one ∷ []) it.more) it.is_call;
  }

  step : (course : Course) → IsCourse shape course → (moment : Moment) → IsNext course moment → WillEnd shape actor (call_of (gone_on course moment) actor) → WillEnd shape actor (call_of course actor)
  step course at (Begin other operation) next later = elim (cases_eq other actor) [
    | inl e ↦ subst (WillEnd shape actor) (sym (none_is (call_of course actor) (subst (λ n. IsNext course (Begin n operation)) e next).1)) tt
    | inr differ ↦ subst (WillEnd shape actor) (begun_other course other operation actor (λ e. differ (sym e))) later
  ]
  step course at (End other answer) next later = elim (cases_eq other actor) [
    | inl e ↦ ended_so (course.signals actor) (call_of course actor) answer (subst (λ s. IsCallEnded (course.signals actor) s actor (call_of course actor) answer) at.shape_is (subst (λ n. IsNext course (End n answer)) e next))
    | inr differ ↦ subst (WillEnd shape actor) (ended_other course other answer actor (λ e. differ (sym e))) later
  ]
  step course at (Happens other event found) next later = elim (cases_eq other actor) [
    | inl e ↦ mine (subst (λ n. IsNext course (Happens n event found)) e next) (subst (λ n. WillEnd shape actor (call_of (gone_on course (Happens n event found)) actor)) e later)
    | inr differ ↦ seen_ends (happened other event course.ideal) (call_of course actor) (subst (WillEnd shape actor) (made_other course other event found actor (λ e. differ (sym e))) later)
  ]
    where
      mine : IsNext course (Happens actor event found) → WillEnd shape actor (call_of (gone_on course (Happens actor event found)) actor) → WillEnd shape actor (call_of course actor)
      mine next later =
          let is = call_is (call_of course actor) next.within in
          let call = is.0 in
          subst (WillEnd shape actor) (sym is.1)
          (one_less call.operation call.piece (record { event = event; found = found }) (made_ends course event found call (subst (WillEnd shape actor) (made_here course actor event found call is.1) later)))

  -- where a history goes on until the actor's call ends
  pub call_ends : (moments : List Moment) (course : Course) → IsCourse shape course → GoesOn course moments → call_of (course_of course moments) actor ≡ None → WillEnd shape actor (call_of course actor)
  call_ends [] course at going ended = subst (WillEnd shape actor) (sym ended) tt
  call_ends (moment ∷ moments) course at going ended = step course at moment going.0 (call_ends moments (gone_on course moment) (goes shape course moment at) going.1 ended)

  -- what an event of it leaves of a call
  pub event_ends : (moments : List Moment) (course : Course) → IsCourse shape course → (event : Event) (found : Found) → GoesOn course (Happens actor event found ∷ moments) → call_of (course_of course (Happens actor event found ∷ moments)) actor ≡ None
      → (call : Call) → call_of course actor ≡ Some call → EndsAs shape actor call.operation (call.piece ++ (record { event = event; found = found }) ∷ [])
  event_ends moments course at event found going ended call is =
      made_ends course event found call (subst (WillEnd shape actor) (made_here course actor event found call is) (call_ends moments (gone_on course (Happens actor event found)) (goes shape course (Happens actor event found) at) going.1 ended))
