-- A call while nobody else acts, as a run of the guest with all taken back.
use Rattle.std.proofs.Common.{◌≡◌, ℕ, ◌<◌, ◌||◌, not, Bool, true, false, IsTrue, List, [], ◌∷◌, ◌++◌, map, length, Option, Some, is_some, refl, sym, ap, ◌∙◌, subst, ◌⊎◌, inl, inr, None, cond, ◌==◌}
use Rattle.std.proofs.lemmas.Grind.{fold-append}
use Rattle.std.proofs.lemmas.Bool.{eq-eqb, eqb-true, and_parts}
use Rattle.std.specs.Option.{option_map_or}
use Rattle.law_home_commutes.specs.Words.{GuestShape, Lpi, Spi, Private, is_number}
use Rattle.law_home_commutes.specs.Calls.{Event, Up, Down, Touch, Reach, Take, Leave, Enable, Cpu, Put, CtlrBegin, CtlrEnd, ItsBegin, Found, Moment, Begin, Happens, Operation, Happened, HandsOut, IsCall, CanHappen, View, Runs, Done, Stalls}
use Rattle.law_home_commutes.specs.GicCall.declared.event.Event.TheVariants.{Raise, Read, ItsEnd, Queue}
use Rattle.law_home_commutes.specs.GicCall.declared.event.Found.TheVariants.{Answer}
use Rattle.law_home_commutes.specs.GicCall.declared.event.Moment.TheVariants.{End}
use Rattle.law_home_commutes.specs.Histories.{IdealGuest, access_answer, view_of, after_event, after_events, Ideal, handed_out, happened, home, targets_in, Call, Course, IsCallEnded, actor_count, vcpu_of, GoesOn, IsHistory, begun, made, seeing, gone_on, course_of, call_of, opening_course, last_of, CanOpen, IsEndedAs, signals_after, is_signal, signalled_by, has_midway}
use Rattle.law_home_commutes.proofs.LawHistories.CourseLemmas.{IsCourse, opens, goes, goes_before, begun_here, made_here}
use Rattle.law_home_commutes.proofs.LawHistories.EnableLaw.{nobody_spreads}
use Rattle.law_home_commutes.proofs.LawHistories.StateLemmas.{guest_is, take_cases, leave_cases}
use Rattle.law_home_commutes.proofs.HomeLemmas.{home_rest}
use Rattle.law_eager_is_history.specs.Moments.{happenings, moment_of}
use Rattle.law_eager_is_history.proofs.WindowLemmas.{operation_after, piece_after}
use Rattle.law_eager_is_history.proofs.CourseLemmas.{state_after, IsFine, AreFine, call_after}
use Rattle.law_home_commutes.specs.Home.{is_move, is_cpu}
use Rattle.law_home_commutes.proofs.AccessLemmas.{access_passes}
use Rattle.law_home_commutes.proofs.EventLemmas.{other_passes}
use Rattle.law_home_commutes.proofs.HomeLaws.{move_keeps, event_tidy, moments_tidy, opens_tidy}
use Rattle.law_home_commutes.proofs.SpotLemmas.{IsTidy}
use Rattle.law_lone_calls_are_eager.proofs.TargetLemmas.{home_targets}
use Rattle.law_lone_calls_are_eager.specs.LoneCalls.{lone_call, Shows, AllShow, IsLoneCall}

abbrev pub events_of : List Happened → List Event
events_of piece = map (λ one. one.event) piece

-- From the moments of a call to its events.

-- each of them handed out what was there
abbrev pub AreHanded : ℕ → Ideal → List Happened → Type 0
AreHanded actor state [] = Unit {0}
AreHanded actor state (one ∷ piece) = (one.found ≡ handed_out state one.event) × AreHanded actor (happened actor one.event state) piece

-- an event raises the LPI that the operation signals there
pub record IsSignal (ideal : Ideal) (operation : Operation) (event : Event) : Type 0 where
  pub id : ℕ
  pub is : event ≡ Raise (Lpi id)
  pub signals : signalled_by ideal operation ≡ Some id

-- one of the events does
abbrev pub HasSignal : ℕ → Operation → Ideal → List Event → Type 0
HasSignal actor operation state [] = ⊥
HasSignal actor operation state (event ∷ events) = IsSignal state operation event ⊎ HasSignal actor operation (happened actor event state) events

signal_is : (course : Course) (operation : Operation) (event : Event) → is_signal course operation event ≡ true → IsSignal course.ideal operation event
signal_is course operation (Raise (Lpi id)) h =
    record { id = id; is = refl; signals = number_is id (signalled_by course.ideal operation) (and_parts (is_number id (signalled_by course.ideal operation)) (not (has_midway course)) h).0 }
  where
    number_is : (n : ℕ) (o : Option ℕ) → is_number n o ≡ true → o ≡ Some n
    number_is n None h = absurd (cc)
    number_is n (Some m) h = ap Some (eqb-true m n h)
signal_is course operation (Raise (Private vcpu id)) h = absurd (cc)
signal_is course operation (Raise (Spi id)) h = absurd (cc)
signal_is course operation (Up key) h = absurd (cc)
signal_is course operation (Down key) h = absurd (cc)
signal_is course operation (Touch key touching) h = absurd (cc)
signal_is course operation (Reach key vcpu) h = absurd (cc)
signal_is course operation (Take key vcpu) h = absurd (cc)
signal_is course operation (Leave key vcpu) h = absurd (cc)
signal_is course operation (Enable vcpu) h = absurd (cc)
signal_is course operation (Cpu vcpu reg write) h = absurd (cc)
signal_is course operation (Read place) h = absurd (cc)
signal_is course operation (Put word value) h = absurd (cc)
signal_is course operation (CtlrBegin enables) h = absurd (cc)
signal_is course operation CtlrEnd h = absurd (cc)
signal_is course operation ItsBegin h = absurd (cc)
signal_is course operation ItsEnd h = absurd (cc)
signal_is course operation (Queue offset change) h = absurd (cc)

either : (a b : Bool) → (a || b) ≡ true → (a ≡ true) ⊎ (b ≡ true)
either true b h = inl refl
either false b h = inr h

-- what an actor has raised after an event of its own, it had before, or this event is it
signal_before : (course : Course) (actor : ℕ) (event : Event) (found : Found) (call : Call) → call_of course actor ≡ Some call → IsTrue ((gone_on course (Happens actor event found)).signals actor) → IsTrue (course.signals actor) ⊎ IsSignal course.ideal call.operation event
signal_before course actor event found call is h =
    let own = ap (λ b. cond b (signals_after course actor event) (course.signals actor)) (sym (eq-eqb actor actor refl)) ∙ h in
    of (either (course.signals actor) (option_map_or (λ call. is_signal course call.operation event) (call_of course actor) false) own)
  where
    of : (course.signals actor ≡ true) ⊎ (option_map_or (λ call. is_signal course call.operation event) (call_of course actor) false ≡ true) → IsTrue (course.signals actor) ⊎ IsSignal course.ideal call.operation event
    of (inl had) = inl had
    of (inr now) = inr (signal_is course call.operation event (ap (λ o. option_map_or (λ (call : Call). is_signal course call.operation event) o false) (sym is) ∙ now))

pub record LoneEnd (actor : ℕ) (answer : Option ℕ) (course : Course) (call : Call) (piece : List Happened) : Type 0 where
  pub fine : AreFine actor course.ideal (events_of piece)
  pub handed : AreHanded actor course.ideal piece
  pub piece_is : piece ≡ happenings actor (events_of piece) course.ideal
  pub signals : Bool
  pub ended : IsEndedAs signals (state_after actor (events_of piece) course.ideal).guest.shape actor (call_after actor (events_of piece) course.ideal call) answer
  pub signal : IsTrue signals → IsTrue (course.signals actor) ⊎ HasSignal actor call.operation course.ideal (events_of piece)
  pub ideal_is : (course_of course (map (moment_of actor) piece ++ End actor answer ∷ [])).ideal ≡ state_after actor (events_of piece) course.ideal

-- an event of a call leaves what it is for
operation_made : (state : Ideal) (event : Event) (found : Found) (call : Call) → (made state event found call).operation ≡ call.operation
operation_made state (Queue offset Runs) found call = refl
operation_made state (Queue offset (Done words)) found call = refl
operation_made state (Queue offset (Stalls fault)) found call = refl
operation_made state (Raise key) found call = refl
operation_made state (Up key) found call = refl
operation_made state (Down key) found call = refl
operation_made state (Touch key touching) found call = refl
operation_made state (Reach key vcpu) found call = refl
operation_made state (Take key vcpu) found call = refl
operation_made state (Leave key vcpu) found call = refl
operation_made state (Enable vcpu) found call = refl
operation_made state (Cpu vcpu reg write) found call = refl
operation_made state (Read place) found call = refl
operation_made state (Put word value) found call = refl
operation_made state (CtlrBegin enables) found call = refl
operation_made state CtlrEnd found call = refl
operation_made state ItsBegin found call = refl
operation_made state ItsEnd found call = refl

ends_on : (actor : ℕ) (answer : Option ℕ) (piece : List Happened) (course : Course) (call : Call) → call_of course actor ≡ Some call → GoesOn course (map (moment_of actor) piece ++ End actor answer ∷ []) → LoneEnd actor answer course call piece
ends_on actor answer [] course call is going = record {
  fine = tt;
  handed = tt;
  piece_is = refl;
  signals = course.signals actor;
  ended = subst (λ o. IsCallEnded (course.signals actor) course.ideal.guest.shape actor o answer) is going.0;
  signal = λ h. inl h;
  ideal_is = refl;
}
ends_on actor answer (one ∷ piece) course call is going =
    let here = going.0 in
    let later = ends_on actor answer piece (gone_on course (Happens actor one.event one.found)) (seeing state (made course.ideal one.event one.found call)) (made_here course actor one.event one.found call is) going.1 in
    record {
      fine = (record { can = here.can; allowed = here.allowed }, later.fine);
      handed = (here.hands, later.handed);
      piece_is = ap (λ f. (let h : Happened = record { event = one.event; found = f } in h) ∷ piece) here.hands ∙ ap (λ xs. (let h : Happened = record { event = one.event; found = handed_out course.ideal one.event } in h) ∷ xs) later.piece_is;
      signals = later.signals;
      ended = subst (λ f. IsEndedAs later.signals (state_after actor (events_of piece) state).guest.shape actor (call_after actor (events_of piece) state (seeing state (made course.ideal one.event f call))) answer) here.hands later.ended;
      signal = λ h. signal_on (later.signal h);
      ideal_is = later.ideal_is;
    }
  where
    state : Ideal
    state = happened actor one.event course.ideal

    next : Call
    next = seeing state (made course.ideal one.event one.found call)

    signal_on : IsTrue ((gone_on course (Happens actor one.event one.found)).signals actor) ⊎ HasSignal actor next.operation state (events_of piece)
        → IsTrue (course.signals actor) ⊎ HasSignal actor call.operation course.ideal (one.event ∷ events_of piece)
    signal_on (inl had) = of (signal_before course actor one.event one.found call is had)
      where
        of : IsTrue (course.signals actor) ⊎ IsSignal course.ideal call.operation one.event → IsTrue (course.signals actor) ⊎ HasSignal actor call.operation course.ideal (one.event ∷ events_of piece)
        of (inl before) = inl before
        of (inr now) = inr (inl now)
    signal_on (inr later) = inr (inr (subst (λ operation. HasSignal actor operation state (events_of piece)) (operation_made course.ideal one.event one.found call) later))

-- A run of a guest at which nothing stands: each event hands out what is there, and an access answers what it answers there; GICD_CTLR is being copied or not.

abbrev pub spreading_after : Event → Bool → Bool
spreading_after (CtlrBegin enables) b = true
spreading_after CtlrEnd b = false
spreading_after event b = b

abbrev pub IsAnswer : IdealGuest → Event → Found → Type 0
IsAnswer guest (Cpu vcpu reg write) found = found ≡ Answer (access_answer reg write guest vcpu)
IsAnswer guest event found = Unit {0}

abbrev pub marked : Bool → IdealGuest → View
marked b guest = record (view_of guest) { is_spreading = b }

pub record IsHomeEvent (b : Bool) (guest : IdealGuest) (one : Happened) : Type 0 where
  pub can : CanHappen guest.shape one.event
  pub hands : HandsOut (marked b guest) one.event one.found
  pub answers : IsAnswer guest one.event one.found

abbrev pub IsHomeRun : Bool → IdealGuest → List Happened → Type 0
IsHomeRun b guest [] = Unit {0}
IsHomeRun b guest (one ∷ piece) = IsHomeEvent b guest one × IsHomeRun (spreading_after one.event b) (after_event guest one.event) piece

-- An event of a tidy state is one of its guest with all taken back.

pub record IsHomeStep (shape : GuestShape) (actor : ℕ) (state : Ideal) (one : Happened) : Type 0 where
  pub tidy : IsTidy shape (happened actor one.event state)
  pub goes : home (happened actor one.event state) ≡ after_event (home state) one.event
  pub event : IsHomeEvent (is_some state.spreads) (home state) one

spreads_so : (actor : ℕ) (event : Event) (state : Ideal) → is_some (happened actor event state).spreads ≡ spreading_after event (is_some state.spreads)
spreads_so actor (Raise key) state = refl
spreads_so actor (Up key) state = refl
spreads_so actor (Down key) state = refl
spreads_so actor (Touch key touching) state = refl
spreads_so actor (Reach key vcpu) state = refl
spreads_so actor (Take key vcpu) state = take_cases (λ after. is_some after.spreads ≡ is_some state.spreads) state key vcpu refl (λ irq standing. refl)
spreads_so actor (Leave key vcpu) state = leave_cases (λ after. is_some after.spreads ≡ is_some state.spreads) state key vcpu refl (λ irq standing. refl)
spreads_so actor (Enable vcpu) state = refl
spreads_so actor (Cpu vcpu reg write) state = refl
spreads_so actor (Read place) state = refl
spreads_so actor (Put word value) state = refl
spreads_so actor (CtlrBegin enables) state = refl
spreads_so actor CtlrEnd state = refl
spreads_so actor ItsBegin state = refl
spreads_so actor ItsEnd state = refl
spreads_so actor (Queue offset change) state = refl

module _ (shape : GuestShape) (actor : ℕ) (state : Ideal) (tidy : IsTidy shape state) where
  home_shape : (home state).shape ≡ shape
  home_shape = ap (λ (g : IdealGuest). g.shape) (home_rest state) ∙ tidy.shape_is

  can_there : (event : Event) → CanHappen state.guest.shape event → CanHappen shape event
  can_there event can = subst (λ s. CanHappen s event) tidy.shape_is can

  can_home : (event : Event) → CanHappen state.guest.shape event → CanHappen (home state).shape event
  can_home event can = subst (λ s. CanHappen s event) (tidy.shape_is ∙ sym home_shape) can

  moved_step : (event : Event) → IsTrue (is_move event) → IsFine actor state event → HandsOut (marked (is_some state.spreads) (home state)) event (handed_out state event) → IsAnswer (home state) event (handed_out state event) → after_event (home state) event ≡ home state
      → IsHomeStep shape actor state (record { event = event; found = handed_out state event })
  moved_step event h fine hands answers still = record {
    tidy = event_tidy shape state tidy actor event (can_there event fine.can) fine.allowed;
    goes = move_keeps shape state tidy actor event h (can_there event fine.can) fine.allowed ∙ sym still;
    event = record { can = can_home event fine.can; hands = hands; answers = answers };
  }

  other_step : (event : Event) → IsTrue (not (is_move event || is_cpu event)) → IsFine actor state event → IsAnswer (home state) event (handed_out state event) → IsHomeStep shape actor state (record { event = event; found = handed_out state event })
  other_step event h fine answers =
      let passes = other_passes shape state tidy actor event h (can_there event fine.can) fine.allowed in
      record {
        tidy = event_tidy shape state tidy actor event (can_there event fine.can) fine.allowed;
        goes = passes.goes;
        event = record { can = can_home event fine.can; hands = passes.hands; answers = answers };
      }

  home_step : (event : Event) → IsFine actor state event → Shows state event → IsHomeStep shape actor state (record { event = event; found = handed_out state event })
  home_step (Raise key) fine shows = other_step (Raise key) refl fine tt
  home_step (Up key) fine shows = other_step (Up key) refl fine tt
  home_step (Down key) fine shows = other_step (Down key) refl fine tt
  home_step (Touch key touching) fine shows = other_step (Touch key touching) refl fine tt
  home_step (Reach key vcpu) fine shows = moved_step (Reach key vcpu) refl fine refl tt refl
  home_step (Take key vcpu) fine shows = moved_step (Take key vcpu) refl fine refl tt refl
  home_step (Leave key vcpu) fine shows = moved_step (Leave key vcpu) refl fine refl tt refl
  home_step (Enable vcpu) fine shows = other_step (Enable vcpu) refl fine tt
  home_step (Cpu vcpu reg write) fine shows =
      let can = can_there (Cpu vcpu reg write) fine.can in
      let passes = access_passes shape state tidy vcpu can.0 actor reg write shows in
      record {
        tidy = event_tidy shape state tidy actor (Cpu vcpu reg write) can fine.allowed;
        goes = passes.goes;
        event = record { can = can_home (Cpu vcpu reg write) fine.can; hands = (_, refl); answers = ap Answer passes.answers };
      }
  home_step (Read place) fine shows = other_step (Read place) refl fine tt
  home_step (Put word value) fine shows = other_step (Put word value) refl fine tt
  home_step (CtlrBegin enables) fine shows = other_step (CtlrBegin enables) refl fine tt
  home_step CtlrEnd fine shows = other_step CtlrEnd refl fine tt
  home_step ItsBegin fine shows = other_step ItsBegin refl fine tt
  home_step ItsEnd fine shows = other_step ItsEnd refl fine tt
  home_step (Queue offset change) fine shows = other_step (Queue offset change) refl fine tt

-- So are some, one after the other.

-- for which vCPUs the LPIs are after each is told by the guest with all taken back
abbrev pub Follows : ℕ → Ideal → IdealGuest → List Event → Type 0
Follows actor state guest [] = Unit {0}
Follows actor state guest (event ∷ events) =
    ((id : ℕ) → targets_in (happened actor event state) id ≡ (view_of (after_event guest event)).targets id) × Follows actor (happened actor event state) (after_event guest event) events

pub record AreHomeSteps (actor : ℕ) (state : Ideal) (piece : List Happened) : Type 0 where
  pub run : IsHomeRun (is_some state.spreads) (home state) piece
  pub goes : home (state_after actor (events_of piece) state) ≡ after_events (events_of piece) (home state)
  pub follows : Follows actor state (home state) (events_of piece)

home_steps : (shape : GuestShape) (actor : ℕ) (piece : List Happened) (state : Ideal) → IsTidy shape state → AreFine actor state (events_of piece) → AreHanded actor state piece → AllShow actor state piece → AreHomeSteps actor state piece
home_steps shape actor [] state tidy fine handed shows = record { run = tt; goes = refl; follows = tt }
home_steps shape actor (one ∷ piece) state tidy fine handed shows =
    let step : IsHomeStep shape actor state one = subst (λ f. IsHomeStep shape actor state (record { event = one.event; found = f })) (sym handed.0) (home_step shape actor state tidy one.event fine.0 shows.0) in
    let later = home_steps shape actor piece (happened actor one.event state) step.tidy fine.1 handed.1 shows.1 in
    record {
      run = (
        step.event,
        subst (λ b. IsHomeRun b (after_event (home state) one.event) piece) (spreads_so actor one.event state)
            (subst (λ g. IsHomeRun (is_some (happened actor one.event state).spreads) g piece) step.goes later.run),
      );
      goes = later.goes ∙ ap (after_events (events_of piece)) step.goes;
      follows = (
        λ id. sym (home_targets shape (happened actor one.event state) step.tidy id) ∙ ap (λ g. (view_of g).targets id) step.goes,
        subst (λ g. Follows actor (happened actor one.event state) g (events_of piece)) step.goes later.follows,
      );
    }

-- The call.

pub record LoneRun (guest : IdealGuest) (moments : List Moment) (actor : ℕ) (operation : Operation) (piece : List Happened) (answer : Option ℕ) : Type 0 where
  pub there : actor < length (course_of (opening_course guest) moments).calls
  pub tidy : IsTidy guest.shape (last_of guest moments)
  pub shape_is : (home (last_of guest moments)).shape ≡ guest.shape
  pub run : IsHomeRun false (home (last_of guest moments)) piece
  pub goes : home (last_of guest (moments ++ lone_call actor operation piece answer)) ≡ after_events (events_of piece) (home (last_of guest moments))
  pub follows : Follows actor (last_of guest moments) (home (last_of guest moments)) (events_of piece)
  pub piece_is : piece ≡ happenings actor (events_of piece) (last_of guest moments)
  pub signals : Bool
  pub ended : IsEndedAs signals guest.shape actor (call_after actor (events_of piece) (last_of guest moments) (begun (last_of guest moments) operation)) answer
  pub signal : IsTrue signals → HasSignal actor operation (last_of guest moments) (events_of piece)
  pub is_call : IsCall guest.shape ended.beside (vcpu_of guest.shape actor) operation piece answer

goes_all : (shape : GuestShape) (course : Course) (moments : List Moment) → IsCourse shape course → IsCourse shape (course_of course moments)
goes_all shape course [] at = at
goes_all shape course (moment ∷ moments) at = goes_all shape (gone_on course moment) moments (goes shape course moment at)

shape_after : (actor : ℕ) (events : List Event) (state : Ideal) → (state_after actor events state).guest.shape ≡ state.guest.shape
shape_after actor [] state = refl
shape_after actor (event ∷ events) state = shape_after actor events (happened actor event state) ∙ (guest_is actor event state).shape

-- as far as nobody asks what its accesses find
pub record IsLoneEnded (guest : IdealGuest) (moments : List Moment) (actor : ℕ) (operation : Operation) (piece : List Happened) (answer : Option ℕ) : Type 0 where
  pub there : actor < length (course_of (opening_course guest) moments).calls
  pub end : LoneEnd actor answer (gone_on (course_of (opening_course guest) moments) (Begin actor operation)) (begun (last_of guest moments) operation) piece
  pub signals : Bool
  pub ended : IsEndedAs signals guest.shape actor (call_after actor (events_of piece) (last_of guest moments) (begun (last_of guest moments) operation)) answer
  pub signal : IsTrue signals → HasSignal actor operation (last_of guest moments) (events_of piece)
  pub is_call : IsCall guest.shape ended.beside (vcpu_of guest.shape actor) operation piece answer

pub lone_ended : (guest : IdealGuest) (moments : List Moment) (actor : ℕ) (operation : Operation) (piece : List Happened) (answer : Option ℕ) → CanOpen guest → IsHistory guest (moments ++ lone_call actor operation piece answer) → IsLoneEnded guest moments actor operation piece answer
lone_ended guest moments actor operation piece answer good history =
    let call = lone_call actor operation piece answer in
    let course = course_of (opening_course guest) moments in
    let going : GoesOn course call = (goes_before (opening_course guest) moments call history).1 in
    let at = goes_all guest.shape (opening_course guest) moments (opens guest good) in
    let open_call = begun course.ideal operation in
    let there = subst (λ n. actor < n) (sym at.each) (subst (λ s. actor < actor_count s) at.shape_is going.0.0) in
    let end = ends_on actor answer piece (gone_on course (Begin actor operation)) open_call (begun_here course actor operation there) going.1 in
    let last = call_after actor (events_of piece) course.ideal open_call in
    let ended = subst (λ s. IsEndedAs end.signals s actor last answer) (shape_after actor (events_of piece) course.ideal ∙ at.shape_is) end.ended in
    record {
      there = there;
      end = end;
      signals = end.signals;
      ended = ended;
      signal = λ h. since_begun (end.signal h);
      is_call =
          subst (λ op. IsCall guest.shape ended.beside (vcpu_of guest.shape actor) op piece answer) (operation_after actor (events_of piece) course.ideal open_call)
          (subst (λ xs. IsCall guest.shape ended.beside (vcpu_of guest.shape actor) last.operation xs answer) (piece_after actor (events_of piece) course.ideal open_call ∙ sym end.piece_is) ended.is_call);
    }
  where
    course : Course
    course = course_of (opening_course guest) moments

    -- as the call began nothing was raised in it
    none_raised : IsTrue ((gone_on course (Begin actor operation)).signals actor) → ⊥
    none_raised h = let no : false ≡ true = ap (λ b. cond b false (course.signals actor)) (sym (eq-eqb actor actor refl)) ∙ h in absurd (cc)

    since_begun : IsTrue ((gone_on course (Begin actor operation)).signals actor) ⊎ HasSignal actor operation (last_of guest moments) (events_of piece) → HasSignal actor operation (last_of guest moments) (events_of piece)
    since_begun (inl h) = absurd (none_raised h)
    since_begun (inr has) = has

pub lone_run : (guest : IdealGuest) (moments : List Moment) (actor : ℕ) (operation : Operation) (piece : List Happened) (answer : Option ℕ) → IsLoneCall guest moments actor operation piece answer → LoneRun guest moments actor operation piece answer
lone_run guest moments actor operation piece answer is =
    let call = lone_call actor operation piece answer in
    let course = course_of (opening_course guest) moments in
    let early : IsHistory guest moments = (goes_before (opening_course guest) moments call is.history).0 in
    let tidy = moments_tidy guest.shape (opening_course guest) moments early (opens_tidy guest is.good) in
    let so = lone_ended guest moments actor operation piece answer is.good is.history in
    let steps = home_steps guest.shape actor piece course.ideal tidy so.end.fine so.end.handed is.shows in
    record {
      there = so.there;
      tidy = tidy;
      shape_is = ap (λ (g : IdealGuest). g.shape) (home_rest course.ideal) ∙ tidy.shape_is;
      run = subst (λ o. IsHomeRun (is_some o) (home course.ideal) piece) (nobody_spreads guest moments is.good early is.whole) steps.run;
      goes = ap (λ (c : Course). home c.ideal) (fold-append gone_on (opening_course guest) moments call) ∙ ap home so.end.ideal_is ∙ steps.goes;
      follows = steps.follows;
      piece_is = so.end.piece_is;
      signals = so.signals;
      ended = so.ended;
      signal = so.signal;
      is_call = so.is_call;
    }
