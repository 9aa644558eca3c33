-- The part of a message whose device found its LPI in a line ends as its call.
use Rattle.std.proofs.Common.{◌≡◌, ◌≢◌, ℕ, ◌-◌, ◌<◌, ◌==◌, ◌||◌, ◌⊎◌, inl, inr, true≢false, not, Bool, true, false, IsTrue, Contains, List, [], ◌∷◌, ◌++◌, map, Option, option_map, Some, None, nat_lt, if◌then◌else◌, refl, sym, ap, subst, ◌∙◌}
use Rattle.std.specs.Option.{option_map_or, option_to_list}
use Rattle.std.proofs.lemmas.Bool.{and_parts, cases_eq, eq-eqb, lt-ltb, ne_eqb}
use Rattle.std.proofs.lemmas.Grind.{fold-append}
use Rattle.std.proofs.lemmas.List.{append_assoc, append-nil, get_or-set_same, get_or-set_other}
use Rattle.std.proofs.lemmas.List.Elements.{All-cons, All-nil, Contains-append_left}
use Rattle.law_lines_translate.specs.Words.{GuestShape, Lpi, Msi, has_bit}
use Rattle.law_lines_translate.specs.Calls.{Beside, Device, Happened, HandsOut, IsCall, Operation, View, Begin}
use Rattle.law_lines_translate.specs.GicCall.declared.event.Event.TheVariants.{Raise as RaiseEvent}
use Rattle.law_lines_translate.specs.GicCall.declared.event.Found.TheVariants.{Nothing}
use Rattle.law_lines_translate.specs.GicHistory.History.{begun, is_passed, is_signal, signals_after, vcpu_of, with_signal}
use Rattle.law_lines_translate.specs.GicHistory.State.{view_at}
use Rattle.law_lines_translate.specs.Histories.{Call, Course, IsCallEnded, call_of, course_of, gone_on, happened, made as made_in, opening_course, seeing, targets_in, Ideal, IdealGuest, CanOpen}
use Rattle.law_lines_translate.specs.Core.{Entered, Line, Made, Raise, CoreState, Seat, actor_count, after, after_moment, end_of_moments, event_moments, events_of, has_word, ideal_moments, ideal_of, line_count, line_of, local_after, local_by, no_seat, opening, own_acts, seat_at, shape_of, stands_for, Act, begins, makes, ends, CoreMoment, IsPartedRun, IsSound, word_in}
use Rattle.law_core_is_history.specs.Laws.{AreCalls, IsCallAt}
use Rattle.law_core_is_history.proofs.HistorySteps.{LeadsTo, own_here, own_other, run_leads}
use Rattle.law_histories.proofs.CourseLemmas.{begun_here, begun_other, ended_other, made_here, made_other}
use Rattle.law_lines_translate.proofs.VcpuRefill.ElementLemmas.{Contains-here}
use Rattle.law_core_is_history.proofs.PrefixLemmas.{calls_before, parted_before}
use Rattle.law_core_is_history.specs.Posts.{PostsEndAsCalls}
use Rattle.law_core_is_history.proofs.MidwayRuns.{course_next}
use Rattle.law_core_is_history.proofs.PostRuns.{posts_signal}

-- A call in progress.

abbrev message : Entered → Operation
message entered = Device (Msi entered.pair.0 entered.pair.1)

abbrev raising : Entered → Happened
raising entered = record { event = RaiseEvent (Lpi entered.lpi); found = Nothing }

-- the actor is in the call of the message, has made these events, and noted for which vCPUs LPIs are
record IsMade (actor : ℕ) (entered : Entered) (course : Course) (piece : List Happened) : Type 0 where
  pub call : Call
  pub is : call_of course actor ≡ Some call
  pub operation : call.operation ≡ message entered
  pub piece_is : call.piece ≡ piece
  pub chosen : ℕ → Option ℕ
  pub some : (id : ℕ) → Contains (call.targets id) (chosen id)

module _ (actor : ℕ) (entered : Entered) where
  seen_some : (ideal : Ideal) (call : Call) (id : ℕ) (o : Option ℕ) → Contains (call.targets id) o → Contains ((seeing ideal call).targets id) o
  seen_some ideal call id o has = of (is_passed call.place id)
    where
      of : (b : Bool) → Contains (if b then call.targets id else call.targets id ++ targets_in ideal id ∷ []) o
      of true = has
      of false = Contains-append_left (call.targets id) (targets_in ideal id ∷ []) o has

  -- another actor's event
  made_by_other : (course : Course) (other : ℕ) (o : Option Happened) (piece : List Happened) → other ≢ actor → IsMade actor entered course piece → IsMade actor entered (course_of course (event_moments other o)) piece
  made_by_other course other None piece differ so = so
  made_by_other course other (Some one) piece differ so =
      let ideal = happened other one.event course.ideal in
      record {
        call = seeing ideal so.call;
        is = made_other course other one.event one.found actor (λ e. differ (sym e)) ∙ ap (option_map (seeing ideal)) so.is;
        operation = so.operation;
        piece_is = so.piece_is;
        chosen = so.chosen;
        some = λ id. seen_some ideal so.call id (so.chosen id) (so.some id);
      }

  -- the raise
  made_raise : (course : Course) → IsMade actor entered course [] → IsMade actor entered (course_of course (event_moments actor (Some (raising entered)))) (raising entered ∷ [])
  made_raise course so =
      let ideal = happened actor (RaiseEvent (Lpi entered.lpi)) course.ideal in
      let made = made_in course.ideal (RaiseEvent (Lpi entered.lpi)) Nothing so.call in
      record {
        call = seeing ideal made;
        is = made_here course actor (RaiseEvent (Lpi entered.lpi)) Nothing so.call so.is;
        operation = so.operation;
        piece_is = ap (λ p. p ++ raising entered ∷ []) so.piece_is;
        chosen = so.chosen;
        some = λ id. seen_some ideal made id (so.chosen id) (so.some id);
      }

  -- another actor's moment
  other_made : (shape : GuestShape) (seat : Seat) (course : Course) (other : ℕ) (act : Act) (piece : List Happened) → other ≢ actor → IsMade actor entered course piece → IsMade actor entered (course_of course (ideal_moments shape seat other act)) piece
  other_made shape seat course other (begins operation lrs) piece differ so =
      record { call = so.call; is = begun_other course other operation actor (λ e. differ (sym e)) ∙ so.is; operation = so.operation; piece_is = so.piece_is; chosen = so.chosen; some = so.some }
  other_made shape seat course other (ends answer) piece differ so =
      record { call = so.call; is = ended_other course other answer actor (λ e. differ (sym e)) ∙ so.is; operation = so.operation; piece_is = so.piece_is; chosen = so.chosen; some = so.some }
  other_made shape seat course other (makes made) piece differ so = made_by_other course other (stands_for shape other seat.local seat.own made.step made.found) piece differ so

  -- what it signalled stays so
  signalled : (shape : GuestShape) (seat : Seat) (course : Course) (other : ℕ) (act : Act) → other ≢ actor → (course_of course (ideal_moments shape seat other act)).signals actor ≡ course.signals actor
  signalled shape seat course other act differ = of act
    where
      kept : (b : Bool) → with_signal course other b actor ≡ course.signals actor
      kept b = ap (λ c. if c then b else course.signals actor) (ne_eqb actor other (λ e. differ (sym e)))

      event : (o : Option Happened) → (course_of course (event_moments other o)).signals actor ≡ course.signals actor
      event None = refl
      event (Some one) = kept (signals_after course other one.event)

      of : (act : Act) → (course_of course (ideal_moments shape seat other act)).signals actor ≡ course.signals actor
      of (begins operation lrs) = kept false
      of (ends answer) = kept false
      of (makes made) = event (stands_for shape other seat.local seat.own made.step made.found)

  -- and its raise is a signal where it is one
  raised_signals : (course : Course) → IsMade actor entered course [] → is_signal course (message entered) (RaiseEvent (Lpi entered.lpi)) ≡ true → (course_of course (event_moments actor (Some (raising entered)))).signals actor ≡ true
  raised_signals course so signal =
      let event = RaiseEvent (Lpi entered.lpi) in
      ap (λ b. if b then signals_after course actor event else course.signals actor) (eq-eqb actor actor refl) ∙ ap (λ o. course.signals actor || option_map_or (λ (call : Call). is_signal course call.operation event) o false) so.is
      ∙ ap (λ op. course.signals actor || is_signal course op event) so.operation ∙ ap (λ b. course.signals actor || b) signal ∙ or_true (course.signals actor)
    where
      or_true : (b : Bool) → (b || true) ≡ true
      or_true true = refl
      or_true false = refl

  -- the end of the call
  ended : (shape : GuestShape) (course : Course) (answer : Option ℕ) → vcpu_of shape actor ≡ None → IsMade actor entered course (raising entered ∷ []) → course.signals actor ≡ true → answer ≡ None → IsCallAt shape course actor (ends answer)
  ended shape course answer device so signals none = subst (λ o. IsCallEnded (course.signals actor) shape actor o answer) (sym so.is) (record {
    beside = beside;
    maps = refl;
    commands = refl;
    targets = λ id. so.some id;
    right = λ h. signals;
    is_call = subst (λ v. IsCall shape beside v so.call.operation so.call.piece answer) (sym device) (subst (λ op. IsCall shape beside None op so.call.piece answer) (sym so.operation) (subst (λ p. IsCall shape beside None (message entered) p answer) (sym so.piece_is) post));
  })
    where
      beside : Beside
      beside = record { maps = so.call.maps; targets = so.chosen; commands = so.call.commands; signals = true }

      view : View
      view = record (view_at course.ideal) { maps = so.call.maps }

      post : IsCall shape beside None (message entered) (raising entered ∷ []) answer
      post = record {
        view = view;
        maps = refl;
        made = inr (record { id = entered.lpi; raised = record { events_are = refl; found = All-cons (λ (h : Happened). HandsOut view h.event h.found) (raising entered) [] refl (All-nil (λ (h : Happened). HandsOut view h.event h.found)); reads = All-nil _ }; right = refl });
        answers = none;
      }

-- Before the raise, and after it.

-- an actor after a step
abbrev next_seat : GuestShape → ℕ → Seat → Made → Seat
next_seat shape actor seat made = record { local = local_after shape actor seat.local made.step made.found; own = seat.own ++ made ∷ [] }

abbrev stood : GuestShape → ℕ → Seat → Made → Option Happened
stood shape actor seat made = stands_for shape actor seat.local seat.own made.step made.found

-- the raise is to come: up to it the actor makes no event, and none after it; and it will be in the line then
record IsBefore (shape : GuestShape) (actor : ℕ) (entered : Entered) (seat : Seat) (course : Course) (todo : List Made) : Type 0 where
  pub rest : List Made
  pub raise : Made
  pub late : List Made
  pub todo_is : todo ≡ rest ++ raise ∷ late
  pub raises : raise.step ≡ Raise (Lpi entered.lpi)
  pub inside : (local_by shape actor seat.local rest).line ≡ Some entered
  pub quiet : events_of shape actor seat.local seat.own rest ≡ []
  pub after : events_of shape actor (local_by shape actor seat.local (rest ++ raise ∷ [])) (seat.own ++ (rest ++ raise ∷ [])) late ≡ []
  pub made : IsMade actor entered course []

-- it was made, and was a signal
record IsAfter (shape : GuestShape) (actor : ℕ) (entered : Entered) (seat : Seat) (course : Course) (todo : List Made) : Type 0 where
  pub quiet : events_of shape actor seat.local seat.own todo ≡ []
  pub signals : course.signals actor ≡ true
  pub device : vcpu_of shape actor ≡ None
  pub made : IsMade actor entered course (raising entered ∷ [])

-- what a raise finds while its actor is in the line
record CanSignal (shape : GuestShape) (actor : ℕ) (entered : Entered) (course : Course) : Type 0 where
  pub signal : is_signal course (message entered) (RaiseEvent (Lpi entered.lpi)) ≡ true
  pub device : vcpu_of shape actor ≡ None

none_first : (o : Option Happened) (rest : List Happened) → option_to_list o ++ rest ≡ [] → (o ≡ None) × (rest ≡ [])
none_first None rest e = (refl, e)
none_first (Some one) rest e = absurd (cc)

same_head : {X : Type 0} (x y : X) (xs ys : List X) → x ∷ xs ≡ y ∷ ys → x ≡ y
same_head x y xs ys e = cc

same_tail : {X : Type 0} (x y : X) (xs ys : List X) → x ∷ xs ≡ y ∷ ys → xs ≡ ys
same_tail x y xs ys e = cc

module _ (shape : GuestShape) (actor : ℕ) (entered : Entered) (seat : Seat) (course : Course) where
  abbrev Later : Made → Course
  Later made = course_of course (event_moments actor (stood shape actor seat made))

  -- a step that stands for nothing
  silent_course : (made : Made) → stood shape actor seat made ≡ None → Later made ≡ course
  silent_course made e = ap (λ o. course_of course (event_moments actor o)) e

  raise_stands : (made : Made) → made.step ≡ Raise (Lpi entered.lpi) → stood shape actor seat made ≡ Some (raising entered)
  raise_stands made e = ap (λ step. stands_for shape actor seat.local seat.own step made.found) e

  before_step : (made : Made) (todo : List Made) → (seat.local.line ≡ Some entered → CanSignal shape actor entered course) → IsBefore shape actor entered seat course (made ∷ todo)
      → IsBefore shape actor entered (next_seat shape actor seat made) (Later made) todo ⊎ IsAfter shape actor entered (next_seat shape actor seat made) (Later made) todo
  before_step made todo can so = of so.rest so.todo_is so.inside so.quiet so.after
    where
      of : (rest : List Made) → made ∷ todo ≡ rest ++ so.raise ∷ so.late → (local_by shape actor seat.local rest).line ≡ Some entered → events_of shape actor seat.local seat.own rest ≡ []
          → events_of shape actor (local_by shape actor seat.local (rest ++ so.raise ∷ [])) (seat.own ++ (rest ++ so.raise ∷ [])) so.late ≡ []
          → IsBefore shape actor entered (next_seat shape actor seat made) (Later made) todo ⊎ IsAfter shape actor entered (next_seat shape actor seat made) (Later made) todo
      of [] e inside quiet after =
          let now : so.raise ≡ made = sym (same_head made so.raise todo so.late e) in
          let stands = raise_stands made (ap (λ (m : Made). m.step) (sym now) ∙ so.raises) in
          let able = can inside in
          let After : Made → Type 0 = λ m. events_of shape actor (local_by shape actor seat.local (m ∷ [])) (seat.own ++ m ∷ []) todo ≡ [] in
          inr (record {
            quiet = subst After now (subst (λ l. events_of shape actor (local_by shape actor seat.local (so.raise ∷ [])) (seat.own ++ so.raise ∷ []) l ≡ []) (sym (same_tail made so.raise todo so.late e)) after);
            signals = ap (λ o. (course_of course (event_moments actor o)).signals actor) stands ∙ raised_signals actor entered course so.made able.signal;
            device = able.device;
            made = subst (λ o. IsMade actor entered (course_of course (event_moments actor o)) (raising entered ∷ [])) (sym stands) (made_raise actor entered course so.made);
          })
      of (first ∷ rest) e inside quiet after =
          let now : first ≡ made = sym (same_head made first todo (rest ++ so.raise ∷ so.late) e) in
          let parts = none_first (stood shape actor seat first) _ quiet in
          let silent : stood shape actor seat made ≡ None = ap (stood shape actor seat) (sym now) ∙ parts.0 in
          let At : Made → Type 0 = λ m. IsBefore shape actor entered (next_seat shape actor seat m) course todo in
          inl (subst (λ c. IsBefore shape actor entered (next_seat shape actor seat made) c todo) (sym (silent_course made silent))
          (subst At now (record {
            rest = rest;
            raise = so.raise;
            late = so.late;
            todo_is = same_tail made first todo (rest ++ so.raise ∷ so.late) e;
            raises = so.raises;
            inside = inside;
            quiet = parts.1;
            after = subst (λ own. events_of shape actor (local_by shape actor seat.local (first ∷ (rest ++ so.raise ∷ []))) own so.late ≡ []) (sym (append_assoc seat.own (first ∷ []) (rest ++ so.raise ∷ []))) after;
            made = so.made;
          })))

  after_step : (made : Made) (todo : List Made) → IsAfter shape actor entered seat course (made ∷ todo) → IsAfter shape actor entered (next_seat shape actor seat made) (Later made) todo
  after_step made todo so =
      let parts = none_first (stood shape actor seat made) _ so.quiet in
      subst (λ c. IsAfter shape actor entered (next_seat shape actor seat made) c todo) (sym (silent_course made parts.0)) (record { quiet = parts.1; signals = so.signals; device = so.device; made = so.made })

-- Runs.

-- who is in a line is a device
is_device : (shape : GuestShape) (state : CoreState) → IsSound shape state → (actor : ℕ) → actor < actor_count shape → (entered : Entered) → (seat_at state actor).local.line ≡ Some entered → vcpu_of shape actor ≡ None
is_device shape state sound actor within entered is =
    let line = entered.line in
    let there : IsTrue (has_word shape (Line line)) = lt-ltb line (line_count shape) ((sound.locals actor within).line entered is).there in
    let inside = sound.ties actor (Line line) within there ∙ ap (λ o. option_map_or (λ (x : Entered). x.line == line) o false) is ∙ eq-eqb line line refl in
    of (nat_lt actor shape.vcpus) (and_parts (not (nat_lt actor shape.vcpus)) (has_bit (line_of (word_in shape state (Line line))).inside (actor - shape.vcpus)) inside).0
  where
    of : (b : Bool) → not b ≡ true → (if b then Some actor else None) ≡ None
    of true h = absurd (true≢false (sym h))
    of false h = refl

module _ (guest : IdealGuest) (number : ℕ) (good : CanOpen guest) (actor : ℕ) (within : actor < actor_count guest.shape) (entered : Entered) where
  abbrev State : List CoreMoment → CoreState
  State moments = end_of_moments guest.shape (opening guest number) moments

  abbrev At : List CoreMoment → Course
  At moments = course_of (opening_course guest) (ideal_of guest.shape (opening guest number) moments)

  abbrev Phase : Seat → Course → List Made → Type 0
  Phase seat course todo = IsBefore guest.shape actor entered seat course todo ⊎ IsAfter guest.shape actor entered seat course todo

  state_next : (early : List CoreMoment) (moment : CoreMoment) → State (early ++ moment ∷ []) ≡ after_moment guest.shape (State early) moment
  state_next early moment = fold-append (after_moment guest.shape) (opening guest number) early (moment ∷ [])

  -- another actor's moment
  other_seat : (early : List CoreMoment) (moment : CoreMoment) → moment.actor ≢ actor → seat_at (State (early ++ moment ∷ [])) actor ≡ seat_at (State early) actor
  other_seat early moment differ = ap (λ s. seat_at s actor) (state_next early moment) ∙ of moment.act
    where
      of : (act : Act) → seat_at (after_moment guest.shape (State early) (record { actor = moment.actor; act = act })) actor ≡ seat_at (State early) actor
      of (begins operation lrs) = refl
      of (ends answer) = refl
      of (makes made) = get_or-set_other (State early).seats moment.actor actor _ no_seat (λ e. differ (sym e))

  other_phase : (early : List CoreMoment) (moment : CoreMoment) (todo : List Made) → moment.actor ≢ actor → Phase (seat_at (State early) actor) (At early) todo → Phase (seat_at (State (early ++ moment ∷ [])) actor) (At (early ++ moment ∷ [])) todo
  other_phase early moment todo differ phase =
      subst (λ seat. Phase seat (At (early ++ moment ∷ [])) todo) (sym (other_seat early moment differ)) (subst (λ course. Phase (seat_at (State early) actor) course todo) (sym (course_next guest number early moment)) (of phase))
    where
      seat : Seat
      seat = seat_at (State early) moment.actor

      of : Phase (seat_at (State early) actor) (At early) todo → Phase (seat_at (State early) actor) (course_of (At early) (ideal_moments guest.shape (seat_at (State early) moment.actor) moment.actor moment.act)) todo
      of (inl so) = inl (record {
        rest = so.rest;
        raise = so.raise;
        late = so.late;
        todo_is = so.todo_is;
        raises = so.raises;
        inside = so.inside;
        quiet = so.quiet;
        after = so.after;
        made = other_made actor entered guest.shape seat (At early) moment.actor moment.act [] differ so.made;
      })
      of (inr so) = inr (record {
        quiet = so.quiet;
        signals = signalled actor entered guest.shape seat (At early) moment.actor moment.act differ ∙ so.signals;
        device = so.device;
        made = other_made actor entered guest.shape seat (At early) moment.actor moment.act (raising entered ∷ []) differ so.made;
      })

  -- a step of its own
  mine_phase :
      (early : List CoreMoment) (made : Made) (todo : List Made) → IsPartedRun guest number early → AreCalls guest.shape (opening guest number) (opening_course guest) early → Phase (seat_at (State early) actor) (At early) (made ∷ todo)
      → let moment : CoreMoment = record { actor = actor; act = makes made } in Phase (seat_at (State (early ++ moment ∷ [])) actor) (At (early ++ moment ∷ [])) todo
  mine_phase early made todo parted calls phase =
      let moment : CoreMoment = record { actor = actor; act = makes made } in
      subst (λ seat. Phase seat (At (early ++ moment ∷ [])) todo) (sym seat_is) (subst (λ course. Phase (next_seat guest.shape actor (seat_at (State early) actor) made) course todo) (sym (course_next guest number early moment)) (of phase))
    where
      leads : LeadsTo guest.shape good.sound.shape (opening guest number) (opening_course guest) early
      leads = run_leads guest number early good parted calls

      seat_is : seat_at (State (early ++ (let moment : CoreMoment = record { actor = actor; act = makes made } in moment) ∷ [])) actor ≡ next_seat guest.shape actor (seat_at (State early) actor) made
      seat_is =
          ap (λ s. seat_at s actor) (state_next early (record { actor = actor; act = makes made }))
          ∙ get_or-set_same (State early).seats actor (next_seat guest.shape actor (seat_at (State early) actor) made) no_seat (subst (λ n. actor < n) (sym leads.at.sound.actors) within)

      can : (seat_at (State early) actor).local.line ≡ Some entered → CanSignal guest.shape actor entered (At early)
      can inside = record { signal = posts_signal guest number early actor entered good parted calls within inside; device = is_device guest.shape (State early) leads.at.sound actor within entered inside }

      of : Phase (seat_at (State early) actor) (At early) (made ∷ todo) → Phase (next_seat guest.shape actor (seat_at (State early) actor) made) (course_of (At early) (event_moments actor (stood guest.shape actor (seat_at (State early) actor) made))) todo
      of (inl so) = before_step guest.shape actor entered (seat_at (State early) actor) (At early) made todo can so
      of (inr so) = inr (after_step guest.shape actor entered (seat_at (State early) actor) (At early) made todo so)

  along :
      (early late : List CoreMoment) (todo : List Made) → IsPartedRun guest number (early ++ late) → AreCalls guest.shape (opening guest number) (opening_course guest) (early ++ late) → own_acts actor late ≡ map makes todo
      → Phase (seat_at (State early) actor) (At early) todo → IsAfter guest.shape actor entered (seat_at (State (early ++ late)) actor) (At (early ++ late)) []
  along early [] todo parted calls own phase = subst (λ moments. IsAfter guest.shape actor entered (seat_at (State moments) actor) (At moments) []) (sym (append-nil early)) (of todo own phase)
    where
      of : (todo : List Made) → [] ≡ map makes todo → Phase (seat_at (State early) actor) (At early) todo → IsAfter guest.shape actor entered (seat_at (State early) actor) (At early) []
      of [] e (inr so) = so
      of [] e (inl so) = absurd (none_there so.rest so.todo_is)
        where
          none_there : (rest : List Made) → [] ≡ rest ++ so.raise ∷ so.late → ⊥
          none_there [] e = absurd (cc)
          none_there (first ∷ rest) e = absurd (cc)
      of (made ∷ todo) e phase = absurd (cc)
  along early (moment ∷ late) todo parted calls own phase =
      let whole = subst (IsPartedRun guest number) (sym same) parted in
      let called = subst (AreCalls guest.shape (opening guest number) (opening_course guest)) (sym same) calls in
      let next = goes todo own phase in
      subst (λ moments. IsAfter guest.shape actor entered (seat_at (State moments) actor) (At moments) []) same (along (early ++ moment ∷ []) late next.0 whole called next.1.0 next.1.1)
    where
      same : (early ++ moment ∷ []) ++ late ≡ early ++ moment ∷ late
      same = append_assoc early (moment ∷ []) late

      goes : (todo : List Made) → own_acts actor (moment ∷ late) ≡ map makes todo → Phase (seat_at (State early) actor) (At early) todo → (rest : List Made) × ((own_acts actor late ≡ map makes rest) × Phase (seat_at (State (early ++ moment ∷ [])) actor) (At (early ++ moment ∷ [])) rest)
      goes todo own phase = elim (cases_eq moment.actor actor) [
        | inl mine ↦ own_goes mine todo (sym (own_mine mine) ∙ own) phase
        | inr differ ↦ (todo, (sym (own_apart differ) ∙ own, other_phase early moment todo differ phase))
      ]
        where
          own_mine : moment.actor ≡ actor → own_acts actor (moment ∷ late) ≡ moment.act ∷ own_acts actor late
          own_mine mine = subst (λ n. own_acts n (moment ∷ late) ≡ moment.act ∷ own_acts n late) mine (own_here moment.actor moment.act late)

          own_apart : moment.actor ≢ actor → own_acts actor (moment ∷ late) ≡ own_acts actor late
          own_apart differ = own_other moment.actor actor moment.act late (λ e. differ (sym e))

          own_goes : moment.actor ≡ actor → (todo : List Made) → moment.act ∷ own_acts actor late ≡ map makes todo → Phase (seat_at (State early) actor) (At early) todo
              → (rest : List Made) × ((own_acts actor late ≡ map makes rest) × Phase (seat_at (State (early ++ moment ∷ [])) actor) (At (early ++ moment ∷ [])) rest)
          own_goes mine [] e phase = absurd (cc)
          own_goes mine (made ∷ rest) e phase =
              let act : moment.act ≡ makes made = same_head moment.act (makes made) (own_acts actor late) (map makes rest) e in
              let moment_is : (let m : CoreMoment = record { actor = actor; act = makes made } in m) ≡ moment = ap (λ n. (let m : CoreMoment = record { actor = n; act = makes made } in m)) (sym mine) ∙ ap (λ a. (let m : CoreMoment = record { actor = moment.actor; act = a } in m)) (sym act) in
              let before = parted_before guest number early (moment ∷ late) parted in
              let called = calls_before guest.shape (opening guest number) (opening_course guest) early (moment ∷ late) calls in (
                rest,
                (
                  same_tail moment.act (makes made) (own_acts actor late) (map makes rest) e,
                  subst (λ m. Phase (seat_at (State (early ++ m ∷ [])) actor) (At (early ++ m ∷ [])) rest) moment_is (mine_phase early made rest before called phase),
                ),
              )

-- A part that makes a post.

pub posts_end : PostsEndAsCalls
posts_end guest number moments seen operation lrs steps answer good parted calls within way post =
    let same : (way.before ++ begin ∷ []) ++ way.since ≡ moments = append_assoc way.before (begin ∷ []) way.since ∙ sym way.split in
    let last = along guest number good seen.actor within post.entered (way.before ++ begin ∷ []) way.since steps (subst (IsPartedRun guest number) (sym same) parted) (subst (AreCalls guest.shape (opening guest number) (opening_course guest)) (sym same) calls) way.made (inl begun_so) in
    let so = subst (λ m. IsAfter guest.shape seen.actor post.entered (seat_at (end_of_moments guest.shape (opening guest number) m) seen.actor) (course_of (opening_course guest) (ideal_of guest.shape (opening guest number) m)) []) same last in
    ended seen.actor post.entered guest.shape (course_of (opening_course guest) (ideal_of guest.shape (opening guest number) moments)) answer so.device so.made so.signals post.answers
  where
    begin : CoreMoment
    begin = record { actor = seen.actor; act = begins operation lrs }

    state : CoreState
    state = end_of_moments guest.shape (opening guest number) way.before

    course : Course
    course = course_of (opening_course guest) (ideal_of guest.shape (opening guest number) way.before)

    leads : LeadsTo guest.shape good.sound.shape (opening guest number) (opening_course guest) way.before
    leads =
        run_leads guest number way.before good (parted_before guest number way.before (begin ∷ way.since) (subst (IsPartedRun guest number) way.split parted))
        (calls_before guest.shape (opening guest number) (opening_course guest) way.before (begin ∷ way.since) (subst (AreCalls guest.shape (opening guest number) (opening_course guest)) way.split calls))

    told : Seat
    told = record { local = seen.local; own = seen.own }

    told_is : told ≡ seat_at state seen.actor
    told_is = ap (λ l. (let s : Seat = record { local = l; own = seen.own } in s)) way.local_is ∙ ap (λ o. (let s : Seat = record { local = (seat_at state seen.actor).local; own = o } in s)) way.own_is

    base : IsBefore (shape_of seen) seen.actor post.entered told (gone_on course (Begin seen.actor operation)) steps
    base = record {
      rest = post.early;
      raise = post.raise;
      late = post.late;
      todo_is = post.split;
      raises = post.raises;
      inside = post.inside;
      quiet = post.before;
      after = post.after;
      made = record {
        call = begun course.ideal operation;
        is = begun_here course seen.actor operation (subst (λ n. seen.actor < n) (sym leads.at.each) within);
        operation = post.message;
        piece_is = refl;
        chosen = λ id. targets_in course.ideal id;
        some = λ id. Contains-here (targets_in course.ideal id) [];
      };
    }

    begun_so : IsBefore guest.shape seen.actor post.entered (seat_at (end_of_moments guest.shape (opening guest number) (way.before ++ begin ∷ [])) seen.actor) (course_of (opening_course guest) (ideal_of guest.shape (opening guest number) (way.before ++ begin ∷ []))) steps
    begun_so =
        subst (λ s. IsBefore guest.shape seen.actor post.entered (seat_at s seen.actor) (course_of (opening_course guest) (ideal_of guest.shape (opening guest number) (way.before ++ begin ∷ []))) steps) (sym (fold-append (after_moment guest.shape) (opening guest number) way.before (begin ∷ [])))
        (subst (λ c. IsBefore guest.shape seen.actor post.entered (seat_at state seen.actor) c steps) (sym (course_next guest number way.before begin))
        (subst (λ s. IsBefore guest.shape seen.actor post.entered s (gone_on course (Begin seen.actor operation)) steps) told_is
        (subst (λ (g : IdealGuest). IsBefore g.shape seen.actor post.entered told (gone_on course (Begin seen.actor operation)) steps) way.guest_is base)))
