-- In a history whose calls all end, an access of a CPU interface is made in a call for it, and comes before all other events of interrupts of that.
use Rattle.std.proofs.Common.{◌≡◌, ℕ, ◌<◌, ◌≤◌, zero, suc, not, true≢false, inl, inr, Bool, true, false, cond, IsTrue, List, [], ◌∷◌, ◌++◌, fold, length, replicate, slice_index_or, Option, option_map, Some, None, is_some, refl, sym, ap, ◌∙◌, subst}
use Rattle.std.specs.List.{list_all}
use Rattle.std.proofs.lemmas.Bool.{and_parts, and_from, cases_eq, cases_lt}
use Rattle.std.proofs.lemmas.List.{append_assoc, get_or_past}
use Rattle.std.proofs.lemmas.List.Elements.{filter-append}
use Rattle.law_lone_calls_are_eager.specs.Words.{IccReg, Icc, GuestShape, IsShape}
use Rattle.law_lone_calls_are_eager.specs.Calls.{Event, Cpu, Reach, Take, Leave, Found, Moment, Begin, Happens, Operation, Access, icc_raises, Beside, Happened, IsCall, is_beside, named_of, CanHappen}
use Rattle.law_lone_calls_are_eager.specs.GicCall.declared.event.Event.TheVariants.{Read}
use Rattle.law_lone_calls_are_eager.specs.GicCall.declared.event.Moment.TheVariants.{End}
use Rattle.law_lone_calls_are_eager.specs.Histories.{Doing, after_doing, doing_of, is_kept, Call, Course, GoesOn, IsCallEnded, IsHistory, IsNext, IsWhole, actor_count, call_of, course_of, gone_on, made, opening_course, seeing, vcpu_of, happened, Ideal, IdealGuest, CanOpen}
use Rattle.law_lone_calls_are_eager.proofs.LawHistories.CourseLemmas.{begun_here, begun_other, call_is, ended_here, ended_other, made_here, made_other, nobody, nobody_opens, noted_piece}
use Rattle.law_lone_calls_are_eager.proofs.LawEagerIsHistory.FreshLemmas.{is_no_access}
use Rattle.law_lone_calls_are_eager.proofs.PassLemmas.{raises_all}
use Rattle.law_lone_calls_are_eager.proofs.RunLemmas.{events_of}
use Rattle.law_lone_accesses_find_all.specs.LawRegistersStand.Followed.{Followed, followed_by, follows, opening_followed}
use Rattle.law_lone_accesses_find_all.proofs.LawScansMissNone.TrackLemmas.{doing_here, doing_kept, doing_other, happens_here, happens_other}
use Rattle.law_lone_accesses_find_all.proofs.LawAccessesShowHome.DoneRuns.{IsAlongDone, in_range, moment_done, opens_done}
use Rattle.law_lone_accesses_find_all.proofs.LawAccessesShowHome.ListLemmas.{some_in_range}
use Rattle.law_lone_accesses_find_all.specs.LawLateOnesLeave.Late.{has_done_none, is_access_first}
use Rattle.law_lone_accesses_find_all.proofs.LawLateOnesLeave.HistoryLemmas.{clause_from}
use Rattle.law_serial_is_eager.proofs.EndsLemmas.{event_ends, noted_operation}
use Rattle.law_serial_is_eager.proofs.QuietLemmas.{call_quiet, named_so}

-- An access within a call.

-- an event that is among some
quiet_one : (pre post : List Happened) (one : Happened) → IsTrue (list_all is_no_access (events_of (pre ++ one ∷ post))) → is_no_access one.event ≡ true
quiet_one [] post one h = (and_parts (is_no_access one.event) (list_all is_no_access (events_of post)) h).0
quiet_one (first ∷ pre) post one h = quiet_one pre post one (and_parts (is_no_access first.event) (list_all is_no_access (events_of (pre ++ one ∷ post))) h).1

-- what is named before an access, where it is the first named and none is named later
none_named : (pre post : List Happened) (one : Happened) (first : Event) (raises : List Event) → is_no_access one.event ≡ false → IsTrue (list_all is_no_access raises) → events_of (pre ++ one ∷ post) ≡ first ∷ raises → (pre ≡ []) × (one.event ≡ first)
none_named [] post one first raises access quiet e = (refl, head_is one.event (events_of post) first raises e)
  where
    head_is : (x : Event) (xs : List Event) (y : Event) (ys : List Event) → x ∷ xs ≡ y ∷ ys → x ≡ y
    head_is x xs y ys h = cc
none_named (before ∷ pre) post one first raises access quiet e =
    absurd (true≢false (sym (quiet_one pre post one (subst (λ es. IsTrue (list_all is_no_access es)) (sym (tail_is before.event (events_of (pre ++ one ∷ post)) first raises e)) quiet)) ∙ access))
  where
    tail_is : (x : Event) (xs : List Event) (y : Event) (ys : List Event) → x ∷ xs ≡ y ∷ ys → xs ≡ ys
    tail_is x xs y ys h = cc

-- an access is named by no other call, and is the first that its own names
pub record IsFirstNamed (actor : Option ℕ) (operation : Operation) (pre : List Happened) (event : Event) : Type 0 where
  pub vcpu : ℕ
  pub reg : IccReg
  pub write : Option ℕ
  pub is : operation ≡ Access (Icc reg write)
  pub event_is : event ≡ Cpu vcpu reg write
  pub none : named_of actor pre ≡ []

named_access : (actor : Option ℕ) (pre post : List Happened) (one : Happened) → is_beside actor one.event ≡ false → named_of actor (pre ++ one ∷ post) ≡ named_of actor pre ++ one ∷ named_of actor post
named_access actor pre post one named =
    filter-append (λ (happened : Happened). not (is_beside actor happened.event)) pre (one ∷ post)
    ∙ ap (λ b. named_of actor pre ++ cond (not b) (one ∷ named_of actor post) (named_of actor post)) named

access_named : (actor : Option ℕ) (event : Event) → is_no_access event ≡ false → is_beside actor event ≡ false
access_named actor (Cpu vcpu reg write) h = refl
access_named actor (Reach key w) h = absurd (true≢false h)
access_named actor (Take key w) h = absurd (true≢false h)
access_named actor (Leave key w) h = absurd (true≢false h)
access_named actor (Read place) h = absurd (true≢false h)
access_named actor event h = refl

pub access_in : (shape : GuestShape) (beside : Beside) (actor : Option ℕ) (operation : Operation) (pre post : List Happened) (one : Happened) (answer : Option ℕ) → IsCall shape beside actor operation (pre ++ one ∷ post) answer → is_no_access one.event ≡ false → IsFirstNamed actor operation pre one.event
access_in shape beside actor (Access (Icc reg write)) pre post one answer is access = of actor is
  where
    of : (o : Option ℕ) → IsCall shape beside o (Access (Icc reg write)) (pre ++ one ∷ post) answer → IsFirstNamed o (Access (Icc reg write)) pre one.event
    of None is = absurd is
    of (Some vcpu) is =
        let split = named_access (Some vcpu) pre post one (access_named (Some vcpu) one.event access) in
        let both = none_named (named_of (Some vcpu) pre) (named_of (Some vcpu) post) one (Cpu vcpu reg write) (icc_raises shape vcpu reg write) access (raises_all is_no_access named_so shape vcpu reg write) (ap events_of (sym split) ∙ is.made.events_are) in
        record { vcpu = vcpu; reg = reg; write = write; is = refl; event_is = both.1; none = both.0 }
access_in shape beside actor operation pre post one answer is access =
    absurd (true≢false (sym (quiet_one pre post one (call_quiet shape beside actor operation (pre ++ one ∷ post) answer refl is)) ∙ access))

-- Along a history.

-- what an actor has done is of its call, and of no interrupt where that named no event
abbrev pub TiedTo : Option ℕ → Option Call → Doing → Type 0
TiedTo vcpu None doing = doing.operation ≡ None
TiedTo vcpu (Some call) doing = (doing.operation ≡ Some call.operation) × (named_of vcpu call.piece ≡ [] → IsTrue (has_done_none doing.done))

-- what is beside the events of a call is of no interrupt of it
pub beside_same : (ideal : Ideal) (actor : ℕ) (vcpu : Option ℕ) (event : Event) (doing : Doing) → is_beside vcpu event ≡ true → (after_doing ideal actor event doing).done ≡ doing.done
beside_same ideal actor vcpu (Read place) doing h = refl
beside_same ideal actor vcpu (Reach key w) doing h = refl
beside_same ideal actor vcpu (Take key w) doing h = refl
beside_same ideal actor vcpu (Leave key w) doing h = refl
beside_same ideal actor vcpu event doing h = absurd (cc)

-- an access is made in a call for it, which has made no event of an interrupt
abbrev pub AccessAt : Followed → Moment → Type 0
AccessAt at (Happens actor (Cpu vcpu reg write) found) = IsTrue (has_done_none (doing_of at.track actor).done) × ((doing_of at.track actor).operation ≡ Some (Access (Icc reg write)))
AccessAt at moment = Unit {0}

abbrev pub AllAccess : Followed → List Moment → Type 0
AllAccess at [] = Unit {0}
AllAccess at (moment ∷ moments) = AccessAt at moment × AllAccess (follows at moment) moments

module _ (shape : GuestShape) (good : IsShape shape) where
  abbrev AllTied : Course → Followed → Type 0
  AllTied course at = (actor : ℕ) → TiedTo (vcpu_of shape actor) (call_of course actor) (doing_of at.track actor)

  seen_tied : (ideal : Ideal) (vcpu : Option ℕ) (o : Option Call) (doing : Doing) → TiedTo vcpu o doing → TiedTo vcpu (option_map (seeing ideal) o) doing
  seen_tied ideal vcpu None doing tied = tied
  seen_tied ideal vcpu (Some call) doing tied = tied

  made_tied : (actor : ℕ) (before ideal later : Ideal) (event : Event) (found : Found) (call : Call) (doing : Doing) → TiedTo (vcpu_of shape actor) (Some call) doing → TiedTo (vcpu_of shape actor) (Some (seeing later (made ideal event found call))) (after_doing before actor event doing)
  made_tied actor before ideal later event found call doing tied = (
    doing_kept before actor event doing ∙ tied.0 ∙ ap Some (sym (noted_operation ideal event call)),
    λ none. of (is_beside (vcpu_of shape actor) event) refl (sym (filter-append (λ (happened : Happened). not (is_beside (vcpu_of shape actor) happened.event)) call.piece (one ∷ [])) ∙ ap (λ piece. named_of (vcpu_of shape actor) (piece ++ one ∷ [])) (sym (noted_piece ideal event call)) ∙ none),
  )
    where
      one : Happened
      one = record { event = event; found = found }

      never : (xs : List Happened) → xs ++ one ∷ [] ≡ [] → ⊥
      never [] e = cc
      never (x ∷ xs) e = cc

      of : (b : Bool) → is_beside (vcpu_of shape actor) event ≡ b → named_of (vcpu_of shape actor) call.piece ++ cond (not (is_beside (vcpu_of shape actor) event)) (one ∷ []) [] ≡ [] → IsTrue (has_done_none (after_doing before actor event doing).done)
      of true e none =
          subst (λ keys. IsTrue (has_done_none keys)) (sym (beside_same before actor (vcpu_of shape actor) event doing e)) (tied.1 (nothing (named_of (vcpu_of shape actor) call.piece) (ap (λ b. named_of (vcpu_of shape actor) call.piece ++ cond (not b) (one ∷ []) []) (sym e) ∙ none)))
        where
          nothing : (xs : List Happened) → xs ++ [] ≡ [] → xs ≡ []
          nothing [] e = refl
          nothing (x ∷ xs) e = absurd (cc)
      of false e none = absurd (never (named_of (vcpu_of shape actor) call.piece) (ap (λ b. named_of (vcpu_of shape actor) call.piece ++ cond (not b) (one ∷ []) []) (sym e) ∙ none))

  module _ (course : Course) (at : Followed) (along : IsAlongDone shape good course at) (tied : (actor : ℕ) → TiedTo (vcpu_of shape actor) (call_of course actor) (doing_of at.track actor)) where
    in_it : (actor : ℕ) → actor < length course.calls → actor < length at.track.doings
    in_it actor there = in_range shape good course at along actor (subst (λ n. actor < n) along.is_course.each there)

    tied_next : (moment : Moment) → IsNext course moment → AllTied (gone_on course moment) (follows at moment)
    tied_next (Begin other operation) next actor = elim (cases_eq actor other) [
      | inl e ↦ subst (λ n. TiedTo (vcpu_of shape n) (call_of (gone_on course (Begin other operation)) n) (doing_of (follows at (Begin other operation)).track n)) (sym e)
          (subst (λ o. TiedTo (vcpu_of shape other) o (doing_of (follows at (Begin other operation)).track other)) (sym (begun_here course other operation in_calls))
          (subst (λ (d : Doing). (d.operation ≡ Some operation) × (named_of (vcpu_of shape other) [] ≡ [] → IsTrue (has_done_none d.done))) (sym (doing_here other _ at.track (in_it other in_calls))) (refl, λ none. refl)))
      | inr differ ↦ subst (λ o. TiedTo (vcpu_of shape actor) o (doing_of (follows at (Begin other operation)).track actor)) (sym (begun_other course other operation actor differ))
          (subst (TiedTo (vcpu_of shape actor) (call_of course actor)) (sym (doing_other other actor _ at.track differ)) (tied actor))
    ]
      where
        in_calls : other < length course.calls
        in_calls = subst (λ n. other < n) (sym along.is_course.each) (subst (λ (s : GuestShape). other < actor_count s) along.is_course.shape_is next.0)
    tied_next (End other answer) next actor = elim (cases_eq actor other) [
      | inl e ↦ subst (λ n. TiedTo (vcpu_of shape n) (call_of (gone_on course (End other answer)) n) (doing_of (follows at (End other answer)).track n)) (sym e)
          (subst (λ o. TiedTo (vcpu_of shape other) o (doing_of (follows at (End other answer)).track other)) (sym (ended_here course other answer)) (ap (λ (d : Doing). d.operation) (doing_here other _ at.track (in_it other (within (call_of course other) refl next)))))
      | inr differ ↦ subst (λ o. TiedTo (vcpu_of shape actor) o (doing_of (follows at (End other answer)).track actor)) (sym (ended_other course other answer actor differ))
          (subst (TiedTo (vcpu_of shape actor) (call_of course actor)) (sym (doing_other other actor _ at.track differ)) (tied actor))
    ]
      where
        within : (o : Option Call) → call_of course other ≡ o → IsCallEnded (course.signals other) course.ideal.guest.shape other o answer → other < length course.calls
        within None e h = absurd h
        within (Some call) e h = some_in_range course.calls other (ap is_some e)
    tied_next (Happens other event found) next actor = elim (cases_eq actor other) [
      | inl e ↦ subst (λ n. TiedTo (vcpu_of shape n) (call_of (gone_on course (Happens other event found)) n) (doing_of (follows at (Happens other event found)).track n)) (sym e)
          (subst (λ o. TiedTo (vcpu_of shape other) o (doing_of (follows at (Happens other event found)).track other)) (sym (made_here course other event found mine.0 mine.1))
          (subst (TiedTo (vcpu_of shape other) (Some (seeing (happened other event course.ideal) (made course.ideal event found mine.0)))) (sym (happens_here shape good at.ideal other event found at.track along.along.tidy.shape_is can (in_it other (within (call_of course other) refl next.within))))
          (made_tied other at.ideal course.ideal (happened other event course.ideal) event found mine.0 (doing_of at.track other) (subst (λ o. TiedTo (vcpu_of shape other) o (doing_of at.track other)) mine.1 (tied other)))))
      | inr differ ↦ subst (λ o. TiedTo (vcpu_of shape actor) o (doing_of (follows at (Happens other event found)).track actor)) (sym (made_other course other event found actor differ))
          (subst (TiedTo (vcpu_of shape actor) (option_map (seeing (happened other event course.ideal)) (call_of course actor))) (sym (happens_other shape good at.ideal other event found at.track actor along.along.tidy.shape_is can differ))
          (seen_tied (happened other event course.ideal) (vcpu_of shape actor) (call_of course actor) (doing_of at.track actor) (tied actor)))
    ]
      where
        mine : (call : Call) × (call_of course other ≡ Some call)
        mine = call_is (call_of course other) next.within

        can : CanHappen shape event
        can = subst (λ s. CanHappen s event) along.is_course.shape_is next.can

        within : (o : Option Call) → call_of course other ≡ o → IsTrue (is_some o) → other < length course.calls
        within None e h = absurd (cc)
        within (Some call) e h = some_in_range course.calls other (ap is_some e)

    -- an access
    access_now : (moments : List Moment) (actor : ℕ) (event : Event) (found : Found) → GoesOn course (Happens actor event found ∷ moments) → call_of (course_of course (Happens actor event found ∷ moments)) actor ≡ None → AccessAt at (Happens actor event found)
    access_now moments actor event found going ended = of (is_no_access event) refl
      where
        one : Happened
        one = record { event = event; found = found }

        none_at : (e : Event) → is_no_access e ≡ true → AccessAt at (Happens actor e found)
        none_at (Cpu vcpu reg write) h = absurd (cc)
        none_at e h = tt

        first_so : (operation : Operation) (pre : List Happened) → IsFirstNamed (vcpu_of shape actor) operation pre event → ((doing_of at.track actor).operation ≡ Some operation) × (named_of (vcpu_of shape actor) pre ≡ [] → IsTrue (has_done_none (doing_of at.track actor).done)) → AccessAt at (Happens actor event found)
        first_so operation pre is now = subst (λ ev. AccessAt at (Happens actor ev found)) (sym is.event_is) (now.1 is.none, now.0 ∙ ap Some is.is)

        in_call : (call : Call) → call_of course actor ≡ Some call → is_no_access event ≡ false → AccessAt at (Happens actor event found)
        in_call call is access =
            let ends = event_ends shape actor moments course along.is_course event found going ended call is in
            first_so call.operation call.piece
            (access_in shape ends.beside (vcpu_of shape actor) call.operation call.piece ends.more one ends.answer
            (subst (λ whole. IsCall shape ends.beside (vcpu_of shape actor) call.operation whole ends.answer) (append_assoc call.piece (one ∷ []) ends.more) ends.is_call) access)
            (subst (λ o. TiedTo (vcpu_of shape actor) o (doing_of at.track actor)) is (tied actor))

        of : (b : Bool) → is_no_access event ≡ b → AccessAt at (Happens actor event found)
        of true e = none_at event e
        of false e = let mine = call_is (call_of course actor) going.0.within in in_call mine.0 mine.1 e

  all_access :
      (moments : List Moment) (course : Course) (at : Followed) → IsAlongDone shape good course at → AllTied course at → GoesOn course moments → ((actor : ℕ) → call_of (course_of course moments) actor ≡ None) → AllAccess at moments
  all_access [] course at along tied going ended = tt
  all_access (moment ∷ moments) course at along tied going ended =
      (here moment going ended, all_access moments (gone_on course moment) (follows at moment) (moment_done shape good course at moment going.0 along) (tied_next course at along tied moment going.0) going.1 ended)
    where
      here : (m : Moment) → GoesOn course (m ∷ moments) → ((actor : ℕ) → call_of (course_of course (m ∷ moments)) actor ≡ None) → AccessAt at m
      here (Begin actor operation) going ended = tt
      here (End actor answer) going ended = tt
      here (Happens actor event found) going ended = access_now course at along tied moments actor event found going (ended actor)

  -- at the end of some moments
  ends_tied : (moments : List Moment) (course : Course) (at : Followed) → IsAlongDone shape good course at → AllTied course at → GoesOn course moments → IsAlongDone shape good (course_of course moments) (fold follows at moments) × AllTied (course_of course moments) (fold follows at moments)
  ends_tied [] course at along tied going = (along, tied)
  ends_tied (moment ∷ moments) course at along tied going = ends_tied moments (gone_on course moment) (follows at moment) (moment_done shape good course at moment going.0 along) (tied_next course at along tied moment going.0) going.1

opens_tied : (guest : IdealGuest) (actor : ℕ) → TiedTo (vcpu_of guest.shape actor) (call_of (opening_course guest) actor) (doing_of (opening_followed guest).track actor)
opens_tied guest actor = subst (λ o. TiedTo (vcpu_of guest.shape actor) o (doing_of (opening_followed guest).track actor)) (sym (nobody_opens guest actor)) (ap (λ (d : Doing). d.operation) (none_doing (actor_count guest.shape) actor))
  where
    none_doing : (n place : ℕ) → slice_index_or (replicate n (let d : Doing = record { operation = None; number = 0; done = []; fetched = false } in d)) place (record { operation = None; number = 0; done = []; fetched = false }) ≡ record { operation = None; number = 0; done = []; fetched = false }
    none_doing zero place = refl
    none_doing (suc n) zero = refl
    none_doing (suc n) (suc place) = none_doing n place

-- each access of a history after which nobody is in a call
ended_access : (guest : IdealGuest) (moments : List Moment) → CanOpen guest → IsHistory guest moments → ((actor : ℕ) → call_of (course_of (opening_course guest) moments) actor ≡ None) → AllAccess (opening_followed guest) moments
ended_access guest moments good history none = all_access guest.shape good.sound.shape moments (opening_course guest) (opening_followed guest) (opens_done guest good) (opens_tied guest) history none

pub history_access : (guest : IdealGuest) (moments : List Moment) → CanOpen guest → IsHistory guest moments → IsWhole guest moments → AllAccess (opening_followed guest) moments
history_access guest moments good history whole = ended_access guest moments good history (λ actor. nobody (course_of (opening_course guest) moments).calls actor whole)

-- one that is among others
pub access_there : (pre post : List Moment) (at : Followed) (moment : Moment) → AllAccess at (pre ++ moment ∷ post) → AccessAt (fold follows at pre) moment
access_there [] post at moment all = all.0
access_there (first ∷ pre) post at moment all = access_there pre post (follows at first) moment all.1

pub access_before : (pre post : List Moment) (at : Followed) → AllAccess at (pre ++ post) → AllAccess at pre
access_before [] post at all = tt
access_before (first ∷ pre) post at all = (all.0, access_before pre post (follows at first) all.1)

-- so it comes first
access_first : (at : Followed) (moment : Moment) → AccessAt at moment → IsTrue (is_access_first at.ideal at.track moment)
access_first at (Begin actor operation) h = refl
access_first at (End actor answer) h = refl
access_first at (Happens actor event found) h = of event h
  where
    of : (e : Event) → AccessAt at (Happens actor e found) → IsTrue (is_access_first at.ideal at.track (Happens actor e found))
    of (Cpu vcpu reg write) h = h.0
    of e h = refl

pub accesses_first : (moments : List Moment) (at : Followed) → AllAccess at moments → IsTrue (clause_from is_access_first at moments)
accesses_first [] at all = refl
accesses_first (moment ∷ moments) at all =
    and_from (is_access_first at.ideal at.track moment) (clause_from is_access_first (follows at moment) moments) (access_first at moment all.0) (accesses_first moments (follows at moment) all.1)

pub accesses_come_first : (guest : IdealGuest) (moments : List Moment) → CanOpen guest → IsHistory guest moments → IsWhole guest moments → IsTrue (is_kept is_access_first guest moments)
accesses_come_first guest moments good history whole = accesses_first moments (opening_followed guest) (history_access guest moments good history whole)

-- so it does in a history that says of each actor that it is in no call
pub rests_first : (guest : IdealGuest) (moments : List Moment) → CanOpen guest → IsHistory guest moments → ((actor : ℕ) → actor < actor_count guest.shape → (doing_of (followed_by guest moments).track actor).operation ≡ None) → IsTrue (is_kept is_access_first guest moments)
rests_first guest moments good history rest = accesses_first moments (opening_followed guest) (ended_access guest moments good history none)
  where
    ends : IsAlongDone guest.shape good.sound.shape (course_of (opening_course guest) moments) (followed_by guest moments) × AllTied guest.shape good.sound.shape (course_of (opening_course guest) moments) (followed_by guest moments)
    ends = ends_tied guest.shape good.sound.shape moments (opening_course guest) (opening_followed guest) (opens_done guest good) (opens_tied guest) history

    tied_none : (vcpu : Option ℕ) (o : Option Call) (doing : Doing) → TiedTo vcpu o doing → doing.operation ≡ None → o ≡ None
    tied_none vcpu None doing tied e = refl
    tied_none vcpu (Some call) doing tied e = absurd (true≢false (sym (ap is_some tied.0) ∙ ap is_some e))

    none : (actor : ℕ) → call_of (course_of (opening_course guest) moments) actor ≡ None
    none actor = elim (cases_lt actor (actor_count guest.shape)) [
      | inl there ↦ tied_none (vcpu_of guest.shape actor) (call_of (course_of (opening_course guest) moments) actor) (doing_of (followed_by guest moments).track actor) (ends.1 actor) (rest actor there)
      | inr past ↦ get_or_past (course_of (opening_course guest) moments).calls actor None (subst (λ n. n ≤ actor) (sym ends.0.is_course.each) past)
    ]
