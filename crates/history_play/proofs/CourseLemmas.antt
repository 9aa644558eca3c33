-- A course, its state and its track go on together.
use Rattle.std.proofs.Common.{◌≡◌, ℕ, zero, suc, ◌+◌, ◌<◌, ◌≤◌, Bool, true, false, IsTrue, List, [], ◌∷◌, map, length, Option, option_map, Some, None, is_some, nat_le, nat_lt, refl, sym, ap, ◌∙◌, subst, slice_set, slice_index_or, arith}
use Rattle.std.specs.List.{list_all}
use Rattle.std.specs.Option.{option_map_or}
use Rattle.std.proofs.lemmas.Bool.{and_parts, and_from}
use Rattle.std.proofs.lemmas.Grind.{common_steps}
use Rattle.std.proofs.lemmas.List.{length-set}
use Rattle.history_check.specs.Words.{Key, GuestShape}
use Rattle.history_check.specs.Calls.{Event, Up, Down, Enable, Touch, Reach, Take, Leave, Cpu, Put, CtlrBegin, CtlrEnd, ItsBegin, Runs, Done, Stalls, Moment, Begin, Happens, Moved, taken, left, Found, QueueChange}
use Rattle.history_check.specs.GicCall.declared.event.Event.TheVariants.{Raise, Read, ItsEnd, Queue}
use Rattle.history_check.specs.GicCall.declared.event.Moment.TheVariants.{End}
use Rattle.history_check.specs.Histories.{Ideal, standing_at, moved_at, with_irq, with_standing, happened, with_entry, without, Call, Course, call_of, seeing, made, gone_on, Doing, Track, Changes, doing_of, after_changes, after_leaving, after_doing, tracked, after_moment}
use Rattle.history_check.proofs.ReadyLemmas.{all_set}
use Rattle.history_check.proofs.TrackLemmas.{past_end}
use Rattle.history_check.specs.Track.{doing_in}
use Rattle.history_check.specs.ItsCmd.Command.{decoded}
use Rattle.history_check.specs.Registers.{fault_number}
use Rattle.history_play.specs.Coming.{is_unknown, AreOne}
use Rattle.history_play.specs.Kept.{IsKept}

-- The shape stays.

pub shape_same : (actor : ℕ) (event : Event) (state : Ideal) → (happened actor event state).guest.shape ≡ state.guest.shape
shape_same actor (Raise key) state = refl
shape_same actor (Up key) state = refl
shape_same actor (Down key) state = refl
shape_same actor (Enable vcpu) state = refl
shape_same actor (Touch key touching) state = refl
shape_same actor (Reach key vcpu) state = refl
shape_same actor (Take key vcpu) state = of (moved_at state vcpu key)
  where
    of : (o : Option Moved) → (option_map_or (λ moved. with_standing (with_irq state key (taken moved).irq) vcpu (with_entry key (taken moved).entry (standing_at state vcpu))) o state).guest.shape ≡ state.guest.shape
    of None = refl
    of (Some moved) = refl
shape_same actor (Leave key vcpu) state = of (moved_at state vcpu key)
  where
    of : (o : Option Moved) → (option_map_or (λ moved. with_standing (with_irq state key (left vcpu moved)) vcpu (without key (standing_at state vcpu))) o state).guest.shape ≡ state.guest.shape
    of None = refl
    of (Some moved) = refl
shape_same actor (Cpu vcpu reg write) state = refl
shape_same actor (Read place) state = refl
shape_same actor (Put word value) state = refl
shape_same actor (CtlrBegin enables) state = refl
shape_same actor CtlrEnd state = refl
shape_same actor ItsBegin state = refl
shape_same actor ItsEnd state = refl
shape_same actor (Queue offset Runs) state = refl
shape_same actor (Queue offset (Done words)) state = refl
shape_same actor (Queue offset (Stalls fault)) state = refl

pub shape_kept : (state : Ideal) (moment : Moment) → (after_moment state moment).guest.shape ≡ state.guest.shape
shape_kept state (Begin actor operation) = refl
shape_kept state (Happens actor event found) = shape_same actor event state
shape_kept state (End actor answer) = refl

-- What actors do, by an event.

pub doings_same : (state : Ideal) (shape : GuestShape) (actor : ℕ) (event : Event) (track : Track) → (after_leaving state event (after_changes shape actor event track)).doings ≡ track.doings
doings_same state shape actor (Raise key) track = refl
doings_same state shape actor (Up key) track = refl
doings_same state shape actor (Down key) track = refl
doings_same state shape actor (Enable vcpu) track = refl
doings_same state shape actor (Touch key touching) track = refl
doings_same state shape actor (Reach key vcpu) track = refl
doings_same state shape actor (Take key vcpu) track = refl
doings_same state shape actor (Leave key vcpu) track = refl
doings_same state shape actor (Cpu vcpu reg write) track = refl
doings_same state shape actor (Read place) track = refl
doings_same state shape actor (Put word value) track = refl
doings_same state shape actor (CtlrBegin enables) track = refl
doings_same state shape actor CtlrEnd track = refl
doings_same state shape actor ItsBegin track = refl
doings_same state shape actor ItsEnd track = refl
doings_same state shape actor (Queue offset change) track = refl

pub changes_same : (state : Ideal) (shape : GuestShape) (actor : ℕ) (event : Event) (track : Track) → length (after_leaving state event (after_changes shape actor event track)).changes ≡ length track.changes
changes_same state shape actor (Raise key) track = length-set track.changes _ _
changes_same state shape actor (Up key) track = length-set track.changes _ _
changes_same state shape actor (Down key) track = length-set track.changes _ _
changes_same state shape actor (Enable vcpu) track = refl
changes_same state shape actor (Touch key touching) track = length-set track.changes _ _
changes_same state shape actor (Reach key vcpu) track = length-set track.changes _ _
changes_same state shape actor (Take key vcpu) track = refl
changes_same state shape actor (Leave key vcpu) track = length-set track.changes _ _
changes_same state shape actor (Cpu vcpu reg write) track = refl
changes_same state shape actor (Read place) track = refl
changes_same state shape actor (Put word value) track = refl
changes_same state shape actor (CtlrBegin enables) track = refl
changes_same state shape actor CtlrEnd track = refl
changes_same state shape actor ItsBegin track = refl
changes_same state shape actor ItsEnd track = refl
changes_same state shape actor (Queue offset change) track = refl

-- an event is made in the operation that its actor is in
pub operation_same : (state : Ideal) (actor : ℕ) (event : Event) (doing : Doing) → (after_doing state actor event doing).operation ≡ doing.operation
operation_same state actor (Raise key) doing = refl
operation_same state actor (Up key) doing = refl
operation_same state actor (Down key) doing = refl
operation_same state actor (Enable vcpu) doing = refl
operation_same state actor (Touch key touching) doing = refl
operation_same state actor (Reach key vcpu) doing = refl
operation_same state actor (Take key vcpu) doing = refl
operation_same state actor (Leave key vcpu) doing = refl
operation_same state actor (Cpu vcpu reg write) doing = refl
operation_same state actor (Read place) doing = refl
operation_same state actor (Put word value) doing = refl
operation_same state actor (CtlrBegin enables) doing = refl
operation_same state actor CtlrEnd doing = refl
operation_same state actor ItsBegin doing = refl
operation_same state actor ItsEnd doing = refl
operation_same state actor (Queue offset change) doing = refl

-- and it is the same call, or the next command
number_same : (state : Ideal) (actor n : ℕ) (event : Event) (doing : Doing) → doing.number ≤ n → (after_doing state actor event doing).number ≤ n + 1
number_same state actor n (Raise key) doing h = omega arith
number_same state actor n (Up key) doing h = omega arith
number_same state actor n (Down key) doing h = omega arith
number_same state actor n (Enable vcpu) doing h = omega arith
number_same state actor n (Touch key touching) doing h = omega arith
number_same state actor n (Reach key vcpu) doing h = omega arith
number_same state actor n (Take key vcpu) doing h = omega arith
number_same state actor n (Leave key vcpu) doing h = omega arith
number_same state actor n (Cpu vcpu reg write) doing h = omega arith
number_same state actor n (Read place) doing h = omega arith
number_same state actor n (Put word value) doing h = omega arith
number_same state actor n (CtlrBegin enables) doing h = omega arith
number_same state actor n CtlrEnd doing h = omega arith
number_same state actor n ItsBegin doing h = omega arith
number_same state actor n ItsEnd doing h = omega arith
number_same state actor n (Queue offset change) doing h = omega arith

-- Calls and doings, by actor.

-- the same actors are in calls
abbrev InSame : List (Option Call) → List Doing → Type 0
InSame calls doings = (j : ℕ) → is_some (slice_index_or calls j None) ≡ is_some (slice_index_or doings j (record { operation = None; number = 0; done = []; fetched = false })).operation

set_same : (calls : List (Option Call)) (doings : List Doing) (i : ℕ) (call : Option Call) (doing : Doing) → length calls ≡ length doings → is_some call ≡ is_some doing.operation → InSame calls doings → InSame (slice_set calls i call) (slice_set doings i doing)
set_same [] [] i call doing len here same = λ j. refl
set_same [] (y ∷ doings) i call doing len here same = absurd (cc)
set_same (x ∷ calls) [] i call doing len here same = absurd (cc)
set_same (x ∷ calls) (y ∷ doings) zero call doing len here same = of
  where
    of : (j : ℕ) → is_some (slice_index_or (call ∷ calls) j None) ≡ is_some (slice_index_or (doing ∷ doings) j (record { operation = None; number = 0; done = []; fetched = false })).operation
    of zero = here
    of (suc j) = same (suc j)
set_same (x ∷ calls) (y ∷ doings) (suc i) call doing len here same = of (set_same calls doings i call doing (omega (arith, len)) here (λ j. same (suc j)))
  where
    of : InSame (slice_set calls i call) (slice_set doings i doing) → (j : ℕ) → is_some (slice_index_or (x ∷ slice_set calls i call) j None) ≡ is_some (slice_index_or (y ∷ slice_set doings i doing) j (record { operation = None; number = 0; done = []; fetched = false })).operation
    of rest zero = same 0
    of rest (suc j) = rest j

is_some_map : (f : Call → Call) (o : Option Call) → is_some (option_map f o) ≡ is_some o
is_some_map f None = refl
is_some_map f (Some call) = refl

seen_same : (f : Call → Call) (calls : List (Option Call)) (j : ℕ) → is_some (slice_index_or (map (option_map f) calls) j None) ≡ is_some (slice_index_or calls j None)
seen_same f [] j = refl
seen_same f (x ∷ calls) zero = is_some_map f x
seen_same f (x ∷ calls) (suc j) = seen_same f calls j

length-map_calls : (f : Call → Call) (calls : List (Option Call)) → length (map (option_map f) calls) ≡ length calls
length-map_calls f [] = refl
length-map_calls f (x ∷ calls) = ap suc (length-map_calls f calls)

pub goes_on : (course : Course) (track : Track) (moment : Moment) → AreOne course track → AreOne (gone_on course moment) (tracked course.ideal moment track)
goes_on course track (Begin actor operation) one =
    record {
      actors = length-set course.calls actor _ ∙ one.actors ∙ sym (length-set track.doings actor _);
      calls = set_same course.calls track.doings actor _ (record { operation = Some operation; number = (doing_of track actor).number + 1; done = []; fetched = false }) one.actors refl one.calls;
    }
goes_on course track (End actor answer) one =
    record {
      actors = length-set course.calls actor None ∙ one.actors ∙ sym (length-set track.doings actor _);
      calls = set_same course.calls track.doings actor None (record (doing_of track actor) { operation = None }) one.actors refl one.calls;
    }
goes_on course track (Happens actor event found) one =
    let ideal = happened actor event course.ideal in
    let call = option_map (made course.ideal event found) (call_of course actor) in
    let doing = after_doing course.ideal actor event (doing_of track actor) in
    let doings = (after_leaving course.ideal event (after_changes course.ideal.guest.shape actor event track)).doings in
    let same : doings ≡ track.doings = doings_same course.ideal course.ideal.guest.shape actor event track in
    let here : is_some call ≡ is_some doing.operation = is_some_map (made course.ideal event found) (call_of course actor) ∙ one.calls actor ∙ ap is_some (sym (operation_same course.ideal actor event (doing_of track actor))) in
    record {
      actors = length-map_calls (seeing ideal) (slice_set course.calls actor call) ∙ length-set course.calls actor call ∙ one.actors ∙ ap length (sym same) ∙ sym (length-set doings actor doing);
      calls = λ j. seen_same (seeing ideal) (slice_set course.calls actor call) j ∙ set_same course.calls track.doings actor call doing one.actors here one.calls j ∙ ap (λ (ds : List Doing). is_some (slice_index_or (slice_set ds actor doing) j (record { operation = None; number = 0; done = []; fetched = false })).operation) (sym same);
    }

-- What is kept.

nat_le_more : (a n : ℕ) → nat_le a n ≡ true → a ≤ n
nat_le_more a n h = grind (arith, common_steps, h)

to_nat_le : (a n : ℕ) → a ≤ n → IsTrue (nat_le a n)
to_nat_le a n h = grind (arith, common_steps, h)

numbers_more : (n : ℕ) (doings : List Doing) → IsTrue (list_all (λ doing. nat_le doing.number n) doings) → IsTrue (list_all (λ doing. nat_le doing.number (n + 1)) doings)
numbers_more n [] all = refl
numbers_more n (x ∷ doings) all =
    let parts = and_parts (nat_le x.number n) (list_all (λ doing. nat_le doing.number n) doings) all in
    let here : x.number ≤ n = nat_le_more x.number n parts.0 in
    and_from (nat_le x.number (n + 1)) (list_all (λ doing. nat_le doing.number (n + 1)) doings) (to_nat_le x.number (n + 1) (omega arith)) (numbers_more n doings parts.1)

pub number_at : (n : ℕ) (doings : List Doing) (i : ℕ) → IsTrue (list_all (λ doing. nat_le doing.number n) doings) → (slice_index_or doings i (record { operation = None; number = 0; done = []; fetched = false })).number ≤ n
number_at n [] i all = omega arith
number_at n (x ∷ doings) zero all = nat_le_more x.number n (and_parts (nat_le x.number n) (list_all (λ doing. nat_le doing.number n) doings) all).0
number_at n (x ∷ doings) (suc i) all = number_at n doings i (and_parts (nat_le x.number n) (list_all (λ doing. nat_le doing.number n) doings) all).1

-- an actor does something else
kept_doing : (shape : GuestShape) (n : ℕ) (track : Track) (actor : ℕ) (doing : Doing) (changes : List Changes) (leaving : List (ℕ × Key)) → IsKept shape n track → length changes ≡ length track.changes → doing.number ≤ n + 1
    → IsKept shape (n + 1) (record { doings = slice_set track.doings actor doing; changes = changes; leaving = leaving })
kept_doing shape n track actor doing changes leaving kept len number =
    record {
      followed = record {
        places = record { changes = len ∙ kept.followed.places.changes };
        actors = length-set track.doings actor doing ∙ kept.followed.actors;
      };
      numbers = all_set (λ doing. nat_le doing.number (n + 1)) track.doings actor doing (numbers_more n track.doings kept.numbers) (to_nat_le doing.number (n + 1) number);
    }

pub kept_more : (state : Ideal) (n : ℕ) (track : Track) (moment : Moment) → IsKept state.guest.shape n track → IsKept state.guest.shape (n + 1) (tracked state moment track)
kept_more state n track (Begin actor operation) kept =
    let at = number_at n track.doings actor kept.numbers in
    kept_doing state.guest.shape n track actor (record { operation = Some operation; number = (doing_of track actor).number + 1; done = []; fetched = false }) track.changes track.leaving kept refl (omega arith)
kept_more state n track (End actor answer) kept =
    let at = number_at n track.doings actor kept.numbers in
    kept_doing state.guest.shape n track actor (record (doing_of track actor) { operation = None }) track.changes track.leaving kept refl (omega arith)
kept_more state n track (Happens actor event found) kept =
    let shape = state.guest.shape in
    let after = after_leaving state event (after_changes shape actor event track) in
    let doing = after_doing state actor event (doing_of track actor) in
    let number = number_same state actor n event (doing_of track actor) (number_at n track.doings actor kept.numbers) in
    subst (λ (ds : List Doing). IsKept shape (n + 1) (record { doings = slice_set ds actor doing; changes = after.changes; leaving = after.leaving })) (sym (doings_same state shape actor event track))
    (kept_doing shape n track actor doing after.changes after.leaving kept (changes_same state shape actor event track) number)

-- an actor that is none is in no call
pub none_busy : (doings : List Doing) (actor : ℕ) → nat_lt actor (length doings) ≡ false → false ≡ is_some (doing_in doings actor).operation
none_busy doings actor e = sym (ap (λ (d : Doing). is_some d.operation) (past_end doings actor (record { operation = None; number = 0; done = []; fetched = false }) e))

pub busy_there : (doings : List Doing) (actor : ℕ) → IsTrue (is_some (doing_in doings actor).operation) → actor < length doings
busy_there doings actor h = of (nat_lt actor (length doings)) refl
  where
    of : (b : Bool) → nat_lt actor (length doings) ≡ b → actor < length doings
    of true e = grind (arith, common_steps, e)
    of false e = absurd (no (is_some (doing_in doings actor).operation) h (none_busy doings actor e))
      where
        no : (b : Bool) → b ≡ true → false ≡ b → ⊥
        no b t f = cc

-- a command that the program knows has no fault
pub faultless : (state : Ideal) (actor offset : ℕ) (change : QueueChange) (words : List ℕ) (found : Found) → change ≡ Done words → is_unknown state (Happens actor (Queue offset change) found) ≡ false → fault_number state.guest.shape state.guest.tables (decoded words) ≡ None
faultless state actor offset change words found is known = of (fault_number state.guest.shape state.guest.tables (decoded words)) (subst (λ ch. is_unknown state (Happens actor (Queue offset ch) found) ≡ false) is known)
  where
    of : (o : Option ℕ) → is_some o ≡ false → o ≡ None
    of None e = refl
    of (Some fault) e = absurd (cc)
