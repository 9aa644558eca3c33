-- Who is to leave after a moment of a history, and what a call has done.
use Rattle.std.proofs.Common.{◌≡◌, ℕ, ◌==◌, ◌&&◌, true≢false, not, Bool, true, false, IsTrue, All, List, [], ◌∷◌, ◌++◌, filter, Contains, Option, Some, None, is_some, if◌then◌else◌, refl, sym, ◌∙◌}
use Rattle.std.specs.Option.{option_map_or, option_and_then}
use Rattle.std.proofs.lemmas.List.Elements.{All-nil, All-push, All-append, All-weaker, All-filter, All-contains, All-contains_itself, filter_passes}
use Rattle.law_scans_miss_none.specs.Words.{IccReg, Key, is_same_key, key_of}
use Rattle.law_scans_miss_none.specs.Calls.{Event, Up, Down, Enable, Touch, Reach, Take, Leave, Cpu, Put, CtlrBegin, CtlrEnd, ItsBegin, Found, Happens, Happened}
use Rattle.law_scans_miss_none.specs.GicCall.declared.event.Event.TheVariants.{Raise, Read, ItsEnd, Queue}
use Rattle.law_scans_miss_none.specs.Histories.{Doing, Track, after_doing, is_late, left_behind, tracked, key_in, Ideal, cpu_at}
use Rattle.law_scans_miss_none.specs.Registers.{deactivated_by}
use Rattle.law_scans_miss_none.proofs.TrackLemmas.{is_queue}
use Rattle.law_late_ones_leave.specs.Late.{has_done_none}

-- an interrupt is still to leave after an event
abbrev pub stays_by : Event → ℕ × Key → Bool
stays_by (Leave key vcpu) pair = not (pair.0 == vcpu && is_same_key pair.1 key)
stays_by event pair = true

abbrev pub stays_in : Option Happened → ℕ × Key → Bool
stays_in one pair = option_map_or (λ happened. stays_by happened.event pair) one true

-- what passes a test, of what is so
filtered : {X : Type 0} (test : X → Bool) (P Q : X → Type 0) → ((x : X) → P x → test x ≡ true → Q x) → (xs : List X) → All P xs → All Q (filter test xs)
filtered test P Q to xs all =
    All-weaker (Contains (filter test xs)) Q
    (λ x has. to x (All-contains P (filter test xs) x (All-filter test P xs all) has) (All-contains (λ y. test y ≡ true) (filter test xs) x (filter_passes test xs) has)) (filter test xs) (All-contains_itself (filter test xs))

-- who is to leave after an event
module _ (P Q : ℕ × Key → Type 0) (ideal : Ideal) (actor : ℕ) (found : Found) (track : Track) where
  pub leaving_event : (event : Event) → ((pair : ℕ × Key) → P pair → stays_by event pair ≡ true → Q pair) → All Q (left_behind ideal track event) → All P track.leaving → All Q (tracked ideal (Happens actor event found) track).leaving
  leaving_event (Leave key vcpu) to new all = filtered (λ (pair : ℕ × Key). not (pair.0 == vcpu && is_same_key pair.1 key)) P Q to track.leaving all
  leaving_event (Raise key) to new all = All-append Q track.leaving [] (All-weaker P Q (λ pair h. to pair h refl) track.leaving all) (All-nil Q)
  leaving_event (Up key) to new all = All-append Q track.leaving [] (All-weaker P Q (λ pair h. to pair h refl) track.leaving all) (All-nil Q)
  leaving_event (Down key) to new all = All-append Q track.leaving [] (All-weaker P Q (λ pair h. to pair h refl) track.leaving all) (All-nil Q)
  leaving_event (Enable vcpu) to new all = All-append Q track.leaving [] (All-weaker P Q (λ pair h. to pair h refl) track.leaving all) (All-nil Q)
  leaving_event (Touch key touching) to new all = All-append Q track.leaving [] (All-weaker P Q (λ pair h. to pair h refl) track.leaving all) (All-nil Q)
  leaving_event (Reach key vcpu) to new all = All-append Q track.leaving [] (All-weaker P Q (λ pair h. to pair h refl) track.leaving all) (All-nil Q)
  leaving_event (Take key vcpu) to new all = All-append Q track.leaving [] (All-weaker P Q (λ pair h. to pair h refl) track.leaving all) (All-nil Q)
  leaving_event (Cpu vcpu reg write) to new all = All-append Q track.leaving (left_behind ideal track (Cpu vcpu reg write)) (All-weaker P Q (λ pair h. to pair h refl) track.leaving all) new
  leaving_event (Read place) to new all = All-append Q track.leaving [] (All-weaker P Q (λ pair h. to pair h refl) track.leaving all) (All-nil Q)
  leaving_event (Put word value) to new all = All-append Q track.leaving [] (All-weaker P Q (λ pair h. to pair h refl) track.leaving all) (All-nil Q)
  leaving_event (CtlrBegin enables) to new all = All-append Q track.leaving [] (All-weaker P Q (λ pair h. to pair h refl) track.leaving all) (All-nil Q)
  leaving_event CtlrEnd to new all = All-append Q track.leaving [] (All-weaker P Q (λ pair h. to pair h refl) track.leaving all) (All-nil Q)
  leaving_event ItsBegin to new all = All-append Q track.leaving [] (All-weaker P Q (λ pair h. to pair h refl) track.leaving all) (All-nil Q)
  leaving_event ItsEnd to new all = All-append Q track.leaving [] (All-weaker P Q (λ pair h. to pair h refl) track.leaving all) (All-nil Q)
  leaving_event (Queue offset change) to new all = All-append Q track.leaving [] (All-weaker P Q (λ pair h. to pair h refl) track.leaving all) (All-nil Q)

-- an access deactivates an interrupt, which is late
pub record IsLeft (ideal : Ideal) (track : Track) (vcpu : ℕ) (reg : IccReg) (write : Option ℕ) (key : Key) : Type 0 where
  pub id : ℕ
  pub ends : deactivated_by reg write (cpu_at ideal.guest vcpu) ≡ Some id
  pub named : key_of id vcpu ideal.guest.shape ≡ Some key
  pub late : IsTrue (is_late ideal track vcpu key)

-- and that one is then to leave
pub left_by : (Q : ℕ × Key → Type 0) (ideal : Ideal) (track : Track) (vcpu : ℕ) (reg : IccReg) (write : Option ℕ) → ((key : Key) → IsLeft ideal track vcpu reg write key → Q (vcpu, key)) → All Q (left_behind ideal track (Cpu vcpu reg write))
left_by Q ideal track vcpu reg write to = by_id (deactivated_by reg write (cpu_at ideal.guest vcpu)) refl
  where
    by_late : (id : ℕ) (key : Key) → deactivated_by reg write (cpu_at ideal.guest vcpu) ≡ Some id → key_of id vcpu ideal.guest.shape ≡ Some key → (b : Bool) → is_late ideal track vcpu key ≡ b → All Q (if b then (vcpu, key) ∷ [] else [])
    by_late id key e f true h = All-push Q [] (vcpu, key) (All-nil Q) (to key (record { id = id; ends = e; named = f; late = h }))
    by_late id key e f false h = All-nil Q

    by_key : (id : ℕ) → deactivated_by reg write (cpu_at ideal.guest vcpu) ≡ Some id → (o : Option Key) → key_of id vcpu ideal.guest.shape ≡ o → All Q (option_map_or (λ key. if is_late ideal track vcpu key then (vcpu, key) ∷ [] else []) o [])
    by_key id e None f = All-nil Q
    by_key id e (Some key) f = by_late id key e f (is_late ideal track vcpu key) refl

    by_id : (o : Option ℕ) → deactivated_by reg write (cpu_at ideal.guest vcpu) ≡ o → All Q (option_map_or (λ key. if is_late ideal track vcpu key then (vcpu, key) ∷ [] else []) (option_and_then (λ id. key_of id vcpu ideal.guest.shape) o) [])
    by_id None e = All-nil Q
    by_id (Some id) e = by_key id e (key_of id vcpu ideal.guest.shape) refl

-- an event is an access of a register of a CPU interface
abbrev pub is_access : Event → Bool
is_access (Cpu vcpu reg write) = true
is_access event = false

pub none_left : (ideal : Ideal) (track : Track) (event : Event) → is_access event ≡ false → left_behind ideal track event ≡ []
none_left ideal track (Cpu vcpu reg write) e = absurd (true≢false e)
none_left ideal track event e = refl

-- What a call has done.

-- an event is of an interrupt
abbrev pub makes_one : Option Happened → Bool
makes_one one = option_map_or (λ happened. is_some (key_in happened.event)) one false

pushed : (keys : List Key) (key : Key) → has_done_none (keys ++ key ∷ []) ≡ false
pushed [] key = refl
pushed (one ∷ keys) key = refl

-- a call that has done nothing after an event, which is of no interrupt then, had done nothing before, unless a command ended
pub done_before : (state : Ideal) (actor : ℕ) (event : Event) (doing : Doing) → IsTrue (has_done_none (after_doing state actor event doing).done) → is_some (key_in event) ≡ true → ⊥
done_before state actor (Raise key) doing none h = true≢false (sym none ∙ pushed doing.done key)
done_before state actor (Up key) doing none h = true≢false (sym none ∙ pushed doing.done key)
done_before state actor (Down key) doing none h = true≢false (sym none ∙ pushed doing.done key)
done_before state actor (Touch key touching) doing none h = true≢false (sym none ∙ pushed doing.done key)
done_before state actor (Leave key vcpu) doing none h = true≢false (sym h)
done_before state actor (Enable vcpu) doing none h = true≢false (sym h)
done_before state actor (Reach key vcpu) doing none h = true≢false (sym h)
done_before state actor (Take key vcpu) doing none h = true≢false (sym h)
done_before state actor (Cpu vcpu reg write) doing none h = true≢false (sym h)
done_before state actor (Read place) doing none h = true≢false (sym h)
done_before state actor (Put word value) doing none h = true≢false (sym h)
done_before state actor (CtlrBegin enables) doing none h = true≢false (sym h)
done_before state actor CtlrEnd doing none h = true≢false (sym h)
done_before state actor ItsBegin doing none h = true≢false (sym h)
done_before state actor ItsEnd doing none h = true≢false (sym h)
done_before state actor (Queue offset change) doing none h = true≢false (sym h)

pub none_before : (state : Ideal) (actor : ℕ) (event : Event) (doing : Doing) → is_queue event ≡ false → IsTrue (has_done_none (after_doing state actor event doing).done) → IsTrue (has_done_none doing.done)
none_before state actor (Raise key) doing e none = absurd (true≢false (sym none ∙ pushed doing.done key))
none_before state actor (Up key) doing e none = absurd (true≢false (sym none ∙ pushed doing.done key))
none_before state actor (Down key) doing e none = absurd (true≢false (sym none ∙ pushed doing.done key))
none_before state actor (Touch key touching) doing e none = absurd (true≢false (sym none ∙ pushed doing.done key))
none_before state actor (Leave key vcpu) doing e none = none
none_before state actor (Enable vcpu) doing e none = none
none_before state actor (Reach key vcpu) doing e none = none
none_before state actor (Take key vcpu) doing e none = none
none_before state actor (Cpu vcpu reg write) doing e none = none
none_before state actor (Read place) doing e none = none
none_before state actor (Put word value) doing e none = none
none_before state actor (CtlrBegin enables) doing e none = none
none_before state actor CtlrEnd doing e none = none
none_before state actor ItsBegin doing e none = none
none_before state actor ItsEnd doing e none = none
none_before state actor (Queue offset change) doing e none = absurd (true≢false e)
