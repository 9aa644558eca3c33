-- What devices do: messages, wires, and message-signalled interrupts, which the ITS translates.
use Rattle.std.proofs.Common.{◌≡◌, ℕ, ◌++◌, ◌∷◌, inl, not, Bool, true, false, IsTrue, List, [], Option, Some, None, refl, sym, ap, ◌∙◌, subst, ◌⊎◌, inr, map}
use Rattle.std.specs.List.{list_all, list_any}
use Rattle.std.specs.Option.{option_map_or}
use Rattle.std.proofs.lemmas.Bool.{and_from}
use Rattle.law_home_commutes.specs.Words.{Lpi, DeviceOp, Message, Wire, Msi}
use Rattle.law_home_commutes.specs.Registers.{enabled_in, translated}
use Rattle.law_home_commutes.specs.Calls.{ItsCtlr, Event, ItsBegin, Moment, Device, device_events, Happened, IsDeviceCall, IsCall, View, is_its_enabled, Makes, msi_raises, Operation, Found, Up, Down, Touch, Reach, Take, Leave, Enable, Cpu, Put, CtlrBegin, CtlrEnd, MakesMsi, RaisesAlone, named_of}
use Rattle.law_home_commutes.specs.GicCall.declared.event.Event.TheVariants.{Raise, ItsEnd, Read, Queue}
use Rattle.law_home_commutes.specs.GicCall.declared.event.Found.TheVariants.{Word as FoundWord}
use Rattle.law_home_commutes.specs.GicCall.declared.event.Place.TheVariants.{Word}
use Rattle.law_home_commutes.specs.Histories.{IdealGuest, word_at, view_of, after_events, begun, vcpu_of, last_of, home, Ideal, happened, signalled_by}
use Rattle.law_eager_is_history.proofs.WindowLemmas.{is_no_turn}
use Rattle.law_home_commutes.proofs.HomeLemmas.{home_rest}
use Rattle.law_home_commutes.proofs.GicCall.TraceLemmas.{after_made, msi_made}
use Rattle.law_lone_calls_are_eager.specs.LoneCalls.{lone_call, IsEagerCall, PassesAlone}
use Rattle.law_lone_calls_are_eager.proofs.CommandLemmas.{run_split}
use Rattle.law_lone_calls_are_eager.proofs.MapsLemmas.{keeps_maps, beside_maps, maps_taken}
use Rattle.law_lone_calls_are_eager.proofs.NamedLemmas.{named_run}
use Rattle.law_lone_calls_are_eager.proofs.ReadLemmas.{keeps, view_holds, beside_passes, some_named}
use Rattle.law_lone_calls_are_eager.proofs.RunLemmas.{events_of, LoneRun, lone_run, IsHomeRun, IsSignal, HasSignal}

abbrev takes_turn : Event → Bool
takes_turn event = not (is_no_turn event)

-- the events of a message-signalled interrupt keep what it reads, and the maps
msi_all : (test : Event → Bool) (view : View) (device event : ℕ) → ((id : ℕ) → test (Raise (Lpi id)) ≡ true) → test ItsBegin ≡ true → test ItsEnd ≡ true → IsTrue (list_all test (device_events view (Msi device event)))
msi_all test view device event raise begin end = of (translated view.maps (is_its_enabled view) device event)
  where
    of : (o : Option ℕ) → IsTrue (list_all test (ItsBegin ∷ option_map_or (λ id. Raise (Lpi id) ∷ []) o [] ++ ItsEnd ∷ []))
    of None = and_from (test ItsBegin) (list_all test (ItsEnd ∷ [])) begin (and_from (test ItsEnd) true end refl)
    of (Some id) = and_from (test ItsBegin) (list_all test (Raise (Lpi id) ∷ ItsEnd ∷ [])) begin (and_from (test (Raise (Lpi id))) (list_all test (ItsEnd ∷ [])) (raise id) (and_from (test ItsEnd) true end refl))

-- reads raise nothing
none_raised : (actor : ℕ) (operation : Operation) (piece : List Happened) (state : Ideal) → map (λ (h : Happened). h.event) (named_of None piece) ≡ [] → HasSignal actor operation state (events_of piece) → ⊥
none_raised actor operation [] state named has = has
none_raised actor operation (one ∷ piece) state named has = of one.event one.found (none_raised actor operation piece) named has
  where
    of : (event : Event) (found : Found) → ((later : Ideal) → map (λ (h : Happened). h.event) (named_of None piece) ≡ [] → HasSignal actor operation later (events_of piece) → ⊥) → map (λ (h : Happened). h.event) (named_of None ((record { event = event; found = found }) ∷ piece)) ≡ [] → IsSignal state operation event ⊎ HasSignal actor operation (happened actor event state) (events_of piece) → ⊥
    of (Read place) found again named (inl signal) = let no = signal.is in absurd (cc)
    of (Read place) found again named (inr later) = again (happened actor (Read place) state) named later
    of (Raise key) found again named has = absurd (cc)
    of (Up key) found again named has = absurd (cc)
    of (Down key) found again named has = absurd (cc)
    of (Touch key touching) found again named has = absurd (cc)
    of (Reach key vcpu) found again named has = absurd (cc)
    of (Take key vcpu) found again named has = absurd (cc)
    of (Leave key vcpu) found again named has = absurd (cc)
    of (Enable vcpu) found again named has = absurd (cc)
    of (Cpu vcpu reg write) found again named has = absurd (cc)
    of (Put word value) found again named has = absurd (cc)
    of (CtlrBegin enables) found again named has = absurd (cc)
    of CtlrEnd found again named has = absurd (cc)
    of ItsBegin found again named has = absurd (cc)
    of ItsEnd found again named has = absurd (cc)
    of (Queue offset change) found again named has = absurd (cc)

same_head : (one other : Event) (events others : List Event) → one ∷ events ≡ other ∷ others → one ≡ other
same_head one other events others e = cc

same_rest : (one other : Event) (events others : List Event) → one ∷ events ≡ other ∷ others → events ≡ others
same_rest one other events others e = cc

same_lpi : (one other : ℕ) → Raise (Lpi one) ≡ Raise (Lpi other) → one ≡ other
same_lpi one other e = cc

-- where a device's only event beside reads is a raise, and one of its events was a signal, that was it, in the state in which it began
raised_signal : (actor : ℕ) (operation : Operation) (id : ℕ) (piece : List Happened) (state : Ideal) → map (λ (h : Happened). h.event) (named_of None piece) ≡ Raise (Lpi id) ∷ [] → HasSignal actor operation state (events_of piece) → signalled_by state operation ≡ Some id
raised_signal actor operation id [] state named has = absurd has
raised_signal actor operation id (one ∷ piece) state named has = of one.event one.found (raised_signal actor operation id piece) named has
  where
    other : {X : Type 0} (event : Event) → (event ≡ Raise (Lpi id) → ⊥) → event ∷ map (λ (h : Happened). h.event) (named_of None piece) ≡ Raise (Lpi id) ∷ [] → X
    other event differ named = absurd (differ (same_head event (Raise (Lpi id)) (map (λ (h : Happened). h.event) (named_of None piece)) [] named))

    of : (event : Event) (found : Found) → ((later : Ideal) → map (λ (h : Happened). h.event) (named_of None piece) ≡ Raise (Lpi id) ∷ [] → HasSignal actor operation later (events_of piece) → signalled_by later operation ≡ Some id)
        → map (λ (h : Happened). h.event) (named_of None ((record { event = event; found = found }) ∷ piece)) ≡ Raise (Lpi id) ∷ [] → IsSignal state operation event ⊎ HasSignal actor operation (happened actor event state) (events_of piece)
        → signalled_by state operation ≡ Some id
    of (Read place) found again named (inl signal) = let no = signal.is in absurd (cc)
    of (Read place) found again named (inr later) = again (happened actor (Read place) state) named later
    of (Raise key) found again named (inl signal) = signal.signals ∙ ap Some (same_lpi signal.id id (sym signal.is ∙ same_head (Raise key) (Raise (Lpi id)) (map (λ (h : Happened). h.event) (named_of None piece)) [] named))
    of (Raise key) found again named (inr later) = absurd (none_raised actor operation piece (happened actor (Raise key) state) (same_rest (Raise key) (Raise (Lpi id)) (map (λ (h : Happened). h.event) (named_of None piece)) [] named) later)
    of (Up key) found again named has = other (Up key) (λ e. absurd (cc)) named
    of (Down key) found again named has = other (Down key) (λ e. absurd (cc)) named
    of (Touch key touching) found again named has = other (Touch key touching) (λ e. absurd (cc)) named
    of (Reach key vcpu) found again named has = other (Reach key vcpu) (λ e. absurd (cc)) named
    of (Take key vcpu) found again named has = other (Take key vcpu) (λ e. absurd (cc)) named
    of (Leave key vcpu) found again named has = other (Leave key vcpu) (λ e. absurd (cc)) named
    of (Enable vcpu) found again named has = other (Enable vcpu) (λ e. absurd (cc)) named
    of (Cpu vcpu reg write) found again named has = other (Cpu vcpu reg write) (λ e. absurd (cc)) named
    of (Put word value) found again named has = other (Put word value) (λ e. absurd (cc)) named
    of (CtlrBegin enables) found again named has = other (CtlrBegin enables) (λ e. absurd (cc)) named
    of CtlrEnd found again named has = other CtlrEnd (λ e. absurd (cc)) named
    of ItsBegin found again named has = other ItsBegin (λ e. absurd (cc)) named
    of ItsEnd found again named has = other ItsEnd (λ e. absurd (cc)) named
    of (Queue offset change) found again named has = other (Queue offset change) (λ e. absurd (cc)) named

module _ (guest : IdealGuest) (moments : List Moment) (actor : ℕ) (piece : List Happened) (answer : Option ℕ) where
  abbrev state : Ideal
  state = last_of guest moments

  abbrev before : IdealGuest
  before = home (last_of guest moments)

  module _ (op : DeviceOp) (run : LoneRun guest moments actor (Device op) piece answer) (is : IsDeviceCall run.ended.beside op piece answer) where
    goes_so : Makes None is.view (device_events is.view op) [] [] piece → device_events is.view op ≡ device_events (view_of before) op → IsEagerCall actor (Device op) answer before (home (last_of guest (moments ++ lone_call actor (Device op) piece answer)))
    goes_so made same =
        let named = named_run false before None piece run.run in
        record { goes = run.goes ∙ named.goes ∙ ap (λ events. after_events events before) (made.events_are ∙ same); answers = is.answers }

  msi_same : (device event : ℕ) → (run : LoneRun guest moments actor (Device (Msi device event)) piece answer) (is : IsDeviceCall run.ended.beside (Msi device event) piece answer) (made : MakesMsi is.view device event piece)
      → device_events is.view (Msi device event) ≡ device_events (view_of before) (Msi device event)
  msi_same device event run is made =
      ap (λ maps. ItsBegin ∷ option_map_or (λ id. Raise (Lpi id) ∷ []) (translated maps (is_its_enabled is.view) device event) [] ++ ItsEnd ∷ []) maps_same
      ∙ ap (λ n. ItsBegin ∷ option_map_or (λ id. Raise (Lpi id) ∷ []) (translated before.tables (enabled_in n) device event) [] ++ ItsEnd ∷ []) word_same
    where
      same_word : (m n : ℕ) → FoundWord m ≡ FoundWord n → m ≡ n
      same_word m n e = cc

      raising : Makes None is.view (ItsBegin ∷ msi_raises is.view device event) (Word ItsCtlr ∷ []) [] made.raising
      raising = after_made None is.view ItsBegin (msi_raises is.view device event) (Word ItsCtlr ∷ []) made.raising made.raised

      raises_keep : IsTrue (list_all (keeps before.shape (Word ItsCtlr)) (ItsBegin ∷ msi_raises is.view device event))
      raises_keep = of (translated is.view.maps (is_its_enabled is.view) device event)
        where
          of : (o : Option ℕ) → IsTrue (list_all (keeps before.shape (Word ItsCtlr)) (ItsBegin ∷ option_map_or (λ id. Raise (Lpi id) ∷ []) o []))
          of None = refl
          of (Some id) = refl

      word_same : is.view.words ItsCtlr ≡ word_at before ItsCtlr
      word_same =
          same_word (is.view.words ItsCtlr) (word_at before ItsCtlr)
          (view_holds None is.view (ItsBegin ∷ msi_raises is.view device event) (Word ItsCtlr ∷ []) made.raising before raising (run_split made.raising made.last false before (subst (IsHomeRun false before) made.split run.run)).0 (Word ItsCtlr) (inl refl)
          raises_keep)

      kept_all : IsTrue (list_all keeps_maps (events_of piece))
      kept_all =
          beside_passes keeps_maps beside_maps None piece
          (subst (λ events. IsTrue (list_all keeps_maps events)) (sym (msi_made is.view device event piece made).events_are) (msi_all keeps_maps is.view device event (λ id. refl) refl refl))

      taken : list_any takes_turn (events_of piece) ≡ true
      taken = some_named takes_turn None piece (subst (λ events. list_any takes_turn events ≡ true) (sym (msi_made is.view device event piece made).events_are) refl)

      maps_same : is.view.maps ≡ before.tables
      maps_same =
          is.maps ∙ run.ended.maps
          ∙ maps_taken actor state.guest.tables (events_of piece) state (begun state (Device (Msi device event))) refl kept_all taken
          ∙ ap (λ (g : IdealGuest). g.tables) (sym (home_rest state))

  -- a lone raise of what the message signals
  alone_so : (device event : ℕ) → (run : LoneRun guest moments actor (Device (Msi device event)) piece answer) (is : IsDeviceCall run.ended.beside (Msi device event) piece answer) → RaisesAlone run.ended.beside.signals is.view piece
      → IsEagerCall actor (Device (Msi device event)) answer before (home (last_of guest (moments ++ lone_call actor (Device (Msi device event)) piece answer)))
  alone_so device event run is alone =
      let named = named_run false before None piece run.run in
      let has = run.signal (run.ended.right alone.right) in
      let signalled = raised_signal actor (Device (Msi device event)) alone.id piece state alone.raised.events_are has in
      let raises : msi_raises (view_of before) device event ≡ Raise (Lpi alone.id) ∷ [] =
      ap (λ o. option_map_or (λ id. Raise (Lpi id) ∷ []) o []) (ap (λ (g : IdealGuest). translated g.tables (enabled_in (word_at g ItsCtlr)) device event) (home_rest state) ∙ signalled) in
      record {
        goes = run.goes ∙ named.goes ∙ ap (λ events. after_events events before) alone.raised.events_are ∙ sym (ap (λ raises. after_events (ItsBegin ∷ raises ++ ItsEnd ∷ []) before) raises);
        answers = is.answers;
      }

  device_so : (op : DeviceOp) → (run : LoneRun guest moments actor (Device op) piece answer) → IsDeviceCall run.ended.beside op piece answer → IsEagerCall actor (Device op) answer before (home (last_of guest (moments ++ lone_call actor (Device op) piece answer)))
  device_so (Message spi) run is = goes_so (Message spi) run is is.made refl
  device_so (Wire key up) run is = goes_so (Wire key up) run is is.made refl
  device_so (Msi device event) run is = elim is.made [
    | inl made ↦ goes_so (Msi device event) run is (msi_made is.view device event piece made) (msi_same device event run is made)
    | inr alone ↦ alone_so device event run is alone
  ]

pub device_calls_pass : (op : DeviceOp) → PassesAlone (Device op)
device_calls_pass op guest moments actor piece answer is = of (vcpu_of guest.shape actor) run.is_call
  where
    run : LoneRun guest moments actor (Device op) piece answer
    run = lone_run guest moments actor (Device op) piece answer is

    of : (o : Option ℕ) → IsCall guest.shape run.ended.beside o (Device op) piece answer → IsEagerCall actor (Device op) answer (home (last_of guest moments)) (home (last_of guest (moments ++ lone_call actor (Device op) piece answer)))
    of None is_call = device_so guest moments actor piece answer op run is_call
    of (Some vcpu) is_call = absurd is_call
