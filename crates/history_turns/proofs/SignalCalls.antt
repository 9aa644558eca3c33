-- Calls of message-signalled interrupts: what they made is one, or can still become one, exactly where it says so itself.
use Rattle.std.proofs.Common.{◌≡◌, ◌⊎◌, ℕ, ◌&&◌, ◌||◌, not, nat_lt, Bool, true, false, cond, List, [], ◌∷◌, ◌++◌, fold, Option, Some, None, is_some, IsTrue, Contains, refl, sym, ap, ap₂, ◌∙◌, subst, inl, inr}
use Rattle.std.specs.List.{list_any}
use Rattle.std.specs.Option.{option_map_or}
use Rattle.std.proofs.lemmas.Bool.{and_parts, and_from, or_left, or_right, or_parts}
use Rattle.std.proofs.lemmas.List.Folds.{list_any-append, list_all-append}
use Rattle.history_turns.specs.Words.{GuestShape, Lpi, Msi, is_number}
use Rattle.history_turns.specs.Registers.{translated}
use Rattle.history_turns.specs.Calls.{Event, ItsBegin, Done, Runs, Stalls, Happened, Beside, View, ItsCtlr, MakesMsi, RaisesAlone, MakesDevice, IsCall, IsDeviceCall, Operation, Device, is_beside, named_of}
use Rattle.history_turns.specs.GicCall.declared.event.Event.TheVariants.{Raise, Read, ItsEnd, Queue}
use Rattle.history_turns.specs.GicCall.declared.event.Place.TheVariants.{Word}
use Rattle.history_turns.specs.GicCall.declared.event.Found.TheVariants.{Nothing, Word as FoundWord}
use Rattle.history_turns.specs.Histories.{Call, vcpu_of, IsEndedAs, noted as noted_by, made, seeing}
use Rattle.history_turns.specs.LegalLists.Legal.{Note, Made, Sees, noting, signalling, raises_lpi, IsBegun, unseen}
use Rattle.history_commands.proofs.MadeLemmas.{notes_as}
use Rattle.history_commands.proofs.ExactLaw.{here}
use Rattle.history_turns.specs.HistoryCalls.Found.{last_found, reads}
use Rattle.history_turns.specs.Laws.{SignallingCallsAreExact}
use Rattle.history_turns.specs.Noted.{takes}
use Rattle.history_turns.specs.Walked.{is_idle}
use Rattle.history_turns.specs.Signalled.{is_taken, is_given_back, raised_in, is_enabled_by, finds_enabled, finds_none, after_raise, after_take, signals_from, is_signalled}
use Rattle.history_turns.specs.Walked.{from_named, before_named}
use Rattle.history_turns.proofs.NamedLemmas.{from_none, from_append, from_later, before_append, before_later, before_idle, split_named, idle_none}
use Rattle.history_turns.proofs.NoteLemmas.{events_noted, noted_all}
use Rattle.history_turns.proofs.SignalLemmas.{taken_is, given_back_is, raised_is}
use Rattle.history_turns.proofs.SignalLaw.{turn_signalled, lone_signalled, IsMsi, signalled_made}

-- Calls that are over.

module _ (shape : GuestShape) (actor device event : ℕ) (other : nat_lt actor shape.vcpus ≡ false) where
  abbrev msi : Operation
  msi = Device (Msi device event)

  is_device : vcpu_of shape actor ≡ None
  is_device = ap (λ b. cond b (Some actor) None) other

  module _ (call : Call) (same : call.operation ≡ msi) (signals : Bool) (answer : Option ℕ) where
    abbrev lpi : Option ℕ
    lpi = translated call.maps true device event

    pub ended_signalled : IsEndedAs signals shape actor call answer → (is_signalled false signals (translated call.maps true device event) call.piece ≡ true) × (answer ≡ None)
    ended_signalled is = (of call_is.made, call_is.answers)
      where
        call_is : IsDeviceCall is.beside (Msi device event) call.piece answer
        call_is = subst (λ who. IsCall shape is.beside who msi call.piece answer) is_device (subst (λ o. IsCall shape is.beside (vcpu_of shape actor) o call.piece answer) same is.is_call)

        of : MakesMsi call_is.view device event call.piece ⊎ RaisesAlone is.beside.signals call_is.view call.piece → is_signalled false signals (translated call.maps true device event) call.piece ≡ true
        of (inl turn) = turn_signalled call.maps device event call_is.view (call_is.maps ∙ is.maps) call.piece signals turn
        of (inr alone) = lone_signalled (translated call.maps true device event) call_is.view call.piece signals is.beside.signals is.right alone

    pub signalled_ended : ((id : ℕ) → (target : Option ℕ) × Contains (call.targets id) target) → is_signalled false signals (translated call.maps true device event) call.piece ≡ true → answer ≡ None → IsEndedAs signals shape actor call answer
    signalled_ended some h none = of (signalled_made call.maps device event signals call.piece h)
      where
        by : (right : Bool) → (IsTrue right → IsTrue signals) → (view : View) → view.maps ≡ call.maps → MakesDevice right view (Msi device event) call.piece → IsEndedAs signals shape actor call answer
        by right so view maps makes =
            let beside : Beside = record { maps = call.maps; targets = λ id. (some id).0; commands = call.commands; signals = right } in
            let device_is : IsDeviceCall beside (Msi device event) call.piece answer = record { view = view; maps = maps; made = makes; answers = none } in
            record {
              beside = beside;
              maps = refl;
              commands = refl;
              targets = λ id. (some id).1;
              right = so;
              is_call = subst (λ o. IsCall shape beside (vcpu_of shape actor) o call.piece answer) (sym same) (subst (λ who. IsCall shape beside who msi call.piece answer) (sym is_device) device_is);
            }

        of : IsMsi call.maps device event signals call.piece → IsEndedAs signals shape actor call answer
        of (IsMsi.Turn view maps turn) = by false (λ t. absurd (cc)) view maps (inl turn)
        of (IsMsi.Lone right alone) = by true (λ t. right) (record unseen { maps = call.maps }) refl (inr (alone (record unseen { maps = call.maps })))

-- What comes first.

idle_both : (one other : List Happened) → is_idle None (one ++ other) ≡ true → (is_idle None one ≡ true) × (is_idle None other ≡ true)
idle_both one other h = and_parts (is_idle None one) (is_idle None other) (sym (list_all-append (λ (x : Happened). is_beside None x.event) one other) ∙ h)

first_raise : (was : Bool) (piece more : List Happened) → after_raise false was (piece ++ more) (from_named None (piece ++ more)) ≡ true → after_raise true was piece (from_named None piece) ≡ true
first_raise was piece more h = of (from_named None piece) refl
  where
    of : (from : List Happened) → from_named None piece ≡ from → after_raise true was piece from ≡ true
    of [] e = refl
    of (end ∷ rest) e =
        let k : (is_given_back end.event end.found && (is_idle None (rest ++ more) && (was || list_any finds_enabled (before_named None (piece ++ more))))) ≡ true =
        ap (after_raise false was (piece ++ more)) (sym (from_append None piece more end rest e)) ∙ h in
        let both = and_parts (is_given_back end.event end.found) (is_idle None (rest ++ more) && (was || list_any finds_enabled (before_named None (piece ++ more)))) k in
        let parts = and_parts (is_idle None (rest ++ more)) (was || list_any finds_enabled (before_named None (piece ++ more))) both.1 in
        and_from (is_given_back end.event end.found) (is_idle None rest && (was || list_any finds_enabled (before_named None piece))) both.0
        (and_from (is_idle None rest) (was || list_any finds_enabled (before_named None piece)) (idle_both rest more parts.0).0
        (ap (λ p. was || list_any finds_enabled p) (sym (before_append None piece more end rest e)) ∙ parts.1))

first_take : (lpi : Option ℕ) (piece more : List Happened) → after_take false lpi (piece ++ more) (from_named None (piece ++ more)) ≡ true → after_take true lpi piece (from_named None piece) ≡ true
first_take lpi piece more h = of (from_named None piece) refl
  where
    of : (from : List Happened) → from_named None piece ≡ from → after_take true lpi piece from ≡ true
    of [] e = refl
    of (next ∷ rest) e = either (is_given_back next.event next.found) (raised_in next.event next.found) (ap (after_take false lpi (piece ++ more)) (sym (from_append None piece more next rest e)) ∙ h)
      where
        same : before_named None (piece ++ more) ≡ before_named None piece
        same = before_append None piece more next rest e

        either : (b : Bool) (o : Option ℕ)
            → cond b (is_idle None (rest ++ more) && list_any (finds_none lpi) (before_named None (piece ++ more))) (option_map_or (λ id. is_number id lpi && after_raise false (is_enabled_by (last_found (reads (Word ItsCtlr)) (before_named None (piece ++ more)))) (rest ++ more) (from_named None (rest ++ more))) o false) ≡ true
            → cond b (is_idle None rest && list_any (finds_none lpi) (before_named None piece)) (option_map_or (λ id. is_number id lpi && after_raise true (is_enabled_by (last_found (reads (Word ItsCtlr)) (before_named None piece))) rest (from_named None rest)) o false) ≡ true
        either true o k =
            let both = and_parts (is_idle None (rest ++ more)) (list_any (finds_none lpi) (before_named None (piece ++ more))) k in
            and_from (is_idle None rest) (list_any (finds_none lpi) (before_named None piece)) (idle_both rest more both.0).0 (ap (list_any (finds_none lpi)) (sym same) ∙ both.1)
        either false None k = absurd (cc)
        either false (Some id) k =
            let was : Bool = is_enabled_by (last_found (reads (Word ItsCtlr)) (before_named None piece)) in
            let both = and_parts (is_number id lpi) (after_raise false (is_enabled_by (last_found (reads (Word ItsCtlr)) (before_named None (piece ++ more)))) (rest ++ more) (from_named None (rest ++ more))) k in
            and_from (is_number id lpi) (after_raise true was rest (from_named None rest)) both.0
            (first_raise was rest more (ap (λ p. after_raise false (is_enabled_by (last_found (reads (Word ItsCtlr)) p)) (rest ++ more) (from_named None (rest ++ more))) (sym same) ∙ both.1))

-- What follows takes the ITS no more.

none_takes : (piece : List Happened) → named_of None piece ≡ [] → list_any (λ (h : Happened). takes h.event) piece ≡ false
none_takes [] h = refl
none_takes (x ∷ piece) h = of (is_beside None x.event) refl h (none_takes piece)
  where
    quiet : (e : Event) → is_beside None e ≡ true → takes e ≡ false
    quiet ItsBegin k = absurd (cc)
    quiet e k = refl

    of : (b : Bool) → is_beside None x.event ≡ b → cond (not b) (x ∷ named_of None piece) (named_of None piece) ≡ [] → (named_of None piece ≡ [] → list_any (λ (h : Happened). takes h.event) piece ≡ false) → (takes x.event || list_any (λ (h : Happened). takes h.event) piece) ≡ false
    of true e k rec = ap₂ (λ a b. a || b) (quiet x.event e) (rec k)
    of false e k rec = absurd (cc)

apart_takes : (early : List Happened) (one : Happened) (late : List Happened) → list_any (λ (h : Happened). takes h.event) early ≡ false → takes one.event ≡ false → list_any (λ (h : Happened). takes h.event) late ≡ false → list_any (λ (h : Happened). takes h.event) (early ++ one ∷ late) ≡ false
apart_takes early one late a b c = list_any-append (λ (h : Happened). takes h.event) early (one ∷ late) ∙ ap₂ (λ x y. x || y) a (ap₂ (λ x y. x || y) b c)

raise_takes : (was : Bool) (piece : List Happened) → after_raise false was piece (from_named None piece) ≡ true → list_any (λ (h : Happened). takes h.event) piece ≡ false
raise_takes was piece h = of (from_named None piece) refl h
  where
    of : (from : List Happened) → from_named None piece ≡ from → after_raise false was piece from ≡ true → list_any (λ (h : Happened). takes h.event) piece ≡ false
    of [] e k = absurd (cc)
    of (end ∷ rest) e k =
        let both = and_parts (is_given_back end.event end.found) (is_idle None rest && (was || list_any finds_enabled (before_named None piece))) k in
        let parts = and_parts (is_idle None rest) (was || list_any finds_enabled (before_named None piece)) both.1 in
        ap (list_any (λ (h : Happened). takes h.event)) (split_named None piece ∙ ap (λ r. before_named None piece ++ r) e)
        ∙ apart_takes (before_named None piece) end rest (none_takes (before_named None piece) (before_idle None piece)) (ap takes (given_back_is end.event end.found both.0).0) (none_takes rest (idle_none None rest parts.0))

take_takes : (lpi : Option ℕ) (piece : List Happened) → after_take false lpi piece (from_named None piece) ≡ true → list_any (λ (h : Happened). takes h.event) piece ≡ false
take_takes lpi piece h = of (from_named None piece) refl h
  where
    of : (from : List Happened) → from_named None piece ≡ from → after_take false lpi piece from ≡ true → list_any (λ (h : Happened). takes h.event) piece ≡ false
    of [] e k = absurd (cc)
    of (next ∷ rest) e k = ap (list_any (λ (h : Happened). takes h.event)) (split_named None piece ∙ ap (λ r. before_named None piece ++ r) e) ∙ either (is_given_back next.event next.found) refl (raised_in next.event next.found) refl k
      where
        was : Bool
        was = is_enabled_by (last_found (reads (Word ItsCtlr)) (before_named None piece))

        all : takes next.event ≡ false → list_any (λ (h : Happened). takes h.event) rest ≡ false → list_any (λ (h : Happened). takes h.event) (before_named None piece ++ next ∷ rest) ≡ false
        all a b = apart_takes (before_named None piece) next rest (none_takes (before_named None piece) (before_idle None piece)) a b

        either : (b : Bool) → is_given_back next.event next.found ≡ b → (o : Option ℕ) → raised_in next.event next.found ≡ o
            → cond b (is_idle None rest && list_any (finds_none lpi) (before_named None piece)) (option_map_or (λ id. is_number id lpi && after_raise false was rest (from_named None rest)) o false) ≡ true → list_any (λ (h : Happened). takes h.event) (before_named None piece ++ next ∷ rest) ≡ false
        either true g o r h = all (ap takes (given_back_is next.event next.found g).0) (none_takes rest (idle_none None rest (and_parts (is_idle None rest) (list_any (finds_none lpi) (before_named None piece)) h).0))
        either false g None r h = absurd (cc)
        either false g (Some id) r h = all (ap takes (raised_is next.event next.found id r).0) (raise_takes was rest (and_parts (is_number id lpi) (after_raise false was rest (from_named None rest)) h).1)

-- What the notes keep.

maps_kept : (notes : List Note) (call : Call) → list_any (λ (h : Happened). takes h.event) (events_noted notes) ≡ false → (fold noting call notes).maps ≡ call.maps
maps_kept [] call h = refl
maps_kept (Sees ideal ∷ notes) call h = maps_kept notes (seeing ideal call) h
maps_kept (Made signals ideal event found ∷ notes) call h =
    let both = or_parts (takes event) (list_any (λ (h : Happened). takes h.event) (events_noted notes)) h in
    maps_kept notes (made ideal event found call) both.1 ∙ of event both.0
  where
    of : (event : Event) → takes event ≡ false → (noted_by ideal event call).maps ≡ call.maps
    of ItsBegin k = absurd (cc)
    of (Queue offset Runs) k = refl
    of (Queue offset (Done words)) k = refl
    of (Queue offset (Stalls fault)) k = refl
    of event k = refl

signals_kept : (notes : List Note) (signals : Bool) → named_of None (events_noted notes) ≡ [] → fold signalling signals notes ≡ signals
signals_kept [] signals h = refl
signals_kept (Sees ideal ∷ notes) signals h = signals_kept notes signals h
signals_kept (Made right ideal event found ∷ notes) signals h = of (is_beside None event) refl h (signals_kept notes)
  where
    one : Happened
    one = record { event = event; found = found }

    quiet : (e : Event) → is_beside None e ≡ true → raises_lpi e ≡ false
    quiet (Raise key) k = absurd (cc)
    quiet e k = refl

    off : (a b c : Bool) → c ≡ false → (a || (b && c)) ≡ a
    off true b c k = refl
    off false true c k = k
    off false false c k = refl

    of : (b : Bool) → is_beside None event ≡ b → cond (not b) (one ∷ named_of None (events_noted notes)) (named_of None (events_noted notes)) ≡ [] → ((s : Bool) → named_of None (events_noted notes) ≡ [] → fold signalling s notes ≡ s) → fold signalling (signals || (right && raises_lpi event)) notes ≡ signals
    of true e k rec = rec (signals || (right && raises_lpi event)) k ∙ off signals right (raises_lpi event) (quiet event e)
    of false e k rec = absurd (cc)

-- Calls that go on.

module _ (shape : GuestShape) (actor device event : ℕ) (other : nat_lt actor shape.vcpus ≡ false) (call : Call) (same : call.operation ≡ Device (Msi device event)) (signals : Bool) where
  pub begun_signalled : IsBegun signals shape actor call → is_signalled true signals (translated call.maps true device event) call.piece ≡ true
  begun_signalled is = of (from_named None call.piece) refl
    where
      last : Call
      last = fold noting call is.notes

      after : Bool
      after = fold signalling signals is.notes

      more : List Happened
      more = events_noted is.notes

      over : is_signalled false after (translated last.maps true device event) (call.piece ++ more) ≡ true
      over =
          ap (is_signalled false after (translated last.maps true device event)) (sym (noted_all call is.notes))
          ∙ (ended_signalled shape actor device event other last ((notes_as call is.notes).operation ∙ same) after is.answer is.ended).0

      of : (from : List Happened) → from_named None call.piece ≡ from → signals_from true signals (translated call.maps true device event) from ≡ true
      of [] e = refl
      of (one ∷ rest) e = either (is_taken one.event one.found) (ap (signals_from false after (translated last.maps true device event)) (sym (from_append None call.piece more one rest e)) ∙ over)
        where
          either : (b : Bool) → cond b (after_take false (translated last.maps true device event) (rest ++ more) (from_named None (rest ++ more))) (is_some (raised_in one.event one.found) && (after && is_idle None (rest ++ more))) ≡ true
              → cond b (after_take true (translated call.maps true device event) rest (from_named None rest)) (is_some (raised_in one.event one.found) && (signals && is_idle None rest)) ≡ true
          either true k =
              let none = (or_parts (list_any (λ (h : Happened). takes h.event) rest) (list_any (λ (h : Happened). takes h.event) more)
              (sym (list_any-append (λ (h : Happened). takes h.event) rest more) ∙ take_takes (translated last.maps true device event) (rest ++ more) k)).1 in
              subst (λ m. after_take true (translated m true device event) rest (from_named None rest) ≡ true) (maps_kept is.notes call none) (first_take (translated last.maps true device event) rest more k)
          either false k =
              let both = and_parts (is_some (raised_in one.event one.found)) (after && is_idle None (rest ++ more)) k in
              let parts = and_parts after (is_idle None (rest ++ more)) both.1 in
              let idle = idle_both rest more parts.1 in
              and_from (is_some (raised_in one.event one.found)) (signals && is_idle None rest) both.0
              (and_from signals (is_idle None rest) (sym (signals_kept is.notes signals (idle_none None more idle.1)) ∙ parts.0) idle.0)

-- What may still become one does so.

module _ (shape : GuestShape) (actor device event : ℕ) (other : nat_lt actor shape.vcpus ≡ false) (call : Call) (same : call.operation ≡ Device (Msi device event)) (some : (id : ℕ) → (target : Option ℕ) × Contains (call.targets id) target) (signals : Bool) where
  abbrev mine : Option ℕ
  mine = translated call.maps true device event

  ends : (notes : List Note) → (fold noting call notes).operation ≡ call.operation → ((id : ℕ) → (target : Option ℕ) × Contains ((fold noting call notes).targets id) target)
      → is_signalled false (fold signalling signals notes) (translated (fold noting call notes).maps true device event) (fold noting call notes).piece ≡ true → IsBegun signals shape actor call
  ends notes operation seen h = record { notes = notes; answer = None; ended = signalled_ended shape actor device event other (fold noting call notes) (operation ∙ same) (fold signalling signals notes) None seen h refl }

  abbrev read_of : ℕ → Happened
  read_of value = record { event = Read (Word ItsCtlr); found = FoundWord value }

  abbrev give : Happened
  give = record { event = ItsEnd; found = Nothing }

  -- it reads GITS_CTLR once more, and gives the ITS back
  reads_on : (value : ℕ) → is_signalled false signals mine (call.piece ++ (record { event = Read (Word ItsCtlr); found = FoundWord value }) ∷ (record { event = ItsEnd; found = Nothing }) ∷ []) ≡ true → IsBegun signals shape actor call
  reads_on value h =
      ends (Made false here (Read (Word ItsCtlr)) (FoundWord value) ∷ Made false here ItsEnd Nothing ∷ []) refl some
      (ap₂ (λ s p. is_signalled false s mine p) (off (signals || false) ∙ off signals) (noted_all call (Made false here (Read (Word ItsCtlr)) (FoundWord value) ∷ Made false here ItsEnd Nothing ∷ [])) ∙ h)
    where
      off : (b : Bool) → (b || false) ≡ b
      off true = refl
      off false = refl

  after_taken : (one : Happened) (rest : List Happened) → from_named None call.piece ≡ one ∷ rest → is_taken one.event one.found ≡ true → (more : List Happened) → after_take false mine (rest ++ more) (from_named None (rest ++ more)) ≡ true → is_signalled false signals mine (call.piece ++ more) ≡ true
  after_taken one rest e taken more h =
      ap (signals_from false signals mine) (from_append None call.piece more one rest e)
      ∙ ap (λ b. cond b (after_take false mine (rest ++ more) (from_named None (rest ++ more))) (is_some (raised_in one.event one.found) && (signals && is_idle None (rest ++ more)))) taken ∙ h

  whole : is_signalled false signals mine call.piece ≡ true → IsBegun signals shape actor call
  whole h = ends [] refl some h

  whole_taken : (one : Happened) (rest : List Happened) → from_named None call.piece ≡ one ∷ rest → is_taken one.event one.found ≡ true → after_take false mine rest (from_named None rest) ≡ true → IsBegun signals shape actor call
  whole_taken one rest e taken h =
      whole
      (ap (signals_from false signals mine) e
      ∙ ap (λ b. cond b (after_take false mine rest (from_named None rest)) (is_some (raised_in one.event one.found) && (signals && is_idle None rest))) taken ∙ h)

  raised_on : (one : Happened) (rest : List Happened) → from_named None call.piece ≡ one ∷ rest → is_taken one.event one.found ≡ true → (next : Happened) (after : List Happened) → from_named None rest ≡ next ∷ after → is_given_back next.event next.found ≡ false → (id : ℕ) → raised_in next.event next.found ≡ Some id
      → is_number id mine ≡ true → (from : List Happened) → from_named None after ≡ from → after_raise true (is_enabled_by (last_found (reads (Word ItsCtlr)) (before_named None rest))) after from ≡ true → IsBegun signals shape actor call
  raised_on one rest e taken next after f given id raised number from g h = of from g h
    where
      was : Bool
      was = is_enabled_by (last_found (reads (Word ItsCtlr)) (before_named None rest))

      more : List Happened
      more = read_of 1 ∷ give ∷ []

      tell : List Happened → List Happened → Bool → Bool
      tell late early b = cond b (is_idle None late && list_any (finds_none mine) early) (option_map_or (λ n. is_number n mine && after_raise false (is_enabled_by (last_found (reads (Word ItsCtlr)) early)) late (from_named None late)) (raised_in next.event next.found) false)

      told : (late early : List Happened) → after_raise false (is_enabled_by (last_found (reads (Word ItsCtlr)) early)) late (from_named None late) ≡ true → tell late early (is_given_back next.event next.found) ≡ true
      told late early k =
          ap (tell late early) given
          ∙ ap (λ o. option_map_or (λ n. is_number n mine && after_raise false (is_enabled_by (last_found (reads (Word ItsCtlr)) early)) late (from_named None late)) o false) raised
          ∙ and_from (is_number id mine) (after_raise false (is_enabled_by (last_found (reads (Word ItsCtlr)) early)) late (from_named None late)) number k

      of : (from : List Happened) → from_named None after ≡ from → after_raise true was after from ≡ true → IsBegun signals shape actor call
      of [] g h =
          reads_on 1
          (after_taken one rest e taken more
          (ap (after_take false mine (rest ++ more)) (from_append None rest more next after f)
          ∙ told (after ++ more) (before_named None (rest ++ more))
          (ap (after_raise false (is_enabled_by (last_found (reads (Word ItsCtlr)) (before_named None (rest ++ more)))) (after ++ more)) (from_later None after more g)
          ∙ or_right (is_enabled_by (last_found (reads (Word ItsCtlr)) (before_named None (rest ++ more)))) (list_any finds_enabled (before_named None (after ++ more)))
          (ap (list_any finds_enabled) (before_later None after more (from_none None after g)) ∙ list_any-append finds_enabled after (read_of 1 ∷ []) ∙ or_right (list_any finds_enabled after) true refl))))
      of (end ∷ last) g h =
          whole_taken one rest e taken
          (ap (after_take false mine rest) f ∙ told after (before_named None rest) (ap (after_raise false was after) g ∙ h))

  taken_on : (one : Happened) (rest : List Happened) → from_named None call.piece ≡ one ∷ rest → is_taken one.event one.found ≡ true → (from : List Happened) → from_named None rest ≡ from → after_take true mine rest from ≡ true → IsBegun signals shape actor call
  taken_on one rest e taken [] f h =
      reads_on 0
      (after_taken one rest e taken (read_of 0 ∷ give ∷ [])
      (ap (after_take false mine (rest ++ read_of 0 ∷ give ∷ [])) (from_later None rest (read_of 0 ∷ give ∷ []) f)
      ∙ ap (list_any (finds_none mine)) (before_later None rest (read_of 0 ∷ give ∷ []) (from_none None rest f)) ∙ list_any-append (finds_none mine) rest (read_of 0 ∷ []) ∙ or_right (list_any (finds_none mine) rest) true refl))
  taken_on one rest e taken (next ∷ after) f h = of (is_given_back next.event next.found) refl (raised_in next.event next.found) refl h
    where
      of : (b : Bool) → is_given_back next.event next.found ≡ b → (o : Option ℕ) → raised_in next.event next.found ≡ o
          → cond b (is_idle None after && list_any (finds_none mine) (before_named None rest)) (option_map_or (λ id. is_number id mine && after_raise true (is_enabled_by (last_found (reads (Word ItsCtlr)) (before_named None rest))) after (from_named None after)) o false) ≡ true
          → IsBegun signals shape actor call
      of true g o r k =
          whole_taken one rest e taken
          (ap (after_take false mine rest) f
          ∙ ap (λ b. cond b (is_idle None after && list_any (finds_none mine) (before_named None rest)) (option_map_or (λ id. is_number id mine && after_raise false (is_enabled_by (last_found (reads (Word ItsCtlr)) (before_named None rest))) after (from_named None after)) (raised_in next.event next.found) false)) g ∙ k)
      of false g None r k = absurd (cc)
      of false g (Some id) r k =
          let both = and_parts (is_number id mine) (after_raise true (is_enabled_by (last_found (reads (Word ItsCtlr)) (before_named None rest))) after (from_named None after)) k in
          raised_on one rest e taken next after f g id r both.0 (from_named None after) refl both.1

  pub signalled_begun : is_signalled true signals mine call.piece ≡ true → IsBegun signals shape actor call
  signalled_begun = of (from_named None call.piece) refl
    where
      none_yet : from_named None call.piece ≡ [] → IsBegun signals shape actor call
      none_yet e =
          let notes : List Note = Made true here (Raise (Lpi 0)) Nothing ∷ [] in
          let raise : Happened = record { event = Raise (Lpi 0); found = Nothing } in
          ends notes refl some
          (ap (signals_from false (signals || true) mine) (from_later None call.piece (raise ∷ []) e) ∙ and_from (signals || true) true (or_right signals true refl) refl)

      of : (from : List Happened) → from_named None call.piece ≡ from → signals_from true signals mine from ≡ true → IsBegun signals shape actor call
      of [] e h = none_yet e
      of (one ∷ rest) e h = either (is_taken one.event one.found) refl h
        where
          either : (b : Bool) → is_taken one.event one.found ≡ b → cond b (after_take true mine rest (from_named None rest)) (is_some (raised_in one.event one.found) && (signals && is_idle None rest)) ≡ true → IsBegun signals shape actor call
          either true t k = taken_on one rest e t (from_named None rest) refl k
          either false t k =
              whole
              (ap (signals_from false signals mine) e
              ∙ ap (λ b. cond b (after_take false mine rest (from_named None rest)) (is_some (raised_in one.event one.found) && (signals && is_idle None rest))) t ∙ k)

-- Where the ITS is not taken, the LPI does not count.

free : (is_open signals : Bool) (one other : Option ℕ) (piece : List Happened) → list_any (λ (h : Happened). takes h.event) piece ≡ false → is_signalled is_open signals one piece ≡ is_signalled is_open signals other piece
free is_open signals one other piece none = of (from_named None piece) refl
  where
    of : (from : List Happened) → from_named None piece ≡ from → signals_from is_open signals one from ≡ signals_from is_open signals other from
    of [] e = refl
    of (first ∷ rest) e = either (is_taken first.event first.found) refl
      where
        took : is_taken first.event first.found ≡ true → list_any (λ (h : Happened). takes h.event) piece ≡ true
        took t =
            ap (list_any (λ (h : Happened). takes h.event)) (split_named None piece ∙ ap (λ r. before_named None piece ++ r) e) ∙ list_any-append (λ (h : Happened). takes h.event) (before_named None piece) (first ∷ rest)
            ∙ or_right (list_any (λ (h : Happened). takes h.event) (before_named None piece)) (takes first.event || list_any (λ (h : Happened). takes h.event) rest) (or_left (takes first.event) (list_any (λ (h : Happened). takes h.event) rest) (ap takes (taken_is first.event first.found t).0))

        either : (b : Bool) → is_taken first.event first.found ≡ b
            → cond b (after_take is_open one rest (from_named None rest)) (is_some (raised_in first.event first.found) && (signals && is_idle None rest)) ≡ cond b (after_take is_open other rest (from_named None rest)) (is_some (raised_in first.event first.found) && (signals && is_idle None rest))
        either true t = let some = took t in absurd (cc)
        either false t = refl

pub exact : SignallingCallsAreExact
exact shape actor device event piece noted call other is =
    let mine : Option ℕ = translated call.maps true device event in
    let so : (is_open signals : Bool) → is_signalled is_open signals noted.lpi call.piece ≡ is_signalled is_open signals mine call.piece = λ is_open signals. same is_open signals (list_any (λ (h : Happened). takes h.event) call.piece) refl in
    record {
      ended = λ signals answer. (
        λ over. let made = ended_signalled shape actor device event other call is.of.operation_is signals answer over in (so false signals ∙ made.0, made.1),
        λ h. signalled_ended shape actor device event other call is.of.operation_is signals answer is.of.opened.seen (sym (so false signals) ∙ h.0) h.1,
      );
      begun = λ signals. (
        λ begun. so true signals ∙ begun_signalled shape actor device event other call is.of.operation_is signals begun,
        λ h. signalled_begun shape actor device event other call is.of.operation_is is.of.opened.seen signals (sym (so true signals) ∙ h),
      );
    }
  where
    same : (is_open signals : Bool) (b : Bool) → list_any (λ (h : Happened). takes h.event) call.piece ≡ b → is_signalled is_open signals noted.lpi call.piece ≡ is_signalled is_open signals (translated call.maps true device event) call.piece
    same is_open signals true e = ap (λ o. is_signalled is_open signals o call.piece) (is.has e)
    same is_open signals false e = free is_open signals noted.lpi (translated call.maps true device event) call.piece e
