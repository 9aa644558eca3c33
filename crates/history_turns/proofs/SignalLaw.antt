-- Message-signalled interrupts: what one made is the call exactly where it says so itself, with what the call noted.
use Rattle.std.proofs.Common.{◌≡◌, ℕ, ◌&&◌, ◌||◌, not, Bool, true, false, cond, List, [], ◌∷◌, ◌++◌, fold, All, Option, Some, None, is_some, IsTrue, refl, sym, ap, ap₂, ◌∙◌, subst, inl, inr, append_assoc, append-nil}
use Rattle.std.specs.List.{list_any}
use Rattle.std.specs.Option.{option_map_or}
use Rattle.std.proofs.lemmas.Bool.{and_parts, and_from, or_cases, or_left, or_right}
use Rattle.std.proofs.lemmas.Option.{none-some}
use Rattle.std.proofs.lemmas.List.Sums.{fold-append}
use Rattle.std.proofs.lemmas.List.Folds.{list_any-append}
use Rattle.std.proofs.lemmas.List.Elements.{All-nil, All-cons, All-head, All-same}
use Rattle.history_turns.specs.Words.{Lpi, is_number}
use Rattle.history_turns.specs.Registers.{Maps, translated, enabled_in}
use Rattle.history_turns.specs.Calls.{Event, ItsBegin, Found, Happened, View, Place, ItsCtlr, HandsOut, IsLastRead, MakesMsi, RaisesAlone, held_at, is_beside, named_of, msi_raises}
use Rattle.history_turns.specs.GicCall.declared.event.Event.TheVariants.{Raise, Read, ItsEnd}
use Rattle.history_turns.specs.GicCall.declared.event.Found.TheVariants.{Nothing, Word as FoundWord}
use Rattle.history_turns.specs.LegalLists.Legal.{unseen}
use Rattle.history_turns.specs.HistoryCalls.Found.{last_found, reads, telling}
use Rattle.history_commands.proofs.CountLemmas.{named_more}
use Rattle.history_commands.proofs.ExactLaw.{events_in, Hands}
use Rattle.history_commands.proofs.FoundLemmas.{read_found, found_read}
use Rattle.history_turns.specs.Walked.{is_idle}
use Rattle.history_turns.specs.Signalled.{is_taken, is_given_back, raised_in, is_enabled_by, finds_enabled, finds_none, after_raise, after_take, signals_from, is_signalled}
use Rattle.history_turns.specs.Walked.{from_named, before_named}
use Rattle.history_turns.proofs.NamedLemmas.{IsFirstOf, from_first, first_named, none_from, from_later, before_idle, before_later, before_append, split_named, alone, IsAlone, none_idle, idle_none, reads_more}
use Rattle.history_turns.proofs.RiseLaw.{number_is}
use Rattle.history_turns.proofs.RiseCalls.{IsOne, only_one}
use Rattle.history_turns.proofs.SignalLemmas.{ctlr, taken_is, given_back_is, raised_is, last_in, any_split, enabled_word, enabled_read, none_read, finds_none_so, finds_enabled_so, signals_enabled, number_so}

no_named : (named : List Happened) → events_in named ≡ [] → named ≡ []
no_named [] h = refl
no_named (one ∷ named) h = absurd (cc)

from_alone : (actor : Option ℕ) (piece : List Happened) (one : Happened) (is : IsAlone actor piece one) → from_named actor piece ≡ one ∷ is.more
from_alone actor piece one is = ap (from_named actor) (sym (append-nil piece)) ∙ is.from [] ∙ ap (λ r. one ∷ r) (append-nil is.more)

-- What is made says so.

module _ (maps : Maps) (device event : ℕ) (view : View) (same : view.maps ≡ maps) (piece : List Happened) (signals : Bool) (is : MakesMsi view device event piece) where
  abbrev lpi : Option ℕ
  lpi = translated maps true device event

  abbrev value : ℕ
  value = view.words ItsCtlr

  first : IsOne None ItsBegin is.raised.begin
  first = only_one None ItsBegin is.raised.begin is.raised.begun.events_are

  sole : IsAlone None is.raised.begin first.one
  sole = alone None is.raised.begin first.one first.named

  abbrev body : List Happened
  body = sole.more ++ is.raised.rest

  from : from_named None piece ≡ first.one ∷ (body ++ is.last)
  from =
      ap (from_named None) (is.split ∙ ap (λ p. p ++ is.last) is.raised.split ∙ append_assoc is.raised.begin is.raised.rest is.last) ∙ sole.from (is.raised.rest ++ is.last)
      ∙ ap (λ r. first.one ∷ r) (sym (append_assoc sole.more is.raised.rest is.last))

  taken : is_taken first.one.event first.one.found ≡ true
  taken =
      ap₂ is_taken first.is (subst (λ e. HandsOut view e first.one.found) first.is (All-head (Hands view) first.one [] (subst (All (Hands view)) first.named is.raised.begun.found)))

  end : IsOne None ItsEnd is.last
  end = only_one None ItsEnd is.last is.ended.events_are

  tail : IsAlone None is.last end.one
  tail = alone None is.last end.one end.named

  from_last : from_named None is.last ≡ end.one ∷ tail.more
  from_last = from_alone None is.last end.one tail

  given_back : is_given_back end.one.event end.one.found ≡ true
  given_back = ap₂ is_given_back end.is (subst (λ e. HandsOut view e end.one.found) end.is (All-head (Hands view) end.one [] (subst (All (Hands view)) end.named is.ended.found)))

  idle : is_idle None tail.more ≡ true
  idle = none_idle None tail.more tail.none

  named : named_of None body ≡ named_of None is.raised.rest
  named = named_more None sole.more is.raised.rest ∙ ap (λ xs. xs ++ named_of None is.raised.rest) sole.none

  read : last_found (reads ctlr) body ≡ Some (FoundWord value)
  read = read_found ctlr (FoundWord value) body (reads_more ctlr (FoundWord value) sole.more is.raised.rest (All-head (λ (place : Place). IsLastRead place (held_at view place) is.raised.rest) ctlr [] is.raised.made.reads))

  events : events_in (named_of None body) ≡ option_map_or (λ id. Raise (Lpi id) ∷ []) (translated maps (enabled_in value) device event) []
  events = ap events_in named ∙ is.raised.made.events_are ∙ ap (λ m. option_map_or (λ id. Raise (Lpi id) ∷ []) (translated m (enabled_in value) device event) []) same

  none_case : translated maps (enabled_in value) device event ≡ None → after_take false lpi (body ++ is.last) (from_named None (body ++ is.last)) ≡ true
  none_case none =
      let quiet : named_of None body ≡ [] = no_named (named_of None body) (events ∙ ap (λ o. option_map_or (λ id. Raise (Lpi id) ∷ []) o []) none) in
      let later : from_named None (body ++ is.last) ≡ end.one ∷ tail.more = from_later None body is.last (none_from None body quiet) ∙ from_last in
      let found : list_any (finds_none lpi) body ≡ true =
      elim (last_in (reads ctlr) (finds_none lpi) (FoundWord value) (finds_none_so maps device event value none) None body read) [
        | inl nothing ↦ absurd (none-some (FoundWord value) nothing)
        | inr any ↦ any
      ] in
      ap (after_take false lpi (body ++ is.last)) later
      ∙ ap (λ b. cond b (is_idle None tail.more && list_any (finds_none lpi) (before_named None (body ++ is.last))) (option_map_or (λ id. is_number id lpi && after_raise false (is_enabled_by (last_found (reads ctlr) (before_named None (body ++ is.last)))) tail.more (from_named None tail.more)) (raised_in end.one.event end.one.found) false)) given_back
      ∙ and_from (is_idle None tail.more) (list_any (finds_none lpi) (before_named None (body ++ is.last))) idle
      (ap (list_any (finds_none lpi)) (before_later None body is.last quiet) ∙ list_any-append (finds_none lpi) body (before_named None is.last) ∙ or_left (list_any (finds_none lpi) body) (list_any (finds_none lpi) (before_named None is.last)) found)

  some_case : (id : ℕ) → translated maps (enabled_in value) device event ≡ Some id → after_take false lpi (body ++ is.last) (from_named None (body ++ is.last)) ≡ true
  some_case id some =
      ap (after_take false lpi (body ++ is.last)) later
      ∙ ap (λ b. cond b (is_idle None (more ++ is.last) && list_any (finds_none lpi) (before_named None (body ++ is.last))) (option_map_or (λ n. is_number n lpi && after_raise false was (more ++ is.last) (from_named None (more ++ is.last))) (raised_in raise.one.event raise.one.found) false)) not_given
      ∙ ap (λ o. option_map_or (λ n. is_number n lpi && after_raise false was (more ++ is.last) (from_named None (more ++ is.last))) o false) raised
      ∙ and_from (is_number id lpi) (after_raise false was (more ++ is.last) (from_named None (more ++ is.last))) (number_so id lpi on.1)
      (ap (after_raise false was (more ++ is.last)) end_later
      ∙ and_from (is_given_back end.one.event end.one.found) (is_idle None tail.more && (was || list_any finds_enabled (before_named None (more ++ is.last)))) given_back (and_from (is_idle None tail.more) (was || list_any finds_enabled (before_named None (more ++ is.last))) idle counted))
    where
      raise : IsOne None (Raise (Lpi id)) body
      raise = only_one None (Raise (Lpi id)) body (events ∙ ap (λ o. option_map_or (λ id. Raise (Lpi id) ∷ []) o []) some)

      lone : IsAlone None body raise.one
      lone = alone None body raise.one raise.named

      more : List Happened
      more = lone.more

      later : from_named None (body ++ is.last) ≡ raise.one ∷ (more ++ is.last)
      later = lone.from is.last

      hands : raise.one.found ≡ Nothing
      hands =
          subst (λ e. HandsOut view e raise.one.found) raise.is
          (All-head (Hands view) raise.one [] (subst (All (Hands view)) (sym named ∙ raise.named) is.raised.made.found))

      raised : raised_in raise.one.event raise.one.found ≡ Some id
      raised = ap₂ raised_in raise.is hands

      not_given : is_given_back raise.one.event raise.one.found ≡ false
      not_given = ap₂ is_given_back raise.is hands

      on : (enabled_in value ≡ true) × (translated maps true device event ≡ Some id)
      on = signals_enabled maps device event (enabled_in value) id some

      was : Bool
      was = is_enabled_by (last_found (reads ctlr) (before_named None (body ++ is.last)))

      end_later : from_named None (more ++ is.last) ≡ end.one ∷ tail.more
      end_later = from_later None more is.last (none_from None more lone.none) ∙ from_last

      split : body ≡ before_named None body ++ raise.one ∷ more
      split = split_named None body ∙ ap (λ r. before_named None body ++ r) (from_alone None body raise.one lone)

      last_more : fold (telling (reads ctlr)) (last_found (reads ctlr) (before_named None body)) more ≡ Some (FoundWord value)
      last_more =
          sym
          (ap (last_found (reads ctlr)) split ∙ fold-append (telling (reads ctlr)) None (before_named None body) (raise.one ∷ more)
          ∙ ap (λ e. fold (telling (reads ctlr)) (cond (reads ctlr e) (Some raise.one.found) (last_found (reads ctlr) (before_named None body))) more) raise.is)
          ∙ read

      counted : (was || list_any finds_enabled (before_named None (more ++ is.last))) ≡ true
      counted = elim (last_in (reads ctlr) finds_enabled (FoundWord value) (finds_enabled_so value on.0) (last_found (reads ctlr) (before_named None body)) more last_more) [
        | inl last ↦
            or_left was (list_any finds_enabled (before_named None (more ++ is.last)))
            (ap (λ p. is_enabled_by (last_found (reads ctlr) p)) (before_append None body is.last raise.one more (from_alone None body raise.one lone)) ∙ ap is_enabled_by last ∙ on.0)
        | inr any ↦
            or_right was (list_any finds_enabled (before_named None (more ++ is.last)))
            (ap (list_any finds_enabled) (before_later None more is.last lone.none) ∙ list_any-append finds_enabled more (before_named None is.last) ∙ or_left (list_any finds_enabled more) (list_any finds_enabled (before_named None is.last)) any)
      ]

  pub turn_signalled : is_signalled false signals lpi piece ≡ true
  turn_signalled =
      ap (signals_from false signals lpi) from
      ∙ ap (λ b. cond b (after_take false lpi (body ++ is.last) (from_named None (body ++ is.last))) (is_some (raised_in first.one.event first.one.found) && (signals && is_idle None (body ++ is.last)))) taken
      ∙ of (translated maps (enabled_in value) device event) refl
    where
      of : (o : Option ℕ) → translated maps (enabled_in value) device event ≡ o → after_take false lpi (body ++ is.last) (from_named None (body ++ is.last)) ≡ true
      of None e = none_case e
      of (Some id) e = some_case id e

pub lone_signalled : (lpi : Option ℕ) (view : View) (piece : List Happened) (signals right : Bool) → (IsTrue right → IsTrue signals) → RaisesAlone right view piece → is_signalled false signals lpi piece ≡ true
lone_signalled lpi view piece signals right so is =
    let raise = only_one None (Raise (Lpi is.id)) piece is.raised.events_are in
    let sole = alone None piece raise.one raise.named in
    let hands : raise.one.found ≡ Nothing = subst (λ e. HandsOut view e raise.one.found) raise.is (All-head (Hands view) raise.one [] (subst (All (Hands view)) raise.named is.raised.found)) in
    ap (signals_from false signals lpi) (from_alone None piece raise.one sole)
    ∙ ap (λ b. cond b (after_take false lpi sole.more (from_named None sole.more)) (is_some (raised_in raise.one.event raise.one.found) && (signals && is_idle None sole.more))) (ap₂ is_taken raise.is hands)
    ∙ and_from (is_some (raised_in raise.one.event raise.one.found)) (signals && is_idle None sole.more) (ap is_some (ap₂ raised_in raise.is hands)) (and_from signals (is_idle None sole.more) (so is.right) (none_idle None sole.more sole.none))

-- What says so is made.

abbrev as_found : Maps → ℕ → View
as_found maps value = record unseen { words = λ word. value; maps = maps }

idle_parts : (one other : List Happened) → named_of None (one ++ other) ≡ [] → (named_of None one ≡ []) × (named_of None other ≡ [])
idle_parts one other h = of (named_of None one) refl (sym (named_more None one other) ∙ h)
  where
    of : (named : List Happened) → named_of None one ≡ named → named_of None one ++ named_of None other ≡ [] → (named_of None one ≡ []) × (named_of None other ≡ [])
    of [] e k = (e, ap (λ xs. xs ++ named_of None other) (sym e) ∙ k)
    of (x ∷ xs) e k = let some : x ∷ (xs ++ named_of None other) ≡ [] = ap (λ ys. ys ++ named_of None other) (sym e) ∙ k in absurd (cc)

module _ (maps : Maps) (device event value : ℕ) (before : List Happened) (one : Happened) (body tail : List Happened) (end : Happened) (rest : List Happened) where
  abbrev view : View
  view = as_found maps value

  pub build : named_of None before ≡ [] → is_taken one.event one.found ≡ true → events_in (named_of None body) ≡ msi_raises view device event → All (Hands view) (named_of None body) → IsLastRead ctlr (FoundWord value) body → named_of None tail ≡ []
      → is_given_back end.event end.found ≡ true → named_of None rest ≡ [] → MakesMsi view device event (before ++ one ∷ (body ++ (tail ++ end ∷ rest)))
  build none taken events hands read quiet given idle =
      let first = taken_is one.event one.found taken in
      let last = given_back_is end.event end.found given in
      let begin : List Happened = before ++ one ∷ [] in
      let begin_named : named_of None begin ≡ one ∷ [] =
      named_more None before (one ∷ []) ∙ ap (λ xs. xs ++ named_of None (one ∷ [])) none ∙ ap (λ e. cond (not (is_beside None e)) (one ∷ []) []) first.0 in
      let end_named : named_of None (tail ++ end ∷ rest) ≡ end ∷ [] =
      named_more None tail (end ∷ rest) ∙ ap (λ xs. xs ++ named_of None (end ∷ rest)) quiet ∙ ap (λ e. cond (not (is_beside None e)) (end ∷ named_of None rest) (named_of None rest)) last.0 ∙ ap (λ xs. end ∷ xs) idle in
      record {
        raising = begin ++ body;
        last = tail ++ end ∷ rest;
        split = sym (ap (λ p. p ++ (tail ++ end ∷ rest)) (append_assoc before (one ∷ []) body) ∙ append_assoc before (one ∷ body) (tail ++ end ∷ rest));
        raised = record {
          begin = begin;
          rest = body;
          split = refl;
          begun = record {
            events_are = ap events_in begin_named ∙ ap (λ e. e ∷ []) first.0;
            found = All-same (Hands view) (named_of None begin) (one ∷ []) begin_named (All-cons (Hands view) one [] (subst (λ e. HandsOut view e one.found) (sym first.0) first.1) (All-nil (Hands view)));
            reads = All-nil (λ (place : Place). IsLastRead place (held_at view place) begin);
          };
          made = record {
            events_are = events;
            found = hands;
            reads = All-cons (λ (place : Place). IsLastRead place (held_at view place) body) ctlr [] read (All-nil (λ (place : Place). IsLastRead place (held_at view place) body));
          };
        };
        ended = record {
          events_are = ap events_in end_named ∙ ap (λ e. e ∷ []) last.0;
          found = All-same (Hands view) (named_of None (tail ++ end ∷ rest)) (end ∷ []) end_named (All-cons (Hands view) end [] (subst (λ e. HandsOut view e end.found) (sym last.0) last.1) (All-nil (Hands view)));
          reads = All-nil (λ (place : Place). IsLastRead place (held_at view place) (tail ++ end ∷ rest));
        };
      }

-- a turn, or a lone raise that was a signal
pub data IsMsi (maps : Maps) (device event : ℕ) (signals : Bool) (piece : List Happened) : Type 0 where
  Turn : (view : View) → view.maps ≡ maps → MakesMsi view device event piece → IsMsi maps device event signals piece
  Lone : IsTrue signals → ((view : View) → RaisesAlone true view piece) → IsMsi maps device event signals piece

module _ (maps : Maps) (device event : ℕ) (signals : Bool) (piece : List Happened) where
  abbrev lpi' : Option ℕ
  lpi' = translated maps true device event

  is_read : (h : Happened) (f : Found) → h.event ≡ Read ctlr → h.found ≡ f → ◌≡◌ {A = Happened} h (record { event = Read ctlr; found = f })
  is_read h f a b = ap₂ (λ (x : Event) (y : Found). let z : Happened = record { event = x; found = y } in z) a b

  -- the ITS is given back, and nothing was raised
  gives : (one : Happened) (rest : List Happened) → from_named None piece ≡ one ∷ rest → is_taken one.event one.found ≡ true → (end : Happened) (after : List Happened) → from_named None rest ≡ end ∷ after → is_given_back end.event end.found ≡ true → is_idle None after ≡ true
      → list_any (finds_none lpi') (before_named None rest) ≡ true → IsMsi maps device event signals piece
  gives one rest e taken end after f given idle any =
      let first = from_first None piece one rest e in
      let at = any_split (finds_none lpi') (before_named None rest) any in
      let read = none_read maps device event at.one at.is in
      let all : rest ≡ (at.before ++ at.one ∷ []) ++ (at.after ++ end ∷ after) =
      split_named None rest ∙ ap₂ (λ xs ys. xs ++ ys) (at.split ∙ sym (append_assoc at.before (at.one ∷ []) at.after)) f ∙ append_assoc (at.before ++ at.one ∷ []) at.after (end ∷ after) in
      let quiet = idle_parts (at.before ++ at.one ∷ []) at.after (ap (named_of None) (append_assoc at.before (at.one ∷ []) at.after ∙ sym at.split) ∙ before_idle None rest) in
      Turn (as_found maps read.value) refl
      (subst (MakesMsi (as_found maps read.value) device event) (sym (first.split ∙ ap (λ r. first.before ++ one ∷ r) all))
      (build maps device event read.value first.before one (at.before ++ at.one ∷ []) at.after end after first.none taken
      (ap events_in quiet.0 ∙ sym (ap (λ o. option_map_or (λ id. Raise (Lpi id) ∷ []) o []) read.signals))
      (All-same (Hands (as_found maps read.value)) (named_of None (at.before ++ at.one ∷ [])) [] quiet.0 (All-nil (Hands (as_found maps read.value))))
      (record { before = at.before; after = []; split = ap (λ (h : Happened). at.before ++ h ∷ []) (is_read at.one (FoundWord read.value) read.event_is read.found); last = All-nil (λ (h : Happened). h.event ≡ Read ctlr → ⊥) })
      quiet.1 given (idle_none None after idle)))

  enabled_last : (o : Option Found) → is_enabled_by o ≡ true → (value : ℕ) × (o ≡ Some (FoundWord value)) × (enabled_in value ≡ true)
  enabled_last None h = absurd (cc)
  enabled_last (Some found) h = let word = enabled_word found h in (word.0, ap Some word.1, word.2)

  -- the LPI is raised, and the ITS is given back
  module _ (one : Happened) (rest : List Happened) (e : from_named None piece ≡ one ∷ rest) (taken : is_taken one.event one.found ≡ true) (raise : Happened) (after : List Happened) (f : from_named None rest ≡ raise ∷ after) (id : ℕ) (raised : raised_in raise.event raise.found ≡ Some id)
      (number : is_number id lpi' ≡ true) (end : Happened) (last : List Happened) (g : from_named None after ≡ end ∷ last) (given : is_given_back end.event end.found ≡ true) (idle : is_idle None last ≡ true) where
    abbrev early : List Happened
    early = before_named None rest

    opens : IsFirstOf None piece one rest
    opens = from_first None piece one rest e

    is_raise : (raise.event ≡ Raise (Lpi id)) × (raise.found ≡ Nothing)
    is_raise = raised_is raise.event raise.found id raised

    raises_so : (word : ℕ) → enabled_in word ≡ true → Raise (Lpi id) ∷ [] ≡ msi_raises (as_found maps word) device event
    raises_so word on = sym (ap (λ b. option_map_or (λ id. Raise (Lpi id) ∷ []) (translated maps b device event) []) on ∙ ap (λ o. option_map_or (λ id. Raise (Lpi id) ∷ []) o []) (number_is id lpi' number))

    named_raise : (more : List Happened) → named_of None more ≡ [] → named_of None (early ++ raise ∷ more) ≡ raise ∷ []
    named_raise more none =
        named_more None early (raise ∷ more) ∙ ap (λ xs. xs ++ named_of None (raise ∷ more)) (before_idle None rest) ∙ ap (λ e. cond (not (is_beside None e)) (raise ∷ named_of None more) (named_of None more)) is_raise.0 ∙ ap (λ xs. raise ∷ xs) none

    hands_raise : (view : View) (more : List Happened) → named_of None more ≡ [] → All (Hands view) (named_of None (early ++ raise ∷ more))
    hands_raise view more none =
        All-same (Hands view) (named_of None (early ++ raise ∷ more)) (raise ∷ []) (named_raise more none)
        (All-cons (Hands view) raise [] (subst (λ e. HandsOut view e raise.found) (sym is_raise.0) is_raise.1) (All-nil (Hands view)))

    by_last : is_enabled_by (last_found (reads ctlr) early) ≡ true → IsMsi maps device event signals piece
    by_last was =
        let word = enabled_last (last_found (reads ctlr) early) was in
        let body : List Happened = early ++ raise ∷ [] in
        let all : rest ≡ body ++ (before_named None after ++ end ∷ last) =
        split_named None rest ∙ ap (λ r. early ++ r) (f ∙ ap (λ r. raise ∷ r) (split_named None after ∙ ap (λ r. before_named None after ++ r) g)) ∙ sym (append_assoc early (raise ∷ []) (before_named None after ++ end ∷ last)) in
        let read : last_found (reads ctlr) body ≡ Some (FoundWord word.0) =
        fold-append (telling (reads ctlr)) None early (raise ∷ []) ∙ ap (λ e. cond (reads ctlr e) (Some raise.found) (last_found (reads ctlr) early)) is_raise.0 ∙ word.1 in
        Turn (as_found maps word.0) refl
        (subst (MakesMsi (as_found maps word.0) device event) (sym (opens.split ∙ ap (λ r. opens.before ++ one ∷ r) all))
        (build maps device event word.0 opens.before one body (before_named None after) end last opens.none taken (ap events_in (named_raise [] refl) ∙ ap (λ e. e ∷ []) is_raise.0 ∙ raises_so word.0 word.2) (hands_raise (as_found maps word.0) [] refl)
        (found_read ctlr (FoundWord word.0) body read) (before_idle None after) given (idle_none None last idle)))

    by_any : list_any finds_enabled (before_named None after) ≡ true → IsMsi maps device event signals piece
    by_any any =
        let at = any_split finds_enabled (before_named None after) any in
        let read = enabled_read at.one at.is in
        let more : List Happened = at.before ++ at.one ∷ [] in
        let body : List Happened = early ++ raise ∷ more in
        let whole : before_named None after ≡ more ++ at.after = at.split ∙ sym (append_assoc at.before (at.one ∷ []) at.after) in
        let quiet = idle_parts more at.after (ap (named_of None) (sym whole) ∙ before_idle None after) in
        let late : after ≡ more ++ (at.after ++ end ∷ last) = split_named None after ∙ ap₂ (λ xs ys. xs ++ ys) whole g ∙ append_assoc more at.after (end ∷ last) in
        let all : rest ≡ body ++ (at.after ++ end ∷ last) =
        split_named None rest ∙ ap (λ r. early ++ r) (f ∙ ap (λ r. raise ∷ r) late) ∙ sym (append_assoc early (raise ∷ more) (at.after ++ end ∷ last)) in
        Turn (as_found maps read.value) refl
        (subst (MakesMsi (as_found maps read.value) device event) (sym (opens.split ∙ ap (λ r. opens.before ++ one ∷ r) all))
        (build maps device event read.value opens.before one body at.after end last opens.none taken (ap events_in (named_raise more quiet.0) ∙ ap (λ e. e ∷ []) is_raise.0 ∙ raises_so read.value read.enables)
        (hands_raise (as_found maps read.value) more quiet.0)
        (record {
          before = early ++ raise ∷ at.before;
          after = [];
          split = ap (λ (h : Happened). early ++ raise ∷ (at.before ++ h ∷ [])) (is_read at.one (FoundWord read.value) read.event read.found) ∙ sym (append_assoc early (raise ∷ at.before) _);
          last = All-nil (λ (h : Happened). h.event ≡ Read ctlr → ⊥);
        })
        quiet.1 given (idle_none None last idle)))

  raising_end : (one : Happened) (rest : List Happened) → from_named None piece ≡ one ∷ rest → is_taken one.event one.found ≡ true → (raise : Happened) (after : List Happened) → from_named None rest ≡ raise ∷ after → (id : ℕ) → raised_in raise.event raise.found ≡ Some id → is_number id lpi' ≡ true
      → (from : List Happened) → from_named None after ≡ from → after_raise false (is_enabled_by (last_found (reads ctlr) (before_named None rest))) after from ≡ true → IsMsi maps device event signals piece
  raising_end one rest e taken raise after f id raised number [] g h = absurd (cc)
  raising_end one rest e taken raise after f id raised number (end ∷ last) g h =
      let was = is_enabled_by (last_found (reads ctlr) (before_named None rest)) in
      let both = and_parts (is_given_back end.event end.found) (is_idle None last && (was || list_any finds_enabled (before_named None after))) h in
      let more = and_parts (is_idle None last) (was || list_any finds_enabled (before_named None after)) both.1 in
      elim (or_cases was (list_any finds_enabled (before_named None after)) more.1) [
        | inl w ↦ by_last one rest e taken raise after f id raised number end last g both.0 more.0 w
        | inr any ↦ by_any one rest e taken raise after f id raised number end last g both.0 more.0 any
      ]

  taking_end : (one : Happened) (rest : List Happened) → from_named None piece ≡ one ∷ rest → is_taken one.event one.found ≡ true → (from : List Happened) → from_named None rest ≡ from → after_take false lpi' rest from ≡ true → IsMsi maps device event signals piece
  taking_end one rest e taken [] f h = absurd (cc)
  taking_end one rest e taken (next ∷ after) f h = of (is_given_back next.event next.found) refl (raised_in next.event next.found) refl h
    where
      tell : Option ℕ → Bool
      tell o = option_map_or (λ id. is_number id lpi' && after_raise false (is_enabled_by (last_found (reads ctlr) (before_named None rest))) after (from_named None after)) o false

      of : (b : Bool) → is_given_back next.event next.found ≡ b → (o : Option ℕ) → raised_in next.event next.found ≡ o → cond b (is_idle None after && list_any (finds_none lpi') (before_named None rest)) (tell o) ≡ true → IsMsi maps device event signals piece
      of true g o r k = let both = and_parts (is_idle None after) (list_any (finds_none lpi') (before_named None rest)) k in gives one rest e taken next after f g both.0 both.1
      of false g None r k = absurd (cc)
      of false g (Some id) r k =
          let both = and_parts (is_number id lpi') (after_raise false (is_enabled_by (last_found (reads ctlr) (before_named None rest))) after (from_named None after)) k in
          raising_end one rest e taken next after f id r both.0 (from_named None after) refl both.1

  pub signalled_made : is_signalled false signals lpi' piece ≡ true → IsMsi maps device event signals piece
  signalled_made = of (from_named None piece) refl
    where
      lone : (one : Happened) (rest : List Happened) → from_named None piece ≡ one ∷ rest → (o : Option ℕ) → raised_in one.event one.found ≡ o → (is_some o && (signals && is_idle None rest)) ≡ true → IsMsi maps device event signals piece
      lone one rest e None r h = absurd (cc)
      lone one rest e (Some id) r h =
          let both = and_parts signals (is_idle None rest) h in
          let raise = raised_is one.event one.found id r in
          let first = from_first None piece one rest e in
          let named : named_of None piece ≡ one ∷ [] = first_named None piece one rest first ∙ ap (λ xs. one ∷ xs) (idle_none None rest both.1) in
          Lone both.0 (λ view. record {
            id = id;
            raised = record {
              events_are = ap events_in named ∙ ap (λ e. e ∷ []) raise.0;
              found = All-same (Hands view) (named_of None piece) (one ∷ []) named (All-cons (Hands view) one [] (subst (λ e. HandsOut view e one.found) (sym raise.0) raise.1) (All-nil (Hands view)));
              reads = All-nil (λ (place : Place). IsLastRead place (held_at view place) piece);
            };
            right = refl;
          })

      of : (from : List Happened) → from_named None piece ≡ from → signals_from false signals lpi' from ≡ true → IsMsi maps device event signals piece
      of [] e h = absurd (cc)
      of (one ∷ rest) e h = either (is_taken one.event one.found) refl h
        where
          either : (b : Bool) → is_taken one.event one.found ≡ b → cond b (after_take false lpi' rest (from_named None rest)) (is_some (raised_in one.event one.found) && (signals && is_idle None rest)) ≡ true → IsMsi maps device event signals piece
          either true t k = taking_end one rest e t (from_named None rest) refl k
          either false t k = lone one rest e (raised_in one.event one.found) refl k
