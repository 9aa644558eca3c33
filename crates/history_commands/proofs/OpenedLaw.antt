-- What was made may become a write of a register of the ITS that takes it exactly where it is begun so.
use Rattle.std.proofs.Common.{◌≡◌, ◌⊎◌, ◌↔◌, ℕ, Bool, true, false, cond, List, [], ◌∷◌, ◌++◌, map, All, Option, Some, None, refl, sym, ap, ap₂, ◌∙◌, subst, inl, inr, append_assoc, append-nil}
use Rattle.std.specs.List.{list_all}
use Rattle.std.proofs.lemmas.Bool.{and_parts}
use Rattle.std.proofs.lemmas.List.{map-append}
use Rattle.std.proofs.lemmas.List.Elements.{All-nil, All-cons, All-append, All-same}
use Rattle.std.proofs.lemmas.List.Folds.{list_all-append}
use Rattle.history_commands.specs.Words.{GuestShape, Its as ItsFrame}
use Rattle.history_commands.specs.Registers.{Maps}
use Rattle.history_commands.specs.GicImap.Map.{decoded as its_decoded}
use Rattle.history_commands.specs.GicImap.declared.map.RegRef.{RegRef as ItsRef}
use Rattle.history_commands.specs.Calls.{Event, Put, ItsBegin, Runs as QueueRuns, Found, Happened, Place, View, HandsOut, Makes, is_beside, its_events, its_places, its_starts, its_written_by, named_of}
use Rattle.history_commands.specs.GicCall.declared.event.Event.TheVariants.{Queue}
use Rattle.history_commands.specs.GicCall.declared.event.Found.TheVariants.{Nothing, Word as FoundWord}
use Rattle.history_commands.specs.HistoryCalls.Found.{found_by}
use Rattle.history_calls.proofs.CountLemmas.{named_more}
use Rattle.history_commands.specs.declared.its.Its.{Its}
use Rattle.history_commands.specs.Known.{its_in, read_at}
use Rattle.history_commands.specs.Stage.{Stage, Between, Ending, Follow}
use Rattle.history_commands.specs.Written.{starting, IsWritten, IsFirstNamed, IsItsMade}
use Rattle.history_commands.specs.Opened.{IsWriteBegun, IsTakenBegun, IsItsBegun, ItsWritesMayGoOn}
use Rattle.history_commands.proofs.ViewLemmas.{all_left}
use Rattle.history_commands.proofs.StepLemmas.{events_in, Hands, quiet_more, named_one}
use Rattle.history_commands.proofs.FollowLaw.{named_reads}
use Rattle.history_commands.specs.Writing.{is_of_its}
use Rattle.history_commands.proofs.WriteLemmas.{write_found, write_of_its}
use Rattle.history_commands.proofs.EndLemmas.{Runs, Ends, IsCalm, read_here, ends_any, goes_on, stops_before}

-- Two ways to part a list.

pub record IsLater (one early two late : List Happened) : Type 0 where
  pub between : List Happened
  pub first : one ≡ early ++ between
  pub last : late ≡ between ++ two

pub same_head : (x y : Happened) (xs ys : List Happened) → x ∷ xs ≡ y ∷ ys → x ≡ y
same_head x y xs ys h = cc

pub same_tail : (x y : Happened) (xs ys : List Happened) → x ∷ xs ≡ y ∷ ys → xs ≡ ys
same_tail x y xs ys h = cc

pub parted : (one two early late : List Happened) → one ++ two ≡ early ++ late → IsLater one early two late ⊎ IsLater early one late two
parted one two [] late h = inl (record { between = one; first = refl; last = sym h })
parted [] two (y ∷ early) late h = inr (record { between = y ∷ early; first = refl; last = h })
parted (x ∷ one) two (y ∷ early) late h = of (parted one two early late (same_tail x y (one ++ two) (early ++ late) h))
  where
    e : x ≡ y
    e = same_head x y (one ++ two) (early ++ late) h

    of : IsLater one early two late ⊎ IsLater early one late two → IsLater (x ∷ one) (y ∷ early) two late ⊎ IsLater (y ∷ early) (x ∷ one) late two
    of (inl is) = inl (record { between = is.between; first = ap₂ (λ z zs. z ∷ zs) (same_head x y (one ++ two) (early ++ late) h) is.first; last = is.last })
    of (inr is) = inr (record { between = is.between; first = ap₂ (λ z zs. z ∷ zs) (sym (same_head x y (one ++ two) (early ++ late) h)) is.first; last = is.last })

-- Events of a write, as a view has them.

hand : View → Event → Found
hand view (Put word value) = FoundWord (view.words word)
hand view event = Nothing

made_by : View → Event → Happened
made_by view event = record { event = event; found = hand view event }

record IsHanded (actor : Option ℕ) (view : View) (events : List Event) : Type 0 where
  named : named_of actor (map (made_by view) events) ≡ map (made_by view) events
  events_are : events_in (map (made_by view) events) ≡ events
  hands : All (Hands view) (map (made_by view) events)

one_handed : (actor : Option ℕ) (view : View) (event : Event) → is_of_its event ≡ true → (is_beside actor event ≡ false) × HandsOut view event (hand view event)
unfolding hand
one_handed actor view (Put word value) h = (refl, refl)
one_handed actor view (Queue offset QueueRuns) h = (refl, refl)
one_handed actor view event h = absurd (cc)

handed : (actor : Option ℕ) (view : View) (events : List Event) → list_all is_of_its events ≡ true → IsHanded actor view events
unfolding made_by
handed actor view [] h = record { named = refl; events_are = refl; hands = All-nil (Hands view) }
handed actor view (event ∷ events) h =
    let both = and_parts (is_of_its event) (list_all is_of_its events) h in
    let one = one_handed actor view event both.0 in
    let rest = handed actor view events both.1 in
    record {
      named = named_one actor (made_by view event) (map (made_by view) events) one.0 ∙ ap (λ xs. made_by view event ∷ xs) rest.named;
      events_are = ap (λ es. event ∷ es) rest.events_are;
      hands = All-cons (Hands view) (made_by view event) (map (made_by view) events) one.1 rest.hands;
    }

module _ (shape : GuestShape) (maps : Maps) (targets : ℕ → ℕ → Option ℕ) (actor offset size value : ℕ) where
  abbrev ref : ItsRef
  ref = its_decoded offset size

  abbrev events_by : View → List Event
  events_by view = its_events shape view ref (Some value)

  abbrev places : List Place
  places = its_places shape ref (Some value)

  starts_calm : (view : View) → IsCalm shape targets actor (starting shape view maps offset size value)
  starts_calm view = of (its_starts shape view ref (Some value))
    where
      of : (b : Bool) → IsCalm shape targets actor (cond b (Between 0 (its_in (its_written_by shape view (events_by view))) maps []) Ending)
      of true = refl
      of false = tt

  -- Forth: further events make it the write.

  pub record IsEnded (rest : List Happened) : Type 0 where
    pub more : List Happened
    pub is : IsWritten shape maps targets actor offset size value false (rest ++ more)

  pub write_ends : (rest : List Happened) → IsWriteBegun shape actor offset size value rest → IsEnded rest
  write_ends rest is =
      let view : View = is.view in
      let all : list_all is_of_its (events_in (named_of (Some actor) rest) ++ is.more) ≡ true = ap (list_all is_of_its) is.events_are ∙ write_of_its shape view ref value in
      let later : list_all is_of_its is.more ≡ true =
      (and_parts (list_all is_of_its (events_in (named_of (Some actor) rest))) (list_all is_of_its is.more) (sym (list_all-append is_of_its (events_in (named_of (Some actor) rest)) is.more) ∙ all)).1 in
      let next = handed (Some actor) view is.more later in
      let early : List Happened = rest ++ map (made_by view) is.more in
      let written : List Happened = early ++ map (read_at view) places in
      let named : named_of (Some actor) written ≡ named_of (Some actor) rest ++ map (made_by view) is.more =
      named_more (Some actor) early (map (read_at view) places) ∙ ap (λ xs. named_of (Some actor) early ++ xs) (named_reads (Some actor) view places) ∙ append-nil (named_of (Some actor) early)
      ∙ named_more (Some actor) rest (map (made_by view) is.more) ∙ ap (λ xs. named_of (Some actor) rest ++ xs) next.named in
      let made : Makes (Some actor) view (events_by view) places [] written = record {
        events_are = ap events_in named ∙ map-append (λ (h : Happened). h.event) (named_of (Some actor) rest) (map (made_by view) is.more) ∙ ap (λ es. events_in (named_of (Some actor) rest) ++ es) next.events_are ∙ is.events_are;
        found = All-same (Hands view) _ _ named (All-append (Hands view) (named_of (Some actor) rest) (map (made_by view) is.more) is.found next.hands);
        reads = read_here view early places;
      } in
      let found = write_found shape (Some actor) view ref value written made in
      let end = ends_any shape targets actor (starting shape (found_by written) maps offset size value) (starts_calm (found_by written)) in
      record {
        more = map (made_by view) is.more ++ (map (read_at view) places ++ end.0);
        is = record {
          written = written;
          later = end.0;
          split = sym (append_assoc rest (map (made_by view) is.more) (map (read_at view) places ++ end.0)) ∙ sym (append_assoc early (map (read_at view) places) end.0);
          made = record { events_are = made.events_are ∙ sym found.events; found = found.hands; reads = found.read };
          follow = end.1;
        };
      }

  written_ends : (rest : List Happened) → IsWritten shape maps targets actor offset size value true rest → IsEnded rest
  written_ends rest is =
      let end = goes_on shape targets actor is.later (starting shape (found_by is.written) maps offset size value) (starts_calm (found_by is.written)) is.follow in
      record {
        more = end.0;
        is = record { written = is.written; later = is.later ++ end.0; split = ap (λ xs. xs ++ end.0) is.split ∙ append_assoc is.written is.later end.0; made = is.made; follow = end.1 };
      }

  pub rest_ends : (rest : List Happened) → IsWriteBegun shape actor offset size value rest ⊎ IsWritten shape maps targets actor offset size value true rest → IsEnded rest
  rest_ends rest (inl is) = write_ends rest is
  rest_ends rest (inr is) = written_ends rest is

  abbrev IsSome : List Happened → Type 0
  IsSome piece = (more : List Happened) × IsItsMade shape maps targets actor offset size value (piece ++ more)

  -- nothing was written yet
  pub nothing_begun : IsWriteBegun shape actor offset size value []
  nothing_begun = record { view = found_by []; more = events_by (found_by []); events_are = refl; found = All-nil (Hands (found_by [])) }

  forth : (piece : List Happened) → IsItsBegun shape maps targets actor offset size value piece → IsSome piece
  forth piece (inl quiet) =
      let one : Happened = record { event = ItsBegin; found = Nothing } in
      let end = write_ends [] nothing_begun in
      (one ∷ end.more, record { first = one; rest = end.more; is_first = record { idle = piece; split = refl; quiet = quiet; named = refl }; taken = refl; found = refl; goes_on = end.is })
  forth piece (inr is) =
      let end = rest_ends is.rest is.goes_on in (
        end.more,
        record {
          first = is.first;
          rest = is.rest ++ end.more;
          is_first = record { idle = is.is_first.idle; split = ap (λ xs. xs ++ end.more) is.is_first.split ∙ append_assoc is.is_first.idle (is.first ∷ is.rest) end.more; quiet = is.is_first.quiet; named = is.is_first.named };
          taken = is.taken;
          found = is.found;
          goes_on = end.is;
        },
      )

  -- Back: what was made of the write is begun so.

  pub named_left : (one two : List Happened) → named_of (Some actor) (one ++ two) ≡ [] → named_of (Some actor) one ≡ []
  named_left one two h = none_left (named_of (Some actor) one) (named_of (Some actor) two) (sym (named_more (Some actor) one two) ∙ h)
    where
      none_left : (xs ys : List Happened) → xs ++ ys ≡ [] → xs ≡ []
      none_left [] ys k = refl
      none_left (x ∷ xs) ys k = absurd (cc)

  pub written_back : (rest more : List Happened) → IsWritten shape maps targets actor offset size value false (rest ++ more) → IsWriteBegun shape actor offset size value rest ⊎ IsWritten shape maps targets actor offset size value true rest
  written_back rest more is = of (parted rest more is.written is.later is.split)
    where
      of : IsLater rest is.written more is.later ⊎ IsLater is.written rest is.later more → IsWriteBegun shape actor offset size value rest ⊎ IsWritten shape maps targets actor offset size value true rest
      of (inl at_) = inr (record {
        written = is.written;
        later = at_.between;
        split = at_.first;
        made = is.made;
        follow = stops_before shape targets actor at_.between more (starting shape (found_by is.written) maps offset size value) (subst (Runs shape targets actor (starting shape (found_by is.written) maps offset size value)) at_.last is.follow);
      })
      of (inr at_) =
          let named : named_of (Some actor) is.written ≡ named_of (Some actor) rest ++ named_of (Some actor) at_.between = ap (named_of (Some actor)) at_.first ∙ named_more (Some actor) rest at_.between in
          inl (record {
            view = found_by is.written;
            more = events_in (named_of (Some actor) at_.between);
            events_are = sym (ap events_in named ∙ map-append (λ (h : Happened). h.event) (named_of (Some actor) rest) (named_of (Some actor) at_.between)) ∙ is.made.events_are;
            found = all_left (Hands (found_by is.written)) (named_of (Some actor) rest) (named_of (Some actor) at_.between) (All-same (Hands (found_by is.written)) _ _ (sym named) is.made.found);
          })

  back : (piece more : List Happened) → IsItsMade shape maps targets actor offset size value (piece ++ more) → IsItsBegun shape maps targets actor offset size value piece
  back piece more is = of (parted piece more is.is_first.idle (is.first ∷ is.rest) is.is_first.split)
    where
      after : (between : List Happened) → piece ≡ is.is_first.idle ++ between → is.first ∷ is.rest ≡ between ++ more → IsItsBegun shape maps targets actor offset size value piece
      after [] first last = inl (ap (named_of (Some actor)) (first ∙ append-nil is.is_first.idle) ∙ is.is_first.quiet)
      after (one ∷ between) first last = inr (record {
        first = is.first;
        rest = between;
        is_first = record {
          idle = is.is_first.idle;
          split = first ∙ ap (λ x. is.is_first.idle ++ x ∷ between) (sym (same_head is.first one is.rest (between ++ more) last));
          quiet = is.is_first.quiet;
          named = is.is_first.named;
        };
        taken = is.taken;
        found = is.found;
        goes_on = written_back between more (subst (IsWritten shape maps targets actor offset size value false) (same_tail is.first one is.rest (between ++ more) last) is.goes_on);
      })

      of : IsLater piece is.is_first.idle more (is.first ∷ is.rest) ⊎ IsLater is.is_first.idle piece (is.first ∷ is.rest) more → IsItsBegun shape maps targets actor offset size value piece
      of (inl at_) = after at_.between at_.first at_.last
      of (inr at_) = inl (named_left piece at_.between (ap (named_of (Some actor)) (sym at_.first) ∙ is.is_first.quiet))

pub may_go_on : ItsWritesMayGoOn
may_go_on shape maps targets actor offset size value piece = (λ is. forth shape maps targets actor offset size value piece is, λ h. back shape maps targets actor offset size value piece h.0 h.1)
