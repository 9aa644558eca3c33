-- The commands of a call are followed to their end exactly where they are commands, one after the other.
use Rattle.std.proofs.Common.{◌≡◌, ℕ, ◌+◌, not, Bool, true, false, cond, IsTrue, List, [], ◌∷◌, ◌++◌, map, All, Option, Some, None, refl, sym, ap, ap₂, ◌∙◌, subst, arith, append_assoc, append-nil}
use Rattle.std.specs.Option.{option_map_or}
use Rattle.std.proofs.lemmas.List.{map-append}
use Rattle.std.proofs.lemmas.List.Sums.{fold-append}
use Rattle.std.proofs.lemmas.List.Elements.{All-nil, All-cons, All-head, All-tail, All-append, All-same, All-weaker}
use Rattle.history_commands.specs.Words.{GuestShape}
use Rattle.history_commands.specs.Registers.{Maps, fault_number}
use Rattle.history_commands.specs.LegalLists.ItsCmd.Command.{decoded}
use Rattle.history_commands.specs.Calls.{Event, ItsBegin, Found, Record, Happened, Beside, View, Part, Map, Clear, Place, PlainWord, Done, Stalls, HandsOut, IsLastRead, HaveSameIts, IsPartThen, ArePartsThen, IsCommand, IsCommandThen, AreCommands, EndsWith, Makes, begins_named, held_at, is_beside, named_of, command_targets, command_parts, command_words, next_offset, command_places, queue_event, takes_command, words_read, byte_places, lpi_event, left_by}
use Rattle.history_commands.specs.GicCall.declared.event.Event.TheVariants.{ItsEnd, Read, Queue}
use Rattle.history_commands.specs.GicCall.declared.event.Place.TheVariants.{Word, Queue as QueuePlace, Ctlr, Lpis}
use Rattle.history_commands.specs.GicCall.declared.event.Found.TheVariants.{Nothing}
use Rattle.history_commands.specs.GicCall.declared.command.Part.TheVariants.{Forget, Retarget, Raise, Configure}
use Rattle.history_commands.specs.HistoryCalls.Found.{found_by, reads, telling, last_found}
use Rattle.history_calls.proofs.FoundLemmas.{read_found, found_read}
use Rattle.history_calls.proofs.CountLemmas.{named_more}
use Rattle.history_commands.specs.declared.its.Its.{Its}
use Rattle.history_commands.specs.Known.{its_in, view_by, its_after, maps_left, read_at}
use Rattle.history_commands.specs.Stage.{Stage, Between, Within, Ending, Over, AreReadBy, IsPartMade, IsQueueMade, FitsParts, FitsTaken, FitsNamed, IsGivenBack, Follow, named_after, parts_after}
use Rattle.history_commands.proofs.ViewLemmas.{reads_more, IsKnown, IsSameCommand, same_command, takes_known, same_part, left_known, known_same, same_known}
use Rattle.history_commands.proofs.StepLemmas.{events_in, Hands, IsSingle, single, makes_single, quiet_more, quiet_one, quiet_parts, named_one, Goes, goes_named, went_named, went_beside, over_between, over_within, over_ending, over_over, over_quiet}

-- Reads.

-- an event that is no read changes no last one
last_more : (place : Place) (piece : List Happened) (one : Happened) → reads place one.event ≡ false → last_found (reads place) (piece ++ one ∷ []) ≡ last_found (reads place) piece
last_more place piece one e = fold-append (telling (reads place)) None piece (one ∷ []) ∙ ap (λ b. cond b (Some one.found) (last_found (reads place) piece)) e

read_with : (place : Place) (found : Found) (piece : List Happened) (one : Happened) → reads place one.event ≡ false → IsLastRead place found piece → IsLastRead place found (piece ++ one ∷ [])
read_with place found piece one e is = found_read place found (piece ++ one ∷ []) (last_more place piece one e ∙ read_found place found piece is)

read_without : (place : Place) (found : Found) (piece : List Happened) (one : Happened) → reads place one.event ≡ false → IsLastRead place found (piece ++ one ∷ []) → IsLastRead place found piece
read_without place found piece one e is = found_read place found piece (sym (last_more place piece one e) ∙ read_found place found (piece ++ one ∷ []) is)

pub named_reads : (actor : Option ℕ) (view : View) (places : List Place) → named_of actor (map (read_at view) places) ≡ []
named_reads actor view [] = refl
named_reads actor view (place ∷ places) = named_reads actor view places

-- Events of parts and of the queue.

pub record IsPlain (actor : Option ℕ) (event : Event) : Type 0 where
  pub named : is_beside actor event ≡ false
  pub no_read : (place : Place) → reads place event ≡ false

pub part_plain : (actor : Option ℕ) (shape : GuestShape) (view : View) (targets : ℕ → Option ℕ) (part : Part) → IsPlain actor (lpi_event shape view targets part)
part_plain actor shape view targets (Forget id) = record { named = refl; no_read = λ place. refl }
part_plain actor shape view targets (Map id target) = record { named = refl; no_read = λ place. refl }
part_plain actor shape view targets (Retarget id target) = record { named = refl; no_read = λ place. refl }
part_plain actor shape view targets (Raise id) = record { named = refl; no_read = λ place. refl }
part_plain actor shape view targets (Clear id) = record { named = refl; no_read = λ place. refl }
part_plain actor shape view targets (Configure id) = record { named = refl; no_read = λ place. refl }

-- the records do not count for what a part does
abbrev with_irqs : View → View → View
with_irqs view other = record view { irqs = other.irqs }

record IsPartBy (shape : GuestShape) (targets : ℕ → Option ℕ) (part : Part) (view other : View) (found : Found) : Type 0 where
  event : lpi_event shape (with_irqs view other) targets part ≡ lpi_event shape view targets part
  places : byte_places shape (with_irqs view other) targets part ≡ byte_places shape view targets part
  hands : HandsOut other (lpi_event shape view targets part) found → HandsOut (with_irqs view other) (lpi_event shape view targets part) found

part_by : (shape : GuestShape) (targets : ℕ → Option ℕ) (part : Part) (view other : View) (found : Found) → IsPartBy shape targets part view other found
part_by shape targets (Forget id) view other found = record { event = refl; places = refl; hands = λ h. h }
part_by shape targets (Map id target) view other found = record { event = refl; places = refl; hands = λ h. h }
part_by shape targets (Retarget id target) view other found = record { event = refl; places = refl; hands = λ h. h }
part_by shape targets (Raise id) view other found = record { event = refl; places = refl; hands = λ h. h }
part_by shape targets (Clear id) view other found = record { event = refl; places = refl; hands = λ h. h }
part_by shape targets (Configure id) view other found = record { event = refl; places = refl; hands = λ h. h }

held_with : (view other : View) (place : Place) → held_at (with_irqs view other) place ≡ held_at view place
held_with view other (Word word) = refl
held_with view other QueuePlace = refl
held_with view other Ctlr = refl
held_with view other (Lpis vcpu) = refl

no_end : IsTrue false → ⊥
no_end h = cc

queue_of : (view other : View) (o : Option ℕ) (next : ℕ) (words : List ℕ) (found : Found) → HandsOut view (option_map_or (λ fault. Queue other.offset (Stalls fault)) o (Queue next (Done words))) found → found ≡ Nothing
queue_of view other None next words found h = h
queue_of view other (Some fault) next words found h = h

queue_nothing : (shape : GuestShape) (view other : View) (found : Found) → HandsOut view (queue_event shape other) found → found ≡ Nothing
queue_nothing shape view other found = queue_of view other (fault_number shape other.maps (decoded (command_words shape other))) (next_offset other) (command_words shape other) found

queue_back : (view other : View) (o : Option ℕ) (next : ℕ) (words : List ℕ) (found : Found) → found ≡ Nothing → HandsOut view (option_map_or (λ fault. Queue other.offset (Stalls fault)) o (Queue next (Done words))) found
queue_back view other None next words found h = h
queue_back view other (Some fault) next words found h = h

queue_hands : (shape : GuestShape) (view other : View) (found : Found) → found ≡ Nothing → HandsOut view (queue_event shape other) found
queue_hands shape view other found = queue_back view other (fault_number shape other.maps (decoded (command_words shape other))) (next_offset other) (command_words shape other) found

-- Lists.

none_before : (xs : List Happened) (event : Event) → events_in xs ++ event ∷ [] ≡ event ∷ [] → xs ≡ []
none_before [] event h = refl
none_before (x ∷ []) event h = absurd (cc)
none_before (x ∷ y ∷ xs) event h = absurd (cc)

pub none_in : (xs : List Happened) → events_in xs ≡ [] → xs ≡ []
none_in [] h = refl
none_in (x ∷ xs) h = absurd (cc)

pub not_true : (b : Bool) → IsTrue (not b) → b ≡ false
not_true true h = absurd (cc)
not_true false h = refl

pub not_false : (b : Bool) → b ≡ false → IsTrue (not b)
not_false b e = ap not e

record Begins (actor : Option ℕ) (piece : List Happened) : Type 0 where
  one : Happened
  more : List Happened
  split : piece ≡ one ∷ more
  named : is_beside actor one.event ≡ false

begins : (actor : Option ℕ) (piece : List Happened) → IsTrue (begins_named actor piece) → Begins actor piece
begins actor [] h = absurd (cc)
begins actor (x ∷ piece) h = record { one = x; more = piece; split = refl; named = not_true (is_beside actor x.event) h }

-- a piece with no named event
pub makes_none : (actor : Option ℕ) (view : View) (places : List Place) (piece : List Happened) → named_of actor piece ≡ [] → AreReadBy view piece places → Makes actor view [] places [] piece
makes_none actor view places piece quiet all = record { events_are = ap events_in quiet; found = All-same (Hands view) (named_of actor piece) [] quiet (All-nil (Hands view)); reads = all }

-- Forth.

module _ (shape : GuestShape) (beside : Beside) (actor : ℕ) where
  abbrev pub Runs : Stage → List Happened → Type 0
  Runs stage piece = Follow shape (command_targets beside) actor false stage piece

  abbrev pub who : Option ℕ
  who = Some actor

  abbrev pub seen : ℕ → Its → Maps → List Happened → View
  seen number its maps fetch = view_by its maps (command_targets beside number) fetch

  parts_more : (targets : ℕ → Option ℕ) (words : List Happened) (parts : List Part) (Rest : List Happened → Type 0) (more before piece : List Happened) → ArePartsThen who shape targets words parts Rest before piece
      → ArePartsThen who shape targets words parts Rest (more ++ before) piece
  parts_more targets words [] Rest more before piece is = is
  parts_more targets words (part ∷ parts) Rest more before piece is = record {
    view = is.view;
    own = is.own;
    rest = is.rest;
    split = is.split;
    made = record {
      events_are = is.made.events_are;
      found = is.made.found;
      reads =
          All-weaker (λ place. IsLastRead place (held_at is.view place) (before ++ is.own)) (λ place. IsLastRead place (held_at is.view place) ((more ++ before) ++ is.own))
          (λ place r. subst (IsLastRead place (held_at is.view place)) (sym (append_assoc more before is.own)) (reads_more place (held_at is.view place) more (before ++ is.own) r))
          (byte_places shape is.view targets part) is.made.reads;
    };
    ends = is.ends;
    later = is.later;
  }

  module _ (number : ℕ) (its : Its) (maps : Maps) (fetch : List Happened) where
    abbrev here : View
    here = seen number its maps fetch

    fwd_parts : (parts : List Part) (Rest : List Happened → Type 0) (tail : List Happened) → ((before piece : List Happened) → Rest piece → Runs (Within number its maps fetch [] before) (piece ++ tail))
        → (before piece : List Happened) → named_of who before ≡ [] → ArePartsThen who shape (command_targets beside number) (words_read shape here) parts Rest before piece
        → Runs (Within number its maps fetch parts before) (piece ++ tail)
    fwd_parts [] Rest tail rest before piece quiet is = rest before piece is
    fwd_parts (part ∷ parts) Rest tail rest before piece quiet is =
        let targets : ℕ → Option ℕ = command_targets beside number in
        let event : Event = lpi_event shape is.view targets part in
        let plain = part_plain who shape is.view targets part in
        let early : List Happened = is.ends.before in
        let one : Happened = record { event = event; found = is.ends.found } in
        let own_named : named_of who is.own ≡ named_of who early ++ one ∷ [] =
        ap (named_of who) is.ends.split ∙ named_more who early (one ∷ []) ∙ ap (λ xs. named_of who early ++ xs) (named_one who one [] plain.named) in
        let none : named_of who early ≡ [] =
        none_before (named_of who early) event (sym (ap events_in own_named ∙ map-append (λ (h : Happened). h.event) (named_of who early) (one ∷ [])) ∙ is.made.events_are) in
        let calm : named_of who (before ++ early) ≡ [] = quiet_more who before early quiet none in
        let hands : Hands is.view one =
        All-head (Hands is.view) one [] (All-same (Hands is.view) (one ∷ []) (named_of who is.own) (sym (own_named ∙ ap (λ xs. xs ++ one ∷ []) none)) is.made.found) in
        let all : AreReadBy is.view (before ++ early) (byte_places shape is.view targets part) =
        All-weaker (λ place. IsLastRead place (held_at is.view place) (before ++ is.own)) (λ place. IsLastRead place (held_at is.view place) (before ++ early))
        (λ place r. read_without place (held_at is.view place) (before ++ early) one (plain.no_read place) (subst (IsLastRead place (held_at is.view place)) (ap (λ xs. before ++ xs) is.ends.split ∙ sym (append_assoc before early (one ∷ []))) r))
        (byte_places shape is.view targets part) is.made.reads in
        let same = same_part shape who targets (before ++ early) is.view calm part all in
        let split : piece ++ tail ≡ early ++ one ∷ (is.rest ++ tail) =
        ap (λ xs. xs ++ tail) (is.split ∙ ap (λ xs. xs ++ is.rest) is.ends.split) ∙ append_assoc (early ++ one ∷ []) is.rest tail ∙ append_assoc early (one ∷ []) (is.rest ++ tail) in
        subst (Runs (Within number its maps fetch (part ∷ parts) before)) (sym split)
        (over_within shape (command_targets beside) actor false number its maps fetch (part ∷ parts) before early (one ∷ (is.rest ++ tail)) none
        (goes_named shape (command_targets beside) actor false (Within number its maps fetch (part ∷ parts) (before ++ early)) one (is.rest ++ tail) plain.named
        (record { event_is = sym same.event; found_in = is.view; found = hands; read = same.read })
        (fwd_parts parts Rest tail rest (words_read shape here) is.rest (named_reads who here (command_places shape here)) is.later)))

    -- the first event of a command
    enters : (one : Happened) (rest : List Happened) → takes_command here ≡ true → AreReadBy here fetch (command_places shape here) → is_beside who one.event ≡ false → Runs (Within number its maps fetch (command_parts shape here) fetch) (one ∷ rest)
        → Runs (Between number its maps fetch) (one ∷ rest)
    enters one rest takes all named h =
        let went = went_named shape (command_targets beside) actor false (Within number its maps fetch (command_parts shape here) fetch) one rest named h in
        goes_named shape (command_targets beside) actor false (Between number its maps fetch) one rest named
        (subst (λ b. FitsTaken shape here fetch b one) (sym takes) (all, went.0))
        (subst (λ b. Runs (cond b (parts_after shape (command_targets beside) number its maps fetch (command_parts shape here) one) Over) rest) (sym takes) went.1)

  -- commands as they are defined are followed to the end of the call
  abbrev pub Forth : List View → Type 0
  Forth views = (number : ℕ) (known : View) (its : Its) (maps : Maps) (reads piece last : List Happened) (end : View) → its_in known ≡ its → known.maps ≡ maps → named_of who reads ≡ [] → AreCommands who shape beside number known views piece
      → Makes who end (ItsEnd ∷ []) [] [] last → Runs (Between number its maps reads) (piece ++ last)

  abbrev pub QueuedAt : View → List Happened → Type 0
  QueuedAt view after = Makes who view (queue_event shape view ∷ []) [] [] after

  -- the end of a command, and those after it
  queued : (view : View) (views : List View) → Forth views → (number : ℕ) (its : Its) (maps : Maps) (fetch : List Happened) → IsKnown its maps (command_targets beside number) view → IsSameCommand shape fetch view (seen number its maps fetch) → (rest last : List Happened) (end : View)
      → AreCommands who shape beside (number + 1) (left_by shape view (queue_event shape view)) views rest → Makes who end (ItsEnd ∷ []) [] [] last → (before after : List Happened) → QueuedAt view after → Runs (Within number its maps fetch [] before) (after ++ (rest ++ last))
  queued view views forth number its maps fetch so same rest last end later ended before after made =
      let s = single who view (queue_event shape view) after made.events_are made.found in
      let left = left_known shape view in
      let found : s.one.found ≡ Nothing = queue_nothing shape view view s.one.found (subst (λ event. HandsOut view event s.one.found) s.event_is s.hands) in
      let split : after ++ (rest ++ last) ≡ s.before ++ s.one ∷ (s.after ++ (rest ++ last)) = ap (λ xs. xs ++ (rest ++ last)) s.split ∙ append_assoc s.before (s.one ∷ s.after) (rest ++ last) in
      subst (Runs (Within number its maps fetch [] before)) (sym split)
      (over_within shape (command_targets beside) actor false number its maps fetch [] before s.before (s.one ∷ (s.after ++ (rest ++ last))) s.quiet
      (goes_named shape (command_targets beside) actor false (Within number its maps fetch [] (before ++ s.before)) s.one (s.after ++ (rest ++ last)) s.named
      (record { event_is = s.event_is ∙ sym same.queue; found_is = found })
      (over_between shape (command_targets beside) actor false (number + 1) (its_after its s.one.event) (maps_left maps s.one.event) [] s.after (rest ++ last) s.later
      (forth (number + 1) (left_by shape view (queue_event shape view)) (its_after its s.one.event) (maps_left maps s.one.event) s.after rest last end
      (left.0 ∙ ap₂ its_after so.its_is (sym s.event_is)) (left.1 ∙ ap₂ maps_left so.maps_is (sym s.event_is)) s.later later ended))))

  pub fwd_all : (views : List View) → Forth views
  fwd_all [] number known its maps reads piece last end e m quiet is ended =
      let s = single who end ItsEnd last ended.events_are ended.found in
      let none : named_of who piece ≡ [] = none_in (named_of who piece) is.0.events_are in
      let early : List Happened = reads ++ (piece ++ s.before) in
      let stops : takes_command (seen number its maps early) ≡ false = takes_known its maps (command_targets beside number) early known e ∙ not_true (takes_command known) is.1 in
      let found : s.one.found ≡ Nothing = subst (λ event. HandsOut end event s.one.found) s.event_is s.hands in
      subst (Runs (Between number its maps reads)) (sym (ap (λ xs. piece ++ xs) s.split ∙ sym (append_assoc piece s.before (s.one ∷ s.after))))
      (over_between shape (command_targets beside) actor false number its maps reads (piece ++ s.before) (s.one ∷ s.after) (quiet_more who piece s.before none s.quiet)
      (goes_named shape (command_targets beside) actor false (Between number its maps early) s.one s.after s.named
      (subst (λ b. FitsTaken shape (seen number its maps early) early b s.one) (sym stops) (record { event_is = s.event_is; found_is = found }))
      (subst (λ b. Runs (cond b (parts_after shape (command_targets beside) number its maps early (command_parts shape (seen number its maps early)) s.one) Over) s.after) (sym stops)
      (over_over shape (command_targets beside) actor false s.after s.later))))
  fwd_all (view ∷ views) number known its maps reads piece last end e m quiet is ended =
      let c = is.command in
      let calm : named_of who c.fetch ≡ [] = none_in (named_of who c.fetch) c.fetched.events_are in
      let fetch : List Happened = reads ++ c.fetch in
      let silent : named_of who fetch ≡ [] = quiet_more who reads c.fetch quiet calm in
      let so : IsKnown its maps (command_targets beside number) view = record { its_is = known_same known view is.same ∙ e; maps_is = sym is.same.maps ∙ m; targets_is = is.targets_are } in
      let all : AreReadBy view fetch (command_places shape view) =
      All-weaker (λ place. IsLastRead place (held_at view place) c.fetch) (λ place. IsLastRead place (held_at view place) fetch)
      (λ place r. reads_more place (held_at view place) reads c.fetch r) (command_places shape view) c.fetched.reads in
      let same = same_command shape who its maps (command_targets beside number) fetch view silent so all in
      let tail : List Happened = is.rest ++ last in
      let first = begins who c.rest c.whole in
      let parts = parts_more (command_targets beside number) (words_read shape (seen number its maps fetch)) (command_parts shape (seen number its maps fetch)) (QueuedAt view) reads c.fetch c.rest
      (subst (λ ts. ArePartsThen who shape ts (words_read shape (seen number its maps fetch)) (command_parts shape (seen number its maps fetch)) (QueuedAt view) c.fetch c.rest) is.targets_are
      (subst (λ ws. ArePartsThen who shape view.targets ws (command_parts shape (seen number its maps fetch)) (QueuedAt view) c.fetch c.rest) (sym same.words)
      (subst (λ ps. ArePartsThen who shape view.targets (words_read shape view) ps (QueuedAt view) c.fetch c.rest) (sym same.parts_are) c.done))) in
      let within : Runs (Within number its maps fetch (command_parts shape (seen number its maps fetch)) fetch) (c.rest ++ tail) =
      fwd_parts number its maps fetch (command_parts shape (seen number its maps fetch)) (QueuedAt view) tail (queued view views (fwd_all views) number its maps fetch so same is.rest last end is.later ended) fetch c.rest silent parts in
      let split : piece ++ last ≡ c.fetch ++ first.one ∷ (first.more ++ tail) =
      ap (λ xs. xs ++ last) (is.split ∙ ap (λ xs. xs ++ is.rest) c.split) ∙ append_assoc (c.fetch ++ c.rest) is.rest last ∙ append_assoc c.fetch c.rest tail ∙ ap (λ xs. c.fetch ++ (xs ++ tail)) first.split in
      subst (Runs (Between number its maps reads)) (sym split)
      (over_between shape (command_targets beside) actor false number its maps reads c.fetch (first.one ∷ (first.more ++ tail)) calm
      (enters number its maps fetch first.one (first.more ++ tail) (same.takes ∙ c.taken) same.read first.named
      (subst (λ xs. Runs (Within number its maps fetch (command_parts shape (seen number its maps fetch)) fetch) (xs ++ tail)) first.split within)))

  -- Back.

  pub record AreEnded (number : ℕ) (known : View) (whole : List Happened) : Type 0 where
    pub views : List View
    pub commands : List Happened
    pub last : List Happened
    pub split : whole ≡ commands ++ last
    pub are : AreCommands who shape beside number known views commands
    pub ended : (view : View) → Makes who view (ItsEnd ∷ []) [] [] last

  abbrev pub Ends : ℕ → Its → Maps → List Happened → Type 0
  Ends number its maps whole = (known : View) → its_in known ≡ its → known.maps ≡ maps → AreEnded number known whole

  pub record IsRest (number : ℕ) (its : Its) (maps : Maps) (fetch : List Happened) (parts : List Part) (before early piece : List Happened) : Type 0 where
    pub command : List Happened
    pub tail : List Happened
    pub split : early ++ piece ≡ command ++ tail
    pub are : ArePartsThen who shape (command_targets beside number) (words_read shape (seen number its maps fetch)) parts (QueuedAt (seen number its maps fetch)) before command
    pub later : Ends (number + 1) (its_after its (queue_event shape (seen number its maps fetch))) (maps_left maps (queue_event shape (seen number its maps fetch))) tail

  record IsNext (number : ℕ) (its : Its) (maps : Maps) (fetch : List Happened) (parts : List Part) (before early : List Happened) (one : Happened) (piece : List Happened) : Type 0 where
    more : List Happened
    tail : List Happened
    split : piece ≡ more ++ tail
    are : ArePartsThen who shape (command_targets beside number) (words_read shape (seen number its maps fetch)) parts (QueuedAt (seen number its maps fetch)) before (early ++ one ∷ more)
    later : Ends (number + 1) (its_after its (queue_event shape (seen number its maps fetch))) (maps_left maps (queue_event shape (seen number its maps fetch))) tail

  pub record IsBack (piece : List Happened) : Type 0 where
    pub between : (number : ℕ) (its : Its) (maps : Maps) (reads : List Happened) → named_of who reads ≡ [] → Runs (Between number its maps reads) piece → Ends number its maps (reads ++ piece)
    pub within : (number : ℕ) (its : Its) (maps : Maps) (fetch : List Happened) (parts : List Part) (before early : List Happened) → named_of who before ≡ [] → named_of who early ≡ [] → Runs (Within number its maps fetch parts (before ++ early)) piece
        → IsRest number its maps fetch parts before early piece
    pub ending : (reads : List Happened) → named_of who reads ≡ [] → Runs Ending piece → (view : View) → Makes who view (ItsEnd ∷ []) [] [] (reads ++ piece)

  -- the ITS is given back
  given_back : (reads : List Happened) (one : Happened) (piece : List Happened) → named_of who reads ≡ [] → is_beside who one.event ≡ false → IsGivenBack one → Runs Over piece → (view : View) → Makes who view (ItsEnd ∷ []) [] [] (reads ++ one ∷ piece)
  given_back reads one piece quiet named given over view =
      subst (λ event. Makes who view (event ∷ []) [] [] (reads ++ one ∷ piece)) given.event_is
      (makes_single who view reads one piece quiet named (over_quiet shape (command_targets beside) actor false piece over)
      (subst (λ event. HandsOut view event one.found) (sym given.event_is) given.found_is))

  -- the part that an event makes
  part_then : (number : ℕ) (part : Part) (before early : List Happened) (one : Happened) (more : List Happened) (Rest : List Happened → Type 0) → named_of who early ≡ [] → IsPartMade shape (command_targets beside number) part (before ++ early) one → Rest more
      → IsPartThen who shape (command_targets beside number) part before (early ++ one ∷ more) Rest
  part_then number part before early one more Rest quiet is later =
      let targets : ℕ → Option ℕ = command_targets beside number in
      let found : View = found_by (before ++ early) in
      let by = part_by shape targets part found is.found_in one.found in
      let plain = part_plain who shape found targets part in
      let no_read : (place : Place) → reads place one.event ≡ false = λ place. ap (reads place) is.event_is ∙ plain.no_read place in
      let named : is_beside who one.event ≡ false = ap (is_beside who) is.event_is ∙ plain.named in
      let hands : Hands (with_irqs found is.found_in) one =
      subst (λ event. HandsOut (with_irqs found is.found_in) event one.found) (sym is.event_is) (by.hands (subst (λ event. HandsOut is.found_in event one.found) is.event_is is.found)) in
      let single = makes_single who (with_irqs found is.found_in) early one [] quiet named refl hands in
      record {
        view = with_irqs found is.found_in;
        own = early ++ one ∷ [];
        rest = more;
        split = sym (append_assoc early (one ∷ []) more);
        made = record {
          events_are = single.events_are ∙ ap (λ event. event ∷ []) (is.event_is ∙ sym by.event);
          found = single.found;
          reads =
              subst (AreReadBy (with_irqs found is.found_in) (before ++ (early ++ one ∷ []))) (sym by.places)
              (All-weaker (λ place. IsLastRead place (held_at found place) (before ++ early)) (λ place. IsLastRead place (held_at (with_irqs found is.found_in) place) (before ++ (early ++ one ∷ [])))
              (λ place r. subst (IsLastRead place (held_at (with_irqs found is.found_in) place)) (append_assoc before early (one ∷ []))
              (read_with place (held_at (with_irqs found is.found_in) place) (before ++ early) one (no_read place) (subst (λ f. IsLastRead place f (before ++ early)) (sym (held_with found is.found_in place)) r)))
              (byte_places shape found targets part) is.read);
        };
        ends = record {
          before = early;
          found = one.found;
          split = ap (λ event. let last : Happened = record { event = event; found = one.found } in early ++ last ∷ []) (is.event_is ∙ sym by.event);
        };
        later = later;
      }

  module _ (one : Happened) (piece : List Happened) (back : IsBack piece) where
    within_named : (number : ℕ) (its : Its) (maps : Maps) (fetch : List Happened) (parts : List Part) (before early : List Happened) → is_beside who one.event ≡ false → named_of who before ≡ [] → named_of who early ≡ [] → Runs (Within number its maps fetch parts (before ++ early)) (one ∷ piece)
        → IsNext number its maps fetch parts before early one piece
    within_named number its maps fetch [] before early named quiet calm h =
        let went = went_named shape (command_targets beside) actor false (Within number its maps fetch [] (before ++ early)) one piece named h in
        let here : View = seen number its maps fetch in
        record {
          more = [];
          tail = piece;
          split = refl;
          are =
              subst (λ event. Makes who here (event ∷ []) [] [] (early ++ one ∷ [])) went.0.event_is
              (makes_single who here early one [] calm named refl (subst (λ event. HandsOut here event one.found) (sym went.0.event_is) (queue_hands shape here here one.found went.0.found_is)));
          later = subst (λ event. Ends (number + 1) (its_after its event) (maps_left maps event) piece) went.0.event_is (back.between (number + 1) (its_after its one.event) (maps_left maps one.event) [] refl went.1);
        }
    within_named number its maps fetch (part ∷ parts) before early named quiet calm h =
        let went = went_named shape (command_targets beside) actor false (Within number its maps fetch (part ∷ parts) (before ++ early)) one piece named h in
        let here : View = seen number its maps fetch in
        let words : List Happened = words_read shape here in
        let rest = back.within number its maps fetch parts words [] (named_reads who here (command_places shape here)) refl (subst (λ rs. Runs (Within number its maps fetch parts rs) piece) (sym (append-nil words)) went.1) in
        record {
          more = rest.command;
          tail = rest.tail;
          split = rest.split;
          are = part_then number part before early one rest.command (ArePartsThen who shape (command_targets beside number) words parts (QueuedAt here) words) calm went.0 rest.are;
          later = rest.later;
        }

    taken_named : (number : ℕ) (its : Its) (maps : Maps) (reads : List Happened) → is_beside who one.event ≡ false → named_of who reads ≡ [] → takes_command (seen number its maps reads) ≡ true → AreReadBy (seen number its maps reads) reads (command_places shape (seen number its maps reads))
        → IsNext number its maps reads (command_parts shape (seen number its maps reads)) reads [] one piece → Ends number its maps (reads ++ one ∷ piece)
    taken_named number its maps reads named quiet takes all next known e m =
        let here : View = seen number its maps reads in
        let left = left_known shape here in
        let later = next.later (left_by shape here (queue_event shape here)) left.0 left.1 in
        record {
          views = here ∷ later.views;
          commands = (reads ++ one ∷ next.more) ++ later.commands;
          last = later.last;
          split =
              ap (λ xs. reads ++ one ∷ xs) (next.split ∙ ap (λ xs. next.more ++ xs) later.split) ∙ sym (append_assoc reads (one ∷ next.more) (later.commands ++ later.last))
              ∙ sym (append_assoc (reads ++ one ∷ next.more) later.commands later.last);
          are = record {
            same = same_known known here (sym e) (sym m);
            targets_are = refl;
            own = reads ++ one ∷ next.more;
            rest = later.commands;
            split = refl;
            command = record {
              taken = takes;
              fetch = reads;
              rest = one ∷ next.more;
              split = refl;
              whole = not_false (is_beside who one.event) named;
              fetched = makes_none who here (command_places shape here) reads quiet all;
              done = next.are;
            };
            later = later.are;
          };
          ended = later.ended;
        }

    between_named : (number : ℕ) (its : Its) (maps : Maps) (reads : List Happened) → is_beside who one.event ≡ false → named_of who reads ≡ [] → Runs (Between number its maps reads) (one ∷ piece) → Ends number its maps (reads ++ one ∷ piece)
    between_named number its maps reads named quiet h =
        let went = went_named shape (command_targets beside) actor false (Between number its maps reads) one piece named h in
        of (takes_command (seen number its maps reads)) refl went.0 went.1
      where
        of : (b : Bool) → takes_command (seen number its maps reads) ≡ b → FitsTaken shape (seen number its maps reads) reads b one
            → Runs (cond b (parts_after shape (command_targets beside) number its maps reads (command_parts shape (seen number its maps reads)) one) Over) piece → Ends number its maps (reads ++ one ∷ piece)
        of true takes fits goes =
            taken_named number its maps reads named quiet takes fits.0
            (within_named number its maps reads (command_parts shape (seen number its maps reads)) reads [] named quiet refl
            (subst (λ rs. Runs (Within number its maps reads (command_parts shape (seen number its maps reads)) rs) (one ∷ piece)) (sym (append-nil reads))
            (goes_named shape (command_targets beside) actor false (Within number its maps reads (command_parts shape (seen number its maps reads)) reads) one piece named fits.1 goes)))
        of false stops given over = λ known e m. record {
          views = [];
          commands = reads;
          last = one ∷ piece;
          split = refl;
          are = (makes_none who known [] reads quiet (All-nil (λ place. IsLastRead place (held_at known place) reads)), not_false (takes_command known) (sym (takes_known its maps (command_targets beside number) reads known e) ∙ stops));
          ended = λ view. given_back [] one piece refl named given over view;
        }

    back_named : is_beside who one.event ≡ false → IsBack (one ∷ piece)
    back_named named = record {
      between = λ number its maps reads quiet h. between_named number its maps reads named quiet h;
      within = λ number its maps fetch parts before early quiet calm h.
          let next = within_named number its maps fetch parts before early named quiet calm h in
          record { command = early ++ one ∷ next.more; tail = next.tail; split = ap (λ xs. early ++ one ∷ xs) next.split ∙ sym (append_assoc early (one ∷ next.more) next.tail); are = next.are; later = next.later };
      ending = λ reads quiet h. let went = went_named shape (command_targets beside) actor false Ending one piece named h in given_back reads one piece quiet named went.0 went.1;
    }

    back_beside : is_beside who one.event ≡ true → IsBack (one ∷ piece)
    back_beside idle = record {
      between = λ number its maps reads quiet h.
          subst (Ends number its maps) (append_assoc reads (one ∷ []) piece)
          (back.between number its maps (reads ++ one ∷ []) (quiet_more who reads (one ∷ []) quiet (quiet_one who one idle)) (went_beside shape (command_targets beside) actor false (Between number its maps reads) one piece idle h));
      within = λ number its maps fetch parts before early quiet calm h.
          let rest = back.within number its maps fetch parts before (early ++ one ∷ []) quiet (quiet_more who early (one ∷ []) calm (quiet_one who one idle))
          (subst (λ rs. Runs (Within number its maps fetch parts rs) piece) (append_assoc before early (one ∷ [])) (went_beside shape (command_targets beside) actor false (Within number its maps fetch parts (before ++ early)) one piece idle h)) in
          record { command = rest.command; tail = rest.tail; split = sym (append_assoc early (one ∷ []) piece) ∙ rest.split; are = rest.are; later = rest.later };
      ending = λ reads quiet h view.
          subst (Makes who view (ItsEnd ∷ []) [] []) (append_assoc reads (one ∷ []) piece)
          (back.ending (reads ++ one ∷ []) (quiet_more who reads (one ∷ []) quiet (quiet_one who one idle)) (went_beside shape (command_targets beside) actor false Ending one piece idle h) view);
    }

  pub bwd : (piece : List Happened) → IsBack piece
  bwd [] = record {
    between = λ number its maps reads quiet h. absurd (no_end h);
    within = λ number its maps fetch parts before early quiet calm h. absurd (no_end h);
    ending = λ reads quiet h. absurd (no_end h);
  }
  bwd (one ∷ piece) = of (is_beside who one.event) refl (bwd piece)
    where
      of : (b : Bool) → is_beside who one.event ≡ b → IsBack piece → IsBack (one ∷ piece)
      of true e back = back_beside one piece back e
      of false e back = back_named one piece back e
