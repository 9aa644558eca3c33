-- One command of a call does what the eager controller does for its next command, and leaves the call as the next one begins.
use Rattle.std.proofs.Common.{◌≡◌, ℕ, ◌+◌, ◌&&◌, not, Bool, true, false, cond, IsTrue, List, [], ◌∷◌, ◌++◌, map, length, Option, Some, None, is_none, Result, Ok, Err, refl, sym, ap, ◌∙◌, subst, slice_index_or}
use Rattle.std.specs.List.{list_all}
use Rattle.std.specs.Option.{option_map_or}
use Rattle.std.proofs.lemmas.Bool.{and_parts, and_from}
use Rattle.std.proofs.lemmas.List.{append-nil, append_assoc, length-append}
use Rattle.std.proofs.Math.Seq.{get_or-append_seam}
use Rattle.std.proofs.lemmas.Grind.{fold-append}
use Rattle.law_home_commutes.specs.Words.{GuestShape}
use Rattle.law_home_commutes.specs.ItsCmd.Command.{decoded}
use Rattle.law_home_commutes.specs.Registers.{BadCommand, Command, fault_number}
use Rattle.law_home_commutes.specs.Calls.{Part, Map, Clear, Event, Up, Down, Touch, Reach, Take, Leave, Enable, Cpu, Put, CtlrBegin, CtlrEnd, ItsBegin, Found, Runs, Done, Stalls, lpi_event, command_words, command_parts, decoded_parts, next_offset, queue_event, command_events, Happened, is_beside, named_of, Beside, Makes, IsCommand, command_places, HaveSameIts, View, PlainWord, command_targets, words_read}
use Rattle.law_home_commutes.specs.GicCall.declared.command.Part.TheVariants.{Forget, Retarget, Raise as RaisePart, Configure}
use Rattle.law_home_commutes.specs.GicCall.declared.event.Event.TheVariants.{Raise, Read, ItsEnd, Queue}
use Rattle.law_home_commutes.specs.GicCall.declared.event.Place.TheVariants.{Word}
use Rattle.law_home_commutes.specs.Histories.{IdealGuest, view_of, after_event, after_events, after_command, Ideal, happened, Call, targets_in, word_at}
use Rattle.law_home_commutes.proofs.IdealGuests.KeyLemmas.{IsWhole}
use Rattle.law_eager_is_history.proofs.CourseLemmas.{state_after, call_after, call_append}
use Rattle.law_eager_is_history.proofs.WindowLemmas.{next_call}
use Rattle.law_lone_calls_are_eager.proofs.AgreeLemmas.{parts_by, result_agrees}
use Rattle.law_lone_calls_are_eager.proofs.CommandLemmas.{run_split, named_both, events_both, keeps_words, beside_words, reads_word, words_same, queue_same, PartsDone, parts_done, marks_after, FindWords, words_found, words_find, words_stay}
use Rattle.law_lone_calls_are_eager.proofs.MomentLemmas.{target_at, is_between, commands_kept, IsAfter, commands_after, guest_whole}
use Rattle.law_lone_calls_are_eager.proofs.NamedLemmas.{named_run, beside_still, IsIn}
use Rattle.law_lone_calls_are_eager.proofs.ReadLemmas.{beside_passes}
use Rattle.law_lone_calls_are_eager.proofs.RunLemmas.{events_of, IsHomeRun, Follows}

-- one named event among others beside it
pub record SplitAt (actor : Option ℕ) (event : Event) (piece : List Happened) : Type 0 where
  pub pre : List Happened
  pub found : Found
  pub post : List Happened
  pub split : piece ≡ pre ++ (record { event = event; found = found }) ∷ post
  pub pre_none : events_of (named_of actor pre) ≡ []
  pub post_none : events_of (named_of actor post) ≡ []

pub split_at : (actor : Option ℕ) (event : Event) (piece : List Happened) → events_of (named_of actor piece) ≡ event ∷ [] → SplitAt actor event piece
split_at actor event [] are = absurd (cc)
split_at actor event (one ∷ piece) are = of (is_beside actor one.event) refl are (split_at actor event piece)
  where
    of : (b : Bool) → is_beside actor one.event ≡ b → events_of (cond (not b) (one ∷ named_of actor piece) (named_of actor piece)) ≡ event ∷ [] → (events_of (named_of actor piece) ≡ event ∷ [] → SplitAt actor event piece) → SplitAt actor event (one ∷ piece)
    of true h are later =
        let rest = later are in
        record {
          pre = one ∷ rest.pre;
          found = rest.found;
          post = rest.post;
          split = ap (λ xs. one ∷ xs) rest.split;
          pre_none = ap (λ b. events_of (cond (not b) (one ∷ named_of actor rest.pre) (named_of actor rest.pre))) h ∙ rest.pre_none;
          post_none = rest.post_none;
        }
    of false h are later =
        let event_is : one.event ≡ event = cc in
        let none : events_of (named_of actor piece) ≡ [] = cc in
        record { pre = []; found = one.found; post = piece; split = ap (λ e. (let h : Happened = record { event = e; found = one.found } in h) ∷ piece) event_is; pre_none = refl; post_none = none }

-- Events that are beside.

pub beside_between : (actor : Option ℕ) (event : Event) → is_beside actor event ≡ true → is_between event ≡ true
beside_between actor (Raise key) h = absurd (cc)
beside_between actor (Up key) h = absurd (cc)
beside_between actor (Down key) h = absurd (cc)
beside_between actor (Touch key touching) h = absurd (cc)
beside_between actor (Reach key u) h = refl
beside_between actor (Take key u) h = refl
beside_between actor (Leave key u) h = refl
beside_between actor (Enable u) h = absurd (cc)
beside_between actor (Cpu u reg write) h = absurd (cc)
beside_between actor (Read at) h = refl
beside_between actor (Put other value) h = absurd (cc)
beside_between actor (CtlrBegin enables) h = absurd (cc)
beside_between actor CtlrEnd h = absurd (cc)
beside_between actor ItsBegin h = absurd (cc)
beside_between actor ItsEnd h = absurd (cc)
beside_between actor (Queue offset Runs) h = absurd (cc)
beside_between actor (Queue offset (Done words)) h = absurd (cc)
beside_between actor (Queue offset (Stalls fault)) h = absurd (cc)

pub all_beside : (test : Event → Bool) → ((actor : Option ℕ) (event : Event) → is_beside actor event ≡ true → test event ≡ true) → (actor : Option ℕ) (piece : List Happened) → events_of (named_of actor piece) ≡ [] → IsTrue (list_all test (events_of piece))
all_beside test beside actor piece none = beside_passes test beside actor piece (subst (λ es. IsTrue (list_all test es)) (sym none) refl)

pub none_beside : (actor : Option ℕ) (piece : List Happened) → events_of (named_of actor piece) ≡ [] → IsTrue (list_all (is_beside actor) (events_of piece))
none_beside actor [] none = refl
none_beside actor (one ∷ piece) none = of (is_beside actor one.event) none (none_beside actor piece)
  where
    of : (c : Bool) → events_of (cond (not c) (one ∷ named_of actor piece) (named_of actor piece)) ≡ [] → (events_of (named_of actor piece) ≡ [] → IsTrue (list_all (is_beside actor) (events_of piece))) → (c && list_all (is_beside actor) (events_of piece)) ≡ true
    of true none later = later none
    of false none later = absurd (cc)

-- they leave a guest as it is
pub still_beside : (actor : Option ℕ) (piece : List Happened) (guest : IdealGuest) → IsTrue (list_all (is_beside actor) (events_of piece)) → after_events (events_of piece) guest ≡ guest
still_beside actor [] guest all = refl
still_beside actor (one ∷ piece) guest all =
    let parts = and_parts (is_beside actor one.event) (list_all (is_beside actor) (events_of piece)) all in
    ap (after_events (events_of piece)) (beside_still actor one.event guest parts.0) ∙ still_beside actor piece guest parts.1

part_between : (shape : GuestShape) (view : View) (targets : ℕ → Option ℕ) (ps : List Part) → IsTrue (list_all is_between (map (lpi_event shape view targets) ps))
part_between shape view targets [] = refl
part_between shape view targets (part ∷ ps) = and_from (is_between (lpi_event shape view targets part)) (list_all is_between (map (lpi_event shape view targets) ps)) (of part) (part_between shape view targets ps)
  where
    of : (part : Part) → is_between (lpi_event shape view targets part) ≡ true
    of (Forget id) = refl
    of (Map id target) = refl
    of (Retarget id target) = refl
    of (RaisePart id) = refl
    of (Clear id) = refl
    of (Configure id) = refl

-- Runs.

pub follows_split : (actor : ℕ) (first next : List Event) (state : Ideal) (guest : IdealGuest) → Follows actor state guest (first ++ next) → Follows actor state guest first × Follows actor (state_after actor first state) (after_events first guest) next
follows_split actor [] next state guest follows = (tt, follows)
follows_split actor (event ∷ first) next state guest follows = let later = follows_split actor first next (happened actor event state) (after_event guest event) follows.1 in ((follows.0, later.0), later.1)

pub whole_after : (events : List Event) (guest : IdealGuest) → IsWhole guest → IsWhole (after_events events guest)
whole_after [] guest whole = whole
whole_after (event ∷ events) guest whole = whole_after events (after_event guest event) (guest_whole event guest whole)

-- How the queue goes on.

pub queue_is : (shape : GuestShape) (view : View) (P : Event → Type 0) → ((fault : ℕ) → P (Queue view.offset (Stalls fault))) → P (Queue (next_offset view) (Done (command_words shape view))) → P (queue_event shape view)
queue_is shape view P stalls done = of (fault_number shape view.maps (decoded (command_words shape view)))
  where
    of : (o : Option ℕ) → P (option_map_or (λ fault. Queue view.offset (Stalls fault)) o (Queue (next_offset view) (Done (command_words shape view))))
    of None = done
    of (Some fault) = stalls fault

-- another command begins with it, by the vCPUs that the LPIs are for then
record IsClosed (actor : ℕ) (state : Ideal) (call : Call) (event : Event) : Type 0 where
  pub commands : (next_call state actor event call).commands ≡ call.commands ++ targets_in state ∷ []
  pub same : (id : ℕ) → targets_in (happened actor event state) id ≡ targets_in state id

closes : (actor : ℕ) (state : Ideal) (call : Call) (shape : GuestShape) (view : View) → IsClosed actor state call (queue_event shape view)
closes actor state call shape view = queue_is shape view (IsClosed actor state call) (λ fault. record { commands = refl; same = λ id. refl }) (record { commands = refl; same = λ id. refl })

-- The parts.

decoded_is : (shape : GuestShape) (view : View) (result : Result Command BadCommand) → decoded_parts shape view result ≡ parts_by shape view.maps view.targets result
decoded_is shape view (Ok command) = refl
decoded_is shape view (Err bad) = refl

parts_are : (shape : GuestShape) (guest : IdealGuest) (view : View) → HaveSameIts view (view_of guest) → command_words shape view ≡ command_words shape (view_of guest)
    → command_parts shape view ≡ cond (is_none (fault_number shape guest.tables (decoded (command_words shape (view_of guest))))) (parts_by shape guest.tables view.targets (decoded (command_words shape (view_of guest)))) []
parts_are shape guest view its words =
    ap (λ ps. cond (is_none (fault_number shape view.maps (decoded (command_words shape view)))) ps []) (decoded_is shape view (decoded (command_words shape view)))
    ∙ ap (λ ws. cond (is_none (fault_number shape view.maps (decoded ws))) (parts_by shape view.maps view.targets (decoded ws)) []) words
    ∙ ap (λ maps. cond (is_none (fault_number shape maps (decoded (command_words shape (view_of guest))))) (parts_by shape maps view.targets (decoded (command_words shape (view_of guest)))) []) its.maps

-- The call as a command begins.

pub record IsAt (guest : IdealGuest) (call : Call) (number : ℕ) : Type 0 where
  pub earlier : List (ℕ → Option ℕ)
  pub noted : ℕ → Option ℕ
  pub commands : call.commands ≡ earlier ++ noted ∷ []
  pub number_is : length earlier ≡ number
  pub now : (id : ℕ) → noted id ≡ target_at guest id

-- what it noted in the end
abbrev pub HasTargets : Beside → Call → Type 0
HasTargets beside call = beside.commands ≡ call.commands

pub record OneDone (actor : ℕ) (guest : IdealGuest) (state : Ideal) (call : Call) (number : ℕ) (events : List Event) : Type 0 where
  pub goes : after_events events guest ≡ after_command guest
  pub at : IsAt (after_command guest) (call_after actor events state call) (number + 1)

module _ (shape : GuestShape) (actor vcpu : ℕ) (beside : Beside) (b : Bool) (guest : IdealGuest) (whole : IsWhole guest) (shape_is : guest.shape ≡ shape) (view : View) (same : HaveSameIts view (view_of guest)) (number : ℕ) (targets_are : view.targets ≡ command_targets beside number) (state : Ideal) (call : Call) (at : IsAt guest call number) where
  -- before the queue goes on, and after that
  module _ (early post : List Happened) (found : Found) (after : List Event)
      (words : command_words shape view ≡ command_words shape (view_of guest))
      (named : events_of (named_of (Some vcpu) early) ≡ map (lpi_event shape (view_of guest) view.targets) (command_parts shape view))
      (post_none : events_of (named_of (Some vcpu) post) ≡ [])
      (run : IsHomeRun b guest early) (follows : Follows actor state guest (events_of early ++ queue_event shape view ∷ events_of post))
      (targets : HasTargets beside (call_after actor (events_of early ++ queue_event shape view ∷ (events_of post ++ after)) state call)) where
    abbrev event : Event
    event = queue_event shape view

    abbrev state1 : Ideal
    state1 = state_after actor (events_of early) state

    abbrev guest1 : IdealGuest
    guest1 = after_events (events_of early) guest

    abbrev call1 : Call
    call1 = call_after actor (events_of early) state call

    abbrev state2 : Ideal
    state2 = happened actor event state1

    abbrev guest2 : IdealGuest
    guest2 = after_event guest1 event

    abbrev call2 : Call
    call2 = next_call state1 actor event call1

    split_follows : Follows actor state guest (events_of early) × Follows actor state1 guest1 (event ∷ events_of post)
    split_follows = follows_split actor (events_of early) (event ∷ events_of post) state guest follows

    between : IsTrue (list_all is_between (events_of early))
    between = beside_passes is_between beside_between (Some vcpu) early (subst (λ es. IsTrue (list_all is_between es)) (sym named) (part_between shape (view_of guest) view.targets (command_parts shape view)))

    commands1 : call1.commands ≡ at.earlier ++ at.noted ∷ []
    commands1 = commands_kept actor (events_of early) state call between ∙ at.commands

    closed : IsClosed actor state1 call1 (queue_event shape view)
    closed = closes actor state1 call1 shape view

    commands2 : call2.commands ≡ (at.earlier ++ at.noted ∷ []) ++ targets_in state1 ∷ []
    commands2 = closed.commands ∙ ap (λ xs. xs ++ targets_in state1 ∷ []) commands1

    abbrev last : Call
    last = call_after actor (events_of post ++ after) state2 call2

    last_is : call_after actor (events_of early ++ event ∷ (events_of post ++ after)) state call ≡ last
    last_is = call_append actor (events_of early) (event ∷ (events_of post ++ after)) state call

    more : IsAfter call2 last
    more = commands_after actor (events_of post ++ after) state2 call2

    noted_is : beside.commands ≡ at.earlier ++ at.noted ∷ (targets_in state1 ∷ more.more)
    noted_is =
        subst (HasTargets beside) last_is targets ∙ more.is ∙ ap (λ xs. xs ++ more.more) commands2 ∙ append_assoc (at.earlier ++ at.noted ∷ []) (targets_in state1 ∷ []) more.more
        ∙ append_assoc at.earlier (at.noted ∷ []) (targets_in state1 ∷ more.more)

    seen : (id : ℕ) → view.targets id ≡ target_at guest id
    seen id =
        ap (λ f. f id)
        (targets_are ∙ ap (λ xs. slice_index_or xs number (λ id. None)) noted_is ∙ ap (λ n. slice_index_or (at.earlier ++ at.noted ∷ (targets_in state1 ∷ more.more)) n (λ id. None)) (sym at.number_is)
        ∙ get_or-append_seam at.earlier at.noted (targets_in state1 ∷ more.more) (λ id. None))
        ∙ at.now id

    -- the events
    named_now : events_of (named_of (Some vcpu) early) ≡ map (lpi_event shape (view_of guest) (target_at guest)) (command_parts shape (view_of guest))
    named_now =
        let result = decoded (command_words shape (view_of guest)) in
        let clear = is_none (fault_number shape guest.tables result) in
        let are = parts_are shape guest view same words in
        named ∙ ap (map (lpi_event shape (view_of guest) view.targets)) are
        ∙ result_agrees shape guest view.targets seen guest.tables result clear
        ∙ ap (λ ps. map (lpi_event shape (view_of guest) (target_at guest)) (cond clear ps [])) (sym (decoded_is shape (view_of guest) result))

    guest2_is : guest2 ≡ after_command guest
    guest2_is =
        ap (λ g. after_event g event) ((named_run b guest (Some vcpu) early run).goes ∙ ap (λ es. after_events es guest) named_now)
        ∙ ap (after_event (after_events (map (lpi_event shape (view_of guest) (target_at guest)) (command_parts shape (view_of guest))) guest)) (queue_same shape guest view same words)
        ∙ sym (fold-append after_event guest (map (lpi_event shape (view_of guest) (target_at guest)) (command_parts shape (view_of guest))) (queue_event shape (view_of guest) ∷ []))
        ∙ ap (λ s. after_events (command_events s (view_of guest)) guest) (sym shape_is)

    -- the call as the next command begins
    abbrev call3 : Call
    call3 = call_after actor (events_of post) state2 call2

    next_at : IsAt (after_command guest) call3 (number + 1)
    next_at = record {
      earlier = at.earlier ++ at.noted ∷ [];
      noted = targets_in state1;
      commands = commands_kept actor (events_of post) state2 call2 (all_beside is_between beside_between (Some vcpu) post post_none) ∙ commands2;
      number_is = length-append at.earlier (at.noted ∷ []) ∙ ap (λ n. n + 1) at.number_is;
      now = λ id. sym (closed.same id) ∙ split_follows.1.0 id ∙ ap (λ g. target_at g id) guest2_is;
    }

    pieces_done : OneDone actor guest state call number (events_of early ++ event ∷ events_of post)
    pieces_done = record {
      goes = fold-append after_event guest (events_of early) (event ∷ events_of post) ∙ still_beside (Some vcpu) post guest2 (none_beside (Some vcpu) post post_none) ∙ guest2_is;
      at = subst (λ c. IsAt (after_command guest) c (number + 1)) (sym (call_append actor (events_of early) (event ∷ events_of post) state call)) next_at;
    }

  -- The command.

  fetch_find : (own : List Happened) (command : IsCommand (Some vcpu) shape view own) → IsHomeRun b guest own → FindWords guest command.fetch
  fetch_find own command run =
      words_found b guest command.fetch (run_split command.fetch command.rest b guest (subst (IsHomeRun b guest) command.split run)).0 (all_beside keeps_words beside_words (Some vcpu) command.fetch command.fetched.events_are)

  words_seen : (own : List Happened) → IsCommand (Some vcpu) shape view own → IsHomeRun b guest own → (word : PlainWord) → IsIn (command_places shape view) (Word word) → view.words word ≡ word_at guest word
  words_seen own command run = reads_word guest (Some vcpu) view [] (command_places shape view) [] command.fetch command.fetched (fetch_find own command run)

  pub words_are : (own : List Happened) → IsCommand (Some vcpu) shape view own → IsHomeRun b guest own → command_words shape view ≡ command_words shape (view_of guest)
  words_are own command run =
      words_same shape guest view same
      (words_seen own command run)

  pub one_done : (own : List Happened) (after : List Event) → IsCommand (Some vcpu) shape view own → IsHomeRun b guest own → Follows actor state guest (events_of own) → HasTargets beside (call_after actor (events_of own ++ after) state call)
      → OneDone actor guest state call number (events_of own)
  one_done own after command run follows targets =
      subst (OneDone actor guest state call number) (sym events_are)
      (pieces_done early cut.post cut.found after words named cut.post_none (run_split early ((record { event = queue_event shape view; found = cut.found }) ∷ cut.post) b guest (subst (IsHomeRun b guest) own_is run)).0
      (subst (Follows actor state guest) events_are follows)
      (subst (λ es. HasTargets beside (call_after actor es state call)) (ap (λ es. es ++ after) events_are ∙ append_assoc (events_of early) (queue_event shape view ∷ events_of cut.post) after) targets))
    where
      run_both : IsHomeRun b guest (command.fetch ++ command.rest)
      run_both = subst (IsHomeRun b guest) command.split run

      fetch_keep : IsTrue (list_all keeps_words (events_of command.fetch))
      fetch_keep = all_beside keeps_words beside_words (Some vcpu) command.fetch command.fetched.events_are

      words : command_words shape view ≡ command_words shape (view_of guest)
      words = words_are own command run

      runs : IsHomeRun b guest command.fetch × IsHomeRun (marks_after command.fetch b) (after_events (events_of command.fetch) guest) command.rest
      runs = run_split command.fetch command.rest b guest run_both

      done : PartsDone guest (Some vcpu) shape view.targets (command_parts shape view) (λ after. Makes (Some vcpu) view (queue_event shape view ∷ []) [] [] after) command.rest
      done =
          parts_done (marks_after command.fetch b) guest (after_events (events_of command.fetch) guest) (Some vcpu) shape view.targets (words_read shape view) (command_parts shape view) (λ after. Makes (Some vcpu) view (queue_event shape view ∷ []) [] [] after) command.fetch
          command.rest command.done runs.1 (words_stay (events_of command.fetch) guest fetch_keep) (fetch_find own command run) (words_find shape guest view (words_seen own command run))

      cut : SplitAt (Some vcpu) (queue_event shape view) done.rest
      cut = split_at (Some vcpu) (queue_event shape view) done.rest done.later.events_are

      early : List Happened
      early = (command.fetch ++ done.own) ++ cut.pre

      own_is : own ≡ ((command.fetch ++ done.own) ++ cut.pre) ++ (record { event = queue_event shape view; found = cut.found }) ∷ cut.post
      own_is =
          command.split ∙ ap (λ xs. command.fetch ++ xs) (done.split ∙ ap (λ xs. done.own ++ xs) cut.split)
          ∙ sym (append_assoc command.fetch done.own (cut.pre ++ (record { event = queue_event shape view; found = cut.found }) ∷ cut.post))
          ∙ sym (append_assoc (command.fetch ++ done.own) cut.pre ((record { event = queue_event shape view; found = cut.found }) ∷ cut.post))

      events_are : events_of own ≡ events_of ((command.fetch ++ done.own) ++ cut.pre) ++ queue_event shape view ∷ events_of cut.post
      events_are = ap events_of own_is ∙ events_both ((command.fetch ++ done.own) ++ cut.pre) ((record { event = queue_event shape view; found = cut.found }) ∷ cut.post)

      named : events_of (named_of (Some vcpu) ((command.fetch ++ done.own) ++ cut.pre)) ≡ map (lpi_event shape (view_of guest) view.targets) (command_parts shape view)
      named =
          named_both (Some vcpu) (command.fetch ++ done.own) cut.pre ∙ ap (λ es. events_of (named_of (Some vcpu) (command.fetch ++ done.own)) ++ es) cut.pre_none
          ∙ append-nil (events_of (named_of (Some vcpu) (command.fetch ++ done.own)))
          ∙ named_both (Some vcpu) command.fetch done.own ∙ ap (λ es. es ++ events_of (named_of (Some vcpu) done.own)) command.fetched.events_are ∙ done.events
