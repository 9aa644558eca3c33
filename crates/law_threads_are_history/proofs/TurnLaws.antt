-- A part that takes the ITS to change it is its call by what its actor found from there on, and leaves each LPI that the maps give no vCPU for none.
use Rattle.std.proofs.Common.{◌≡◌, ℕ, ◌⊎◌, inl, inr, not, true, false, IsTrue, List, [], ◌∷◌, ◌++◌, Option, Some, None, is_none, slice_index_or, refl, sym, ap, ◌∙◌, subst}
use Rattle.std.specs.List.{list_all}
use Rattle.std.specs.Option.{option_to_list}
use Rattle.std.proofs.lemmas.Bool.{and_from, and_parts}
use Rattle.std.proofs.lemmas.List.{append-nil, append_assoc}
use Rattle.law_found_parts_are_calls.specs.Histories.{AreForNone}
use Rattle.law_ends_agree.specs.Words.{Its, Mem, GuestShape}
use Rattle.law_ends_agree.specs.GicImap.Map.{decoded as its_decoded}
use Rattle.law_ends_agree.specs.Calls.{Event, ItsBegin, Touch, Operation, Access, Device, Residence, Done, Runs, Stalls, Beside, Happened, IsCall, IsItsCall, IsItsWrite, is_beside}
use Rattle.law_ends_agree.specs.GicCall.declared.event.Event.TheVariants.{Queue}
use Rattle.law_ends_agree.specs.GicCall.declared.event.Found.TheVariants.{Nothing}
use Rattle.law_ends_agree.specs.Registers.{IsValid, Maps}
use Rattle.law_ends_agree.proofs.IdealGuests.KeyLemmas.{IsWhole}
use Rattle.law_ends_agree.specs.Histories.{Ideal, targets_in, vcpu_of, IdealGuest}
use Rattle.law_runs_are_fresh.proofs.LawEagerIsHistory.CourseLemmas.{state_after}
use Rattle.law_runs_are_fresh.proofs.LawEagerIsHistory.WindowLemmas.{Targets, beside_of, no_target}
use Rattle.law_runs_are_fresh.proofs.LawLoneCallsAreEager.CommandLemmas.{events_both}
use Rattle.law_runs_are_fresh.proofs.LawLoneCallsAreEager.RunLemmas.{events_of as lone_events}
use Rattle.law_ends_agree.specs.Core.{Made, ends_command, Seen, local_by, shape_of, Seat, maps_taken}
use Rattle.law_found_parts_are_calls.specs.ItsExec.Known.{are_within, is_within}
use Rattle.law_found_parts_are_calls.specs.ItsExec.Queue.{Taken}
use Rattle.law_found_parts_are_calls.specs.ItsExec.Run.{AgreeAll}
use Rattle.law_found_parts_are_calls.specs.PeMem.Found.{Finding, IsFinding, TookAmong, are_before, by_commands, by_looks, is_before, is_by_commands, takes_its_by, Agrees}
use Rattle.law_found_parts_are_calls.proofs.BegunRuns.{is_endless, whole_events}
use Rattle.law_found_parts_are_calls.proofs.CommandRuns.{own_taken, steps_taken}
use Rattle.law_found_parts_are_calls.proofs.SteadyLemmas.{is_steady, maps_steady, targets_steady}
use Rattle.law_found_parts_are_calls.proofs.TurnCalls.{read_takes_none}
use Rattle.law_found_parts_are_calls.proofs.TurnRuns.{is_ending, stands_for_end}
use Rattle.law_found_parts_are_calls.proofs.WindowRuns.{begun_after, begun_past}
use Rattle.pe_place.specs.Parts.{IsCallFound, Part}
use Rattle.law_threads_are_history.proofs.FreeParts.{events_from, stands}
use Rattle.law_threads_are_history.proofs.HeldWindows.{AreSame, agrees_same, same_self}
use Rattle.law_threads_are_history.proofs.MatchRuns.{IsCome, Matches, agree_all, beside_ends_none, closes, closes_split, events_split, ghost_is, ghost_on, held_on, matches_split, seat_is, seat_of, seat_on, valid_along}
use Rattle.law_threads_are_history.proofs.ToldParts.{next_seat, told_by}
use Rattle.law_threads_are_history.proofs.TurnPieces.{IsTurnPiece, none_steady, turn_none, turn_piece}

-- Two ways to cut a list.

abbrev Cuts : List Made → List Made → List Made → List Made → Type 0
Cuts one two three four = ((x : List Made) × (three ≡ one ++ x) × (two ≡ x ++ four)) ⊎ ((x : List Made) × (one ≡ three ++ x) × (four ≡ x ++ two))

head_is : (x y : Made) (xs ys : List Made) → x ∷ xs ≡ y ∷ ys → x ≡ y
head_is x y xs ys e = cc

tail_is : (x y : Made) (xs ys : List Made) → x ∷ xs ≡ y ∷ ys → xs ≡ ys
tail_is x y xs ys e = cc

cuts : (one two three four : List Made) → one ++ two ≡ three ++ four → Cuts one two three four
cuts [] two three four e = inl (three, refl, e)
cuts (m ∷ one) two [] four e = inr (m ∷ one, refl, sym e)
cuts (m ∷ one) two (n ∷ three) four e = of (cuts one two three four (tail_is m n (one ++ two) (three ++ four) e))
  where
    same : m ≡ n
    same = head_is m n (one ++ two) (three ++ four) e

    of : Cuts one two three four → Cuts (m ∷ one) two (n ∷ three) four
    of (inl cut) = inl (cut.0, ap (λ x. x ∷ three) (sym same) ∙ ap (λ xs. m ∷ xs) cut.1, cut.2)
    of (inr cut) = inr (cut.0, ap (λ x. x ∷ one) same ∙ ap (λ xs. n ∷ xs) cut.1, cut.2)

-- the same steps after the same list
cut_same : (own one two : List Made) → own ++ one ≡ own ++ two → one ≡ two
cut_same [] one two e = e
cut_same (made ∷ own) one two e = cut_same own one two (tail_is made made (own ++ one) (own ++ two) e)

nothing_after : (xs : List Made) (y : Made) (ys : List Made) → [] ≡ xs ++ y ∷ ys → ⊥
nothing_after [] y ys e = cc
nothing_after (x ∷ xs) y ys e = cc

-- a step among those of a command takes no maps, or ends the command
in_command : (first : List Made) (ending turn : Made) (x y : List Made) → IsTrue (are_within first) → first ++ ending ∷ [] ≡ x ++ turn ∷ y → (turn.tables ≡ None) ⊎ (turn ≡ ending)
in_command [] ending turn [] y within e = inr (sym (head_is ending turn [] y e))
in_command [] ending turn (z ∷ x) y within e = absurd (nothing_after x turn y (tail_is ending z [] (x ++ turn ∷ y) e))
in_command (made ∷ first) ending turn [] y within e =
    let parts = and_parts (is_within made) (are_within first) within in
    inl (ap (λ (m : Made). m.tables) (sym (head_is made turn (first ++ ending ∷ []) y e)) ∙ none_is made.tables (and_parts (is_none made.tables) (not (ends_command made.step)) parts.0).0)
  where
    none_is : (o : Option Maps) → is_none o ≡ true → o ≡ None
    none_is None h = refl
    none_is (Some m) h = absurd (cc)
in_command (made ∷ first) ending turn (z ∷ x) y within e = in_command first ending turn x y (and_parts (is_within made) (are_within first) within).1 (tail_is made z (first ++ ending ∷ []) (x ++ turn ∷ y) e)

-- The call.

-- a call that takes the ITS to change it is a write of one of its registers
pub record IsItsCallOf (shape : GuestShape) (beside : Beside) (who : Option ℕ) (piece : List Happened) (answer : Option ℕ) : Type 0 where
  pub vcpu : ℕ
  pub who_is : who ≡ Some vcpu
  pub offset : ℕ
  pub size : ℕ
  pub value : ℕ
  pub is : IsItsCall shape beside vcpu offset size value piece answer

pub its_call : (shape : GuestShape) (beside : Beside) (who : Option ℕ) (operation : Operation) (piece : List Happened) (answer : Option ℕ) → takes_its_by shape operation ≡ true → IsCall shape beside who operation piece answer → IsItsCallOf shape beside who piece answer
its_call shape beside (Some vcpu) (Access (Mem Its offset size (Some value))) piece answer takes is =
    record { vcpu = vcpu; who_is = refl; offset = offset; size = size; value = value; is = subst (λ b. IsItsWrite b shape beside vcpu offset size value piece answer) takes is }
its_call shape beside (Some vcpu) (Access (Mem Its offset size None)) piece answer takes is = absurd (read_takes_none shape (its_decoded offset size) takes)
its_call shape beside (Some vcpu) (Access op) piece answer takes is = absurd (cc)
its_call shape beside None (Access op) piece answer takes is = absurd is
its_call shape beside who (Device op) piece answer takes is = absurd (cc)
its_call shape beside who Residence piece answer takes is = absurd (cc)

pub its_turn : (shape : GuestShape) (beside : Beside) (who : Option ℕ) (operation : Operation) (piece : List Happened) (answer : Option ℕ) → takes_its_by shape operation ≡ true → IsCall shape beside who operation piece answer → IsTurnPiece who (lone_events piece)
its_turn shape beside who operation piece answer takes is =
    let call = its_call shape beside who operation piece answer takes is in
    subst (λ w. IsTurnPiece w (lone_events piece)) (sym call.who_is) (turn_piece shape beside call.vcpu call.offset call.size call.value piece answer call.is)

-- what comes before the commands
before_passes : (events : List Happened) → IsTrue (are_before events) → IsTrue (list_all is_steady (lone_events events)) × IsTrue (list_all is_endless (lone_events events))
before_passes [] h = (refl, refl)
before_passes (one ∷ events) h =
    let parts = and_parts (is_before one.event) (are_before events) h in
    let rest = before_passes events parts.1 in (
      and_from (is_steady one.event) (list_all is_steady (lone_events events)) (steady one.event parts.0) rest.0,
      and_from (is_endless one.event) (list_all is_endless (lone_events events)) (endless one.event parts.0) rest.1,
    )
  where
    steady : (event : Event) → is_before event ≡ true → is_steady event ≡ true
    steady (Touch key touching) h = absurd (cc)
    steady (Queue offset Runs) h = refl
    steady (Queue offset (Done words)) h = absurd (cc)
    steady (Queue offset (Stalls fault)) h = absurd (cc)
    steady event h = refl

    endless : (event : Event) → is_before event ≡ true → is_endless event ≡ true
    endless (Queue offset Runs) h = refl
    endless (Queue offset (Done words)) h = absurd (cc)
    endless (Queue offset (Stalls fault)) h = absurd (cc)
    endless event h = refl

before_later : (one other : List Happened) → IsTrue (are_before (one ++ other)) → IsTrue (are_before other)
before_later [] other h = h
before_later (x ∷ one) other h = before_later one other (and_parts (is_before x.event) (are_before (one ++ other)) h).1

-- Where a part took the ITS: before that it only read and moved interrupts.
pub record IsTurned (guest : IdealGuest) (actor : ℕ) (seat : Seat) (part : Part) (now : Seat) (start : Ideal) (more : List Made) : Type 0 where
  pub base : Seen
  pub told : IsCallFound (told_by guest actor base seat) part
  pub takes : takes_its_by guest.shape part.operation ≡ true
  pub past : List Made
  pub turn : Made
  pub steps_are : part.steps ≡ past ++ (turn ∷ more)
  pub beside : IsTrue (list_all (is_beside (vcpu_of guest.shape actor)) (lone_events (events_from guest.shape actor seat past)))
  pub stands_is : stands guest.shape actor (seat_on guest.shape actor seat past) turn ≡ Some (record { event = ItsBegin; found = Nothing })
  pub tables_is : turn.tables ≡ Some start.guest.tables
  pub now_is : now ≡ next_seat guest.shape actor (seat_on guest.shape actor seat past) turn
  pub maps_is : maps_taken part.steps ≡ start.guest.tables
  pub closed : IsTrue (closes (vcpu_of guest.shape actor) true (lone_events (events_from guest.shape actor now more)))
  pub whole : IsWhole start.guest
  pub valid : IsValid guest.shape start.guest.tables
  pub none : AreForNone start.guest

-- the vCPUs that the LPIs are for as each of its commands begins
abbrev pub firsts_from : GuestShape → ℕ → Seat → Ideal → List Made → List Targets
firsts_from shape actor now start more = targets_in start ∷ begun_after actor (lone_events (events_from shape actor now more)) start

-- what follows
pub record IsTurnedCall (guest : IdealGuest) (actor : ℕ) (seat : Seat) (part : Part) (now : Seat) (start : Ideal) (more : List Made) : Type 0 where
  pub call :
      (targets : Targets) (commands : List Targets) → AreSame (firsts_from guest.shape actor now start more) commands
      → IsCall guest.shape (record { maps = start.guest.tables; targets = targets; commands = commands; signals = false }) (vcpu_of guest.shape actor) part.operation (events_from guest.shape actor seat part.steps) part.answer
  pub none : AreForNone (state_after actor (lone_events (events_from guest.shape actor now more)) start).guest

module _ (guest : IdealGuest) (actor : ℕ) (seat : Seat) (part : Part) (now : Seat) (start : Ideal) (more : List Made) (is : IsTurned guest actor seat part now start more) (matches : Matches guest.shape actor true now start more) where
  abbrev shape : GuestShape
  shape = guest.shape

  abbrev who : Option ℕ
  who = vcpu_of guest.shape actor

  abbrev seen : Seen
  seen = told_by guest actor is.base seat

  abbrev maps : Maps
  maps = start.guest.tables

  abbrev firsts : List Targets
  firsts = firsts_from guest.shape actor now start more

  seat_join : (one other : List Made) (s : Seat) → seat_on guest.shape actor s (one ++ other) ≡ seat_on guest.shape actor (seat_on guest.shape actor s one) other
  seat_join [] other s = refl
  seat_join (made ∷ one) other s = seat_join one other (next_seat guest.shape actor s made)

  -- the commands among its steps
  module _ (one : Taken) (commands : List Taken) (among : TookAmong (told_by guest actor is.base seat) part.steps (one ∷ commands)) where
    abbrev rest : List Made
    rest = steps_taken (one ∷ commands) ++ among.late

    steps_split : part.steps ≡ among.early ++ (steps_taken (one ∷ commands) ++ among.late)
    steps_split =
        cut_same seat.own part.steps (among.early ++ rest)
        (among.ends ∙ ap (λ own. own ++ among.late) (own_taken (one ∷ commands) among.from among.to among.are ∙ ap (λ own. own ++ steps_taken (one ∷ commands)) among.begins)
        ∙ append_assoc (seat.own ++ among.early) (steps_taken (one ∷ commands)) among.late ∙ append_assoc seat.own among.early rest)

    -- no command comes before the turn
    abbrev first : List Made
    first = one.takes.one.first

    abbrev ending : Made
    ending = one.takes.one.ending

    rest_is : rest ≡ (first ++ ending ∷ []) ++ (steps_taken commands ++ among.late)
    rest_is = ap (λ xs. (xs ++ steps_taken commands) ++ among.late) one.takes.one.split ∙ append_assoc (first ++ ending ∷ []) (steps_taken commands) among.late

    ends_early : (y : List Made) → is.past ≡ among.early ++ ((first ++ ending ∷ []) ++ y) → ⊥
    ends_early y e =
        beside_ends_none shape actor who ending y one.takes.one.ends (among.early ++ first) seat
        (subst (λ xs. IsTrue (list_all (is_beside who) (lone_events (events_from shape actor seat xs)))) (e ∙ regroup among.early first (ending ∷ []) y) is.beside)
      where
        regroup : (a b c d : List Made) → a ++ ((b ++ c) ++ d) ≡ (a ++ b) ++ (c ++ d)
        regroup a b c d = simp append_assoc

    turn_no_end : is.turn ≡ ending → ⊥
    turn_no_end e =
        let mid = seat_on shape actor seat is.past in
        let end = stands_for_end shape actor mid.local mid.own ending.found ending.step one.takes.one.ends in
        apart end.one.event end.closes (event_is end.one (record { event = ItsBegin; found = Nothing }) (sym end.stands ∙ ap (stands shape actor mid) (sym e) ∙ is.stands_is))
      where
        event_is : (x y : Happened) → Some x ≡ Some y → x.event ≡ y.event
        event_is x y e = let same : x ≡ y = cc in ap (λ (h : Happened). h.event) same

        apart : (event : Event) → is_ending event ≡ true → event ≡ ItsBegin → ⊥
        apart event h e = let no = sym h ∙ ap is_ending e in cc

    in_first : (x y : List Made) → first ++ ending ∷ [] ≡ x ++ is.turn ∷ y → ⊥
    in_first x y e = of (in_command first ending is.turn x y one.takes.one.within e)
      where
        of : (is.turn.tables ≡ None) ⊎ (is.turn ≡ one.takes.one.ending) → ⊥
        of (inl none) = let no = sym is.tables_is ∙ none in cc
        of (inr e) = turn_no_end e

    clash : (x : List Made) → is.past ≡ among.early ++ x → rest ≡ x ++ (is.turn ∷ more) → ⊥
    clash x past e = of (cuts (first ++ ending ∷ []) (steps_taken commands ++ among.late) x (is.turn ∷ more) (sym rest_is ∙ e))
      where
        of : Cuts (one.takes.one.first ++ one.takes.one.ending ∷ []) (steps_taken commands ++ among.late) x (is.turn ∷ more) → ⊥
        of (inl cut) = ends_early cut.0 (past ∙ ap (λ xs. among.early ++ xs) cut.1)
        of (inr ([], one_is, later)) = ends_early [] (past ∙ ap (λ xs. among.early ++ xs) (sym (append-nil x) ∙ sym one_is ∙ sym (append-nil (first ++ ending ∷ []))))
        of (inr (z ∷ y, one_is, later)) = in_first x y (one_is ∙ ap (λ m. x ++ m ∷ y) (sym (head_is is.turn z more (y ++ (steps_taken commands ++ among.late)) later)))

    -- so the steps after the turn are some, and then the commands
    record IsCut : Type 0 where
      middle : List Made
      early_is : among.early ≡ is.past ++ (is.turn ∷ middle)
      more_is : more ≡ middle ++ rest

    cut_is : IsCut
    cut_is = of (cuts among.early rest is.past (is.turn ∷ more) (sym steps_split ∙ is.steps_are))
      where
        of : Cuts among.early (steps_taken (one ∷ commands) ++ among.late) is.past (is.turn ∷ more) → IsCut
        of (inl cut) = absurd (clash cut.0 cut.1 cut.2)
        of (inr ([], early, later)) = absurd (clash [] (sym (append-nil is.past) ∙ sym early ∙ sym (append-nil among.early)) (sym later))
        of (inr (z ∷ middle, early, later)) = record {
          middle = middle;
          early_is = early ∙ ap (λ m. is.past ++ m ∷ middle) (sym (head_is is.turn z more (middle ++ rest) later));
          more_is = tail_is is.turn z more (middle ++ rest) later;
        }

    abbrev middle : List Made
    middle = cut_is.middle

    abbrev seat1 : Seat
    seat1 = seat_on guest.shape actor now cut_is.middle

    abbrev ghost1 : Ideal
    ghost1 = ghost_on guest.shape actor now start cut_is.middle

    seat_early : seat_on guest.shape actor seat among.early ≡ seat1
    seat_early = ap (seat_on shape actor seat) cut_is.early_is ∙ seat_join is.past (is.turn ∷ middle) seat ∙ ap (λ s. seat_on shape actor s middle) (sym is.now_is)

    middle_before : IsTrue (are_before (events_from guest.shape actor now cut_is.middle))
    middle_before =
        let mid = seat_on shape actor seat is.past in
        subst (λ s. IsTrue (are_before (events_from shape actor s middle))) (sym is.now_is)
        (before_later (option_to_list (stands shape actor mid is.turn)) (events_from shape actor (next_seat shape actor mid is.turn) middle)
        (before_later (events_from shape actor seat is.past) (events_from shape actor mid (is.turn ∷ middle))
        (subst (λ xs. IsTrue (are_before xs)) (ap (events_from shape actor seat) cut_is.early_is ∙ events_split shape actor is.past (is.turn ∷ middle) seat) among.before)))

    passes : IsTrue (list_all is_steady (lone_events (events_from guest.shape actor now cut_is.middle))) × IsTrue (list_all is_endless (lone_events (events_from guest.shape actor now cut_is.middle)))
    passes = before_passes (events_from guest.shape actor now cut_is.middle) middle_before

    ghost1_is : ghost1 ≡ state_after actor (lone_events (events_from guest.shape actor now cut_is.middle)) start
    ghost1_is = ghost_is shape actor middle now start

    come : IsCome guest.shape actor who (held_on guest.shape actor true now cut_is.middle) seat1 rest ghost1 0 firsts (targets_in start)
    come = record {
      matches = matches_split shape actor middle rest true now start (subst (Matches shape actor true now start) cut_is.more_is matches);
      closed = closes_split shape actor who middle rest true now (subst (λ xs. IsTrue (closes who true (lone_events (events_from shape actor now xs)))) cut_is.more_is is.closed);
      valid = subst (IsValid shape) (sym (ap (λ (i : Ideal). i.guest.tables) ghost1_is ∙ maps_steady actor (lone_events (events_from shape actor now middle)) start passes.0)) is.valid;
      whole = subst (λ (i : Ideal). IsWhole i.guest) (sym ghost1_is) (whole_events actor (lone_events (events_from shape actor now middle)) start is.whole);
      none = subst (λ (i : Ideal). AreForNone i.guest) (sym ghost1_is) (none_steady actor (lone_events (events_from shape actor now middle)) start passes.0 is.whole is.none);
      now = λ id. sym (ap (λ (i : Ideal). targets_in i id) ghost1_is ∙ targets_steady actor (lone_events (events_from shape actor now middle)) start id passes.0 is.whole);
      early = [];
      number_is = refl;
      firsts_are =
          ap (λ xs. targets_in start ∷ xs)
          (ap (λ xs. begun_after actor (lone_events xs) start) (ap (events_from shape actor now) cut_is.more_is ∙ events_split shape actor middle rest now)
          ∙ ap (λ es. begun_after actor es start) (events_both (events_from shape actor now middle) (events_from shape actor seat1 rest))
          ∙ begun_past actor (lone_events (events_from shape actor now middle)) (lone_events (events_from shape actor seat1 rest)) start passes.1
          ∙ ap (begun_after actor (lone_events (events_from shape actor seat1 rest))) (sym ghost1_is));
    }

    from_is : seat_of among.from ≡ seat1
    from_is =
        ap (λ local. let s : Seat = record { local = local; own = among.from.own } in s) among.local
        ∙ ap (λ own. let s : Seat = record { local = local_by guest.shape actor seat.local among.early; own = own } in s) among.begins
        ∙ sym (seat_is shape actor among.early seat) ∙ seat_early

    pub agree_among : AgreeAll (beside_of maps firsts) 0 (one ∷ commands)
    agree_among =
        agree_all who maps firsts (one ∷ commands) among.from among.to (held_on shape actor true now middle) 0 ghost1 (targets_in start) among.late among.are
        (subst (λ (s : Seat). IsCome (shape_of among.from) among.from.actor who (held_on shape actor true now middle) s rest ghost1 0 firsts (targets_in start)) (sym from_is)
        (subst (λ a. IsCome (shape_of among.from) a who (held_on shape actor true now middle) seat1 rest ghost1 0 firsts (targets_in start)) (sym among.actor)
        (subst (λ (g : IdealGuest). IsCome g.shape actor who (held_on shape actor true now middle) seat1 rest ghost1 0 firsts (targets_in start)) (sym among.guest) come)))

  agrees : (finding : Finding) → is_by_commands finding ≡ true → IsFinding (told_by guest actor is.base seat) part.steps finding → Agrees finding (beside_of maps firsts)
  agrees (by_looks goes_by targets) kind found = absurd (cc)
  agrees (by_commands []) kind found = tt
  agrees (by_commands (one ∷ commands)) kind found = agree_among one commands found

  call_with : (targets : Targets) (commands : List Targets) → AreSame firsts commands
      → IsCall guest.shape (record { maps = maps; targets = targets; commands = commands; signals = false }) who part.operation (events_from guest.shape actor seat part.steps) part.answer
  call_with targets commands same =
      let found = is.told.found in
      let kind = found.kind ∙ is.takes in
      let other : Beside = record { maps = maps; targets = targets; commands = commands; signals = false } in
      found.call other (sym is.maps_is) (agrees_same found.finding (beside_of maps firsts) other same kind (agrees found.finding kind found.is_finding))

  call_is : IsCall guest.shape (beside_of maps firsts) who part.operation (events_from guest.shape actor seat part.steps) part.answer
  call_is = call_with (slice_index_or firsts 0 no_target) firsts (same_self firsts)

  pub turned_call : IsTurnedCall guest actor seat part now start more
  turned_call = record { call = call_with; none = none_is }
    where
      its : IsItsCallOf guest.shape (beside_of start.guest.tables (firsts_from guest.shape actor now start more)) (vcpu_of guest.shape actor) (events_from guest.shape actor seat part.steps) part.answer
      its = its_call shape (beside_of maps firsts) who part.operation (events_from shape actor seat part.steps) part.answer is.takes call_is

      split : lone_events (events_from guest.shape actor seat part.steps) ≡ lone_events (events_from guest.shape actor seat is.past) ++ (ItsBegin ∷ lone_events (events_from guest.shape actor now more))
      split =
          ap (λ xs. lone_events (events_from shape actor seat xs)) is.steps_are ∙ ap lone_events (events_split shape actor is.past (is.turn ∷ more) seat)
          ∙ events_both (events_from shape actor seat is.past) (events_from shape actor (seat_on shape actor seat is.past) (is.turn ∷ more))
          ∙ ap (λ o. lone_events (events_from shape actor seat is.past) ++ lone_events (option_to_list o ++ events_from shape actor (next_seat shape actor (seat_on shape actor seat is.past) is.turn) more)) is.stands_is
          ∙ ap (λ s. lone_events (events_from shape actor seat is.past) ++ (ItsBegin ∷ lone_events (events_from shape actor s more))) (sym is.now_is)

      none_is : AreForNone (state_after actor (lone_events (events_from guest.shape actor now more)) start).guest
      none_is =
          turn_none shape actor its.vcpu its.offset its.size its.value (events_from shape actor seat part.steps) part.answer maps firsts its.is start (lone_events (events_from shape actor seat is.past))
          (lone_events (events_from shape actor now more)) split (subst (λ w. IsTrue (list_all (is_beside w) (lone_events (events_from shape actor seat is.past)))) its.who_is is.beside) is.whole
          (valid_along shape actor who more true now start matches is.closed is.valid) refl refl is.none
