-- A call of a course can still become a write of a register of the ITS that takes it exactly where it is begun so.
use Rattle.std.proofs.Common.{◌≡◌, ◌⊎◌, ◌↔◌, ℕ, suc, ◌+◌, ◌<◌, ◌||◌, nat_lt, Bool, true, false, cond, IsTrue, List, [], ◌∷◌, ◌++◌, length, fold, Contains, Option, Some, None, slice_index_or, refl, sym, ap, ◌∙◌, subst, arith, inl, inr, append_assoc, append-nil}
use Rattle.std.specs.List.{list_all, list_any}
use Rattle.std.proofs.Math.Path.{fun_ext}
use Rattle.std.proofs.lemmas.Bool.{and_parts, or_parts}
use Rattle.std.proofs.lemmas.List.Folds.{list_any-append}
use Rattle.history_commands.specs.Words.{GuestShape, Its as ItsFrame, Mem}
use Rattle.history_commands.specs.Registers.{Maps}
use Rattle.history_commands.specs.GicImap.Map.{decoded as its_decoded}
use Rattle.history_commands.specs.Calls.{Event, Enable, ItsBegin, Happened, View, Access, Operation, access_events, is_beside, its_events, its_starts, its_written_by, named_of, takes_turn}
use Rattle.history_commands.specs.GicCall.declared.event.Found.TheVariants.{Nothing}
use Rattle.history_commands.specs.Histories.{Call, made, IsEndedAs}
use Rattle.history_commands.specs.LegalLists.Legal.{Note, Made, noting, signalling, IsBegun}
use Rattle.history_commands.specs.HistoryCalls.Exact.{IsOpen, is_enable}
use Rattle.history_commands.specs.HistoryCalls.Found.{found_by}
use Rattle.history_commands.specs.Known.{its_in}
use Rattle.history_commands.specs.Mapped.{nothing_mapped}
use Rattle.history_commands.specs.Stage.{Stage, Between, Ending, Follow}
use Rattle.history_commands.specs.Begun.{begins_command, begun_by}
use Rattle.history_commands.specs.Written.{starting, IsWritten, IsFirstNamed, IsItsMade}
use Rattle.history_commands.specs.Opened.{IsWriteBegun, IsTakenBegun, IsItsBegun}
use Rattle.history_commands.specs.Taking.{targets_of, TakingCallsBegin}
use Rattle.history_commands.proofs.StepLemmas.{quiet_parts}
use Rattle.history_commands.proofs.OpenedLaw.{IsLater, parted, same_head, same_tail, rest_ends, write_ends, nothing_begun, written_back, named_left}
use Rattle.history_commands.proofs.PlainLemmas.{is_plain_event, are_plain, plain_written, plain_right}
use Rattle.history_commands.proofs.SameLemmas.{IsBounded, follow_same, begun_both, begun_cons}
use Rattle.history_commands.proofs.NoteLemmas.{more_of, goes_on_as, index_left, bare, notes_of, goes_bare, bare_seen, made_operation, made_piece, made_targets, made_place}
use Rattle.history_commands.proofs.TakingLaw.{taking_end, ended_made}

-- Stores of EnableLPIs.

abbrev enables : List Happened → Bool
enables piece = list_any (λ (h : Happened). is_enable h.event) piece

plain_enable : (event : Event) → is_plain_event event ≡ true → is_enable event ≡ false
plain_enable (Enable vcpu) h = absurd (cc)
plain_enable event h = refl

beside_enable : (actor : Option ℕ) (event : Event) → is_beside actor event ≡ true → is_enable event ≡ false
beside_enable actor (Enable vcpu) h = absurd (cc)
beside_enable actor event h = refl

plain_enables : (piece : List Happened) → are_plain piece ≡ true → enables piece ≡ false
plain_enables [] h = refl
plain_enables (one ∷ piece) h =
    let both = and_parts (is_plain_event one.event) (are_plain piece) h in
    ap (λ b. b || enables piece) (plain_enable one.event both.0) ∙ plain_enables piece both.1

quiet_enables : (actor : Option ℕ) (piece : List Happened) → named_of actor piece ≡ [] → enables piece ≡ false
quiet_enables actor [] h = refl
quiet_enables actor (one ∷ piece) h =
    let is = quiet_parts actor one piece h in
    ap (λ b. b || enables piece) (beside_enable actor one.event is.beside) ∙ quiet_enables actor piece is.later

module _ (shape : GuestShape) (actor offset size value : ℕ) where
  abbrev Begun : Maps → (ℕ → ℕ → Option ℕ) → List Happened → Type 0
  Begun maps targets piece = IsItsBegun shape maps targets actor offset size value piece

  abbrev IsMade : Maps → (ℕ → ℕ → Option ℕ) → List Happened → Type 0
  IsMade maps targets piece = IsItsMade shape maps targets actor offset size value piece

  -- Back: a call that becomes one is begun so.

  abbrev IsTaken : Maps → (ℕ → ℕ → Option ℕ) → List Happened → List Happened → Type 0
  IsTaken maps targets piece more = IsTakenBegun shape maps targets actor offset size value piece × (are_plain more ≡ true)

  taken_back : (maps : Maps) (targets : ℕ → ℕ → Option ℕ) (piece more : List Happened) → IsMade maps targets (piece ++ more) → (named_of (Some actor) piece ≡ []) ⊎ IsTaken maps targets piece more
  taken_back maps targets piece more is = of (parted piece more is.is_first.idle (is.first ∷ is.rest) is.is_first.split)
    where
      after : (between : List Happened) → piece ≡ is.is_first.idle ++ between → is.first ∷ is.rest ≡ between ++ more → (named_of (Some actor) piece ≡ []) ⊎ IsTaken maps targets piece more
      after [] first last = inl (ap (named_of (Some actor)) (first ∙ append-nil is.is_first.idle) ∙ is.is_first.quiet)
      after (one ∷ between) first last =
          let goes = subst (IsWritten shape maps targets actor offset size value false) (same_tail is.first one is.rest (between ++ more) last) is.goes_on in
          inr (
            record {
              first = is.first;
              rest = between;
              is_first = record {
                idle = is.is_first.idle;
                split = first ∙ ap (λ x. is.is_first.idle ++ x ∷ between) (sym (same_head is.first one is.rest (between ++ more) last));
                quiet = is.is_first.quiet;
                named = is.is_first.named;
              };
              taken = is.taken;
              found = is.found;
              goes_on = written_back shape maps targets actor offset size value between more goes;
            },
            plain_right between more (plain_written shape maps targets actor offset size value false (between ++ more) goes),
          )

      of : IsLater piece is.is_first.idle more (is.first ∷ is.rest) ⊎ IsLater is.is_first.idle piece (is.first ∷ is.rest) more → (named_of (Some actor) piece ≡ []) ⊎ IsTaken maps targets piece more
      of (inl later) = after later.between later.first later.last
      of (inr later) = inl (named_left shape maps targets actor offset size value piece later.between (ap (named_of (Some actor)) (sym later.first) ∙ is.is_first.quiet))

  -- with the vCPUs that were noted till then
  written_same : (maps : Maps) (one other : ℕ → ℕ → Option ℕ) (bound : ℕ) → ((number : ℕ) → number < bound → one number ≡ other number) → (rest : List Happened) → begun_by rest < bound
      → IsWritten shape maps one actor offset size value true rest → IsWritten shape maps other actor offset size value true rest
  written_same maps one other bound agree rest few is = record {
    written = is.written;
    later = is.later;
    split = is.split;
    made = is.made;
    follow = follow_same shape actor bound one other agree true is.later (starting shape (found_by is.written) maps offset size value) (of (its_starts shape (found_by is.written) (its_decoded offset size) (Some value))) is.follow;
  }
    where
      of : (b : Bool)
          → IsBounded shape actor bound one other agree true (cond b (Between 0 (its_in (its_written_by shape (found_by is.written) (access_events shape (found_by is.written) ItsFrame offset size (Some value)))) maps []) Ending) (begun_by is.later)
      of true = let count = ap begun_by is.split ∙ begun_both is.written is.later in omega (arith, count, few)
      of false = tt

  begun_same : (call later : Call) (extra : List (ℕ → Option ℕ)) (piece : List Happened) → later.commands ≡ call.commands ++ extra → length call.commands ≡ begun_by piece → later.maps ≡ call.maps
      → IsTakenBegun shape later.maps (targets_of later) actor offset size value piece → IsTakenBegun shape call.maps (targets_of call) actor offset size value piece
  begun_same call later extra piece commands count maps is = record { first = is.first; rest = is.rest; is_first = is.is_first; taken = is.taken; found = is.found; goes_on = of is.goes_on }
    where
      agree : (number : ℕ) → number < length call.commands → targets_of later number ≡ targets_of call number
      agree number lt = ap (λ (cs : List (ℕ → Option ℕ)). slice_index_or cs number (λ id. None)) commands ∙ index_left call.commands extra number (λ id. None) lt

      one_begun : begun_by (is.first ∷ is.rest) ≡ begun_by is.rest + 1
      one_begun = begun_cons is.first is.rest ∙ ap (λ event. cond (begins_command event) (suc (begun_by is.rest)) (begun_by is.rest)) is.taken ∙ omega arith

      of : IsWriteBegun shape actor offset size value is.rest ⊎ IsWritten shape later.maps (targets_of later) actor offset size value true is.rest
          → IsWriteBegun shape actor offset size value is.rest ⊎ IsWritten shape call.maps (targets_of call) actor offset size value true is.rest
      of (inl begun) = inl begun
      of (inr written) =
          let total = count ∙ ap begun_by is.is_first.split ∙ begun_both is.is_first.idle (is.first ∷ is.rest) in
          let one = one_begun in
          inr (written_same call.maps (targets_of later) (targets_of call) (length call.commands) agree is.rest (omega (arith, total, one))
          (subst (λ m. IsWritten shape m (targets_of later) actor offset size value true is.rest) maps written))

  -- Forth: such a call becomes one.

  made_enables : (maps : Maps) (targets : ℕ → ℕ → Option ℕ) (whole : List Happened) → IsMade maps targets whole → enables whole ≡ false
  made_enables maps targets whole is =
      let is_enabled : Happened → Bool = λ h. is_enable h.event in
      let rest = plain_enables is.rest (plain_written shape maps targets actor offset size value false is.rest is.goes_on) in
      let first : is_enable is.first.event ≡ false = ap is_enable is.taken in
      ap enables is.is_first.split ∙ list_any-append is_enabled is.is_first.idle (is.first ∷ is.rest)
      ∙ ap (λ b. b || enables (is.first ∷ is.rest)) (quiet_enables (Some actor) is.is_first.idle is.is_first.quiet) ∙ ap (λ b. b || enables is.rest) first ∙ rest

  left_enables : (one two : List Happened) → enables (one ++ two) ≡ false → enables one ≡ false
  left_enables one two h = (or_parts (enables one) (enables two) (sym (list_any-append (λ (h : Happened). is_enable h.event) one two) ∙ h)).0

  module _ (call : Call) (signals : Bool) (takes : takes_turn shape (its_decoded offset size) (Some value) ≡ true) (there : nat_lt actor shape.vcpus ≡ true) (same : call.operation ≡ Access (Mem ItsFrame offset size (Some value))) (opened : IsOpen call) where
    -- a call that goes on by these notes
    becomes : (mid : Call) (more : List Happened) → mid.operation ≡ Access (Mem ItsFrame offset size (Some value)) → are_plain more ≡ true → mid.place ≡ None → (s : Bool) → IsMade mid.maps (targets_of mid) (mid.piece ++ more)
        → IsEndedAs s shape actor (fold noting mid (notes_of more)) None
    becomes mid more operation plain place s made =
        let goes = goes_bare more mid plain place in
        let call' : Call = fold noting mid (notes_of more) in
        let so : IsMade call'.maps (targets_of call') call'.piece =
        subst (IsMade call'.maps (targets_of call')) (sym goes.piece) (subst (λ ts. IsMade call'.maps ts (mid.piece ++ more)) (sym (fun_ext goes.targets)) (subst (λ m. IsMade m (targets_of mid) (mid.piece ++ more)) (sym goes.maps) made)) in
        (taking_end shape actor offset size value call' s None takes there (goes.operation ∙ operation) (record { seen = bare_seen more mid plain place; place = λ h. goes.place })).1 (so, refl)

    forth : Begun call.maps (targets_of call) call.piece → IsBegun signals shape actor call
    forth (inl quiet) =
        let mid : Call = made bare ItsBegin Nothing call in
        let end = write_ends shape nothing_mapped (targets_of mid) actor offset size value [] (nothing_begun shape nothing_mapped (targets_of mid) actor offset size value) in
        let place : call.place ≡ None = opened.place (quiet_enables (Some actor) call.piece quiet) in
        let one : Happened = record { event = ItsBegin; found = Nothing } in
        let made_so : IsMade nothing_mapped (targets_of mid) (mid.piece ++ end.more) = record {
          first = one;
          rest = end.more;
          is_first = record { idle = call.piece; split = ap (λ p. p ++ end.more) (made_piece bare ItsBegin Nothing call) ∙ append_assoc call.piece (one ∷ []) end.more; quiet = quiet; named = refl };
          taken = refl;
          found = refl;
          goes_on = end.is;
        } in
        record {
          notes = Made false bare ItsBegin Nothing ∷ notes_of end.more;
          answer = None;
          ended = becomes mid end.more (made_operation bare ItsBegin Nothing call ∙ same) (plain_written shape nothing_mapped (targets_of mid) actor offset size value false end.more end.is) place
              (fold signalling signals (Made false bare ItsBegin Nothing ∷ notes_of end.more)) made_so;
        }
    forth (inr is) =
        let end = rest_ends shape call.maps (targets_of call) actor offset size value is.rest is.goes_on in
        let made_so : IsMade call.maps (targets_of call) (call.piece ++ end.more) = record {
          first = is.first;
          rest = is.rest ++ end.more;
          is_first = record { idle = is.is_first.idle; split = ap (λ xs. xs ++ end.more) is.is_first.split ∙ append_assoc is.is_first.idle (is.first ∷ is.rest) end.more; quiet = is.is_first.quiet; named = is.is_first.named };
          taken = is.taken;
          found = is.found;
          goes_on = end.is;
        } in
        let place : call.place ≡ None = opened.place (left_enables call.piece end.more (made_enables call.maps (targets_of call) (call.piece ++ end.more) made_so)) in
        record {
          notes = notes_of end.more;
          answer = None;
          ended = becomes call end.more same (plain_right is.rest end.more (plain_written shape call.maps (targets_of call) actor offset size value false (is.rest ++ end.more) end.is)) place (fold signalling signals (notes_of end.more)) made_so;
        }

    back : length call.commands ≡ begun_by call.piece → IsBegun signals shape actor call → Begun call.maps (targets_of call) call.piece
    back count is =
        let later : Call = fold noting call is.notes in
        let goes = goes_on_as is.notes call in
        let made_so = (taking_end_forth later is.answer (fold signalling signals is.notes) (goes.operation ∙ same) is.ended) in
        of later (more_of is.notes) goes.extra goes.commands goes.maps (taken_back later.maps (targets_of later) call.piece (more_of is.notes) (subst (IsMade later.maps (targets_of later)) goes.piece made_so))
      where
        taking_end_forth : (later : Call) (answer : Option ℕ) (s : Bool) → later.operation ≡ Access (Mem ItsFrame offset size (Some value)) → IsEndedAs s shape actor later answer → IsMade later.maps (targets_of later) later.piece
        taking_end_forth later answer s operation ended = (ended_made shape actor offset size value later s answer takes there operation ended).0

        of : (later : Call) (more : List Happened) (extra : List (ℕ → Option ℕ)) → later.commands ≡ call.commands ++ extra → (are_plain more ≡ true → later.maps ≡ call.maps)
            → (named_of (Some actor) call.piece ≡ []) ⊎ IsTaken later.maps (targets_of later) call.piece more → Begun call.maps (targets_of call) call.piece
        of later more extra commands maps (inl quiet) = inl quiet
        of later more extra commands maps (inr taken) = inr (begun_same call later extra call.piece commands count (maps taken.1) taken.0)

pub taking_begin : TakingCallsBegin
taking_begin shape actor offset size value call signals takes there same opened count = (back shape actor offset size value call signals takes there same opened count, forth shape actor offset size value call signals takes there same opened)
