-- What is noted of each call goes on with that.
use Rattle.std.proofs.Common.{◌≡◌, ◌≢◌, ℕ, ◌+◌, ◌<◌, ◌&&◌, ◌||◌, ◌==◌, not, Bool, true, false, cond, List, [], ◌∷◌, ◌++◌, map, fold, length, Option, option_map, Some, None, slice_get, slice_set, slice_index_or, unwrap_or, zero, suc, refl, sym, ap, ◌∙◌, subst, arith, inl, inr, true≢false, eqb-true}
use Rattle.std.specs.List.{list_any, range_with_len}
use Rattle.std.specs.Option.{option_map_or}
use Rattle.std.proofs.lemmas.Bool.{cases_eq, eq-eqb, false_from_ne_true}
use Rattle.std.proofs.lemmas.List.{length-map, length-set, map-append, get_or-set_same, get_or-set_other}
use Rattle.std.proofs.lemmas.List.Folds.{list_any-append}
use Rattle.std.proofs.lemmas.List.FromFn.{get_or-map-range_with_len}
use Rattle.std.proofs.lemmas.List.Sums.{fold-append}
use Rattle.std.proofs.lemmas.Option.{none-some, same_Some, unwrap_or-slice_get}
use Rattle.trace_told.specs.Words.{GuestShape, Lpi, Redist, Its, Mem, Msi, is_number}
use Rattle.trace_told.specs.Registers.{translated}
use Rattle.trace_told.specs.LegalLists.GicImap.Map.{decoded as its_decoded}
use Rattle.trace_told.specs.LegalLists.GicRmap.Map.{decoded as redist_decoded}
use Rattle.trace_told.specs.LegalLists.GicHistory.History.{is_midway}
use Rattle.trace_told.specs.Calls.{Event, Enable, Touch, ItsBegin, Runs, Done, Stalls, Found, Operation, Access, Device, Happened, Begin, Happens, sets_lpis, takes_turn}
use Rattle.trace_told.specs.GicCall.declared.event.Event.TheVariants.{Raise, Queue}
use Rattle.trace_told.specs.GicCall.declared.event.Moment.TheVariants.{End}
use Rattle.trace_told.specs.Histories.{Ideal, Call, Course, Track, call_of, gone_on, happened, begun, made, seeing, noted as noted_by, targets_in, has_midway, is_signal, signalled_by, signals_after, with_signal}
use Rattle.trace_told.specs.LegalPlay.Pieces.{piece_of, AreCalls}
use Rattle.trace_told.proofs.LegalPlay.LegalSteps.CourseLemmas.{begun_here, begun_other, ended_here, ended_other, made_here, made_other, noted_piece}
use Rattle.trace_told.proofs.LegalPlay.HistoryPlay.CourseLemmas.{shape_same}
use Rattle.trace_told.proofs.LegalPlay.CallsLaw.{noted_operation}
use Rattle.history_turns.specs.Begun.{begins_command, AreTargets, AreTargetsOf}
use Rattle.history_turns.specs.Mapped.{mapped_by}
use Rattle.history_turns.specs.Noted.{NotedOf, HasNoted, HasTaken, IsSeen, takes, placing, place_by, nothing_seen, seen_at, seen_on, seen_anew}
use Rattle.history_turns.specs.declared.noted.Seen.{Seen}
use Rattle.history_turns.proofs.SeenLaw.{notes_on}
use Rattle.history_turns.proofs.BegunLaw.{commands_on}
use Rattle.gic_check.specs.Notes.{nothing_noted, noted_of, IsNoted, AreNoted, is_midway_in, is_signal_in, lpi_noted, is_taking, AreAllDone, done_made, targets_now, commands_made, rising_of, of_each, first_seen, seen_first, made_seen, seen_made, later_seen, noted_first, noted_made, noted_later}

-- Signals.

piece_midway : (o : Option Call) → option_map_or (λ (call : Call). is_midway call.piece) o false ≡ is_midway (option_map_or (λ (call : Call). call.piece) o [])
piece_midway None = refl
piece_midway (Some call) = refl

pub midway_same : (course : Course) (track : Track) (pieces : List (List Happened)) → AreCalls course track pieces → has_midway course ≡ is_midway_in course.ideal pieces
midway_same course track pieces are = of course.ideal.has_its
  where
    of : (o : Option ℕ) → option_map_or (λ actor. option_map_or (λ (call : Call). is_midway call.piece) (call_of course actor) false) o false ≡ option_map_or (λ actor. is_midway (piece_of pieces actor)) o false
    of None = refl
    of (Some actor) = piece_midway (call_of course actor) ∙ ap is_midway (are.made actor)

signal_same : (course : Course) (midway : Bool) → has_midway course ≡ midway → (operation : Operation) (event : Event) → is_signal course operation event ≡ is_signal_in midway course.ideal operation event
signal_same course midway is operation (Raise (Lpi id)) = ap (λ b. is_number id (signalled_by course.ideal operation) && not b) is
signal_same course midway is operation event = refl

signals_here : (course : Course) (actor : ℕ) (signals : Bool) → with_signal course actor signals actor ≡ signals
signals_here course actor signals = ap (λ b. cond b signals (course.signals actor)) (eq-eqb actor actor refl)

signals_there : (course : Course) (actor other : ℕ) (signals : Bool) → other ≢ actor → with_signal course actor signals other ≡ course.signals other
signals_there course actor other signals differ = ap (λ b. cond b signals (course.signals other)) (false_from_ne_true (other == actor) (λ t. differ (eqb-true other actor t)))

signals_made : (course : Course) (actor : ℕ) (event : Event) (call : Call) (midway signals : Bool) → call_of course actor ≡ Some call → has_midway course ≡ midway → course.signals actor ≡ signals
    → signals_after course actor event ≡ (signals || is_signal_in midway course.ideal call.operation event)
signals_made course actor event call midway signals is same so =
    ap (λ o. course.signals actor || option_map_or (λ (call : Call). is_signal course call.operation event) o false) is
    ∙ (ap (λ b. course.signals actor || b) (signal_same course midway same call.operation event) ∙ ap (λ b. b || is_signal_in midway course.ideal call.operation event) so)

-- The LPIs of a call that sets EnableLPIs.

seen_each : (noted : NotedOf) (shape : GuestShape) (seen : ℕ → Seen) (number : ℕ) → noted.targets ≡ of_each shape seen → number < shape.lpis → seen_at noted number ≡ seen number
seen_each noted shape seen number are few =
    ap (λ (targets : List Seen). unwrap_or (slice_get targets number) nothing_seen) are
    ∙ (unwrap_or-slice_get (of_each shape seen) number nothing_seen ∙ get_or-map-range_with_len seen 0 shape.lpis number number nothing_seen few (omega arith))

rising_is : (shape : GuestShape) (vcpu offset size : ℕ) (write : Option ℕ) → sets_lpis shape (redist_decoded offset size) write ≡ true → rising_of shape (Access (Mem (Redist vcpu) offset size write)) ≡ Some vcpu
rising_is shape vcpu offset size write sets = ap (λ b. cond b (Some vcpu) None) sets

-- as it begins
first_has : (ideal : Ideal) (operation : Operation) → HasNoted ideal.guest.shape (noted_first ideal operation) operation (begun ideal operation)
first_has ideal (Access (Mem (Redist vcpu) offset size write)) = λ sets number few.
    let shape = ideal.guest.shape in
    let operation : Operation = Access (Mem (Redist vcpu) offset size write) in
    let are : (noted_first ideal operation).targets ≡ of_each shape (first_seen ideal vcpu) = ap (seen_first ideal) (rising_is shape vcpu offset size write sets) in
    subst (IsSeen vcpu ((begun ideal operation).targets (8192 + number))) (sym (seen_each (noted_first ideal operation) shape (first_seen ideal vcpu) number are few)) (notes_on.begins ideal operation vcpu (8192 + number))
first_has ideal (Device (Msi device event)) = λ taken. absurd (true≢false (sym taken))
first_has ideal (Access (Mem Its offset size write)) = λ turn. record { maps = refl; commands = commands_on.begins ideal (Access (Mem Its offset size write)) }
first_has ideal operation = tt

-- The LPI of a message-signalled interrupt.

maps_kept : (ideal : Ideal) (event : Event) (call : Call) → takes event ≡ false → (noted_by ideal event call).maps ≡ call.maps
maps_kept ideal ItsBegin call off = absurd (true≢false off)
maps_kept ideal (Enable vcpu) call off = refl
maps_kept ideal (Touch key touching) call off = refl
maps_kept ideal (Queue offset Runs) call off = refl
maps_kept ideal (Queue offset (Done words)) call off = refl
maps_kept ideal (Queue offset (Stalls fault)) call off = refl
maps_kept ideal event call off = refl

maps_taken : (ideal : Ideal) (event : Event) (call : Call) → takes event ≡ true → (noted_by ideal event call).maps ≡ ideal.guest.tables
maps_taken ideal ItsBegin call on = refl
maps_taken ideal event call on = absurd (true≢false (sym on))

lpi_kept : (ideal : Ideal) (device number : ℕ) (event : Event) (lpi : Option ℕ) → takes event ≡ false → lpi_noted ideal (Device (Msi device number)) event lpi ≡ lpi
lpi_kept ideal device number ItsBegin lpi off = absurd (true≢false off)
lpi_kept ideal device number event lpi off = refl

lpi_taken : (ideal : Ideal) (device number : ℕ) (event : Event) (lpi : Option ℕ) → takes event ≡ true → lpi_noted ideal (Device (Msi device number)) event lpi ≡ translated ideal.guest.tables true device number
lpi_taken ideal device number ItsBegin lpi on = refl
lpi_taken ideal device number event lpi on = absurd (true≢false (sym on))

-- For which vCPUs the LPIs are.

numbers_long : (count start : ℕ) → length (range_with_len start count) ≡ count
numbers_long zero start = refl
numbers_long (suc count) start = ap suc (numbers_long count (start + 1))

are_targets : (ideal : Ideal) → AreTargetsOf ideal (targets_now ideal)
are_targets ideal =
    let lpis = ideal.guest.shape.lpis in
    record {
      count = length-map (range_with_len 0 lpis) (λ number. targets_in ideal (8192 + number)) ∙ numbers_long lpis 0;
      each = λ number few. get_or-map-range_with_len (λ number. targets_in ideal (8192 + number)) 0 lpis number number None few (omega arith);
    }

abbrev has_taken : List Happened → Bool
has_taken piece = list_any (λ (h : Happened). takes h.event) piece

or_left : (b : Bool) → (b || false) ≡ true → b ≡ true
or_left true h = refl
or_left false h = h

-- An event of a call's own.

module _ (shape : GuestShape) (before after : Ideal) (all : List (List ℕ)) (event : Event) (found : Found) (call : Call) (midway : Bool) (noted : NotedOf) (shape_before : before.guest.shape ≡ shape) (shape_after : after.guest.shape ≡ shape) (place : call.place ≡ place_by call.piece)
    (done : AreAllDone before all)
  where
    abbrev one : Happened
    one = record { event = event; found = found }

    abbrev piece : List Happened
    piece = call.piece ++ one ∷ []

    abbrev next : Call
    next = seeing after (made before event found call)

    abbrev half : NotedOf
    half = noted_made before all midway call.operation call.piece event noted

    abbrev whole : NotedOf
    whole = noted_later after (Some call.operation) piece half

    place_next : place_by piece ≡ placing call.place event
    place_next =
        ap (fold placing None) (map-append (λ (h : Happened). h.event) call.piece (one ∷ []))
        ∙ (fold-append placing None (map (λ (h : Happened). h.event) call.piece) (event ∷ []) ∙ ap (λ p. placing p event) (sym place))

    rising_own : (vcpu offset size : ℕ) (write : Option ℕ) → call.operation ≡ Access (Mem (Redist vcpu) offset size write) → sets_lpis shape (redist_decoded offset size) write ≡ true → (number : ℕ) → number < shape.lpis
        → IsSeen vcpu (call.targets (8192 + number)) (seen_at noted number) → IsSeen vcpu (next.targets (8192 + number)) (seen_at whole number)
    rising_own vcpu offset size write is sets number few so =
        let id = 8192 + number in
        let rise : rising_of shape call.operation ≡ Some vcpu = ap (rising_of shape) is ∙ rising_is shape vcpu offset size write sets in
        let mades : half.targets ≡ of_each shape (made_seen (place_by call.piece) event noted) =
        ap (λ (s : GuestShape). seen_made s (rising_of s call.operation) call.piece event noted) shape_before ∙ ap (λ r. seen_made shape r call.piece event noted) rise in
        let laters : whole.targets ≡ of_each shape (later_seen after vcpu (place_by piece) half) =
        ap (λ (s : GuestShape). option_map_or (λ v. of_each s (later_seen after v (place_by piece) half)) (rising_of s call.operation) half.targets) shape_after
        ∙ ap (λ r. option_map_or (λ v. of_each shape (later_seen after v (place_by piece) half)) r half.targets) rise in
        let here : seen_at half number ≡ seen_anew call.place event id (seen_at noted number) =
        seen_each half shape (made_seen (place_by call.piece) event noted) number mades few ∙ ap (λ p. seen_anew p event id (seen_at noted number)) (sym place) in
        let there : seen_at whole number ≡ seen_on vcpu (placing call.place event) id (targets_in after id) (seen_anew call.place event id (seen_at noted number)) =
        seen_each whole shape (later_seen after vcpu (place_by piece) half) number laters few
        ∙ (ap (λ p. seen_on vcpu p id (targets_in after id) (seen_at half number)) place_next ∙ ap (seen_on vcpu (placing call.place event) id (targets_in after id)) here) in
        subst (IsSeen vcpu (next.targets id)) (sym there) ((notes_on.goes_on vcpu id call (seen_at noted number) so).own before after event found)

    earlier : takes event ≡ false → has_taken next.piece ≡ true → has_taken call.piece ≡ true
    earlier off taken =
        let sum : has_taken next.piece ≡ (has_taken call.piece || false) =
        ap (λ p. has_taken (p ++ one ∷ [])) (noted_piece before event call)
        ∙ (list_any-append (λ (h : Happened). takes h.event) call.piece (one ∷ []) ∙ ap (λ b. has_taken call.piece || (b || false)) off) in
        or_left (has_taken call.piece) (sym sum ∙ taken)

    signalling_own : (device number : ℕ) → call.operation ≡ Device (Msi device number) → (has_taken call.piece ≡ true → noted.lpi ≡ translated call.maps true device number) → has_taken next.piece ≡ true → whole.lpi ≡ translated next.maps true device number
    signalling_own device number is so taken = ap (λ op. lpi_noted before op event noted.lpi) is ∙ of (takes event) refl
      where
        of : (b : Bool) → takes event ≡ b → lpi_noted before (Device (Msi device number)) event noted.lpi ≡ translated next.maps true device number
        of true e = lpi_taken before device number event noted.lpi e ∙ ap (λ maps. translated maps true device number) (sym (maps_taken before event call e))
        of false e = lpi_kept before device number event noted.lpi e ∙ (so (earlier e taken) ∙ ap (λ maps. translated maps true device number) (sym (maps_kept before event call e)))

    maps_own : (taking : Bool) → taking ≡ true → call.maps ≡ mapped_by shape noted.done → next.maps ≡ mapped_by shape (done_made taking all event noted.done)
    maps_own false on so = absurd (true≢false (sym on))
    maps_own true on so = of (takes event) refl
      where
        of : (b : Bool) → takes event ≡ b → (noted_by before event call).maps ≡ mapped_by shape (cond b all noted.done)
        of true e = maps_taken before event call e ∙ (done ∙ ap (λ s. mapped_by s all) shape_before)
        of false e = maps_kept before event call e ∙ so

    commands_own : (taking : Bool) → taking ≡ true → AreTargets call.commands noted.commands → AreTargets next.commands (commands_made taking before event noted.commands)
    commands_own false on so = absurd (true≢false (sym on))
    commands_own true on so = of (begins_command event) refl
      where
        of : (b : Bool) → begins_command event ≡ b → AreTargets next.commands (cond b (noted.commands ++ targets_now before ∷ []) noted.commands)
        of true e = commands_on.notes before event found call noted.commands (targets_now before) e (are_targets before) so
        of false e = subst (λ cs. AreTargets cs noted.commands) (sym (commands_on.keeps before event found call e)) so

    taking_own : (offset size : ℕ) (write : Option ℕ) → call.operation ≡ Access (Mem Its offset size write) → takes_turn shape (its_decoded offset size) write ≡ true → HasTaken shape noted call → HasTaken shape whole next
    taking_own offset size write is turn so =
        let taking : is_taking before.guest.shape call.operation ≡ true = ap (λ s. is_taking s call.operation) shape_before ∙ (ap (is_taking shape) is ∙ turn) in
        record { maps = maps_own (is_taking before.guest.shape call.operation) taking so.maps; commands = commands_own (is_taking before.guest.shape call.operation) taking so.commands }

    pub own_has : HasNoted shape noted call.operation call → HasNoted shape whole call.operation next
    own_has has = of call.operation refl has
      where
        of : (operation : Operation) → call.operation ≡ operation → HasNoted shape noted operation call → HasNoted shape whole operation next
        of (Access (Mem (Redist vcpu) offset size write)) is so = λ sets number few. rising_own vcpu offset size write is sets number few (so sets number few)
        of (Device (Msi device number)) is so = signalling_own device number is so
        of (Access (Mem Its offset size write)) is so = λ turn. taking_own offset size write is turn (so turn)
        of operation is so = tt

-- An event of another one.

module _ (shape : GuestShape) (after : Ideal) (call : Call) (noted : NotedOf) (shape_after : after.guest.shape ≡ shape) (place : call.place ≡ place_by call.piece) where
  abbrev beside : NotedOf
  beside = noted_later after (Some call.operation) call.piece noted

  rising_other : (vcpu offset size : ℕ) (write : Option ℕ) → call.operation ≡ Access (Mem (Redist vcpu) offset size write) → sets_lpis shape (redist_decoded offset size) write ≡ true → (number : ℕ) → number < shape.lpis
      → IsSeen vcpu (call.targets (8192 + number)) (seen_at noted number) → IsSeen vcpu ((seeing after call).targets (8192 + number)) (seen_at beside number)
  rising_other vcpu offset size write is sets number few so =
      let id = 8192 + number in
      let rise : rising_of shape call.operation ≡ Some vcpu = ap (rising_of shape) is ∙ rising_is shape vcpu offset size write sets in
      let laters : beside.targets ≡ of_each shape (later_seen after vcpu (place_by call.piece) noted) =
      ap (λ (s : GuestShape). option_map_or (λ v. of_each s (later_seen after v (place_by call.piece) noted)) (rising_of s call.operation) noted.targets) shape_after
      ∙ ap (λ r. option_map_or (λ v. of_each shape (later_seen after v (place_by call.piece) noted)) r noted.targets) rise in
      let there : seen_at beside number ≡ seen_on vcpu call.place id (targets_in after id) (seen_at noted number) =
      seen_each beside shape (later_seen after vcpu (place_by call.piece) noted) number laters few ∙ ap (λ p. seen_on vcpu p id (targets_in after id) (seen_at noted number)) (sym place) in
      subst (IsSeen vcpu ((seeing after call).targets id)) (sym there) ((notes_on.goes_on vcpu id call (seen_at noted number) so).other after)

  pub other_has : HasNoted shape noted call.operation call → HasNoted shape beside call.operation (seeing after call)
  other_has has = of call.operation refl has
    where
      of : (operation : Operation) → call.operation ≡ operation → HasNoted shape noted operation call → HasNoted shape beside operation (seeing after call)
      of (Access (Mem (Redist vcpu) offset size write)) is so = λ sets number few. rising_other vcpu offset size write is sets number few (so sets number few)
      of (Device (Msi device number)) is so = so
      of (Access (Mem Its offset size write)) is so = λ turn. let it = so turn in record { maps = it.maps; commands = it.commands }
      of operation is so = tt

-- Of all calls of a course.

pub some_there : {X : Type 0} (xs : List (Option X)) (n : ℕ) (x : X) → slice_index_or xs n None ≡ Some x → n < length xs
some_there [] n x h = absurd (none-some x h)
some_there (y ∷ xs) zero x h = omega arith
some_there (y ∷ xs) (suc n) x h = let rest = some_there xs n x h in omega (arith, rest)

pub mapped_some : {X : Type 0} (f : X → X) (o : Option X) (y : X) → option_map f o ≡ Some y → (x : X) × (o ≡ Some x) × (f x ≡ y)
mapped_some f None y h = absurd (none-some y h)
mapped_some f (Some x) y h = (x, refl, same_Some _ _ h)

-- what is noted of each call after an event, where it was this before
abbrev pub AreLater : Ideal → Course → List NotedOf → List NotedOf → Type 0
AreLater after gone made later = (other : ℕ) (call : Call) → call_of gone other ≡ Some call → noted_of later other ≡ noted_later after (Some call.operation) call.piece (noted_of made other)

pub calls_long : (course : Course) (actor : ℕ) (event : Event) (found : Found) → length course.calls ≡ length (gone_on course (Happens actor event found)).calls
calls_long course actor event found = sym (length-map (slice_set course.calls actor (option_map (made course.ideal event found) (call_of course actor))) (option_map (seeing (happened actor event course.ideal))) ∙ length-set course.calls actor _)

abbrev pub ArePlaced : Course → Type 0
ArePlaced course = (actor : ℕ) (call : Call) → call_of course actor ≡ Some call → call.place ≡ place_by call.piece

module _ (shape : GuestShape) (course : Course) (notes : List NotedOf) (are : AreNoted shape course notes) where
  -- what is noted of a call of another one, which neither begins nor ends
  beside_it : (actor : ℕ) (signals : Bool) (noted : NotedOf) (other : ℕ) → other ≢ actor → (call : Call) → call_of course other ≡ Some call → IsNoted shape (with_signal course actor signals other) call (noted_of (slice_set notes actor noted) other)
  beside_it actor signals noted other differ call is =
      subst (λ n. IsNoted shape (with_signal course actor signals other) call n) (sym (get_or-set_other notes actor other noted nothing_noted differ))
      (subst (λ s. IsNoted shape s call (noted_of notes other)) (sym (signals_there course actor other signals differ)) (are.of other call is))

  pub begun_noted : (actor : ℕ) (operation : Operation) → course.ideal.guest.shape ≡ shape → actor < length course.calls → AreNoted shape (gone_on course (Begin actor operation)) (slice_set notes actor (noted_first course.ideal operation))
  begun_noted actor operation same there = record {
    rooms = length-set notes actor _ ∙ (are.rooms ∙ sym (length-set course.calls actor _));
    of = λ other call is. elim (cases_eq other actor) [
      | inl here ↦ subst Of (sym here) own call is
      | inr differ ↦ beside_it actor false (noted_first course.ideal operation) other differ call (sym (begun_other course actor operation other differ) ∙ is)
    ];
  }
    where
      Of : ℕ → Type 0
      Of other = (call : Call) → call_of (gone_on course (Begin actor operation)) other ≡ Some call → IsNoted shape ((gone_on course (Begin actor operation)).signals other) call (noted_of (slice_set notes actor (noted_first course.ideal operation)) other)

      first : IsNoted shape false (begun course.ideal operation) (noted_first course.ideal operation)
      first = record { signals_is = refl; has = subst (λ s. HasNoted s (noted_first course.ideal operation) operation (begun course.ideal operation)) same (first_has course.ideal operation) }

      own : Of actor
      own call is =
          subst (λ n. IsNoted shape (with_signal course actor false actor) call n) (sym (get_or-set_same notes actor (noted_first course.ideal operation) nothing_noted (subst (λ n. actor < n) (sym are.rooms) there)))
          (subst (λ s. IsNoted shape s call (noted_first course.ideal operation)) (sym (signals_here course actor false))
          (subst (λ c. IsNoted shape false c (noted_first course.ideal operation)) (same_Some _ _ (sym (begun_here course actor operation there) ∙ is)) first))

  pub ended_noted : (actor : ℕ) (answer : Option ℕ) → AreNoted shape (gone_on course (End actor answer)) (slice_set notes actor nothing_noted)
  ended_noted actor answer = record {
    rooms = length-set notes actor _ ∙ (are.rooms ∙ sym (length-set course.calls actor None));
    of = λ other call is. elim (cases_eq other actor) [
      | inl here ↦ absurd (none-some call (sym (ended_here course actor answer) ∙ (ap (call_of (gone_on course (End actor answer))) (sym here) ∙ is)))
      | inr differ ↦ beside_it actor false nothing_noted other differ call (sym (ended_other course actor answer other differ) ∙ is)
    ];
  }

  module _ (actor : ℕ) (event : Event) (found : Found) (mine : Call) (there : call_of course actor ≡ Some mine) (midway : Bool) (is_so : has_midway course ≡ midway) (placed : ArePlaced course) (same : course.ideal.guest.shape ≡ shape) (all : List (List ℕ)) (done : AreAllDone course.ideal all)
    where
      abbrev after : Ideal
      after = happened actor event course.ideal

      abbrev gone : Course
      gone = gone_on course (Happens actor event found)

      abbrev here_made : NotedOf
      here_made = noted_made course.ideal all midway mine.operation mine.piece event (noted_of notes actor)

      abbrev all_made : List NotedOf
      all_made = slice_set notes actor here_made

      same_after : after.guest.shape ≡ shape
      same_after = shape_same actor event course.ideal ∙ same

      abbrev its_next : Call
      its_next = seeing after (made course.ideal event found mine)

      mine_next : IsNoted shape (gone.signals actor) its_next (noted_later after (Some mine.operation) (mine.piece ++ (record { event = event; found = found }) ∷ []) here_made)
      mine_next = record {
        signals_is = signals_here course actor (signals_after course actor event) ∙ signals_made course actor event mine midway (noted_of notes actor).signals there is_so (are.of actor mine there).signals_is;
        has = subst (λ op. HasNoted shape (noted_later after (Some mine.operation) (mine.piece ++ (record { event = event; found = found }) ∷ []) here_made) op its_next) (sym (noted_operation course.ideal event mine))
            (own_has shape course.ideal after all event found mine midway (noted_of notes actor) same same_after (placed actor mine there) done (are.of actor mine there).has);
      }

      pub happened_noted : (later : List NotedOf) → length later ≡ length notes → AreLater after gone all_made later → AreNoted shape gone later
      happened_noted later long these = record {
        rooms = long ∙ (are.rooms ∙ calls_long course actor event found);
        of = λ other call is. elim (cases_eq other actor) [
          | inl here ↦ subst Of (sym here) own call is
          | inr differ ↦ aside other differ call is
        ];
      }
        where
          Of : ℕ → Type 0
          Of other = (call : Call) → call_of gone other ≡ Some call → IsNoted shape (gone.signals other) call (noted_of later other)

          here_is : noted_of all_made actor ≡ here_made
          here_is = get_or-set_same notes actor here_made nothing_noted (subst (λ n. actor < n) (sym are.rooms) (some_there course.calls actor mine there))

          own : Of actor
          own call is =
              let next : its_next ≡ call = same_Some _ _ (sym (made_here course actor event found mine there) ∙ is) in
              let noted : noted_of later actor ≡ noted_later after (Some mine.operation) (mine.piece ++ (record { event = event; found = found }) ∷ []) here_made =
              these actor call is
              ∙ (ap (noted_later after (Some call.operation) call.piece) here_is
              ∙ (ap (λ (c : Call). noted_later after (Some c.operation) c.piece here_made) (sym next)
              ∙ (ap (λ op. noted_later after (Some op) its_next.piece here_made) (noted_operation course.ideal event mine)
              ∙ ap (λ p. noted_later after (Some mine.operation) (p ++ (record { event = event; found = found }) ∷ []) here_made) (noted_piece course.ideal event mine)))) in
              subst (λ n. IsNoted shape (gone.signals actor) call n) (sym noted) (subst (λ c. IsNoted shape (gone.signals actor) c (noted_later after (Some mine.operation) (mine.piece ++ (record { event = event; found = found }) ∷ []) here_made)) next mine_next)

          aside : (other : ℕ) → other ≢ actor → Of other
          aside other differ call is =
              let was = mapped_some (seeing after) (call_of course other) call (sym (made_other course actor event found other differ) ∙ is) in
              let before = are.of other was.0 was.1 in
              let noted : noted_of later other ≡ noted_later after (Some was.0.operation) was.0.piece (noted_of notes other) =
              these other call is
              ∙ (ap (noted_later after (Some call.operation) call.piece) (get_or-set_other notes actor other here_made nothing_noted differ)
              ∙ ap (λ (c : Call). noted_later after (Some c.operation) c.piece (noted_of notes other)) (sym was.2)) in
              let so : IsNoted shape (gone.signals other) (seeing after was.0) (noted_later after (Some was.0.operation) was.0.piece (noted_of notes other)) = record {
                signals_is = signals_there course actor other (signals_after course actor event) differ ∙ before.signals_is;
                has = other_has shape after was.0 (noted_of notes other) same_after (placed other was.0 was.1) before.has;
              } in
              subst (λ n. IsNoted shape (gone.signals other) call n) (sym noted) (subst (λ c. IsNoted shape (gone.signals other) c (noted_later after (Some was.0.operation) was.0.piece (noted_of notes other))) was.2 so)
