-- What an actor has read of the next command of the ITS, by its own steps: one step.
use Rattle.std.proofs.Common.{◌≡◌, ℕ, ◌+◌, ◌*◌, ◌/◌, ◌%◌, ◌<◌, ◌==◌, ◌&&◌, ◌||◌, ◌⊎◌, inl, inr, true≢false, Bool, true, false, IsTrue, List, [], ◌∷◌, ◌++◌, fold, Option, Some, None, is_some, if◌then◌else◌, refl, sym, ap, ◌∙◌, subst, arith}
use Rattle.std.specs.List.{list_any, flat_map}
use Rattle.std.specs.Option.{option_map_or}
use Rattle.std.proofs.lemmas.Bool.{cases_eq, cases_Bool, eq-eqb, eqb-true, leb-true, lt-ltb, ne_eqb}
use Rattle.std.proofs.lemmas.Grind.{fold-append}
use Rattle.std.proofs.lemmas.List.{get_or-set_same}
use Rattle.law_serial_is_eager.specs.Words.{GuestShape, IsShape, is_number}
use Rattle.law_serial_is_eager.specs.Registers.{Part, is_within, queue_of, Maps}
use Rattle.law_serial_is_eager.specs.Calls.{Ram, Cbaser, Place, place_of_plain, plain_count, memory_places, queue_address}
use Rattle.law_serial_is_eager.specs.GicCall.declared.event.Place.TheVariants.{Word}
use Rattle.law_serial_is_eager.specs.Histories.{is_memory_at}
use Rattle.law_serial_is_eager.specs.Core.{Entry, Local, Made, CoreStep, Look, RamLook, RamPut, TurnTake, CommandDone, TurnRelease, WordId, Queue, Plain, is_on, known, since_turn, is_look_at, read_after, reading_after, reading_of, local_after, succeeds, word_after, word_of, has_word, place_of_word, CoreState, Seat, no_seat, seat_at, word_in, handed_maps, after, Takes, IsSound}
use Rattle.law_serial_is_eager.proofs.PortCore.PlaceLemmas.{word_same}
use Rattle.law_serial_is_eager.proofs.PortCore.StepLemmas.{steps_sound, word_there}
use Rattle.law_serial_is_eager.proofs.LawCoreIsHistory.KnownSteps.{known_more, left_in, other_in}

-- Where the next command is.

abbrev pub base_place : GuestShape → ℕ
base_place shape = place_of_plain shape Cbaser

abbrev pub queue_at : GuestShape → CoreState → ℕ
queue_at shape state = queue_address (word_in shape state (Plain (base_place shape))) + (queue_of (word_in shape state Queue)).offset

abbrev pub places_at : GuestShape → ℕ → List Place
places_at shape from = flat_map (λ number. memory_places shape (from + 8 * number) 8) (0 ∷ 1 ∷ 2 ∷ 3 ∷ [])

pub base_there : (shape : GuestShape) → IsTrue (has_word shape (Plain (base_place shape)))
base_there shape = lt-ltb (base_place shape) (plain_count shape) (omega arith)

any_both : {X : Type 0} (p : X → Bool) (xs ys : List X) → IsTrue (list_any p (xs ++ ys)) → IsTrue (list_any p xs) ⊎ IsTrue (list_any p ys)
any_both p [] ys h = inr h
any_both p (x ∷ xs) ys h = of (p x) h (any_both p xs ys)
  where
    of : (b : Bool) → IsTrue (b || list_any p (xs ++ ys)) → (IsTrue (list_any p (xs ++ ys)) → IsTrue (list_any p xs) ⊎ IsTrue (list_any p ys)) → IsTrue (b || list_any p xs) ⊎ IsTrue (list_any p ys)
    of true h f = inl refl
    of false h f = f h

-- each of its doublewords is in the memory
one_inside : (shape : GuestShape) (address index : ℕ) → IsTrue (list_any (is_memory_at index) (memory_places shape address 8)) → index < shape.ram / 8
one_inside shape address index h = of (address % 8 == 0) (is_within address 8 shape.ram) refl h
  where
    either : (b : Bool) → IsTrue (b || false) → b ≡ true
    either true h = refl
    either false h = absurd (cc)

    of : (a b : Bool) → is_within address 8 shape.ram ≡ b → IsTrue (list_any (is_memory_at index) (option_map_or (λ part. Word (Ram part.index) ∷ []) (if a && b then Some (let part : Part = record { index = address / 8; shift = 8 * (address % 8); bits = 64 } in part) else None) [])) → index < shape.ram / 8
    of true true e h =
        let same : address / 8 ≡ index = eqb-true (address / 8) index (either (address / 8 == index) h) in
        let within = leb-true (address + 8) shape.ram e in
        omega (arith, same, within)
    of true false e h = absurd (cc)
    of false b e h = absurd (cc)

pub in_memory : (shape : GuestShape) (from index : ℕ) → IsTrue (list_any (is_memory_at index) (places_at shape from)) → index < shape.ram / 8
in_memory shape from index h = all (0 ∷ 1 ∷ 2 ∷ 3 ∷ []) h
  where
    all : (numbers : List ℕ) → IsTrue (list_any (is_memory_at index) (flat_map (λ number. memory_places shape (from + 8 * number) 8) numbers)) → index < shape.ram / 8
    all [] h = absurd (cc)
    all (number ∷ numbers) h = elim (any_both (is_memory_at index) (memory_places shape (from + 8 * number) 8) (flat_map (λ number. memory_places shape (from + 8 * number) 8) numbers) h) [
      | inl here ↦ one_inside shape (from + 8 * number) index here
      | inr later ↦ all numbers later
    ]

-- What is known while an actor has the ITS, where it read with these steps.

pub record IsReading (shape : GuestShape) (actor : ℕ) (state : CoreState) (fetched : Bool) (read : List Made) : Type 0 where
  pub turn : IsTrue (seat_at state actor).local.turn
  pub queue : IsTrue (is_some (known shape actor (since_turn (seat_at state actor).own) Queue))
  pub cbaser : (n : ℕ) → known shape actor (since_turn (seat_at state actor).own) (Plain (base_place shape)) ≡ Some n → word_in shape state (Plain (base_place shape)) ≡ n
  pub looked : IsTrue (list_any (λ made. is_look_at (places_at shape (queue_at shape state)) made.step) read) → fetched ≡ true

-- steps that give the ITS back, and those after which a command is still to be read
abbrev pub is_release : CoreStep → Bool
is_release TurnRelease = true
is_release step = false

abbrev pub is_store : CoreStep → Bool
is_store (RamPut index seen value) = true
is_store (CommandDone offset stalled ending) = true
is_store step = false

abbrev pub is_done : CoreStep → Bool
is_done (CommandDone offset stalled ending) = true
is_done step = false

abbrev pub is_put : CoreStep → Bool
is_put (RamPut index seen value) = true
is_put step = false

read_is : (step : CoreStep) (made : Made) (read : List Made) → is_release step ≡ false → read_after step made read ≡ (if is_store step then Some [] else Some (read ++ made ∷ []))
read_is TurnRelease made read h = absurd (cc)
read_is (RamPut index seen value) made read h = refl
read_is (CommandDone offset stalled ending) made read h = refl
read_is step made read h = refl

abbrev nothing_read : Option (List Made)
nothing_read = Some []

unless : {X : Type 0} (b : Bool) (x y : X) → b ≡ false → (if b then x else y) ≡ y
unless true x y h = absurd (true≢false h)
unless false x y h = refl

released : (step : CoreStep) (made : Made) (read : List Made) → is_release step ≡ true → read_after step made read ≡ None
released TurnRelease made read h = refl
released step made read h = absurd (cc)

since_is : (own : List Made) (made : Made) → since_turn (own ++ made ∷ []) ≡ (if is_some made.tables then made ∷ [] else since_turn own ++ made ∷ [])
since_is own made = fold-append (λ kept made. if is_some made.tables then made ∷ [] else kept ++ made ∷ []) [] own (made ∷ [])

same_some : {X : Type 0} (x y : X) → Some x ≡ Some y → x ≡ y
same_some x y e = cc

never : {X T : Type 0} {x : X} → None ≡ Some x → T
never e = absurd (cc)

-- A step.

module _ (shape : GuestShape) (good : IsShape shape) (state : CoreState) (actor : ℕ) (made : Made) (sound : IsSound shape state) (takes : Takes shape state (record { actor = actor; made = made })) where
  abbrev entry : Entry
  entry = record { actor = actor; made = made }

  abbrev later : CoreState
  later = after shape state (record { actor = actor; made = made })

  abbrev word : WordId
  word = word_of shape actor made.step

  -- a word stays where the step leaves it as it found it
  pub word_stays : (w : WordId) → IsTrue (has_word shape w) → (word_of shape actor made.step ≡ w → made.left ≡ made.found) → word_in shape (after shape state (record { actor = actor; made = made })) w ≡ word_in shape state w
  word_stays w h kept = elim (cases_eq (place_of_word shape w) (place_of_word shape (word_of shape actor made.step))) [
    | inl e ↦
        let on : word_of shape actor made.step ≡ w = sym (word_same shape w (word_of shape actor made.step) good h (word_there shape actor made.step good takes.can) e) in
        ap (word_in shape (after shape state (record { actor = actor; made = made }))) (sym on) ∙ left_in shape state (record { actor = actor; made = made }) good sound takes ∙ kept on ∙ takes.found ∙ ap (word_in shape state) on
    | inr apart ↦ other_in shape state (record { actor = actor; made = made }) good sound takes w apart
  ]

  abbrev local : Local
  local = (seat_at state actor).local

  -- the queue's word
  queue_left : (step : CoreStep) → is_release step ≡ false → is_done step ≡ false → handed_maps shape actor state step made.found ≡ None → word_of shape actor step ≡ Queue → word_after shape actor (seat_at state actor).local step made.found ≡ made.found
  queue_left (Look w) r d handed on = refl
  queue_left (TurnTake seen) r d handed on = unless (succeeds shape actor (seat_at state actor).local (TurnTake seen) made.found) _ made.found (failed (succeeds shape actor (seat_at state actor).local (TurnTake seen) made.found) handed)
    where
      failed : (b : Bool) → (if b then Some state.maps else None) ≡ None → b ≡ false
      failed true h = absurd (cc)
      failed false h = refl
  queue_left step r d handed on = absurd (cc)

  -- and the one that says where the queue is
  base_left : (step : CoreStep) → is_put step ≡ false → word_of shape actor step ≡ Plain (base_place shape) → word_after shape actor (seat_at state actor).local step made.found ≡ made.found
  base_left (Look w) p on = refl
  base_left (RamLook index) p on = refl
  base_left step p on = absurd (cc)

  -- the actor's own
  seat_now : seat_at (after shape state (record { actor = actor; made = made })) actor ≡ (let seat : Seat = record { local = local_after shape actor (seat_at state actor).local made.step made.found; own = (seat_at state actor).own ++ made ∷ [] } in seat)
  seat_now = get_or-set_same state.seats actor _ no_seat (subst (λ n. actor < n) (sym sound.actors) takes.actor)

  taken_turn : (step : CoreStep) (maps : Maps) → handed_maps shape actor state step made.found ≡ Some maps → (local_after shape actor (seat_at state actor).local step made.found).turn ≡ true
  taken_turn (TurnTake seen) maps h = of (succeeds shape actor (seat_at state actor).local (TurnTake seen) made.found) h
    where
      of : (b : Bool) → (if b then Some state.maps else None) ≡ Some maps → (if b then record (seat_at state actor).local { turn = true } else (seat_at state actor).local).turn ≡ true
      of true h = refl
      of false h = absurd (cc)
  taken_turn step maps h = absurd (cc)

  taken_on : (step : CoreStep) (maps : Maps) → handed_maps shape actor state step made.found ≡ Some maps → word_of shape actor step ≡ Queue
  taken_on (TurnTake seen) maps h = refl
  taken_on step maps h = absurd (cc)

  kept_turn : (step : CoreStep) → is_release step ≡ false → handed_maps shape actor state step made.found ≡ None → word_of shape actor step ≡ Queue → (seat_at state actor).local.turn ≡ true → (local_after shape actor (seat_at state actor).local step made.found).turn ≡ true
  kept_turn (Look Queue) r handed on turn = turn
  kept_turn (TurnTake seen) r handed on turn = of (succeeds shape actor (seat_at state actor).local (TurnTake seen) made.found) handed
    where
      of : (b : Bool) → (if b then Some state.maps else None) ≡ None → (if b then record (seat_at state actor).local { turn = true } else (seat_at state actor).local).turn ≡ true
      of true h = refl
      of false h = turn
  kept_turn (CommandDone offset stalled ending) r handed on turn = turn
  kept_turn step r handed on turn = absurd (cc)

  stays_turn : is_release made.step ≡ false → made.tables ≡ None → (seat_at state actor).local.turn ≡ true → (seat_at (after shape state (record { actor = actor; made = made })) actor).local.turn ≡ true
  stays_turn r none turn = elim (cases_eq (place_of_word shape Queue) (place_of_word shape (word_of shape actor made.step))) [
    | inl e ↦
        let on : word_of shape actor made.step ≡ Queue = sym (word_same shape Queue (word_of shape actor made.step) good refl (word_there shape actor made.step good takes.can) e) in
        ap (λ (s : Seat). s.local.turn) seat_now ∙ kept_turn made.step r (sym takes.tables ∙ none) on turn
    | inr apart ↦
        let next = steps_sound shape state (record { actor = actor; made = made }) good sound takes in
        sym (next.ties actor Queue takes.actor refl) ∙ ap (λ n. is_number actor (queue_of n).turn) (other_in shape state (record { actor = actor; made = made }) good sound takes Queue apart) ∙ sound.ties actor Queue takes.actor refl ∙ turn
  ]

  -- what it knows since it took the ITS
  own_since : made.tables ≡ None → since_turn (seat_at (after shape state (record { actor = actor; made = made })) actor).own ≡ since_turn (seat_at state actor).own ++ made ∷ []
  own_since none = ap (λ (s : Seat). since_turn s.own) seat_now ∙ since_is (seat_at state actor).own made ∙ ap (λ o. if is_some o then made ∷ [] else since_turn (seat_at state actor).own ++ made ∷ []) none

  known_next : made.tables ≡ None → (w : WordId) → known shape actor (since_turn (seat_at (after shape state (record { actor = actor; made = made })) actor).own) w ≡ (if is_on shape actor w made then Some made.left else known shape actor (since_turn (seat_at state actor).own) w)
  known_next none w = ap (λ own. known shape actor own w) (own_since none) ∙ known_more shape actor (since_turn (seat_at state actor).own) made w

  queue_next : made.tables ≡ None → IsTrue (is_some (known shape actor (since_turn (seat_at state actor).own) Queue)) → IsTrue (is_some (known shape actor (since_turn (seat_at (after shape state (record { actor = actor; made = made })) actor).own) Queue))
  queue_next none before = ap is_some (known_next none Queue) ∙ of (is_on shape actor Queue made)
    where
      of : (b : Bool) → is_some (if b then Some made.left else known shape actor (since_turn (seat_at state actor).own) Queue) ≡ true
      of true = refl
      of false = before

  cbaser_next : made.tables ≡ None → ((n : ℕ) → known shape actor (since_turn (seat_at state actor).own) (Plain (base_place shape)) ≡ Some n → word_in shape state (Plain (base_place shape)) ≡ n)
      → (n : ℕ) → known shape actor (since_turn (seat_at (after shape state (record { actor = actor; made = made })) actor).own) (Plain (base_place shape)) ≡ Some n → word_in shape (after shape state (record { actor = actor; made = made })) (Plain (base_place shape)) ≡ n
  cbaser_next none before n e = elim (cases_eq (place_of_word shape (Plain (base_place shape))) (place_of_word shape (word_of shape actor made.step))) [
    | inl same ↦
        let on : Plain (base_place shape) ≡ word_of shape actor made.step = word_same shape (Plain (base_place shape)) (word_of shape actor made.step) good (base_there shape) (word_there shape actor made.step good takes.can) same in
        ap (word_in shape (after shape state (record { actor = actor; made = made }))) on ∙ left_in shape state (record { actor = actor; made = made }) good sound takes
        ∙ same_some made.left n
        (sym (ap (λ b. if b then Some made.left else known shape actor (since_turn (seat_at state actor).own) (Plain (base_place shape))) (eq-eqb (place_of_word shape (word_of shape actor made.step)) (place_of_word shape (Plain (base_place shape))) (sym same)))
        ∙ sym (known_next none (Plain (base_place shape))) ∙ e)
    | inr apart ↦
        other_in shape state (record { actor = actor; made = made }) good sound takes (Plain (base_place shape)) apart
        ∙ before n
        (sym (ap (λ b. if b then Some made.left else known shape actor (since_turn (seat_at state actor).own) (Plain (base_place shape))) (ne_eqb (place_of_word shape (word_of shape actor made.step)) (place_of_word shape (Plain (base_place shape))) (λ e. apart (sym e))))
        ∙ sym (known_next none (Plain (base_place shape))) ∙ e)
  ]

  -- it takes the ITS
  taken_reading : (fetched : Bool) (maps : Maps) → made.tables ≡ Some maps → IsReading shape actor (after shape state (record { actor = actor; made = made })) fetched []
  taken_reading fetched maps handed =
      let tables = sym takes.tables ∙ handed in
      let on = taken_on made.step maps tables in
      let since : since_turn (seat_at (after shape state (record { actor = actor; made = made })) actor).own ≡ made ∷ [] =
      ap (λ (s : Seat). since_turn s.own) seat_now ∙ since_is (seat_at state actor).own made ∙ ap (λ o. if is_some o then made ∷ [] else since_turn (seat_at state actor).own ++ made ∷ []) handed in
      record {
        turn = ap (λ (s : Seat). s.local.turn) seat_now ∙ taken_turn made.step maps tables;
        queue =
            ap (λ own. is_some (known shape actor own Queue)) since
            ∙ ap (λ b. is_some (if b then Some made.left else None)) (eq-eqb (place_of_word shape (word_of shape actor made.step)) (place_of_word shape Queue) (ap (place_of_word shape) on));
        cbaser = λ n e.
            never
            (sym (ap (λ b. if b then Some made.left else None) (ne_eqb (place_of_word shape (word_of shape actor made.step)) (place_of_word shape (Plain (base_place shape))) (λ same. apart (sym (ap (place_of_word shape) on) ∙ same))))
            ∙ sym (ap (λ own. known shape actor own (Plain (base_place shape))) since) ∙ e);
        looked = λ h. absurd (cc);
      }
    where
      apart : place_of_word shape Queue ≡ place_of_word shape (Plain (base_place shape)) → ⊥
      apart e = omega (arith, e)

  -- it goes on
  module _ (fetched now : Bool) (keeps : is_done made.step ≡ false → fetched ≡ true → now ≡ true) (looks : (index : ℕ) → made.step ≡ RamLook index → IsTrue (list_any (is_memory_at index) (places_at shape (queue_at shape state))) → (seat_at state actor).local.turn ≡ true → now ≡ true) where
    going_reading : (read : List Made) → made.tables ≡ None → is_release made.step ≡ false → IsReading shape actor state fetched read → (if is_store made.step then Some [] else Some (read ++ made ∷ [])) ≡ Some [] → IsReading shape actor (after shape state (record { actor = actor; made = made })) now []
    going_reading read none r before e = record { turn = stays_turn r none before.turn; queue = queue_next none before.queue; cbaser = cbaser_next none before.cbaser; looked = λ h. absurd (cc) }

    none_stored : (step : CoreStep) → is_store step ≡ false → (is_done step ≡ false) × (is_put step ≡ false)
    none_stored (RamPut index seen value) h = absurd (cc)
    none_stored (CommandDone offset stalled ending) h = absurd (cc)
    none_stored step h = (refl, refl)

    look_is : (step : CoreStep) (places : List Place) → IsTrue (is_look_at places step) → (index : ℕ) × ((step ≡ RamLook index) × IsTrue (list_any (is_memory_at index) places))
    look_is (RamLook index) places h = (index, (refl, h))
    look_is step places h = absurd (cc)

    more_reading : (read : List Made) → made.tables ≡ None → is_release made.step ≡ false → is_store made.step ≡ false → IsReading shape actor state fetched read → IsReading shape actor (after shape state (record { actor = actor; made = made })) now (read ++ made ∷ [])
    more_reading read none r s before =
        let plain = none_stored made.step s in
        let queue : word_in shape (after shape state (record { actor = actor; made = made })) Queue ≡ word_in shape state Queue = word_stays Queue refl (λ on. takes.left ∙ queue_left made.step r plain.0 (sym takes.tables ∙ none) on) in
        let base : word_in shape (after shape state (record { actor = actor; made = made })) (Plain (base_place shape)) ≡ word_in shape state (Plain (base_place shape)) = word_stays (Plain (base_place shape)) (base_there shape) (λ on. takes.left ∙ base_left made.step plain.1 on) in
        let at : queue_at shape (after shape state (record { actor = actor; made = made })) ≡ queue_at shape state = ap (λ n. queue_address n + (queue_of (word_in shape (after shape state (record { actor = actor; made = made })) Queue)).offset) base ∙ ap (λ n. queue_address (word_in shape state (Plain (base_place shape))) + (queue_of n).offset) queue in
        record {
          turn = stays_turn r none before.turn;
          queue = queue_next none before.queue;
          cbaser = cbaser_next none before.cbaser;
          looked = λ h.
              elim (any_both (λ made. is_look_at (places_at shape (queue_at shape state)) made.step) read (made ∷ []) (subst (λ from. IsTrue (list_any (λ made. is_look_at (places_at shape from) made.step) (read ++ made ∷ []))) at h)) [
                | inl early ↦ keeps plain.0 (before.looked early)
                | inr last ↦ (let look = look_is made.step (places_at shape (queue_at shape state)) (only (is_look_at (places_at shape (queue_at shape state)) made.step) last) in looks look.0 look.1.0 look.1.1 before.turn)
              ];
        }
      where
        only : (b : Bool) → IsTrue (b || false) → IsTrue b
        only true h = refl
        only false h = absurd (cc)

    -- whichever step it is
    pub own_reading : ((read : List Made) → reading_of (seat_at state actor).own ≡ Some read → IsReading shape actor state fetched read)
        → (read : List Made) → reading_of (seat_at (after shape state (record { actor = actor; made = made })) actor).own ≡ Some read → IsReading shape actor (after shape state (record { actor = actor; made = made })) now read
    own_reading before read is = by_tables made.tables refl (reading_of (seat_at state actor).own) refl (sym (ap (λ (s : Seat). reading_of s.own) seat_now ∙ fold-append reading_after None (seat_at state actor).own (made ∷ [])) ∙ is)
      where
        by_tables : (o : Option Maps) → made.tables ≡ o → (r : Option (List Made)) → reading_of (seat_at state actor).own ≡ r → reading_after r made ≡ Some read → IsReading shape actor (after shape state (record { actor = actor; made = made })) now read
        by_tables (Some maps) t None r e = subst (IsReading shape actor (after shape state (record { actor = actor; made = made })) now) (same_some [] read (sym (ap (λ o. if is_some o then nothing_read else None) t) ∙ e)) (taken_reading now maps t)
        by_tables (Some maps) t (Some early) r e =
            subst (IsReading shape actor (after shape state (record { actor = actor; made = made })) now) (same_some [] read (sym (ap (λ o. if is_some o then nothing_read else read_after made.step made early) t) ∙ e)) (taken_reading now maps t)
        by_tables None t None r e = never (sym (ap (λ o. if is_some o then nothing_read else None) t) ∙ e)
        by_tables None t (Some early) r e = by_step (sym (ap (λ o. if is_some o then nothing_read else read_after made.step made early) t) ∙ e)
          where
            by_step : read_after made.step made early ≡ Some read → IsReading shape actor (after shape state (record { actor = actor; made = made })) now read
            by_step e = elim (cases_Bool (is_release made.step)) [
              | inl gone ↦ never (sym (released made.step made early gone) ∙ e)
              | inr stays ↦
                  elim (cases_Bool (is_store made.step)) [
                    | inl stored ↦
                        let nothing = sym (ap (λ b. if b then nothing_read else Some (early ++ made ∷ [])) stored) in
                        subst (IsReading shape actor (after shape state (record { actor = actor; made = made })) now) (same_some [] read (nothing ∙ sym (read_is made.step made early stays) ∙ e)) (going_reading early t stays (before early r) (sym nothing))
                    | inr plain ↦
                        subst (IsReading shape actor (after shape state (record { actor = actor; made = made })) now) (same_some (early ++ made ∷ []) read (sym (ap (λ b. if b then nothing_read else Some (early ++ made ∷ [])) plain) ∙ sym (read_is made.step made early stays) ∙ e))
                        (more_reading early t stays plain (before early r))
                  ]
            ]
