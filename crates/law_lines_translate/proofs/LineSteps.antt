-- Every step keeps what the lines say true.
use Rattle.std.proofs.Common.{◌≡◌, ◌≢◌, ℕ, ◌-◌, ◌^◌, ◌<◌, ◌==◌, ◌&&◌, ◌||◌, ◌⊎◌, inl, inr, true≢false, Bool, true, false, IsTrue, List, [], ◌∷◌, ◌++◌, Option, Some, None, is_some, unwrap_or, if◌then◌else◌, bit_or, refl, sym, ap, subst, ◌∙◌, arith}
use Rattle.std.specs.List.{list_any}
use Rattle.std.specs.Option.{ForSome, option_map_or}
use Rattle.std.proofs.lemmas.Bool.{and_parts, cases_eq, or_cases, eq-eqb, eqb-true, lt-ltb, ne_eqb}
use Rattle.std.proofs.lemmas.Grind.{fold-append}
use Rattle.std.proofs.lemmas.List.{get_or-set_same, get_or-set_other}
use Rattle.std.proofs.lemmas.Option.{none-some, same_Some}
use Rattle.floor_core.specs.Words.{GuestShape, IsShape, has_bit}
use Rattle.floor_core.specs.Registers.{enabled_in, translated}
use Rattle.floor_core.specs.Calls.{ItsCtlr, place_of_plain, plain_count}
use Rattle.floor_core.specs.Core.{Local, Entered, Made, CoreStep, Look, Touch, RamLook, RamPut, TurnTake, CommandDone, TurnRelease, LineEnter, LineLeave, LineFill, LineClose, Line, Plain, Queue, WordId, CanFillNow, CoreState, Meets, Seat, actor_count, after, has_all_shut, has_word, is_empty_line, is_in_line, is_on, is_taking, known, known_maps, known_word, line_count, line_of, local_after, maps_by_step, no_seat, place_of_word, seat_at, since_turn, succeeds, with_shut, word_after, word_in, word_of, IsLineWord, IsSound, IsValid, Takes, entered_line}
use Rattle.floor_core.proofs.PortCore.FrameLemmas.{word_changed}
use Rattle.floor_core.proofs.PortCore.LineLemmas.{empty_is, none_inside}
use Rattle.floor_core.proofs.PortCore.PlaceLemmas.{word_same}
use Rattle.floor_core.proofs.PortCore.StepLemmas.{found_valid, tables_handed, word_there}
use Rattle.floor_core.proofs.PortCore.StepLines.{few_lines}
use Rattle.floor_core.proofs.PortCore.StepMaps.{one_has_turn}
use Rattle.law_lines_translate.specs.Lines.{becomes, changes_one, has_changed, its_ctlr}
use Rattle.law_lines_translate.proofs.LineWords.{IsPairAfter, comes, goes, stays, knew, pair_after, stays_empty}
use Rattle.law_lines_translate.proofs.OwnSteps.{bit_before, either, moves_lines, own_line, line_same, shut_same, turn_was}
use Rattle.law_lines_translate.proofs.SetLemmas.{all_have, all_with, knows_some}

-- the place of GITS_CTLR among the plain words
abbrev pub ctlr_at : GuestShape → ℕ
ctlr_at shape = place_of_plain shape ItsCtlr

-- what is kept, beside words and actors that agree: an actor without the ITS knows no line to be shut, so this needs not be said
pub record IsKept (shape : GuestShape) (state : CoreState) : Type 0 where
  pub lines : (line : ℕ) → IsTrue (has_word shape (Line line)) → let word = line_of (word_in shape state (Line line)) in ForSome word.pair (λ pair. becomes shape state pair ≡ Some word.lpi)
  pub actors : (actor : ℕ) → actor < actor_count shape → ForSome (seat_at state actor).local.line (λ entered. becomes shape state entered.pair ≡ Some entered.lpi)
  pub shut : (actor line : ℕ) → actor < actor_count shape → IsTrue (has_word shape (Line line)) → IsTrue (has_bit (seat_at state actor).local.shut line) → IsTrue (is_empty_line (line_of (word_in shape state (Line line))))
  pub changed : (actor : ℕ) → actor < actor_count shape → IsTrue (seat_at state actor).local.turn → IsTrue (has_changed (seat_at state actor).own) → IsTrue (has_all_shut (seat_at state actor).local)
  -- and the actor with the ITS knows GITS_CTLR where it looked at it since it took that
  pub knows : (actor n : ℕ) → actor < actor_count shape → IsTrue (seat_at state actor).local.turn → known shape actor (since_turn (seat_at state actor).own) (Plain (ctlr_at shape)) ≡ Some n → its_ctlr shape state ≡ n

-- Where all lines are shut, they are clear.

-- nobody is in an empty line
pub nobody : (shape : GuestShape) (state : CoreState) (sound : IsSound shape state) (line : ℕ) → IsTrue (has_word shape (Line line)) → IsTrue (is_empty_line (line_of (word_in shape state (Line line)))) → (actor : ℕ) → actor < actor_count shape → is_in_line line (seat_at state actor).local ≡ false
nobody shape state sound line there empty actor within =
    let word = line_of (word_in shape state (Line line)) in
    sym (sound.ties actor (Line line) within there) ∙ none_inside shape actor word (empty_is word empty).1

module _ (shape : GuestShape) (state : CoreState) (sound : IsSound shape state) (kept : IsKept shape state) (actor : ℕ) (within : actor < actor_count shape) (all : IsTrue (has_all_shut (seat_at state actor).local)) where
  pub all_empty : (line : ℕ) → IsTrue (has_word shape (Line line)) → IsTrue (is_empty_line (line_of (word_in shape state (Line line))))
  all_empty line there = kept.shut actor line within there (all_have (seat_at state actor).local line all (few_lines shape line there))

  pub all_turn : IsTrue (seat_at state actor).local.turn
  all_turn = knows_some (seat_at state actor).local 0 (sound.locals actor within).idle (all_have (seat_at state actor).local 0 all (omega arith))

  pub nobody_anywhere : (other : ℕ) → other < actor_count shape → (entered : Entered) → (seat_at state other).local.line ≡ Some entered → ⊥
  nobody_anywhere other here entered e =
      let there : IsTrue (has_word shape (Line entered.line)) = lt-ltb entered.line (line_count shape) ((sound.locals other here).line entered e).there in
      let in_it : is_in_line entered.line (seat_at state other).local ≡ true = ap (λ o. option_map_or (λ (x : Entered). x.line == entered.line) o false) e ∙ eq-eqb entered.line entered.line refl in
      true≢false (sym in_it ∙ nobody shape state sound entered.line there (all_empty entered.line there) other here)

-- A step.

-- it changes the maps or GITS_CTLR
abbrev moves_maps : CoreStep → Bool
moves_maps (RamPut index seen value) = true
moves_maps (CommandDone offset stalled ending) = true
moves_maps step = false

plain_index : (i j : ℕ) → Plain i ≡ Plain j → i ≡ j
plain_index i j e = cc

pub since_more : (own : List Made) (made : Made) → since_turn (own ++ made ∷ []) ≡ (if is_some made.tables then made ∷ [] else since_turn own ++ made ∷ [])
since_more own made = fold-append (λ kept made. if is_some made.tables then made ∷ [] else kept ++ made ∷ []) [] own (made ∷ [])

known_more : (shape : GuestShape) (actor : ℕ) (own : List Made) (made : Made) (word : WordId) → known shape actor (own ++ made ∷ []) word ≡ (if is_on shape actor word made then Some made.left else known shape actor own word)
known_more shape actor own made word = fold-append (λ last made. if is_on shape actor word made then Some made.left else last) None own (made ∷ [])

-- a step that takes the ITS changes no LPI
taking_quiet : (step : CoreStep) → is_taking step ≡ true → changes_one step ≡ false
taking_quiet (TurnTake seen) h = refl
taking_quiet step h = absurd (true≢false (sym h))

taking_on : (shape : GuestShape) (actor : ℕ) (step : CoreStep) → is_taking step ≡ true → word_of shape actor step ≡ Queue
taking_on shape actor (TurnTake seen) h = refl
taking_on shape actor step h = absurd (true≢false (sym h))

-- all lines stay shut with one more
with_all : (shape : GuestShape) (local : Local) (b : Bool) (line : ℕ) → IsTrue (has_word shape (Line line)) → IsTrue (has_all_shut local) → IsTrue (has_all_shut (if b then with_shut line local else local))
with_all shape local true line there all = eq-eqb (bit_or local.shut (2 ^ line)) (2 ^ 64 - 1) (all_with local.shut line (eqb-true local.shut (2 ^ 64 - 1) all) (few_lines shape line there))
with_all shape local false line there all = all

pub any_more : (test : Made → Bool) (own : List Made) (made : Made) → list_any test (own ++ made ∷ []) ≡ (list_any test own || test made)
any_more test [] made = or_false (test made)
  where
    or_false : (b : Bool) → (b || false) ≡ b
    or_false true = refl
    or_false false = refl
any_more test (first ∷ own) made = ap (λ b. test first || b) (any_more test own made) ∙ or_same (test first) (list_any test own) (test made)
  where
    or_same : (a b c : Bool) → (a || (b || c)) ≡ ((a || b) || c)
    or_same true b c = refl
    or_same false b c = refl

module _ (shape : GuestShape) (good : IsShape shape) (state : CoreState) (actor : ℕ) (made : Made) (sound : IsSound shape state) (takes : Takes shape state (record { actor = actor; made = made })) (kept : IsKept shape state) where
  abbrev later : CoreState
  later = after shape state (record { actor = actor; made = made })

  abbrev local : Local
  local = (seat_at state actor).local

  abbrev own : List Made
  own = (seat_at state actor).own

  abbrev now : Seat
  now = record { local = local_after shape actor (seat_at state actor).local made.step made.found; own = (seat_at state actor).own ++ made ∷ [] }

  here : IsTrue (has_word shape (word_of shape actor made.step))
  here = word_there shape actor made.step good takes.can

  -- its word, and every other one; its actor, and every other one
  at_word : (w : WordId) → IsTrue (has_word shape w) → ((word_of shape actor made.step ≡ w) × (word_in shape later w ≡ made.left)) ⊎ ((word_of shape actor made.step ≢ w) × (word_in shape later w ≡ word_in shape state w))
  at_word w there =
      word_changed shape state.words (word_of shape actor made.step) w made.left (λ v n. ((word_of shape actor made.step ≡ v) × (n ≡ made.left)) ⊎ ((word_of shape actor made.step ≢ v) × (n ≡ word_in shape state v))) good sound.places here there
      (inl (refl, refl)) (λ differ. inr ((λ e. differ (sym e)), refl))

  seat_mine : seat_at later actor ≡ now
  seat_mine = get_or-set_same state.seats actor now no_seat (subst (λ n. actor < n) (sym sound.actors) takes.actor)

  seat_other : (other : ℕ) → other ≢ actor → seat_at later other ≡ seat_at state other
  seat_other other differ = get_or-set_other state.seats actor other now no_seat differ

  -- what it found on a line
  found_line : (line : ℕ) → word_of shape actor made.step ≡ Line line → made.found ≡ word_in shape state (Line line)
  found_line line on = takes.found ∙ ap (word_in shape state) on

  -- The maps and GITS_CTLR change only where all lines are shut.

  abbrev Moving : Type 0
  Moving = IsTrue (has_all_shut local) × (moves_maps made.step ≡ true)

  ctlr_left : (step : CoreStep) → Meets shape actor local own step → word_of shape actor step ≡ Plain (ctlr_at shape) → (word_after shape actor local step made.found ≡ made.found) ⊎ (IsTrue (has_all_shut local) × (moves_maps step ≡ true))
  ctlr_left (Look word) meets on = inl refl
  ctlr_left (RamLook index) meets on = inl refl
  ctlr_left (RamPut index seen value) meets on = inr (meets.lines (eq-eqb index (ctlr_at shape) (plain_index index (ctlr_at shape) on)), refl)
  ctlr_left step meets on = absurd (cc)

  maps_left : (step : CoreStep) → Meets shape actor local own step → (maps_by_step state.maps step ≡ state.maps) ⊎ (IsTrue (has_all_shut local) × (moves_maps step ≡ true))
  maps_left (CommandDone offset stalled ending) meets = inr (meets.lines, refl)
  maps_left step meets = inl refl

  ctlr_there : IsTrue (has_word shape (Plain (ctlr_at shape)))
  ctlr_there = lt-ltb (ctlr_at shape) (plain_count shape) (omega arith)

  ctlr_later : (its_ctlr shape later ≡ its_ctlr shape state) ⊎ Moving
  ctlr_later = elim (at_word (Plain (ctlr_at shape)) ctlr_there) [
    | inr apart ↦ inl apart.1
    | inl on ↦ elim (ctlr_left made.step takes.meets on.0) [ inl same ↦ inl (on.1 ∙ takes.left ∙ same ∙ takes.found ∙ ap (word_in shape state) on.0) | inr moves ↦ inr moves ]
  ]

  steady : ((pair : ℕ × ℕ) → becomes shape later pair ≡ becomes shape state pair) ⊎ Moving
  steady = elim ctlr_later [
    | inr moves ↦ inr moves
    | inl ctlr ↦ elim (maps_left made.step takes.meets) [
      | inr moves ↦ inr moves
      | inl maps ↦ inl (λ pair. ap (λ n. translated later.maps (enabled_in n) pair.0 pair.1) ctlr ∙ ap (λ m. translated m (enabled_in (its_ctlr shape state)) pair.0 pair.1) maps)
    ]
  ]

  moving_apart : (step : CoreStep) (line : ℕ) → moves_maps step ≡ true → word_of shape actor step ≡ Line line → ⊥
  moving_apart (RamPut index seen value) line moves on = absurd (cc)
  moving_apart (CommandDone offset stalled ending) line moves on = absurd (cc)
  moving_apart step line moves on = true≢false (sym moves)

  moving_quiet : (step : CoreStep) → moves_maps step ≡ true → moves_lines step ≡ false
  moving_quiet (RamPut index seen value) moves = refl
  moving_quiet (CommandDone offset stalled ending) moves = refl
  moving_quiet step moves = absurd (true≢false (sym moves))

  -- The messages of lines.

  -- one with which a line is filled becomes its LPI
  fills : (device event lpi : ℕ) → CanFillNow shape actor local own device event lpi → becomes shape state (device, event) ≡ Some lpi
  fills device event lpi can =
      ap (λ m. translated m (enabled_in (its_ctlr shape state)) device event) (sym (sound.known actor takes.actor can.turn))
      ∙ ap (λ n. translated (known_maps own) (enabled_in n) device event) (ctlr_known (known shape actor (since_turn own) (Plain (ctlr_at shape))) refl can.looked) ∙ can.translates
    where
      ctlr_known : (o : Option ℕ) → known shape actor (since_turn own) (Plain (ctlr_at shape)) ≡ o → is_some o ≡ true → its_ctlr shape state ≡ known_word shape actor (since_turn own) (Plain (ctlr_at shape))
      ctlr_known (Some n) e h = kept.knows actor n takes.actor can.turn e ∙ sym (ap (λ o. unwrap_or o 0) e)
      ctlr_known None e h = absurd (true≢false (sym h))

  -- what is found on a line is a line's word
  valid_line : (line : ℕ) → word_of shape actor made.step ≡ Line line → IsLineWord shape made.found
  valid_line line on = subst (λ w. IsValid shape w made.found) on (found_valid shape state (record { actor = actor; made = made }) good sound takes).valid

  abbrev Says : CoreState → ℕ → Type 0
  Says s n = ForSome (line_of n).pair (λ pair. becomes shape s pair ≡ Some (line_of n).lpi)

  says_left : (line : ℕ) → IsTrue (has_word shape (Line line)) → word_of shape actor made.step ≡ Line line → Says state made.left
  says_left line there on pair e =
      subst (λ n. (line_of n).pair ≡ Some pair → becomes shape state pair ≡ Some (line_of n).lpi) (sym takes.left)
      (of (pair_after shape good actor takes.actor local own made.found (valid_line line on) made.step line takes.can takes.meets on)) e
    where
      before : Says state made.found
      before = subst (Says state) (sym (found_line line on)) (kept.lines line there)

      of : IsPairAfter shape actor local own (line_of made.found) (line_of (word_after shape actor local made.step made.found)) → (line_of (word_after shape actor local made.step made.found)).pair ≡ Some pair
          → becomes shape state pair ≡ Some (line_of (word_after shape actor local made.step made.found)).lpi
      of (stays same lpi) e = before pair (sym same ∙ e) ∙ ap Some (sym lpi)
      of (goes none) e = absurd (none-some pair (sym none ∙ e))
      of (comes device event lpi can same is) e =
          let pair_is : (device, event) ≡ pair = same_Some (device, event) pair (sym same ∙ e) in
          subst (λ p. becomes shape state p ≡ Some lpi) pair_is (fills device event lpi can) ∙ ap Some (sym is)

  lines_later : (line : ℕ) → IsTrue (has_word shape (Line line)) → Says later (word_in shape later (Line line))
  lines_later line there = elim steady [
    | inl same ↦ λ pair e. same pair ∙ unmoved pair e
    | inr moving ↦ λ pair e. absurd (none-some pair (sym (ap (λ n. (line_of n).pair) (apart moving.1) ∙ (empty_is (line_of (word_in shape state (Line line))) (all_empty shape state sound kept actor takes.actor moving.0 line there)).0) ∙ e))
  ]
    where
      unmoved : Says state (word_in shape later (Line line))
      unmoved = elim (at_word (Line line) there) [
        | inl on ↦ subst (Says state) (sym on.1) (says_left line there on.0)
        | inr off ↦ subst (Says state) (sym off.1) (kept.lines line there)
      ]

      apart : moves_maps made.step ≡ true → word_in shape later (Line line) ≡ word_in shape state (Line line)
      apart moves = elim (at_word (Line line) there) [ inl on ↦ absurd (moving_apart made.step line moves on.0) | inr off ↦ off.1 ]

  -- The messages with which devices are in lines.

  abbrev Is : CoreState → Entered → Type 0
  Is s entered = becomes shape s entered.pair ≡ Some entered.lpi

  mine_later : (entered : Entered) → (local_after shape actor local made.step made.found).line ≡ Some entered → Is state entered
  mine_later =
      own_line shape actor local made.found (Is state) made.step
      (λ line seen pair step is.
      let on : word_of shape actor made.step ≡ Line line = ap (word_of shape actor) step in
      let there : IsTrue (has_word shape (Line line)) = subst (λ w. IsTrue (has_word shape w)) on here in
      subst (Says state) (sym (found_line line on)) (kept.lines line there) pair is)
      (kept.actors actor takes.actor)

  actors_later : (other : ℕ) → other < actor_count shape → (entered : Entered) → (seat_at later other).local.line ≡ Some entered → Is later entered
  actors_later other within entered e = elim steady [
    | inl same ↦ same entered.pair ∙ unmoved
    | inr moving ↦ absurd (nobody_anywhere shape state sound kept actor takes.actor moving.0 other within entered (was moving.1))
  ]
    where
      unmoved : Is state entered
      unmoved = elim (cases_eq other actor) [
        | inl mine ↦ mine_later entered (sym (ap (λ (s : Seat). s.local.line) (ap (seat_at later) mine ∙ seat_mine)) ∙ e)
        | inr differ ↦ kept.actors other within entered (sym (ap (λ (s : Seat). s.local.line) (seat_other other differ)) ∙ e)
      ]

      was : moves_maps made.step ≡ true → (seat_at state other).local.line ≡ Some entered
      was moves = elim (cases_eq other actor) [
        | inl mine ↦
            ap (λ n. (seat_at state n).local.line) mine ∙ sym (line_same shape actor local made.step made.found (moving_quiet made.step moves)) ∙ sym (ap (λ (s : Seat). s.local.line) (ap (seat_at later) mine ∙ seat_mine)) ∙ e
        | inr differ ↦ sym (ap (λ (s : Seat). s.local.line) (seat_other other differ)) ∙ e
      ]

  -- Lines that are known to be shut.

  abbrev Empty : CoreState → ℕ → Type 0
  Empty s line = IsTrue (is_empty_line (line_of (word_in shape s (Line line))))

  found_empty : (line : ℕ) → word_of shape actor made.step ≡ Line line → Empty state line → IsTrue (is_empty_line (line_of made.found))
  found_empty line on empty = subst (λ n. IsTrue (is_empty_line (line_of n))) (sym (found_line line on)) empty

  left_empty : (line : ℕ) → word_in shape later (Line line) ≡ made.left → IsTrue (is_empty_line (line_of (word_after shape actor local made.step made.found))) → Empty later line
  left_empty line is empty = subst (λ n. IsTrue (is_empty_line (line_of n))) (sym (is ∙ takes.left)) empty

  -- of another actor, which has the ITS: no step of this one fills the line
  other_shut : (other line : ℕ) → other ≢ actor → other < actor_count shape → IsTrue (has_word shape (Line line)) → IsTrue (has_bit (seat_at state other).local.shut line) → Empty later line
  other_shut other line differ within there bit = elim (at_word (Line line) there) [
    | inr off ↦ subst (λ n. IsTrue (is_empty_line (line_of n))) (sym off.1) before
    | inl on ↦ elim (stays_empty shape good actor takes.actor local own made.found (valid_line line on.0) made.step line takes.meets on.0 (found_empty line on.0 before)) [
      | inl turn ↦ absurd (differ (one_has_turn shape state other actor sound within takes.actor (knows_some (seat_at state other).local line (sound.locals other within).idle bit) turn))
      | inr empty ↦ left_empty line on.1 empty
    ]
  ]
    where
      before : Empty state line
      before = kept.shut other line within there bit

  own_shut : (line : ℕ) → IsTrue (has_word shape (Line line)) → IsTrue (has_bit (local_after shape actor local made.step made.found).shut line) → Empty later line
  own_shut line there bit = elim (at_word (Line line) there) [
    | inr off ↦ subst (λ n. IsTrue (is_empty_line (line_of n))) (sym off.1) (kept.shut actor line takes.actor there (bit_before shape actor local made.step made.found line off.0 bit))
    | inl on ↦
        left_empty line on.1
        (knew shape good actor takes.actor local own made.found (valid_line line on.0) made.step line (few_lines shape line there) takes.meets on.0 (λ before. found_empty line on.0 (kept.shut actor line takes.actor there before)) bit)
  ]

  shut_later : (other line : ℕ) → other < actor_count shape → IsTrue (has_word shape (Line line)) → IsTrue (has_bit (seat_at later other).local.shut line) → Empty later line
  shut_later other line within there bit = elim (cases_eq other actor) [
    | inl mine ↦ own_shut line there (subst (λ (s : Seat). IsTrue (has_bit s.local.shut line)) (ap (seat_at later) mine ∙ seat_mine) bit)
    | inr differ ↦ other_shut other line differ within there (subst (λ (s : Seat). IsTrue (has_bit s.local.shut line)) (seat_other other differ) bit)
  ]

  -- Who has changed an LPI.

  -- all lines stay shut while the actor has the ITS
  all_stay : (step : CoreStep) → IsTrue (has_word shape (word_of shape actor step)) → Meets shape actor local own step → IsTrue (has_all_shut local) → IsTrue (local_after shape actor local step made.found).turn → IsTrue (has_all_shut (local_after shape actor local step made.found))
  all_stay (Look (Line number)) there meets all turn = with_all shape local (local.turn && is_empty_line (line_of made.found)) number there all
  all_stay (LineEnter number seen) there meets all turn = either (λ l. has_all_shut l) (succeeds shape actor local (LineEnter number seen) made.found) (entered_line number (line_of made.found) local) local refl ∙ all
  all_stay (LineLeave number) there meets all turn = all
  all_stay (LineFill number device event lpi) there meets all turn = absurd (true≢false (sym all ∙ meets.some_open))
  all_stay (LineClose number) there meets all turn = with_all shape local ((line_of made.found).inside == 0) number there all
  all_stay TurnRelease there meets all turn = absurd (true≢false (sym turn))
  all_stay step there meets all turn = ap (λ n. n == 2 ^ 64 - 1) (shut_same shape actor local step made.found refl) ∙ all

  -- a step that took the ITS
  took : is_some made.tables ≡ true → is_taking made.step ≡ true
  took some = (and_parts (is_taking made.step) (succeeds shape actor local made.step made.found) (sym (tables_handed shape state (record { actor = actor; made = made }) takes) ∙ some)).0

  mine_changed : IsTrue now.local.turn → IsTrue (has_changed now.own) → IsTrue (has_all_shut now.local)
  mine_changed turn changed = of (is_some made.tables) refl (ap (list_any (λ made. changes_one made.step)) (sym (since_more own made)) ∙ changed)
    where
      of : (b : Bool) → is_some made.tables ≡ b → list_any (λ made. changes_one made.step) (if b then made ∷ [] else since_turn own ++ made ∷ []) ≡ true → IsTrue (has_all_shut now.local)
      of true taken h = absurd (true≢false (sym h ∙ ap (λ b. b || false) (taking_quiet made.step (took taken))))
      of false none h = all_stay made.step here takes.meets (before (or_cases (has_changed own) (changes_one made.step) (sym (any_more (λ made. changes_one made.step) (since_turn own) made) ∙ h))) turn
        where
          had : IsTrue local.turn
          had = turn_was shape actor local made.step made.found (sym (tables_handed shape state (record { actor = actor; made = made }) takes) ∙ none) turn

          by_step : (step : CoreStep) → Meets shape actor local own step → changes_one step ≡ true → IsTrue (has_all_shut local)
          by_step (Touch key seen kind) meets e = meets.lines e
          by_step step meets e = absurd (true≢false (sym e))

          before : IsTrue (has_changed own) ⊎ IsTrue (changes_one made.step) → IsTrue (has_all_shut local)
          before (inl was) = kept.changed actor takes.actor had was
          before (inr now) = by_step made.step takes.meets now

  changed_later : (other : ℕ) → other < actor_count shape → IsTrue (seat_at later other).local.turn → IsTrue (has_changed (seat_at later other).own) → IsTrue (has_all_shut (seat_at later other).local)
  changed_later other within turn changed = elim (cases_eq other actor) [
    | inl mine ↦
        (let same = ap (seat_at later) mine ∙ seat_mine in
        subst (λ (s : Seat). IsTrue (has_all_shut s.local)) (sym same) (mine_changed (subst (λ (s : Seat). IsTrue s.local.turn) same turn) (subst (λ (s : Seat). IsTrue (has_changed s.own)) same changed)))
    | inr differ ↦
        (let same = seat_other other differ in
        subst (λ (s : Seat). IsTrue (has_all_shut s.local)) (sym same) (kept.changed other within (subst (λ (s : Seat). IsTrue s.local.turn) same turn) (subst (λ (s : Seat). IsTrue (has_changed s.own)) same changed)))
  ]

  -- What the actor with the ITS knows of GITS_CTLR.

  is_off : (word_of shape actor made.step ≢ Plain (ctlr_at shape)) → is_on shape actor (Plain (ctlr_at shape)) made ≡ false
  is_off apart =
      ne_eqb (place_of_word shape (word_of shape actor made.step)) (place_of_word shape (Plain (ctlr_at shape)))
      (λ e. apart (word_same shape (word_of shape actor made.step) (Plain (ctlr_at shape)) good here ctlr_there e))

  apart : Queue ≡ Plain (ctlr_at shape) → ⊥
  apart e = absurd (cc)

  mine_knows : (n : ℕ) → IsTrue now.local.turn → known shape actor (since_turn now.own) (Plain (ctlr_at shape)) ≡ Some n → its_ctlr shape later ≡ n
  mine_knows n turn e = of (is_some made.tables) refl (ap (λ list. known shape actor list (Plain (ctlr_at shape))) (sym (since_more own made)) ∙ e)
    where
      of : (b : Bool) → is_some made.tables ≡ b → known shape actor (if b then made ∷ [] else since_turn own ++ made ∷ []) (Plain (ctlr_at shape)) ≡ Some n → its_ctlr shape later ≡ n
      of true taken h = absurd (none-some n (sym (ap (λ b. if b then Some made.left else None) (is_off (λ e. apart (sym (taking_on shape actor made.step (took taken)) ∙ e)))) ∙ h))
      of false none h = elim (at_word (Plain (ctlr_at shape)) ctlr_there) [
        | inl on ↦ on.1 ∙ same_Some made.left n (sym (known_now (eq-eqb (place_of_word shape (word_of shape actor made.step)) (place_of_word shape (Plain (ctlr_at shape))) (ap (place_of_word shape) on.0))) ∙ h)
        | inr off ↦ off.1 ∙ kept.knows actor n takes.actor had (sym (known_now (is_off off.0)) ∙ h)
      ]
        where
          had : IsTrue local.turn
          had = turn_was shape actor local made.step made.found (sym (tables_handed shape state (record { actor = actor; made = made }) takes) ∙ none) turn

          known_now : {b : Bool} → is_on shape actor (Plain (ctlr_at shape)) made ≡ b → known shape actor (since_turn own ++ made ∷ []) (Plain (ctlr_at shape)) ≡ (if b then Some made.left else known shape actor (since_turn own) (Plain (ctlr_at shape)))
          known_now e = known_more shape actor (since_turn own) made (Plain (ctlr_at shape)) ∙ ap (λ b. if b then Some made.left else known shape actor (since_turn own) (Plain (ctlr_at shape))) e

  knows_later : (other n : ℕ) → other < actor_count shape → IsTrue (seat_at later other).local.turn → known shape other (since_turn (seat_at later other).own) (Plain (ctlr_at shape)) ≡ Some n → its_ctlr shape later ≡ n
  knows_later other n within turn e = elim (cases_eq other actor) [
    | inl mine ↦
        (let same = ap (seat_at later) mine ∙ seat_mine in
        mine_knows n (subst (λ (s : Seat). IsTrue s.local.turn) same turn) (subst (λ m. known shape m (since_turn now.own) (Plain (ctlr_at shape)) ≡ Some n) mine (subst (λ (s : Seat). known shape other (since_turn s.own) (Plain (ctlr_at shape)) ≡ Some n) same e)))
    | inr differ ↦
        (let same = seat_other other differ in
        let had : IsTrue (seat_at state other).local.turn = subst (λ (s : Seat). IsTrue s.local.turn) same turn in
        elim ctlr_later [
          | inl still ↦ still ∙ kept.knows other n within had (subst (λ (s : Seat). known shape other (since_turn s.own) (Plain (ctlr_at shape)) ≡ Some n) same e)
          | inr moving ↦ absurd (differ (one_has_turn shape state other actor sound within takes.actor had (all_turn shape state sound kept actor takes.actor moving.0)))
        ])
  ]

  pub step_keeps : IsKept shape later
  step_keeps = record { lines = lines_later; actors = actors_later; shut = shut_later; changed = changed_later; knows = knows_later }
