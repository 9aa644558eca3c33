-- Each step keeps words and actors valid, and so does each run.
use Rattle.std.proofs.Common.{◌≡◌, is_some, IfSome, ap, ◌∙◌, ◌&&◌, ◌∙◌, ℕ, nat_lt, not, Bool, true, false, cond, Option, Some, None, IsTrue, List, [], ◌∷◌, ◌++◌, ◌/◌, refl, sym, subst, arith}
use Rattle.std.proofs.lemmas.Bool.{and_parts, and_from, lt-ltb}
use Rattle.core_words.specs.Words.{GuestShape, IsShape, has_interrupt, is_of_vcpu}
use Rattle.core_words.specs.Calls.{plain_count, has_wire}
use Rattle.core_words.specs.Registers.{IsValid as IsValidMaps, Maps}
use Rattle.port_core.specs.declared.local.Local.{Local}
use Rattle.port_core.specs.declared.run.Entry.{Entry}
use Rattle.port_core.specs.declared.run.Made.{Made}
use Rattle.port_core.specs.declared.step.CoreStep.{CoreStep}
use Rattle.port_core.specs.declared.step.CoreStep.TheVariants.{Look, Raise, Claim, GiveBack, Release, Poll, Kick, Touch, Want, WireUp, WireDown, EnableLpis, RamLook, RamPut, CtlrTake, CtlrEnd, TurnTake, CommandDone, TurnRelease, Mark, TakeIndex, LineEnter, LineLeave, LineFill, LineClose}
use Rattle.core_words.specs.declared.word_id.WordId.TheVariants.{Line}
use Rattle.port_core.specs.After.{local_after}
use Rattle.port_core.specs.Effect.{succeeds}
use Rattle.port_core.specs.Known.{maps_by_step}
use Rattle.port_core.specs.Laws.{StepsKeepSound}
use Rattle.port_core.specs.Local.{is_vcpu}
use Rattle.core_words.specs.Place.{has_word, index_bit, index_words}
use Rattle.port_core.specs.Run.{CoreState, Takes, IsRun, IsSound, seat_at, is_taking, after, end_of}
use Rattle.port_core.specs.Step.{is_poll, word_of, CanStep}
use Rattle.port_core.specs.Valid.{IsValid, IsLocal, Ties, CanFind}
use Rattle.port_core.proofs.FrameLemmas.{Keeps, frame}
use Rattle.port_core.proofs.StepLocals.{bit_there}
use Rattle.port_core.proofs.StepMade.{IsMade, StepKeeps, all_three}
use Rattle.port_core.proofs.StepCauses.{keeps_look, keeps_raise, keeps_touch, keeps_want, keeps_wire_up, keeps_wire_down}
use Rattle.port_core.proofs.StepMoves.{keeps_claim, keeps_give_back, keeps_release}
use Rattle.port_core.proofs.StepMaps.{keeps_maps}
use Rattle.port_core.proofs.StepLines.{keeps_line_enter, keeps_line_leave, keeps_line_fill, keeps_line_close}
use Rattle.port_core.proofs.StepShared.{keeps_poll, keeps_kick, keeps_enable, keeps_ram_look, keeps_ram_put, keeps_ctlr_take, keeps_ctlr_end, keeps_turn_take, keeps_command_done, keeps_turn_release, keeps_mark, keeps_take_index}

-- each kind of step keeps its word and its actor valid
step_keeps : (shape : GuestShape) (actor : ℕ) (local : Local) (own : List Made) (step : CoreStep) (found : ℕ) → IsMade shape actor local own step found → StepKeeps shape actor local step found
step_keeps shape actor local own (Look word) found made = keeps_look shape actor local own word found made
step_keeps shape actor local own (Raise key) found made = keeps_raise shape actor local own key found made
step_keeps shape actor local own (Claim key seen) found made = keeps_claim shape actor local own key seen found made
step_keeps shape actor local own (GiveBack key back) found made = keeps_give_back shape actor local own key back found made
step_keeps shape actor local own (Release key) found made = keeps_release shape actor local own key found made
step_keeps shape actor local own (Poll reg write) found made = keeps_poll shape actor local own reg write found made
step_keeps shape actor local own (Kick vcpu) found made = keeps_kick shape actor local own vcpu found made
step_keeps shape actor local own (Touch key seen kind) found made = keeps_touch shape actor local own key seen kind found made
step_keeps shape actor local own (Want key) found made = keeps_want shape actor local own key found made
step_keeps shape actor local own (WireUp key) found made = keeps_wire_up shape actor local own key found made
step_keeps shape actor local own (WireDown key) found made = keeps_wire_down shape actor local own key found made
step_keeps shape actor local own (EnableLpis vcpu) found made = keeps_enable shape actor local own vcpu found made
step_keeps shape actor local own (RamLook index) found made = keeps_ram_look shape actor local own index found made
step_keeps shape actor local own (RamPut index seen value) found made = keeps_ram_put shape actor local own index seen value found made
step_keeps shape actor local own (CtlrTake seen value) found made = keeps_ctlr_take shape actor local own seen value found made
step_keeps shape actor local own CtlrEnd found made = keeps_ctlr_end shape actor local own found made
step_keeps shape actor local own (TurnTake seen) found made = keeps_turn_take shape actor local own seen found made
step_keeps shape actor local own (CommandDone offset stalled ending) found made = keeps_command_done shape actor local own offset stalled ending found made
step_keeps shape actor local own TurnRelease found made = keeps_turn_release shape actor local own found made
step_keeps shape actor local own (Mark key vcpu) found made = keeps_mark shape actor local own key vcpu found made
step_keeps shape actor local own (TakeIndex word) found made = keeps_take_index shape actor local own word found made
step_keeps shape actor local own (LineEnter line seen) found made = keeps_line_enter shape actor local own line seen found made
step_keeps shape actor local own (LineLeave line) found made = keeps_line_leave shape actor local own line found made
step_keeps shape actor local own (LineFill line device event lpi) found made = keeps_line_fill shape actor local own line device event lpi found made
step_keeps shape actor local own (LineClose line) found made = keeps_line_close shape actor local own line found made

-- the word of a step is there
pub word_there : (shape : GuestShape) (actor : ℕ) (step : CoreStep) → IsShape shape → CanStep shape actor step → IsTrue (has_word shape (word_of shape actor step))
word_there shape actor (Look word) is can = can
word_there shape actor (Raise key) is can = can
word_there shape actor (Claim key seen) is can = (all_three (is_vcpu shape actor) (is_of_vcpu actor key) (has_interrupt shape key) can).2
word_there shape actor (GiveBack key back) is can = (and_parts (is_vcpu shape actor) (has_interrupt shape key) can).1
word_there shape actor (Release key) is can = (and_parts (is_vcpu shape actor) (has_interrupt shape key) can).1
word_there shape actor (Poll reg write) is can = (and_parts (is_vcpu shape actor) (is_poll reg write) can).0
word_there shape actor (Kick vcpu) is can = lt-ltb vcpu shape.vcpus can
word_there shape actor (Touch key seen kind) is can = can.there
word_there shape actor (Want key) is can = can
word_there shape actor (WireUp key) is can = (and_parts (has_wire key) (has_interrupt shape key) can).1
word_there shape actor (WireDown key) is can = (and_parts (has_wire key) (has_interrupt shape key) can).1
word_there shape actor (EnableLpis vcpu) is can = lt-ltb vcpu shape.vcpus can
word_there shape actor (RamLook index) is can = lt-ltb index (plain_count shape) can
word_there shape actor (RamPut index seen value) is can = lt-ltb index (plain_count shape) can.0
word_there shape actor (CtlrTake seen value) is can = refl
word_there shape actor CtlrEnd is can = refl
word_there shape actor (TurnTake seen) is can = refl
word_there shape actor (CommandDone offset stalled ending) is can = refl
word_there shape actor TurnRelease is can = refl
word_there shape actor (Mark key vcpu) is can =
    let parts = all_three (nat_lt vcpu shape.vcpus) (is_of_vcpu vcpu key) (has_interrupt shape key) can in
    let bit = bit_there shape key is parts.2 in
    and_from (nat_lt vcpu shape.vcpus) (nat_lt (index_bit shape key / 64) (index_words shape)) parts.0 (lt-ltb (index_bit shape key / 64) (index_words shape) (omega (arith, bit)))
word_there shape actor (TakeIndex word) is can = can
word_there shape actor (LineEnter line seen) is can = (and_parts (not (is_vcpu shape actor)) (has_word shape (Line line)) can).1
word_there shape actor (LineLeave line) is can = (and_parts (not (is_vcpu shape actor)) (has_word shape (Line line)) can).1
word_there shape actor (LineFill line device event lpi) is can = can.there
word_there shape actor (LineClose line) is can = can

-- What a step hands out.

-- the word that it finds is valid, and agrees with its actor
pub found_valid :
    (shape : GuestShape) (state : CoreState) (entry : Entry) → IsShape shape → IsSound shape state → Takes shape state entry → CanFind shape entry.actor (seat_at state entry.actor).local (word_of shape entry.actor entry.made.step) entry.made.found
found_valid shape state entry is sound takes =
    let word = word_of shape entry.actor entry.made.step in
    let has = word_there shape entry.actor entry.made.step is takes.can in
    record {
      valid = subst (IsValid shape word) (sym takes.found) (sound.words word has);
      ties = subst (Ties shape entry.actor (seat_at state entry.actor).local word) (sym takes.found) (sound.ties entry.actor word takes.actor has);
    }

-- what it keeps
pub entry_keeps :
    (shape : GuestShape) (state : CoreState) (entry : Entry) → IsShape shape → IsSound shape state → Takes shape state entry
    → Keeps shape entry.actor (seat_at state entry.actor).local (local_after shape entry.actor (seat_at state entry.actor).local entry.made.step entry.made.found) (word_of shape entry.actor entry.made.step) entry.made.found entry.made.left
entry_keeps shape state entry is sound takes =
    let actor = entry.actor in
    let seat = seat_at state actor in
    let step = entry.made.step in
    subst (Keeps shape actor seat.local (local_after shape actor seat.local step entry.made.found) (word_of shape actor step) entry.made.found) (sym takes.left)
    (step_keeps shape actor seat.local seat.own step entry.made.found
    (record { good = is; there = takes.actor; can = takes.can; meets = takes.meets; find = found_valid shape state entry is sound takes; valid = sound.locals actor takes.actor }))

-- the word that it leaves is valid, and the actor's own state
pub left_valid : (shape : GuestShape) (state : CoreState) (entry : Entry) → IsShape shape → IsSound shape state → Takes shape state entry → IsValid shape (word_of shape entry.actor entry.made.step) entry.made.left
left_valid shape state entry is sound takes = (entry_keeps shape state entry is sound takes).valid

pub local_kept :
    (shape : GuestShape) (state : CoreState) (entry : Entry) → IsShape shape → IsSound shape state → Takes shape state entry → IsLocal shape entry.actor (local_after shape entry.actor (seat_at state entry.actor).local entry.made.step entry.made.found)
local_kept shape state entry is sound takes = (entry_keeps shape state entry is sound takes).local

-- it hands out maps exactly where it takes the ITS, and valid ones
pub tables_handed :
    (shape : GuestShape) (state : CoreState) (entry : Entry) → Takes shape state entry
    → is_some entry.made.tables ≡ (is_taking entry.made.step && succeeds shape entry.actor (seat_at state entry.actor).local entry.made.step entry.made.found)
tables_handed shape state entry takes = ap is_some takes.tables ∙ of (is_taking entry.made.step) (succeeds shape entry.actor (seat_at state entry.actor).local entry.made.step entry.made.found)
  where
    of : (b c : Bool) → is_some (cond {A = Option Maps} b (cond c (Some state.maps) None) None) ≡ (b && c)
    of true true = refl
    of true false = refl
    of false c = refl

pub tables_valid : (shape : GuestShape) (state : CoreState) (entry : Entry) → IsSound shape state → Takes shape state entry → IfSome entry.made.tables (IsValidMaps shape)
tables_valid shape state entry sound takes =
    subst (λ tables. IfSome tables (IsValidMaps shape)) (sym takes.tables) (of (is_taking entry.made.step) (succeeds shape entry.actor (seat_at state entry.actor).local entry.made.step entry.made.found))
  where
    of : (b c : Bool) → IfSome (cond {A = Option Maps} b (cond c (Some state.maps) None) None) (IsValidMaps shape)
    of true true = sound.maps
    of true false = tt
    of false c = tt

-- Every step keeps words and actors valid.
pub steps_sound : StepsKeepSound
steps_sound shape state entry is sound takes =
    let actor = entry.actor in
    let seat = seat_at state actor in
    let step = entry.made.step in
    let word = word_of shape actor step in
    let left = local_after shape actor seat.local step entry.made.found in
    frame shape state actor (record { local = left; own = seat.own ++ entry.made ∷ [] }) word entry.made.left (maps_by_step state.maps step) is sound takes.actor (word_there shape actor step is takes.can)
    (subst (λ n. Keeps shape actor seat.local left word n entry.made.left) takes.found (entry_keeps shape state entry is sound takes)) (keeps_maps shape state entry sound takes)

-- Runs.

-- a run from a sound state ends in one
pub run_sound : (shape : GuestShape) (state : CoreState) (entries : List Entry) → IsShape shape → IsSound shape state → IsRun shape state entries → IsSound shape (end_of shape state entries)
run_sound shape state [] is sound run = sound
run_sound shape state (entry ∷ entries) is sound run = run_sound shape (after shape state entry) entries is (steps_sound shape state entry is sound run.0) run.1
