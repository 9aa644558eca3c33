-- Each step keeps the maps of the ITS valid, and known to the actor that has the ITS.
use Rattle.std.proofs.Common.{◌≡◌, ◌≢◌, ℕ, ◌<◌, ◌==◌, ◌&&◌, Bool, true, false, cond, ◌⊎◌, inl, inr, IsTrue, List, [], ◌∷◌, ◌++◌, Option, Some, None, Result, Ok, Err, option_map, unwrap_or, refl, sym, ap, subst, ◌∙◌}
use Rattle.std.specs.Option.{option_map_or}
use Rattle.std.proofs.lemmas.Grind.{fold-append}
use Rattle.std.proofs.lemmas.Option.{same_Some}
use Rattle.core_words.specs.Words.{GuestShape, irq_of}
use Rattle.core_words.specs.Registers.{Command, BadCommand, queue_of, CmdFault, IsValid as IsValidMaps, number_of, fault_of, fault_number, Maps}
use Rattle.core_words.specs.ItsCmd.Command.{decoded}
use Rattle.core_words.proofs.ItsTab.AfterLemmas.{kept_valid}
use Rattle.core_words.specs.GicCall.declared.event.Event.TheVariants.{Queue as QueueEvent}
use Rattle.core_words.specs.Calls.{Done, Stalls, maps_by, maps_done, command_words, next_offset, queue_event, View}
use Rattle.port_core.specs.declared.local.Local.{Local}
use Rattle.port_core.specs.declared.local.Phase.TheVariants.{Folding}
use Rattle.port_core.specs.declared.run.Entry.{Entry}
use Rattle.port_core.specs.declared.run.Made.{Made}
use Rattle.port_core.specs.declared.step.CoreStep.{CoreStep}
use Rattle.port_core.specs.declared.step.CoreStep.TheVariants.{Look, Raise, Claim, GiveBack, Release, Poll, Kick, Touch, Want, WireUp, WireDown, EnableLpis, RamLook, RamPut, CtlrTake, CtlrEnd, TurnTake, CommandDone, TurnRelease, Mark, TakeIndex, LineEnter, LineLeave, LineFill, LineClose}
use Rattle.core_words.specs.declared.word_id.WordId.TheVariants.{Irq, Vcpu, Index, Queue, Ctlr, Plain, Line}
use Rattle.port_core.specs.After.{is_settled_by_look, accessed, local_done, local_after}
use Rattle.port_core.specs.Condition.{EndsCommand, IsQueueStep, Meets}
use Rattle.port_core.specs.Effect.{succeeds}
use Rattle.core_words.specs.Forms.{vcpu_of, line_of, is_empty_line}
use Rattle.port_core.specs.Port.{keeps_tables}
use Rattle.port_core.specs.Known.{no_maps, maps_by_step, maps_after, known_maps, known_view}
use Rattle.port_core.specs.Local.{settled, with_shut}
use Rattle.port_core.specs.Run.{CoreState, Takes, IsSound, seat_at, word_in, is_taking}
use Rattle.port_core.specs.Actor.{actor_count}
use Rattle.port_core.proofs.FrameLemmas.{KeepsMaps}
use Rattle.port_core.proofs.StepTies.{number_is}

-- Who has the ITS after a step: whoever had it, but for a step that takes it.

turn_kept : (b : Bool) (done local : Local) → done.turn ≡ local.turn → (cond b done local).turn ≡ local.turn
turn_kept true done local e = e
turn_kept false done local e = refl

-- a step that neither takes the ITS nor gives it back leaves it to whoever has it
turn_same : (shape : GuestShape) (actor : ℕ) (local : Local) (step : CoreStep) (found : ℕ) → is_taking step ≡ false → IsTrue (keeps_tables true step) → (local_after shape actor local step found).turn ≡ local.turn
turn_same shape actor local (Look (Irq key)) found e h =
    turn_kept (is_settled_by_look shape actor (irq_of found)) (record local { cands = settled shape actor key local.cands }) local refl
turn_same shape actor local (Look Queue) found e h = refl
turn_same shape actor local (Look Ctlr) found e h = refl
turn_same shape actor local (Look (Vcpu vcpu)) found e h = refl
turn_same shape actor local (Look (Index vcpu word)) found e h = refl
turn_same shape actor local (Look (Plain index)) found e h = refl
turn_same shape actor local (Look (Line number)) found e h = turn_kept (local.turn && is_empty_line (line_of found)) (with_shut number local) local refl
turn_same shape actor local (Raise key) found e h = refl
turn_same shape actor local (Claim key seen) found e h = turn_kept (succeeds shape actor local (Claim key seen) found) (local_done shape actor local (Claim key seen) found) local refl
turn_same shape actor local (GiveBack key back) found e h = refl
turn_same shape actor local (Release key) found e h = refl
turn_same shape actor local (Poll None write) found e h = refl
turn_same shape actor local (Poll (Some reg) write) found e h = turn_kept (vcpu_of found).kick (record local { phase = Folding }) (accessed reg write local) refl
turn_same shape actor local (Kick vcpu) found e h = refl
turn_same shape actor local (Touch key seen kind) found e h = turn_kept (succeeds shape actor local (Touch key seen kind) found) (local_done shape actor local (Touch key seen kind) found) local refl
turn_same shape actor local (Want key) found e h = refl
turn_same shape actor local (WireUp key) found e h = refl
turn_same shape actor local (WireDown key) found e h = refl
turn_same shape actor local (EnableLpis vcpu) found e h = refl
turn_same shape actor local (RamLook index) found e h = refl
turn_same shape actor local (RamPut index seen value) found e h = turn_kept (succeeds shape actor local (RamPut index seen value) found) local local refl
turn_same shape actor local (CtlrTake seen value) found e h = turn_kept (succeeds shape actor local (CtlrTake seen value) found) (record local { ctlr = true }) local refl
turn_same shape actor local CtlrEnd found e h = refl
turn_same shape actor local (TurnTake seen) found e h = absurd (cc)
turn_same shape actor local (CommandDone offset stalled ending) found e h = refl
turn_same shape actor local TurnRelease found e h = absurd (cc)
turn_same shape actor local (Mark key vcpu) found e h = refl
turn_same shape actor local (TakeIndex word) found e h = refl
turn_same shape actor local (LineEnter line seen) found e h = turn_kept (succeeds shape actor local (LineEnter line seen) found) (local_done shape actor local (LineEnter line seen) found) local refl
turn_same shape actor local (LineLeave line) found e h = refl
turn_same shape actor local (LineFill line device event lpi) found e h =
    turn_kept (succeeds shape actor local (LineFill line device event lpi) found) (local_done shape actor local (LineFill line device event lpi) found) local refl
turn_same shape actor local (LineClose line) found e h = turn_kept ((line_of found).inside == 0) (with_shut line local) local refl

turn_after : (shape : GuestShape) (actor : ℕ) (local : Local) (step : CoreStep) (found : ℕ) → is_taking step ≡ false → IsTrue (local_after shape actor local step found).turn → IsTrue local.turn
turn_after shape actor local TurnRelease found e h = absurd (cc)
turn_after shape actor local step found e h = sym (turn_same shape actor local step found e refl) ∙ h

-- who has the ITS has it still after each other step
pub turn_stays : (shape : GuestShape) (actor : ℕ) (local : Local) (step : CoreStep) (found : ℕ) → IsTrue (keeps_tables true step) → IsTrue local.turn → IsTrue (local_after shape actor local step found).turn
turn_stays shape actor local (TurnTake seen) found keeps h = of (succeeds shape actor local (TurnTake seen) found)
  where
    of : (b : Bool) → IsTrue (cond b (record local { turn = true }) local).turn
    of true = refl
    of false = h
turn_stays shape actor local step found keeps h = turn_same shape actor local step found refl keeps ∙ h

-- The end of a good command keeps the maps valid.

done_valid : (shape : GuestShape) (maps : Maps) (words : List ℕ) → IsValidMaps shape maps → fault_number shape maps (decoded words) ≡ None → IsValidMaps shape (maps_done maps words)
done_valid shape maps words valid h = of (decoded words) h
  where
    none : (o : Option CmdFault) → option_map number_of o ≡ None → o ≡ None
    none None e = refl
    none (Some fault) e = absurd (cc)

    of : (r : Result Command BadCommand) → fault_number shape maps r ≡ None → IsValidMaps shape (maps_by maps r)
    of (Ok command) e = kept_valid shape maps command valid (none (fault_of shape maps command) e)
    of (Err bad) e = absurd (cc)

-- a command that ends well has no fault, and is the one at the place of the queue
no_fault : (shape : GuestShape) (view : View) (offset : ℕ) (words : List ℕ) → queue_event shape view ≡ QueueEvent offset (Done words) → fault_number shape view.maps (decoded words) ≡ None
no_fault shape view offset words h = of (fault_number shape view.maps (decoded (command_words shape view))) refl h
  where
    of : (fault : Option ℕ) → fault_number shape view.maps (decoded (command_words shape view)) ≡ fault
        → option_map_or (λ n. QueueEvent view.offset (Stalls n)) fault (QueueEvent (next_offset view) (Done (command_words shape view))) ≡ QueueEvent offset (Done words) → fault_number shape view.maps (decoded words) ≡ None
    of None e f = let same : command_words shape view ≡ words = cc in subst (λ w. fault_number shape view.maps (decoded w) ≡ None) same e
    of (Some n) e f = absurd (cc)

-- only one actor has the ITS
pub one_has_turn : (shape : GuestShape) (state : CoreState) (a b : ℕ) → IsSound shape state → a < actor_count shape → b < actor_count shape → IsTrue (seat_at state a).local.turn → IsTrue (seat_at state b).local.turn → a ≡ b
one_has_turn shape state a b sound there here h k =
    let turn = (queue_of (word_in shape state Queue)).turn in
    let one : turn ≡ Some a = number_is a turn (sound.ties a Queue there refl ∙ h) in
    let two : turn ≡ Some b = number_is b turn (sound.ties b Queue here refl ∙ k) in
    same_Some a b (sym one ∙ two)

-- What the maps are after a step.

-- only the end of a good command, by the actor that has the ITS, changes them
changing_has : (shape : GuestShape) (actor : ℕ) (local : Local) (own : List Made) (maps : Maps) (step : CoreStep) → Meets shape actor local own step → (maps_by_step maps step ≡ maps) ⊎ IsTrue local.turn
changing_has shape actor local own maps (CommandDone offset stalled (Some words)) meets = inr meets.turn
changing_has shape actor local own maps step meets = inl refl

taking_keeps : (maps : Maps) (step : CoreStep) → is_taking step ≡ true → maps_by_step maps step ≡ maps
taking_keeps maps (TurnTake seen) h = refl
taking_keeps maps step h = absurd (cc)

-- they are valid, where the actor that has the ITS knows them
maps_valid : (shape : GuestShape) (actor : ℕ) (local : Local) (own : List Made) (maps : Maps) (step : CoreStep) → Meets shape actor local own step → (IsTrue local.turn → known_maps own ≡ maps) → IsValidMaps shape maps → IsValidMaps shape (maps_by_step maps step)
maps_valid shape actor local own maps (CommandDone offset stalled (Some words)) meets knows valid = of stalled meets.queue
  where
    ends : {b : Bool} → EndsCommand shape actor own offset b (Some words) → IsValidMaps shape (maps_done maps words)
    ends h = done_valid shape maps words valid (subst (λ m. fault_number shape m (decoded words) ≡ None) (knows meets.turn) (no_fault shape (known_view shape actor own) offset words h.ends))

    of : (b : Bool) → IsQueueStep shape actor own offset b (Some words) → IsValidMaps shape (maps_done maps words)
    of true h = ends h
    of false h = ends h
maps_valid shape actor local own maps step meets knows valid = valid

-- an actor knows the maps as its steps before and this one tell
known_more : (own : List Made) (made : Made) → known_maps (own ++ made ∷ []) ≡ maps_after (known_maps own) made
known_more own made = fold-append maps_after no_maps own (made ∷ [])

-- one that takes the ITS, and one that has it
knows_after : (shape : GuestShape) (state : CoreState) (entry : Entry) → IsSound shape state → Takes shape state entry
    → IsTrue (local_after shape entry.actor (seat_at state entry.actor).local entry.made.step entry.made.found).turn → maps_after (known_maps (seat_at state entry.actor).own) entry.made ≡ maps_by_step state.maps entry.made.step
knows_after shape state entry sound takes h = of (is_taking entry.made.step) refl
  where
    taken : (c : Bool) → succeeds shape entry.actor (seat_at state entry.actor).local entry.made.step entry.made.found ≡ c → is_taking entry.made.step ≡ true → IsTrue (cond c (local_done shape entry.actor (seat_at state entry.actor).local entry.made.step entry.made.found) (seat_at state entry.actor).local).turn
        → unwrap_or (cond {A = Option Maps} c (Some state.maps) None) (maps_by_step (known_maps (seat_at state entry.actor).own) entry.made.step) ≡ maps_by_step state.maps entry.made.step
    taken true e t k = sym (taking_keeps state.maps entry.made.step t)
    taken false e t k = ap (λ m. maps_by_step m entry.made.step) (sound.known entry.actor takes.actor k)

    of : (b : Bool) → is_taking entry.made.step ≡ b → unwrap_or entry.made.tables (maps_by_step (known_maps (seat_at state entry.actor).own) entry.made.step) ≡ maps_by_step state.maps entry.made.step
    of true e =
        ap (λ t. unwrap_or t (maps_by_step (known_maps (seat_at state entry.actor).own) entry.made.step))
        (takes.tables ∙ ap (λ b. cond {A = Option Maps} b (cond (succeeds shape entry.actor (seat_at state entry.actor).local entry.made.step entry.made.found) (Some state.maps) None) None) e)
        ∙ taken (succeeds shape entry.actor (seat_at state entry.actor).local entry.made.step entry.made.found) refl e h
    of false e =
        ap (λ t. unwrap_or t (maps_by_step (known_maps (seat_at state entry.actor).own) entry.made.step))
        (takes.tables ∙ ap (λ b. cond {A = Option Maps} b (cond (succeeds shape entry.actor (seat_at state entry.actor).local entry.made.step entry.made.found) (Some state.maps) None) None) e)
        ∙ ap (λ m. maps_by_step m entry.made.step) (sound.known entry.actor takes.actor (turn_after shape entry.actor (seat_at state entry.actor).local entry.made.step entry.made.found e h))

pub keeps_maps :
    (shape : GuestShape) (state : CoreState) (entry : Entry) → IsSound shape state → Takes shape state entry
    → KeepsMaps shape state entry.actor (record { local = local_after shape entry.actor (seat_at state entry.actor).local entry.made.step entry.made.found; own = (seat_at state entry.actor).own ++ entry.made ∷ [] }) (maps_by_step state.maps entry.made.step)
keeps_maps shape state entry sound takes =
    let seat = seat_at state entry.actor in
    let step = entry.made.step in
    record {
      valid = maps_valid shape entry.actor seat.local seat.own state.maps step takes.meets (sound.known entry.actor takes.actor) sound.maps;
      mine = λ h. known_more seat.own entry.made ∙ knows_after shape state entry sound takes h;
      others = λ other differ there h. sound.known other there h ∙ sym (unchanged other differ there h);
    }
  where
    unchanged : (other : ℕ) → other ≢ entry.actor → other < actor_count shape → IsTrue (seat_at state other).local.turn → maps_by_step state.maps entry.made.step ≡ state.maps
    unchanged other differ there h =
        elim (changing_has shape entry.actor (seat_at state entry.actor).local (seat_at state entry.actor).own state.maps entry.made.step takes.meets) [
          | inl same ↦ same
          | inr mine ↦ absurd (differ (one_has_turn shape state other entry.actor sound there takes.actor h mine))
        ]
