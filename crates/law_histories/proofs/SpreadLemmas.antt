-- Only a write of GICD_CTLR copies its enables, and it copies them to each interrupt in turn.
use Rattle.std.proofs.Common.{◌≡◌, ℕ, ◌⊎◌, inl, inr, ◌&&◌, not, Bool, true, false, cond, List, [], ◌∷◌, ◌++◌, map, filter, Option, Some, None, refl, sym, ap, ◌∙◌, subst, ◌+◌}
use Rattle.std.proofs.lemmas.Bool.{and_parts}
use Rattle.std.specs.List.{list_all, range_with_len}
use Rattle.std.specs.Option.{option_map_or}
use Rattle.std.proofs.lemmas.List.{map-append}
use Rattle.std.proofs.lemmas.List.Elements.{filter-append}
use Rattle.floor_histories.specs.Words.{Lpi, DeviceOp, Message, Wire, Msi, Frame, Dist, Redist, Its, Ram as Memory, Icc, Mem, GuestShape, interrupt_count}
use Rattle.floor_histories.specs.Registers.{Enables, Half, has_lpis, Cbaser as CbaserReg, Cwriter as CwriterReg, Baser0 as Baser0Reg, Baser1 as Baser1Reg, retries, fault_number, translated}
use Rattle.floor_histories.specs.GicDmap.Map.{decoded as dist_decoded}
use Rattle.floor_histories.specs.GicImap.declared.map.Reg.{Reg as ItsReg}
use Rattle.floor_histories.specs.GicImap.declared.map.Reg.TheVariants.{Ctlr as ItsCtlrReg}
use Rattle.floor_histories.specs.GicImap.declared.map.RegRef.{RegRef as ItsRef}
use Rattle.floor_histories.specs.GicImap.declared.map.RegRef.TheVariants.{Plain as ItsPlain, Reserved as ItsReserved}
use Rattle.floor_histories.specs.GicImap.Map.{decoded as its_decoded}
use Rattle.floor_histories.specs.GicRmap.Map.{decoded as redist_decoded}
use Rattle.floor_histories.specs.ItsCmd.Command.{decoded}
use Rattle.floor_histories.specs.Calls.{Part, Map, Clear as ClearPart, Event, Up, Down, Touch, Reach, Take, Leave, Enable, Cpu, Put, CtlrBegin, CtlrEnd, ItsBegin, Operation, Access, Device, Residence, Place, Done, Stalls, copy_at, ctlr_events, redist_events, its_written, is_in_queue, memory_written, icc_events, its_events, access_events, device_events, takes_turn, lpi_event, queue_event, command_words, command_parts, next_offset, Happened, is_beside, named_of, Beside, Makes, ArePartsThen, IsCommand, AreCommands, IsPlainCall, AreStarted, IsItsCall, IsItsWrite, IsCall, left_by, View, is_its_enabled, Cbaser, words_read}
use Rattle.floor_histories.specs.GicCall.declared.command.Part.TheVariants.{Forget, Retarget, Raise as RaisePart, Configure}
use Rattle.floor_histories.specs.GicCall.declared.event.Event.TheVariants.{Raise, Read, ItsEnd, Queue}
use Rattle.floor_histories.specs.GicCall.Call.{starts_commands}
use Rattle.floor_histories.proofs.GicCall.TraceLemmas.{its_made, access_made, op_made}
use Rattle.law_histories.proofs.QuietLemmas.{is_spread, is_its, is_quiet, none_kept, AreSpreadBy, quiet, spread, dist_by, redist_quiet, memory_quiet, icc_quiet, is_moving}

-- the events of a piece
abbrev pub events_of : List Happened → List Event
events_of piece = map (λ happened. happened.event) piece

-- those of a write of GICD_CTLR
abbrev pub spreads_of : List Happened → List Event
spreads_of piece = filter is_spread (events_of piece)

abbrev is_unspread : Event → Bool
is_unspread event = not (is_spread event)

-- In a piece.

pub spreads_both : (one other : List Happened) → spreads_of (one ++ other) ≡ spreads_of one ++ spreads_of other
spreads_both one other = ap (filter is_spread) (map-append (λ (h : Happened). h.event) one other) ∙ filter-append is_spread (events_of one) (events_of other)

-- reads and moves are none of them
beside_unspread : (actor : Option ℕ) (event : Event) → is_beside actor event ≡ true → is_spread event ≡ false
beside_unspread actor (Read place) h = refl
beside_unspread actor (Reach key vcpu) h = refl
beside_unspread actor (Take key vcpu) h = refl
beside_unspread actor (Leave key vcpu) h = refl
beside_unspread actor (Raise key) h = refl
beside_unspread actor (Up key) h = refl
beside_unspread actor (Down key) h = refl
beside_unspread actor (Enable vcpu) h = refl
beside_unspread actor (Touch key touching) h = absurd (cc)
beside_unspread actor (Cpu vcpu reg write) h = refl
beside_unspread actor (Put word value) h = refl
beside_unspread actor (CtlrBegin enables) h = absurd (cc)
beside_unspread actor CtlrEnd h = absurd (cc)
beside_unspread actor ItsBegin h = refl
beside_unspread actor ItsEnd h = refl
beside_unspread actor (Queue offset change) h = refl

spreads_named : (actor : Option ℕ) (piece : List Happened) → spreads_of piece ≡ spreads_of (named_of actor piece)
spreads_named actor [] = refl
spreads_named actor (one ∷ piece) = of (is_beside actor one.event) refl (spreads_named actor piece)
  where
    of : (b : Bool) → is_beside actor one.event ≡ b → spreads_of piece ≡ spreads_of (named_of actor piece) → spreads_of (one ∷ piece) ≡ spreads_of (cond (not b) (one ∷ named_of actor piece) (named_of actor piece))
    of true h later = ap (λ s. cond s (one.event ∷ spreads_of piece) (spreads_of piece)) (beside_unspread actor one.event h) ∙ later
    of false h later = ap (λ xs. cond (is_spread one.event) (one.event ∷ xs) xs) later

makes_spreads : (actor : Option ℕ) (view : View) (events : List Event) (places : List Place) (before piece : List Happened) → Makes actor view events places before piece → spreads_of piece ≡ filter is_spread events
makes_spreads actor view events places before piece makes = spreads_named actor piece ∙ ap (filter is_spread) makes.events_are

unspread_makes : (actor : Option ℕ) (view : View) (events : List Event) (places : List Place) (before piece : List Happened) → list_all is_unspread events ≡ true → Makes actor view events places before piece → spreads_of piece ≡ []
unspread_makes actor view events places before piece all makes =
    makes_spreads actor view events places before piece makes ∙ none_kept is_spread is_unspread (λ event h. of (is_spread event) h) events all
  where
    of : (b : Bool) → not b ≡ true → b ≡ false
    of true h = absurd (cc)
    of false h = refl

-- quiet events are none of them
unspread_quiet : (events : List Event) → list_all is_quiet events ≡ true → filter is_spread events ≡ []
unspread_quiet events all = none_kept is_spread is_quiet (λ event h. of (is_spread event) (not (is_its event)) (and_parts (not (is_spread event) && not (is_its event)) (not (is_moving event)) h).0) events all
  where
    of : (b c : Bool) → (not b && c) ≡ true → b ≡ false
    of true c h = absurd (cc)
    of false c h = refl

-- The ITS.

unless : (b : Bool) (events : List Event) → list_all is_unspread events ≡ true → list_all is_unspread (cond b [] events) ≡ true
unless true events h = refl
unless false events h = h

when : (b : Bool) (events : List Event) → list_all is_unspread events ≡ true → list_all is_unspread (cond b events []) ≡ true
when true events h = h
when false events h = refl

written_unspread : (view : View) (reg : ItsReg) (half : Half) (value : ℕ) → list_all is_unspread (its_written view reg half value) ≡ true
written_unspread view ItsCtlrReg half value = refl
written_unspread view CbaserReg half value = unless (is_its_enabled view) _ refl
written_unspread view CwriterReg half value =
    when (is_in_queue view _) _ (when (view.is_stalled && retries (view.words Cbaser) _) _ refl)
written_unspread view Baser0Reg half value = unless (is_its_enabled view) _ refl
written_unspread view Baser1Reg half value = unless (is_its_enabled view) _ refl
written_unspread view reg half value = refl

its_unspread : (shape : GuestShape) (view : View) (ref : ItsRef) (write : Option ℕ) → list_all is_unspread (its_events shape view ref write) ≡ true
its_unspread shape view (ItsPlain reg half) (Some value) = when (has_lpis shape) (its_written view reg half value) (written_unspread view reg half value)
its_unspread shape view (ItsPlain reg half) None = refl
its_unspread shape view ItsReserved write = refl

lpi_unspread : (shape : GuestShape) (view : View) (targets : ℕ → Option ℕ) (part : Part) → is_spread (lpi_event shape view targets part) ≡ false
lpi_unspread shape view targets (Forget id) = refl
lpi_unspread shape view targets (Map id target) = refl
lpi_unspread shape view targets (Retarget id target) = refl
lpi_unspread shape view targets (RaisePart id) = refl
lpi_unspread shape view targets (ClearPart id) = refl
lpi_unspread shape view targets (Configure id) = refl

queue_unspread : (shape : GuestShape) (view : View) → is_spread (queue_event shape view) ≡ false
queue_unspread shape view = of (fault_number shape view.maps (decoded (command_words shape view)))
  where
    of : (o : Option ℕ) → is_spread (option_map_or (λ fault. Queue view.offset (Stalls fault)) o (Queue (next_offset view) (Done (command_words shape view)))) ≡ false
    of None = refl
    of (Some fault) = refl

both_none : (one other : List Happened) → spreads_of one ≡ [] → spreads_of other ≡ [] → spreads_of (one ++ other) ≡ []
both_none one other h k = spreads_both one other ∙ ap (λ xs. xs ++ spreads_of other) h ∙ k

unspread_parts :
    (actor : Option ℕ) (shape : GuestShape) (targets : ℕ → Option ℕ) (words : List Happened) (parts : List Part) (Rest : List Happened → Type 0) → ((after : List Happened) → Rest after → spreads_of after ≡ [])
    → (before piece : List Happened) → ArePartsThen actor shape targets words parts Rest before piece → spreads_of piece ≡ []
unspread_parts actor shape targets words [] Rest later before piece is = later piece is
unspread_parts actor shape targets words (part ∷ parts) Rest later before piece is =
    ap spreads_of is.split
    ∙ both_none is.own is.rest
    (unspread_makes actor is.view (lpi_event shape is.view targets part ∷ []) _ before is.own (ap (λ b. not b && true) (lpi_unspread shape is.view targets part)) is.made)
    (unspread_parts actor shape targets words parts Rest later words is.rest is.later)

unspread_command : (actor : Option ℕ) (shape : GuestShape) (view : View) (piece : List Happened) → IsCommand actor shape view piece → spreads_of piece ≡ []
unspread_command actor shape view piece is =
    ap spreads_of is.split
    ∙ both_none is.fetch is.rest (unspread_makes actor view [] _ [] is.fetch refl is.fetched)
    (unspread_parts actor shape view.targets (words_read shape view) (command_parts shape view) (λ after. Makes actor view (queue_event shape view ∷ []) [] [] after)
    (λ after makes. unspread_makes actor view (queue_event shape view ∷ []) [] [] after (ap (λ b. not b && true) (queue_unspread shape view)) makes) is.fetch is.rest is.done)

unspread_commands : (actor : Option ℕ) (shape : GuestShape) (beside : Beside) (number : ℕ) (its : View) (views : List View) (piece : List Happened) → AreCommands actor shape beside number its views piece → spreads_of piece ≡ []
unspread_commands actor shape beside number its [] piece is = unspread_makes actor its [] [] [] piece refl is.0
unspread_commands actor shape beside number its (view ∷ views) piece is =
    ap spreads_of is.split ∙ both_none is.own is.rest (unspread_command actor shape view is.own is.command) (unspread_commands actor shape beside (number + 1) (left_by shape view (queue_event shape view)) views is.rest is.later)

unspread_started : (b : Bool) (actor : Option ℕ) (shape : GuestShape) (beside : Beside) (its : View) (views : List View) (piece : List Happened) → AreStarted b actor shape beside its views piece → spreads_of piece ≡ []
unspread_started true actor shape beside its views piece is = unspread_commands actor shape beside 0 its views piece is
unspread_started false actor shape beside its views piece is = unspread_makes actor its [] [] [] piece refl is

-- Calls.

-- what a call makes of them: none, or all those of one write
abbrev pub SpreadsAre : GuestShape → List Event → Type 0
SpreadsAre shape events = (events ≡ []) ⊎ ((enables : Enables) × (events ≡ ctlr_events shape enables))

copies_kept : (shape : GuestShape) (enables : Enables) (places : List ℕ) → filter is_spread (map (copy_at shape enables) places ++ CtlrEnd ∷ []) ≡ map (copy_at shape enables) places ++ CtlrEnd ∷ []
copies_kept shape enables [] = refl
copies_kept shape enables (place ∷ places) = ap (λ xs. copy_at shape enables place ∷ xs) (copies_kept shape enables places)

spreads_by : (shape : GuestShape) (events : List Event) → AreSpreadBy shape events → SpreadsAre shape (filter is_spread events)
spreads_by shape events (quiet es all) = inl (unspread_quiet es all)
spreads_by shape events (spread enables) = inr (enables, ap (λ xs. CtlrBegin enables ∷ xs) (copies_kept shape enables (range_with_len 0 (interrupt_count shape))))

access_spreads : (shape : GuestShape) (view : View) (frame : Frame) (offset size : ℕ) (write : Option ℕ) → SpreadsAre shape (filter is_spread (access_events shape view frame offset size write))
access_spreads shape view Dist offset size write = spreads_by shape _ (dist_by shape view (dist_decoded offset size) write)
access_spreads shape view (Redist vcpu) offset size write = inl (unspread_quiet (redist_events shape view vcpu (redist_decoded offset size) write) (redist_quiet shape view vcpu (redist_decoded offset size) write))
access_spreads shape view Its offset size write = inl (none_kept is_spread is_unspread (λ event h. of (is_spread event) h) (its_events shape view (its_decoded offset size) write) (its_unspread shape view (its_decoded offset size) write))
  where
    of : (b : Bool) → not b ≡ true → b ≡ false
    of true h = absurd (cc)
    of false h = refl
access_spreads shape view Memory offset size None = inl refl
access_spreads shape view Memory offset size (Some value) = inl (unspread_quiet (memory_written shape view offset size value) (memory_quiet shape view offset size value))

plain_spreads : (shape : GuestShape) (beside : Beside) (vcpu : ℕ) (frame : Frame) (offset size : ℕ) (write : Option ℕ) (piece : List Happened) (answer : Option ℕ) → IsPlainCall shape beside vcpu frame offset size write piece answer → SpreadsAre shape (spreads_of piece)
plain_spreads shape beside vcpu frame offset size write piece answer is =
    subst (SpreadsAre shape) (sym (makes_spreads (Some vcpu) is.view _ _ [] piece (access_made is))) (access_spreads shape is.view frame offset size write)

its_spreads : (shape : GuestShape) (beside : Beside) (vcpu offset size value : ℕ) (piece : List Happened) (answer : Option ℕ) → IsItsCall shape beside vcpu offset size value piece answer → spreads_of piece ≡ []
its_spreads shape beside vcpu offset size value piece answer is =
    ap spreads_of is.split
    ∙ both_none (is.register ++ is.commands) is.last
    (both_none is.register is.commands
    (unspread_makes (Some vcpu) is.view _ _ [] is.register (its_unspread shape is.view (its_decoded offset size) (Some value)) (its_made is))
    (unspread_started (starts_commands shape is.view Its offset size (Some value)) (Some vcpu) shape beside _ is.views is.commands is.started))
    (unspread_makes (Some vcpu) is.view (ItsEnd ∷ []) [] [] is.last refl is.ended)

write_spreads : (b : Bool) (shape : GuestShape) (beside : Beside) (vcpu offset size value : ℕ) (piece : List Happened) (answer : Option ℕ) → IsItsWrite b shape beside vcpu offset size value piece answer → SpreadsAre shape (spreads_of piece)
write_spreads true shape beside vcpu offset size value piece answer is = inl (its_spreads shape beside vcpu offset size value piece answer is)
write_spreads false shape beside vcpu offset size value piece answer is = plain_spreads shape beside vcpu Its offset size (Some value) piece answer is

device_unspread : (view : View) (op : DeviceOp) → list_all is_unspread (device_events view op) ≡ true
device_unspread view (Message spi) = refl
device_unspread view (Wire key true) = refl
device_unspread view (Wire key false) = refl
device_unspread view (Msi device event) = of (translated view.maps (is_its_enabled view) device event)
  where
    of : (o : Option ℕ) → list_all is_unspread (ItsBegin ∷ option_map_or (λ id. Raise (Lpi id) ∷ []) o [] ++ ItsEnd ∷ []) ≡ true
    of None = refl
    of (Some id) = refl

pub call_spreads : (shape : GuestShape) (beside : Beside) (actor : Option ℕ) (operation : Operation) (piece : List Happened) (answer : Option ℕ) → IsCall shape beside actor operation piece answer → SpreadsAre shape (spreads_of piece)
call_spreads shape beside (Some vcpu) (Access (Icc reg write)) piece answer is = inl (makes_spreads (Some vcpu) is.view _ _ [] piece is.made ∙ unspread_quiet (icc_events shape vcpu reg write) (icc_quiet shape vcpu reg write))
call_spreads shape beside (Some vcpu) (Access (Mem Its offset size (Some value))) piece answer is = write_spreads (takes_turn shape (its_decoded offset size) (Some value)) shape beside vcpu offset size value piece answer is
call_spreads shape beside (Some vcpu) (Access (Mem Its offset size None)) piece answer is = plain_spreads shape beside vcpu Its offset size None piece answer is
call_spreads shape beside (Some vcpu) (Access (Mem Dist offset size write)) piece answer is = plain_spreads shape beside vcpu Dist offset size write piece answer is
call_spreads shape beside (Some vcpu) (Access (Mem (Redist other) offset size write)) piece answer is = plain_spreads shape beside vcpu (Redist other) offset size write piece answer is
call_spreads shape beside (Some vcpu) (Access (Mem Memory offset size write)) piece answer is = plain_spreads shape beside vcpu Memory offset size write piece answer is
call_spreads shape beside None (Device op) piece answer is = elim (op_made is) [
  | inl made ↦ inl (unspread_makes None is.view (device_events is.view op) [] [] piece (device_unspread is.view op) made)
  | inr alone ↦ inl (unspread_makes None is.view (Raise (Lpi alone.id) ∷ []) [] [] piece refl alone.raised)
]
call_spreads shape beside (Some vcpu) Residence piece answer is = inl (spreads_named (Some vcpu) piece ∙ ap spreads_of is.0)
call_spreads shape beside None (Access op) piece answer is = absurd is
call_spreads shape beside (Some vcpu) (Device op) piece answer is = absurd is
call_spreads shape beside None Residence piece answer is = absurd is
