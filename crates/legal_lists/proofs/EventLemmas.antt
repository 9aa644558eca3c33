-- The events of each operation, by the interrupts that they are of.
use Rattle.std.proofs.Common.{◌≡◌, ℕ, zero, suc, ◌+◌, ◌≤◌, ◌&&◌, ◌||◌, not, nat_le, Bool, true, false, cond, List, [], ◌∷◌, ◌++◌, filter_map, Option, Some, None, is_none, refl, sym, ap, ◌∙◌, arith, le-leb}
use Rattle.std.specs.List.{list_all, cons_option, range_with_len}
use Rattle.std.specs.Option.{option_map_or}
use Rattle.std.proofs.lemmas.Bool.{and_parts, and_from}
use Rattle.std.proofs.lemmas.List.{map-append}
use Rattle.std.proofs.lemmas.List.Folds.{list_all-append}
use Rattle.law_histories.specs.Words.{Key, Lpi, Spi, SetPending, Dist, Ram as Memory, GuestShape, has_interrupt, is_number}
use Rattle.law_histories.specs.Registers.{has_lpis, Half, Router, Propbaser as PropbaserReg, Pendbaser as PendbaserReg, Cbaser as CbaserReg, Cwriter as CwriterReg, Baser0 as Baser0Reg, Baser1 as Baser1Reg, retries, part_of, inserted, fault_number}
use Rattle.law_histories.specs.GicDmap.declared.map.Reg.{Reg as DistReg}
use Rattle.law_histories.specs.GicDmap.declared.map.RegRef.{RegRef as DistRef}
use Rattle.law_histories.specs.GicDmap.declared.map.RegRef.TheVariants.{Bits as DistBits, Plain as DistPlain, Reserved as DistReserved}
use Rattle.law_histories.specs.GicDmap.Map.{decoded as dist_decoded}
use Rattle.law_histories.specs.GicRmap.declared.map.Reg.{Reg as RedistReg}
use Rattle.law_histories.specs.GicRmap.declared.map.Reg.TheVariants.{Ctlr as RedistCtlr}
use Rattle.law_histories.specs.GicRmap.declared.map.RegRef.{RegRef as RedistRef}
use Rattle.law_histories.specs.GicRmap.declared.map.RegRef.TheVariants.{Bits as RedistBits, Plain as RedistPlain, Reserved as RedistReserved}
use Rattle.law_histories.specs.GicImap.declared.map.Reg.{Reg as ItsReg}
use Rattle.law_histories.specs.GicImap.declared.map.Reg.TheVariants.{Ctlr as ItsCtlrReg}
use Rattle.law_histories.specs.GicImap.declared.map.RegRef.{RegRef as ItsRef}
use Rattle.law_histories.specs.GicImap.declared.map.RegRef.TheVariants.{Plain as ItsPlain, Reserved as ItsReserved}
use Rattle.law_histories.specs.ItsCmd.Command.{decoded}
use Rattle.law_histories.specs.Calls.{Part, Map, Clear as ClearPart, Event, Touch, Put, Register, Ram, Pendbaser, Cbaser, Place, Stalls, Done, dist_plain, dist_events, redist_written, redist_events, sets_lpis, enable_events, pended_at, is_table_zero, is_in_table, its_written, is_in_queue, its_events, access_events, lpi_event, queue_event, command_words, command_parts, next_offset, View, is_its_enabled, Happened, Makes, ArePartsThen, IsCommand, AreCommands, AreStarted, Beside, left_by, words_read}
use Rattle.law_histories.specs.GicCall.declared.command.Part.TheVariants.{Forget, Retarget, Raise as RaisePart, Configure}
use Rattle.law_histories.specs.GicCall.declared.event.Event.TheVariants.{Queue}
use Rattle.law_histories.proofs.SpreadLemmas.{events_of}
use Rattle.law_histories.specs.Histories.{key_in, lpi_in}
use Rattle.legal_lists.specs.Legal.{unseen, keys_of, gives_back}
use Rattle.legal_lists.proofs.KeyLemmas.{is_rising, is_held, is_for_lpi, keys_named, held_named}

-- What a piece makes.

pub made_keys : (actor : Option ℕ) (view : View) (events : List Event) (places : List Place) (before piece : List Happened) → Makes actor view events places before piece → keys_of (events_of piece) ≡ keys_of events
made_keys actor view events places before piece makes = keys_named actor piece ∙ ap keys_of makes.events_are

pub made_held : (actor : Option ℕ) (view : View) (events : List Event) (places : List Place) (before piece : List Happened) → Makes actor view events places before piece → list_all is_held events ≡ true → list_all is_held (events_of piece) ≡ true
made_held actor view events places before piece makes all = held_named actor piece (ap (list_all is_held) makes.events_are ∙ all)

-- Accesses whose events come in a fixed order: of which interrupts they are does not depend on what they find.

spi_keys : (b : Bool) (key : Key) (one other : Event) → keys_of (one ∷ []) ≡ keys_of (other ∷ []) → keys_of (cond b (one ∷ []) []) ≡ keys_of (cond b (other ∷ []) [])
spi_keys true key one other h = h
spi_keys false key one other h = refl

dist_plain_keys : (shape : GuestShape) (view : View) (reg : DistReg) (half : Half) (write : Option ℕ) → keys_of (dist_plain shape view reg half write) ≡ keys_of (dist_plain shape unseen reg half write)
dist_plain_keys shape view (Router id) half write = spi_keys (has_interrupt shape (Spi id)) (Spi id) _ _ refl
dist_plain_keys shape view reg half None = refl
dist_plain_keys shape view reg half (Some value) = refl

dist_keys : (shape : GuestShape) (view : View) (ref : DistRef) (write : Option ℕ) → keys_of (dist_events shape view ref write) ≡ keys_of (dist_events shape unseen ref write)
dist_keys shape view (DistBits kind first count) write = refl
dist_keys shape view (DistPlain reg half) write = dist_plain_keys shape view reg half write
dist_keys shape view DistReserved write = refl

unless_none : (b : Bool) (events : List Event) → keys_of events ≡ [] → keys_of (cond b [] events) ≡ []
unless_none true events h = refl
unless_none false events h = h

when_none : (b : Bool) (events : List Event) → keys_of events ≡ [] → keys_of (cond b events []) ≡ []
when_none true events h = h
when_none false events h = refl

redist_plain_keys : (shape : GuestShape) (view : View) (vcpu : ℕ) (reg : RedistReg) (half : Half) (value : ℕ) → sets_lpis shape (RedistPlain reg half) (Some value) ≡ false
    → keys_of (redist_written shape view vcpu reg half value) ≡ keys_of (redist_written shape unseen vcpu reg half value)
redist_plain_keys shape view vcpu RedistCtlr half value h =
    ap (λ b. keys_of (cond b (enable_events shape view vcpu) [])) h ∙ sym (ap (λ b. keys_of (cond b (enable_events shape unseen vcpu) [])) h)
redist_plain_keys shape view vcpu PropbaserReg half value h = unless_none (view.lpis vcpu) _ refl
redist_plain_keys shape view vcpu PendbaserReg half value h = unless_none (view.lpis vcpu) _ refl
redist_plain_keys shape view vcpu reg half value h = refl

pub redist_keys : (shape : GuestShape) (view : View) (vcpu : ℕ) (ref : RedistRef) (write : Option ℕ) → sets_lpis shape ref write ≡ false → keys_of (redist_events shape view vcpu ref write) ≡ keys_of (redist_events shape unseen vcpu ref write)
redist_keys shape view vcpu (RedistBits kind first count) write h = refl
redist_keys shape view vcpu (RedistPlain reg half) (Some value) h = redist_plain_keys shape view vcpu reg half value h
redist_keys shape view vcpu (RedistPlain reg half) None h = refl
redist_keys shape view vcpu RedistReserved write h = refl

pub dist_access_keys : (shape : GuestShape) (view : View) (offset size : ℕ) (write : Option ℕ) → keys_of (access_events shape view Dist offset size write) ≡ keys_of (access_events shape unseen Dist offset size write)
dist_access_keys shape view offset size write = dist_keys shape view (dist_decoded offset size) write

-- Accesses that make no event of an interrupt.

pub memory_keys : (shape : GuestShape) (view : View) (offset size : ℕ) (write : Option ℕ) → keys_of (access_events shape view Memory offset size write) ≡ []
memory_keys shape view offset size None = refl
memory_keys shape view offset size (Some value) = of (part_of offset size shape.ram)
  where
    of : (o : Option _) → keys_of (option_map_or (λ part. Put (Ram part.index) (inserted (view.words (Ram part.index)) part value) ∷ []) o []) ≡ []
    of None = refl
    of (Some part) = refl

-- events of no interrupt, of which none gives the ITS back
abbrev pub is_bare : Event → Bool
is_bare event = not (gives_back event) && is_none (key_in event)

bare_key : (event : Event) → is_bare event ≡ true → key_in event ≡ None
bare_key event h = of (key_in event) refl (and_parts (not (gives_back event)) (is_none (key_in event)) h).1
  where
    of : (o : Option Key) → key_in event ≡ o → is_none o ≡ true → key_in event ≡ None
    of None e h = e
    of (Some key) e h = absurd (cc)

pub bare_keys : (events : List Event) → list_all is_bare events ≡ true → keys_of events ≡ []
bare_keys [] h = refl
bare_keys (event ∷ events) h =
    let both = and_parts (is_bare event) (list_all is_bare events) h in
    ap (λ o. cons_option o (keys_of events)) (bare_key event both.0) ∙ bare_keys events both.1

pub bare_held : (events : List Event) → list_all is_bare events ≡ true → list_all is_held events ≡ true
bare_held [] h = refl
bare_held (event ∷ events) h =
    let both = and_parts (is_bare event) (list_all is_bare events) h in
    and_from (is_held event) (list_all is_held events)
    (and_from (not (gives_back event)) (is_for_lpi event) (and_parts (not (gives_back event)) (is_none (key_in event)) both.0).0 (lpi_or_none event (key_in event) refl (bare_key event both.0)))
    (bare_held events both.1)
  where
    lpi_or_none : (event : Event) (o : Option Key) → key_in event ≡ o → key_in event ≡ None → is_for_lpi event ≡ true
    lpi_or_none event o e none = ap (λ o. option_map_or (λ key. option_map_or (λ id. true) (lpi_in key) false) o true) none

unless_bare : (b : Bool) (events : List Event) → list_all is_bare events ≡ true → list_all is_bare (cond b [] events) ≡ true
unless_bare true events h = refl
unless_bare false events h = h

when_bare : (b : Bool) (events : List Event) → list_all is_bare events ≡ true → list_all is_bare (cond b events []) ≡ true
when_bare true events h = h
when_bare false events h = refl

written_bare : (view : View) (reg : ItsReg) (half : Half) (value : ℕ) → list_all is_bare (its_written view reg half value) ≡ true
written_bare view ItsCtlrReg half value = refl
written_bare view CbaserReg half value = unless_bare (is_its_enabled view) _ refl
written_bare view CwriterReg half value = when_bare (is_in_queue view _) _ (when_bare (view.is_stalled && retries (view.words Cbaser) _) _ refl)
written_bare view Baser0Reg half value = unless_bare (is_its_enabled view) _ refl
written_bare view Baser1Reg half value = unless_bare (is_its_enabled view) _ refl
written_bare view reg half value = refl

pub its_bare : (shape : GuestShape) (view : View) (ref : ItsRef) (write : Option ℕ) → list_all is_bare (its_events shape view ref write) ≡ true
its_bare shape view (ItsPlain reg half) (Some value) = when_bare (has_lpis shape) (its_written view reg half value) (written_bare view reg half value)
its_bare shape view (ItsPlain reg half) None = refl
its_bare shape view ItsReserved write = refl

-- Commands: their parts are of LPIs.

part_held : (shape : GuestShape) (view : View) (targets : ℕ → Option ℕ) (part : Part) → is_held (lpi_event shape view targets part) ≡ true
part_held shape view targets (Forget id) = refl
part_held shape view targets (Map id target) = refl
part_held shape view targets (Retarget id target) = refl
part_held shape view targets (RaisePart id) = refl
part_held shape view targets (ClearPart id) = refl
part_held shape view targets (Configure id) = refl

queue_held : (shape : GuestShape) (view : View) → is_held (queue_event shape view) ≡ true
queue_held shape view = of (fault_number shape view.maps (decoded (command_words shape view)))
  where
    of : (o : Option ℕ) → is_held (option_map_or (λ fault. Queue view.offset (Stalls fault)) o (Queue (next_offset view) (Done (command_words shape view)))) ≡ true
    of None = refl
    of (Some fault) = refl

pub both_held : (one other : List Happened) → list_all is_held (events_of one) ≡ true → list_all is_held (events_of other) ≡ true → list_all is_held (events_of (one ++ other)) ≡ true
both_held one other h k =
    ap (list_all is_held) (map-append (λ (happened : Happened). happened.event) one other) ∙ list_all-append is_held (events_of one) (events_of other) ∙ and_from (list_all is_held (events_of one)) (list_all is_held (events_of other)) h k

held_parts :
    (actor : Option ℕ) (shape : GuestShape) (targets : ℕ → Option ℕ) (words : List Happened) (parts : List Part) (Rest : List Happened → Type 0) → ((after : List Happened) → Rest after → list_all is_held (events_of after) ≡ true)
    → (before piece : List Happened) → ArePartsThen actor shape targets words parts Rest before piece → list_all is_held (events_of piece) ≡ true
held_parts actor shape targets words [] Rest later before piece is = later piece is
held_parts actor shape targets words (part ∷ parts) Rest later before piece is =
    ap (λ p. list_all is_held (events_of p)) is.split
    ∙ both_held is.own is.rest
    (made_held actor is.view (lpi_event shape is.view targets part ∷ []) _ before is.own is.made (ap (λ b. b && true) (part_held shape is.view targets part)))
    (held_parts actor shape targets words parts Rest later words is.rest is.later)

held_command : (actor : Option ℕ) (shape : GuestShape) (view : View) (piece : List Happened) → IsCommand actor shape view piece → list_all is_held (events_of piece) ≡ true
held_command actor shape view piece is =
    ap (λ p. list_all is_held (events_of p)) is.split
    ∙ both_held is.fetch is.rest (made_held actor view [] _ [] is.fetch is.fetched refl)
    (held_parts actor shape view.targets (words_read shape view) (command_parts shape view) (λ after. Makes actor view (queue_event shape view ∷ []) [] [] after)
    (λ after makes. made_held actor view (queue_event shape view ∷ []) [] [] after makes (ap (λ b. b && true) (queue_held shape view))) is.fetch is.rest is.done)

held_commands : (actor : Option ℕ) (shape : GuestShape) (beside : Beside) (number : ℕ) (its : View) (views : List View) (piece : List Happened) → AreCommands actor shape beside number its views piece → list_all is_held (events_of piece) ≡ true
held_commands actor shape beside number its [] piece is = made_held actor its [] [] [] piece is.0 refl
held_commands actor shape beside number its (view ∷ views) piece is =
    ap (λ p. list_all is_held (events_of p)) is.split
    ∙ both_held is.own is.rest (held_command actor shape view is.own is.command) (held_commands actor shape beside (number + 1) (left_by shape view (queue_event shape view)) views is.rest is.later)

pub held_started : (actor : Option ℕ) (shape : GuestShape) (beside : Beside) (its : View) (views : List View) (piece : List Happened) → AreStarted true actor shape beside its views piece → list_all is_held (events_of piece) ≡ true
held_started actor shape beside its views piece is = held_commands actor shape beside 0 its views piece is

-- A write of EnableLPIs: its LPIs rise.

pub pended_rise : (shape : GuestShape) (view : View) (vcpu low : ℕ) (start count : ℕ) → low ≤ 8192 + start → is_rising low (keys_of (filter_map (λ number. pended_at shape view vcpu (8192 + number)) (range_with_len start count))) ≡ true
pended_rise shape view vcpu low start zero h = refl
pended_rise shape view vcpu low start (suc count) h =
    of (is_number vcpu (view.targets (8192 + start)) && is_in_table shape view vcpu (8192 + start)) (pended_rise shape view vcpu (suc (8192 + start)) (start + 1) count (omega arith)) (pended_rise shape view vcpu low (start + 1) count (omega (arith, h)))
  where
    rest : List Event
    rest = filter_map (λ number. pended_at shape view vcpu (8192 + number)) (range_with_len (start + 1) count)

    of : (b : Bool) → is_rising (suc (8192 + start)) (keys_of rest) ≡ true → is_rising low (keys_of rest) ≡ true
        → is_rising low (keys_of (cons_option (cond b (Some (Touch (Lpi (8192 + start)) (Register SetPending 1))) None) (filter_map (λ number. pended_at shape view vcpu (8192 + number)) (range_with_len (start + 1) count)))) ≡ true
    of true above later = and_from (nat_le low (8192 + start)) (is_rising (suc (8192 + start)) (keys_of rest)) (le-leb low (8192 + start) h) above
    of false above later = later

pub enable_rise : (shape : GuestShape) (view : View) (vcpu : ℕ) → is_rising 0 (keys_of (enable_events shape view vcpu)) ≡ true
enable_rise shape view vcpu = of (view.lpis vcpu || is_table_zero (view.words (Pendbaser vcpu)))
  where
    of : (b : Bool) → is_rising 0 (keys_of (cond b [] (filter_map (λ number. pended_at shape view vcpu (8192 + number)) (range_with_len 0 shape.lpis)))) ≡ true
    of true = refl
    of false = pended_rise shape view vcpu 0 0 shape.lpis (omega arith)
