-- What an actor knows of the guest's words after more steps, and after a step on a word.
use Rattle.std.proofs.Common.{◌≡◌, ℕ, ◌==◌, ◌&&◌, ◌||◌, not, Bool, true, false, if◌then◌else◌, IsTrue, List, [], ◌∷◌, ◌++◌, find, fold, Option, Some, None, is_some, is_none, unwrap_or, append-nil, refl, sym, ap, ◌∙◌}
use Rattle.std.specs.List.{list_all, list_any}
use Rattle.std.proofs.lemmas.Bool.{and_parts}
use Rattle.std.proofs.lemmas.List.{append_assoc}
use Rattle.std.proofs.lemmas.List.Folds.{list_all-append, find-append}
use Rattle.std.specs.Option.{option_or}
use Rattle.std.proofs.lemmas.List.Sums.{fold-append}
use Rattle.port_call.specs.Words.{GuestShape, Lpi}
use Rattle.port_call.specs.Calls.{place_of_plain, Found, Place, held_at}
use Rattle.port_call.specs.GicCall.declared.event.Found.TheVariants.{Word as FoundWord, Queue as FoundQueue, Ctlr as FoundCtlr, Lpis as FoundLpis}
use Rattle.port_call.specs.GicCall.declared.event.Place.TheVariants.{Word, Queue as QueuePlace, Ctlr as CtlrPlace, Lpis}
use Rattle.port_call.specs.Registers.{queue_of, Maps}
use Rattle.port_call.specs.Core.{Made, CoreStep, RamPut, CommandDone, TurnRelease, WordId, Irq, Queue, Ctlr, Plain, Vcpu, vcpu_of, ctlr_of, is_on, known, is_known, known_maps, since_turn, since_command, ends_command, reading_after, reading_of, read_after, place_of_word, word_of, Seen, Adds, shape_of}
use Rattle.port_call.specs.Memory.{view_by}
use Rattle.port_call.specs.Piece.{takes_none, steps_of}
use Rattle.port_call.proofs.KnownLemmas.{are_off, known_kept, since_turn_on, are_endless, ends_none, maps_kept}
use Rattle.port_call.proofs.TurnLemmas.{known_by_last}
use Rattle.its_exec.specs.Known.{Knows, KnowsSame, is_within, are_within, is_going, are_going, keeps_read, is_look_of, looks_at, first_step, IsUntouched}

pub both : (a b : Bool) → IsTrue a → IsTrue b → (a && b) ≡ true
both true true h k = refl
both true false h k = absurd (cc)
both false b h k = absurd (cc)

-- Words.

-- the word of a place, and what a word says there
abbrev pub word_of_place : GuestShape → Place → WordId
word_of_place shape (Word word) = Plain (place_of_plain shape word)
word_of_place shape QueuePlace = Queue
word_of_place shape CtlrPlace = Ctlr
word_of_place shape (Lpis vcpu) = Vcpu vcpu

abbrev pub shown_at : Place → ℕ → Found
shown_at (Word word) n = FoundWord n
shown_at QueuePlace n = FoundQueue (queue_of n).offset (queue_of n).stalled
shown_at CtlrPlace n = FoundCtlr (ctlr_of n).enables (is_some (ctlr_of n).mark)
shown_at (Lpis vcpu) n = FoundLpis (vcpu_of n).lpis

-- what the actor knows of a word since it took the ITS
abbrev pub since : Seen → WordId → Option ℕ
since seen word = known (shape_of seen) seen.actor (since_turn seen.own) word

-- more steps, on other words
pub since_kept : (old new : Seen) (part : List Made) (word : WordId) → Adds old new part → IsTrue (takes_none part) → IsTrue (are_off (shape_of old) old.actor word part) → since new word ≡ since old word
since_kept old new part word add none off =
    ap (λ seen. since seen word) add.new_is
    ∙ ap (λ own. known (shape_of old) old.actor own word) (since_turn_on old.own part none)
    ∙ known_kept (shape_of old) old.actor word (since_turn old.own) part off

-- one more step, on this word
pub since_last : (old new : Seen) (made : Made) (word : WordId) → Adds old new (made ∷ []) → IsTrue (takes_none (made ∷ [])) → is_on (shape_of old) old.actor word made ≡ true → since new word ≡ Some made.left
since_last old new made word add none on =
    ap (λ seen. since seen word) add.new_is
    ∙ ap (λ own. known (shape_of old) old.actor own word) (since_turn_on old.own (made ∷ []) none)
    ∙ known_by_last (shape_of old) old.actor (since_turn old.own) made word on

-- Places.

-- a word is known as it is known, and what is known is one of a word
pub knows_by : (seen : Seen) (place : Place) (n : ℕ) → since seen (word_of_place (shape_of seen) place) ≡ Some n → Knows seen place (shown_at place n)
knows_by seen (Word word) n e = record { known = ap is_some e; held = ap (λ o. shown_at (Word word) (unwrap_or o 0)) e }
knows_by seen QueuePlace n e = record { known = ap is_some e; held = ap (λ o. shown_at QueuePlace (unwrap_or o 0)) e }
knows_by seen CtlrPlace n e = record { known = ap is_some e; held = ap (λ o. shown_at CtlrPlace (unwrap_or o 0)) e }
knows_by seen (Lpis vcpu) n e = record { known = ap is_some e; held = ap (λ o. shown_at (Lpis vcpu) (unwrap_or o 0)) e }

-- a place whose word is known as before is so too
pub same_known : (old new : Seen) (place : Place) → since new (word_of_place (shape_of new) place) ≡ since old (word_of_place (shape_of old) place)
    → is_known (shape_of new) new.actor new.own place ≡ is_known (shape_of old) old.actor old.own place
same_known old new (Word word) e = ap is_some e
same_known old new QueuePlace e = ap is_some e
same_known old new CtlrPlace e = ap is_some e
same_known old new (Lpis vcpu) e = ap is_some e

pub same_held : (old new : Seen) (place : Place) → since new (word_of_place (shape_of new) place) ≡ since old (word_of_place (shape_of old) place) → held_at (view_by new) place ≡ held_at (view_by old) place
same_held old new (Word word) e = ap (λ o. shown_at (Word word) (unwrap_or o 0)) e
same_held old new QueuePlace e = ap (λ o. shown_at QueuePlace (unwrap_or o 0)) e
same_held old new CtlrPlace e = ap (λ o. shown_at CtlrPlace (unwrap_or o 0)) e
same_held old new (Lpis vcpu) e = ap (λ o. shown_at (Lpis vcpu) (unwrap_or o 0)) e

-- a part leaves the word of a place
pub record Leaves (old new : Seen) (place : Place) : Type 0 where
  pub same : since new (word_of_place (shape_of new) place) ≡ since old (word_of_place (shape_of old) place)

pub leaves : (old new : Seen) (part : List Made) (place : Place) → Adds old new part → IsTrue (takes_none part) → IsTrue (are_off (shape_of old) old.actor (word_of_place (shape_of old) place) part) → Leaves old new place
leaves old new part place add none off =
    record { same = ap (λ shape. since new (word_of_place shape place)) (ap shape_of add.new_is) ∙ since_kept old new part (word_of_place (shape_of old) place) add none off }

pub same_by : (old new : Seen) (place : Place) → Leaves old new place → KnowsSame old new place
same_by old new place left = record { known = same_known old new place left.same; held = same_held old new place left.same }

pub leaves_same : (seen : Seen) (place : Place) → Leaves seen seen place
leaves_same seen place = record { same = refl }

pub leaves_on : (old mid new : Seen) (place : Place) → Leaves old mid place → Leaves mid new place → Leaves old new place
leaves_on old mid new place one two = record { same = two.same ∙ one.same }

pub knows_on : (old new : Seen) (place : Place) (found : Found) → Leaves old new place → Knows old place found → Knows new place found
knows_on old new place found left knows = record { known = same_known old new place left.same ∙ knows.known; held = same_held old new place left.same ∙ knows.held }

-- Steps within a command.

pub within_none : (part : List Made) → IsTrue (are_within part) → IsTrue (takes_none part)
within_none [] h = refl
within_none (made ∷ part) h =
    let parts = and_parts (is_within made) (are_within part) h in
    both (is_none made.tables) (takes_none part) (and_parts (is_none made.tables) (not (ends_command made.step)) parts.0).0 (within_none part parts.1)

pub within_endless : (part : List Made) → IsTrue (are_within part) → IsTrue (are_endless part)
within_endless [] h = refl
within_endless (made ∷ part) h =
    let parts = and_parts (is_within made) (are_within part) h in
    both (ends_none made.step) (are_endless part) (of made.step (and_parts (is_none made.tables) (not (ends_command made.step)) parts.0).1) (within_endless part parts.1)
  where
    of : (step : CoreStep) → IsTrue (not (ends_command step)) → IsTrue (ends_none step)
    of (CommandDone offset stalled None) k = refl
    of (CommandDone offset true (Some words)) k = absurd (cc)
    of (CommandDone offset false (Some words)) k = absurd (cc)
    of _ k = refl

pub within_joins : (early late : List Made) → IsTrue (are_within early) → IsTrue (are_within late) → IsTrue (are_within (early ++ late))
within_joins early late one two = list_all-append is_within early late ∙ both (are_within early) (are_within late) one two

-- steps that end no command, none of which takes the ITS
pub within_by : (part : List Made) → IsTrue (takes_none part) → IsTrue (list_all (λ made. not (ends_command made.step)) part) → IsTrue (are_within part)
within_by [] none ends = refl
within_by (made ∷ part) none ends =
    let nones = and_parts (is_none made.tables) (takes_none part) none in
    let parts = and_parts (not (ends_command made.step)) (list_all (λ made. not (ends_command made.step)) part) ends in
    both (is_within made) (are_within part) (both (is_none made.tables) (not (ends_command made.step)) nones.0 parts.0) (within_by part nones.1 parts.1)

-- they leave the maps, and are steps of the present command
pub maps_on : (old new : Seen) (part : List Made) → Adds old new part → IsTrue (are_within part) → known_maps new.own ≡ known_maps old.own
maps_on old new part add within = ap (λ seen. known_maps seen.own) add.new_is ∙ maps_kept old.own part (within_none part within) (within_endless part within)

command_step : List Made → Made → List Made
command_step kept made = if is_some made.tables || ends_command made.step then [] else kept ++ made ∷ []

command_from : (kept part : List Made) → IsTrue (are_within part) → fold command_step kept part ≡ kept ++ part
unfolding command_step
command_from kept [] h = sym (append-nil kept)
command_from kept (made ∷ part) h =
    let parts = and_parts (is_within made) (are_within part) h in
    let mine = and_parts (is_none made.tables) (not (ends_command made.step)) parts.0 in
    ap (λ b. fold command_step (if b then [] else kept ++ made ∷ []) part) (neither made.tables (ends_command made.step) mine.0 mine.1) ∙ command_from (kept ++ made ∷ []) part parts.1 ∙ append_assoc kept (made ∷ []) part
  where
    neither : (o : Option Maps) (b : Bool) → IsTrue (is_none o) → IsTrue (not b) → (is_some o || b) ≡ false
    neither None true g k = absurd (cc)
    neither None false g k = refl
    neither (Some maps) b g k = absurd (cc)

command_on : (own part : List Made) → IsTrue (are_within part) → since_command (own ++ part) ≡ since_command own ++ part
unfolding command_step
command_on own part h = fold-append command_step [] own part ∙ command_from (since_command own) part h

pub first_on : (old new : Seen) (part : List Made) (id : ℕ) → Adds old new part → IsTrue (are_within part) → first_step new id ≡ option_or (first_step old id) (find (is_on (shape_of old) old.actor (Irq (Lpi id))) part)
first_on old new part id add within =
    ap (λ seen. first_step seen id) add.new_is
    ∙ ap (find (is_on (shape_of old) old.actor (Irq (Lpi id)))) (command_on old.own part within)
    ∙ find-append (is_on (shape_of old) old.actor (Irq (Lpi id))) (since_command old.own) part

-- the first step on an LPI's word stays the first
pub first_stays : (old new : Seen) (part : List Made) (id : ℕ) (made : Made) → Adds old new part → IsTrue (are_within part) → first_step old id ≡ Some made → first_step new id ≡ Some made
first_stays old new part id made add within e = first_on old new part id add within ∙ ap (λ o. option_or o (find (is_on (shape_of old) old.actor (Irq (Lpi id))) part)) e

-- a part without a step on it leaves it untouched
none_off : (p : Made → Bool) (part : List Made) → IsTrue (list_all (λ made. if p made then false else true) part) → find p part ≡ None
none_off p [] h = refl
none_off p (made ∷ part) h =
    let parts = and_parts (if p made then false else true) (list_all (λ made. if p made then false else true) part) h in
    ap (λ b. if b then Some made else find p part) (of (p made) parts.0) ∙ none_off p part parts.1
  where
    of : (b : Bool) → IsTrue (if b then false else true) → b ≡ false
    of true k = absurd (cc)
    of false k = refl

pub untouched_on : (old new : Seen) (part : List Made) (id : ℕ) → Adds old new part → IsTrue (are_within part) → IsTrue (are_off (shape_of old) old.actor (Irq (Lpi id)) part) → IsUntouched old id → IsUntouched new id
untouched_on old new part id add within off is =
    record {
      none =
          first_on old new part id add within
          ∙ ap (λ o. option_or o (find (is_on (shape_of old) old.actor (Irq (Lpi id))) part)) is.none
          ∙ none_off (is_on (shape_of old) old.actor (Irq (Lpi id))) part off;
    }

-- a step on it is the first
pub first_is : (old new : Seen) (made : Made) (part : List Made) (id : ℕ) → Adds old new (made ∷ part) → IsTrue (are_within (made ∷ part)) → is_on (shape_of old) old.actor (Irq (Lpi id)) made ≡ true → IsUntouched old id → first_step new id ≡ Some made
first_is old new made part id add within on is =
    first_on old new (made ∷ part) id add within
    ∙ ap (λ o. option_or o (find (is_on (shape_of old) old.actor (Irq (Lpi id))) (made ∷ part))) is.none
    ∙ ap (λ b. if b then Some made else find (is_on (shape_of old) old.actor (Irq (Lpi id))) part) on

-- Steps that leave what was read of the next command.

pub going_joins : (early late : List Made) → IsTrue (are_going early) → IsTrue (are_going late) → IsTrue (are_going (early ++ late))
going_joins early late one two = list_all-append is_going early late ∙ both (are_going early) (are_going late) one two

pub going_by : (part : List Made) → IsTrue (takes_none part) → IsTrue (list_all (λ made. keeps_read made.step) part) → IsTrue (are_going part)
going_by [] none keeps = refl
going_by (made ∷ part) none keeps =
    let nones = and_parts (is_none made.tables) (takes_none part) none in
    let parts = and_parts (keeps_read made.step) (list_all (λ made. keeps_read made.step) part) keeps in
    both (is_going made) (are_going part) (both (is_none made.tables) (keeps_read made.step) nones.0 parts.0) (going_by part nones.1 parts.1)

untaken : {X : Type 0} (o : Option Maps) (x y : X) → IsTrue (is_none o) → (if is_some o then x else y) ≡ y
untaken None x y h = refl
untaken (Some maps) x y h = absurd (cc)

going_from : (read part : List Made) → IsTrue (are_going part) → fold reading_after (Some read) part ≡ Some (read ++ part)
going_from read [] h = ap Some (sym (append-nil read))
going_from read (made ∷ part) h =
    let parts = and_parts (is_going made) (are_going part) h in
    let mine = and_parts (is_none made.tables) (keeps_read made.step) parts.0 in
    ap (λ o. fold reading_after o part) (untaken made.tables (Some []) (read_after made.step made read) mine.0 ∙ by_step made.step mine.1) ∙ going_from (read ++ made ∷ []) part parts.1 ∙ ap Some (append_assoc read (made ∷ []) part)
  where
    by_step : (step : CoreStep) → IsTrue (keeps_read step) → read_after step made read ≡ Some (read ++ made ∷ [])
    by_step TurnRelease k = absurd (cc)
    by_step (RamPut index seen value) k = absurd (cc)
    by_step (CommandDone offset stalled done) k = absurd (cc)
    by_step _ k = refl

pub reading_on : (own part read : List Made) → reading_of own ≡ Some read → IsTrue (are_going part) → reading_of (own ++ part) ≡ Some (read ++ part)
reading_on own part read is h = fold-append reading_after None own part ∙ ap (λ o. fold reading_after o part) is ∙ going_from read part h

-- whoever has the ITS goes on to have it while it does not give it back
abbrev pub keeps_its : CoreStep → Bool
keeps_its TurnRelease = false
keeps_its step = true

still_from : (o : Option (List Made)) (part : List Made) → IsTrue (is_some o) → IsTrue (list_all (λ made. keeps_its made.step) part) → IsTrue (is_some (fold reading_after o part))
still_from None part has keeps = absurd (cc)
still_from (Some read) [] has keeps = refl
still_from (Some read) (made ∷ part) has keeps =
    let parts = and_parts (keeps_its made.step) (list_all (λ made. keeps_its made.step) part) keeps in
    still_from (reading_after (Some read) made) part (by_tables made.tables (read_after made.step made read) (by_step made.step parts.0)) parts.1
  where
    by_tables : (o : Option Maps) (later : Option (List Made)) → IsTrue (is_some later) → IsTrue (is_some (if is_some o then Some [] else later))
    by_tables None later h = h
    by_tables (Some maps) later h = refl

    by_step : (step : CoreStep) → IsTrue (keeps_its step) → IsTrue (is_some (read_after step made read))
    by_step TurnRelease k = absurd (cc)
    by_step (RamPut index seen value) k = refl
    by_step (CommandDone offset stalled done) k = refl
    by_step _ k = refl

pub still_reading : (old new : Seen) (part : List Made) → Adds old new part → IsTrue (list_all (λ made. keeps_its made.step) part) → IsTrue (is_some (reading_of old.own)) → IsTrue (is_some (reading_of new.own))
still_reading old new part add keeps has = ap (λ seen. is_some (reading_of seen.own)) add.new_is ∙ ap is_some (fold-append reading_after None old.own part) ∙ still_from (reading_of old.own) part has keeps

going_keeps : (part : List Made) → IsTrue (are_going part) → IsTrue (list_all (λ made. keeps_its made.step) part)
going_keeps [] h = refl
going_keeps (made ∷ part) h =
    let parts = and_parts (is_going made) (are_going part) h in
    both (keeps_its made.step) (list_all (λ made. keeps_its made.step) part) (of made.step (and_parts (is_none made.tables) (keeps_read made.step) parts.0).1) (going_keeps part parts.1)
  where
    of : (step : CoreStep) → IsTrue (keeps_read step) → IsTrue (keeps_its step)
    of TurnRelease k = absurd (cc)
    of _ k = refl

pub going_reading : (old new : Seen) (part : List Made) → Adds old new part → IsTrue (are_going part) → IsTrue (is_some (reading_of old.own)) → IsTrue (is_some (reading_of new.own))
going_reading old new part add going has = still_reading old new part add (going_keeps part going) has

-- a look among more steps
pub looks_early : (word : ℕ) (early late : List Made) → IsTrue (looks_at word early) → IsTrue (looks_at word (early ++ late))
looks_early word [] late h = absurd (cc)
looks_early word (made ∷ early) late h = of (is_look_of word made.step) h (looks_early word early late)
  where
    of : (b : Bool) → IsTrue (b || looks_at word early) → (IsTrue (looks_at word early) → IsTrue (looks_at word (early ++ late))) → IsTrue (b || looks_at word (early ++ late))
    of true h f = refl
    of false h f = f h

pub looks_late : (word : ℕ) (early late : List Made) → IsTrue (looks_at word late) → IsTrue (looks_at word (early ++ late))
looks_late word [] late h = h
looks_late word (made ∷ early) late h = of (is_look_of word made.step) (looks_late word early late h)
  where
    of : (b : Bool) → IsTrue (looks_at word (early ++ late)) → IsTrue (b || looks_at word (early ++ late))
    of true h = refl
    of false h = h

-- Steps on other words.

pub all_steps : (p : CoreStep → Bool) (part : List Made) → list_all p (steps_of part) ≡ list_all (λ made. p made.step) part
all_steps p [] = refl
all_steps p (made ∷ part) = ap (λ b. p made.step && b) (all_steps p part)

pub any_step : (p : CoreStep → Bool) (part : List Made) → list_any p (steps_of part) ≡ list_any (λ made. p made.step) part
any_step p [] = refl
any_step p (made ∷ part) = ap (λ b. p made.step || b) (any_step p part)

pub off_each :
    (shape : GuestShape) (actor : ℕ) (word : WordId) (p : CoreStep → Bool) → ((step : CoreStep) → IsTrue (p step) → (place_of_word shape (word_of shape actor step) == place_of_word shape word) ≡ false) → (part : List Made)
    → IsTrue (list_all (λ made. p made.step) part) → IsTrue (are_off shape actor word part)
off_each shape actor word p apart [] h = refl
off_each shape actor word p apart (made ∷ part) h =
    let parts = and_parts (p made.step) (list_all (λ made. p made.step) part) h in
    both (if is_on shape actor word made then false else true) (are_off shape actor word part) (ap (λ b. if b then false else true) (apart made.step parts.0)) (off_each shape actor word p apart part parts.1)
