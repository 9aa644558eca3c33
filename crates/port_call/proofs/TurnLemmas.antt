-- Looks at the ITS's word, and tries to take the ITS.
use Rattle.std.proofs.Common.{◌≡◌, ℕ, ◌==◌, ◌&&◌, not, Bool, true, false, IsTrue, IfSome, List, [], ◌∷◌, ◌++◌, if◌then◌else◌, Option, Some, None, is_some, is_none, refl, sym, ap, subst, ◌∙◌}
use Rattle.std.specs.List.{list_all}
use Rattle.std.specs.Option.{option_to_list}
use Rattle.std.proofs.lemmas.Bool.{and_parts, eq-eqb, eqb-true, both_ways}
use Rattle.std.proofs.lemmas.List.{append_assoc}
use Rattle.std.proofs.lemmas.List.Folds.{list_all-append}
use Rattle.std.proofs.lemmas.List.Sums.{fold-append}
use Rattle.floor_core.specs.Words.{GuestShape, is_number}
use Rattle.floor_core.specs.Calls.{Event, ItsBegin, Happened, is_beside, named_of}
use Rattle.floor_core.specs.GicCall.declared.event.Event.TheVariants.{Read}
use Rattle.floor_core.specs.GicCall.declared.event.Found.TheVariants.{Nothing}
use Rattle.floor_core.specs.GicCall.declared.event.Place.TheVariants.{Queue as QueuePlace}
use Rattle.floor_core.specs.Registers.{is_queue_word, queue_of, IsValid as IsValidMaps, Maps}
use Rattle.floor_core.specs.Core.{Local, Made, Look, TurnTake, WordId, Queue, local_done, succeeds, is_on, known, place_of_word, Seen, IsPort, Adds, AddsStep, made_by, shape_of, part_events, event_done, CanFind}
use Rattle.floor_core.proofs.PortCore.PortLemmas.{adds_join, events_join}
use Rattle.port_call.specs.Piece.{IsPiece, IsRestedPiece, goes_by_known}
use Rattle.port_call.specs.Turn.{is_miss, is_queue_read, Misses, TakesTurn, TriesTurn}
use Rattle.port_call.proofs.PieceLemmas.{piece_one, piece_joins, rested_joins}
use Rattle.port_call.proofs.SettleLemmas.{handed_none}

-- Pieces as ports tell them.

-- a piece after another, where the port tells what the first added
pub piece_then : (old mid : Seen) (early late : List Made) → Adds old mid early → IsPiece old early → IsPiece mid late → IsPiece old (early ++ late)
piece_then old mid early late add one two =
    let Piece : Seen → Type 0 = λ seen. IsPiece seen late in
    piece_joins old early late one (subst Piece add.new_is two)

pub rested_then : (old mid : Seen) (early late : List Made) → Adds old mid early → IsRestedPiece old early → IsRestedPiece mid late → IsRestedPiece old (early ++ late)
rested_then old mid early late add one two =
    let Piece : Seen → Type 0 = λ seen. IsRestedPiece seen late in
    rested_joins old early late one (subst Piece add.new_is two)

pub events_then : (old mid : Seen) (early late : List Made) → Adds old mid early → part_events old (early ++ late) ≡ part_events old early ++ part_events mid late
events_then old mid early late add =
    events_join (shape_of old) old.actor old.local old.own early late ∙ ap (λ seen. part_events old early ++ part_events seen late) (sym add.new_is)

-- Events.

-- reads of where the queue is are beside what a call names
pub reads_beside : (actor : Option ℕ) (reads : List Happened) → IsTrue (list_all is_queue_read reads) → named_of actor reads ≡ []
reads_beside actor [] h = refl
reads_beside actor (one ∷ reads) h =
    let parts = and_parts (is_queue_read one) (list_all is_queue_read reads) h in
    ap (λ b. if b then one ∷ named_of actor reads else named_of actor reads) (of one.event parts.0) ∙ reads_beside actor reads parts.1
  where
    of : (event : Event) → IsTrue (is_queue_read (record { event = event; found = one.found })) → not (is_beside actor event) ≡ false
    of (Read QueuePlace) h = refl
    of _ h = absurd (cc)

-- Misses.

and_true : (a b : Bool) → IsTrue a → IsTrue b → (a && b) ≡ true
and_true true true h k = refl
and_true true false h k = absurd (cc)
and_true false b h k = absurd (cc)

pub misses_join : (old mid new : Seen) → Misses old mid → Misses mid new → Misses old new
misses_join old mid new one two =
    record {
      part = one.part ++ two.part;
      adds = adds_join old mid new one.part two.part one.adds two.adds;
      missed = list_all-append is_miss one.part two.part ∙ and_true (list_all is_miss one.part) (list_all is_miss two.part) one.missed two.missed;
      local_is = two.local_is ∙ one.local_is;
      reads =
          ap (list_all is_queue_read) (events_then old mid one.part two.part one.adds) ∙ list_all-append is_queue_read (part_events old one.part) (part_events mid two.part)
          ∙ and_true (list_all is_queue_read (part_events old one.part)) (list_all is_queue_read (part_events mid two.part)) one.reads two.reads;
      piece = piece_then old mid one.part two.part one.adds one.piece two.piece;
    }

pub misses_then_takes : (old mid new : Seen) → Misses old mid → TakesTurn mid new → TakesTurn old new
misses_then_takes old mid new one two =
    let part = two.misses ++ two.last ∷ [] in
    let parts : one.part ++ part ≡ (one.part ++ two.misses) ++ two.last ∷ [] = sym (append_assoc one.part two.misses (two.last ∷ [])) in
    let shape : shape_of mid ≡ shape_of old = ap shape_of one.adds.new_is in
    let By : List Made → Type 0 = λ part. Adds old new part in
    let Piece : List Made → Type 0 = λ part. IsPiece old part in
    record {
      misses = one.part ++ two.misses;
      last = two.last;
      maps = two.maps;
      adds = subst By parts (adds_join old mid new one.part part one.adds two.adds);
      missed = list_all-append is_miss one.part two.misses ∙ and_true (list_all is_miss one.part) (list_all is_miss two.misses) one.missed two.missed;
      last_is = two.last_is;
      handed = two.handed;
      valid = subst (λ shape. IsValidMaps shape two.maps) shape two.valid;
      was_free = ap (λ l. l.turn) (sym one.local_is) ∙ two.was_free;
      local_is = two.local_is ∙ ap with_turn one.local_is;
      tables = two.tables;
      events =
          record {
            reads = part_events old one.part ++ two.events.reads;
            are_reads =
                list_all-append is_queue_read (part_events old one.part) two.events.reads
                ∙ and_true (list_all is_queue_read (part_events old one.part)) (list_all is_queue_read two.events.reads) one.reads two.events.are_reads;
            split =
                ap (part_events old) (sym parts) ∙ events_then old mid one.part part one.adds ∙ ap (λ events. part_events old one.part ++ events) two.events.split
                ∙ sym (append_assoc (part_events old one.part) two.events.reads ((record { event = ItsBegin; found = Nothing }) ∷ []));
          };
      piece = subst Piece parts (piece_then old mid one.part part one.adds one.piece two.piece);
    }
  where
    with_turn : Local → Local
    with_turn local = record local { turn = true }

-- Steps.

-- a look at the word
pub look_misses : (old mid : Seen) (found : ℕ) → AddsStep old mid (Look Queue) found → Misses old mid
look_misses old mid found add =
    let made = made_by old (Look Queue) found add.tables in
    record {
      part = made ∷ [];
      adds = add.adds;
      missed = and_true (is_none add.tables) true (handed_none (Look Queue) found old add.tables refl add.handed) refl;
      local_is = ap (λ seen. seen.local) add.adds.new_is;
      reads = refl;
      piece = piece_one old made refl refl;
    }

-- a word is known as the last step on it left it
same_place : (n : ℕ) → (n == n) ≡ true
same_place n = eq-eqb n n refl

pub known_by_last : (shape : GuestShape) (actor : ℕ) (own : List Made) (made : Made) (word : WordId) → is_on shape actor word made ≡ true → known shape actor (own ++ made ∷ []) word ≡ Some made.left
known_by_last shape actor own made word on =
    fold-append (λ last made. if is_on shape actor word made then Some made.left else last) None own (made ∷ []) ∙ ap (λ b. if b then Some made.left else known shape actor own word) on

looked_known : (old mid : Seen) (seen : ℕ) → AddsStep old mid (Look Queue) seen → IsTrue (goes_by_known mid (TurnTake seen))
looked_known old mid seen add =
    let made = made_by old (Look Queue) seen add.tables in
    let is : known (shape_of old) old.actor (old.own ++ made ∷ []) Queue ≡ Some seen
    = known_by_last (shape_of old) old.actor old.own made Queue (same_place (place_of_word (shape_of old) Queue)) in
    ap (λ told. goes_by_known told (TurnTake seen)) add.adds.new_is ∙ ap (is_number seen) is ∙ same_place seen

-- a try that found another word
fails : (seen found : ℕ) → (found == seen) ≡ false → (found == seen && is_none (queue_of found).turn) ≡ false
fails seen found e = ap (λ b. b && is_none (queue_of found).turn) e

none_handed : (o : Option Maps) (b : Bool) → is_some o ≡ b → b ≡ false → IsTrue (is_none o)
none_handed None b e f = refl
none_handed (Some maps) b e f = absurd (cc)

pub try_misses : (mid new : Seen) (seen found : ℕ) → (found == seen) ≡ false → IsTrue (goes_by_known mid (TurnTake seen)) → AddsStep mid new (TurnTake seen) found → Misses mid new
try_misses mid new seen found e known add =
    let made = made_by mid (TurnTake seen) found add.tables in
    let no_success : succeeds (shape_of mid) mid.actor mid.local (TurnTake seen) found ≡ false = fails seen found e in
    let silent : part_events mid (made ∷ []) ≡ [] = ap (λ b. option_to_list (if b then event_done (shape_of mid) mid.actor mid.local mid.own (TurnTake seen) found else None) ++ []) no_success in
    record {
      part = made ∷ [];
      adds = add.adds;
      missed = and_true (is_none add.tables) true (none_handed add.tables (succeeds (shape_of mid) mid.actor mid.local (TurnTake seen) found) add.handed.where_taken no_success) refl;
      local_is = ap (λ seen. seen.local) add.adds.new_is ∙ ap (λ b. if b then local_done (shape_of mid) mid.actor mid.local (TurnTake seen) found else mid.local) no_success;
      reads = ap (list_all is_queue_read) silent;
      piece = piece_one mid made refl known;
    }

-- who has not the ITS has not taken its tables
pub not_taken : (seen : Seen) → IsPort seen → seen.local.turn ≡ false → seen.taken ≡ false
not_taken seen is none = of seen.taken is.turn
  where
    of : (b : Bool) → (IsTrue b → IsTrue seen.local.turn) → b ≡ false
    of true h = absurd (both_ways seen.local.turn none (h refl))
    of false h = refl

-- a try that found the word as it was looked at, and nobody that has the ITS
some_handed : (o : Option Maps) → is_some o ≡ true → (maps : Maps) × (o ≡ Some maps)
some_handed None e = absurd (cc)
some_handed (Some maps) e = (maps, refl)

valid_of : (shape : GuestShape) (o : Option Maps) (maps : Maps) → o ≡ Some maps → IfSome o (λ maps. IsValidMaps shape maps) → IsValidMaps shape maps
valid_of shape o maps e valid = let P : Option Maps → Type 0 = λ o. IfSome o (λ maps. IsValidMaps shape maps) in if_some (subst P e valid)
  where
    if_some : IfSome (Some maps) (λ maps. IsValidMaps shape maps) → IsValidMaps shape maps
    if_some h = h

turn_free : (actor : ℕ) (o : Option ℕ) → is_none o ≡ true → is_number actor o ≡ false
turn_free actor None e = refl
turn_free actor (Some a) e = absurd (cc)

pub try_takes :
    (mid new : Seen) (seen found : ℕ) → IsPort mid → (found == seen) ≡ true → is_none (queue_of seen).turn ≡ true → CanFind (shape_of mid) mid.actor mid.local Queue found → IsTrue (goes_by_known mid (TurnTake seen)) → AddsStep mid new (TurnTake seen) found
    → TakesTurn mid new
try_takes mid new seen found is e free find known add =
    let made = made_by mid (TurnTake seen) found add.tables in
    let same : found ≡ seen = eqb-true found seen e in
    let unheld : is_none (queue_of found).turn ≡ true = ap (λ word. is_none (queue_of word).turn) same ∙ free in
    let success : succeeds (shape_of mid) mid.actor mid.local (TurnTake seen) found ≡ true = and_true (found == seen) (is_none (queue_of found).turn) e unheld in
    let handed = some_handed add.tables (add.handed.where_taken ∙ success) in
    let without : mid.local.turn ≡ false = sym find.ties ∙ turn_free mid.actor (queue_of found).turn unheld in
    let events : part_events mid (made ∷ []) ≡ (record { event = ItsBegin; found = Nothing }) ∷ []
    = ap (λ b. option_to_list (if b then event_done (shape_of mid) mid.actor mid.local mid.own (TurnTake seen) found else None) ++ []) success in
    record {
      misses = [];
      last = made;
      maps = handed.0;
      adds = add.adds;
      missed = refl;
      last_is = ap TurnTake (sym same);
      handed = handed.1;
      valid = valid_of (shape_of mid) add.tables handed.0 handed.1 add.handed.valid;
      was_free = without;
      local_is = ap (λ seen. seen.local) add.adds.new_is ∙ ap (λ b. if b then local_done (shape_of mid) mid.actor mid.local (TurnTake seen) found else mid.local) success;
      tables = ap (λ seen. seen.taken) add.adds.new_is ∙ not_taken mid is without;
      events = record { reads = []; are_reads = refl; split = events };
      piece = piece_one mid made refl known;
    }

-- a look and a try
pub tries : (old mid new : Seen) (seen found : ℕ) → IsPort mid → (is_queue_word seen && is_none (queue_of seen).turn) ≡ true → CanFind (shape_of mid) mid.actor mid.local Queue found → AddsStep old mid (Look Queue) seen → AddsStep mid new (TurnTake seen) found
    → TriesTurn old new (found == seen)
tries old mid new seen found is free find look add = of (found == seen) refl
  where
    of : (b : Bool) → (found == seen) ≡ b → TriesTurn old new b
    of true e = misses_then_takes old mid new (look_misses old mid seen look) (try_takes mid new seen found is e (and_parts (is_queue_word seen) (is_none (queue_of seen).turn) free).1 find (looked_known old mid seen look) add)
    of false e = misses_join old mid new (look_misses old mid seen look) (try_misses mid new seen found e (looked_known old mid seen look) add)

-- a try after others
pub tried_takes : (old mid new : Seen) (took : Bool) → took ≡ true → Misses old mid → TriesTurn mid new took → TakesTurn old new
tried_takes old mid new took e one two = misses_then_takes old mid new one (subst (TriesTurn mid new) e two)

pub tried_misses : (old mid new : Seen) (took : Bool) → took ≡ false → Misses old mid → TriesTurn mid new took → Misses old new
tried_misses old mid new took e one two = misses_join old mid new one (subst (TriesTurn mid new) e two)
