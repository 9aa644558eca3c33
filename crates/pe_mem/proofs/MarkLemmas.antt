-- The mark of GICD_CTLR.
use Rattle.std.proofs.Common.{◌≡◌, ℕ, ◌==◌, ◌&&◌, ◌++◌, Bool, true, false, if◌then◌else◌, IsTrue, List, [], ◌∷◌, Option, Some, None, is_none, is_some, refl, sym, ap, subst, ◌∙◌}
use Rattle.std.specs.List.{list_all}
use Rattle.std.specs.Option.{option_to_list}
use Rattle.std.proofs.lemmas.Bool.{eq-eqb, eqb-true}
use Rattle.std.proofs.lemmas.List.{append_assoc}
use Rattle.std.proofs.lemmas.List.Folds.{list_all-append}
use Rattle.its_exec.specs.Registers.{Enables, enables_in}
use Rattle.its_exec.specs.Calls.{CtlrBegin, Happened}
use Rattle.its_exec.specs.GicCall.declared.event.Found.TheVariants.{Nothing}
use Rattle.its_exec.specs.Words.{is_number}
use Rattle.its_exec.specs.Core.{Local, Look, CtlrTake, Ctlr, local_done, succeeds, ctlr_of, known, place_of_word, Seen, AddsStep, shape_of, made_by, part_events, event_done}
use Rattle.its_exec.proofs.PortCore.PortLemmas.{adds_join}
use Rattle.its_exec.specs.PortCall.Piece.{goes_by_known}
use Rattle.its_exec.proofs.PortCall.PieceLemmas.{seen_nil, piece_nil, piece_one}
use Rattle.its_exec.proofs.PortCall.SettleLemmas.{handed_none}
use Rattle.its_exec.proofs.PortCall.TryLemmas.{none_append}
use Rattle.its_exec.proofs.PortCall.TurnLemmas.{piece_then, events_then, known_by_last}
use Rattle.pe_mem.specs.Ctlr.{is_ctlr_read, MissesMark, TakesMark, TriesMark}

both : (a b : Bool) → IsTrue a → IsTrue b → IsTrue (a && b)
both true true h k = refl
both true false h k = absurd (cc)
both false b h k = absurd (cc)

pub no_miss : (seen : Seen) → MissesMark seen seen
no_miss seen = record { part = []; adds = record { new_is = sym (seen_nil seen) }; local_is = refl; none_taken = refl; reads = refl; piece = piece_nil seen }

pub misses_join : (old mid new : Seen) → MissesMark old mid → MissesMark mid new → MissesMark old new
misses_join old mid new one two =
    record {
      part = one.part ++ two.part;
      adds = adds_join old mid new one.part two.part one.adds two.adds;
      local_is = two.local_is ∙ one.local_is;
      none_taken = none_append one.part two.part one.none_taken two.none_taken;
      reads =
          ap (list_all is_ctlr_read) (events_then old mid one.part two.part one.adds)
          ∙ list_all-append is_ctlr_read (part_events old one.part) (part_events mid two.part)
          ∙ both (list_all is_ctlr_read (part_events old one.part)) (list_all is_ctlr_read (part_events mid two.part)) one.reads two.reads;
      piece = piece_then old mid one.part two.part one.adds one.piece two.piece;
    }

pub misses_then_takes : (old mid new : Seen) (enables : Enables) → MissesMark old mid → TakesMark mid new enables → TakesMark old new enables
misses_then_takes old mid new enables one two =
    let begin : List Happened = (record { event = CtlrBegin enables; found = Nothing }) ∷ [] in
    let early = part_events old one.part in
    record {
      part = one.part ++ two.part;
      adds = adds_join old mid new one.part two.part one.adds two.adds;
      local_is = two.local_is ∙ ap (λ (l : Local). record l { ctlr = true }) one.local_is;
      none_taken = none_append one.part two.part one.none_taken two.none_taken;
      reads = early ++ two.reads;
      are_reads = list_all-append is_ctlr_read early two.reads ∙ both (list_all is_ctlr_read early) (list_all is_ctlr_read two.reads) one.reads two.are_reads;
      events = events_then old mid one.part two.part one.adds ∙ ap (λ events. early ++ events) two.events ∙ sym (append_assoc early two.reads begin);
      piece = piece_then old mid one.part two.part one.adds one.piece two.piece;
    }

pub look_misses : (old mid : Seen) (found : ℕ) → AddsStep old mid (Look Ctlr) found → MissesMark old mid
look_misses old mid found add =
    let made = made_by old (Look Ctlr) found add.tables in
    record {
      part = made ∷ [];
      adds = add.adds;
      local_is = ap (λ seen. seen.local) add.adds.new_is;
      none_taken = both (is_none add.tables) true (handed_none (Look Ctlr) found old add.tables refl add.handed) refl;
      reads = refl;
      piece = piece_one old made refl refl;
    }

looked_known : (old mid : Seen) (seen value : ℕ) → AddsStep old mid (Look Ctlr) seen → IsTrue (goes_by_known mid (CtlrTake seen value))
looked_known old mid seen value add =
    let made = made_by old (Look Ctlr) seen add.tables in
    let is : known (shape_of old) old.actor (old.own ++ made ∷ []) Ctlr ≡ Some seen
    = known_by_last (shape_of old) old.actor old.own made Ctlr (eq-eqb (place_of_word (shape_of old) Ctlr) (place_of_word (shape_of old) Ctlr) refl) in
    ap (λ told. goes_by_known told (CtlrTake seen value)) add.adds.new_is ∙ ap (is_number seen) is ∙ eq-eqb seen seen refl

-- a try that found another word
try_misses : (mid new : Seen) (seen value found : ℕ) → (found == seen) ≡ false → IsTrue (goes_by_known mid (CtlrTake seen value)) → AddsStep mid new (CtlrTake seen value) found → MissesMark mid new
try_misses mid new seen value found e known add =
    let made = made_by mid (CtlrTake seen value) found add.tables in
    let no_success : succeeds (shape_of mid) mid.actor mid.local (CtlrTake seen value) found ≡ false = ap (λ b. b && is_none (ctlr_of found).mark) e in
    let silent : part_events mid (made ∷ []) ≡ [] = ap (λ b. option_to_list (if b then event_done (shape_of mid) mid.actor mid.local mid.own (CtlrTake seen value) found else None) ++ []) no_success in
    record {
      part = made ∷ [];
      adds = add.adds;
      local_is = ap (λ seen. seen.local) add.adds.new_is ∙ ap (λ b. if b then local_done (shape_of mid) mid.actor mid.local (CtlrTake seen value) found else mid.local) no_success;
      none_taken = both (is_none add.tables) true (handed_none (CtlrTake seen value) found mid add.tables refl add.handed) refl;
      reads = ap (list_all is_ctlr_read) silent;
      piece = piece_one mid made refl known;
    }

-- one that found the word as it was looked at, with the mark free
try_takes : (mid new : Seen) (enables : Enables) (seen value found : ℕ) → enables_in value ≡ enables → (found == seen) ≡ true → is_none (ctlr_of seen).mark ≡ true → IsTrue (goes_by_known mid (CtlrTake seen value)) → AddsStep mid new (CtlrTake seen value) found
    → TakesMark mid new enables
try_takes mid new enables seen value found is e free known add =
    let made = made_by mid (CtlrTake seen value) found add.tables in
    let same : found ≡ seen = eqb-true found seen e in
    let unheld : is_none (ctlr_of found).mark ≡ true = ap (λ word. is_none (ctlr_of word).mark) same ∙ free in
    let success : succeeds (shape_of mid) mid.actor mid.local (CtlrTake seen value) found ≡ true = both (found == seen) (is_none (ctlr_of found).mark) e unheld in
    record {
      part = made ∷ [];
      adds = add.adds;
      local_is = ap (λ seen. seen.local) add.adds.new_is ∙ ap (λ b. if b then local_done (shape_of mid) mid.actor mid.local (CtlrTake seen value) found else mid.local) success;
      none_taken = both (is_none add.tables) true (handed_none (CtlrTake seen value) found mid add.tables refl add.handed) refl;
      reads = [];
      are_reads = refl;
      events =
          ap (λ b. option_to_list (if b then event_done (shape_of mid) mid.actor mid.local mid.own (CtlrTake seen value) found else None) ++ []) success
          ∙ ap (λ enables. (record { event = CtlrBegin enables; found = Nothing }) ∷ []) is;
      piece = piece_one mid made refl known;
    }

-- a look and a try
pub tries : (old mid new : Seen) (enables : Enables) (seen value found : ℕ) → enables_in value ≡ enables → is_some (ctlr_of seen).mark ≡ false → AddsStep old mid (Look Ctlr) seen → AddsStep mid new (CtlrTake seen value) found → TriesMark old new enables (found == seen)
tries old mid new enables seen value found is free look add = of (found == seen) refl
  where
    none_of : (o : Option ℕ) → is_some o ≡ false → is_none o ≡ true
    none_of None e = refl
    none_of (Some a) e = absurd (cc)

    of : (b : Bool) → (found == seen) ≡ b → TriesMark old new enables b
    of true e = misses_then_takes old mid new enables (look_misses old mid seen look) (try_takes mid new enables seen value found is e (none_of (ctlr_of seen).mark free) (looked_known old mid seen value look) add)
    of false e = misses_join old mid new (look_misses old mid seen look) (try_misses mid new seen value found e (looked_known old mid seen value look) add)

-- a try after others
pub tried_takes : (old mid new : Seen) (enables : Enables) (took : Bool) → took ≡ true → MissesMark old mid → TriesMark mid new enables took → TakesMark old new enables
tried_takes old mid new enables took e one two = misses_then_takes old mid new enables one (subst (TriesMark mid new enables) e two)

pub tried_misses : (old mid new : Seen) (enables : Enables) (took : Bool) → took ≡ false → MissesMark old mid → TriesMark mid new enables took → MissesMark old new
tried_misses old mid new enables took e one two = misses_join old mid new one (subst (TriesMark mid new enables) e two)
