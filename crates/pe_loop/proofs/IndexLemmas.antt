-- The words of the index are taken.
use Rattle.std.proofs.Common.{◌≡◌, ℕ, suc, ◌+◌, ◌<◌, ◌≤◌, ◌==◌, ◌&&◌, ◌||◌, Bool, true, false, if◌then◌else◌, IsTrue, List, [], ◌∷◌, ◌++◌, map, length, Option, refl, sym, ap, subst, ◌∙◌, arith}
use Rattle.std.specs.List.{range_with_len}
use Rattle.std.proofs.lemmas.Bool.{eqb-true, eq-eqb, false_from_ne_true}
use Rattle.std.proofs.lemmas.List.{map-append}
use Rattle.std.proofs.lemmas.List.Sums.{fold-append}
use Rattle.port_call.specs.Words.{GuestShape}
use Rattle.port_call.proofs.GicCall.RangeLemmas.{range_with_len_more}
use Rattle.port_call.specs.Core.{Local, Phase, Off, Scanning, Claiming, Loaded, Folding, Made, TakeIndex, local_after, phase_after, may_take_index, index_words, Seen, AddsStep, made_by, shape_of, makes, Progress, scan_on, looks_on, stepped, progressed, progress_of, IsProper, IsProperStep, Purpose, Scan, taking, ended_scan, is_idle, word_taken as next_word, with_cand_word}
use Rattle.port_call.proofs.PortCore.PortLemmas.{adds_join}
use Rattle.port_call.specs.Registers.{Maps}
use Rattle.port_call.proofs.CoreProper.PartLemmas.{proper_append}
use Rattle.port_call.proofs.PieceLemmas.{seen_nil}
use Rattle.port_call.proofs.SettleLemmas.{handed_none}
use Rattle.port_call.proofs.TryLemmas.{none_append}
use Rattle.port_call.proofs.TurnLemmas.{events_then}
use Rattle.pe_loop.specs.Counting.{bits_in, bits_taken, AreTaken}
use Rattle.pe_loop.proofs.CountLemmas.{none_taken_at, taken_append, taken_more, taken_one}
use Rattle.pe_loop.specs.Scanning.{IsScanAt, told_by, phase_taken, IsTaking}

-- Phases.

may_still : (shape : GuestShape) (words : ℕ) (phase : Phase) → IsTrue (may_take_index phase) → IsTrue (may_take_index (phase_taken shape words phase))
may_still shape words Scanning h = of (words == index_words shape)
  where
    of : (b : Bool) → IsTrue (may_take_index (if b then Claiming else Scanning))
    of true = refl
    of false = refl
may_still shape words Claiming h = h
may_still shape words Loaded h = h
may_still shape words Off h = absurd (cc)
may_still shape words Folding h = absurd (cc)

phase_more : (shape : GuestShape) (words : ℕ) (phase : Phase) → (words == index_words shape) ≡ false → phase_after shape words (phase_taken shape words phase) ≡ phase_taken shape (words + 1) phase
phase_more shape words Scanning e = ap (λ b. phase_after shape words (if b then Claiming else Scanning)) e
phase_more shape words Claiming e = refl
phase_more shape words Loaded e = refl
phase_more shape words Off e = refl
phase_more shape words Folding e = refl

phase_none : (shape : GuestShape) (phase : Phase) → (0 == index_words shape) ≡ false → phase ≡ phase_taken shape 0 phase
phase_none shape Scanning e = sym (ap (λ b. if b then Claiming else Scanning) e)
phase_none shape Claiming e = refl
phase_none shape Loaded e = refl
phase_none shape Off e = refl
phase_none shape Folding e = refl

-- The scan.

-- a scan that has not all words goes on as it is
pub still_taking : (shape : GuestShape) (actor : ℕ) (p : Progress) (purpose : Purpose) (words : ℕ) → (words == index_words shape) ≡ false → scan_on shape actor (record p { scan = taking purpose words }) ≡ record p { scan = taking purpose words }
still_taking shape actor p purpose words e =
    let q : Progress = record p { scan = taking purpose words } in
    ap (λ b. let on = if b then looks_on shape actor purpose 0 [] q else q in record on { scan = ended_scan on.local on.scan }) e

pub less_words : (shape : GuestShape) (word : ℕ) → word < index_words shape → (word == index_words shape) ≡ false
less_words shape word l = false_from_ne_true (word == index_words shape) (λ e. let same = eqb-true word (index_words shape) e in omega (arith, l, same))

-- the next word
word_proper : (shape : GuestShape) (actor word : ℕ) (p : Progress) (purpose : Purpose) → p.scan ≡ taking purpose word → IsProperStep shape actor p (TakeIndex word)
word_proper shape actor word p purpose e =
    let At : Scan → Type 0 = λ scan. IsProperStep shape actor (record p { scan = scan }) (TakeIndex word) in
    subst At (sym e) (record { scan = eq-eqb word word refl; trap = refl; failed = refl; far = refl; refill = refl; want = refl; seen = refl })

word_stepped : (shape : GuestShape) (actor word : ℕ) (p : Progress) (purpose : Purpose) (found left : ℕ) (tables : Option Maps) → p.scan ≡ taking purpose word
    → stepped shape actor (record { step = TakeIndex word; found = found; left = left; tables = tables }) p
    ≡ scan_on shape actor (record p { local = local_after shape actor p.local (TakeIndex word) found; own = p.own ++ (record { step = TakeIndex word; found = found; left = left; tables = tables }) ∷ []; scan = taking purpose (word + 1) })
word_stepped shape actor word p purpose found left tables e =
    let own = p.own ++ (record { step = TakeIndex word; found = found; left = left; tables = tables }) ∷ [] in
    let local = local_after shape actor p.local (TakeIndex word) found in
    let by_scan : Scan → Progress = λ scan. scan_on shape actor (record p { local = local; own = own; scan = next_word scan; scanned = p.scanned || is_idle scan }) in
    let by_scanned : Bool → Progress = λ scanned. scan_on shape actor (record p { local = local; own = own; scan = taking purpose (word + 1); scanned = scanned }) in
    ap by_scan e ∙ ap by_scanned (or_false p.scanned)
  where
    or_false : (b : Bool) → (b || false) ≡ b
    or_false true = refl
    or_false false = refl

-- Steps.

range_more : (n : ℕ) → range_with_len 0 (n + 1) ≡ range_with_len 0 n ++ n ∷ []
range_more n = let one : n + 1 ≡ suc n = omega arith in ap (range_with_len 0) one ∙ range_with_len_more 0 n n (omega arith)

pub none_taken_yet : (seen : Seen) → 1 ≤ index_words (shape_of seen) → IsTaking seen seen 0
none_taken_yet seen some =
    let none : (0 == index_words (shape_of seen)) ≡ false = less_words (shape_of seen) 0 some in
    record {
      part = [];
      adds = record { new_is = sym (seen_nil seen) };
      steps_are = refl;
      same = refl;
      phase = phase_none (shape_of seen) seen.local.phase none;
      none_taken = refl;
      silent = refl;
      taken = λ none. none_taken_at seen.local.cands none;
      proper = λ purpose p at. tt;
      goes_on = λ purpose p at. as_it_is purpose p at ∙ sym (still_taking (shape_of seen) seen.actor (told_by seen p) purpose 0 none);
    }
  where
    as_it_is : (purpose : Purpose) (p : Progress) → IsScanAt seen p (taking purpose 0) → p ≡ record (told_by seen p) { scan = taking purpose 0 }
    as_it_is purpose p at =
        let make : Local → List Made → Scan → Progress = λ local own scan. record p { local = local; own = own; scan = scan } in
        ap (λ local. make local p.own p.scan) at.local ∙ ap (λ own. make seen.local own p.scan) at.own ∙ ap (make seen.local seen.own) at.is

pub word_taken : (old now new : Seen) (word found : ℕ) → word < index_words (shape_of old) → word < length now.local.cands.words → IsTaking old now word → AddsStep now new (TakeIndex word) found → IsTaking old new (word + 1)
word_taken old now new word found within room so add =
    let shape = shape_of old in
    let made = made_by now (TakeIndex word) found add.tables in
    let less : (word == index_words shape) ≡ false = less_words shape word within in
    let after = so.adds.new_is in
    let back : Local → Local = λ local. record local { cands = old.local.cands; phase = old.local.phase } in
    let at : (purpose : Purpose) (p : Progress) → IsScanAt old p (taking purpose 0) → progress_of shape old.actor p (map makes so.part) ≡ record (told_by now p) { scan = taking purpose word }
    = λ purpose p at. so.goes_on purpose p at ∙ still_taking shape old.actor (told_by now p) purpose word less in
    let shape_is : shape_of now ≡ shape = ap shape_of after in
    let actor_is : now.actor ≡ old.actor = ap (λ seen. seen.actor) after in
    record {
      part = so.part ++ made ∷ [];
      adds = adds_join old now new so.part (made ∷ []) so.adds add.adds;
      steps_are = map-append (λ made. made.step) so.part (made ∷ []) ∙ ap (λ steps. steps ++ TakeIndex word ∷ []) so.steps_are ∙ sym (map-append TakeIndex (range_with_len 0 word) (word ∷ [])) ∙ ap (map TakeIndex) (sym (range_more word));
      same = ap back (ap (λ seen. seen.local) add.adds.new_is) ∙ so.same;
      phase = ap (λ seen. seen.local.phase) add.adds.new_is ∙ ap (λ shape. phase_after shape word now.local.phase) shape_is ∙ ap (phase_after shape word) so.phase ∙ phase_more shape word old.local.phase less;
      none_taken = none_append so.part (made ∷ []) so.none_taken (ap (λ b. b && true) (handed_none (TakeIndex word) found now add.tables refl add.handed));
      silent = events_then old now so.part (made ∷ []) so.adds ∙ ap (λ events. events ++ []) so.silent;
      taken = λ none.
          let cands : new.local.cands ≡ with_cand_word now.local.cands word found = ap (λ seen. seen.local.cands) add.adds.new_is in
          let one : bits_taken (made ∷ []) ≡ bits_in found = taken_one made in
          let both = taken_append so.part (made ∷ []) in
          let bits : bits_taken so.part + bits_in found ≡ bits_taken (so.part ++ made ∷ []) = omega (arith, one, both) in
          subst (λ cands. AreTaken cands (word + 1) (bits_taken (so.part ++ made ∷ []))) (sym cands) (subst (AreTaken (with_cand_word now.local.cands word found) (word + 1)) bits (taken_more now.local.cands word found (bits_taken so.part) room (so.taken none)));
      proper = λ purpose p is.
          subst (IsProper shape old.actor p) (sym (map-append makes so.part (made ∷ [])))
          ((proper_append shape old.actor p (map makes so.part) (makes made ∷ [])).1
          (so.proper purpose p is, (word_proper shape old.actor word (progress_of shape old.actor p (map makes so.part)) purpose (ap (λ q. q.scan) (at purpose p is)), tt)));
      goes_on = λ purpose p is.
          let q = progress_of shape old.actor p (map makes so.part) in
          let next : Progress → Progress = λ q. scan_on shape old.actor (record q { local = local_after shape old.actor q.local (TakeIndex word) found; own = q.own ++ made ∷ []; scan = taking purpose (word + 1) }) in
          let last : Local → List Made → Progress = λ local own. scan_on shape old.actor (record p { local = local; own = own; scan = taking purpose (word + 1) }) in
          let local_is : local_after shape old.actor now.local (TakeIndex word) found ≡ new.local
          = sym (ap (λ seen. seen.local) add.adds.new_is ∙ ap (λ seen. local_after (shape_of seen) seen.actor now.local (TakeIndex word) found) after) in
          ap (progress_of shape old.actor p) (map-append makes so.part (made ∷ [])) ∙ fold-append (progressed shape old.actor) p (map makes so.part) (makes made ∷ [])
          ∙ word_stepped shape old.actor word q purpose found made.left add.tables (ap (λ q. q.scan) (at purpose p is))
          ∙ ap next (at purpose p is)
          ∙ ap (λ local. last local (now.own ++ made ∷ [])) local_is
          ∙ ap (last new.local) (sym (ap (λ seen. seen.own) add.adds.new_is));
    }
