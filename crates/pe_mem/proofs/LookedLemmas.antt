-- A look at an LPI in its place stays so among more steps of its actor.
use Rattle.std.proofs.Common.{◌≡◌, ℕ, ◌≤◌, Bool, true, IsTrue, List, [], ◌∷◌, ◌++◌, Option, refl, sym, ap, subst, ◌∙◌, arith}
use Rattle.std.proofs.lemmas.Bool.{and_from, and_parts, lt-ltb, ltb-true}
use Rattle.std.proofs.lemmas.List.{append_assoc}
use Rattle.std.proofs.lemmas.List.Folds.{list_all-append}
use Rattle.its_exec.specs.Words.{Lpi, target_in, irq_of}
use Rattle.its_exec.specs.Calls.{Event, Touch, Happened}
use Rattle.its_exec.specs.Core.{Made, Seen, Adds, part_events, seen_after, shape_of}
use Rattle.its_exec.proofs.PortCore.PortLemmas.{seen_joins}
use Rattle.its_exec.proofs.PortCall.TurnLemmas.{events_then}
use Rattle.its_exec.specs.Parts.{LooksAtTarget}
use Rattle.pe_mem.specs.Looked.{IsLookedAt, all_events, comes_after, comes_before}

pub all_both : (test : Event → Bool) (first next : List Happened) → IsTrue (all_events test first) → IsTrue (all_events test next) → IsTrue (all_events test (first ++ next))
all_both test first next one two = list_all-append (λ (happened : Happened). test happened.event) first next ∙ and_from (all_events test first) (all_events test next) one two

-- what comes before the look at an LPI comes before that at a higher one
pub before_higher : (id higher : ℕ) → id ≤ higher → (events : List Happened) → IsTrue (all_events (comes_before id) events) → IsTrue (all_events (comes_before higher) events)
before_higher id higher above [] all = refl
before_higher id higher above (one ∷ events) all =
    let parts = and_parts (comes_before id one.event) (all_events (comes_before id) events) all in
    and_from (comes_before higher one.event) (all_events (comes_before higher) events) (of one.event parts.0) (before_higher id higher above events parts.1)
  where
    of : (event : Event) → comes_before id event ≡ true → comes_before higher event ≡ true
    of (Touch (Lpi other) touching) h = let lower = ltb-true other id h in lt-ltb other higher (omega (arith, lower, above))
    of event h = refl

-- a look after some steps
pub looked_here : (old mid new : Seen) (part : List Made) (id : ℕ) (target : Option ℕ) → Adds old mid part → IsTrue (all_events (comes_before id) (part_events old part)) → (looks : LooksAtTarget mid new id target) → IsLookedAt old (part ++ looks.look ∷ []) id target
looked_here old mid new part id target adds before looks =
    record {
      early = part;
      look = looks.look;
      late = [];
      split = refl;
      step_is = looks.step_is;
      target_is = looks.target_is ∙ ap (λ (seen : Seen). target_in (irq_of looks.look.found).route (shape_of seen)) adds.new_is;
      before = before;
      after = refl;
    }

-- with steps before it
pub looked_after : (old mid : Seen) (front part : List Made) (id : ℕ) (target : Option ℕ) → Adds old mid front → IsTrue (all_events (comes_before id) (part_events old front)) → IsLookedAt mid part id target → IsLookedAt old (front ++ part) id target
looked_after old mid front part id target adds before is =
    let upto = is.early ++ is.look ∷ [] in
    let same : seen_after mid upto ≡ seen_after old ((front ++ is.early) ++ is.look ∷ [])
    = ap (λ (seen : Seen). seen_after seen upto) adds.new_is ∙ sym (seen_joins old front upto) ∙ ap (seen_after old) (sym (append_assoc front is.early (is.look ∷ []))) in
    record {
      early = front ++ is.early;
      look = is.look;
      late = is.late;
      split = ap (λ steps. front ++ steps) is.split ∙ sym (append_assoc front is.early (is.look ∷ is.late));
      step_is = is.step_is;
      target_is = is.target_is ∙ ap (λ (seen : Seen). target_in (irq_of is.look.found).route (shape_of seen)) adds.new_is;
      before = ap (all_events (comes_before id)) (events_then old mid front is.early adds) ∙ all_both (comes_before id) (part_events old front) (part_events mid is.early) before is.before;
      after = subst (λ (seen : Seen). IsTrue (all_events (comes_after id) (part_events seen is.late))) same is.after;
    }

-- with steps after it
pub looked_before : (old mid : Seen) (part back : List Made) (id : ℕ) (target : Option ℕ) → Adds old mid part → IsTrue (all_events (comes_after id) (part_events mid back)) → IsLookedAt old part id target → IsLookedAt old (part ++ back) id target
looked_before old mid part back id target adds after is =
    let upto = is.early ++ is.look ∷ [] in
    let at = seen_after old upto in
    let rest : Adds at mid is.late
    = record { new_is = adds.new_is ∙ ap (seen_after old) (is.split ∙ sym (append_assoc is.early (is.look ∷ []) is.late)) ∙ seen_joins old upto is.late } in
    record {
      early = is.early;
      look = is.look;
      late = is.late ++ back;
      split = ap (λ steps. steps ++ back) is.split ∙ append_assoc is.early (is.look ∷ is.late) back;
      step_is = is.step_is;
      target_is = is.target_is;
      before = is.before;
      after = ap (all_events (comes_after id)) (events_then at mid is.late back rest) ∙ all_both (comes_after id) (part_events at is.late) (part_events mid back) is.after after;
    }
