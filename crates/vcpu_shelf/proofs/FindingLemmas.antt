-- The findings of a scan, place by place.
use Rattle.std.proofs.Common.{◌≡◌, inl, inr, ℕ, ◌+◌, ◌-◌, ◌<◌, ◌≤◌, ◌==◌, ◌&&◌, suc, Bool, true, false, cond, IsTrue, All, List, [], ◌∷◌, ◌++◌, length, Option, Some, None, refl, sym, ap, subst, ◌∙◌, arith}
use Rattle.std.proofs.lemmas.Bool.{eq-eqb, and_from, cases_eq, or_left, or_right}
use Rattle.std.proofs.lemmas.List.{append-nil, append_assoc, length_push}
use Rattle.std.proofs.lemmas.List.Elements.{All-push, All-head, All-tail}
use Rattle.std.proofs.lemmas.List.Folds.{list_all-append}
use Rattle.std.specs.List.{list_all, list_any}
use Rattle.atomic_table.specs.Seated.{TableId}
use Rattle.atomic_table.specs.Table.{Me}
use Rattle.vcpu_shelf.specs.declared.scan.Found.TheVariants.{Finished, Held, Had}
use Rattle.vcpu_shelf.specs.declared.traveller.Taken.{Taken as Answer}
use Rattle.vcpu_shelf.specs.declared.traveller.Taken.TheVariants.{Vcpu, Busy, AllDone}
use Rattle.vcpu_shelf.specs.declared.view.Deed.{Deed}
use Rattle.vcpu_shelf.specs.declared.view.Deed.TheVariants.{Looked}
use Rattle.vcpu_shelf.specs.declared.view.View.{View}
use Rattle.vcpu_shelf.specs.Answer.{IsAnswer, IsTaking}
use Rattle.vcpu_shelf.specs.Found.{Finds, IsFound, out_at}
use Rattle.vcpu_shelf.specs.Scan.{Finding, FoundFinished, FoundTaken, Lost, Won, Outcome, Got, SomeLeft, NoneLeft, IsFinding, deeds_at, deeds_from, is_whole, outcome_from, outcome, out_after}
use Rattle.vcpu_shelf.specs.Told.{SeatTold}
use Rattle.vcpu_shelf.specs.View.{finds_finished, is_found_finished}
use Rattle.vcpu_shelf.specs.Word.{is_finished}
use Rattle.vcpu_shelf.proofs.ToldLemmas.{found_right}

-- a place was not won; it was found finished
abbrev pub is_miss : Finding → Bool
is_miss (Won word) = false
is_miss (FoundFinished word) = true
is_miss (FoundTaken word) = true
is_miss (Lost word found) = true

abbrev pub says_finished : Finding → Bool
says_finished (FoundFinished word) = true
says_finished (FoundTaken word) = false
says_finished (Lost word found) = false
says_finished (Won word) = false

pub deeds_append : (place : ℕ) (findings more : List Finding) → deeds_from place (findings ++ more) ≡ deeds_from place findings ++ deeds_from (place + length findings) more
deeds_append place [] more = let e : place ≡ place + 0 = omega arith in ap (λ (n : ℕ). deeds_from n more) e
deeds_append place (finding ∷ findings) more =
    let e : place + 1 + length findings ≡ place + suc (length findings) = omega arith in
    ap (λ (deeds : List Deed). deeds_at place finding ++ deeds) (deeds_append (place + 1) findings more) ∙ sym (append_assoc (deeds_at place finding) (deeds_from (place + 1) findings) (deeds_from (place + 1 + length findings) more))
    ∙ ap (λ (n : ℕ). (deeds_at place finding ++ deeds_from (place + 1) findings) ++ deeds_from n more) e

and_true : (b : Bool) → (b && true) ≡ b
and_true true = refl
and_true false = refl

and_false : (b : Bool) → (b && false) ≡ false
and_false true = refl
and_false false = refl

-- what comes after findings of which none was won
pub outcome_misses : (place : ℕ) (all : Bool) (misses more : List Finding) → list_all is_miss misses ≡ true → outcome_from place all (misses ++ more) ≡ outcome_from (place + length misses) (all && list_all says_finished misses) more
outcome_misses place all [] more h = let e : place ≡ place + 0 = omega arith in ap (λ (n : ℕ). outcome_from n all more) e ∙ ap (λ (b : Bool). outcome_from (place + 0) b more) (sym (and_true all))
outcome_misses place all (FoundFinished word ∷ misses) more h =
    let e : place + 1 + length misses ≡ place + suc (length misses) = omega arith in outcome_misses (place + 1) all misses more h ∙ ap (λ (n : ℕ). outcome_from n (all && list_all says_finished misses) more) e
outcome_misses place all (FoundTaken word ∷ misses) more h =
    let e : place + 1 + length misses ≡ place + suc (length misses) = omega arith in
    outcome_misses (place + 1) false misses more h ∙ ap (λ (n : ℕ). outcome_from n false more) e ∙ ap (λ (b : Bool). outcome_from (place + suc (length misses)) b more) (sym (and_false all))
outcome_misses place all (Lost word found ∷ misses) more h =
    let e : place + 1 + length misses ≡ place + suc (length misses) = omega arith in
    outcome_misses (place + 1) false misses more h ∙ ap (λ (n : ℕ). outcome_from n false more) e ∙ ap (λ (b : Bool). outcome_from (place + suc (length misses)) b more) (sym (and_false all))
outcome_misses place all (Won word ∷ misses) more h = absurd (cc)

pub whole_misses : (left : ℕ) (misses more : List Finding) → list_all is_miss misses ≡ true → is_whole (length misses + left) (misses ++ more) ≡ is_whole left more
whole_misses left [] more h = let e : 0 + left ≡ left = omega arith in ap (λ (n : ℕ). is_whole n more) e
whole_misses left (FoundFinished word ∷ misses) more h =
    let e : suc (length misses) + left ≡ suc (length misses + left) = omega arith in ap (λ (n : ℕ). is_whole n (FoundFinished word ∷ (misses ++ more))) e ∙ whole_misses left misses more h
whole_misses left (FoundTaken word ∷ misses) more h =
    let e : suc (length misses) + left ≡ suc (length misses + left) = omega arith in ap (λ (n : ℕ). is_whole n (FoundTaken word ∷ (misses ++ more))) e ∙ whole_misses left misses more h
whole_misses left (Lost word found ∷ misses) more h =
    let e : suc (length misses) + left ≡ suc (length misses + left) = omega arith in ap (λ (n : ℕ). is_whole n (Lost word found ∷ (misses ++ more))) e ∙ whole_misses left misses more h
whole_misses left (Won word ∷ misses) more h = absurd (cc)

-- each place of findings that are all finished was found finished
pub all_found : (start : ℕ) (findings : List Finding) → All IsFinding findings → list_all says_finished findings ≡ true → (place : ℕ) → start ≤ place → place < start + length findings → IsTrue (is_found_finished place (deeds_from start findings))
all_found start [] each h place low high = absurd (omega arith)
all_found start (FoundFinished word ∷ findings) each h place low high =
    elim (cases_eq start place) [
      | inl here ↦
          or_left (finds_finished place (Looked start word)) (list_any (finds_finished place) (deeds_from (start + 1) findings))
          (and_from (start == place) (is_finished word) (eq-eqb start place here) (All-head IsFinding (FoundFinished word) findings each))
      | inr else ↦
          or_right (finds_finished place (Looked start word)) (list_any (finds_finished place) (deeds_from (start + 1) findings))
          (all_found (start + 1) findings (All-tail IsFinding (FoundFinished word) findings each) h place (omega arith) (omega arith))
    ]
all_found start (FoundTaken word ∷ findings) each h place low high = absurd (cc)
all_found start (Lost word found ∷ findings) each h place low high = absurd (cc)
all_found start (Won word ∷ findings) each h place low high = absurd (cc)

-- a scan so far: none was won
pub record IsSoFar (place : ℕ) (all : Bool) (before now : View) : Type 0 where
  pub findings : List Finding
  pub each : All IsFinding findings
  pub missed : list_all is_miss findings ≡ true
  pub count : length findings ≡ place
  pub all_is : all ≡ list_all says_finished findings
  pub knows : now ≡ record { deeds = before.deeds ++ deeds_from 0 findings; out = None }

abbrev view_of : List Deed → Option ℕ → View
view_of deeds out = record { deeds = deeds; out = out }

pub begins : (before : View) → before.out ≡ None → IsSoFar 0 true before before
begins before out =
    record {
      findings = [];
      each = λ k d there. absurd (omega arith);
      missed = refl;
      count = refl;
      all_is = refl;
      knows = ap (view_of before.deeds) out ∙ ap (λ (deeds : List Deed). view_of deeds None) (sym (append-nil before.deeds));
    }

-- one more finding
more_deeds : (before now : View) (findings : List Finding) (finding : Finding) (place : ℕ) → length findings ≡ place → now ≡ view_of (before.deeds ++ deeds_from 0 findings) None
    → now.deeds ++ deeds_at place finding ≡ before.deeds ++ deeds_from 0 (findings ++ finding ∷ [])
more_deeds before now findings finding place count knows =
    let at : 0 + length findings ≡ place = omega arith in
    let one : deeds_from (0 + length findings) (finding ∷ []) ≡ deeds_at place finding = append-nil (deeds_at (0 + length findings) finding) ∙ ap (λ (n : ℕ). deeds_at n finding) at in
    ap (λ (v : View). v.deeds ++ deeds_at place finding) knows ∙ append_assoc before.deeds (deeds_from 0 findings) (deeds_at place finding)
    ∙ ap (λ (deeds : List Deed). before.deeds ++ deeds) (ap (λ (deeds : List Deed). deeds_from 0 findings ++ deeds) (sym one) ∙ sym (deeds_append 0 findings (finding ∷ [])))

goes_on : (place : ℕ) (all : Bool) (before now after : View) (finding : Finding) → IsSoFar place all before now → IsFinding finding → is_miss finding ≡ true → after ≡ view_of (now.deeds ++ deeds_at place finding) None
    → IsSoFar (place + 1) (all && says_finished finding) before after
goes_on place all before now after finding far is miss knows =
    record {
      findings = far.findings ++ finding ∷ [];
      each = All-push IsFinding far.findings finding far.each is;
      missed = list_all-append is_miss far.findings (finding ∷ []) ∙ and_from (list_all is_miss far.findings) (is_miss finding && true) far.missed (and_true (is_miss finding) ∙ miss);
      count = length_push far.findings finding ∙ ap (λ (n : ℕ). n + 1) far.count;
      all_is = ap (λ (b : Bool). b && says_finished finding) far.all_is ∙ ap (λ (b : Bool). list_all says_finished far.findings && b) (sym (and_true (says_finished finding))) ∙ sym (list_all-append says_finished far.findings (finding ∷ []));
      knows = knows ∙ ap (λ (deeds : List Deed). view_of deeds None) (more_deeds before now far.findings finding place far.count far.knows);
    }

module _ {T : Type 0} (place_of next_of : T → ℕ) (done_of : T → Bool) where
  pub next_finished : (place : ℕ) (all : Bool) (before : View) (now after : Me (Option T) View) → IsSoFar place all before now.0 → Finds place_of next_of done_of place now Finished after → IsSoFar (place + 1) all before after.0
  next_finished place all before now after far finds = of finds.finding finds.is finds.answer_is finds.knows
    where
      of : (f : Finding) → IsFinding f → IsFound place_of next_of done_of place f Finished → after.0 ≡ view_of (now.0.deeds ++ deeds_at place f) (out_at place f) → IsSoFar (place + 1) all before after.0
      of (FoundFinished word) is answer knows = subst (λ (b : Bool). IsSoFar (place + 1) b before after.0) (and_true all) (goes_on place all before now.0 after.0 (FoundFinished word) far is refl knows)
      of (FoundTaken word) is answer knows = absurd answer
      of (Lost word found) is answer knows = absurd answer
      of (Won word) is answer knows = absurd answer

  pub next_held : (place : ℕ) (all : Bool) (before : View) (now after : Me (Option T) View) → IsSoFar place all before now.0 → Finds place_of next_of done_of place now Held after → IsSoFar (place + 1) false before after.0
  next_held place all before now after far finds = of finds.finding finds.is finds.answer_is finds.knows
    where
      of : (f : Finding) → IsFinding f → IsFound place_of next_of done_of place f Held → after.0 ≡ view_of (now.0.deeds ++ deeds_at place f) (out_at place f) → IsSoFar (place + 1) false before after.0
      of (FoundFinished word) is answer knows = absurd answer
      of (FoundTaken word) is answer knows = subst (λ (b : Bool). IsSoFar (place + 1) b before after.0) (and_false all) (goes_on place all before now.0 after.0 (FoundTaken word) far is refl knows)
      of (Lost word found) is answer knows = subst (λ (b : Bool). IsSoFar (place + 1) b before after.0) (and_false all) (goes_on place all before now.0 after.0 (Lost word found) far is refl knows)
      of (Won word) is answer knows = absurd answer

  abbrev told_of : TableId → View → SeatTold
  told_of home view = record { home = home; deeds = view.deeds; out = view.out }

  -- the ends of a scan
  pub takes_had : (places place : ℕ) (all : Bool) (before : View) (home last : TableId) (now after : Me (Option T) View) (traveller : T) → place < places → last ≡ home → IsSoFar place all before now.0
      → Finds place_of next_of done_of place now (Had traveller) after → IsTaking place_of next_of done_of places (told_of home before) (Vcpu traveller) (told_of last after.0)
  takes_had places place all before home last now after traveller there same far finds = of finds.finding finds.is finds.answer_is finds.knows
    where
      of : (f : Finding) → IsFinding f → IsFound place_of next_of done_of place f (Had traveller) → after.0 ≡ view_of (now.0.deeds ++ deeds_at place f) (out_at place f)
          → IsTaking place_of next_of done_of places (told_of home before) (Vcpu traveller) (told_of last after.0)
      of (FoundFinished word) is answer knows = absurd answer
      of (FoundTaken word) is answer knows = absurd answer
      of (Lost word found) is answer knows = absurd answer
      of (Won word) is answer knows =
          let at : 0 + length far.findings ≡ place = let count = far.count in omega arith in
          let ends : outcome (far.findings ++ Won word ∷ []) ≡ Got place word = outcome_misses 0 true far.findings (Won word ∷ []) far.missed ∙ ap (λ (n : ℕ). Got n word) at in
          let left = places - suc place in
          let whole : length far.findings + suc left ≡ places = let count = far.count in omega arith in
          record {
            findings = far.findings ++ Won word ∷ [];
            scan = record { each = All-push IsFinding far.findings (Won word) far.each is; whole = ap (λ (n : ℕ). is_whole n (far.findings ++ Won word ∷ [])) (sym whole) ∙ whole_misses (suc left) far.findings (Won word ∷ []) far.missed };
            answer_is = subst (λ (o : Outcome). IsAnswer place_of next_of done_of o (Vcpu traveller)) (sym ends) answer;
            after_is =
                ap (λ (h : TableId). told_of h after.0) same ∙ ap (told_of home) knows ∙ ap (λ (deeds : List Deed). told_of home (view_of deeds (Some place))) (more_deeds before now.0 far.findings (Won word) place far.count far.knows)
                ∙ ap (λ (o : Outcome). told_of home (view_of (before.deeds ++ deeds_from 0 (far.findings ++ Won word ∷ [])) (out_after o))) (sym ends);
          }

  takes_none : (places : ℕ) (all : Bool) (before now : View) (home last : TableId) (far : IsSoFar places all before now) → last ≡ home → (answer : Answer T) → ((o : Outcome) → o ≡ cond all NoneLeft SomeLeft → IsAnswer place_of next_of done_of o answer × (out_after o ≡ None))
      → IsTaking place_of next_of done_of places (told_of home before) answer (told_of last now)
  takes_none places all before now home last far same answer ends =
      let came : outcome far.findings ≡ cond all NoneLeft SomeLeft =
      ap outcome (sym (append-nil far.findings)) ∙ outcome_misses 0 true far.findings [] far.missed ∙ ap (λ (b : Bool). cond b NoneLeft SomeLeft) (sym far.all_is) in
      let whole : length far.findings + 0 ≡ places = let count = far.count in omega arith in
      let is = ends (outcome far.findings) came in
      record {
        findings = far.findings;
        scan = record {
          each = far.each;
          whole = ap (λ (n : ℕ). is_whole n far.findings) (sym whole) ∙ ap (is_whole (length far.findings + 0)) (sym (append-nil far.findings)) ∙ whole_misses 0 far.findings [] far.missed;
        };
        answer_is = is.0;
        after_is = ap (λ (h : TableId). told_of h now) same ∙ ap (told_of home) far.knows ∙ ap (λ (o : Option ℕ). told_of home (view_of (before.deeds ++ deeds_from 0 far.findings) o)) (sym is.1);
      }

  pub takes_all : (places : ℕ) (before now : View) (home last : TableId) → IsSoFar places true before now → last ≡ home → IsTaking place_of next_of done_of places (told_of home before) AllDone (told_of last now)
  takes_all places before now home last far same = takes_none places true before now home last far same AllDone (λ o e. (subst (λ (x : Outcome). IsAnswer place_of next_of done_of x AllDone) (sym e) tt, ap out_after e))

  pub takes_busy : (places : ℕ) (before now : View) (home last : TableId) → IsSoFar places false before now → last ≡ home → IsTaking place_of next_of done_of places (told_of home before) Busy (told_of last now)
  takes_busy places before now home last far same = takes_none places false before now home last far same Busy (λ o e. (subst (λ (x : Outcome). IsAnswer place_of next_of done_of x Busy) (sym e) tt, ap out_after e))

-- all places were found finished
pub saw_all : (places : ℕ) (before now : View) → IsSoFar places true before now → (place : ℕ) → place < places → IsTrue (is_found_finished place now.deeds)
saw_all places before now far place there =
    let count = far.count in
    subst (λ (v : View). IsTrue (is_found_finished place v.deeds)) (sym far.knows) (found_right place before.deeds (deeds_from 0 far.findings) (all_found 0 far.findings far.each (sym far.all_is) place (omega arith) (omega arith)))
