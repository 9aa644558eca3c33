-- What seats know after a step, a split or a join.
use Rattle.std.proofs.Common.{◌≡◌, ◌≢◌, ◌⊎◌, inl, inr, ℕ, ◌<◌, ◌==◌, true, false, IsTrue, List, [], ◌∷◌, ◌++◌, length, get_or, set, Some, None, sym, ap, subst, ◌∙◌}
use Rattle.std.proofs.lemmas.Bool.{and_parts, or_cases, eqb-true}
use Rattle.std.proofs.lemmas.List.Folds.{list_any-append}
use mathlib.Core.Option.{some}
use lib.ListN.{get_elem?}
use Rattle.atomic_table.proofs.Lists.{at_set, at_snoc}
use Rattle.vcpu_shelf.specs.declared.view.Deed.{Deed}
use Rattle.vcpu_shelf.specs.declared.view.Deed.TheVariants.{Looked}
use Rattle.vcpu_shelf.specs.declared.view.View.{View}
use Rattle.vcpu_shelf.specs.Rule.{AreViews}
use Rattle.vcpu_shelf.specs.View.{finds_finished, is_found_finished, no_view, joined}
use Rattle.vcpu_shelf.specs.Word.{is_taken, is_finished}
use Rattle.vcpu_shelf.proofs.WordLemmas.{after_set}

-- what two lists found finished
pub found_in_either : (place : ℕ) (deeds more : List Deed) → IsTrue (is_found_finished place (deeds ++ more)) → IsTrue (is_found_finished place deeds) ⊎ IsTrue (is_found_finished place more)
found_in_either place deeds more found = or_cases (is_found_finished place deeds) (is_found_finished place more) (sym (list_any-append (finds_finished place) deeds more) ∙ found)

-- what one more look found finished
pub found_by_look : (place at found : ℕ) → IsTrue (is_found_finished place (Looked at found ∷ [])) → (at ≡ place) × IsTrue (is_finished found)
found_by_look place at found h =
    elim (or_cases (finds_finished place (Looked at found)) false h) [
      | inl here ↦ (let both = and_parts (at == place) (is_finished found) here in (eqb-true at place both.0, both.1))
      | inr past ↦ (let never : false ≡ true = past in absurd (cc))
    ]

-- no more than a list of seats' views knew: each view is of what stands so in the words, and is out as one at its place was
pub record Comes (words : List ℕ) (views : List View) (id : ℕ) (view : View) : Type 0 where
  pub finished : (place : ℕ) → IsTrue (is_found_finished place view.deeds) → IsTrue (is_finished (get_or words place 0))
  pub out : (place : ℕ) → view.out ≡ Some place → (before : View) × (get_elem? views id ≡ some before) × (before.out ≡ Some place)

pub views_come : (words : List ℕ) (views after : List View) → AreViews words views → ((id : ℕ) (view : View) → get_elem? after id ≡ some view → Comes words views id view) → AreViews words after
views_come words views after are come =
    record {
      finished = λ id place view at found. (come id view at).finished place found;
      taken = λ id place view at out. let was = (come id view at).out place out in are.taken id place was.0 was.1 was.2;
      apart = λ one other place view more at there out too. let was = (come one view at).out place out in let and = (come other more there).out place too in are.apart one other place was.0 and.0 was.1 and.1 was.2 and.2;
    }

-- a view that was there comes
pub comes_same : (words : List ℕ) (views : List View) (id : ℕ) (view : View) → AreViews words views → get_elem? views id ≡ some view → Comes words views id view
comes_same words views id view are at = record { finished = λ place found. are.finished id place view at found; out = λ place out. (view, at, out) }

comes_none : (words : List ℕ) (views : List View) (id : ℕ) → Comes words views id no_view
comes_none words views id =
    record {
      finished = λ place found. let never : false ≡ true = found in absurd (cc);
      out = λ place out. let never : None ≡ Some place = out in absurd (cc);
    }

-- one more step of a seat, which has the same out, and whose look tells what stands in the words
pub comes_more : (words : List ℕ) (views : List View) (id : ℕ) (view : View) (more : List Deed) → AreViews words views → get_elem? views id ≡ some view
    → ((place : ℕ) → IsTrue (is_found_finished place more) → IsTrue (is_finished (get_or words place 0))) → Comes words views id record { deeds = view.deeds ++ more; out = view.out }
comes_more words views id view more are at tells =
    record {
      finished = λ place found. elim (found_in_either place view.deeds more found) [
        | inl before ↦ are.finished id place view at before
        | inr now ↦ tells place now
      ];
      out = λ place out. (view, at, out);
    }

pub views_more : (words : List ℕ) (views : List View) (id : ℕ) (view : View) (more : List Deed) → AreViews words views → get_elem? views id ≡ some view
    → ((place : ℕ) → IsTrue (is_found_finished place more) → IsTrue (is_finished (get_or words place 0))) → AreViews words (set views id record { deeds = view.deeds ++ more; out = view.out })
views_more words views id view more are at tells =
    let next : View = record { deeds = view.deeds ++ more; out = view.out } in
    views_come words views (set views id next) are (λ i x e. elim (at_set views id i next x e) [
      | inl same ↦ subst (Comes words views i) same.1 (subst (λ n. Comes words views n next) (sym same.0) (comes_more words views id view more are at tells))
      | inr else ↦ comes_same words views i x are else.1
    ])

-- a new seat
pub views_split : (words : List ℕ) (views : List View) (id : ℕ) (view : View) → AreViews words views → get_elem? views id ≡ some view → AreViews words (set views id view ++ no_view ∷ [])
views_split words views id view are at =
    views_come words views (set views id view ++ no_view ∷ []) are (λ i x e. elim (at_snoc (set views id view) no_view x i e) [
      | inl before ↦ elim (at_set views id i view x before) [
        | inl same ↦ subst (Comes words views i) same.1 (subst (λ n. Comes words views n view) (sym same.0) (comes_same words views id view are at))
        | inr else ↦ comes_same words views i x are else.1
      ]
      | inr new ↦ subst (Comes words views i) new (comes_none words views i)
    ])

-- a seat with the steps of another, which is spent
pub views_join : (words : List ℕ) (views : List View) (id other : ℕ) (view more : View) → AreViews words views → get_elem? views id ≡ some view → get_elem? views other ≡ some more
    → AreViews words (set (set views id (joined view more)) other no_view)
views_join words views id other view more are at there =
    let both : View = joined view more in
    views_come words views (set (set views id both) other no_view) are (λ i x e. elim (at_set (set views id both) other i no_view x e) [
      | inl spent ↦ subst (Comes words views i) spent.1 (comes_none words views i)
      | inr before ↦ elim (at_set views id i both x before.1) [
        | inl same ↦ subst (Comes words views i) same.1 (subst (λ n. Comes words views n both) (sym same.0) (comes_more words views id view more.deeds are at (λ place found. are.finished other place more there found)))
        | inr else ↦ comes_same words views i x are else.1
      ]
    ])

-- a step of a seat by which the word of a place changed, and which no other seat has out
pub record Changes (words : List ℕ) (views : List View) (place word id : ℕ) (next : View) : Type 0 where
  pub finished : IsTrue (is_finished (get_or words place 0)) → IsTrue (is_finished word)
  pub alone : (other : ℕ) (view : View) → other ≢ id → get_elem? views other ≡ some view → view.out ≢ Some place
  pub found : (at : ℕ) → IsTrue (is_found_finished at next.deeds) → IsTrue (is_finished (get_or words at 0))
  pub out : (at : ℕ) → next.out ≡ Some at → (at ≡ place) × IsTrue (is_taken word)

pub views_change : (words : List ℕ) (views : List View) (place word id : ℕ) (next : View) → place < length words → AreViews words views → Changes words views place word id next → AreViews (set words place word) (set views id next)
views_change words views place word id next there are changes =
    record {
      finished = λ i at view e found. keeps at (elim (at_set views id i next view e) [
        | inl same ↦ changes.found at (subst (λ (v : View). IsTrue (is_found_finished at v.deeds)) (sym same.1) found)
        | inr else ↦ are.finished i at view else.1 found
      ]);
      taken = λ i at view e out. elim (at_set views id i next view e) [
        | inl same ↦ mine at (ap (λ (v : View). v.out) same.1 ∙ out)
        | inr else ↦ after_set words place word at (λ n. IsTrue (is_taken n)) there
            (λ here. absurd (changes.alone i view else.0 else.1 (out ∙ ap (λ (n : ℕ). Some n) here)))
            (λ _. are.taken i at view else.1 out)
      ];
      apart = λ one other at view more e f out too. elim (at_set views id one next view e) [
        | inl same ↦ elim (at_set views id other next more f) [
          | inl too ↦ same.0 ∙ sym too.0
          | inr else ↦ (let mine = changes.out at (ap (λ (v : View). v.out) same.1 ∙ out) in absurd (changes.alone other more else.0 else.1 (too ∙ ap (λ (n : ℕ). Some n) mine.0)))
        ]
        | inr else ↦ elim (at_set views id other next more f) [
          | inl same ↦ (let mine = changes.out at (ap (λ (v : View). v.out) same.1 ∙ too) in absurd (changes.alone one view else.0 else.1 (out ∙ ap (λ (n : ℕ). Some n) mine.0)))
          | inr both ↦ are.apart one other at view more else.1 both.1 out too
        ]
      ];
    }
  where
    keeps : (at : ℕ) → IsTrue (is_finished (get_or words at 0)) → IsTrue (is_finished (get_or (set words place word) at 0))
    keeps at found = after_set words place word at (λ n. IsTrue (is_finished n)) there (λ here. changes.finished (subst (λ k. IsTrue (is_finished (get_or words k 0))) here found)) (λ _. found)

    mine : (at : ℕ) → next.out ≡ Some at → IsTrue (is_taken (get_or (set words place word) at 0))
    mine at out = let is = changes.out at out in after_set words place word at (λ n. IsTrue (is_taken n)) there (λ _. is.1) (λ differ. absurd (differ is.0))
