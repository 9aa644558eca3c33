-- What one place comes to, and the findings of a scan.
use Rattle.std.proofs.Common.{◌≡◌, ◌≢◌, ℕ, ◌<◌, ◌==◌, Bool, false, cond, IsTrue, List, [], ◌∷◌, ◌++◌, Option, Some, None, sym, ap, subst, ◌∙◌}
use Rattle.std.proofs.lemmas.Bool.{eq-eqb, ne_eqb}
use Rattle.std.proofs.lemmas.List.{append_assoc}
use Rattle.atomic_table.specs.Table.{Me, rest}
use Rattle.vcpu_shelf.specs.declared.scan.Found.{Found}
use Rattle.vcpu_shelf.specs.declared.scan.Found.TheVariants.{Finished, Held, Had}
use Rattle.vcpu_shelf.specs.declared.view.Deed.{Deed}
use Rattle.vcpu_shelf.specs.declared.view.Deed.TheVariants.{Looked, Tried}
use Rattle.vcpu_shelf.specs.declared.view.View.{View}
use Rattle.vcpu_shelf.specs.Answer.{IsHandedOut}
use Rattle.vcpu_shelf.specs.Found.{Finds, out_at}
use Rattle.vcpu_shelf.specs.Rule.{IsLooked, IsTried}
use Rattle.vcpu_shelf.specs.Scan.{Finding, FoundFinished, FoundTaken, Lost, Won}
use Rattle.vcpu_shelf.specs.View.{tried}
use Rattle.vcpu_shelf.specs.Word.{is_free, is_finished}
use Rattle.vcpu_shelf.proofs.WordLemmas.{else_taken}

abbrev view_of : List Deed → Option ℕ → View
view_of deeds out = record { deeds = deeds; out = out }

-- what lies in the slot that was taken last
abbrev last_slot : {T : Type 0} → List (ℕ × Option T) → Option T
last_slot [] = None
last_slot (slot ∷ slots) = slot.1

-- a look of a seat with nothing out
looked_view : {T : Type 0} (place word : ℕ) (before after : Me (Option T) View) → before.0.out ≡ None → IsLooked place before word after → after.0 ≡ view_of (before.0.deeds ++ Looked place word ∷ []) None
looked_view place word before after out look = look.knows ∙ ap (view_of (before.0.deeds ++ Looked place word ∷ [])) out

-- a try after it
tried_view : {T : Type 0} (place word found : ℕ) (before middle : Me (Option T) View) → before.0.out ≡ None → IsLooked place before word middle
    → tried place word found middle.0 ≡ view_of (before.0.deeds ++ Looked place word ∷ Tried place word found ∷ []) (cond (found == word) (Some place) None)
tried_view place word found before middle out look =
    ap (tried place word found) (looked_view place word before middle out look)
    ∙ ap (λ (deeds : List Deed). view_of deeds (cond (found == word) (Some place) None)) (append_assoc before.0.deeds (Looked place word ∷ []) (Tried place word found ∷ []))

module _ {T : Type 0} (place_of next_of : T → ℕ) (done_of : T → Bool) where
  abbrev Comes : ℕ → Me (Option T) View → Found T → Me (Option T) View → Type 0
  Comes place before answer after = Finds place_of next_of done_of place before answer after

  pub finds_finished : (place word : ℕ) (before after : Me (Option T) View) → before.0.out ≡ None → before.1 ≡ [] → IsLooked place before word after → IsTrue (is_finished word) → Comes place before Finished after
  finds_finished place word before after out holds look finished =
      record { finding = FoundFinished word; is = finished; answer_is = tt; knows = looked_view place word before after out look; holds = look.holds ∙ holds }

  pub finds_taken :
      (place word : ℕ) (before after : Me (Option T) View) → before.0.out ≡ None → before.1 ≡ [] → IsLooked place before word after → is_finished word ≡ false → is_free word ≡ false → Comes place before Held after
  finds_taken place word before after out holds look finished free =
      record { finding = FoundTaken word; is = else_taken word look.state finished free; answer_is = tt; knows = looked_view place word before after out look; holds = look.holds ∙ holds }

  pub finds_lost :
      (place word found : ℕ) (before middle after : Me (Option T) View) → before.0.out ≡ None → before.1 ≡ [] → IsLooked place before word middle → IsTried place_of next_of done_of place word middle found after → IsTrue (is_free word) → found ≢ word
      → Comes place before Held after
  finds_lost place word found before middle after out holds look try free differ =
      record {
        finding = Lost word found;
        is = (free, differ);
        answer_is = tt;
        knows =
            try.knows ∙ tried_view place word found before middle out look
            ∙ ap (λ (b : Bool). view_of (before.0.deeds ++ Looked place word ∷ Tried place word found ∷ []) (cond b (Some place) None)) (ne_eqb found word differ);
        holds = try.lost differ ∙ look.holds ∙ holds;
      }

  -- the slot that a won try took
  pub took : (place word found : ℕ) (middle after : Me (Option T) View) → IsTried place_of next_of done_of place word middle found after → found ≡ word → (slot : Option T) × (after.1 ≡ (place, slot) ∷ rest after.1)
  took place word found middle after try same =
      let takes = try.won same in
      (Some takes.traveller, takes.holds ∙ ap (λ (slots : List (ℕ × Option T)). (place, Some takes.traveller) ∷ rest slots) (sym takes.holds))

  pub finds_won :
      (place word found : ℕ) (slot : Option T) (traveller : T) (before middle after : Me (Option T) View) (last : Me (Option T) View) → before.0.out ≡ None → before.1 ≡ [] → IsLooked place before word middle
      → IsTried place_of next_of done_of place word middle found after → IsTrue (is_free word) → found ≡ word → after.1 ≡ (place, slot) ∷ rest after.1 → slot ≡ Some traveller → last ≡ (after.0, (place, None) ∷ rest after.1)
      → Comes place before (Had traveller) last
  finds_won place word found slot traveller before middle after last out holds look try free same lay is left =
      let takes = try.won same in
      let both : Some takes.traveller ≡ Some traveller = ap last_slot (sym takes.holds ∙ lay) ∙ is in
      let it : takes.traveller ≡ traveller = cc in
      record {
        finding = Won word;
        is = free;
        answer_is =
            subst (IsHandedOut place_of next_of done_of place word) it record { at_is = takes.place; next = takes.next; done = takes.done };
        knows =
            ap (λ (m : Me (Option T) View). m.0) left ∙ try.knows ∙ tried_view place word found before middle out look
            ∙ ap (λ (b : Bool). view_of (before.0.deeds ++ Looked place word ∷ Tried place word found ∷ []) (cond b (Some place) None)) (eq-eqb found word same)
            ∙ ap (λ (n : ℕ). view_of (before.0.deeds ++ Looked place word ∷ Tried place word n ∷ []) (Some place)) same;
        holds = ap (λ (m : Me (Option T) View). m.1) left ∙ ap (λ (slots : List (ℕ × Option T)). (place, None) ∷ rest slots) (takes.holds) ∙ ap (λ (slots : List (ℕ × Option T)). (place, None) ∷ slots) (look.holds ∙ holds);
      }

  -- what is out after a finding is its place
  pub out_there : (place words : ℕ) (before : Me (Option T) View) (answer : Found T) (after : Me (Option T) View) → Comes place before answer after → place < words → (out : ℕ) → after.0.out ≡ Some out → out < words
  out_there place words before answer after finds there out is = of finds.finding (sym (ap (λ (v : View). v.out) finds.knows) ∙ is)
    where
      of : (f : Finding) → out_at place f ≡ Some out → out < words
      of (Won word) e = let at : place ≡ out = cc in subst (λ n. n < words) at there
      of (FoundFinished word) e = absurd (cc)
      of (FoundTaken word) e = absurd (cc)
      of (Lost word found) e = absurd (cc)
