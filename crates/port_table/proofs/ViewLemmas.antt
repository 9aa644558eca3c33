-- The views of a table's seats: after a step, after an actor is split off, and after one is joined again.
use Rattle.std.proofs.Common.{◌≡◌, ◌≢◌, ◌⊎◌, inl, inr, ℕ, zero, suc, ◌==◌, ◌||◌, ◌&&◌, not, Bool, true, false, cond, IsTrue, List, [], ◌∷◌, ◌++◌, map, length, set, refl, sym, ap, subst, ◌∙◌, arith}
use Rattle.std.proofs.lemmas.Bool.{or_left, or_right, or_cases, not_from_false, not-true, eq-eqb, ne_eqb, eqb-true, and_parts, and_from}
use Rattle.std.proofs.lemmas.List.{append-nil}
use mathlib.Core.Option.{some, some-injective, some-ne-none}
use lib.ListN.{get_elem?}
use Rattle.atomic_table.proofs.Lists.{at_set}
use Rattle.port_ops.specs.PortCore.declared.run.Entry.{Entry}
use Rattle.port_ops.specs.PortCore.declared.run.Made.{Made}
use Rattle.port_ops.specs.PortCore.Run.{own_steps}
use Rattle.port_ops.proofs.PortCore.RunLemmas.{own_joins}
use Rattle.port_table.specs.declared.view.Account.{Account}
use Rattle.port_table.specs.declared.view.View.{View}
use Rattle.port_table.specs.declared.view.View.TheVariants.{Root, Out, Spent}
use Rattle.port_table.specs.Rule.{IsRoot, AreViews}
use Rattle.port_table.proofs.AmongLemmas.{among_push, back_push, steps_none, steps_last, steps_else}
use Rattle.port_table.specs.View.{is_among, is_back, is_out, steps_of, actor_of, own_of, split_of, joined_of, with_account}

-- An actor's steps, and one more step.

own_mine : (world : List Entry) (entry : Entry) → own_steps entry.actor (world ++ entry ∷ []) ≡ own_steps entry.actor world ++ entry.made ∷ []
own_mine world entry = own_joins entry.actor world (entry ∷ []) ∙ ap (λ b. own_steps entry.actor world ++ map (λ (e : Entry). e.made) (cond b (entry ∷ []) [])) (eq-eqb entry.actor entry.actor refl)

own_other : (world : List Entry) (entry : Entry) (actor : ℕ) → entry.actor ≢ actor → own_steps actor (world ++ entry ∷ []) ≡ own_steps actor world
own_other world entry actor differ =
    own_joins actor world (entry ∷ []) ∙ ap (λ b. own_steps actor world ++ map (λ (e : Entry). e.made) (cond b (entry ∷ []) [])) (ne_eqb entry.actor actor differ) ∙ append-nil (own_steps actor world)

-- A step.

module _ (world : List Entry) (views : List View) (id : ℕ) (own : List Made) (entry : Entry) (are : AreViews world views) (at : get_elem? views id ≡ some (Out entry.actor own)) where
  abbrev next : View
  next = Out entry.actor (own ++ entry.made ∷ [])

  -- each seat of an actor was one before
  was_out : (i actor : ℕ) (list : List Made) → get_elem? (set views id next) i ≡ some (Out actor list) → (before : List Made) × (get_elem? views i ≡ some (Out actor before))
  was_out i actor list e =
      elim (at_set views id i next (Out actor list) e) [
        | inl same ↦
            (own, subst (λ n. get_elem? views n ≡ some (Out actor own)) (sym same.0) (subst (λ n. get_elem? views id ≡ some (Out n own)) (ap actor_of same.1) at))
        | inr else ↦ (list, else.1)
      ]

  knows : (i actor : ℕ) (list : List Made) → get_elem? (set views id next) i ≡ some (Out actor list) → list ≡ own_steps actor (world ++ entry ∷ [])
  knows i actor list e =
      elim (at_set views id i next (Out actor list) e) [
        | inl same ↦
            (sym (ap own_of same.1) ∙ ap (λ o. o ++ entry.made ∷ []) (are.own id entry.actor own at) ∙ sym (own_mine world entry) ∙ ap (λ n. own_steps n (world ++ entry ∷ [])) (ap actor_of same.1))
        | inr else ↦
            (are.own i actor list else.1 ∙ sym (own_other world entry actor (λ same. else.0 (are.apart i id actor list own else.1 (subst (λ n. get_elem? views id ≡ some (Out n own)) same at)))))
      ]

  rooted : (split : List ℕ) (joined : List Account) → IsRoot world views split joined → IsRoot (world ++ entry ∷ []) (set views id next) split joined
  rooted split joined root =
      record {
        out = λ i actor list e. let before = was_out i actor list e in root.out i actor before.0 before.1;
        back = root.back;
        kept = λ actor gone.
            root.kept actor gone
            ∙ sym (own_other world entry actor (λ same. let yes : is_out split joined actor ≡ true = subst (λ n. is_out split joined n ≡ true) same (root.out id entry.actor own at) in let both : true ≡ false = sym yes ∙ gone in absurd (cc)));
      }

  pub views_step : AreViews (world ++ entry ∷ []) (set views id next)
  views_step =
      record {
        first = λ i split joined e. elim (at_set views id i next (Root split joined) e) [
          | inl same ↦ (let no : next ≡ Root split joined = same.1 in absurd (cc))
          | inr else ↦ are.first i split joined else.1
        ];
        own = knows;
        apart = λ i j actor list more e f. let one = was_out i actor list e in let two = was_out j actor more f in are.apart i j actor one.0 two.0 one.1 two.1;
        root = λ i split joined e. elim (at_set views id i next (Root split joined) e) [
          | inl same ↦ (let no : next ≡ Root split joined = same.1 in absurd (cc))
          | inr else ↦ rooted split joined (are.root i split joined else.1)
        ];
      }

-- An actor is split off.

at_push : {A : Type 0} (l : List A) (a b : A) (j : ℕ) → get_elem? (l ++ a ∷ []) j ≡ some b → (get_elem? l j ≡ some b) ⊎ ((j ≡ length l) × (a ≡ b))
at_push [] a b zero e = inr (refl, some-injective a b e)
at_push [] a b (suc j) e = absurd (some-ne-none b (sym e))
at_push (x ∷ xs) a b zero e = inl e
at_push (x ∷ xs) a b (suc j) e =
    elim (at_push xs a b j e) [
      | inl here ↦ inl here
      | inr last ↦ inr ((let n = last.0 in omega arith), last.1)
    ]

module _
    (world : List Entry) (views : List View) (id actor : ℕ) (split : List ℕ) (joined : List Account) (are : AreViews world views) (at : get_elem? views id ≡ some (Root split joined)) (new : is_among actor split ≡ false) where
  abbrev noted : View
  noted = Root (split ++ actor ∷ []) joined

  abbrev with_new : List View
  with_new = set views id noted ++ Out actor [] ∷ []

  root_before : IsRoot world views split joined
  root_before = are.root id split joined at

  not_back : is_back actor joined ≡ false
  not_back = of (is_back actor joined) refl
    where
      of : (b : Bool) → is_back actor joined ≡ b → b ≡ false
      of false e = refl
      of true e = let both : true ≡ false = sym (root_before.back actor e) ∙ new in absurd (cc)

  not_out : is_out split joined actor ≡ false
  not_out = ap (λ b. b && not (is_back actor joined)) new

  -- each seat of an actor was one before, or is the new one
  out_or_new : (i one : ℕ) (list : List Made) → get_elem? with_new i ≡ some (Out one list) → (get_elem? views i ≡ some (Out one list)) ⊎ ((i ≡ length (set views id noted)) × (Out actor [] ≡ Out one list))
  out_or_new i one list e =
      elim (at_push (set views id noted) (Out actor []) (Out one list) i e) [
        | inl here ↦
            elim (at_set views id i noted (Out one list) here) [
              | inl same ↦ (let no : noted ≡ Out one list = same.1 in absurd (cc))
              | inr else ↦ inl else.1
            ]
        | inr last ↦ inr last
      ]

  -- the root is the one that it was
  root_only : (i : ℕ) (s : List ℕ) (j : List Account) → get_elem? with_new i ≡ some (Root s j) → (i ≡ id) × (noted ≡ Root s j)
  root_only i s j e =
      elim (at_push (set views id noted) (Out actor []) (Root s j) i e) [
        | inl here ↦
            elim (at_set views id i noted (Root s j) here) [
              | inl same ↦ same
              | inr else ↦ absurd (else.0 (are.first i s j else.1 ∙ sym (are.first id split joined at)))
            ]
        | inr last ↦ (let no : Out actor [] ≡ Root s j = last.1 in absurd (cc))
      ]

  among_more : (one : ℕ) → IsTrue (is_among one split) → IsTrue (is_among one (split ++ actor ∷ []))
  among_more one h = among_push one actor split ∙ or_left (is_among one split) (actor == one) h

  out_more : (one : ℕ) → IsTrue (is_out split joined one) → IsTrue (is_out (split ++ actor ∷ []) joined one)
  out_more one h = let parts = and_parts (is_among one split) (not (is_back one joined)) h in and_from (is_among one (split ++ actor ∷ [])) (not (is_back one joined)) (among_more one parts.0) parts.1

  out_new : IsTrue (is_out (split ++ actor ∷ []) joined actor)
  out_new =
      and_from (is_among actor (split ++ actor ∷ [])) (not (is_back actor joined)) (among_push actor actor split ∙ or_right (is_among actor split) (actor == actor) (eq-eqb actor actor refl)) (not_from_false (is_back actor joined) not_back)

  out_before : (one : ℕ) → is_out (split ++ actor ∷ []) joined one ≡ false → is_out split joined one ≡ false
  out_before one gone = of (is_out split joined one) refl
    where
      of : (b : Bool) → is_out split joined one ≡ b → b ≡ false
      of false e = refl
      of true e = let both : true ≡ false = sym (out_more one e) ∙ gone in absurd (cc)

  noted_root : IsRoot world with_new (split ++ actor ∷ []) joined
  noted_root =
      record {
        out = λ i one list e.
            elim (out_or_new i one list e) [
              | inl before ↦ out_more one (root_before.out i one list before)
              | inr last ↦ subst (λ n. IsTrue (is_out (split ++ actor ∷ []) joined n)) (ap actor_of last.1) out_new
            ];
        back = λ one h. among_more one (root_before.back one h);
        kept = λ one gone. root_before.kept one (out_before one gone);
      }

  pub views_split : AreViews world with_new
  views_split =
      record {
        first = λ i s j e. (root_only i s j e).0 ∙ are.first id split joined at;
        own = λ i one list e.
            elim (out_or_new i one list e) [
              | inl before ↦ are.own i one list before
              | inr last ↦
                  (sym (ap own_of last.1) ∙ sym (steps_none actor joined not_back) ∙ root_before.kept actor not_out ∙ ap (λ n. own_steps n world) (ap actor_of last.1))
            ];
        apart = λ i j one list more e f.
            elim (out_or_new i one list e) [
              | inl first ↦
                  elim (out_or_new j one more f) [
                    | inl second ↦ are.apart i j one list more first second
                    | inr last ↦
                        (let both : true ≡ false = sym (root_before.out i one list first) ∙ subst (λ n. is_out split joined n ≡ false) (ap actor_of last.1) not_out in absurd (cc))
                  ]
              | inr last ↦
                  elim (out_or_new j one more f) [
                    | inl second ↦
                        (let both : true ≡ false = sym (root_before.out j one more second) ∙ subst (λ n. is_out split joined n ≡ false) (ap actor_of last.1) not_out in absurd (cc))
                    | inr other ↦ last.0 ∙ sym other.0
                  ]
            ];
        root = λ i s j e. subst (λ v. IsRoot world with_new (split_of v) (joined_of v)) (root_only i s j e).1 noted_root;
      }

-- An actor is joined again.

module _
    (world : List Entry) (views : List View) (id other actor : ℕ) (split : List ℕ) (joined : List Account) (own : List Made) (are : AreViews world views) (at : get_elem? views id ≡ some (Root split joined)) (differ : other ≢ id)
    (there : get_elem? (set views id (Root split (with_account actor own joined))) other ≡ some (Out actor own)) where
  abbrev kept_root : View
  kept_root = Root split (with_account actor own joined)

  abbrev with_spent : List View
  with_spent = set (set views id kept_root) other Spent

  root_then : IsRoot world views split joined
  root_then = are.root id split joined at

  other_was : get_elem? views other ≡ some (Out actor own)
  other_was =
      elim (at_set views id other kept_root (Out actor own) there) [
        | inl same ↦ absurd (differ same.0)
        | inr else ↦ else.1
      ]

  -- each seat of an actor was one before, of another actor
  live : (i one : ℕ) (list : List Made) → get_elem? with_spent i ≡ some (Out one list) → (i ≢ other) × (get_elem? views i ≡ some (Out one list))
  live i one list e =
      elim (at_set (set views id kept_root) other i Spent (Out one list) e) [
        | inl same ↦ (let no : Spent ≡ Out one list = same.1 in absurd (cc))
        | inr else ↦
            elim (at_set views id i kept_root (Out one list) else.1) [
              | inl same ↦ (let no : kept_root ≡ Out one list = same.1 in absurd (cc))
              | inr more ↦ (else.0, more.1)
            ]
      ]

  root_alone : (i : ℕ) (s : List ℕ) (j : List Account) → get_elem? with_spent i ≡ some (Root s j) → (i ≡ id) × (kept_root ≡ Root s j)
  root_alone i s j e =
      elim (at_set (set views id kept_root) other i Spent (Root s j) e) [
        | inl same ↦ (let no : Spent ≡ Root s j = same.1 in absurd (cc))
        | inr else ↦
            elim (at_set views id i kept_root (Root s j) else.1) [
              | inl same ↦ same
              | inr more ↦ absurd (more.0 (are.first i s j more.1 ∙ sym (are.first id split joined at)))
            ]
      ]

  was_split : IsTrue (is_out split joined actor)
  was_split = root_then.out other actor own other_was

  out_parts : IsTrue (is_among actor split) × IsTrue (not (is_back actor joined))
  out_parts = let parts = and_parts (is_among actor split) (not (is_back actor joined)) was_split in (parts.0, parts.1)

  back_same : (one : ℕ) → actor ≢ one → is_back one (with_account actor own joined) ≡ is_back one joined
  back_same one apart = back_push one actor own joined ∙ ap (λ b. is_back one joined || b) (ne_eqb actor one apart) ∙ or_end (is_back one joined)
    where
      or_end : (b : Bool) → (b || false) ≡ b
      or_end true = refl
      or_end false = refl

  out_same : (one : ℕ) → actor ≢ one → is_out split (with_account actor own joined) one ≡ is_out split joined one
  out_same one apart = ap (λ b. is_among one split && not b) (back_same one apart)

  back_kept : (one : ℕ) → IsTrue (is_back one (with_account actor own joined)) → IsTrue (is_among one split)
  back_kept one h =
      elim (or_cases (is_back one joined) (actor == one) (sym (back_push one actor own joined) ∙ h)) [
        | inl before ↦ root_then.back one before
        | inr same ↦ subst (λ n. IsTrue (is_among n split)) (eqb-true actor one same) out_parts.0
      ]

  steps_kept : (one : ℕ) → is_out split (with_account actor own joined) one ≡ false → steps_of one (with_account actor own joined) ≡ own_steps one world
  steps_kept one gone = of (actor == one) refl
    where
      of : (b : Bool) → (actor == one) ≡ b → steps_of one (with_account actor own joined) ≡ own_steps one world
      of true e =
          subst (λ n. steps_of n (with_account actor own joined) ≡ own_steps n world) (eqb-true actor one e) (steps_last actor own joined (not-true (is_back actor joined) out_parts.1) ∙ are.own other actor own other_was)
      of false e =
          let apart : actor ≢ one = λ same. let both : true ≡ false = sym (eq-eqb actor one same) ∙ e in absurd (cc) in
          steps_else one actor own joined apart ∙ root_then.kept one (sym (out_same one apart) ∙ gone)

  joined_root : IsRoot world with_spent split (with_account actor own joined)
  joined_root =
      record {
        out = λ i one list e.
            let before = live i one list e in
            let apart : actor ≢ one = λ same. before.0 (are.apart i other one list own before.1 (subst (λ n. get_elem? views other ≡ some (Out n own)) same other_was)) in
            out_same one apart ∙ root_then.out i one list before.1;
        back = back_kept;
        kept = steps_kept;
      }

  pub views_join : AreViews world with_spent
  views_join =
      record {
        first = λ i s j e. (root_alone i s j e).0 ∙ are.first id split joined at;
        own = λ i one list e. are.own i one list (live i one list e).1;
        apart = λ i j one list more e f. are.apart i j one list more (live i one list e).1 (live j one more f).1;
        root = λ i s j e. subst (λ v. IsRoot world with_spent (split_of v) (joined_of v)) (root_alone i s j e).1 joined_root;
      }
