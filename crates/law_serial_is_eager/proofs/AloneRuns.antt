-- Where a run of whole parts has come: nobody is in a part, and each actor goes on by its own list.
use Rattle.std.proofs.Common.{◌≡◌, ◌≢◌, ℕ, ◌<◌, inl, inr, IsTrue, List, [], ◌∷◌, ◌++◌, map, Option, None, refl, sym, ap, ◌∙◌, subst}
use Rattle.std.proofs.lemmas.Bool.{cases_eq}
use Rattle.std.proofs.lemmas.List.{append-nil}
use Rattle.std.proofs.lemmas.List.Sums.{fold-append}
use Rattle.law_lone_calls_are_eager.specs.Words.{Key, GuestShape}
use Rattle.law_lone_calls_are_eager.specs.Calls.{Operation}
use Rattle.law_lone_calls_are_eager.specs.Histories.{IdealGuest, CanOpen}
use Rattle.law_lone_accesses_find_all.specs.Core.{Made, actor_count, Act, makes, begins, ends, CoreMoment, own_acts, part_of, Progress, opening_progress, progressed, progress_in, progress_of, IsProper, IsProperRun, wants_nothing}
use Rattle.law_lone_accesses_find_all.proofs.CoreProper.PartLemmas.{proper_append}
use Rattle.law_lone_accesses_find_all.proofs.LawCoreIsHistory.HistorySteps.{own_here, own_other}
use Rattle.law_lone_accesses_find_all.proofs.LawCoreIsHistory.PrefixLemmas.{own_both}
use Rattle.law_lone_accesses_find_all.proofs.LawScansMissNone.RunFrame.{IsNextOf, runs_on}
use Rattle.law_serial_is_eager.specs.Serial.{WholePart, moment_by, moments_in}

-- The next moment of a proper run.

nothing_pushed : {X : Type 0} (xs : List X) (x : X) → [] ≡ xs ++ x ∷ [] → ⊥
nothing_pushed [] x e = cc
nothing_pushed (y ∷ xs) x e = cc

same_pushed : {X : Type 0} (xs ys : List X) (x y : X) → xs ++ x ∷ [] ≡ ys ++ y ∷ [] → (xs ≡ ys) × (x ≡ y)
same_pushed {X = X} [] [] x y e = (refl, heads x y e)
  where
    heads : (a b : X) → a ∷ [] ≡ b ∷ [] → a ≡ b
    heads a b e = cc
same_pushed {X = X} [] (b ∷ ys) x y e = absurd (nothing_pushed ys y (tails x b [] (ys ++ y ∷ []) e))
  where
    tails : (a c : X) (front back : List X) → a ∷ front ≡ c ∷ back → front ≡ back
    tails a c front back e = cc
same_pushed {X = X} (a ∷ xs) [] x y e = absurd (nothing_pushed xs x (sym (tails a y (xs ++ x ∷ []) [] e)))
  where
    tails : (a c : X) (front back : List X) → a ∷ front ≡ c ∷ back → front ≡ back
    tails a c front back e = cc
same_pushed {X = X} (a ∷ xs) (b ∷ ys) x y e =
    let rest = same_pushed xs ys x y (tails a b (xs ++ x ∷ []) (ys ++ y ∷ []) e) in
    (ap (λ zs. a ∷ zs) rest.0 ∙ ap (λ c. c ∷ ys) (heads a b (xs ++ x ∷ []) (ys ++ y ∷ []) e), rest.1)
  where
    heads : (a c : X) (front back : List X) → a ∷ front ≡ c ∷ back → a ≡ c
    heads a c front back e = cc

    tails : (a c : X) (front back : List X) → a ∷ front ≡ c ∷ back → front ≡ back
    tails a c front back e = cc

pub next_at : (guest : IdealGuest) (number : ℕ) → CanOpen guest → (early : List CoreMoment) (actor : ℕ) (act : Act) → IsProperRun guest number (early ++ moment_by actor act ∷ []) → IsNextOf guest number early actor act
next_at guest number good early actor act proper = runs_on guest number good KeptAt one_more (λ e a c h. absurd (nothing_pushed e (moment_by a c) h)) (early ++ moment_by actor act ∷ []) proper early actor act refl
  where
    KeptAt : List CoreMoment → Type 0
    KeptAt moments = (e : List CoreMoment) (a : ℕ) (c : Act) → moments ≡ e ++ moment_by a c ∷ [] → IsNextOf guest number e a c

    moment_is : (a b : ℕ) (c d : Act) → moment_by a c ≡ moment_by b d → (a ≡ b) × (c ≡ d)
    moment_is a b c d e = (ap (λ (m : CoreMoment). m.actor) e, ap (λ (m : CoreMoment). m.act) e)

    one_more : (early : List CoreMoment) (actor : ℕ) (act : Act) → IsNextOf guest number early actor act → KeptAt early → KeptAt (early ++ record { actor = actor; act = act } ∷ [])
    one_more early actor act next kept e a c h =
        let same = same_pushed early e (moment_by actor act) (moment_by a c) h in
        let parts = moment_is actor a act c same.1 in
        subst (λ x. IsNextOf guest number x a c) same.0 (subst (λ n. IsNextOf guest number early n c) parts.0 (subst (IsNextOf guest number early actor) parts.1 next))

-- The moments of one actor.

pub own_all : (actor : ℕ) (acts : List Act) → own_acts actor (map (moment_by actor) acts) ≡ acts
own_all actor [] = refl
own_all actor (act ∷ acts) = own_here actor act (map (moment_by actor) acts) ∙ ap (λ rest. act ∷ rest) (own_all actor acts)

pub own_none : (actor other : ℕ) (acts : List Act) → other ≢ actor → own_acts other (map (moment_by actor) acts) ≡ []
own_none actor other [] differ = refl
own_none actor other (act ∷ acts) differ = own_other actor other act (map (moment_by actor) acts) differ ∙ own_none actor other acts differ

pub progress_mine : (guest : IdealGuest) (number : ℕ) (early : List CoreMoment) (actor : ℕ) (acts : List Act)
    → progress_in guest number (early ++ map (moment_by actor) acts) actor ≡ progress_of guest.shape actor (progress_in guest number early actor) acts
progress_mine guest number early actor acts =
    ap (progress_of guest.shape actor (opening_progress guest number actor)) (own_both actor early (map (moment_by actor) acts) ∙ ap (λ rest. own_acts actor early ++ rest) (own_all actor acts))
    ∙ fold-append (progressed guest.shape actor) (opening_progress guest number actor) (own_acts actor early) acts

pub progress_other : (guest : IdealGuest) (number : ℕ) (early : List CoreMoment) (actor other : ℕ) (acts : List Act) → other ≢ actor → progress_in guest number (early ++ map (moment_by actor) acts) other ≡ progress_in guest number early other
progress_other guest number early actor other acts differ =
    ap (progress_of guest.shape other (opening_progress guest number other)) (own_both other early (map (moment_by actor) acts) ∙ ap (λ rest. own_acts other early ++ rest) (own_none actor other acts differ) ∙ append-nil (own_acts other early))

-- Between parts.

-- an actor is in no part and wants nothing
pub record IsResting (p : Progress) : Type 0 where
  pub operation : p.operation ≡ None
  pub wants : p.wants ≡ []

abbrev pub AllRest : IdealGuest → ℕ → List CoreMoment → Type 0
AllRest guest number moments = (actor : ℕ) → actor < actor_count guest.shape → IsResting (progress_in guest number moments actor)

pub rest_opens : (guest : IdealGuest) (number : ℕ) → AllRest guest number []
rest_opens guest number actor there = record { operation = refl; wants = refl }

pub none_wanted : (keys : List Key) → IsTrue (wants_nothing keys) → keys ≡ []
none_wanted [] h = refl
none_wanted (key ∷ keys) h = absurd (cc)

part_ends : (shape : GuestShape) (actor : ℕ) (p : Progress) (operation : Operation) (lrs : ℕ) (steps : List Made) (answer : Option ℕ) → IsProper shape actor p (part_of operation lrs steps answer) → IsResting (progress_of shape actor p (part_of operation lrs steps answer))
part_ends shape actor p operation lrs steps answer proper =
    let acts = begins operation lrs ∷ map makes steps in
    let q = progress_of shape actor p acts in
    let end = ((proper_append shape actor p acts (ends answer ∷ [])).0 proper).1.0 in
    subst IsResting (sym (fold-append (progressed shape actor) p acts (ends answer ∷ []))) (record { operation = refl; wants = none_wanted q.wants end.want })

pub rest_after : (guest : IdealGuest) (number : ℕ) (early : List CoreMoment) (part : WholePart) → IsProperRun guest number (early ++ moments_in part) → AllRest guest number early → AllRest guest number (early ++ moments_in part)
rest_after guest number early part proper rest actor there = elim (cases_eq actor part.actor) [
  | inr differ ↦ subst IsResting (sym (progress_other guest number early part.actor actor (part_of part.operation part.lrs part.steps part.answer) differ)) (rest actor there)
  | inl same ↦
      subst (λ n. IsResting (progress_in guest number (early ++ moments_in part) n)) (sym same)
      (subst IsResting (sym (progress_mine guest number early part.actor (part_of part.operation part.lrs part.steps part.answer)))
      (part_ends guest.shape part.actor (progress_in guest number early part.actor) part.operation part.lrs part.steps part.answer (mine (subst (λ n. n < actor_count guest.shape) same there))))
]
  where
    acts : List Act
    acts = part_of part.operation part.lrs part.steps part.answer

    mine : part.actor < actor_count guest.shape → IsProper guest.shape part.actor (progress_in guest number early part.actor) (part_of part.operation part.lrs part.steps part.answer)
    mine here =
        ((proper_append guest.shape part.actor (opening_progress guest number part.actor) (own_acts part.actor early) acts).0
        (subst (IsProper guest.shape part.actor (opening_progress guest number part.actor)) (own_both part.actor early (moments_in part) ∙ ap (λ r. own_acts part.actor early ++ r) (own_all part.actor acts)) (proper.proper part.actor here))).1
