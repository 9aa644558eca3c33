-- The steps of several actors in some order, woven with the beginnings and ends of their parts.
use Rattle.std.proofs.Common.{◌≡◌, ◌≢◌, ℕ, zero, suc, ◌<◌, ◌≤◌, ◌==◌, false, cond, if◌then◌else◌, inl, inr, IsTrue, All, List, [], ◌∷◌, ◌++◌, map, filter, Option, option_map, Some, None, refl, sym, ap, ◌∙◌, subst, arith}
use Rattle.std.specs.List.{cons_option}
use Rattle.std.proofs.lemmas.Bool.{cases_eq, eq-eqb, ne_eqb}
use Rattle.std.proofs.lemmas.List.{append-nil, append_assoc}
use Rattle.std.proofs.lemmas.List.Elements.{All-nil, All-cons, All-head, All-tail, All-append, filter_map-append}
use Rattle.law_ends_agree.specs.Words.{GuestShape}
use Rattle.law_ends_agree.specs.Core.{Entry, Made, actor_count, CoreState, IsRun, after, opening, own_steps, Act, makes, CoreMoment, are_parts, entries_of, entry_by, own_acts, step_of, opening_progress, IsProper}
use Rattle.law_found_parts_are_calls.proofs.LawCoreIsHistory.HistorySteps.{own_here, own_other}
use Rattle.law_found_parts_are_calls.proofs.LawCoreIsHistory.PrefixLemmas.{own_both}
use Rattle.pe_place.specs.Parts.{acts_in}
use Rattle.law_threads_are_history.specs.Woven.{ThreadsWeave}
use Rattle.law_threads_are_history.proofs.WeaveLemmas.{IsSplit, are_parts_in, early_of, late_of, split_at, steps_are, steps_of}

-- what each actor is still to do
abbrev pub Left : Type 0
Left = ℕ → List Act

abbrev pub moment_of : ℕ → Act → CoreMoment
moment_of actor act = record { actor = actor; act = act }

abbrev pub moments_by : ℕ → List Act → List CoreMoment
moments_by actor acts = map (moment_of actor) acts

-- each of so many actors does what is left of it
abbrev pub all_left : ℕ → Left → List CoreMoment
all_left zero left = []
all_left (suc count) left = all_left count left ++ moments_by count (left count)

-- what is left once an actor came to its next step
abbrev pub left_after : Left → ℕ → Left
left_after left actor other = if other == actor then late_of (left other) else left other

-- each step comes with what its actor does before it; in the end each actor does what is left
abbrev pub woven : ℕ → List Entry → Left → List CoreMoment
woven count [] left = all_left count left
woven count (entry ∷ world) left = moments_by entry.actor (early_of (left entry.actor) ++ makes entry.made ∷ []) ++ woven count world (left_after left entry.actor)

-- The moments of one actor.

entries_by : (actor : ℕ) (acts : List Act) → entries_of (moments_by actor acts) ≡ map (entry_by actor) (steps_of acts)
entries_by actor [] = refl
entries_by actor (act ∷ acts) = of (step_of act) (entries_by actor acts)
  where
    of : (o : Option Made) → entries_of (moments_by actor acts) ≡ map (entry_by actor) (steps_of acts)
        → cons_option (option_map (entry_by actor) o) (entries_of (moments_by actor acts)) ≡ map (entry_by actor) (cons_option o (steps_of acts))
    of None later = later
    of (Some made) later = ap (λ xs. entry_by actor made ∷ xs) later

own_by : (actor : ℕ) (acts : List Act) → own_acts actor (moments_by actor acts) ≡ acts
own_by actor [] = refl
own_by actor (act ∷ acts) = own_here actor act (moments_by actor acts) ∙ ap (λ xs. act ∷ xs) (own_by actor acts)

own_not_by : (actor other : ℕ) (acts : List Act) → other ≢ actor → own_acts other (moments_by actor acts) ≡ []
own_not_by actor other [] differ = refl
own_not_by actor other (act ∷ acts) differ = own_other actor other act (moments_by actor acts) differ ∙ own_not_by actor other acts differ

all_by : (count actor : ℕ) (acts : List Act) → actor < count → All (λ (moment : CoreMoment). moment.actor < count) (moments_by actor acts)
all_by count actor [] there = All-nil (λ (moment : CoreMoment). moment.actor < count)
all_by count actor (act ∷ acts) there = All-cons (λ (moment : CoreMoment). moment.actor < count) (moment_of actor act) (moments_by actor acts) there (all_by count actor acts there)

entries_both : (early late : List CoreMoment) → entries_of (early ++ late) ≡ entries_of early ++ entries_of late
entries_both early late = filter_map-append (λ (moment : CoreMoment). option_map (entry_by moment.actor) (step_of moment.act)) early late

-- What is left in the end.

own_past : (count : ℕ) (left : Left) (actor : ℕ) → count ≤ actor → own_acts actor (all_left count left) ≡ []
own_past zero left actor past = refl
own_past (suc count) left actor past =
    own_both actor (all_left count left) (moments_by count (left count))
    ∙ ap (λ xs. xs ++ own_acts actor (moments_by count (left count))) (own_past count left actor (omega (arith, past)))
    ∙ own_not_by count actor (left count) (λ e. absurd (omega (arith, e, past)))

own_left : (count : ℕ) (left : Left) (actor : ℕ) → actor < count → own_acts actor (all_left count left) ≡ left actor
own_left zero left actor there = absurd (omega (arith, there))
own_left (suc count) left actor there = elim (cases_eq actor count) [
  | inl e ↦ subst (λ n. own_acts n (all_left (suc count) left) ≡ left n) (sym e) here
  | inr differ ↦
      own_both actor (all_left count left) (moments_by count (left count))
      ∙ ap (λ xs. own_acts actor (all_left count left) ++ xs) (own_not_by count actor (left count) differ)
      ∙ append-nil (own_acts actor (all_left count left)) ∙ own_left count left actor (omega (arith, there, differ))
]
  where
    here : own_acts count (all_left (suc count) left) ≡ left count
    here =
        own_both count (all_left count left) (moments_by count (left count))
        ∙ ap (λ xs. xs ++ own_acts count (moments_by count (left count))) (own_past count left count (omega arith)) ∙ own_by count (left count)

entries_left : (count : ℕ) (left : Left) → ((actor : ℕ) → actor < count → steps_of (left actor) ≡ []) → entries_of (all_left count left) ≡ []
entries_left zero left none = refl
entries_left (suc count) left none =
    entries_both (all_left count left) (moments_by count (left count))
    ∙ ap (λ xs. xs ++ entries_of (moments_by count (left count))) (entries_left count left (λ actor there. none actor (omega (arith, there))))
    ∙ entries_by count (left count) ∙ ap (map (entry_by count)) (none count (omega arith))

there_left : (all count : ℕ) (left : Left) → count ≤ all → All (λ (moment : CoreMoment). moment.actor < all) (all_left count left)
there_left all zero left few = All-nil (λ (moment : CoreMoment). moment.actor < all)
there_left all (suc count) left few =
    All-append (λ (moment : CoreMoment). moment.actor < all) (all_left count left) (moments_by count (left count)) (there_left all count left (omega (arith, few))) (all_by all count (left count) (omega (arith, few)))

-- Step by step.

steps_here : (entry : Entry) (world : List Entry) → own_steps entry.actor (entry ∷ world) ≡ entry.made ∷ own_steps entry.actor world
steps_here entry world = ap (λ b. map (λ (e : Entry). e.made) (cond b (entry ∷ filter (λ (e : Entry). e.actor == entry.actor) world) (filter (λ (e : Entry). e.actor == entry.actor) world))) (eq-eqb entry.actor entry.actor refl)

steps_other : (actor : ℕ) (entry : Entry) (world : List Entry) → actor ≢ entry.actor → own_steps actor (entry ∷ world) ≡ own_steps actor world
steps_other actor entry world differ = ap (λ b. map (λ (e : Entry). e.made) (cond b (entry ∷ filter (λ (e : Entry). e.actor == actor) world) (filter (λ (e : Entry). e.actor == actor) world))) (ne_eqb entry.actor actor (λ e. differ (sym e)))

left_here : (left : Left) (actor : ℕ) → left_after left actor actor ≡ late_of (left actor)
left_here left actor = ap (λ b. cond b (late_of (left actor)) (left actor)) (eq-eqb actor actor refl)

left_other : (left : Left) (actor other : ℕ) → other ≢ actor → left_after left actor other ≡ left other
left_other left actor other differ = ap (λ b. cond b (late_of (left other)) (left other)) (ne_eqb other actor differ)

-- the moments have the steps in their order, and what is left of each actor
record AreMoments (count : ℕ) (world : List Entry) (left : Left) (moments : List CoreMoment) : Type 0 where
  entries : entries_of moments ≡ world
  own : (actor : ℕ) → actor < count → own_acts actor moments ≡ left actor
  there : All (λ (moment : CoreMoment). moment.actor < count) moments

module _ (count : ℕ) (entry : Entry) (world : List Entry) (left : Left) (all : All (λ (entry : Entry). entry.actor < count) (entry ∷ world)) (steps : (actor : ℕ) → actor < count → own_steps actor (entry ∷ world) ≡ steps_of (left actor)) where
  there : entry.actor < count
  there = All-head (λ (entry : Entry). entry.actor < count) entry world all

  split : IsSplit (left entry.actor) entry.made (own_steps entry.actor world)
  split = split_at (left entry.actor) entry.made (own_steps entry.actor world) (sym (steps entry.actor there) ∙ steps_here entry world)

  abbrev acts : List Act
  acts = early_of (left entry.actor) ++ makes entry.made ∷ []

  abbrev rest : List CoreMoment
  rest = woven count world (left_after left entry.actor)

  steps_next : (actor : ℕ) → actor < count → own_steps actor world ≡ steps_of (left_after left entry.actor actor)
  steps_next actor among = elim (cases_eq actor entry.actor) [
    | inl e ↦ subst (λ n. own_steps n world ≡ steps_of (left_after left entry.actor n)) (sym e) (sym split.late ∙ ap steps_of (sym (left_here left entry.actor)))
    | inr differ ↦ sym (steps_other actor entry world differ) ∙ steps actor among ∙ ap steps_of (sym (left_other left entry.actor actor differ))
  ]

  module _ (later : AreMoments count world (left_after left entry.actor) (woven count world (left_after left entry.actor))) where
    entries_are : entries_of (moments_by entry.actor acts ++ rest) ≡ entry ∷ world
    entries_are = entries_both (moments_by entry.actor acts) rest ∙ ap (λ xs. xs ++ entries_of rest) (entries_by entry.actor acts ∙ ap (map (entry_by entry.actor)) split.early) ∙ ap (λ xs. entry ∷ xs) later.entries

    own_here_is : own_acts entry.actor (moments_by entry.actor acts ++ rest) ≡ left entry.actor
    own_here_is =
        own_both entry.actor (moments_by entry.actor acts) rest ∙ ap (λ xs. xs ++ own_acts entry.actor rest) (own_by entry.actor acts)
        ∙ ap (λ xs. acts ++ xs) (later.own entry.actor there ∙ left_here left entry.actor)
        ∙ append_assoc (early_of (left entry.actor)) (makes entry.made ∷ []) (late_of (left entry.actor)) ∙ sym split.whole

    own_are : (actor : ℕ) → actor < count → own_acts actor (moments_by entry.actor acts ++ rest) ≡ left actor
    own_are actor among = elim (cases_eq actor entry.actor) [
      | inl e ↦ subst (λ n. own_acts n (moments_by entry.actor acts ++ rest) ≡ left n) (sym e) own_here_is
      | inr differ ↦
          own_both actor (moments_by entry.actor acts) rest ∙ ap (λ xs. xs ++ own_acts actor rest) (own_not_by entry.actor actor acts differ) ∙ later.own actor among ∙ left_other left entry.actor actor differ
    ]

    more : AreMoments count (entry ∷ world) left (moments_by entry.actor acts ++ rest)
    more = record { entries = entries_are; own = own_are; there = All-append (λ (moment : CoreMoment). moment.actor < count) (moments_by entry.actor acts) rest (all_by count entry.actor acts there) later.there }

woven_is : (count : ℕ) (world : List Entry) (left : Left) → All (λ (entry : Entry). entry.actor < count) world → ((actor : ℕ) → actor < count → own_steps actor world ≡ steps_of (left actor)) → AreMoments count world left (woven count world left)
woven_is count [] left all steps = record { entries = entries_left count left (λ actor there. sym (steps actor there)); own = own_left count left; there = there_left count count left (omega arith) }
woven_is count (entry ∷ world) left all steps =
    more count entry world left all steps (woven_is count world (left_after left entry.actor) (All-tail (λ (entry : Entry). entry.actor < count) entry world all) (steps_next count entry world left all steps))

-- The run.

all_there : (shape : GuestShape) (world : List Entry) (state : CoreState) → IsRun shape state world → All (λ (entry : Entry). entry.actor < actor_count shape) world
all_there shape [] state run = All-nil (λ (entry : Entry). entry.actor < actor_count shape)
all_there shape (entry ∷ world) state run = All-cons (λ (entry : Entry). entry.actor < actor_count shape) entry world run.0.actor (all_there shape world (after shape state entry) run.1)

pub threads_weave : ThreadsWeave
threads_weave guest number world parts good run done =
    let left : Left = λ actor. acts_in (parts actor) in
    let count = actor_count guest.shape in
    let is = woven_is count world left (all_there guest.shape world (opening guest number) run) (λ actor there. (done actor there).steps ∙ sym (steps_are (parts actor))) in
    record {
      moments = woven count world left;
      woven = record { entries = is.entries; own = is.own };
      proper = record {
        parted = record {
          run = subst (IsRun guest.shape (opening guest number)) (sym is.entries) run;
          actors = is.there;
          parts = λ actor there. subst (λ acts. IsTrue (are_parts guest.shape actor false acts)) (sym (is.own actor there)) (are_parts_in guest.shape actor (parts actor) (done actor there).registers);
        };
        proper = λ actor there. subst (IsProper guest.shape actor (opening_progress guest number actor)) (sym (is.own actor there)) (done actor there).proper;
      };
    }
