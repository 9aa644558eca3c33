-- The moments of parts, one after the other: the steps and the acts of each actor in them.
use Rattle.std.proofs.Common.{◌≡◌, ◌≢◌, ℕ, ◌<◌, ◌≤◌, ◌==◌, ◌&&◌, nat_le, Bool, true, false, if◌then◌else◌, IsTrue, All, inl, inr, List, [], ◌∷◌, ◌++◌, map, filter, Option, refl, sym, ap, ◌∙◌, subst}
use Rattle.std.specs.Option.{option_map}
use Rattle.std.proofs.lemmas.Bool.{cases_eq, eq-eqb, ne_eqb, and_from, le-leb}
use Rattle.std.proofs.lemmas.List.{append_assoc}
use Rattle.std.proofs.lemmas.List.Elements.{All-nil, All-cons, All-append, All-head, All-tail, filter_map-append}
use Rattle.law_found_parts_are_calls.specs.Words.{GuestShape}
use Rattle.law_found_parts_are_calls.specs.Core.{Made, actor_count, is_vcpu, Act, makes, ends, CoreMoment, are_parts, entries_of, entry_by, has_registers, own_acts, part_of, step_of}
use Rattle.law_found_parts_are_calls.proofs.LawCoreIsHistory.PrefixLemmas.{own_both}
use Rattle.law_found_parts_are_calls.specs.LawSerialIsEager.Serial.{WholePart, moment_by, moments_in, moments_of}
use Rattle.law_found_parts_are_calls.proofs.LawSerialIsEager.AloneRuns.{own_all, own_none}
use Rattle.law_found_parts_are_calls.proofs.LawSerialIsEager.PartLemmas.{part_entries}
use Rattle.seq_guest.specs.PePlace.Parts.{IsOfGuest, acts_in, acts_of, entries_in, part_in, parts_by}

-- Some parts after others.

pub moments_append : (early late : List WholePart) → moments_of (early ++ late) ≡ moments_of early ++ moments_of late
moments_append [] late = refl
moments_append (part ∷ early) late = ap (λ rest. moments_in part ++ rest) (moments_append early late) ∙ sym (append_assoc (moments_in part) (moments_of early) (moments_of late))

-- Their steps.

pub entries_both : (early late : List CoreMoment) → entries_of (early ++ late) ≡ entries_of early ++ entries_of late
entries_both early late = filter_map-append (λ (moment : CoreMoment). option_map (entry_by moment.actor) (step_of moment.act)) early late

pub entries_parts : (parts : List WholePart) → entries_of (moments_of parts) ≡ entries_in parts
entries_parts [] = refl
entries_parts (part ∷ parts) = entries_both (moments_in part) (moments_of parts) ∙ ap (λ xs. xs ++ entries_of (moments_of parts)) (part_entries part) ∙ ap (λ ys. map (entry_by part.actor) part.steps ++ ys) (entries_parts parts)

-- The parts of one actor.

pub mine_first : (actor : ℕ) (part : WholePart) (parts : List WholePart) → part.actor ≡ actor → parts_by actor (part ∷ parts) ≡ part_in part ∷ parts_by actor parts
mine_first actor part parts same =
    let rest = filter (λ (one : WholePart). one.actor == actor) parts in
    ap (λ (b : Bool). map part_in (if b then part ∷ rest else rest)) (eq-eqb part.actor actor same)

pub others_first : (actor : ℕ) (part : WholePart) (parts : List WholePart) → part.actor ≢ actor → parts_by actor (part ∷ parts) ≡ parts_by actor parts
others_first actor part parts apart =
    let rest = filter (λ (one : WholePart). one.actor == actor) parts in
    ap (λ (b : Bool). map part_in (if b then part ∷ rest else rest)) (ne_eqb part.actor actor apart)

-- and what it does in them
pub own_parts : (actor : ℕ) (parts : List WholePart) → own_acts actor (moments_of parts) ≡ acts_in (parts_by actor parts)
own_parts actor [] = refl
own_parts actor (part ∷ parts) =
    own_both actor (moments_in part) (moments_of parts)
    ∙ ap (λ acts. own_acts actor (moments_in part) ++ acts) (own_parts actor parts)
    ∙ elim (cases_eq part.actor actor) [
      | inl same ↦
          ap (λ acts. acts ++ acts_in (parts_by actor parts)) (subst (λ n. own_acts n (moments_in part) ≡ acts_of (part_in part)) same (own_all part.actor (acts_of (part_in part))))
          ∙ ap acts_in (sym (mine_first actor part parts same))
      | inr apart ↦
          ap (λ acts. acts ++ acts_in (parts_by actor parts)) (own_none part.actor actor (acts_of (part_in part)) (λ e. apart (sym e)))
          ∙ ap acts_in (sym (others_first actor part parts apart))
    ]

-- They are parts of the guest's actors.

module _ (shape : GuestShape) (lrs : ℕ) (some : 1 ≤ lrs) (most : lrs ≤ 16) where
  -- a part's PE has list registers, or its device has none
  registered : (one : WholePart) → IsOfGuest shape lrs one → has_registers shape one.actor one.lrs ≡ true
  registered one is = of (is_vcpu shape one.actor) refl
    where
      of : (b : Bool) → is_vcpu shape one.actor ≡ b → has_registers shape one.actor one.lrs ≡ true
      of true e =
          ap (λ b. if b then nat_le 1 one.lrs && nat_le one.lrs 16 else one.lrs == 0) e
          ∙ ap (λ n. nat_le 1 n && nat_le n 16) (is.lrs_is ∙ ap (λ b. if b then lrs else 0) e)
          ∙ and_from (nat_le 1 lrs) (nat_le lrs 16) (le-leb 1 lrs some) (le-leb lrs 16 most)
      of false e =
          ap (λ b. if b then nat_le 1 one.lrs && nat_le one.lrs 16 else one.lrs == 0) e
          ∙ ap (λ n. n == 0) (is.lrs_is ∙ ap (λ b. if b then lrs else 0) e)

  steps_within : (actor : ℕ) (answer : Option ℕ) (steps : List Made) (acts : List Act) → are_parts shape actor true ((map makes steps ++ ends answer ∷ []) ++ acts) ≡ are_parts shape actor false acts
  steps_within actor answer [] acts = refl
  steps_within actor answer (made ∷ steps) acts = steps_within actor answer steps acts

  -- of each actor they stand one after the other
  pub parts_formed : (actor : ℕ) (parts : List WholePart) → All (IsOfGuest shape lrs) parts → IsTrue (are_parts shape actor false (acts_in (parts_by actor parts)))
  parts_formed actor [] all = refl
  parts_formed actor (part ∷ parts) all =
      let rest = parts_formed actor parts (All-tail (IsOfGuest shape lrs) part parts all) in
      elim (cases_eq part.actor actor) [
        | inl same ↦
            subst (λ ps. IsTrue (are_parts shape actor false (acts_in ps))) (sym (mine_first actor part parts same))
            (and_from (has_registers shape actor part.lrs) (are_parts shape actor true ((map makes part.steps ++ ends part.answer ∷ []) ++ acts_in (parts_by actor parts)))
            (subst (λ n. has_registers shape n part.lrs ≡ true) same (registered part (All-head (IsOfGuest shape lrs) part parts all)))
            (steps_within actor part.answer part.steps (acts_in (parts_by actor parts)) ∙ rest))
        | inr apart ↦ subst (λ ps. IsTrue (are_parts shape actor false (acts_in ps))) (sym (others_first actor part parts apart)) rest
      ]

-- each of their moments is of one
abbrev pub IsThere : GuestShape → CoreMoment → Type 0
IsThere shape moment = moment.actor < actor_count shape

acts_there : (shape : GuestShape) (actor : ℕ) (acts : List Act) → actor < actor_count shape → All (IsThere shape) (map (moment_by actor) acts)
acts_there shape actor [] there = All-nil (IsThere shape)
acts_there shape actor (act ∷ acts) there = All-cons (IsThere shape) (moment_by actor act) (map (moment_by actor) acts) there (acts_there shape actor acts there)

pub parts_there : (shape : GuestShape) (lrs : ℕ) (parts : List WholePart) → All (IsOfGuest shape lrs) parts → All (IsThere shape) (moments_of parts)
parts_there shape lrs [] all = All-nil (IsThere shape)
parts_there shape lrs (part ∷ parts) all =
    All-append (IsThere shape) (moments_in part) (moments_of parts) (acts_there shape part.actor (part_of part.operation part.lrs part.steps part.answer) (All-head (IsOfGuest shape lrs) part parts all).there)
    (parts_there shape lrs parts (All-tail (IsOfGuest shape lrs) part parts all))
