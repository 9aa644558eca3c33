-- The first candidate of list registers is that of the interface for which they stand.
use Rattle.std.proofs.Common.{◌≡◌, ◌≤◌, ℕ, zero, suc, Bool, true, false, not, ◌&&◌, cond, Option, Some, None, List, [], ◌∷◌, length, filter, find, Contains, All, ◌⊎◌, inl, inr, refl, sym, ap, ◌∙◌, subst, arith}
use Rattle.std.specs.List.{filter_map, cons_option}
use Rattle.std.proofs.lemmas.Grind.{common_steps}
use Rattle.std.proofs.lemmas.Option.{none-some, same_Some}
use Rattle.std.proofs.lemmas.List.Elements.{All-contains}
use Rattle.gic_ich.specs.GicLr.declared.entry.LrState.{LrState}
use Rattle.gic_ich.specs.GicLr.declared.entry.LrState.TheVariants.{Invalid, Pending, Active, Both}
use Rattle.gic_ich.specs.GicLr.Entry.{unpacked, state_has_pending, state_has_active}
use Rattle.gic_ich.specs.GicPrio.declared.cpu.CpuRec.{CpuRec}
use Rattle.gic_ich.specs.GicPrio.declared.candidate.Candidate.{Candidate}
use Rattle.gic_ich.specs.GicPrio.Delivery.{first_of, is_before, is_group_enabled}
use Rattle.gic_ich.specs.GicPrio.Interface.{AtInterface, InterfaceState, candidate_of, candidates_at}
use Rattle.gic_ich.proofs.GicPrio.FirstLemmas.{first_is, empty_or_first, found}
use Rattle.gic_ich.specs.Status.{is_pending_state}
use Rattle.gic_icv.specs.Entries.{candidate_in, candidates_in}
use Rattle.gic_ich.specs.Place.{Seen, seen_in}
use Rattle.gic_icv.specs.Agree.{is_live, seen_words, seen_entries}
use Rattle.gic_icv.proofs.CpuLemmas.{deaf, enabled_deaf}

-- a seen interrupt as a candidate
abbrev pub candidate_seen : CpuRec → Seen → Option Candidate
candidate_seen cpu s = cond (s.pending && not s.active && is_group_enabled s.group cpu) (Some (record { id = s.id; prio = s.prio; group = s.group })) None

abbrev pub candidates_seen : CpuRec → List Seen → List Candidate
candidates_seen cpu seen = filter_map (candidate_seen cpu) seen

pub pending_alone : (state : LrState) → is_pending_state state ≡ (state_has_pending state && not (state_has_active state))
pending_alone Invalid = refl
pending_alone Pending = refl
pending_alone Active = refl
pending_alone Both = refl

-- list registers have the candidates that are seen in them
word_candidate : (cpu : CpuRec) (word : ℕ) → candidate_in (deaf cpu) word ≡ candidate_seen cpu (seen_in word)
word_candidate cpu word =
    let entry = unpacked word in
    same (is_pending_state entry.state) (state_has_pending entry.state) (state_has_active entry.state) (is_group_enabled entry.group (deaf cpu)) (is_group_enabled entry.group cpu)
    (record { id = entry.id; prio = entry.prio; group = entry.group }) (pending_alone entry.state) (enabled_deaf entry.group cpu)
  where
    same : (p q a g h : Bool) (one : Candidate) → p ≡ (q && not a) → g ≡ h → cond (p && g) (Some one) None ≡ cond (q && not a && h) (Some one) None
    same p q a g h one e f = grind (arith, common_steps)

pub words_candidates : (cpu : CpuRec) (words : List ℕ) → candidates_in (deaf cpu) words ≡ candidates_seen cpu (seen_words words)
words_candidates cpu [] = refl
words_candidates cpu (word ∷ words) = consed (candidate_in (deaf cpu) word) (candidate_seen cpu (seen_in word)) (candidates_in (deaf cpu) words) (candidates_seen cpu (seen_words words)) (word_candidate cpu word) (words_candidates cpu words)
  where
    consed : (o p : Option Candidate) (xs ys : List Candidate) → o ≡ p → xs ≡ ys → cons_option o xs ≡ cons_option p ys
    consed o p xs ys e f = cc

-- and so has an interface
entries_candidates : (cpu : CpuRec) (at : List AtInterface) → filter_map (candidate_of cpu) at ≡ candidates_seen cpu (seen_entries at)
entries_candidates cpu [] = refl
entries_candidates cpu (entry ∷ at) = ap (cons_option (candidate_of cpu entry)) (entries_candidates cpu at)

-- an element of a longer list
pub cons_cases : {X : Type 0} → (x y : X) (xs : List X) → Contains (x ∷ xs) y → (x ≡ y) ⊎ Contains xs y
cons_cases x y xs (zero, within, is) = inl is
cons_cases x y xs (suc k, within, is) = inr (k, omega (arith, within), is)

pub head_is : {X : Type 0} → (x : X) (xs : List X) → Contains (x ∷ xs) x
head_is x xs = (0, omega arith, refl)

pub in_tail : {X : Type 0} → (x y : X) (xs : List X) → Contains xs y → Contains (x ∷ xs) y
in_tail x y xs (k, within, is) = (suc k, omega (arith, within), is)

-- where a candidate comes from
pub record Source {X : Type 0} (candidate : X → Option Candidate) (xs : List X) (one : Candidate) : Type 0 where
  pub of : X
  pub among : Contains xs of
  pub is : candidate of ≡ Some one

pub source_of : {X : Type 0} → (candidate : X → Option Candidate) (xs : List X) (one : Candidate) → Contains (filter_map candidate xs) one → Source candidate xs one
source_of candidate [] one (k, within, is) = absurd (omega (arith, within))
source_of candidate (s ∷ xs) one h = by_head (source_of candidate xs one) (candidate s) refl h
  where
    later : Source candidate xs one → Source candidate (s ∷ xs) one
    later from = record { of = from.of; among = in_tail s from.of xs from.among; is = from.is }

    by_head : (Contains (filter_map candidate xs) one → Source candidate xs one) → (o : Option Candidate) → candidate s ≡ o → Contains (cons_option o (filter_map candidate xs)) one → Source candidate (s ∷ xs) one
    by_head rest_of None e g = later (rest_of g)
    by_head rest_of (Some first) e g =
        elim (cons_cases first one (filter_map candidate xs) g) [
          | inl same ↦ record { of = s; among = head_is s xs; is = e ∙ ap Some same }
          | inr rest ↦ later (rest_of rest)
        ]

pub is_candidate : (cpu : CpuRec) (seen : List Seen) (s : Seen) (one : Candidate) → Contains seen s → candidate_seen cpu s ≡ Some one → Contains (candidates_seen cpu seen) one
is_candidate cpu [] s one (k, within, is) e = absurd (omega (arith, within))
is_candidate cpu (x ∷ seen) s one h e =
    elim (cons_cases x s seen h) [
      | inl same ↦
          let first : candidate_seen cpu x ≡ Some one = ap (candidate_seen cpu) same ∙ e in
          subst (λ o. Contains (cons_option o (candidates_seen cpu seen)) one) (sym first) (head_is one (candidates_seen cpu seen))
      | inr rest ↦ later (candidate_seen cpu x) (is_candidate cpu seen s one rest e)
    ]
  where
    later : (o : Option Candidate) → Contains (candidates_seen cpu seen) one → Contains (cons_option o (candidates_seen cpu seen)) one
    later None g = g
    later (Some first) g = in_tail first one (candidates_seen cpu seen) g

-- an interrupt is found where no INTID stands twice
some_pass : (p : Seen → Bool) (seen : List Seen) (s : Seen) → Contains seen s → p s ≡ true → 1 ≤ length (filter p seen)
some_pass p [] s (k, within, is) e = absurd (omega (arith, within))
some_pass p (x ∷ seen) s h e =
    elim (cons_cases x s seen h) [
      | inl same ↦ (let passes : p x ≡ true = ap p same ∙ e in subst (λ b. 1 ≤ length (cond b (x ∷ filter p seen) (filter p seen))) (sym passes) (omega arith))
      | inr rest ↦ more (p x) (some_pass p seen s rest e)
    ]
  where
    more : (b : Bool) → 1 ≤ length (filter p seen) → 1 ≤ length (cond b (x ∷ filter p seen) (filter p seen))
    more true g = omega arith
    more false g = g

pub find_once : (p : Seen → Bool) (seen : List Seen) (s : Seen) → length (filter p seen) ≤ 1 → Contains seen s → p s ≡ true → find p seen ≡ Some s
find_once p [] s once (k, within, is) e = absurd (omega (arith, within))
find_once p (x ∷ seen) s once h e =
    elim (cons_cases x s seen h) [
      | inl same ↦ (let passes : p x ≡ true = ap p same ∙ e in subst (λ b. cond b (Some x) (find p seen) ≡ Some s) (sym passes) (ap Some same))
      | inr rest ↦ by_head (λ few. find_once p seen s few rest e) (p x) once rest
    ]
  where
    by_head : (length (filter p seen) ≤ 1 → find p seen ≡ Some s) → (b : Bool) → length (cond b (x ∷ filter p seen) (filter p seen)) ≤ 1 → Contains seen s → cond b (Some x) (find p seen) ≡ Some s
    by_head rest_of true few rest = let some = some_pass p seen s rest e in absurd (omega (arith, few, some))
    by_head rest_of false few rest = rest_of few

pub find_among : (p : Seen → Bool) (seen : List Seen) (s : Seen) → find p seen ≡ Some s → Contains seen s
find_among p [] s e = absurd (none-some s e)
find_among p (x ∷ seen) s e = by_head (find_among p seen s) (p x) e
  where
    by_head : (find p seen ≡ Some s → Contains seen s) → (b : Bool) → cond b (Some x) (find p seen) ≡ Some s → Contains (x ∷ seen) s
    by_head rest_of true g = subst (Contains (x ∷ seen)) (same_Some x s g) (head_is x seen)
    by_head rest_of false g = in_tail x s seen (rest_of g)

-- a candidate is live, and of its interrupt's INTID, priority and group
pub record FromSeen (cpu : CpuRec) (s : Seen) (one : Candidate) : Type 0 where
  pub live : is_live s.id s ≡ true
  pub id : one.id ≡ s.id
  pub prio : one.prio ≡ s.prio
  pub group : one.group ≡ s.group
  pub pending : s.pending ≡ true
  pub active : s.active ≡ false

pub from_seen : (cpu : CpuRec) (s : Seen) (one : Candidate) → candidate_seen cpu s ≡ Some one → FromSeen cpu s one
from_seen cpu s one e =
    by_test (s.pending && not s.active && is_group_enabled s.group cpu) refl e
  where
    by_test : (b : Bool) → (s.pending && not s.active && is_group_enabled s.group cpu) ≡ b → cond b (Some (record { id = s.id; prio = s.prio; group = s.group })) None ≡ Some one → FromSeen cpu s one
    by_test false f g = absurd (none-some one g)
    by_test true f g =
        let is : record { id = s.id; prio = s.prio; group = s.group } ≡ one = same_Some (record { id = s.id; prio = s.prio; group = s.group }) one g in
        let pending : s.pending ≡ true = grind (arith, common_steps, f) in
        let active : s.active ≡ false = grind (arith, common_steps, f) in
        record {
          live = grind (arith, common_steps, pending);
          id = sym (ap (λ c. c.id) is);
          prio = sym (ap (λ c. c.prio) is);
          group = sym (ap (λ c. c.group) is);
          pending = pending;
          active = active;
        }

-- two lists that show the same
pub record ShowSame (a b : List Seen) : Type 0 where
  pub same : (id : ℕ) → find (is_live id) a ≡ find (is_live id) b
  pub once_a : (id : ℕ) → length (filter (is_live id) a) ≤ 1
  pub once_b : (id : ℕ) → length (filter (is_live id) b) ≤ 1

pub turned : (a b : List Seen) → ShowSame a b → ShowSame b a
turned a b show = record { same = λ id. sym (show.same id); once_a = show.once_b; once_b = show.once_a }

-- a candidate of one is one of the other
moved : (cpu : CpuRec) (a b : List Seen) → ShowSame a b → (one : Candidate) → Contains (candidates_seen cpu a) one → Contains (candidates_seen cpu b) one
moved cpu a b show one h =
    let from = source_of (candidate_seen cpu) a one h in
    let s = from.of in
    let seen = from_seen cpu s one from.is in
    let there : find (is_live s.id) a ≡ Some s = find_once (is_live s.id) a s (show.once_a s.id) from.among seen.live in
    is_candidate cpu b s one (find_among (is_live s.id) b s (sym (show.same s.id) ∙ there)) from.is

-- candidates of one list that are neither before the other are one
tied : (cpu : CpuRec) (a : List Seen) → ((id : ℕ) → length (filter (is_live id) a) ≤ 1) → (one two : Candidate) → Contains (candidates_seen cpu a) one → Contains (candidates_seen cpu a) two → is_before one two ≡ false → is_before two one ≡ false → one ≡ two
tied cpu a once one two h k e f =
    let from = source_of (candidate_seen cpu) a one h in
    let to = source_of (candidate_seen cpu) a two k in
    let seen = from_seen cpu from.of one from.is in
    let seen_two = from_seen cpu to.of two to.is in
    let same_id : one.id ≡ two.id = neither one two e f in
    let id_is : to.of.id ≡ from.of.id = sym seen_two.id ∙ sym same_id ∙ seen.id in
    let there : find (is_live from.of.id) a ≡ Some from.of = find_once (is_live from.of.id) a from.of (once from.of.id) from.among seen.live in
    let there_two : find (is_live to.of.id) a ≡ Some to.of = find_once (is_live to.of.id) a to.of (once to.of.id) to.among seen_two.live in
    let same : from.of ≡ to.of = same_Some from.of to.of (sym there ∙ ap (λ id. find (is_live id) a) (sym id_is) ∙ there_two) in
    same_Some one two (sym from.is ∙ ap (candidate_seen cpu) same ∙ to.is)
  where
    neither : (one two : Candidate) → is_before one two ≡ false → is_before two one ≡ false → one.id ≡ two.id
    neither one two e f = grind (arith, common_steps)

-- the first of one is the first of the other
first_moved : (cpu : CpuRec) (a b : List Seen) → ShowSame a b → (one : Candidate) → first_of (candidates_seen cpu a) ≡ Some one → first_of (candidates_seen cpu b) ≡ Some one
first_moved cpu a b show one e =
    let first = first_is (candidates_seen cpu a) one e in
    let there = moved cpu a b show one first.among in
    by_first (first_of (candidates_seen cpu b)) refl there first.least
  where
    by_first : (o : Option Candidate) → first_of (candidates_seen cpu b) ≡ o → Contains (candidates_seen cpu b) one → All (λ other. is_before other one ≡ false) (candidates_seen cpu a) → first_of (candidates_seen cpu b) ≡ Some one
    by_first None f there least = absurd (nothing (candidates_seen cpu b) one f there)
      where
        nothing : (xs : List Candidate) (one : Candidate) → first_of xs ≡ None → Contains xs one → ⊥
        nothing xs one f (k, within, is) =
            elim (empty_or_first xs) [
              | inl empty ↦ (let none : length xs ≡ 0 = ap length empty in omega (arith, within, none))
              | inr has ↦ none-some has.0 (sym f ∙ found xs has.0 has.1)
            ]
    by_first (Some two) f there least =
        let second = first_is (candidates_seen cpu b) two f in
        let back = moved cpu b a (turned a b show) two second.among in
        let e_two : is_before two one ≡ false = All-contains (λ other. is_before other one ≡ false) (candidates_seen cpu a) two least back in
        let e_one : is_before one two ≡ false = All-contains (λ other. is_before other two ≡ false) (candidates_seen cpu b) one second.least there in
        f ∙ ap Some (sym (tied cpu b show.once_b one two there second.among e_one e_two))

pub first_same : (cpu : CpuRec) (a b : List Seen) → ShowSame a b → first_of (candidates_seen cpu a) ≡ first_of (candidates_seen cpu b)
first_same cpu a b show = by_first (first_of (candidates_seen cpu a)) (first_of (candidates_seen cpu b)) refl refl
  where
    by_first : (o p : Option Candidate) → first_of (candidates_seen cpu a) ≡ o → first_of (candidates_seen cpu b) ≡ p → first_of (candidates_seen cpu a) ≡ first_of (candidates_seen cpu b)
    by_first (Some one) p e f = e ∙ sym (first_moved cpu a b show one e)
    by_first None (Some two) e f = first_moved cpu b a (turned a b show) two f ∙ sym f
    by_first None None e f = e ∙ sym f

-- list registers that show an interface have its first candidate
pub first_agrees : (words : List ℕ) (interface : InterfaceState) → ShowSame (seen_words words) (seen_entries interface.at) → first_of (candidates_in (deaf interface.cpu) words) ≡ first_of (candidates_at interface)
first_agrees words interface show =
    ap first_of (words_candidates interface.cpu words)
    ∙ first_same interface.cpu (seen_words words) (seen_entries interface.at) show
    ∙ sym (ap first_of (entries_candidates interface.cpu interface.at))
