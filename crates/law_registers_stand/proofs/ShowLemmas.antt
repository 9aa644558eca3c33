-- List registers that show what is expected, each INTID once.
use Rattle.std.proofs.Common.{◌≡◌, ◌≢◌, ℕ, ◌<◌, ◌≤◌, ◌&&◌, ◌||◌, nat_eq, Bool, true, false, List, find, filter, length, get_or, set, Contains, Option, Some, None, inl, inr, ◌⊎◌, refl, sym, ap, subst, ◌∙◌, arith}
use Rattle.std.specs.List.{position}
use Rattle.std.specs.Option.{option_map_or}
use Rattle.std.proofs.lemmas.Bool.{cases_eq, and_parts}
use Rattle.std.proofs.lemmas.Option.{none-some}
use Rattle.std.proofs.lemmas.List.{length-map, get_or-map, get_or_default, get_or-set_same, get_or-set_other, length-set}
use Rattle.law_core_is_history.specs.Words.{Key, intid_of}
use Rattle.law_core_is_history.specs.Lists.{IchRegs, Seen, seen_in, seen_of, HoldCpu, listed_of, is_live, seen_words, seen_entries, Agrees, first_changed}
use Rattle.law_core_is_history.specs.Registers.{CpuRec, AtInterface, InterfaceState, IsInterface}
use Rattle.law_core_is_history.proofs.GicIcv.FirstLemmas.{find_once, find_among}
use Rattle.law_core_is_history.proofs.GicIcv.FollowLemmas.{changed_at_place, found_passes, live_once, none_placed}
use Rattle.law_core_is_history.proofs.GicIcv.PlaceLemmas.{few_pass, from_map, live_id, map_among, not_live}
use Rattle.law_core_is_history.specs.Core.{with_changed}

-- something is pending or active
abbrev pub lives : Seen → Bool
lives s = s.pending || s.active

-- each list register with something pending or active shows what is expected, and all of that is shown, each INTID once
pub record Shows (words : List ℕ) (Expects : Seen → Type 0) : Type 0 where
  pub only : (place id : ℕ) → place < length words → is_live id (seen_in (get_or words place 0)) ≡ true → Expects (seen_in (get_or words place 0))
  pub whole : (s : Seen) → lives s ≡ true → Expects s → (place : ℕ) × (place < length words) × (seen_in (get_or words place 0) ≡ s)
  pub once : (id j k : ℕ) → j < length words → k < length words → is_live id (seen_in (get_or words j 0)) ≡ true → is_live id (seen_in (get_or words k 0)) ≡ true → j ≡ k

-- it is one of an interface's
pub record IsSeenAmong (at : List AtInterface) (s : Seen) : Type 0 where
  pub entry : AtInterface
  pub among : Contains at entry
  pub is : seen_of entry ≡ s

-- What is live.

pub live_itself : (s : Seen) → lives s ≡ true → is_live s.id s ≡ true
live_itself s h = of (nat_eq s.id s.id) (grind arith) (s.pending || s.active) h
  where
    of : (b : Bool) → b ≡ true → (c : Bool) → c ≡ true → (b && c) ≡ true
    of b e c f = cc (e, f)

pub live_part : (id : ℕ) (s : Seen) → is_live id s ≡ true → lives s ≡ true
live_part id s h = (and_parts (nat_eq s.id id) (s.pending || s.active) h).1

-- Registers that show an interface's interrupts agree with it.

module _ (regs : IchRegs) (interface : InterfaceState) (is : IsInterface interface) (shows : Shows (listed_of regs) (IsSeenAmong interface.at)) where
  words : List ℕ
  words = listed_of regs

  few : (id : ℕ) → length (filter (is_live id) (seen_words (listed_of regs))) ≤ 1
  few id =
      few_pass (is_live id) (seen_in 0) (seen_words (listed_of regs))
      (λ j k l m f g.
      let j_in : j < length (listed_of regs) = omega (arith, length-map (listed_of regs) seen_in, l) in
      let k_in : k < length (listed_of regs) = omega (arith, length-map (listed_of regs) seen_in, m) in
      shows.once id j k j_in k_in (ap (is_live id) (sym (get_or-map seen_in (listed_of regs) j 0 (seen_in 0) j_in)) ∙ f) (ap (is_live id) (sym (get_or-map seen_in (listed_of regs) k 0 (seen_in 0) k_in)) ∙ g))

  same : (id : ℕ) → find (is_live id) (seen_words (listed_of regs)) ≡ find (is_live id) (seen_entries interface.at)
  same id = by_words (find (is_live id) (seen_words (listed_of regs))) refl
    where
      by_entries : (o : Option Seen) → find (is_live id) (seen_entries interface.at) ≡ o → find (is_live id) (seen_words (listed_of regs)) ≡ None → None ≡ o
      by_entries None e none = refl
      by_entries (Some t) e none =
          let from = from_map seen_of interface.at t (find_among (is_live id) (seen_entries interface.at) t e) in
          let live = found_passes (is_live id) (seen_entries interface.at) t e in
          let place = shows.whole t (live_part id t live) (record { entry = from.0; among = from.1; is = from.2 }) in
          let word = get_or (listed_of regs) place.0 0 in
          let shown : Contains (seen_words (listed_of regs)) t = map_among seen_in (listed_of regs) word t (place.0, place.1, get_or_default (listed_of regs) place.0 word 0 place.1) place.2 in
          absurd (none-some t (sym none ∙ find_once (is_live id) (seen_words (listed_of regs)) t (few id) shown live))

      by_words : (o : Option Seen) → find (is_live id) (seen_words (listed_of regs)) ≡ o → find (is_live id) (seen_words (listed_of regs)) ≡ find (is_live id) (seen_entries interface.at)
      by_words None e = e ∙ by_entries (find (is_live id) (seen_entries interface.at)) refl e
      by_words (Some s) e =
          let among = find_among (is_live id) (seen_words (listed_of regs)) s e in
          let live = found_passes (is_live id) (seen_words (listed_of regs)) s e in
          let within : among.0 < length (listed_of regs) = omega (arith, length-map (listed_of regs) seen_in, among.1) in
          let shown : seen_in (get_or (listed_of regs) among.0 0) ≡ s = sym (get_or-map seen_in (listed_of regs) among.0 0 s within) ∙ among.2 in
          let one = shows.only among.0 id within (ap (is_live id) shown ∙ live) in
          let most : length (filter (is_live id) (seen_entries interface.at)) ≤ 1 = (let some = live_once id interface.at in let once = is.once id in omega (arith, some, once)) in
          e ∙ sym (find_once (is_live id) (seen_entries interface.at) s most (map_among seen_of interface.at one.entry s one.among (one.is ∙ shown)) live)

  pub shows_agree : HoldCpu regs interface.cpu → Agrees regs interface
  shows_agree holds = record { holds = holds; same = same; once = few }

-- What is expected, said otherwise.

pub shows_as : (words : List ℕ) (P Q : Seen → Type 0) → ((s : Seen) → P s → Q s) → ((s : Seen) → lives s ≡ true → Q s → P s) → Shows words P → Shows words Q
shows_as words P Q to from shows = record {
  only = λ place id within live. to (seen_in (get_or words place 0)) (shows.only place id within live);
  whole = λ s h q. shows.whole s h (from s h q);
  once = shows.once;
}

-- A list register changes.

-- it becomes free: what was there is not expected any more
pub shows_without :
    (words : List ℕ) (P Q : Seen → Type 0) (place k : ℕ) → place < length words → is_live k (seen_in (get_or words place 0)) ≡ true → ((s : Seen) → P s → s.id ≢ k → Q s) → ((s : Seen) → lives s ≡ true → Q s → P s × (s.id ≢ k)) → Shows words P → Shows (set words place 0) Q
shows_without words P Q place k within live to from shows = record {
  only = λ n id less h. at n id (omega (arith, length-set words place 0, less)) h (cases_eq n place);
  whole = λ s h q.
      let was = from s h q in
      let there = shows.whole s h was.0 in
      let apart : there.0 ≢ place = λ e. was.1 (sym (ap (λ (t : Seen). t.id) there.2) ∙ ap (λ n. (seen_in (get_or words n 0)).id) e ∙ live_id (seen_in (get_or words place 0)) k live) in
      (there.0, omega (arith, length-set words place 0, there.1), ap seen_in (get_or-set_other words place there.0 0 0 apart) ∙ there.2);
  once = λ id m n l o h i. both id m n (omega (arith, length-set words place 0, l)) (omega (arith, length-set words place 0, o)) h i (cases_eq m place) (cases_eq n place);
}
  where
    gone : (n id : ℕ) → n ≡ place → is_live id (seen_in (get_or (set words place 0) n 0)) ≡ true → ⊥
    gone n id e h =
        let none = ap (λ m. is_live id (seen_in (get_or (set words place 0) m 0))) e ∙ ap (λ word. is_live id (seen_in word)) (get_or-set_same words place 0 0 within) ∙ not_live id in
        let no : true ≡ false = sym h ∙ none in
        cc

    stays : (n id : ℕ) → n ≢ place → is_live id (seen_in (get_or (set words place 0) n 0)) ≡ true → is_live id (seen_in (get_or words n 0)) ≡ true
    stays n id apart h = ap (λ word. is_live id (seen_in word)) (sym (get_or-set_other words place n 0 0 apart)) ∙ h

    at : (n id : ℕ) → n < length words → is_live id (seen_in (get_or (set words place 0) n 0)) ≡ true → (n ≡ place) ⊎ (n ≢ place) → Q (seen_in (get_or (set words place 0) n 0))
    at n id less h (inl same) = absurd (gone n id same h)
    at n id less h (inr apart) =
        let word = get_or-set_other words place n 0 0 apart in
        let was = stays n id apart h in
        let other : (seen_in (get_or words n 0)).id ≢ k = λ e. apart (shows.once k n place less within (of_id (seen_in (get_or words n 0)) id was e) live) in
        subst (λ word. Q (seen_in word)) (sym word) (to (seen_in (get_or words n 0)) (shows.only n id less was) other)
      where
        of_id : (s : Seen) (id : ℕ) → is_live id s ≡ true → s.id ≡ k → is_live k s ≡ true
        of_id s id l e = subst (λ m. is_live m s ≡ true) (sym (live_id s id l) ∙ e) l

    both : (id m n : ℕ) → m < length words → n < length words → is_live id (seen_in (get_or (set words place 0) m 0)) ≡ true → is_live id (seen_in (get_or (set words place 0) n 0)) ≡ true → (m ≡ place) ⊎ (m ≢ place) → (n ≡ place) ⊎ (n ≢ place) → m ≡ n
    both id m n l o h i (inl same) there = absurd (gone m id same h)
    both id m n l o h i (inr apart) (inl same) = absurd (gone n id same i)
    both id m n l o h i (inr apart) (inr other) = shows.once id m n l o (stays m id apart h) (stays n id other i)

-- what it shows is another state of the same interrupt
pub shows_changed :
    (words : List ℕ) (P Q : Seen → Type 0) (place k new : ℕ) (change : Seen → Seen) → place < length words → is_live k (seen_in (get_or words place 0)) ≡ true → seen_in new ≡ change (seen_in (get_or words place 0)) → ((s : Seen) → (change s).id ≡ s.id) → ((s : Seen) → lives (change s) ≡ true)
    → ((s : Seen) → P s → s.id ≢ k → Q s) → ((s : Seen) → P s → s.id ≡ k → Q (change s)) → ((s : Seen) → lives s ≡ true → Q s → s.id ≢ k → P s) → ((s t : Seen) → P s → s.id ≡ k → Q t → t.id ≡ k → t ≡ change s) → Shows words P → Shows (set words place new) Q
shows_changed words P Q place k new change within live new_is keeps_id lives_on to to_here from from_here shows = record {
  only = λ n id less h. at n id (omega (arith, length-set words place new, less)) h (cases_eq n place);
  whole = λ s h q. found s h q (cases_eq s.id k);
  once = λ id m n l o h i. both id m n (omega (arith, length-set words place new, l)) (omega (arith, length-set words place new, o)) h i (cases_eq m place) (cases_eq n place);
}
  where
    was : Seen
    was = seen_in (get_or words place 0)

    was_id : (seen_in (get_or words place 0)).id ≡ k
    was_id = live_id (seen_in (get_or words place 0)) k live

    here : seen_in (get_or (set words place new) place 0) ≡ change (seen_in (get_or words place 0))
    here = ap seen_in (get_or-set_same words place new 0 within) ∙ new_is

    id_here : (n : ℕ) → n ≡ place → (seen_in (get_or (set words place new) n 0)).id ≡ k
    id_here n e = ap (λ m. (seen_in (get_or (set words place new) m 0)).id) e ∙ ap (λ (s : Seen). s.id) here ∙ keeps_id (seen_in (get_or words place 0)) ∙ was_id

    stays : (n id : ℕ) → n ≢ place → is_live id (seen_in (get_or (set words place new) n 0)) ≡ true → is_live id (seen_in (get_or words n 0)) ≡ true
    stays n id apart h = ap (λ word. is_live id (seen_in word)) (sym (get_or-set_other words place n new 0 apart)) ∙ h

    of_id : (s : Seen) (id : ℕ) → is_live id s ≡ true → s.id ≡ k → is_live k s ≡ true
    of_id s id l e = subst (λ m. is_live m s ≡ true) (sym (live_id s id l) ∙ e) l

    other : (n id : ℕ) → n < length words → n ≢ place → is_live id (seen_in (get_or words n 0)) ≡ true → (seen_in (get_or words n 0)).id ≢ k
    other n id less apart l e = apart (shows.once k n place less within (of_id (seen_in (get_or words n 0)) id l e) live)

    at : (n id : ℕ) → n < length words → is_live id (seen_in (get_or (set words place new) n 0)) ≡ true → (n ≡ place) ⊎ (n ≢ place) → Q (seen_in (get_or (set words place new) n 0))
    at n id less h (inl same) =
        subst (λ m. Q (seen_in (get_or (set words place new) m 0))) (sym same) (subst Q (sym here) (to_here (seen_in (get_or words place 0)) (shows.only place k within live) was_id))
    at n id less h (inr apart) =
        let l = stays n id apart h in
        subst (λ word. Q (seen_in word)) (sym (get_or-set_other words place n new 0 apart)) (to (seen_in (get_or words n 0)) (shows.only n id less l) (other n id less apart l))

    found : (s : Seen) → lives s ≡ true → Q s → (s.id ≡ k) ⊎ (s.id ≢ k) → (n : ℕ) × (n < length (set words place new)) × (seen_in (get_or (set words place new) n 0) ≡ s)
    found s h q (inl same) =
        (place, omega (arith, length-set words place new, within), here ∙ sym (from_here (seen_in (get_or words place 0)) s (shows.only place k within live) was_id q same))
    found s h q (inr apart) =
        let there = shows.whole s h (from s h q apart) in
        let away : there.0 ≢ place = λ e. apart (sym (ap (λ (t : Seen). t.id) there.2) ∙ ap (λ n. (seen_in (get_or words n 0)).id) e ∙ was_id) in
        (there.0, omega (arith, length-set words place new, there.1), ap seen_in (get_or-set_other words place there.0 new 0 away) ∙ there.2)

    both : (id m n : ℕ) → m < length words → n < length words → is_live id (seen_in (get_or (set words place new) m 0)) ≡ true → is_live id (seen_in (get_or (set words place new) n 0)) ≡ true → (m ≡ place) ⊎ (m ≢ place) → (n ≡ place) ⊎ (n ≢ place) → m ≡ n
    both id m n l o h i (inl same) (inl too) = same ∙ sym too
    both id m n l o h i (inl same) (inr apart) =
        let was = stays n id apart i in
        absurd (other n id o apart was (live_id (seen_in (get_or words n 0)) id was ∙ sym (live_id (seen_in (get_or (set words place new) m 0)) id h) ∙ id_here m same))
    both id m n l o h i (inr apart) (inl same) =
        let was = stays m id apart h in
        absurd (other m id l apart was (live_id (seen_in (get_or words m 0)) id was ∙ sym (live_id (seen_in (get_or (set words place new) n 0)) id i) ∙ id_here n same))
    both id m n l o h i (inr apart) (inr too) = shows.once id m n l o (stays m id apart h) (stays n id too i)

-- The list register of an interrupt changes.

-- where it is, and what is left
pub record IsChangedAt (k : ℕ) (change : ℕ → ℕ) (regs : IchRegs) : Type 0 where
  pub place : ℕ
  pub within : place < length (listed_of regs)
  pub live : is_live k (seen_in (get_or (listed_of regs) place 0)) ≡ true
  pub listed : listed_of (first_changed (λ word. is_live k (seen_in word)) change regs regs) ≡ set (listed_of regs) place (change (get_or (listed_of regs) place 0))

pub live_place : (regs : IchRegs) (P : Seen → Type 0) (k : ℕ) (change : ℕ → ℕ) (s : Seen) → Shows (listed_of regs) P → lives s ≡ true → P s → s.id ≡ k → IsChangedAt k change regs
live_place regs P k change s shows h p e = of (position (λ word. is_live k (seen_in word)) (listed_of regs)) refl
  where
    of : (o : Option ℕ) → position (λ word. is_live k (seen_in word)) (listed_of regs) ≡ o → IsChangedAt k change regs
    of None none =
        let there = shows.whole s h p in
        let word = get_or (listed_of regs) there.0 0 in
        absurd
        (none_placed (λ word. is_live k (seen_in word)) (listed_of regs) word (there.0, there.1, get_or_default (listed_of regs) there.0 word 0 there.1)
        (ap (is_live k) there.2 ∙ ap (λ n. is_live n s) (sym e) ∙ live_itself s h) none)
    of (Some place) at =
        let changed = changed_at_place (λ word. is_live k (seen_in word)) change regs regs place at in
        record { place = place; within = changed.within; live = changed.passes; listed = changed.listed }

pub changed_holds : (key : Key) (change : ℕ → ℕ) (regs : IchRegs) (cpu : CpuRec) → HoldCpu regs cpu → HoldCpu (with_changed key change regs) cpu
changed_holds key change regs cpu holds = of (position (λ word. is_live (intid_of key) (seen_in word)) (listed_of regs))
  where
    of : (o : Option ℕ) → HoldCpu (option_map_or (λ place. record regs { lr = set regs.lr place (change (get_or regs.lr place 0)) }) o regs) cpu
    of None = holds
    of (Some place) = record { enabled = holds.enabled; vmcr = holds.vmcr; ap0 = holds.ap0; ap1 = holds.ap1 }
