-- What an acknowledge and a deactivation do to what list registers show, and to what an interface shows.
use Rattle.std.proofs.Common.{◌≡◌, ◌≤◌, ◌<◌, ◌+◌, ◌*◌, ◌/◌, ◌%◌, ◌^◌, ℕ, zero, suc, Bool, true, false, not, ◌&&◌, ◌||◌, cond, if◌then◌else◌, nat_eq, nat_lt, Option, Some, None, option_and_then, List, [], ◌∷◌, ◌++◌, length, filter, find, get_or, set, refl, sym, ap, ◌∙◌, subst, arith}
use Rattle.std.specs.List.{list_all}
use Rattle.std.proofs.lemmas.Grind.{common_steps}
use Rattle.std.proofs.lemmas.Option.{none-some}
use Rattle.gic_ich.specs.Words.{G0, G1, intid_of, has_active_state}
use Rattle.gic_ich.specs.GicLr.declared.entry.LrState.{LrState}
use Rattle.gic_ich.specs.GicLr.declared.entry.LrState.TheVariants.{Invalid, Pending, Active, Both}
use Rattle.gic_ich.specs.GicLr.Entry.{unpacked, with_state, state_at, state_number, state_has_pending, state_has_active}
use Rattle.gic_ich.specs.GicPrio.Interface.{AtInterface, changed_at, acknowledged_entry, deactivated_entry, has_its_kind}
use Rattle.gic_icv.specs.Entries.{acknowledged_word, deactivated_word, inactive_state}
use Rattle.gic_ich.specs.Place.{Seen, seen_in, seen_of}
use Rattle.gic_icv.specs.Agree.{is_live, seen_words, seen_entries}

-- an interrupt after its acknowledge, and after its deactivation
abbrev pub seen_acknowledged : Seen → Seen
seen_acknowledged s = record s { pending = false; active = nat_lt s.id 8192 }

abbrev pub seen_deactivated : Seen → Seen
seen_deactivated s = record s { active = false }

-- the fields of a list register with another State
state_back : (state : LrState) (word : ℕ) → state_at ((word % 2 ^ 62 + state_number state * 2 ^ 62) / 2 ^ 62) ≡ state
state_back Invalid word = let is : (word % 2 ^ 62 + 0 * 2 ^ 62) / 2 ^ 62 ≡ 0 = omega arith in ap state_at is
state_back Pending word = let is : (word % 2 ^ 62 + 1 * 2 ^ 62) / 2 ^ 62 ≡ 1 = omega arith in ap state_at is
state_back Active word = let is : (word % 2 ^ 62 + 2 * 2 ^ 62) / 2 ^ 62 ≡ 2 = omega arith in ap state_at is
state_back Both word = let is : (word % 2 ^ 62 + 3 * 2 ^ 62) / 2 ^ 62 ≡ 3 = omega arith in ap state_at is

-- what is seen of the fields of a list register
abbrev made : ℕ → ℕ → ℕ → LrState → Seen
made id prio group state = record { id = id; prio = prio; group = if nat_eq group 1 then G1 else G0; pending = state_has_pending state; active = state_has_active state }

same_made : (id id' prio prio' group group' : ℕ) (state state' : LrState) → id ≡ id' → prio ≡ prio' → group ≡ group' → state ≡ state' → made id prio group state ≡ made id' prio' group' state'
same_made id id' prio prio' group group' state state' e f g h = rw (e, f, g, h) refl

pub seen_with_state : (word : ℕ) (state : LrState) → seen_in (with_state word state) ≡ record (seen_in word) { pending = state_has_pending state; active = state_has_active state }
seen_with_state word state =
    let after = with_state word state in
    let low : after % 2 ^ 62 ≡ word % 2 ^ 62 = omega arith in
    same_made (after % 2 ^ 32) (word % 2 ^ 32) (after / 2 ^ 48 % 2 ^ 8) (word / 2 ^ 48 % 2 ^ 8) (after / 2 ^ 60 % 2) (word / 2 ^ 60 % 2) (state_at (after / 2 ^ 62)) state
    (omega (arith, low)) (omega (arith, low)) (omega (arith, low)) (state_back state word)

pub word_acknowledged : (word : ℕ) → seen_in (acknowledged_word word) ≡ seen_acknowledged (seen_in word)
word_acknowledged word =
    seen_with_state word (if nat_lt (unpacked word).id 8192 then Active else Invalid) ∙ by_kind (nat_lt (unpacked word).id 8192)
  where
    by_kind : (b : Bool) → record (seen_in word) { pending = state_has_pending (if b then Active else Invalid); active = state_has_active (if b then Active else Invalid) } ≡ record (seen_in word) { pending = false; active = b }
    by_kind true = refl
    by_kind false = refl

pub word_deactivated : (word : ℕ) → seen_in (deactivated_word word) ≡ seen_deactivated (seen_in word)
word_deactivated word = seen_with_state word (inactive_state (unpacked word).state) ∙ by_state (unpacked word).state
  where
    by_state : (state : LrState) → record (seen_in word) { pending = state_has_pending (inactive_state state); active = state_has_active (inactive_state state) } ≡ record (seen_in word) { pending = state_has_pending state; active = false }
    by_state Invalid = refl
    by_state Pending = refl
    by_state Active = refl
    by_state Both = refl

-- what is seen of an INTID after a change of its interrupt
abbrev pub seen_after : (Seen → Seen) → ℕ → Option Seen → Option Seen
seen_after change k o = option_and_then (λ s. cond (is_live k (change s)) (Some (change s)) None) o

-- a list with one element replaced
pub record Split (words : List ℕ) (place new : ℕ) : Type 0 where
  pub front : List ℕ
  pub back : List ℕ
  pub was : words ≡ front ++ get_or words place 0 ∷ back
  pub is : set words place new ≡ front ++ new ∷ back

pub split : (words : List ℕ) (place new : ℕ) → place < length words → Split words place new
split [] place new h = absurd (omega (arith, h))
split (word ∷ words) zero new h = record { front = []; back = words; was = refl; is = refl }
split (word ∷ words) (suc place) new h =
    let rest = split words place new (omega (arith, h)) in
    record { front = word ∷ rest.front; back = rest.back; was = ap (λ xs. word ∷ xs) rest.was; is = ap (λ xs. word ∷ xs) rest.is }

pub seen_split : (front back : List ℕ) (word : ℕ) → seen_words (front ++ word ∷ back) ≡ seen_words front ++ seen_in word ∷ seen_words back
seen_split [] back word = refl
seen_split (x ∷ front) back word = ap (λ xs. seen_in x ∷ xs) (seen_split front back word)

-- nothing passes where none is counted
none_found : (p : Seen → Bool) (seen : List Seen) → length (filter p seen) ≤ 0 → find p seen ≡ None
none_found p [] h = refl
none_found p (x ∷ seen) h = by_head (none_found p seen) (p x) h
  where
    by_head : (length (filter p seen) ≤ 0 → find p seen ≡ None) → (b : Bool) → length (cond b (x ∷ filter p seen) (filter p seen)) ≤ 0 → cond b (Some x) (find p seen) ≡ None
    by_head rest true g = absurd (omega (arith, g))
    by_head rest false g = rest g

-- of another INTID
other_id : (s : Seen) (k id : ℕ) → s.id ≡ k → nat_eq id k ≡ false → is_live id s ≡ false
other_id s k id e f = grind (arith, common_steps)

same_id : (s : Seen) (k id : ℕ) → is_live id s ≡ true → nat_eq id k ≡ true → is_live k s ≡ true
same_id s k id e f = grind (arith, common_steps)

live_id : (s : Seen) (k : ℕ) → is_live k s ≡ true → s.id ≡ k
live_id s k e = grind (arith, common_steps)

eq_of : (m n : ℕ) → nat_eq m n ≡ true → m ≡ n
eq_of m n e = grind arith

-- what is counted after an element
counted_more : (p : Seen → Bool) (front back : List Seen) (s : Seen) → p s ≡ true → 1 ≤ length (filter p (front ++ s ∷ back))
counted_more p [] back s e = subst (λ b. 1 ≤ length (cond b (s ∷ filter p back) (filter p back))) (sym e) (omega arith)
counted_more p (x ∷ front) back s e = by_head (p x) (counted_more p front back s e)
  where
    by_head : (b : Bool) → 1 ≤ length (filter p (front ++ s ∷ back)) → 1 ≤ length (cond b (x ∷ filter p (front ++ s ∷ back)) (filter p (front ++ s ∷ back)))
    by_head true g = omega arith
    by_head false g = g

-- one element of a list is replaced by one of the same INTID
pub record Replaced (front back : List Seen) (k : ℕ) (s t : Seen) : Type 0 where
  pub live : is_live k s ≡ true
  pub id : t.id ≡ k
  pub once : length (filter (is_live k) (front ++ s ∷ back)) ≤ 1

pub found_replaced : (front back : List Seen) (k : ℕ) (s t : Seen) → Replaced front back k s t → (id : ℕ) → find (is_live id) (front ++ t ∷ back) ≡ cond (nat_eq id k) (cond (is_live k t) (Some t) None) (find (is_live id) (front ++ s ∷ back))
found_replaced [] back k s t h id = by_id (nat_eq id k) refl
  where
    rest_none : (b : Bool) → is_live k s ≡ b → b ≡ true → length (cond b (s ∷ filter (is_live k) back) (filter (is_live k) back)) ≤ 1 → find (is_live k) back ≡ None
    rest_none true e f g = none_found (is_live k) back (omega (arith, g))
    rest_none false e f g = absurd (cc)

    alone : (b : Bool) → find (is_live k) back ≡ None → cond b (Some t) (find (is_live k) back) ≡ cond b (Some t) None
    alone true e = refl
    alone false e = e

    by_id : (b : Bool) → nat_eq id k ≡ b → cond (is_live id t) (Some t) (find (is_live id) back) ≡ cond b (cond (is_live k t) (Some t) None) (cond (is_live id s) (Some s) (find (is_live id) back))
    by_id true e =
        let is : id ≡ k = eq_of id k e in
        subst (λ n. cond (is_live n t) (Some t) (find (is_live n) back) ≡ cond (is_live k t) (Some t) None) (sym is)
        (alone (is_live k t) (rest_none (is_live k s) refl h.live h.once))
    by_id false e =
        let t_other : is_live id t ≡ false = other_id t k id h.id e in
        let s_id : s.id ≡ k = live_id s k h.live in
        let s_other : is_live id s ≡ false = other_id s k id s_id e in
        ap (λ b. cond b (Some t) (find (is_live id) back)) t_other ∙ sym (ap (λ b. cond b (Some s) (find (is_live id) back)) s_other)
found_replaced (x ∷ front) back k s t h id =
    by_head (is_live k x) refl h.once (λ once. found_replaced front back k s t (record { live = h.live; id = h.id; once = once }) id)
  where
    tail_s : List Seen
    tail_s = front ++ s ∷ back

    tail_t : List Seen
    tail_t = front ++ t ∷ back

    passed : (b c : Bool) (o p : Option Seen) → is_live id x ≡ b → nat_eq id k ≡ c → is_live k x ≡ false → find (is_live id) tail_t ≡ cond c o (find (is_live id) tail_s) → cond b (Some x) (find (is_live id) tail_t) ≡ cond c o (cond b (Some x) (find (is_live id) tail_s))
    passed false c o p e f g rest = rest
    passed true true o p e f g rest = absurd (none-some x (ap (λ b. cond b (Some x) None) (sym g) ∙ ap (λ b. cond b (Some x) None) (same_id x k id e f)))
    passed true false o p e f g rest = refl

    by_head : (b : Bool) → is_live k x ≡ b → length (cond b (x ∷ filter (is_live k) tail_s) (filter (is_live k) tail_s)) ≤ 1 → (length (filter (is_live k) tail_s) ≤ 1 → find (is_live id) tail_t ≡ cond (nat_eq id k) (cond (is_live k t) (Some t) None) (find (is_live id) tail_s)) → find (is_live id) (x ∷ tail_t) ≡ cond (nat_eq id k) (cond (is_live k t) (Some t) None) (find (is_live id) (x ∷ tail_s))
    by_head true e once rest = let more = counted_more (is_live k) front back s h.live in absurd (omega (arith, once, more))
    by_head false e once rest = passed (is_live id x) (nat_eq id k) (cond (is_live k t) (Some t) None) None refl refl e (rest once)

-- and no INTID stands twice then
counted_less : (p : Seen → Bool) (front back : List Seen) (s t : Seen) → (p t ≡ true → p s ≡ true) → length (filter p (front ++ t ∷ back)) ≤ length (filter p (front ++ s ∷ back))
counted_less p [] back s t h = by_test (p t) (p s) h
  where
    by_test : (b c : Bool) → (b ≡ true → c ≡ true) → length (cond b (t ∷ filter p back) (filter p back)) ≤ length (cond c (s ∷ filter p back) (filter p back))
    by_test true true h = omega arith
    by_test true false h = absurd (let e : false ≡ true = h refl in cc)
    by_test false true h = omega arith
    by_test false false h = omega arith
counted_less p (x ∷ front) back s t h = by_head (p x) (counted_less p front back s t h)
  where
    by_head : (b : Bool) → length (filter p (front ++ t ∷ back)) ≤ length (filter p (front ++ s ∷ back)) → length (cond b (x ∷ filter p (front ++ t ∷ back)) (filter p (front ++ t ∷ back))) ≤ length (cond b (x ∷ filter p (front ++ s ∷ back)) (filter p (front ++ s ∷ back)))
    by_head true g = omega (arith, g)
    by_head false g = g

pub once_replaced : (front back : List Seen) (k : ℕ) (s t : Seen) → Replaced front back k s t → (id : ℕ) → length (filter (is_live id) (front ++ t ∷ back)) ≤ length (filter (is_live id) (front ++ s ∷ back))
once_replaced front back k s t h id = counted_less (is_live id) front back s t (λ e. still id s t k e h.id h.live)
  where
    still : (id : ℕ) (s t : Seen) (k : ℕ) → is_live id t ≡ true → t.id ≡ k → is_live k s ≡ true → is_live id s ≡ true
    still id s t k e f g = grind (arith, common_steps)

-- an interface after a change of the interrupt of one INTID
pub record IsEntryChange (change : AtInterface → AtInterface) (seen_change : Seen → Seen) : Type 0 where
  pub is : (entry : AtInterface) → has_its_kind entry ≡ true → seen_of (change entry) ≡ seen_change (seen_of entry)
  pub id : (s : Seen) → (seen_change s).id ≡ s.id

-- where the INTID is not live, the change makes nothing live
abbrev pub StaysDead : (Seen → Seen) → ℕ → List AtInterface → Type 0
StaysDead seen_change k at = find (is_live k) (seen_entries at) ≡ None → (s : Seen) → is_live k s ≡ false → is_live k (seen_change s) ≡ false

and_left : (a b : Bool) → (a && b) ≡ true → a ≡ true
and_left true b e = refl
and_left false b e = absurd (cc)

and_right : (a b : Bool) → (a && b) ≡ true → b ≡ true
and_right true b e = e
and_right false b e = absurd (cc)

none_changed : (change : AtInterface → AtInterface) (k : ℕ) (at : List AtInterface) → length (filter (λ entry. nat_eq (intid_of entry.key) k) at) ≤ 0 → changed_at change k at ≡ at
none_changed change k [] h = refl
none_changed change k (entry ∷ at) h = by_head (none_changed change k at) (nat_eq (intid_of entry.key) k) h
  where
    by_head : (length (filter (λ entry. nat_eq (intid_of entry.key) k) at) ≤ 0 → changed_at change k at ≡ at) → (b : Bool) → length (cond b (entry ∷ filter (λ entry. nat_eq (intid_of entry.key) k) at) (filter (λ entry. nat_eq (intid_of entry.key) k) at)) ≤ 0 → cond b (change entry) entry ∷ changed_at change k at ≡ entry ∷ at
    by_head rest true g = absurd (omega (arith, g))
    by_head rest false g = ap (λ xs. entry ∷ xs) (rest g)

none_seen : (k : ℕ) (at : List AtInterface) → length (filter (λ entry. nat_eq (intid_of entry.key) k) at) ≤ 0 → find (is_live k) (seen_entries at) ≡ None
none_seen k [] h = refl
none_seen k (entry ∷ at) h = by_head (none_seen k at) (nat_eq (intid_of entry.key) k) h
  where
    by_head : (length (filter (λ entry. nat_eq (intid_of entry.key) k) at) ≤ 0 → find (is_live k) (seen_entries at) ≡ None) → (b : Bool) → length (cond b (entry ∷ filter (λ entry. nat_eq (intid_of entry.key) k) at) (filter (λ entry. nat_eq (intid_of entry.key) k) at)) ≤ 0 → cond (b && (entry.pending || entry.active)) (Some (seen_of entry)) (find (is_live k) (seen_entries at)) ≡ None
    by_head rest true g = absurd (omega (arith, g))
    by_head rest false g = rest g

pub found_changed :
    (change : AtInterface → AtInterface) (seen_change : Seen → Seen) → IsEntryChange change seen_change → (k : ℕ) (at : List AtInterface) → length (filter (λ entry. nat_eq (intid_of entry.key) k) at) ≤ 1 → list_all has_its_kind at ≡ true → StaysDead seen_change k at → (id : ℕ)
    → find (is_live id) (seen_entries (changed_at change k at)) ≡ cond (nat_eq id k) (seen_after seen_change k (find (is_live k) (seen_entries at))) (find (is_live id) (seen_entries at))
found_changed change seen_change changes k [] once kinds dead id = empty (nat_eq id k)
  where
    empty : (b : Bool) → None ≡ cond b (seen_after seen_change k None) None
    empty true = refl
    empty false = refl
found_changed change seen_change changes k (entry ∷ at) once kinds dead id =
    by_head (nat_eq (intid_of entry.key) k) refl once (λ few later. found_changed change seen_change changes k at few (tail_kinds kinds) later id)
  where
    tail_kinds : list_all has_its_kind (entry ∷ at) ≡ true → list_all has_its_kind at ≡ true
    tail_kinds h = and_right (has_its_kind entry) (list_all has_its_kind at) h

    head_kind : list_all has_its_kind (entry ∷ at) ≡ true → has_its_kind entry ≡ true
    head_kind h = and_left (has_its_kind entry) (list_all has_its_kind at) h

    s : Seen
    s = seen_of entry

    t : Seen
    t = seen_of (change entry)

    -- the changed interrupt is the only one of its INTID
    only : (b : Bool) (o : Option Seen) → is_live k s ≡ b → o ≡ None → t ≡ seen_change s → (cond b (Some s) o ≡ None → is_live k s ≡ false → is_live k (seen_change s) ≡ false) → cond (is_live k t) (Some t) o ≡ seen_after seen_change k (cond b (Some s) o)
    only true o e f g gone = ap (λ none. cond (is_live k t) (Some t) none) f ∙ ap (λ x. cond (is_live k x) (Some x) None) g
    only false o e f g gone = let none : is_live k t ≡ false = ap (is_live k) g ∙ gone f e in rw (f, none) refl

    at_id : (b : Bool) → nat_eq id k ≡ b → intid_of entry.key ≡ k → length (filter (λ entry. nat_eq (intid_of entry.key) k) at) ≤ 0 → cond (is_live id t) (Some t) (find (is_live id) (seen_entries at)) ≡ cond b (seen_after seen_change k (cond (is_live k s) (Some s) (find (is_live k) (seen_entries at)))) (cond (is_live id s) (Some s) (find (is_live id) (seen_entries at)))
    at_id true e h few =
        let is : id ≡ k = eq_of id k e in
        subst (λ n. cond (is_live n t) (Some t) (find (is_live n) (seen_entries at)) ≡ seen_after seen_change k (cond (is_live k s) (Some s) (find (is_live k) (seen_entries at)))) (sym is)
        (only (is_live k s) (find (is_live k) (seen_entries at)) refl (none_seen k at few) (changes.is entry (head_kind kinds)) (λ none. dead none s))
    at_id false e h few =
        let t_id : t.id ≡ k = ap (λ x. x.id) (changes.is entry (head_kind kinds)) ∙ changes.id s ∙ h in
        let t_other : is_live id t ≡ false = other_id t k id t_id e in
        let s_other : is_live id s ≡ false = other_id s k id h e in
        ap (λ b. cond b (Some t) (find (is_live id) (seen_entries at))) t_other ∙ sym (ap (λ b. cond b (Some s) (find (is_live id) (seen_entries at))) s_other)

    -- another interrupt stays, and is not of that INTID
    passed : (b c : Bool) → is_live id s ≡ b → nat_eq id k ≡ c → is_live k s ≡ false → find (is_live id) (seen_entries (changed_at change k at)) ≡ cond c (seen_after seen_change k (find (is_live k) (seen_entries at))) (find (is_live id) (seen_entries at)) → cond b (Some s) (find (is_live id) (seen_entries (changed_at change k at))) ≡ cond c (seen_after seen_change k (cond (is_live k s) (Some s) (find (is_live k) (seen_entries at)))) (cond b (Some s) (find (is_live id) (seen_entries at)))
    passed b c e f g rest = rw g (by b c e f rest)
      where
        by : (b c : Bool) → is_live id s ≡ b → nat_eq id k ≡ c → find (is_live id) (seen_entries (changed_at change k at)) ≡ cond c (seen_after seen_change k (find (is_live k) (seen_entries at))) (find (is_live id) (seen_entries at)) → cond b (Some s) (find (is_live id) (seen_entries (changed_at change k at))) ≡ cond c (seen_after seen_change k (find (is_live k) (seen_entries at))) (cond b (Some s) (find (is_live id) (seen_entries at)))
        by false c e f rest = rest
        by true true e f rest = absurd (none-some s (ap (λ b. cond b (Some s) None) (sym g) ∙ ap (λ b. cond b (Some s) None) (same_id s k id e f)))
        by true false e f rest = refl

    by_head : (b : Bool) → nat_eq (intid_of entry.key) k ≡ b → length (cond b (entry ∷ filter (λ entry. nat_eq (intid_of entry.key) k) at) (filter (λ entry. nat_eq (intid_of entry.key) k) at)) ≤ 1
        → (length (filter (λ entry. nat_eq (intid_of entry.key) k) at) ≤ 1 → StaysDead seen_change k at → find (is_live id) (seen_entries (changed_at change k at)) ≡ cond (nat_eq id k) (seen_after seen_change k (find (is_live k) (seen_entries at))) (find (is_live id) (seen_entries at)))
        → find (is_live id) (seen_of (cond b (change entry) entry) ∷ seen_entries (changed_at change k at)) ≡ cond (nat_eq id k) (seen_after seen_change k (find (is_live k) (seen_entries (entry ∷ at)))) (find (is_live id) (seen_entries (entry ∷ at)))
    by_head true e few rest =
        let none : length (filter (λ entry. nat_eq (intid_of entry.key) k) at) ≤ 0 = omega (arith, few) in
        subst (λ xs. find (is_live id) (t ∷ seen_entries xs) ≡ cond (nat_eq id k) (seen_after seen_change k (find (is_live k) (seen_entries (entry ∷ at)))) (find (is_live id) (seen_entries (entry ∷ at)))) (sym (none_changed change k at none))
        (at_id (nat_eq id k) refl (eq_of (intid_of entry.key) k e) none)
    by_head false e few rest =
        let other : is_live k s ≡ false = ap (λ b. b && (entry.pending || entry.active)) e in
        passed (is_live id s) (nat_eq id k) refl refl other (rest few (λ none. dead (ap (λ b. cond b (Some s) (find (is_live k) (seen_entries at))) other ∙ none)))

-- an acknowledge and a deactivation are such changes
pub entry_acknowledged : IsEntryChange acknowledged_entry seen_acknowledged
entry_acknowledged = record { is = λ entry kind. ap (λ b. record { id = intid_of entry.key; prio = entry.prio; group = entry.group; pending = false; active = b }) (by_kind (nat_lt (intid_of entry.key) 8192) (has_active_state entry.key) kind); id = λ s. refl }
  where
    by_kind : (small active : Bool) → cond small active (not active) ≡ true → active ≡ small
    by_kind true true e = refl
    by_kind true false e = absurd (cc)
    by_kind false true e = absurd (cc)
    by_kind false false e = refl

pub entry_deactivated : IsEntryChange deactivated_entry seen_deactivated
entry_deactivated = record { is = λ entry kind. refl; id = λ s. refl }

-- a deactivation makes nothing live
pub deactivated_dead : (k : ℕ) (at : List AtInterface) → StaysDead seen_deactivated k at
deactivated_dead k at none s e = still (nat_eq s.id k) s.pending s.active e
  where
    still : (same pending active : Bool) → (same && (pending || active)) ≡ false → (same && (pending || false)) ≡ false
    still false pending active e = refl
    still true false active e = refl
    still true true active e = e
