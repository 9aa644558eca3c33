-- Registers that stand for an interface place by place show what it shows.
use Rattle.std.proofs.Common.{◌≡◌, ◌≤◌, ◌<◌, ℕ, zero, suc, Bool, true, false, ◌&&◌, cond, nat_eq, Option, Some, None, List, [], ◌∷◌, length, filter, find, map, get_or, Contains, ◌⊎◌, inl, inr, refl, sym, ap, ◌∙◌, subst, arith}
use Rattle.std.proofs.lemmas.Grind.{common_steps}
use Rattle.std.proofs.lemmas.Option.{none-some}
use Rattle.std.proofs.lemmas.List.{length-map, get_or-map, get_or_default}
use Rattle.gic_ich.specs.Words.{HeldIrq, intid_of}
use Rattle.gic_ich.specs.GicPrio.Interface.{AtInterface}
use Rattle.gic_ich.proofs.GicPrio.EntryLemmas.{AreEntries}
use Rattle.gic_ich.specs.Place.{Seen, seen_in, seen_of, StandsAs, HasOne, StandByPlace}
use Rattle.gic_ich.specs.Regs.{listed_of}
use Rattle.gic_icv.specs.Agree.{is_live, seen_words, seen_entries, PlacesAgree}
use Rattle.gic_icv.proofs.FirstLemmas.{find_once, find_among, cons_cases, head_is, in_tail}
use Rattle.gic_icv.proofs.FollowLemmas.{live_once, found_passes}

-- one of a list of which at most one passes
pub alone : {X : Type 0} (p : X → Bool) (xs : List X) (a b : X) → length (filter p xs) ≤ 1 → Contains xs a → Contains xs b → p a ≡ true → p b ≡ true → a ≡ b
alone p [] a b few (k, within, is) have f g = absurd (omega (arith, within))
alone {X} p (x ∷ xs) a b few has have f g = by_head (p x) refl few (cons_cases x a xs has) (cons_cases x b xs have) (λ less here there. alone p xs a b less here there f g)
  where
    some : (xs : List X) (y : X) → Contains xs y → p y ≡ true → 1 ≤ length (filter p xs)
    some [] y (k, within, is) e = absurd (omega (arith, within))
    some (z ∷ xs) y h e = by_test (p z) refl (cons_cases z y xs h) (λ rest. some xs y rest e)
      where
        by_test : (c : Bool) → p z ≡ c → (z ≡ y) ⊎ Contains xs y → (Contains xs y → 1 ≤ length (filter p xs)) → 1 ≤ length (cond c (z ∷ filter p xs) (filter p xs))
        by_test true e' h rest = omega arith
        by_test false e' (inl same) rest = absurd (let no : true ≡ false = sym e ∙ sym (ap p same) ∙ e' in cc)
        by_test false e' (inr later) rest = rest later

    by_head : (c : Bool) → p x ≡ c → length (cond c (x ∷ filter p xs) (filter p xs)) ≤ 1 → (x ≡ a) ⊎ Contains xs a → (x ≡ b) ⊎ Contains xs b → (length (filter p xs) ≤ 1 → Contains xs a → Contains xs b → a ≡ b) → a ≡ b
    by_head c e few (inl same) (inl other) rest = sym same ∙ other
    by_head true e few (inl same) (inr later) rest = absurd (let more = some xs b later g in omega (arith, few, more))
    by_head true e few (inr later) (inl same) rest = absurd (let more = some xs a later f in omega (arith, few, more))
    by_head true e few (inr one) (inr other) rest = rest (omega (arith, few)) one other
    by_head false e few (inl same) (inr later) rest = absurd (let no : true ≡ false = sym f ∙ sym (ap p same) ∙ e in cc)
    by_head false e few (inr later) (inl same) rest = absurd (let no : true ≡ false = sym g ∙ sym (ap p same) ∙ e in cc)
    by_head false e few (inr one) (inr other) rest = rest few one other

-- where no two places pass, at most one does
pub few_pass : {X : Type 0} (p : X → Bool) (d : X) (xs : List X) → ((j k : ℕ) → j < length xs → k < length xs → p (get_or xs j d) ≡ true → p (get_or xs k d) ≡ true → j ≡ k) → length (filter p xs) ≤ 1
few_pass p d [] h = omega arith
few_pass {X} p d (x ∷ xs) h = by_head (p x) refl (few_pass p d xs (λ j k l m f g. (let e = h (suc j) (suc k) (omega (arith, l)) (omega (arith, m)) f g in omega (arith, e))))
  where
    none : (ys : List X) → ((k : ℕ) → k < length ys → p (get_or ys k d) ≡ true → ⊥) → length (filter p ys) ≤ 0
    none [] h = omega arith
    none (y ∷ ys) h = by_test (p y) refl (none ys (λ k l. h (suc k) (omega (arith, l))))
      where
        by_test : (c : Bool) → p y ≡ c → length (filter p ys) ≤ 0 → length (cond c (y ∷ filter p ys) (filter p ys)) ≤ 0
        by_test true e rest = absurd (h zero (omega arith) e)
        by_test false e rest = rest

    by_head : (c : Bool) → p x ≡ c → length (filter p xs) ≤ 1 → length (cond c (x ∷ filter p xs) (filter p xs)) ≤ 1
    by_head true e rest =
        let nothing = none xs (λ k l f. (let same = h zero (suc k) (omega arith) (omega (arith, l)) e f in omega (arith, same))) in
        omega (arith, nothing)
    by_head false e rest = rest

-- the entries of an interface with one INTID are one
pub same_entry : (at : List AtInterface) (a b : AtInterface) → AreEntries at → Contains at a → Contains at b → intid_of a.key ≡ intid_of b.key → a ≡ b
same_entry at a b are has have e = alone (λ entry. nat_eq (intid_of entry.key) (intid_of b.key)) at a b (are.once (intid_of b.key)) has have (ap (λ n. nat_eq n (intid_of b.key)) e ∙ itself (intid_of b.key)) (itself (intid_of b.key))
  where
    itself : (n : ℕ) → nat_eq n n ≡ true
    itself n = grind arith

-- nothing is seen in an empty list register
pub not_live : (id : ℕ) → is_live id (seen_in 0) ≡ false
not_live id = by_id (nat_eq 0 id)
  where
    by_id : (b : Bool) → (b && false) ≡ false
    by_id true = refl
    by_id false = refl

-- a list register with a live interrupt has something held at its place
pub live_held : (words : List ℕ) (held : List (Option HeldIrq)) (at : List AtInterface) (place id : ℕ) → StandByPlace words held at → place < length words → is_live id (seen_in (get_or words place 0)) ≡ true → (one : HeldIrq) × (get_or held place None ≡ Some one) × HasOne (get_or words place 0) one at
live_held words held at place id stand within live = by_place (get_or held place None) refl
  where
    by_place : (o : Option HeldIrq) → get_or held place None ≡ o → (one : HeldIrq) × (get_or held place None ≡ Some one) × HasOne (get_or words place 0) one at
    by_place None e = absurd (let no : true ≡ false = sym live ∙ ap (λ word. is_live id (seen_in word)) (stand.free place within e) ∙ not_live id in cc)
    by_place (Some one) e = (one, e, stand.filled place one within e)

pub live_id : (s : Seen) (k : ℕ) → is_live k s ≡ true → s.id ≡ k
live_id s k e = grind (arith, common_steps)

-- an element of a list through a map
pub map_among : {X Y : Type 0} (f : X → Y) (xs : List X) (x : X) (z : Y) → Contains xs x → f x ≡ z → Contains (map f xs) z
map_among f xs x z (k, within, is) e = (k, omega (arith, length-map xs f, within), get_or-map f xs k x z within ∙ ap f is ∙ e)

pub from_map : {X Y : Type 0} (f : X → Y) (xs : List X) (z : Y) → Contains (map f xs) z → (x : X) × Contains xs x × (f x ≡ z)
from_map f [] z (k, within, is) = absurd (omega (arith, within))
from_map {X = X} f (x ∷ xs) z h = by_head (cons_cases (f x) z (map f xs) h) (from_map f xs z)
  where
    by_head : (f x ≡ z) ⊎ Contains (map f xs) z → (Contains (map f xs) z → (y : X) × Contains xs y × (f y ≡ z)) → (y : X) × Contains (x ∷ xs) y × (f y ≡ z)
    by_head (inl same) rest = (x, head_is x xs, same)
    by_head (inr later) rest = let found = rest later in (found.0, in_tail x found.0 xs found.1, found.2)

-- an entry of the interface stands in a list register
pub record Stands (words : List ℕ) (held : List (Option HeldIrq)) (at : List AtInterface) (entry : AtInterface) : Type 0 where
  pub place : ℕ
  pub one : HeldIrq
  pub within : place < length words
  pub there : get_or held place None ≡ Some one
  pub stands : StandsAs (get_or words place 0) one entry

pub stands : (words : List ℕ) (held : List (Option HeldIrq)) (at : List AtInterface) (entry : AtInterface) → StandByPlace words held at → AreEntries at → Contains at entry → Stands words held at entry
stands words held at entry stand are among =
    let found = stand.each entry among in
    let within : found.place < length words = inside found.place found.one found.there in
    let has = stand.filled found.place found.one within found.there in
    let same : has.entry ≡ entry = same_entry at has.entry entry are has.among among (ap intid_of (has.stands.key ∙ found.is)) in
    record { place = found.place; one = found.one; within = within; there = found.there; stands = subst (StandsAs (get_or words found.place 0) found.one) same has.stands }
  where
    inside : (place : ℕ) (one : HeldIrq) → get_or held place None ≡ Some one → place < length words
    inside place one e = by_order (grind arith)
      where
        by_order : (place < length words) ⊎ (length words ≤ place) → place < length words
        by_order (inl less) = less
        by_order (inr past) = absurd (none-some one (sym (stand.past place past) ∙ e))

-- what an entry shows has the INTID that is sought
pub entry_id : (word id : ℕ) (entry : AtInterface) → seen_in word ≡ seen_of entry → is_live id (seen_in word) ≡ true → intid_of entry.key ≡ id
entry_id word id entry e live = sym (ap (λ s. s.id) e) ∙ live_id (seen_in word) id live

pub shown_once : (words : List ℕ) (held : List (Option HeldIrq)) (at : List AtInterface) → StandByPlace words held at → AreEntries at → (id : ℕ) → length (filter (is_live id) (seen_words words)) ≤ 1
shown_once words held at stand are id =
    few_pass (is_live id) (seen_in 0) (seen_words words)
    (λ j k l m f g.
    let j_in : j < length words = omega (arith, length-map words seen_in, l) in
    let k_in : k < length words = omega (arith, length-map words seen_in, m) in
    let j_live : is_live id (seen_in (get_or words j 0)) ≡ true = ap (is_live id) (sym (get_or-map seen_in words j 0 (seen_in 0) j_in)) ∙ f in
    let k_live : is_live id (seen_in (get_or words k 0)) ≡ true = ap (is_live id) (sym (get_or-map seen_in words k 0 (seen_in 0) k_in)) ∙ g in
    let one = live_held words held at j id stand j_in j_live in
    let other = live_held words held at k id stand k_in k_live in
    let same = same_entry at one.2.entry other.2.entry are one.2.among other.2.among
    (entry_id (get_or words j 0) id one.2.entry one.2.stands.seen j_live ∙ sym (entry_id (get_or words k 0) id other.2.entry other.2.stands.seen k_live)) in
    stand.once j k one.0 other.0 one.1 other.1 (sym one.2.stands.key ∙ ap (λ entry. entry.key) same ∙ other.2.stands.key))

shown_same : (words : List ℕ) (held : List (Option HeldIrq)) (at : List AtInterface) → StandByPlace words held at → AreEntries at → (id : ℕ) → find (is_live id) (seen_words words) ≡ find (is_live id) (seen_entries at)
shown_same words held at stand are id = by_words (find (is_live id) (seen_words words)) refl
  where
    by_entries : (o : Option Seen) → find (is_live id) (seen_entries at) ≡ o → find (is_live id) (seen_words words) ≡ None → None ≡ o
    by_entries None e none = refl
    by_entries (Some t) e none =
        let from = from_map seen_of at t (find_among (is_live id) (seen_entries at) t e) in
        let place = stands words held at from.0 stand are from.1 in
        let live : is_live id (seen_in (get_or words place.place 0)) ≡ true = ap (is_live id) (place.stands.seen ∙ from.2) ∙ found_passes (is_live id) (seen_entries at) t e in
        let shown : Contains (seen_words words) (seen_in (get_or words place.place 0)) = map_among seen_in words (get_or words place.place 0) (seen_in (get_or words place.place 0)) (place.place, place.within, get_or_default words place.place (get_or words place.place 0) 0 place.within) refl in
        absurd (none-some (seen_in (get_or words place.place 0)) (sym none ∙ find_once (is_live id) (seen_words words) (seen_in (get_or words place.place 0)) (shown_once words held at stand are id) shown live))

    by_words : (o : Option Seen) → find (is_live id) (seen_words words) ≡ o → find (is_live id) (seen_words words) ≡ find (is_live id) (seen_entries at)
    by_words None e = e ∙ by_entries (find (is_live id) (seen_entries at)) refl e
    by_words (Some s) e =
        let among = find_among (is_live id) (seen_words words) s e in
        let live = found_passes (is_live id) (seen_words words) s e in
        let within : among.0 < length words = omega (arith, length-map words seen_in, among.1) in
        let is : seen_in (get_or words among.0 0) ≡ s = sym (get_or-map seen_in words among.0 0 s within) ∙ among.2 in
        let has = live_held words held at among.0 id stand within (ap (is_live id) is ∙ live) in
        let few : length (filter (is_live id) (seen_entries at)) ≤ 1 = (let some = live_once id at in let once = are.once id in omega (arith, some, once)) in
        e ∙ sym (find_once (is_live id) (seen_entries at) s few (map_among seen_of at has.2.entry s has.2.among (sym has.2.stands.seen ∙ is)) live)

pub places_agree : PlacesAgree
places_agree regs held interface is stand =
    let are : AreEntries interface.at = record { once = is.once; kinds = is.kinds } in
    record {
      holds = stand.holds;
      same = shown_same (listed_of regs) held interface.at stand.places are;
      once = shown_once (listed_of regs) held interface.at stand.places are;
    }
