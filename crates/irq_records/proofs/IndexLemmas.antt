-- The index stays exact as a record is put in the place of another, and as one more is looked at.
use Rattle.std.proofs.Common.{◌≡◌, ◌≢◌, ℕ, ◌+◌, ◌<◌, ◌≤◌, Bool, true, false, cond, is_some, Some, None, Option, IfNone, List, [], length, slice_get, slice_set, set, get_or, refl, sym, ap, ◌∙◌, subst, true≢false, arith}
use Rattle.std.specs.Ordering.{nat_cmp}
use Rattle.std.specs.Cmp.{nat_cmp_total}
use Rattle.std.specs.List.{AllByRecursion}
use Rattle.std.specs.List.Sorted.{IsStrictlySortedBy}
use Rattle.std.specs.Map.{lookup, keys_of}
use Rattle.std.specs.BTreeMap.{is_at}
use Rattle.std.specs.Option.{option_map_or}
use Rattle.std.proofs.lemmas.List.{get_or-set_same, get_or-set_other, length-set}
use Rattle.std.proofs.lemmas.Option.{slice_get-get_or}
use Rattle.floor_words.specs.Words.{Irq, is_pending}
use Rattle.sorted_pairs.proofs.MapLemmas.{same_number, lookup-insert_entry, lookup-removed, sorted-insert, sorted-remove}
use Rattle.sorted_pairs.proofs.RoomLemmas.{all_put, all_taken, room_for}
use Rattle.irq_records.specs.Pending.{is_pending_at}
use Rattle.irq_records.specs.Index.{marked, is_listed, IsIndex, IsKept}
use Rattle.irq_records.proofs.PlaceLemmas.{at_itself, weaker}

-- what is listed after a place was marked
listed_marked : (index : List (ℕ × Unit {0})) (place : ℕ) (is_on : Bool) (other : ℕ) → IsStrictlySortedBy nat_cmp (keys_of index) → is_listed (marked index place is_on) other ≡ cond (is_at (nat_cmp place) other) is_on (is_listed index other)
listed_marked index place true other sorted = ap is_some (lookup-insert_entry nat_cmp_total other place tt index) ∙ elim (is_at (nat_cmp place) other) as (λ b. is_some (cond b (Some tt) (lookup (is_at (nat_cmp other)) index)) ≡ cond b true (is_listed index other)) [ true ↦ refl | false ↦ refl ]
listed_marked index place false other sorted = ap is_some (lookup-removed nat_cmp_total other place index sorted) ∙ elim (is_at (nat_cmp place) other) as (λ b. is_some (cond b None (lookup (is_at (nat_cmp other)) index)) ≡ cond b false (is_listed index other)) [ true ↦ refl | false ↦ refl ]

ordered_marked : (index : List (ℕ × Unit {0})) (place : ℕ) (is_on : Bool) → IsStrictlySortedBy nat_cmp (keys_of index) → IsStrictlySortedBy nat_cmp (keys_of (marked index place is_on))
ordered_marked index place true sorted = sorted-insert nat_cmp_total place tt index sorted
ordered_marked index place false sorted = sorted-remove nat_cmp (is_at (nat_cmp place)) index sorted

within_marked : (index : List (ℕ × Unit {0})) (place : ℕ) (is_on : Bool) (count : ℕ) → place < count → AllByRecursion (λ k. k < count) (keys_of index) → AllByRecursion (λ k. k < count) (keys_of (marked index place is_on))
within_marked index place true count there within = all_put nat_cmp_total place tt (λ k. k < count) index within there
within_marked index place false count there within = all_taken (is_at (nat_cmp place)) (λ k. k < count) index within

-- the index after a place was marked, of records that are as they were at each other place
pub marked_is : {irqs later : List Irq} {count more : ℕ} {index : List (ℕ × Unit {0})} (place : ℕ) (is_on : Bool) → IsIndex irqs count index → count ≤ more → place < more → ((other : ℕ) → other < more → other ≢ place → (other < count) × (is_pending_at later other ≡ is_pending_at irqs other)) → is_pending_at later place ≡ is_on → IsIndex later more (marked index place is_on)
marked_is {irqs} {later} {count} {more} {index} place is_on is grows there same here = record {
  ordered = ordered_marked index place is_on is.ordered;
  within = within_marked index place is_on more there (weaker (keys_of index) (λ k less. omega (arith, less, grows)) is.within);
  exact = λ other within. listed_marked index place is_on other is.ordered ∙ elim (is_at (nat_cmp place) other) as (λ b. is_at (nat_cmp place) other ≡ b → cond b is_on (is_listed index other) ≡ is_pending_at later other) [
    | true ↦ λ t. sym here ∙ ap (is_pending_at later) (same_number place other t)
    | false ↦ λ t.
        let apart : other ≢ place = λ e. true≢false (sym (at_itself place) ∙ ap (is_at (nat_cmp place)) (sym e) ∙ t) in
        let was = same other within apart in
        is.exact other was.0 ∙ sym was.1
  ] refl;
}

-- the record that was put in a place
pub pending_set : (irqs : List Irq) (place : ℕ) (irq : Irq) → place < length irqs → is_pending_at (slice_set irqs place irq) place ≡ is_pending irq
pending_set irqs place irq there = ap (λ o. option_map_or is_pending o false) (slice_get_set_same irqs place irq there)
  where
    slice_get_set_same : (irqs : List Irq) (place : ℕ) (irq : Irq) → place < length irqs → slice_get (slice_set irqs place irq) place ≡ Some irq
    slice_get_set_same irqs place irq there = slice_get-get_or (set irqs place irq) place irq (subst (λ n. place < n) (sym (length-set irqs place irq)) there) ∙ ap Some (get_or-set_same irqs place irq irq there)

-- no other place is touched
pub pending_other : (irqs : List Irq) (place other : ℕ) (irq : Irq) → other < length irqs → other ≢ place → is_pending_at (slice_set irqs place irq) other ≡ is_pending_at irqs other
pending_other irqs place other irq there apart =
    ap (λ o. option_map_or is_pending o false) (slice_get-get_or (set irqs place irq) other irq (subst (λ n. other < n) (sym (length-set irqs place irq)) there) ∙ ap Some (get_or-set_other irqs place other irq irq apart) ∙ sym (slice_get-get_or irqs other irq there))

-- the index of the records after one was put in a place
pub kept_set : {irqs : List Irq} {index now : List (ℕ × Unit {0})} {room more : ℕ} (place : ℕ) (irq : Irq) (is_on : Bool) → IsKept irqs index room → place < length irqs → is_on ≡ is_pending irq → now ≡ marked index place is_on → room ≤ more → IsKept (slice_set irqs place irq) now more
kept_set {irqs} {index} {now} {room} {more} place irq is_on kept there is marked_so grows =
    let long : length (slice_set irqs place irq) ≡ length irqs = length-set irqs place irq in
    record {
      all = subst (λ n. IsIndex (slice_set irqs place irq) n now) (sym long) (subst (IsIndex (slice_set irqs place irq) (length irqs)) (sym marked_so) (marked_is place is_on kept.all (omega arith) there (λ other within apart. (within, pending_other irqs place other irq within apart)) (pending_set irqs place irq there ∙ sym is)));
      fits = omega (arith, long, kept.fits, grows);
    }

-- of one more record
pub index_more : {irqs : List Irq} {index now : List (ℕ × Unit {0})} (place : ℕ) (is_on : Bool) → IsIndex irqs place index → is_on ≡ is_pending_at irqs place → now ≡ marked index place is_on → IsIndex irqs (place + 1) now
index_more {irqs} {index} {now} place is_on is here marked_so =
    subst (IsIndex irqs (place + 1)) (sym marked_so) (marked_is place is_on is (omega arith) (omega arith) (λ other within apart. (below other place within apart, refl)) (sym here))
  where
    below : (other place : ℕ) → other < place + 1 → other ≢ place → other < place
    below other place within apart = grind (arith, within, apart)

-- a place that is not in the index yet finds room
pub room_at : {irqs : List Irq} {index : List (ℕ × Unit {0})} {count : ℕ} (place high len room : ℕ) → IsIndex irqs count index → count ≤ high → place < high → len ≡ length index → high ≤ room → IfNone (lookup (is_at (nat_cmp place)) index) (len < room)
room_at {irqs} {index} {count} place high len room is grows there long fits = if_none (lookup (is_at (nat_cmp place)) index) (λ missing.
    let below = room_for index place tt 0 high is.ordered (weaker (keys_of index) (λ k less. (omega arith, omega (arith, less, grows))) is.within) (omega arith) there missing in
    omega (arith, below, long, fits))
  where
    if_none : {X : Type 0} (o : Option X) {P : Type 0} → (o ≡ None → P) → IfNone o P
    if_none None h = h refl
    if_none (Some x) h = tt

-- the record at a place that is there
pub pending_there : {irqs seen : List Irq} (place : ℕ) (d : Irq) (is_on : Bool) → seen ≡ irqs → place < length irqs → is_on ≡ is_pending (get_or seen place d) → is_on ≡ is_pending_at irqs place
pending_there {irqs} {seen} place d is_on view there is = is ∙ ap (λ rs. is_pending (get_or rs place d)) view ∙ ap (λ o. option_map_or is_pending o false) (sym (slice_get-get_or irqs place d there))

-- the index of no record yet
pub index_none : {irqs : List Irq} {index : List (ℕ × Unit {0})} → index ≡ [] → IsIndex irqs 0 index
unfolding IsStrictlySortedBy
index_none {irqs} is = subst (IsIndex irqs 0) (sym is) (record { ordered = tt; within = tt; exact = λ place none. absurd (omega (arith, none)) })
