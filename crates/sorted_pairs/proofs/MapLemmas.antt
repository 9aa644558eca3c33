-- A map as the list of its entries: what a look-up finds after a change, and that the keys stay in order.
use Rattle.std.proofs.Common.{◌≡◌, ℕ, Bool, true, false, cond, Some, None, Option, List, [], ◌∷◌, refl, sym, ap, ◌∙◌, find, subst}
use Rattle.std.specs.declared.cmp.Ordering.{Ordering}
use Rattle.std.specs.declared.cmp.Ordering.TheVariants.{Less, Equal, Greater}
use Rattle.std.specs.Ordering.{nat_cmp, is_eq, is_lt, ordering_reverse, match_ordering}
use Rattle.std.specs.Cmp.{IsTotalOrder, alike_right, tied_itself, eq_by_cmp_equiv}
use Rattle.std.specs.List.{filter, AllByRecursion}
use Rattle.std.specs.List.Sorted.{IsStrictlySortedBy}
use Rattle.std.specs.Map.{lookup, remove_entry, keys_of}
use Rattle.std.proofs.lemmas.Map.{lookup-remove_entry}
use Rattle.std.proofs.lemmas.Map.Keys.{IsDistinct-from_sorted}
use Rattle.std.proofs.lemmas.Map.Lookups.{exact_unsigned}
use Rattle.std.proofs.lemmas.Option.{none-some, same_Some}
use Rattle.std.specs.BTreeMap.{is_at, insert_entry}

turned : (r : Ordering) → is_eq (ordering_reverse r) ≡ is_eq r
turned Less = refl
turned Equal = refl
turned Greater = refl

pub equal_from_test : (r : Ordering) → is_eq r ≡ true → r ≡ Equal
equal_from_test Less e = cc
equal_from_test Equal e = refl
equal_from_test Greater e = cc

-- a number that stands at another one is that
pub same_number : (x y : ℕ) → is_at (nat_cmp x) y ≡ true → x ≡ y
same_number x y t = exact_unsigned x y (equal_from_test (nat_cmp x y) t)

shadowed : {A : Type 0} (b : Bool) (x y z : A) → cond b x z ≡ cond b x (cond b y z)
shadowed true x y z = refl
shadowed false x y z = refl

swapped : {A : Type 0} (b c : Bool) (x y z : A) → (b ≡ true → c ≡ true → ⊥) → cond b x (cond c y z) ≡ cond c y (cond b x z)
swapped true true x y z apart = absurd (apart refl refl)
swapped true false x y z apart = refl
swapped false c x y z apart = refl

module _ {K : Type 0} {R : K → K → Ordering} (o : IsTotalOrder R) where
  flipped : (x y : K) → is_eq (R x y) ≡ is_eq (R y x)
  flipped x y = ap is_eq (o.antisymm x y) ∙ turned (R y x)

  -- keys of which only one can tie with q
  apart_from_greater : (k q e : K) → R k e ≡ Greater → is_eq (R q e) ≡ true → is_eq (R k q) ≡ true → ⊥
  apart_from_greater k q e is a b = let same : R k e ≡ Equal = o.congr k q e (equal_from_test (R k q) b) ∙ equal_from_test (R q e) a in cc

  found-insert : {X : Type 0} (q k : K) (v : X) (e : K × X) (found rest : Option X) (r : Ordering) → R k e.0 ≡ r → rest ≡ cond (is_eq (R k q)) (Some v) found
      → match_ordering r (cond (is_eq (R q k)) (Some v) (cond (is_eq (R q e.0)) (Some e.1) found)) (cond (is_eq (R q e.0)) (Some v) found) (cond (is_eq (R q e.0)) (Some e.1) rest) ≡ cond (is_eq (R k q)) (Some v) (cond (is_eq (R q e.0)) (Some e.1) found)
  found-insert q k v e found rest Less is more = ap (λ b. cond b (Some v) (cond (is_eq (R q e.0)) (Some e.1) found)) (flipped q k)
  found-insert q k v e found rest Equal is more =
      let same : is_eq (R q e.0) ≡ is_eq (R k q) = ap is_eq (sym (alike_right o k e.0 q is)) ∙ flipped q k in
      rw same (shadowed (is_eq (R k q)) (Some v) (Some e.1) found)
  found-insert q k v e found rest Greater is more = rw more (swapped (is_eq (R q e.0)) (is_eq (R k q)) (Some e.1) (Some v) found (apart_from_greater k q e.0 is))

  found-branch : {X : Type 0} (test : K → Bool) (r : Ordering) (es fs gs : List (K × X)) → lookup test (match_ordering r es fs gs) ≡ match_ordering r (lookup test es) (lookup test fs) (lookup test gs)
  found-branch test Less es fs gs = refl
  found-branch test Equal es fs gs = refl
  found-branch test Greater es fs gs = refl

  pub lookup-insert_entry : {X : Type 0} (q k : K) (v : X) (es : List (K × X)) → lookup (is_at (R q)) (insert_entry R es k v) ≡ cond (is_at (R k) q) (Some v) (lookup (is_at (R q)) es)
  lookup-insert_entry q k v [] = ap (λ b. cond b (Some v) None) (flipped q k)
  lookup-insert_entry q k v (e ∷ es) =
      found-branch (is_at (R q)) (R k e.0) ((k, v) ∷ e ∷ es) ((e.0, v) ∷ es) (e ∷ insert_entry R es k v)
      ∙ found-insert q k v e (lookup (is_at (R q)) es) (lookup (is_at (R q)) (insert_entry R es k v)) (R k e.0) refl (lookup-insert_entry q k v es)

  pub lookup-removed : {X : Type 0} (q k : K) (es : List (K × X)) → IsStrictlySortedBy R (keys_of es) → lookup (is_at (R q)) (remove_entry (is_at (R k)) es) ≡ cond (is_at (R k) q) None (lookup (is_at (R q)) es)
  lookup-removed q k es sorted = lookup-remove_entry (eq_by_cmp_equiv o) (is_at (R k)) (λ x y e. ap is_eq (o.congr k x y (equal_from_test (R k x) e))) q es (IsDistinct-from_sorted R (keys_of es) sorted)

  -- what a search finds is what the look-up of its key finds
  below_found : {X : Type 0} (Q : K → Type 0) (p : K × X → Bool) (es : List (K × X)) (e : K × X) → AllByRecursion Q (keys_of es) → find p es ≡ Some e → Q e.0
  below_found Q p [] e h f = absurd (none-some e f)
  below_found Q p (x ∷ es) e h f = elim (p x) as (λ b. cond b (Some x) (find p es) ≡ Some e → Q e.0) [
    | true ↦ λ g. subst (λ (y : K × _). Q y.0) (same_Some x e g) h.0
    | false ↦ λ g. below_found Q p es e h.1 g
  ] f

  pub lookup-found : {X : Type 0} (p : K × X → Bool) (es : List (K × X)) (e : K × X) → IsStrictlySortedBy R (keys_of es) → find p es ≡ Some e → (lookup (is_at (R e.0)) es ≡ Some e.1) × (p e ≡ true)
  unfolding IsStrictlySortedBy
  lookup-found p [] e s f = absurd (none-some e f)
  lookup-found {X} p (x ∷ es) e s f = elim (p x) as (λ b. p x ≡ b → cond b (Some x) (find p es) ≡ Some e → (lookup (is_at (R e.0)) (x ∷ es) ≡ Some e.1) × (p e ≡ true)) [
    | true ↦ λ h g. subst (λ (y : K × X). (lookup (is_at (R y.0)) (x ∷ es) ≡ Some y.1) × (p y ≡ true)) (same_Some x e g) (ap (λ r. cond (is_eq r) (Some x.1) (lookup (is_at (R x.0)) es)) (tied_itself o x.0), h)
    | false ↦ λ h g.
        let rest = lookup-found p es e s.1 g in
        let above : R e.0 x.0 ≡ Greater = o.antisymm e.0 x.0 ∙ ap ordering_reverse (below_found (λ y. R x.0 y ≡ Less) p es e s.0 g) in
        (ap (λ r. cond (is_eq r) (Some x.1) (lookup (is_at (R e.0)) es)) above ∙ rest.0, rest.1)
  ] refl f

  -- a key that is looked up comes after the first one, and is not before the first that passes
  below_looked : {X : Type 0} (x q : K) (es : List (K × X)) (w : X) → AllByRecursion (λ y. R x y ≡ Less) (keys_of es) → lookup (is_at (R q)) es ≡ Some w → R x q ≡ Less
  below_looked x q [] w h l = absurd (none-some w l)
  below_looked x q (e ∷ es) w h l = elim (is_at (R q) e.0) as (λ b. is_at (R q) e.0 ≡ b → cond b (Some e.1) (lookup (is_at (R q)) es) ≡ Some w → R x q ≡ Less) [
    | true ↦ λ t k. alike_right o q e.0 x (equal_from_test (R q e.0) t) ∙ h.0
    | false ↦ λ t k. below_looked x q es w h.1 k
  ] refl l

  pub not_before_found : {X : Type 0} (p : K → Bool) (q : K) (es : List (K × X)) (e : K × X) (w : X) → ((k : K) → is_at (R q) k ≡ true → p k ≡ true) → IsStrictlySortedBy R (keys_of es) → find (λ x. p x.0) es ≡ Some e → lookup (is_at (R q)) es ≡ Some w → is_lt (R q e.0) ≡ false
  unfolding IsStrictlySortedBy
  not_before_found p q [] e w h s f l = absurd (none-some w l)
  not_before_found {X} p q (x ∷ es) e w h s f l = elim (is_at (R q) x.0) as (λ c. is_at (R q) x.0 ≡ c → cond c (Some x.1) (lookup (is_at (R q)) es) ≡ Some w → is_lt (R q e.0) ≡ false) [
    | true ↦ λ t k.
        let hit : find (λ x. p x.0) (x ∷ es) ≡ Some x = ap (λ b. cond b (Some x) (find (λ x. p x.0) es)) (h x.0 t) in
        subst (λ (y : K × X). is_lt (R q y.0) ≡ false) (same_Some x e (sym hit ∙ f)) (ap is_lt (equal_from_test (R q x.0) t))
    | false ↦ λ t k. elim (p x.0) as (λ b. cond b (Some x) (find (λ x. p x.0) es) ≡ Some e → is_lt (R q e.0) ≡ false) [
      | true ↦ λ g.
          let after : R q x.0 ≡ Greater = o.antisymm q x.0 ∙ ap ordering_reverse (below_looked x.0 q es w s.0 k) in
          subst (λ (y : K × X). is_lt (R q y.0) ≡ false) (same_Some x e g) (ap is_lt after)
      | false ↦ λ g. not_before_found p q es e w h s.1 g k
    ] f
  ] refl l

-- where no value passes, a look-up finds none that does
pub lookup-unfound : {K X : Type 0} (test : K → Bool) (p : X → Bool) (es : List (K × X)) (v : X) → find (λ e. p e.1) es ≡ None → lookup test es ≡ Some v → p v ≡ false
lookup-unfound test p [] v f l = absurd (none-some v l)
lookup-unfound test p (x ∷ es) v f l = elim (p x.1) as (λ b. p x.1 ≡ b → cond b (Some x) (find (λ e. p e.1) es) ≡ None → p v ≡ false) [
  | true ↦ λ h g. cc
  | false ↦ λ h g. elim (test x.0) as (λ c. cond c (Some x.1) (lookup test es) ≡ Some v → p v ≡ false) [
    | true ↦ λ k. ap p (sym (same_Some x.1 v k)) ∙ h
    | false ↦ λ k. lookup-unfound test p es v g k
  ] l
] refl f

-- where no key passes, a look-up of a key that does finds nothing
pub lookup-no_key : {K X : Type 0} (test p : K → Bool) (es : List (K × X)) → ((k : K) → test k ≡ true → p k ≡ true) → find (λ e. p e.0) es ≡ None → lookup test es ≡ None
lookup-no_key test p [] h f = refl
lookup-no_key test p (x ∷ es) h f = elim (p x.0) as (λ b. p x.0 ≡ b → cond b (Some x) (find (λ e. p e.0) es) ≡ None → lookup test (x ∷ es) ≡ None) [
  | true ↦ λ k g. cc
  | false ↦ λ k g. elim (test x.0) as (λ c. test x.0 ≡ c → cond c (Some x.1) (lookup test es) ≡ None) [
    | true ↦ λ l. let passes : p x.0 ≡ true = h x.0 l in cc
    | false ↦ λ l. lookup-no_key test p es h g
  ] refl
] refl f

module _ {K X : Type 0} (R : K → K → Ordering) where
  below-insert : (x k : K) (v : X) (es : List (K × X)) → AllByRecursion (λ y. R x y ≡ Less) (keys_of es) → R x k ≡ Less → AllByRecursion (λ y. R x y ≡ Less) (keys_of (insert_entry R es k v))
  below-insert x k v [] h l = (l, tt)
  below-insert x k v (e ∷ es) h l = elim (R k e.0) as (λ r. AllByRecursion (λ y. R x y ≡ Less) (keys_of (match_ordering r ((k, v) ∷ e ∷ es) ((e.0, v) ∷ es) (e ∷ insert_entry R es k v)))) [
    | Less ↦ (l, h)
    | Equal ↦ h
    | Greater ↦ (h.0, below-insert x k v es h.1 l)
  ]

  below-remove : (x : K) (test : K → Bool) (es : List (K × X)) → AllByRecursion (λ y. R x y ≡ Less) (keys_of es) → AllByRecursion (λ y. R x y ≡ Less) (keys_of (remove_entry test es))
  below-remove x test [] h = h
  below-remove x test (e ∷ es) h = elim (test e.0) as (λ b. AllByRecursion (λ y. R x y ≡ Less) (keys_of (cond b es (e ∷ remove_entry test es)))) [
    | true ↦ h.1
    | false ↦ (h.0, below-remove x test es h.1)
  ]

  pub sorted-remove : (test : K → Bool) (es : List (K × X)) → IsStrictlySortedBy R (keys_of es) → IsStrictlySortedBy R (keys_of (remove_entry test es))
  unfolding IsStrictlySortedBy
  sorted-remove test [] h = h
  sorted-remove test (e ∷ es) h = elim (test e.0) as (λ b. IsStrictlySortedBy R (keys_of (cond b es (e ∷ remove_entry test es)))) [
    | true ↦ h.1
    | false ↦ (below-remove e.0 test es h.0, sorted-remove test es h.1)
  ]

module _ {K : Type 0} {R : K → K → Ordering} (o : IsTotalOrder R) where
  above_all : (k x : K) (ks : List K) → R k x ≡ Less → AllByRecursion (λ y. R x y ≡ Less) ks → AllByRecursion (λ y. R k y ≡ Less) ks
  above_all k x [] l h = h
  above_all k x (y ∷ ks) l h = (o.trans k x y l h.0, above_all k x ks l h.1)

  greater_from : (k x : K) → R k x ≡ Greater → R x k ≡ Less
  greater_from k x g = o.antisymm x k ∙ ap ordering_reverse g

  pub sorted-insert : {X : Type 0} (k : K) (v : X) (es : List (K × X)) → IsStrictlySortedBy R (keys_of es) → IsStrictlySortedBy R (keys_of (insert_entry R es k v))
  unfolding IsStrictlySortedBy
  sorted-insert k v [] h = (tt, tt)
  sorted-insert k v (e ∷ es) h = elim (R k e.0) as (λ r. R k e.0 ≡ r → IsStrictlySortedBy R (keys_of (match_ordering r ((k, v) ∷ e ∷ es) ((e.0, v) ∷ es) (e ∷ insert_entry R es k v)))) [
    | Less ↦ λ is. ((is, above_all k e.0 (keys_of es) is h.0), h)
    | Equal ↦ λ is. h
    | Greater ↦ λ is. (below-insert R e.0 k v es h.0 (greater_from k e.0 is), sorted-insert k v es h.1)
  ] refl

-- the keys of the entries whose keys pass
pub keys_of-filter : {K X : Type 0} (p : K → Bool) (es : List (K × X)) → keys_of (filter (λ e. p e.0) es) ≡ filter p (keys_of es)
keys_of-filter p [] = refl
keys_of-filter p (e ∷ es) = elim (p e.0) as (λ b. keys_of (cond b (e ∷ filter (λ x. p x.0) es) (filter (λ x. p x.0) es)) ≡ cond b (e.0 ∷ filter p (keys_of es)) (filter p (keys_of es))) [
  | true ↦ ap (λ ks. e.0 ∷ ks) (keys_of-filter p es)
  | false ↦ keys_of-filter p es
]
