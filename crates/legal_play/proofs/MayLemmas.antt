-- The interrupts of the events of a call that come in a fixed order.
use Rattle.std.proofs.Common.{◌≡◌, ℕ, zero, suc, ◌+◌, ◌<◌, ◌&&◌, ◌||◌, Bool, true, false, cond, not, nat_lt, List, [], ◌∷◌, drop, length, get_or, add-one, Option, Some, None, refl, sym, ap, ◌∙◌, true≢false}
use Rattle.std.specs.Prelude.{filter_map}
use Rattle.std.specs.List.{range_with_len, list_all, list_any, cons_option}
use Rattle.std.proofs.lemmas.List.{drop_more}
use Rattle.legal_steps.proofs.EventLemmas.{bare_keys, its_bare}
use Rattle.legal_steps.specs.Words.{GuestShape, Dist, Redist, Its, Ram as Memory, Icc, Mem, Message, Wire, Msi, Key, is_same_key, intid_of}
use Rattle.legal_steps.specs.Calls.{Event, Operation, Access, Device, Residence, pended_at, pended_events, enable_events, sets_lpis, redist_events, its_events}
use Rattle.legal_steps.specs.LegalLists.GicImap.Map.{decoded as its_decoded}
use Rattle.legal_steps.specs.LegalLists.Registers.{enable_lpis_after}
use Rattle.legal_steps.specs.LegalLists.GicRmap.declared.map.RegRef.{RegRef as RedistRef}
use Rattle.legal_steps.specs.LegalLists.GicRmap.declared.map.RegRef.TheVariants.{Plain as RedistPlain}
use Rattle.legal_steps.specs.LegalLists.GicRmap.declared.map.Reg.TheVariants.{Ctlr as RedistCtlr}
use Rattle.legal_steps.specs.LegalLists.GicRmap.Map.{decoded as redist_decoded}
use Rattle.legal_steps.specs.LegalLists.Legal.{keys_of, events_in_order, may_make_lpi, unseen}
use Rattle.legal_steps.specs.Histories.{key_in}
use Rattle.history_play.specs.HistoryCalls.Exact.{events_by, is_plain}
use Rattle.history_play.specs.HistoryCalls.Found.{seen_by}

-- a call that made nothing is seen as nothing is
pub plain_keys : (shape : GuestShape) (actor : ℕ) (operation : Operation) → events_by shape actor (seen_by true []) operation ≡ events_in_order shape actor operation
plain_keys shape actor (Access (Icc reg write)) = refl
plain_keys shape actor (Access (Mem frame offset size write)) = refl
plain_keys shape actor (Device op) = refl
plain_keys shape actor Residence = refl

none_of : {X Y : Type 0} (f : X → Option Y) (xs : List X) → ((x : X) → f x ≡ None) → filter_map f xs ≡ []
none_of f [] none = refl
none_of f (x ∷ xs) none = ap (λ o. cons_option o (filter_map f xs)) (none x) ∙ none_of f xs none

-- nothing rises, as far as nothing is seen
none_pended : (shape : GuestShape) (vcpu : ℕ) → keys_of (pended_events shape unseen vcpu) ≡ []
none_pended shape vcpu = ap keys_of (none_of (λ number. pended_at shape unseen vcpu (8192 + number)) (range_with_len 0 shape.lpis) (λ number. refl))

when : (b : Bool) (events : List Event) → keys_of events ≡ [] → keys_of (cond b events []) ≡ []
when true events h = h
when false events h = refl

enabled_keys : (shape : GuestShape) (vcpu : ℕ) (ref : RedistRef) (write : Option ℕ) → not (sets_lpis shape ref write) ≡ false → keys_of (redist_events shape unseen vcpu ref write) ≡ []
enabled_keys shape vcpu (RedistPlain RedistCtlr half) (Some value) h = when (enable_lpis_after shape false value) (enable_events shape unseen vcpu) (none_pended shape vcpu)
enabled_keys shape vcpu ref write h = absurd (true≢false h)

pub other_keys : (shape : GuestShape) (actor : ℕ) (operation : Operation) → is_plain shape operation ≡ false → keys_of (events_in_order shape actor operation) ≡ []
other_keys shape actor (Access (Icc reg write)) h = absurd (true≢false h)
other_keys shape actor (Access (Mem Dist offset size write)) h = absurd (true≢false h)
other_keys shape actor (Access (Mem (Redist vcpu) offset size write)) h = enabled_keys shape vcpu (redist_decoded offset size) write h
other_keys shape actor (Access (Mem Its offset size write)) h = bare_keys (its_events shape unseen (its_decoded offset size) write) (its_bare shape unseen (its_decoded offset size) write)
other_keys shape actor (Access (Mem Memory offset size write)) h = absurd (true≢false h)
other_keys shape actor (Device (Message spi)) h = absurd (true≢false h)
other_keys shape actor (Device (Wire key up)) h = absurd (true≢false h)
other_keys shape actor (Device (Msi device event)) h = refl
other_keys shape actor Residence h = absurd (true≢false h)

not_not : (b : Bool) → not (not b) ≡ b
not_not true = refl
not_not false = refl

pub not_plain : (shape : GuestShape) (operation : Operation) (vcpu offset size : ℕ) (write : Option ℕ) → operation ≡ Access (Mem (Redist vcpu) offset size write) → not (is_plain shape operation) ≡ sets_lpis shape (redist_decoded offset size) write
not_plain shape operation vcpu offset size write is = ap (λ operation. not (is_plain shape operation)) is ∙ not_not (sets_lpis shape (redist_decoded offset size) write)

drop_none : {X : Type 0} (n : ℕ) → ◌≡◌ {A = List X} (drop n []) []
drop_none zero = refl
drop_none (suc n) = refl

pub none_next : (shape : GuestShape) (actor : ℕ) (operation : Operation) (key : Key) (n : ℕ) → is_plain shape operation ≡ false → false ≡ list_any (is_same_key key) (drop n (keys_of (events_in_order shape actor operation)))
none_next shape actor operation key n h = sym (ap (λ keys. list_any (is_same_key key) (drop n keys)) (other_keys shape actor operation h) ∙ ap (list_any (is_same_key key)) (drop_none n))

-- a write that sets EnableLPIs
pub rises : (shape : GuestShape) (operation : Operation) (events : List Event) (id vcpu offset size : ℕ) (write : Option ℕ) (sets below : Bool) → operation ≡ Access (Mem (Redist vcpu) offset size write) → sets ≡ sets_lpis shape (redist_decoded offset size) write
    → below ≡ list_all (λ key. nat_lt (intid_of key) id) (keys_of events) → (sets && below) ≡ may_make_lpi shape operation events id
rises shape operation events id vcpu offset size write sets below is so all =
    ap (λ b. b && below) so ∙ (ap (λ b. sets_lpis shape (redist_decoded offset size) write && b) all ∙ ap (λ operation. may_make_lpi shape operation events id) (sym is))

-- Keys of events.

key_left : (events : List Event) (i : ℕ) (d : Event) → i < length events → keys_of (drop i events) ≡ cons_option (key_in (get_or events i d)) (keys_of (drop (i + 1) events))
key_left events i d h = ap keys_of (drop_more events i d h)

abbrev pub among_left : Key → List Event → ℕ → ℕ → Bool
among_left key events i n = list_any (is_same_key key) (drop n (keys_of (drop i events)))

module _ (key : Key) (events : List Event) (i : ℕ) (d : Event) (within : i < length events) (all : Bool) where
  abbrev among : ℕ → ℕ → Bool
  among n i = list_any (is_same_key key) (drop n (keys_of (drop i events)))

  pub among_none : (n : ℕ) → key_in (get_or events i d) ≡ None → among n i ≡ all → among n (i + 1) ≡ all
  among_none n none so = ap (λ keys. list_any (is_same_key key) (drop n keys)) (sym (key_left events i d within ∙ ap (λ o. cons_option o (keys_of (drop (i + 1) events))) none)) ∙ so

  some_left : (n : ℕ) (other : Key) → key_in (get_or events i d) ≡ Some other → among n i ≡ list_any (is_same_key key) (drop n (other ∷ keys_of (drop (i + 1) events)))
  some_left n other is = ap (λ keys. list_any (is_same_key key) (drop n keys)) (key_left events i d within ∙ ap (λ o. cons_option o (keys_of (drop (i + 1) events))) is)

  pub among_passed : (n m : ℕ) (other : Key) → key_in (get_or events i d) ≡ Some other → n ≡ m + 1 → among n i ≡ all → among m (i + 1) ≡ all
  among_passed n m other is more so = sym (ap (λ k. list_any (is_same_key key) (drop k (other ∷ keys_of (drop (i + 1) events)))) (more ∙ add-one m)) ∙ (sym (some_left n other is) ∙ so)

  pub among_other : (n : ℕ) (other : Key) → key_in (get_or events i d) ≡ Some other → n ≡ 0 → is_same_key key other ≡ false → among n i ≡ all → among n (i + 1) ≡ all
  among_other n other is none differ so =
      ap (λ k. among k (i + 1)) none
      ∙ (sym (ap (λ k. list_any (is_same_key key) (drop k (other ∷ keys_of (drop (i + 1) events)))) none ∙ ap (λ b. b || list_any (is_same_key key) (keys_of (drop (i + 1) events))) differ) ∙ (sym (some_left n other is) ∙ so))
