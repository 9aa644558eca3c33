-- The LPIs of a device's events, of which the first event's is the first.
use Rattle.std.proofs.Common.{◌≡◌, ℕ, ◌==◌, true, false, cond, if◌then◌else◌, List, [], ◌∷◌, find, Option, Some, None, option_map, refl, sym, ap, ◌∙◌}
use Rattle.std.specs.List.{filter_map, cons_option}
use Rattle.std.specs.Map.{lookup, remove_entry}
use Rattle.std.specs.BTreeMap.{is_at}
use Rattle.std.specs.Ordering.{ordering_reverse, is_eq}
use Rattle.std.specs.declared.cmp.Ordering.{Ordering}
use Rattle.std.specs.declared.cmp.Ordering.TheVariants.{Less, Equal, Greater}
use Rattle.std.proofs.lemmas.Bool.{eq-eqb, eqb-true, false_from_ne_true}
use Rattle.floor_registers.specs.Registers.{Maps, event_cmp, pair_of, first_event, without_event}
use Rattle.floor_registers.proofs.ItsTab.TableLemmas.{event_order, same_event}
use Rattle.gic_call.specs.Command.{lpis_of_device}

own_order : (o : Ordering) → o ≡ ordering_reverse o → is_eq o ≡ true
own_order Less e = absurd (cc)
own_order Equal e = refl
own_order Greater e = absurd (cc)

at_itself : (event : ℕ × ℕ) → is_at (event_cmp event) event ≡ true
at_itself event = own_order (event_cmp event event) (event_order.antisymm event event)

pick : ℕ → (ℕ × ℕ) × (ℕ × ℕ) → Option ℕ
pick device pair = if pair.0.0 == device then Some pair.1.0 else None

off_key : (device event : ℕ) (key : ℕ × ℕ) → (key.0 == device) ≡ false → is_at (event_cmp (device, event)) key ≡ false
off_key device event key miss =
    false_from_ne_true (is_at (event_cmp (device, event)) key)
    (λ t. (let same : key.0 ≡ device = sym (ap (λ (x : ℕ × ℕ). x.0) (same_event (device, event) key t)) in
    let hit : (key.0 == device) ≡ true = eq-eqb key.0 device same in
    let both : true ≡ false = sym hit ∙ miss in
    absurd (cc)))

some_same : (m n : ℕ) → Some m ≡ Some n → m ≡ n
some_same m n f = cc

pair_same : (p q : ℕ × ℕ) → Some p ≡ Some q → p ≡ q
pair_same p q f = cc

first_in : (es : List ((ℕ × ℕ) × (ℕ × ℕ))) (device event : ℕ) (pair : ℕ × ℕ) → option_map (λ (pair : (ℕ × ℕ) × (ℕ × ℕ)). pair.0.1) (find (λ pair. pair.0.0 == device) es) ≡ Some event → lookup (is_at (event_cmp (device, event))) es ≡ Some pair
    → filter_map (pick device) es ≡ pair.0 ∷ filter_map (pick device) (remove_entry (is_at (event_cmp (device, event))) es)
unfolding pick
first_in [] device event pair found at = absurd (cc)
first_in (e ∷ es) device event pair found at = elim (e.0.0 == device) as (λ b. (e.0.0 == device) ≡ b → filter_map (pick device) (e ∷ es) ≡ pair.0 ∷ filter_map (pick device) (remove_entry (is_at (event_cmp (device, event))) (e ∷ es))) [
  | true ↦ λ hit. here hit
  | false ↦ λ miss. there miss (first_in es device event pair (sym (ap (λ b. option_map (λ (pair : (ℕ × ℕ) × (ℕ × ℕ)). pair.0.1) (cond b (Some e) (find (λ pair. pair.0.0 == device) es))) miss) ∙ found)
      (sym (ap (λ b. cond b (Some e.1) (lookup (is_at (event_cmp (device, event))) es)) (off_key device event e.0 miss)) ∙ at))
] refl
  where
    here : (e.0.0 == device) ≡ true → filter_map (pick device) (e ∷ es) ≡ pair.0 ∷ filter_map (pick device) (remove_entry (is_at (event_cmp (device, event))) (e ∷ es))
    here hit =
        let first : e.0.1 ≡ event
        = some_same e.0.1 event (sym (ap (λ b. option_map (λ (pair : (ℕ × ℕ) × (ℕ × ℕ)). pair.0.1) (cond b (Some e) (find (λ pair. pair.0.0 == device) es))) hit) ∙ found) in
        let key : e.0 ≡ (device, event) = ap (λ n. (n, e.0.1)) (eqb-true e.0.0 device hit) ∙ ap (λ n. (device, n)) first in
        let is : is_at (event_cmp (device, event)) e.0 ≡ true = ap (is_at (event_cmp (device, event))) key ∙ at_itself (device, event) in
        let value : e.1 ≡ pair = pair_same e.1 pair (sym (ap (λ b. cond b (Some e.1) (lookup (is_at (event_cmp (device, event))) es)) is) ∙ at) in
        ap (λ b. cons_option (if b then Some e.1.0 else None) (filter_map (pick device) es)) hit
        ∙ ap (λ (p : ℕ × ℕ). p.0 ∷ filter_map (pick device) es) value
        ∙ sym (ap (λ b. pair.0 ∷ filter_map (pick device) (cond b es (e ∷ remove_entry (is_at (event_cmp (device, event))) es))) is)

    there : (e.0.0 == device) ≡ false → filter_map (pick device) es ≡ pair.0 ∷ filter_map (pick device) (remove_entry (is_at (event_cmp (device, event))) es)
        → filter_map (pick device) (e ∷ es) ≡ pair.0 ∷ filter_map (pick device) (remove_entry (is_at (event_cmp (device, event))) (e ∷ es))
    there miss later =
        let rest = remove_entry (is_at (event_cmp (device, event))) es in
        ap (λ b. cons_option (if b then Some e.1.0 else None) (filter_map (pick device) es)) miss
        ∙ later
        ∙ sym (ap (λ b. pair.0 ∷ filter_map (pick device) (cond b es (e ∷ rest))) (off_key device event e.0 miss)
        ∙ ap (λ b. pair.0 ∷ cons_option (if b then Some e.1.0 else None) (filter_map (pick device) rest)) miss)

pub first_lpi : (maps : Maps) (device event : ℕ) (pair : ℕ × ℕ) → first_event maps device ≡ Some event → pair_of maps (device, event) ≡ Some pair → lpis_of_device maps device ≡ pair.0 ∷ lpis_of_device (without_event maps (device, event)) device
unfolding pick
first_lpi maps device event pair found at = first_in maps.events device event pair found at

-- without a first event there is none
no_lpis : (es : List ((ℕ × ℕ) × (ℕ × ℕ))) (device : ℕ) → option_map (λ (pair : (ℕ × ℕ) × (ℕ × ℕ)). pair.0.1) (find (λ pair. pair.0.0 == device) es) ≡ None → filter_map (pick device) es ≡ []
unfolding pick
no_lpis [] device none = refl
no_lpis (e ∷ es) device none = elim (e.0.0 == device) as (λ b. (e.0.0 == device) ≡ b → filter_map (pick device) (e ∷ es) ≡ []) [
  | true ↦ λ hit. absurd (some_first hit)
  | false ↦ λ miss. ap (λ b. cons_option (if b then Some e.1.0 else None) (filter_map (pick device) es)) miss
      ∙ no_lpis es device (sym (ap (λ b. option_map (λ (pair : (ℕ × ℕ) × (ℕ × ℕ)). pair.0.1) (cond b (Some e) (find (λ pair. pair.0.0 == device) es))) miss) ∙ none)
] refl
  where
    some_first : (e.0.0 == device) ≡ true → ⊥
    some_first hit = let f : Some e.0.1 ≡ None = sym (ap (λ b. option_map (λ (pair : (ℕ × ℕ) × (ℕ × ℕ)). pair.0.1) (cond b (Some e) (find (λ pair. pair.0.0 == device) es))) hit) ∙ none in absurd (cc)

pub lpis_over : (maps : Maps) (device : ℕ) → first_event maps device ≡ None → lpis_of_device maps device ≡ []
unfolding pick
lpis_over maps device none = no_lpis maps.events device none
