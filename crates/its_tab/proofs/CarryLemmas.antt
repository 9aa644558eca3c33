-- What a command does to the maps, piece by piece.
use Rattle.std.proofs.Common.{◌≡◌, ℕ, ◌<◌, ◌==◌, not, Bool, true, false, cond, Some, None, IsSome, IfSome, List, [], ◌∷◌, length, find, refl, sym, ap, subst, arith}
use Rattle.std.specs.List.{filter}
use Rattle.std.specs.Option.{option_map}
use Rattle.its_cmd.specs.Words.{GuestShape}
use Rattle.its_cmd.specs.declared.command.Command.{Command}
use Rattle.its_tab.specs.Fault.{fault_of}
use Rattle.std.specs.Map.{lookup, remove_entry}
use Rattle.std.specs.BTreeMap.{is_at}
use Rattle.std.proofs.lemmas.Option.{none-some}
use Rattle.std.proofs.lemmas.Bool.{eq-eqb}
use Rattle.its_tab.specs.Maps.{Maps, event_cmp, bits_of, pair_of, owner_of, first_event, without_event, IsSound}
use Rattle.its_tab.specs.After.{without_events, maps_after, IsValid}
use Rattle.its_tab.proofs.TableLemmas.{same_event, unmapped}
use Rattle.its_tab.proofs.AfterLemmas.{own_id, some_from_test, none_left, kept_valid}

-- an event that is mapped has a mapped device, and its INTID is its own, in the maps that callers see
pub own_event : {maps seen : Maps} (event pair : ℕ × ℕ) → maps ≡ seen → IsSound maps → pair_of maps event ≡ Some pair → IsSome (bits_of seen event.0) × IfSome (owner_of seen pair.0) (λ owner. owner ≡ event)
own_event {maps} {seen} event pair view sound h =
    subst (λ m. IsSome (bits_of m event.0) × IfSome (owner_of m pair.0) (λ owner. owner ≡ event)) view (sound.of_mapped event pair h, own_id maps event pair sound h)

filter-remove_entry : {K X : Type 0} (test p : K → Bool) (es : List (K × X)) → ((k : K) → test k ≡ true → p k ≡ false) → filter (λ e. p e.0) (remove_entry test es) ≡ filter (λ e. p e.0) es
filter-remove_entry test p [] h = refl
filter-remove_entry test p (e ∷ es) h = elim (test e.0) as (λ b. test e.0 ≡ b → filter (λ e. p e.0) (cond b es (e ∷ remove_entry test es)) ≡ cond (p e.0) (e ∷ filter (λ e. p e.0) es) (filter (λ e. p e.0) es)) [
  | true ↦ λ t. ap (λ b. cond b (e ∷ filter (λ e. p e.0) es) (filter (λ e. p e.0) es)) (sym (h e.0 t))
  | false ↦ λ t. ap (λ xs. cond (p e.0) (e ∷ xs) xs) (filter-remove_entry test p es h)
] refl

length-remove_entry : {K X : Type 0} (test : K → Bool) (es : List (K × X)) (v : X) → lookup test es ≡ Some v → length (remove_entry test es) < length es
length-remove_entry test [] v h = absurd (none-some v h)
length-remove_entry test (e ∷ es) v h = elim (test e.0) as (λ b. cond b (Some e.1) (lookup test es) ≡ Some v → length (cond b es (e ∷ remove_entry test es)) < length (e ∷ es)) [
  | true ↦ λ g. omega arith
  | false ↦ λ g. let less = length-remove_entry test es v g in omega arith
] h

filter-unfound : {X : Type 0} (q : X → Bool) (es : List X) → find q es ≡ None → filter (λ e. not (q e)) es ≡ es
filter-unfound q [] h = refl
filter-unfound q (e ∷ es) h = elim (q e) as (λ b. cond b (Some e) (find q es) ≡ None → cond (not b) (e ∷ filter (λ e. not (q e)) es) (filter (λ e. not (q e)) es) ≡ e ∷ es) [
  | true ↦ λ g. absurd (none-some e (sym g))
  | false ↦ λ g. ap (λ xs. e ∷ xs) (filter-unfound q es g)
] h

-- the maps without the events of a device do not change as one of them is unmapped, and are the maps where none is mapped
pub without_events-without_event : (maps : Maps) (device event : ℕ) → without_events (without_event maps (device, event)) device ≡ without_events maps device
without_events-without_event maps device event =
    let own : (k : ℕ × ℕ) → is_at (event_cmp (device, event)) k ≡ true → not (k.0 == device) ≡ false = λ k t. ap not (eq-eqb k.0 device (sym (ap (λ (x : ℕ × ℕ). x.0) (same_event (device, event) k t)))) in
    ap (λ es. record maps { events = es }) (filter-remove_entry (is_at (event_cmp (device, event))) (λ k. not (k.0 == device)) maps.events own)

pub without_events-none : (maps : Maps) (device : ℕ) → first_event maps device ≡ None → without_events maps device ≡ maps
without_events-none maps device h =
    ap (λ es. record maps { events = es }) (filter-unfound (λ pair. pair.0.0 == device) maps.events (unmapped (λ (pair : (ℕ × ℕ) × (ℕ × ℕ)). pair.0.1) (find (λ pair. pair.0.0 == device) maps.events) h))

pub fewer_events : (maps : Maps) (event : ℕ × ℕ) → IsSome (pair_of maps event) → length (without_event maps event).events < length maps.events
fewer_events maps event h = let found = some_from_test (pair_of maps event) h in length-remove_entry (is_at (event_cmp event)) maps.events found.0 found.1

pub first_event-without_events : (maps : Maps) (device : ℕ) → first_event (without_events maps device) device ≡ None
first_event-without_events maps device = ap (option_map (λ pair. pair.0.1)) (none_left device maps.events)

-- what a good command leaves is valid
pub kept_now : (shape : GuestShape) (old new : Maps) (command : Command) → fault_of shape old command ≡ None → new ≡ maps_after old command → IsValid shape old → IsValid shape new
kept_now shape old new command good is valid = subst (IsValid shape) (sym is) (kept_valid shape old command valid good)
