-- The numbers of collections have 16 bits.
use Rattle.std.proofs.Common.{ℕ, ◌<◌, ◌==◌, not, Bool, true, false, cond, IfSome, Option, Some, None, List, [], ◌∷◌, All, filter, arith}
use Rattle.std.specs.Map.{lookup, keys_of, values_of}
use Rattle.std.specs.BTreeMap.{is_at, insert_entry}
use Rattle.std.specs.Ordering.{nat_cmp}
use Rattle.std.specs.Prelude.{ok_or}
use Rattle.std.proofs.lemmas.List.Elements.{All-cons, All-head, All-tail}
use Rattle.std.proofs.lemmas.Map.Views.{All-keys-insert_entry, All-values-insert_entry, All-map-remove_entry}
use Rattle.eager_rest.specs.LawSavesGoOn.RunsSplit.GicIdeal.IdealGuests.Registers.{Command, Movi, Int, Clear, Sync, Mapd, Mapc, Mapti, Mapi, Inv, Invall, Movall, Discard, UnknownNumber, Maps, event_cmp, pair_of, maps_after, recollected, commands, number_in, icid_in}
use Rattle.eager_rest.specs.LawSavesGoOn.RunsSplit.GicIdeal.IdealGuests.Calls.{maps_by, maps_done}

-- a collection that a command names
abbrev IsShort : Command → Type 0
IsShort (Movi device event icid) = icid < 65536
IsShort (Mapc icid rdbase valid) = icid < 65536
IsShort (Mapti device event id icid) = icid < 65536
IsShort (Mapi device event icid) = icid < 65536
IsShort command = Unit {0}

-- what holds of all values of a list holds of the one that is found
AllShort : List (ℕ × Command) → Type 0
AllShort [] = Unit {0}
AllShort (one ∷ rest) = IsShort one.1 × AllShort rest

found_short : (test : ℕ → Bool) (rows : List (ℕ × Command)) → AllShort rows → IfSome (lookup test rows) IsShort
unfolding AllShort
found_short test [] all = tt
found_short test (one ∷ rows) all = either (test one.0) one.1 (lookup test rows) all.0 (found_short test rows all.1)
  where
    either : (b : Bool) (command : Command) (found : Option Command) → IsShort command → IfSome found IsShort → IfSome (cond b (Some command) found) IsShort
    either true command found here later = here
    either false command found here later = later

icid_short : (words : List ℕ) → icid_in words < 65536
icid_short words = omega arith

abbrev pub AreShort : Maps → Type 0
AreShort maps = All (λ (pair : ℕ × ℕ). pair.1 < 65536) (values_of maps.events) × All (λ icid. icid < 65536) (keys_of maps.collections)

-- the maps after a command
module _ (maps : Maps) (short : AreShort maps) where
  abbrev OfEvent : ℕ × ℕ → Type 0
  OfEvent pair = pair.1 < 65536

  without_device_short : (device : ℕ) (events : List ((ℕ × ℕ) × (ℕ × ℕ))) → All (λ (pair : ℕ × ℕ). pair.1 < 65536) (values_of events) → All (λ (pair : ℕ × ℕ). pair.1 < 65536) (values_of (filter (λ pair. not (pair.0.0 == device)) events))
  without_device_short device [] all = all
  without_device_short device (one ∷ events) all =
      either (not (one.0.0 == device)) one (filter (λ pair. not (pair.0.0 == device)) events) (All-head (λ (pair : ℕ × ℕ). pair.1 < 65536) one.1 (values_of events) all)
      (without_device_short device events (All-tail (λ (pair : ℕ × ℕ). pair.1 < 65536) one.1 (values_of events) all))
    where
      either : (b : Bool) (one : (ℕ × ℕ) × (ℕ × ℕ)) (rest : List ((ℕ × ℕ) × (ℕ × ℕ))) → one.1.1 < 65536 → All (λ (pair : ℕ × ℕ). pair.1 < 65536) (values_of rest) → All (λ (pair : ℕ × ℕ). pair.1 < 65536) (values_of (cond b (one ∷ rest) rest))
      either true one rest here later = All-cons (λ (pair : ℕ × ℕ). pair.1 < 65536) one.1 (values_of rest) here later
      either false one rest here later = later

  with_event_short : (event : ℕ × ℕ) (id icid : ℕ) → icid < 65536 → All (λ (pair : ℕ × ℕ). pair.1 < 65536) (values_of (insert_entry event_cmp maps.events event (id, icid)))
  with_event_short event id icid few = All-values-insert_entry event_cmp event (id, icid) (λ (pair : ℕ × ℕ). pair.1 < 65536) maps.events short.0 few

  moved_short : (event : ℕ × ℕ) (icid : ℕ) (found : Option (ℕ × ℕ)) → icid < 65536 → AreShort (recollected maps event icid found)
  moved_short event icid None few = short
  moved_short event icid (Some pair) few = (with_event_short event pair.0 icid few, short.1)

  after_short : (command : Command) → IsShort command → AreShort (maps_after maps command)
  after_short (Mapd device size itt_addr true) few = (without_device_short device maps.events short.0, short.1)
  after_short (Mapd device size itt_addr false) few = (without_device_short device maps.events short.0, short.1)
  after_short (Mapc icid rdbase true) few = (short.0, All-keys-insert_entry nat_cmp icid rdbase (λ icid. icid < 65536) maps.collections short.1 few)
  after_short (Mapc icid rdbase false) few = (short.0, All-map-remove_entry (is_at (nat_cmp icid)) (λ (pair : ℕ × ℕ). pair.0) (λ icid. icid < 65536) maps.collections short.1)
  after_short (Mapti device event id icid) few = (with_event_short (device, event) id icid few, short.1)
  after_short (Mapi device event icid) few = (with_event_short (device, event) event icid few, short.1)
  after_short (Movi device event icid) few = moved_short (device, event) icid (pair_of maps (device, event)) few
  after_short (Discard device event) few = (All-map-remove_entry (is_at (event_cmp (device, event))) (λ (pair : (ℕ × ℕ) × (ℕ × ℕ)). pair.1) (λ (pair : ℕ × ℕ). pair.1 < 65536) maps.events short.0, short.1)
  after_short (Int device event) few = short
  after_short (Clear device event) few = short
  after_short (Sync rdbase) few = short
  after_short (Inv device event) few = short
  after_short (Invall icid) few = short
  after_short (Movall rdbase second) few = short

  pub done_short : (words : List ℕ) → AreShort (maps_done maps words)
  unfolding AllShort
  done_short words =
      let few = icid_short words in
      of (lookup (λ number. number == number_in words) (commands words))
      (found_short (λ number. number == number_in words) (commands words) (few, (tt, (tt, (tt, (tt, (few, (few, (few, (tt, (tt, (tt, (tt, tt)))))))))))))
    where
      of : (o : Option Command) → IfSome o IsShort → AreShort (maps_by maps (ok_or o UnknownNumber))
      of None is = short
      of (Some command) is = after_short command is
