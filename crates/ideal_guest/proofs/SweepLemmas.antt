-- LPIs to which something happens one after the other, in rising INTID: those to which nothing happened yet are as they were.
use Rattle.std.proofs.Common.{◌≡◌, ℕ, suc, ◌+◌, ◌-◌, ◌<◌, ◌≤◌, ◌&&◌, Bool, true, false, cond, if◌then◌else◌, List, [], ◌∷◌, map, filter, Option, Some, None, refl, sym, ap, subst, ◌∙◌, arith}
use Rattle.std.specs.List.{range_with_len, filter_map}
use Rattle.floor_calls.specs.Words.{GuestShape, Irq, Lpi, SetPending, ClearPending, raised, is_number, target_in}
use Rattle.floor_calls.specs.Registers.{is_enabled, priority_of, Maps, first_event, pair_of, without_event, without_events}
use Rattle.floor_calls.specs.Calls.{Event, Touch, Register, MapLpi, touched, Part, Map, Clear, each, config_byte, lpi_event, is_in_table, pended_at, lpis_of_device}
use Rattle.floor_calls.specs.GicCall.declared.command.Part.TheVariants.{Forget, Retarget, Raise, Configure}
use Rattle.floor_calls.specs.GicCall.declared.touch.Touching.TheVariants.{Retarget as RetargetLpi, Configure as ConfigureLpi, Forget as ForgetLpi}
use Rattle.floor_calls.proofs.GicOpen.KeyLemmas.{irq_other}
use Rattle.floor_calls.proofs.GicCall.DeviceLemmas.{first_lpi, lpis_over}
use Rattle.floor_calls.proofs.ItsTab.CarryLemmas.{without_events-without_event, without_events-none}
use Rattle.ideal_guest.specs.declared.guest.IdealGuest.{IdealGuest}
use Rattle.ideal_guest.specs.Ideal.{irq_at, view_of, changed_irq, after_event, after_events}
use Rattle.ideal_guest.specs.Sound.{IsSound}
use Rattle.ideal_guest.proofs.EachLemmas.{found_from, IsUnderway, found_happened, found_none}

-- a guest is sound, and has the shape, the maps, the words and the records of the LPIs from a number on that it had
pub record KeepsLater (old : IdealGuest) (n : ℕ) (now : IdealGuest) : Type 0 where
  pub sound : IsSound now
  pub shape : now.shape ≡ old.shape
  pub tables : now.tables ≡ old.tables
  pub words : now.words ≡ old.words
  pub later : (id : ℕ) → 8192 + n ≤ id → irq_at now (Lpi id) ≡ irq_at old (Lpi id)

pub keeps_start : (old : IdealGuest) → IsSound old → KeepsLater old 0 old
keeps_start old sound = record { sound = sound; shape = refl; tables = refl; words = refl; later = λ id from. refl }

pub keeps_more : (old now : IdealGuest) (n : ℕ) → KeepsLater old n now → KeepsLater old (n + 1) now
keeps_more old now n keeps = record { sound = keeps.sound; shape = keeps.shape; tables = keeps.tables; words = keeps.words; later = λ id from. keeps.later id (omega (arith, from)) }

same_lpi : (m n : ℕ) → Lpi m ≡ Lpi n → m ≡ n
same_lpi m n e = cc

-- the record of the LPI of that number changed
pub keeps_changed : (old now next : IdealGuest) (n : ℕ) (change : Irq → Irq) → KeepsLater old n now → next ≡ changed_irq (Lpi (8192 + n)) change now → IsSound next → KeepsLater old (n + 1) next
keeps_changed old now next n change keeps is sound =
    subst (KeepsLater old (n + 1)) (sym is)
    (record {
      sound = subst IsSound is sound;
      shape = keeps.shape;
      tables = keeps.tables;
      words = keeps.words;
      later = λ id from.
          irq_other now.shape (Lpi (8192 + n)) (Lpi id) (change (irq_at now (Lpi (8192 + n)))) now.irqs keeps.sound.shape (λ same. let e = same_lpi (8192 + n) id same in omega (arith, e, from)) ∙ keeps.later id (omega (arith, from));
    })

-- Parts of a command.

-- the LPI of a part
abbrev pub lpi_of : Part → ℕ
lpi_of (Forget id) = id
lpi_of (Map id target) = id
lpi_of (Retarget id target) = id
lpi_of (Raise id) = id
lpi_of (Clear id) = id
lpi_of (Configure id) = id

-- its event in a guest
abbrev pub event_of : IdealGuest → Part → Event
event_of guest part = lpi_event guest.shape (view_of guest) (view_of guest).targets part

-- it changes the record of that LPI
part_changes : (guest : IdealGuest) (part : Part) → (change : Irq → Irq) × (after_event guest (event_of guest part) ≡ changed_irq (Lpi (lpi_of part)) change guest)
part_changes guest (Forget id) = (touched guest.shape (Lpi id) ForgetLpi, refl)
part_changes guest (Map id target) = let byte = config_byte guest.shape (view_of guest) (Some target) id in (touched guest.shape (Lpi id) (MapLpi target (is_enabled byte) (priority_of byte)), refl)
part_changes guest (Retarget id target) = (touched guest.shape (Lpi id) (RetargetLpi target), refl)
part_changes guest (Raise id) = (raised, refl)
part_changes guest (Clear id) = (touched guest.shape (Lpi id) (Register ClearPending 1), refl)
part_changes guest (Configure id) = let byte = config_byte guest.shape (view_of guest) ((view_of guest).targets id) id in (touched guest.shape (Lpi id) (ConfigureLpi (is_enabled byte) (priority_of byte)), refl)

-- it goes by the words and by the record of that LPI alone
same_byte : (old now : IdealGuest) (target : Option ℕ) (id : ℕ) → now.shape ≡ old.shape → now.words ≡ old.words → config_byte now.shape (view_of now) target id ≡ config_byte old.shape (view_of old) target id
same_byte old now target id shape words =
    ap (λ shape. config_byte shape (view_of (record now { shape = shape })) target id) shape
    ∙ ap (λ words. config_byte old.shape (view_of (record now { shape = old.shape; words = words })) target id) words

pub same_target : (old now : IdealGuest) (id : ℕ) → now.shape ≡ old.shape → irq_at now (Lpi id) ≡ irq_at old (Lpi id) → (view_of now).targets id ≡ (view_of old).targets id
same_target old now id shape irq = ap (λ irq. target_in irq.route now.shape) irq ∙ ap (target_in (irq_at old (Lpi id)).route) shape

pub same_event : (old now : IdealGuest) (part : Part) → now.shape ≡ old.shape → now.words ≡ old.words → irq_at now (Lpi (lpi_of part)) ≡ irq_at old (Lpi (lpi_of part)) → event_of now part ≡ event_of old part
same_event old now (Forget id) shape words irq = refl
same_event old now (Map id target) shape words irq = ap (λ byte. Touch (Lpi id) (MapLpi target (is_enabled byte) (priority_of byte))) (same_byte old now (Some target) id shape words)
same_event old now (Retarget id target) shape words irq = refl
same_event old now (Raise id) shape words irq = refl
same_event old now (Clear id) shape words irq = refl
same_event old now (Configure id) shape words irq =
    ap (λ byte. Touch (Lpi id) (ConfigureLpi (is_enabled byte) (priority_of byte))) (ap (λ target. config_byte now.shape (view_of now) target id) (same_target old now id shape irq) ∙ same_byte old now ((view_of old).targets id) id shape words)

-- the events of the parts of those LPIs from a number on that pass
abbrev pub swept_from : IdealGuest → (ℕ → Bool) → (ℕ → Part) → ℕ → List Event
swept_from old p part n = map (event_of old) (each (filter p (range_with_len (8192 + n) (old.shape.lpis - n))) part)

-- the LPIs before a number are done
pub record Sweeps (old : IdealGuest) (p : ℕ → Bool) (part : ℕ → Part) (n : ℕ) (now : IdealGuest) : Type 0 where
  pub keeps : KeepsLater old n now
  pub left : after_events (swept_from old p part n) now ≡ after_events (map (event_of old) (each (filter p (range_with_len 8192 old.shape.lpis)) part)) old

pub sweeps_start : (old : IdealGuest) (p : ℕ → Bool) (part : ℕ → Part) → IsSound old → Sweeps old p part 0 old
sweeps_start old p part sound = record { keeps = keeps_start old sound; left = let all : old.shape.lpis - 0 ≡ old.shape.lpis = omega arith in ap (λ k. after_events (map (event_of old) (each (filter p (range_with_len 8192 k)) part)) old) all }

swept_next : (old : IdealGuest) (p : ℕ → Bool) (part : ℕ → Part) (n : ℕ) (passes : Bool) → n < old.shape.lpis → p (8192 + n) ≡ passes
    → swept_from old p part n ≡ cond passes (event_of old (part (8192 + n)) ∷ swept_from old p part (n + 1)) (swept_from old p part (n + 1))
swept_next old p part n passes more is =
    let left : old.shape.lpis - n ≡ suc (old.shape.lpis - (n + 1)) = omega arith in
    let next : 8192 + n + 1 ≡ 8192 + (n + 1) = omega arith in
    let rest : ℕ → List ℕ = λ m. filter p (range_with_len m (old.shape.lpis - (n + 1))) in
    ap (λ k. map (event_of old) (each (filter p (range_with_len (8192 + n) k)) part)) left
    ∙ ap (λ b. map (event_of old) (each (cond b ((8192 + n) ∷ rest (8192 + n + 1)) (rest (8192 + n + 1))) part)) is
    ∙ ap (λ m. map (event_of old) (each (cond passes ((8192 + n) ∷ rest m) (rest m)) part)) next
    ∙ either passes
  where
    more_part : List ℕ
    more_part = filter p (range_with_len (8192 + (n + 1)) (old.shape.lpis - (n + 1)))

    either : (b : Bool) → map (event_of old) (each (cond b ((8192 + n) ∷ more_part) more_part) part) ≡ cond b (event_of old (part (8192 + n)) ∷ swept_from old p part (n + 1)) (swept_from old p part (n + 1))
    either true = refl
    either false = refl

pub sweeps_hit : (old now next : IdealGuest) (p : ℕ → Bool) (part : ℕ → Part) (n : ℕ) → n < old.shape.lpis → p (8192 + n) ≡ true → lpi_of (part (8192 + n)) ≡ 8192 + n → next ≡ after_event now (event_of now (part (8192 + n))) → IsSound next → Sweeps old p part n now
    → Sweeps old p part (n + 1) next
sweeps_hit old now next p part n more passes own made sound so =
    let at = part (8192 + n) in
    let changes = part_changes now at in
    let is : next ≡ changed_irq (Lpi (8192 + n)) changes.0 now = made ∙ changes.1 ∙ ap (λ id. changed_irq (Lpi id) changes.0 now) own in
    let same : irq_at now (Lpi (lpi_of at)) ≡ irq_at old (Lpi (lpi_of at)) = so.keeps.later (lpi_of at) (omega (arith, own)) in
    record {
      keeps = keeps_changed old now next n changes.0 so.keeps is sound;
      left =
          ap (after_events (swept_from old p part (n + 1))) (made ∙ ap (after_event now) (same_event old now at so.keeps.shape so.keeps.words same))
          ∙ ap (λ events. after_events events now) (sym (swept_next old p part n true more passes))
          ∙ so.left;
    }

pub sweeps_miss : (old now : IdealGuest) (p : ℕ → Bool) (part : ℕ → Part) (n : ℕ) → n < old.shape.lpis → p (8192 + n) ≡ false → Sweeps old p part n now → Sweeps old p part (n + 1) now
sweeps_miss old now p part n more fails so =
    record { keeps = keeps_more old now n so.keeps; left = ap (λ events. after_events events now) (sym (swept_next old p part n false more fails)) ∙ so.left }

-- all are done
pub sweeps_end : (old now : IdealGuest) (p : ℕ → Bool) (part : ℕ → Part) (n : ℕ) → old.shape.lpis ≤ n → Sweeps old p part n now → now ≡ after_events (map (event_of old) (each (filter p (range_with_len 8192 old.shape.lpis)) part)) old
sweeps_end old now p part n all so =
    let none : old.shape.lpis - n ≡ 0 = omega arith in ap (λ k. after_events (map (event_of old) (each (filter p (range_with_len (8192 + n) k)) part)) now) (sym none) ∙ so.left

-- EnableLPIs of a vCPU rises.

-- what an LPI then does goes by its record and the words alone
abbrev pended_by : IdealGuest → ℕ → ℕ → GuestShape → List ℕ → Irq → Option Event
pended_by now vcpu id shape words irq =
    if is_number vcpu (target_in irq.route shape) && is_in_table shape (view_of (record now { shape = shape; words = words })) vcpu id then Some (Touch (Lpi id) (Register SetPending 1)) else None

same_pended : (old now : IdealGuest) (vcpu id : ℕ) → now.shape ≡ old.shape → now.words ≡ old.words → irq_at now (Lpi id) ≡ irq_at old (Lpi id) → pended_at now.shape (view_of now) vcpu id ≡ pended_at old.shape (view_of old) vcpu id
same_pended old now vcpu id shape words irq =
    ap (λ irq. pended_by now vcpu id now.shape now.words irq) irq
    ∙ ap (λ shape. pended_by now vcpu id shape now.words (irq_at old (Lpi id))) shape
    ∙ ap (λ words. pended_by now vcpu id old.shape words (irq_at old (Lpi id))) words

-- the event of the LPI of a number
abbrev pub pended_of : IdealGuest → ℕ → ℕ → Option Event
pended_of guest vcpu number = pended_at guest.shape (view_of guest) vcpu (8192 + number)

-- the LPIs before a number are done
pub record Pends (old : IdealGuest) (vcpu n : ℕ) (now : IdealGuest) : Type 0 where
  pub keeps : KeepsLater old n now
  pub way : IsUnderway old (filter_map (pended_of old vcpu) (range_with_len 0 old.shape.lpis)) (found_from (pended_of old vcpu) n old.shape.lpis) now

pub pends_start : (old : IdealGuest) (vcpu : ℕ) → IsSound old → Pends old vcpu 0 old
pends_start old vcpu sound =
    record {
      keeps = keeps_start old sound;
      way = record { sound = sound; shape = refl; left = let all : old.shape.lpis - 0 ≡ old.shape.lpis = omega arith in ap (λ k. after_events (filter_map (pended_of old vcpu) (range_with_len 0 k)) old) all };
    }

pub pends_hit : (old now next : IdealGuest) (vcpu n : ℕ) → n < old.shape.lpis → pended_of now vcpu n ≡ Some (Touch (Lpi (8192 + n)) (Register SetPending 1)) → next ≡ after_event now (Touch (Lpi (8192 + n)) (Register SetPending 1)) → IsSound next → Pends old vcpu n now
    → Pends old vcpu (n + 1) next
pends_hit old now next vcpu n more here made sound so =
    let keeps = so.keeps in
    let same : pended_of now vcpu n ≡ pended_of old vcpu n = same_pended old now vcpu (8192 + n) keeps.shape keeps.words (keeps.later (8192 + n) (omega arith)) in
    record {
      keeps = keeps_changed old now next n (touched now.shape (Lpi (8192 + n)) (Register SetPending 1)) keeps made sound;
      way = found_happened old now next _ (pended_of old vcpu) n old.shape.lpis (Touch (Lpi (8192 + n)) (Register SetPending 1)) more (sym same ∙ here) made sound (ap (λ g. g.shape) made) so.way;
    }

pub pends_miss : (old now : IdealGuest) (vcpu n : ℕ) → n < old.shape.lpis → pended_of now vcpu n ≡ None → Pends old vcpu n now → Pends old vcpu (n + 1) now
pends_miss old now vcpu n more here so =
    let keeps = so.keeps in
    let same : pended_of now vcpu n ≡ pended_of old vcpu n = same_pended old now vcpu (8192 + n) keeps.shape keeps.words (keeps.later (8192 + n) (omega arith)) in
    record { keeps = keeps_more old now n keeps; way = found_none old now _ (pended_of old vcpu) n old.shape.lpis more (sym same ∙ here) so.way }

-- A device's events are forgotten and unmapped.

-- the events of some LPIs that are forgotten
abbrev pub forgotten : IdealGuest → List ℕ → List Event
forgotten old ids = map (event_of old) (each ids Forget)

-- a guest with other maps
abbrev pub with_maps : Maps → IdealGuest → IdealGuest
with_maps maps guest = record guest { tables = maps }

-- the maps do not matter to them
maps_apart : (old : IdealGuest) (ids : List ℕ) (guest : IdealGuest) (maps : Maps) → after_events (forgotten old ids) (with_maps maps guest) ≡ with_maps maps (after_events (forgotten old ids) guest)
maps_apart old [] guest maps = refl
maps_apart old (id ∷ ids) guest maps = maps_apart old ids (after_event guest (event_of old (Forget id))) maps

-- some of the events of the device are forgotten and unmapped, and those that are left lead to where all lead from the start
pub record Forgets (old : IdealGuest) (device : ℕ) (now : IdealGuest) : Type 0 where
  pub sound : IsSound now
  pub shape : now.shape ≡ old.shape
  pub rest : without_events now.tables device ≡ without_events old.tables device
  pub left :
      (maps : Maps) → with_maps maps (after_events (forgotten old (lpis_of_device now.tables device)) now) ≡ with_maps maps (after_events (forgotten old (lpis_of_device old.tables device)) old)

pub forgets_start : (old : IdealGuest) (device : ℕ) → IsSound old → Forgets old device old
forgets_start old device sound = record { sound = sound; shape = refl; rest = refl; left = λ maps. refl }

pub forgets_next : (old now next : IdealGuest) (device event : ℕ) (pair : ℕ × ℕ) → first_event now.tables device ≡ Some event → pair_of now.tables (device, event) ≡ Some pair
    → next ≡ with_maps (without_event now.tables (device, event)) (after_event now (event_of now (Forget pair.0))) → IsSound next → Forgets old device now → Forgets old device next
forgets_next old now next device event pair first at is sound so =
    let maps_now = without_event now.tables (device, event) in
    let tables : next.tables ≡ maps_now = ap (λ g. g.tables) is in
    let ids = lpis_of_device maps_now device in
    let done = after_event now (event_of now (Forget pair.0)) in
    record {
      sound = sound;
      shape = ap (λ g. g.shape) is ∙ so.shape;
      rest = ap (λ maps. without_events maps device) tables ∙ without_events-without_event now.tables device event ∙ so.rest;
      left = λ maps.
          ap (with_maps maps) (ap (λ m. after_events (forgotten old (lpis_of_device m device)) next) tables ∙ ap (after_events (forgotten old ids)) is ∙ maps_apart old ids done maps_now)
          ∙ ap (λ ids. with_maps maps (after_events (forgotten old ids) now)) (sym (first_lpi now.tables device event pair first at))
          ∙ so.left maps;
    }

pub forgets_end : (old now : IdealGuest) (device : ℕ) → first_event now.tables device ≡ None → Forgets old device now → now ≡ with_maps (without_events old.tables device) (after_events (forgotten old (lpis_of_device old.tables device)) old)
forgets_end old now device none so =
    let over = lpis_over now.tables device none in
    let maps : now.tables ≡ without_events old.tables device = sym (without_events-none now.tables device none) ∙ so.rest in
    ap (λ ids. with_maps now.tables (after_events (forgotten old ids) now)) (sym over)
    ∙ so.left now.tables
    ∙ ap (λ maps. with_maps maps (after_events (forgotten old (lpis_of_device old.tables device)) old)) maps
