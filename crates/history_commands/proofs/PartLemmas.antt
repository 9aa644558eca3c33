-- The parts of a command, and whether an event is one of them.
use Rattle.std.proofs.Common.{◌≡◌, ◌↔◌, ℕ, IsTrue, ◌+◌, ◌<◌, ◌==◌, nat_eq, Bool, true, false, cond, if◌then◌else◌, List, [], ◌∷◌, ◌++◌, filter, take, length, get_or, Option, Some, None, refl, sym, ap, ◌∙◌, subst, add-one, append-nil}
use Rattle.std.specs.List.{range_with_len, filter_map, cons_option}
use Rattle.std.specs.Option.{option_eq}
use Rattle.std.proofs.lemmas.Bool.{eq-eqb, ne_eqb}
use Rattle.std.proofs.lemmas.List.{take_more}
use Rattle.std.proofs.lemmas.List.Elements.{filter-append, filter_map-append}
use Rattle.history_commands.specs.Words.{GuestShape, Irq, is_number}
use Rattle.history_commands.specs.Calls.{Event, Touch, Found, Record, Happened, Part, View, HandsOut, lpi_event, byte_places}
use Rattle.history_commands.specs.GicCall.declared.command.Part.TheVariants.{Forget, Map, Retarget, Raise, Clear, Configure}
use Rattle.history_commands.specs.GicCall.declared.event.Event.TheVariants.{Raise as RaiseEvent}
use Rattle.history_commands.specs.GicCall.declared.event.Found.TheVariants.{Nothing}
use Rattle.history_commands.specs.HistoryCalls.Found.{found_by}
use Rattle.history_commands.specs.Stage.{AreReadBy, IsPartMade}
use Rattle.history_commands.specs.Followed.{hands_some}
use Rattle.history_calls.proofs.GicCall.RangeLemmas.{range_with_len_more}

-- Which LPIs.

pub number_is : (n : ℕ) (o : Option ℕ) → option_eq nat_eq o (Some n) ≡ is_number n o
number_is n None = refl
number_is n (Some m) = refl

module _ (p : ℕ → Bool) (n : ℕ) where
  more : filter p (range_with_len 8192 (n + 1)) ≡ filter p (range_with_len 8192 n) ++ cond (p (8192 + n)) ((8192 + n) ∷ []) []
  more =
      let next : range_with_len 8192 (n + 1) ≡ range_with_len 8192 n ++ (8192 + n) ∷ [] = rw add-one (range_with_len_more 8192 n (8192 + n) refl) in
      ap (filter p) next ∙ filter-append p (range_with_len 8192 n) ((8192 + n) ∷ [])

  pub filter_pushed : (old new : List ℕ) → old ≡ filter p (range_with_len 8192 n) → new ≡ old ++ (8192 + n) ∷ [] → p (8192 + n) ≡ true → new ≡ filter p (range_with_len 8192 (n + 1))
  filter_pushed old new so pushed is =
      pushed ∙ ap (λ xs. xs ++ (8192 + n) ∷ []) so ∙ sym (more ∙ ap (λ b. filter p (range_with_len 8192 n) ++ cond b ((8192 + n) ∷ []) []) is)

  pub filter_kept : (old : List ℕ) → old ≡ filter p (range_with_len 8192 n) → p (8192 + n) ≡ false → old ≡ filter p (range_with_len 8192 (n + 1))
  filter_kept old so is = so ∙ sym (more ∙ ap (λ b. filter p (range_with_len 8192 n) ++ cond b ((8192 + n) ∷ []) []) is ∙ append-nil (filter p (range_with_len 8192 n)))

abbrev pub of_device : ℕ → (ℕ × ℕ) × (ℕ × ℕ) → Option ℕ
of_device device pair = if pair.0.0 == device then Some pair.1.0 else None

module _ (device : ℕ) (pairs : List ((ℕ × ℕ) × (ℕ × ℕ))) (i : ℕ) (d : (ℕ × ℕ) × (ℕ × ℕ)) (there : i < length pairs) where
  abbrev pair : (ℕ × ℕ) × (ℕ × ℕ)
  pair = get_or pairs i d

  one_more : (b : Bool) → (pair.0.0 == device) ≡ b → filter_map (of_device device) (take (i + 1) pairs) ≡ filter_map (of_device device) (take i pairs) ++ cons_option (cond b (Some pair.1.0) None) []
  one_more b e =
      ap (filter_map (of_device device)) (take_more pairs i d there) ∙ filter_map-append (of_device device) (take i pairs) (pair ∷ [])
      ∙ ap (λ b. filter_map (of_device device) (take i pairs) ++ cons_option (cond b (Some pair.1.0) None) []) e

  pub device_pushed : (old new : List ℕ) → old ≡ filter_map (of_device device) (take i pairs) → new ≡ old ++ pair.1.0 ∷ [] → pair.0.0 ≡ device → new ≡ filter_map (of_device device) (take (i + 1) pairs)
  device_pushed old new so pushed is = pushed ∙ ap (λ xs. xs ++ pair.1.0 ∷ []) so ∙ sym (one_more true (eq-eqb pair.0.0 device is))

  pub device_kept : (old : List ℕ) → old ≡ filter_map (of_device device) (take i pairs) → (pair.0.0 ≡ device → ⊥) → old ≡ filter_map (of_device device) (take (i + 1) pairs)
  device_kept old so is = so ∙ sym (one_more false (ne_eqb pair.0.0 device is) ∙ append-nil (filter_map (of_device device) (take i pairs)))

-- Whether an event is a part.

some_view : Irq → View
some_view irq = record (found_by []) { irqs = λ key. irq }

some_hands : (event : Event) (found : Found) → hands_some event found ≡ true → (view : View) × HandsOut view event found
unfolding some_view
some_hands (Touch key touching) (Record irq) h = (some_view irq, refl)
some_hands (RaiseEvent key) Nothing h = (found_by [], refl)
some_hands event found h = absurd (cc)

hands_so : (shape : GuestShape) (seen : View) (targets : ℕ → Option ℕ) (part : Part) (found : Found) (view : View) → HandsOut view (lpi_event shape seen targets part) found → hands_some (lpi_event shape seen targets part) found ≡ true
hands_so shape seen targets (Forget id) found view h = ap (hands_some (lpi_event shape seen targets (Forget id))) h
hands_so shape seen targets (Map id target) found view h = ap (hands_some (lpi_event shape seen targets (Map id target))) h
hands_so shape seen targets (Retarget id target) found view h = ap (hands_some (lpi_event shape seen targets (Retarget id target))) h
hands_so shape seen targets (Raise id) found view h = ap (hands_some (lpi_event shape seen targets (Raise id))) h
hands_so shape seen targets (Clear id) found view h = ap (hands_some (lpi_event shape seen targets (Clear id))) h
hands_so shape seen targets (Configure id) found view h = ap (hands_some (lpi_event shape seen targets (Configure id))) h

module _ (shape : GuestShape) (targets : ℕ → Option ℕ) (part : Part) (reads : List Happened) (happened : Happened) (event : Event) (is : event ≡ lpi_event shape (found_by reads) targets part) where
  abbrev IsEvent : Type 0
  IsEvent = (event ≡ happened.event) × IsTrue (hands_some event happened.found)

  abbrev AreRead : Type 0
  AreRead = AreReadBy (found_by reads) reads (byte_places shape (found_by reads) targets part)

  made_from : IsEvent → AreRead → IsPartMade shape targets part reads happened
  made_from so read =
      let hands = some_hands happened.event happened.found (ap (λ e. hands_some e happened.found) (sym so.0) ∙ so.1) in
      record { event_is = sym so.0 ∙ is; found_in = hands.0; found = hands.1; read = read }

  made_so : IsPartMade shape targets part reads happened → IsEvent
  made_so made = (
    is ∙ sym made.event_is,
    ap (λ e. hands_some e happened.found) is ∙ hands_so shape (found_by reads) targets part happened.found made.found_in (subst (λ e. HandsOut made.found_in e happened.found) made.event_is made.found),
  )

  pub part_decided : (a b : Bool) → IsTrue a ↔ IsEvent → IsTrue b ↔ AreRead → a ≡ true → IsTrue b ↔ IsPartMade shape targets part reads happened
  part_decided a b one two e = (λ h. made_from (one.0 e) (two.0 h), λ made. two.1 made.read)

  pub part_refused : (a b : Bool) → IsTrue a ↔ IsEvent → a ≡ false → b ≡ false → IsTrue b ↔ IsPartMade shape targets part reads happened
  part_refused a b one e none = (λ h. absurd (cc), λ made. let h : IsTrue a = one.1 (made_so made) in absurd (cc))
