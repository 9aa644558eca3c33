-- Outside of the steps: where nothing is amiss in some way, there is no fault of that kind.
use Rattle.std.proofs.Common.{◌≡◌, ℕ, ◌%◌, ◌&&◌, ◌||◌, ◌==◌, true≢false, not, Bool, true, false, All, List, [], ◌∷◌, length, map, Option, Some, None, nat_le, nat_lt, refl, sym, ap, ◌∙◌, subst}
use Rattle.std.specs.Prelude.{is_some, option_map, codes, if◌then◌else◌}
use Rattle.std.proofs.lemmas.Bool.{and_parts, and_from, ne_eqb}
use Rattle.std.proofs.lemmas.List.Elements.{All-nil, All-cons, All-head, All-tail}
use Rattle.serde_json.specs.Data.{Data}
use Rattle.gic_host.specs.ScnRead.JsonField.Field.{has_only, number_at, number_or, flag_or, list_at, list_or_empty, elements_at}
use Rattle.gic_host.specs.ScnRead.ScnBase.Codes.{first_met, first_of}
use Rattle.gic_host.specs.ScnRead.Guest.{is_guest, are_numbers, numbers_of, are_in_range, own_fault, guest_fault, guest_fields, vcpus_of, spis_of, espis_of}
use Rattle.gic_host.specs.ScnRead.Preset.{is_private, is_preset, is_in_range, is_there, is_spi, written_of, preset_fault, preset_fields, vcpu_at}
use Rattle.gic_host.specs.ScnRead.Reading.{is_scenario, is_scenario_in_range, scenario_fault, scenario_fields, outside_fault}
use Rattle.scn_hint.specs.declared.field.What.{What}
use Rattle.scn_hint.specs.declared.field.What.TheVariants.{NotEdge, NotThere}
use Rattle.scn_hint.specs.declared.field.Kind.TheVariants.{Number, List as AList}
use Rattle.scn_hint.specs.declared.limit.Limit.{Limit}
use Rattle.scn_hint.specs.declared.limit.Multiple.TheVariants.{One, Eight, ThirtyTwo}
use Rattle.scn_hint.specs.declared.place.Asks.{Asks}
use Rattle.scn_hint.specs.declared.place.Asks.TheVariants.{Shape, Limit as Range, There}
use Rattle.scn_hint.specs.Field.{amiss_in, misfit_in, misfit_of, is_object}
use Rattle.scn_hint.specs.Limit.{fits, range, limit_amiss, limits_amiss, length_amiss, scenario_limit, scenario_limits, guest_limits, preset_limit, preset_limits, edge_amiss, there_amiss}
use Rattle.scn_hint.specs.Hint.{AllFit, IsFitGuest, asks_of, shaped, preset_shape, what_of_preset, scenario_trouble, guest_trouble, preset_trouble}
use Rattle.scn_hint.specs.Table.{must, may, scenario_rules, guest_rules, preset_rules}
use Rattle.scn_hint.proofs.FaultLemmas.{never_met, least_of, none_of}
use Rattle.scn_hint.proofs.FitsLemmas.{amiss_parts, found_parts, first_parts, mapped_none, must_is, number_is, flag_is, list_is, in_limit, passes_by, length_passes}

-- An object with which nothing is amiss.

shaped_parts : (d : Data) (amiss : Option (List ℕ × What)) → shaped d amiss ≡ None → (is_object d ≡ true) × (amiss ≡ None)
shaped_parts d amiss e = of (is_object d) refl e
  where
    of : (b : Bool) → is_object d ≡ b → (if b then option_map Some amiss else Some None) ≡ None → (is_object d ≡ true) × (amiss ≡ None)
    of true is e = (is, mapped_none Some amiss e)
    of false is e = absurd (cc)

-- a fault of two rows, the first of which is not met
not_first : (is : Bool) (code : ℕ) (rows : List (Bool × ℕ)) → is ≡ true → first_met ((not is, code) ∷ rows) ≡ first_met rows
not_first true code rows e = refl
not_first false code rows e = absurd (true≢false (sym e))

-- The scenario.

scenario_shaped : (d : Data) → shaped d (amiss_in scenario_fields scenario_rules d) ≡ None → is_scenario d ≡ true
scenario_shaped d none =
    let object = shaped_parts d (amiss_in scenario_fields scenario_rules d) none in
    let both = amiss_parts scenario_fields scenario_rules d object.0 object.1 in
    let pes = found_parts (codes "pes") _ _ both.1 in
    let lrs = found_parts (codes "lrs") _ _ pes.1 in
    let guests = found_parts (codes "guests") _ _ lrs.1 in
    let steps = found_parts (codes "steps") _ _ guests.1 in
    and_from _ _ (and_from _ _ (and_from _ _ (and_from _ _ both.0 (number_is (codes "pes") 1 d pes.0)) (number_is (codes "lrs") 4 d lrs.0)) (must_is AList (codes "guests") d guests.0)) (must_is AList (codes "steps") d steps.0)

-- a range of multiples of 1, by its two bounds
two_bounds : (least most n : ℕ) → fits (range least most One) n ≡ true → (nat_le least n && nat_le n most) ≡ true
two_bounds least most n fit = (and_parts (nat_le least n && nat_le n most) (n % 1 == 0) fit).0

scenario_ranged : (d : Data) → is_scenario d ≡ true → scenario_limit d ≡ None → is_scenario_in_range d ≡ true
scenario_ranged d is none =
    let steps = and_parts _ (is_some (list_at (codes "steps") d)) is in
    let guests = and_parts _ (is_some (list_at (codes "guests") d)) steps.0 in
    let lrs = and_parts _ (is_some (number_or (codes "lrs") 4 d)) guests.0 in
    let pes = and_parts (has_only scenario_fields d) (is_some (number_or (codes "pes") 1 d)) lrs.0 in
    let numbers = first_parts (limits_amiss scenario_limits d) _ none in
    let first = first_parts (limit_amiss (codes "pes") (range 1 8 One) d) _ numbers.0 in
    let second = first_parts (limit_amiss (codes "lrs") (range 1 16 One) d) _ first.1 in
    let lengths = first_parts (length_amiss (codes "guests") (range 1 4 One) d) _ numbers.1 in
    and_from _ _ (and_from _ _ (and_from _ _ (passes_by (λ pes. nat_le 1 pes && nat_le pes 8) (range 1 8 One) (number_or (codes "pes") 1 d) (two_bounds 1 8) pes.1 (in_limit (codes "pes") 1 (range 1 8 One) d refl pes.1 first.0)) (passes_by (λ lrs. nat_le 1 lrs && nat_le lrs 16) (range 1 16 One) (number_or (codes "lrs") 4 d) (two_bounds 1 16) lrs.1 (in_limit (codes "lrs") 4 (range 1 16 One) d refl lrs.1 second.0))) (length_passes (λ guests. nat_le 1 (length guests) && nat_le (length guests) 4) (codes "guests") (range 1 4 One) d (λ ds. two_bounds 1 4 (length ds)) guests.1 lengths.0)) (length_passes (λ steps. nat_le (length steps) 100000) (codes "steps") (range 0 100000 One) d (λ ds fit. (and_parts (nat_le 0 (length ds)) (nat_le (length ds) 100000) (two_bounds 0 100000 (length ds) fit)).1) steps.1 lengths.1)

-- A guest.

guest_shaped : (d : Data) → shaped d (amiss_in guest_fields guest_rules d) ≡ None → is_guest d ≡ true
guest_shaped d none =
    let object = shaped_parts d (amiss_in guest_fields guest_rules d) none in
    let both = amiss_parts guest_fields guest_rules d object.0 object.1 in
    let vcpus = found_parts (codes "vcpus") _ _ both.1 in
    let spis = found_parts (codes "spis") _ _ vcpus.1 in
    let espis = found_parts (codes "espis") _ _ spis.1 in
    let devices = found_parts (codes "devices") _ _ espis.1 in
    let lpis = found_parts (codes "lpis") _ _ devices.1 in
    let ram = found_parts (codes "ram") _ _ lpis.1 in
    let on = found_parts (codes "on") _ _ ram.1 in
    let irqs = found_parts (codes "irqs") _ _ on.1 in
    and_from _ _ (and_from _ _ (and_from _ _ both.0 (and_from _ _ (and_from _ _ (and_from _ _ (and_from _ _ (and_from _ _ (number_is (codes "vcpus") 1 d vcpus.0) (number_is (codes "spis") 32 d spis.0)) (number_is (codes "espis") 0 d espis.0)) (number_is (codes "devices") 1 d devices.0)) (number_is (codes "lpis") 0 d lpis.0)) (number_is (codes "ram") 0 d ram.0))) (flag_is (codes "on") false d on.0)) (list_is (codes "irqs") d irqs.0)

-- a number up to a bound, a multiple of another
bounded : (most n : ℕ) → fits (range 0 most One) n ≡ true → nat_le n most ≡ true
bounded most n fit = (and_parts (nat_le 0 n) (nat_le n most) (two_bounds 0 most n fit)).1

upper : (limit : Limit) (n : ℕ) (rest : Bool) → (nat_le 0 n && nat_le n limit.most && rest) ≡ true → (nat_le n limit.most ≡ true) × (rest ≡ true)
upper limit n rest fit = let both = and_parts (nat_le 0 n && nat_le n limit.most) rest fit in ((and_parts (nat_le 0 n) (nat_le n limit.most) both.0).1, both.1)

guest_ranged : (d : Data) → is_guest d ≡ true → limits_amiss guest_limits d ≡ None → are_in_range (numbers_of d) ≡ true
guest_ranged d is none =
    let irqs = and_parts _ (is_some (list_or_empty (codes "irqs") d)) is in
    let on = and_parts _ (is_some (flag_or (codes "on") false d)) irqs.0 in
    let numbers = and_parts (has_only guest_fields d) (are_numbers d) on.0 in
    let ram = and_parts _ (is_some (number_or (codes "ram") 0 d)) numbers.1 in
    let lpis = and_parts _ (is_some (number_or (codes "lpis") 0 d)) ram.0 in
    let devices = and_parts _ (is_some (number_or (codes "devices") 1 d)) lpis.0 in
    let espis = and_parts _ (is_some (number_or (codes "espis") 0 d)) devices.0 in
    let spis = and_parts (is_some (number_or (codes "vcpus") 1 d)) (is_some (number_or (codes "spis") 32 d)) espis.0 in
    let a = first_parts (limit_amiss (codes "vcpus") (range 1 32 One) d) _ none in
    let b = first_parts (limit_amiss (codes "spis") (range 0 960 ThirtyTwo) d) _ a.1 in
    let e = first_parts (limit_amiss (codes "espis") (range 0 1024 ThirtyTwo) d) _ b.1 in
    let f = first_parts (limit_amiss (codes "devices") (range 0 4 One) d) _ e.1 in
    let g = first_parts (limit_amiss (codes "lpis") (range 0 4096 One) d) _ f.1 in
    let h = first_parts (limit_amiss (codes "ram") (range 0 262144 Eight) d) _ g.1 in
    let n = numbers_of d in
    let few = and_parts (nat_le 1 n.vcpus) (nat_le n.vcpus 32) (two_bounds 1 32 n.vcpus (in_limit (codes "vcpus") 1 (range 1 32 One) d refl spis.0 a.0)) in
    let some = upper (range 0 960 ThirtyTwo) n.spis (n.spis % 32 == 0) (in_limit (codes "spis") 32 (range 0 960 ThirtyTwo) d refl spis.1 b.0) in
    let more = upper (range 0 1024 ThirtyTwo) n.espis (n.espis % 32 == 0) (in_limit (codes "espis") 0 (range 0 1024 ThirtyTwo) d refl espis.1 e.0) in
    let room = upper (range 0 262144 Eight) n.ram (n.ram % 8 == 0) (in_limit (codes "ram") 0 (range 0 262144 Eight) d refl ram.1 h.0) in
    and_from _ _ (and_from _ _ (and_from _ _ (and_from _ _ (and_from _ _ (and_from _ _ (and_from _ _ (and_from _ _ (and_from _ _ few.0 few.1) some.0) some.1) more.0) more.1) (bounded 4 n.devices (in_limit (codes "devices") 1 (range 0 4 One) d refl devices.1 f.0))) (bounded 4096 n.lpis (in_limit (codes "lpis") 0 (range 0 4096 One) d refl lpis.1 g.0))) room.0) room.1

-- A preset.

last_field : (private : Bool) (d : Data) → misfit_in ((if private then codes "vcpu" else codes "to") ∷ []) ((if private then must Number else may Number) ∷ []) d ≡ None → is_some (if private then number_at (codes "vcpu") d else number_or (codes "to") 0 d) ≡ true
last_field true d e = must_is Number (codes "vcpu") d (found_parts (codes "vcpu") _ _ e).0
last_field false d e = number_is (codes "to") 0 d (found_parts (codes "to") _ _ e).0

fields_fit : (d : Data) → is_object d ≡ true → is_some (number_at (codes "id") d) ≡ true → amiss_in (preset_fields d) (preset_rules (is_private d)) d ≡ None → is_preset d ≡ true
fields_fit d object there none =
    let both = amiss_parts (preset_fields d) (preset_rules (is_private d)) d object none in
    let id = found_parts (codes "id") _ _ both.1 in
    let prio = found_parts (codes "prio") _ _ id.1 in
    let edge = found_parts (codes "edge") _ _ prio.1 in
    let group = found_parts (codes "group") _ _ edge.1 in
    and_from _ _ (and_from _ _ (and_from _ _ (and_from _ _ (and_from _ _ there both.0) (number_is (codes "prio") 160 d prio.0)) (flag_is (codes "edge") true d edge.0)) (number_is (codes "group") 1 d group.0)) (last_field (is_private d) d group.1)

preset_shaped : (d : Data) → shaped d (preset_shape d) ≡ None → is_preset d ≡ true
preset_shaped d none = of (is_some (number_at (codes "id") d)) refl object.1
  where
    object : (is_object d ≡ true) × (preset_shape d ≡ None)
    object = shaped_parts d (preset_shape d) none

    of : (there : Bool) → is_some (number_at (codes "id") d) ≡ there
        → (if there then option_map {U = List ℕ × What} (λ found. (found.0, what_of_preset (is_private d) found.0 found.1)) (amiss_in (preset_fields d) (preset_rules (is_private d)) d) else option_map {U = List ℕ × What} (λ what. (codes "id", what)) (misfit_of (codes "id") (must Number) d)) ≡ None
        → is_preset d ≡ true
    of true is e = fields_fit d object.0 is (mapped_none _ _ e)
    of false is e = absurd (true≢false (sym (must_is Number (codes "id") d (mapped_none _ _ e)) ∙ is))

preset_ranged : (d : Data) → is_preset d ≡ true → preset_limit d ≡ None → is_in_range (written_of d) ≡ true
preset_ranged d is none =
    let vcpu = and_parts _ (is_some (vcpu_at d)) is in
    let group = and_parts _ (is_some (number_or (codes "group") 1 d)) vcpu.0 in
    let edge = and_parts _ (is_some (flag_or (codes "edge") true d)) group.0 in
    let prio = and_parts _ (is_some (number_or (codes "prio") 160 d)) edge.0 in
    let numbers = first_parts (limits_amiss preset_limits d) (edge_amiss d) none in
    let first = first_parts (limit_amiss (codes "prio") (range 0 248 Eight) d) _ numbers.0 in
    let second = first_parts (limit_amiss (codes "group") (range 0 1 One) d) _ first.1 in
    let preset = written_of d in
    let high = upper (range 0 248 Eight) preset.prio (preset.prio % 8 == 0) (in_limit (codes "prio") 160 (range 0 248 Eight) d refl prio.1 first.0) in
    and_from _ _ (and_from _ _ (and_from _ _ high.0 high.1) (bounded 1 preset.group (in_limit (codes "group") 1 (range 0 1 One) d refl group.1 second.0))) (edged (preset.edge || nat_le 16 preset.id) numbers.1)
  where
    edged : (b : Bool) → (let o : Option (List ℕ × What) = if b then None else Some (codes "edge", NotEdge) in o) ≡ None → b ≡ true
    edged true e = refl
    edged false e = absurd (cc)

preset_there : (guest d : Data) → there_amiss guest d ≡ None → is_there (vcpus_of guest) (spis_of guest) (espis_of guest) (written_of d) ≡ true
preset_there guest d none = of (nat_lt (written_of d).vcpu (vcpus_of guest)) (nat_lt (written_of d).id 32 || is_spi (spis_of guest) (espis_of guest) (written_of d).id) none
  where
    of : (a b : Bool) → (let o : Option (List ℕ × What) = if a then (if b then None else Some (codes "id", NotThere)) else Some ((if is_private d then codes "vcpu" else codes "to"), NotThere) in o) ≡ None → (a && b) ≡ true
    of true true e = refl
    of true false e = absurd (cc)
    of false b e = absurd (cc)

-- Faults of one kind.

no_shape : (is : Bool) (rows : List (Bool × ℕ)) → is ≡ true → (first_met rows ≡ Some 1 → ⊥) → first_met ((not is, 1) ∷ rows) ≡ Some 1 → ⊥
no_shape is rows e none h = none (sym (not_first is 1 rows e) ∙ h)

-- a row with a code, behind one with a lesser code
second_row : (is within : Bool) (code : ℕ) (rows : List (Bool × ℕ)) → (is ≡ true → within ≡ true) → (first_met rows ≡ Some code → ⊥) → (1 ≡ code → ⊥) → first_met ((not is, 1) ∷ (not within, code) ∷ rows) ≡ Some code → ⊥
second_row true within code rows fit none apart h = none (sym (not_first within code rows (fit refl)) ∙ h)
second_row false within code rows fit none apart h = apart (one 1 code h)
  where
    one : (a b : ℕ) → Some a ≡ Some b → a ≡ b
    one a b e = cc

third_row : (is within there : Bool) → there ≡ true → first_met ((not is, 1) ∷ (not within, 2) ∷ (not there, 4) ∷ []) ≡ Some 4 → ⊥
third_row true true there e h = absurd (cc)
third_row true false there e h = absurd (cc)
third_row false within there e h = absurd (cc)

-- the code of what is asked for
abbrev pub code_of : Asks → ℕ
code_of Shape = 1
code_of Range = 2
code_of There = 4

preset_none : (asks : Asks) (guest d : Data) → preset_trouble asks guest d ≡ None → preset_fault (vcpus_of guest) (spis_of guest) (espis_of guest) d ≡ Some (code_of asks) → ⊥
preset_none Shape guest d none e =
    let rows = (not (is_in_range (written_of d)), 2) ∷ (not (is_there (vcpus_of guest) (spis_of guest) (espis_of guest) (written_of d)), 4) ∷ [] in
    no_shape (is_preset d) rows (preset_shaped d none) (never_met 1 rows refl) e
preset_none Range guest d none e =
    let rows = (not (is_there (vcpus_of guest) (spis_of guest) (espis_of guest) (written_of d)), 4) ∷ [] in
    second_row (is_preset d) (is_in_range (written_of d)) 2 rows (λ is. preset_ranged d is (mapped_none Some (preset_limit d) none)) (never_met 2 rows refl) (λ h. cc) e
preset_none There guest d none e =
    third_row (is_preset d) (is_in_range (written_of d)) (is_there (vcpus_of guest) (spis_of guest) (espis_of guest) (written_of d)) (preset_there guest d (mapped_none Some (there_amiss guest d) none)) e

own_none : (asks : Asks) (d : Data) → guest_trouble asks d ≡ None → own_fault d ≡ Some (code_of asks) → ⊥
own_none Shape d none e = let rows = (not (are_in_range (numbers_of d)), 2) ∷ [] in no_shape (is_guest d) rows (guest_shaped d none) (never_met 1 rows refl) e
own_none Range d none e = second_row (is_guest d) (are_in_range (numbers_of d)) 2 [] (λ is. guest_ranged d is (mapped_none Some (limits_amiss guest_limits d) none)) (never_met 2 [] refl) (λ h. cc) e
own_none There d none e = never_met 4 ((not (is_guest d), 1) ∷ (not (are_in_range (numbers_of d)), 2) ∷ []) refl e

scenario_none : (asks : Asks) (d : Data) → scenario_trouble asks d ≡ None → scenario_fault d ≡ Some (code_of asks) → ⊥
scenario_none Shape d none e = let rows = (not (is_scenario_in_range d), 2) ∷ [] in no_shape (is_scenario d) rows (scenario_shaped d none) (never_met 1 rows refl) e
scenario_none Range d none e = second_row (is_scenario d) (is_scenario_in_range d) 2 [] (λ is. scenario_ranged d is (mapped_none Some (scenario_limit d) none)) (never_met 2 [] refl) (λ h. cc) e
scenario_none There d none e = never_met 4 ((not (is_scenario d), 1) ∷ (not (is_scenario_in_range d), 2) ∷ []) refl e

-- All that stands outside of the steps.

all_so : {X : Type 0} (P Q : X → Type 0) → ((x : X) → P x → Q x) → (xs : List X) → All P xs → All Q xs
all_so P Q so [] all = All-nil Q
all_so P Q so (x ∷ xs) all = All-cons Q x xs (so x (All-head P x xs all)) (all_so P Q so xs (All-tail P x xs all))

guest_none : (asks : Asks) (d : Data) → IsFitGuest asks d → guest_fault d ≡ Some (code_of asks) → ⊥
guest_none asks d fit =
    let fault = preset_fault (vcpus_of d) (spis_of d) (espis_of d) in
    least_of (own_fault d) (first_of (map fault (elements_at (codes "irqs") d))) (code_of asks) (own_none asks d fit.own)
    (none_of fault (code_of asks) (elements_at (codes "irqs") d)
    (all_so (λ preset. preset_trouble asks d preset ≡ None) (λ preset. fault preset ≡ Some (code_of asks) → ⊥) (preset_none asks d) (elements_at (codes "irqs") d) fit.presets))

pub fits_outside : (asks : Asks) (d : Data) → AllFit asks d → outside_fault d ≡ Some (code_of asks) → ⊥
fits_outside asks d fit =
    least_of (scenario_fault d) (first_of (map guest_fault (elements_at (codes "guests") d))) (code_of asks) (scenario_none asks d fit.own)
    (none_of guest_fault (code_of asks) (elements_at (codes "guests") d)
    (all_so (IsFitGuest asks) (λ guest. guest_fault guest ≡ Some (code_of asks) → ⊥) (guest_none asks) (elements_at (codes "guests") d) fit.guests))

-- No other code comes there.

pub record IsApart (code : ℕ) : Type 0 where
  pub shape : (1 == code) ≡ false
  pub limit : (2 == code) ≡ false
  pub there : (4 == code) ≡ false

pub apart : (code : ℕ) → asks_of code ≡ None → IsApart code
apart code none = record {
  shape = ne_eqb 1 code (λ same. never Shape (subst (λ c. asks_of c ≡ None) (sym same) none));
  limit = ne_eqb 2 code (λ same. never Range (subst (λ c. asks_of c ≡ None) (sym same) none));
  there = ne_eqb 4 code (λ same. never There (subst (λ c. asks_of c ≡ None) (sym same) none));
}
  where
    never : (asks : Asks) → Some asks ≡ None → ⊥
    never asks e = cc

two_rows : (code : ℕ) → IsApart code → (a b : Bool) → first_met ((a, 1) ∷ (b, 2) ∷ []) ≡ Some code → ⊥
two_rows code is a b = never_met code ((a, 1) ∷ (b, 2) ∷ []) (and_from _ _ (ap not is.shape) (and_from _ _ (ap not is.limit) refl))

three_rows : (code : ℕ) → IsApart code → (a b c : Bool) → first_met ((a, 1) ∷ (b, 2) ∷ (c, 4) ∷ []) ≡ Some code → ⊥
three_rows code is a b c = never_met code ((a, 1) ∷ (b, 2) ∷ (c, 4) ∷ []) (and_from _ _ (ap not is.shape) (and_from _ _ (ap not is.limit) (and_from _ _ (ap not is.there) refl)))

every : {X : Type 0} (P : X → Type 0) → ((x : X) → P x) → (xs : List X) → All P xs
every P each [] = All-nil P
every P each (x ∷ xs) = All-cons P x xs (each x) (every P each xs)

pub asked_outside : (d : Data) (code : ℕ) → IsApart code → outside_fault d ≡ Some code → ⊥
asked_outside d code is =
    least_of (scenario_fault d) (first_of (map guest_fault (elements_at (codes "guests") d))) code (two_rows code is (not (is_scenario d)) (not (is_scenario_in_range d)))
    (none_of guest_fault code (elements_at (codes "guests") d) (every (λ guest. guest_fault guest ≡ Some code → ⊥) of_guest (elements_at (codes "guests") d)))
  where
    of_guest : (guest : Data) → guest_fault guest ≡ Some code → ⊥
    of_guest guest =
        let fault = preset_fault (vcpus_of guest) (spis_of guest) (espis_of guest) in
        least_of (own_fault guest) (first_of (map fault (elements_at (codes "irqs") guest))) code (two_rows code is (not (is_guest guest)) (not (are_in_range (numbers_of guest))))
        (none_of fault code (elements_at (codes "irqs") guest)
        (every (λ preset. fault preset ≡ Some code → ⊥) (λ preset. three_rows code is (not (is_preset preset)) (not (is_in_range (written_of preset))) (not (is_there (vcpus_of guest) (spis_of guest) (espis_of guest) (written_of preset)))) (elements_at (codes "irqs") guest)))
