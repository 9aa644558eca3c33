-- Names of interrupts, and records behind them.
use Rattle.std.proofs.Common.{◌≡◌, ◌≢◌, ℕ, zero, suc, ◌+◌, ◌<◌, ◌^◌, ◌++◌, IsTrue, IfSome, Option, Some, None, List, [], ◌∷◌, length, get_or, map, decimal, sym, ap, subst, ◌∙◌, arith}
use Rattle.std.specs.Char.{digit_value}
use Rattle.std.specs.Str.Parse.{AllDigits}
use Rattle.std.proofs.lemmas.Fmt.{decimal_is_IsNumeral}
use Rattle.std.proofs.lemmas.Option.{same_Some}
use Rattle.std.proofs.lemmas.Grind.{common_steps}
use Rattle.std.proofs.lemmas.List.{length-append, get_or-append-add}
use Rattle.serde_json.specs.Data.{Data, string, array}
use Rattle.serde_json.specs.View.{items_of}
use Rattle.json_field.specs.Field.{list_of}
use Rattle.gic_resume.specs.GicSave.ScnSaved.Name.{name_text}
use Rattle.image_read.proofs.RowLemmas.{row_is}
use Rattle.gic_resume.specs.GicSave.Cell.{cell_data}
use Rattle.gic_resume.specs.GicSave.Image.{rec_cells, rec_data}
use Rattle.saved_check.specs.SavedGuest.IdealGuests.Words.{GuestShape, Key, Private, Spi, Lpi, IsShape, has_interrupt}
use Rattle.saved_check.specs.SavedGuest.ScnSaved.declared.state.RecState.{RecState}

pub rec_read : (key : Key) (numbers : List Data) (o : Option RecState) (read : RecState) (rest : Option (List Data)) → IfSome o (λ found. (found ≡ read) × (rest ≡ Some [])) → read.key ≡ key → (rest ≡ Some [] → Some numbers ≡ Some (map cell_data (rec_cells read)))
    → IfSome o (λ rec. (rec.key ≡ key) × (map cell_data (rec_cells rec) ≡ numbers))
rec_read key numbers None read rest told same is = tt
rec_read key numbers (Some rec) read rest told same is = (ap (λ (r : RecState). r.key) told.0 ∙ same, ap (λ (r : RecState). map cell_data (rec_cells r)) told.0 ∙ sym (same_Some numbers (map cell_data (rec_cells read)) (is told.1)))

-- a record behind its name
pub told_record : (value name : Data) (key : Key) (numbers : List Data) (o : Option RecState) → Some (name ∷ numbers) ≡ list_of value → string (name_text key) ≡ name → IfSome o (λ rec. (rec.key ≡ key) × (map cell_data (rec_cells rec) ≡ numbers)) → IfSome o (λ rec. rec_data rec ≡ value)
told_record value name key numbers None is named told = tt
told_record value name key numbers (Some rec) is named told =
    ap (λ (k : Key). array (items_of (string (name_text k) ∷ map cell_data (rec_cells rec)))) told.0
    ∙ ap (λ (d : Data). array (items_of (d ∷ map cell_data (rec_cells rec)))) named
    ∙ ap (λ (ds : List Data). array (items_of (name ∷ ds))) told.1
    ∙ row_is value (name ∷ numbers) (sym is)

-- no digit is a colon
no_colon : (ds : List ℕ) → AllDigits 10 ds → (i : ℕ) → i < length ds → get_or ds i 0 ≢ 58
no_colon [] h i below e = absurd (omega arith)
no_colon (c ∷ cs) h zero below e = let k : digit_value 58 < 10 = subst (λ (x : ℕ). digit_value x < 10) e h.0 in absurd (omega arith)
no_colon (c ∷ cs) h (suc i) below e = no_colon cs h.1 i (omega arith) e

pub decimal_plain : (n : ℕ) → n < 2 ^ 32 → (i : ℕ) → i < length (decimal n) → get_or (decimal n) i 0 ≢ 58
decimal_plain n fits i below e = no_colon (decimal n) (decimal_is_IsNumeral n (omega (arith, fits))).0.1 i below e

pub owner_plain : (n : ℕ) → n < 2 ^ 32 → (i : ℕ) → i < length (118 ∷ decimal n) → get_or (118 ∷ decimal n) i 0 ≢ 58
owner_plain n fits zero below e = absurd (omega (arith, e))
owner_plain n fits (suc i) below e = decimal_plain n fits i (omega arith) e

-- a colon that was found is there
pub colon_found : (a b text : List ℕ) → text ≡ a ++ 58 ∷ b → ((i : ℕ) → i < length text → get_or text i 0 ≢ 58) → ⊥
colon_found a b text e none =
    let many = length-append a (58 ∷ b) in
    let here : get_or (a ++ 58 ∷ b) (length a + 0) 0 ≡ 58 = get_or-append-add a (58 ∷ b) 0 0 in
    let within : length a + 0 < length text = subst (λ (l : List ℕ). length a + 0 < length l) (sym e) (omega (arith, many)) in
    none (length a + 0) within (ap (λ (l : List ℕ). get_or l (length a + 0) 0) e ∙ here)

pub plain_text : (text : List ℕ) (n : ℕ) → n < 2 ^ 32 → text ≡ decimal n → (i : ℕ) → i < length text → get_or text i 0 ≢ 58
plain_text text n fits e = subst (λ (l : List ℕ). (i : ℕ) → i < length l → get_or l i 0 ≢ 58) (sym e) (decimal_plain n fits)

pub small_private : (shape : GuestShape) (vcpu id : ℕ) → IsShape shape → IsTrue (has_interrupt shape (Private vcpu id)) → (vcpu < 2 ^ 32) × (id < 2 ^ 32)
small_private shape vcpu id is there =
    let low : vcpu < shape.vcpus = grind (arith, common_steps) in
    let few : id < 32 = grind (arith, common_steps) in
    (omega (arith, low, is.vcpus), omega (arith, few))

pub small_spi : (shape : GuestShape) (id : ℕ) → IsShape shape → IsTrue (has_interrupt shape (Spi id)) → id < 2 ^ 32
small_spi shape id is there = grind (arith, common_steps, is.spis, is.espis)

pub small_lpi : (shape : GuestShape) (id : ℕ) → IsShape shape → IsTrue (has_interrupt shape (Lpi id)) → id < 2 ^ 32
small_lpi shape id is there = grind (arith, common_steps, is.lpis)
