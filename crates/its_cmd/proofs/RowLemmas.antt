-- Which bits of the doublewords matter: each command is one row, with its fields and what they make.
use Rattle.std.proofs.Common.{◌≡◌, ℕ, ◌<◌, ◌==◌, Bool, true, false, cond, Option, Some, None, Result, Ok, Err, List, [], ◌∷◌, map, slice_index, refl, sym, ap, ◌∙◌, arith}
use Rattle.std.specs.Prelude.{ok_or}
use Rattle.std.specs.Option.{option_map}
use Rattle.std.specs.List.{AllByRecursion}
use Rattle.std.specs.Map.{lookup}
use Rattle.std.proofs.lemmas.Bool.{eqb-true}
use Rattle.std.proofs.lemmas.Grind.{common_steps}
use Rattle.floor_words.specs.Words.{bit_of}
use Rattle.its_cmd.specs.declared.command.Command.{Command}
use Rattle.its_cmd.specs.declared.command.Command.TheVariants.{Movi, Int, Clear, Sync, Mapd, Mapc, Mapti, Mapi, Inv, Invall, Movall, Discard}
use Rattle.its_cmd.specs.declared.command.BadCommand.{BadCommand}
use Rattle.its_cmd.specs.declared.command.BadCommand.TheVariants.{UnknownNumber}
use Rattle.its_cmd.specs.Number.{movi_number, int_number, clear_number, sync_number, mapd_number, mapc_number, mapti_number, mapi_number, inv_number, invall_number, movall_number, discard_number}
use Rattle.its_cmd.specs.Field.{number_in, device_in, event_in, pintid_in, size_in, itt_addr_in, icid_in, rdbase_in, valid_in, second_in}
use Rattle.its_cmd.specs.Command.{decoded}
use Rattle.its_cmd.specs.Laws.{values_of, OnlyFieldsMatter}

-- the fields of a command, and the command of the values in them
abbrev Row : Type 0
Row = List (List ℕ → ℕ) × (List ℕ → Command)

-- the row of each command, by number
abbrev rows : List (ℕ × Row)
rows =
    (movi_number, (device_in ∷ event_in ∷ icid_in ∷ [], λ v. Movi (slice_index v 0) (slice_index v 1) (slice_index v 2)))
    ∷ (int_number, (device_in ∷ event_in ∷ [], λ v. Int (slice_index v 0) (slice_index v 1)))
    ∷ (clear_number, (device_in ∷ event_in ∷ [], λ v. Clear (slice_index v 0) (slice_index v 1)))
    ∷ (sync_number, (rdbase_in ∷ [], λ v. Sync (slice_index v 0)))
    ∷ (mapd_number, (device_in ∷ size_in ∷ itt_addr_in ∷ valid_in ∷ [], λ v. Mapd (slice_index v 0) (slice_index v 1) (slice_index v 2) (slice_index v 3 == 1)))
    ∷ (mapc_number, (icid_in ∷ rdbase_in ∷ valid_in ∷ [], λ v. Mapc (slice_index v 0) (slice_index v 1) (slice_index v 2 == 1)))
    ∷ (mapti_number, (device_in ∷ event_in ∷ pintid_in ∷ icid_in ∷ [], λ v. Mapti (slice_index v 0) (slice_index v 1) (slice_index v 2) (slice_index v 3)))
    ∷ (mapi_number, (device_in ∷ event_in ∷ icid_in ∷ [], λ v. Mapi (slice_index v 0) (slice_index v 1) (slice_index v 2)))
    ∷ (inv_number, (device_in ∷ event_in ∷ [], λ v. Inv (slice_index v 0) (slice_index v 1)))
    ∷ (invall_number, (icid_in ∷ [], λ v. Invall (slice_index v 0)))
    ∷ (movall_number, (rdbase_in ∷ second_in ∷ [], λ v. Movall (slice_index v 0) (slice_index v 1)))
    ∷ (discard_number, (device_in ∷ event_in ∷ [], λ v. Discard (slice_index v 0) (slice_index v 1)))
    ∷ []

-- the number of a command, and its fields' values
abbrev told : Command → List ℕ
told (Movi device event icid) = movi_number ∷ device ∷ event ∷ icid ∷ []
told (Int device event) = int_number ∷ device ∷ event ∷ []
told (Clear device event) = clear_number ∷ device ∷ event ∷ []
told (Sync rdbase) = sync_number ∷ rdbase ∷ []
told (Mapd device size itt_addr valid) = mapd_number ∷ device ∷ size ∷ itt_addr ∷ bit_of valid ∷ []
told (Mapc icid rdbase valid) = mapc_number ∷ icid ∷ rdbase ∷ bit_of valid ∷ []
told (Mapti device event id icid) = mapti_number ∷ device ∷ event ∷ id ∷ icid ∷ []
told (Mapi device event icid) = mapi_number ∷ device ∷ event ∷ icid ∷ []
told (Inv device event) = inv_number ∷ device ∷ event ∷ []
told (Invall icid) = invall_number ∷ icid ∷ []
told (Movall rdbase second) = movall_number ∷ rdbase ∷ second ∷ []
told (Discard device event) = discard_number ∷ device ∷ event ∷ []

abbrev told_of : Result Command BadCommand → Option (List ℕ)
told_of (Ok command) = Some (told command)
told_of (Err bad) = None

-- what doublewords have in some fields, and the command of a row
abbrev read : List ℕ → List (List ℕ → ℕ) → List ℕ
read words own = map (λ field. field words) own

abbrev made : List ℕ → Row → Command
made words row = row.1 (read words row.0)

abbrev told_by : List ℕ → Row → List ℕ
told_by words row = number_in words ∷ read words row.0

-- what is found of each entry's value
lookup-map : {A B : Type 0} (f : A → B) (test : ℕ → Bool) (entries : List (ℕ × A)) → lookup test (map (λ entry. (entry.0, f entry.1)) entries) ≡ option_map f (lookup test entries)
lookup-map f test [] = refl
lookup-map {A} {B} f test (entry ∷ entries) = elim (test entry.0) as (λ b. cond b (Some (f entry.1)) (lookup test (map (λ (e : ℕ × A). (e.0, f e.1)) entries)) ≡ option_map f (cond b (Some entry.1) (lookup test entries))) [
  | true ↦ refl
  | false ↦ lookup-map f test entries
]

option_map-map : {A B C : Type 0} (g : B → C) (f : A → B) (o : Option A) → option_map g (option_map f o) ≡ option_map (λ x. g (f x)) o
option_map-map g f None = refl
option_map-map g f (Some x) = refl

-- both sides of the law, by the row
abbrev row_of : List ℕ → Option Row
row_of words = lookup (λ number. number == number_in words) rows

decoded_by_row : (words : List ℕ) → decoded words ≡ ok_or (option_map (made words) (row_of words)) UnknownNumber
decoded_by_row words = ap (λ o. ok_or o UnknownNumber) (lookup-map (made words) (λ number. number == number_in words) rows)

values_by_row : (words : List ℕ) → values_of words ≡ option_map (told_by words) (row_of words)
values_by_row words =
    ap (option_map (λ own. number_in words ∷ read words own)) (lookup-map (λ (row : Row). row.0) (λ number. number == number_in words) rows)
    ∙ option_map-map (λ own. number_in words ∷ read words own) (λ (row : Row). row.0) (row_of words)

-- V is one bit
bit_again : (x : ℕ) → x < 2 → bit_of (x == 1) ≡ x
bit_again x h = grind (arith, common_steps)

valid_again : (words : List ℕ) → bit_of (valid_in words == 1) ≡ valid_in words
valid_again words = bit_again (valid_in words) (omega arith)

-- the command of a row tells the row's number and the values
abbrev IsTold : List ℕ → ℕ × Row → Type 0
IsTold words entry = told (made words entry.1) ≡ entry.0 ∷ read words entry.1.0

all_told : (words : List ℕ) → AllByRecursion (IsTold words) rows
all_told words =
    let mapd = ap (λ v. mapd_number ∷ device_in words ∷ size_in words ∷ itt_addr_in words ∷ v ∷ []) (valid_again words) in
    let mapc = ap (λ v. mapc_number ∷ icid_in words ∷ rdbase_in words ∷ v ∷ []) (valid_again words) in
    (refl, (refl, (refl, (refl, (mapd, (mapc, (refl, (refl, (refl, (refl, (refl, (refl, tt))))))))))))

told_among : (words : List ℕ) (entries : List (ℕ × Row)) → AllByRecursion (IsTold words) entries → option_map (told_by words) (lookup (λ number. number == number_in words) entries) ≡ told_of (ok_or (option_map (made words) (lookup (λ number. number == number_in words) entries)) UnknownNumber)
told_among words [] all = refl
told_among words (entry ∷ entries) all = by_test (entry.0 == number_in words) (told_among words entries all.1) refl
  where
    others : Option Row
    others = lookup (λ number. number == number_in words) entries

    by_test : (b : Bool) → option_map (told_by words) others ≡ told_of (ok_or (option_map (made words) others) UnknownNumber) → (entry.0 == number_in words) ≡ b → option_map (told_by words) (cond b (Some entry.1) others) ≡ told_of (ok_or (option_map (made words) (cond b (Some entry.1) others)) UnknownNumber)
    by_test true rest e = ap Some (ap (λ n. n ∷ read words entry.1.0) (sym (eqb-true entry.0 (number_in words) e)) ∙ sym all.0)
    by_test false rest e = rest

-- the command says the values
values_from_command : (words : List ℕ) → values_of words ≡ told_of (decoded words)
values_from_command words = values_by_row words ∙ told_among words rows (all_told words) ∙ sym (ap told_of (decoded_by_row words))

-- the command of a number and its fields' values
abbrev made_of : Option (List ℕ) → Result Command BadCommand
made_of None = Err UnknownNumber
made_of (Some []) = Err UnknownNumber
made_of (Some (number ∷ values)) = ok_or (option_map (λ row. row.1 values) (lookup (λ n. n == number) rows)) UnknownNumber

-- the values say the command
command_from_values : (words : List ℕ) → decoded words ≡ made_of (values_of words)
command_from_values words = decoded_by_row words ∙ by_row (row_of words) refl ∙ sym (ap made_of (values_by_row words))
  where
    by_row : (row : Option Row) → row_of words ≡ row → ok_or (option_map (made words) row) UnknownNumber ≡ made_of (option_map (told_by words) row)
    by_row None e = refl
    by_row (Some row) e = sym (ap (λ o. ok_or (option_map (λ r. r.1 (read words row.0)) o) UnknownNumber) e)

pub only_fields : OnlyFieldsMatter
only_fields words others = (
  λ same. values_from_command words ∙ ap told_of same ∙ sym (values_from_command others),
  λ same. command_from_values words ∙ ap made_of same ∙ sym (command_from_values others),
)
