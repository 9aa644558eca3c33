-- Which bits of the doublewords matter.
use Rattle.std.specs.Prelude.{ℕ, ◌≡◌, ◌↔◌, ◌==◌, Option, List, [], ◌∷◌, map}
use Rattle.std.specs.Option.{option_map}
use Rattle.std.specs.Map.{lookup}
use Rattle.its_cmd.specs.Number.{movi_number, int_number, clear_number, sync_number, mapd_number, mapc_number, mapti_number, mapi_number, inv_number, invall_number, movall_number, discard_number}
use Rattle.its_cmd.specs.Field.{number_in, device_in, event_in, pintid_in, size_in, itt_addr_in, icid_in, rdbase_in, valid_in, second_in}
use Rattle.its_cmd.specs.Command.{decoded}

-- the fields of each command, by number
abbrev pub fields : List (ℕ × List (List ℕ → ℕ))
fields =
    (movi_number, device_in ∷ event_in ∷ icid_in ∷ [])
    ∷ (int_number, device_in ∷ event_in ∷ [])
    ∷ (clear_number, device_in ∷ event_in ∷ [])
    ∷ (sync_number, rdbase_in ∷ [])
    ∷ (mapd_number, device_in ∷ size_in ∷ itt_addr_in ∷ valid_in ∷ [])
    ∷ (mapc_number, icid_in ∷ rdbase_in ∷ valid_in ∷ [])
    ∷ (mapti_number, device_in ∷ event_in ∷ pintid_in ∷ icid_in ∷ [])
    ∷ (mapi_number, device_in ∷ event_in ∷ icid_in ∷ [])
    ∷ (inv_number, device_in ∷ event_in ∷ [])
    ∷ (invall_number, icid_in ∷ [])
    ∷ (movall_number, rdbase_in ∷ second_in ∷ [])
    ∷ (discard_number, device_in ∷ event_in ∷ [])
    ∷ []

-- the number of the doublewords' command, and what they have in its fields
abbrev pub values_of : List ℕ → Option (List ℕ)
values_of words = option_map (λ own. number_in words ∷ map (λ field. field words) own) (lookup (λ number. number == number_in words) fields)

-- doublewords are the same command exactly where they have the same number, and the same value in each field of its command
abbrev pub OnlyFieldsMatter : Type 0
OnlyFieldsMatter = (words others : List ℕ) → (decoded words ≡ decoded others) ↔ (values_of words ≡ values_of others)
