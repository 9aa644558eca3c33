-- The commands of an ITS and their doublewords (IHI 0069, "ITS commands").
use Rattle.std.specs.Prelude.{ℕ, ◌<◌, ◌+◌, ◌*◌, ◌^◌, ◌==◌, Result, ok_or, List, [], ◌∷◌}
use Rattle.std.specs.Map.{lookup}
use Rattle.floor_words.specs.Words.{bit_of}
use Rattle.its_cmd.specs.declared.command.Command.{Command}
use Rattle.its_cmd.specs.declared.command.Command.TheVariants.{Movi, Int, Clear, Sync, Mapd, Mapc, Mapti, Mapi, Inv, Invall, Movall, Discard}
use Rattle.its_cmd.specs.declared.command.BadCommand.{BadCommand}
use Rattle.its_cmd.specs.declared.command.BadCommand.TheVariants.{UnknownNumber}
use Rattle.its_cmd.specs.Number.{movi_number, int_number, clear_number, sync_number, mapd_number, mapc_number, mapti_number, mapi_number, inv_number, invall_number, movall_number, discard_number}
use Rattle.its_cmd.specs.Field.{number_in, device_in, event_in, pintid_in, size_in, itt_addr_in, icid_in, rdbase_in, valid_in, second_in}

-- the command of each number, whose fields are those of the doublewords
abbrev pub commands : List ℕ → List (ℕ × Command)
commands words =
    let device = device_in words in
    let event = event_in words in
    let icid = icid_in words in
    let rdbase = rdbase_in words in
    let valid = valid_in words == 1 in
    (movi_number, Movi device event icid)
    ∷ (int_number, Int device event)
    ∷ (clear_number, Clear device event)
    ∷ (sync_number, Sync rdbase)
    ∷ (mapd_number, Mapd device (size_in words) (itt_addr_in words) valid)
    ∷ (mapc_number, Mapc icid rdbase valid)
    ∷ (mapti_number, Mapti device event (pintid_in words) icid)
    ∷ (mapi_number, Mapi device event icid)
    ∷ (inv_number, Inv device event)
    ∷ (invall_number, Invall icid)
    ∷ (movall_number, Movall rdbase (second_in words))
    ∷ (discard_number, Discard device event)
    ∷ []

-- the command of four doublewords
abbrev pub decoded : List ℕ → Result Command BadCommand
decoded words = ok_or (lookup (λ number. number == number_in words) (commands words)) UnknownNumber

-- each number of the command fits its field; those that are not named always do
abbrev pub FitsFields : Command → Type 0
FitsFields (Sync rdbase) = rdbase < 2 ^ 35
FitsFields (Mapd device size itt_addr valid) = (size < 2 ^ 5) × (itt_addr < 2 ^ 44)
FitsFields (Mapc icid rdbase valid) = rdbase < 2 ^ 35
FitsFields (Movall rdbase second) = (rdbase < 2 ^ 35) × (second < 2 ^ 35)
FitsFields command = Unit {0}

-- the doublewords of a command, 0 in the bits of no field
abbrev pub encoded : Command → List ℕ
encoded (Movi device event icid) = (movi_number + device * 2 ^ 32) ∷ event ∷ icid ∷ 0 ∷ []
encoded (Int device event) = (int_number + device * 2 ^ 32) ∷ event ∷ 0 ∷ 0 ∷ []
encoded (Clear device event) = (clear_number + device * 2 ^ 32) ∷ event ∷ 0 ∷ 0 ∷ []
encoded (Sync rdbase) = sync_number ∷ 0 ∷ (rdbase * 2 ^ 16) ∷ 0 ∷ []
encoded (Mapd device size itt_addr valid) = (mapd_number + device * 2 ^ 32) ∷ size ∷ (itt_addr * 2 ^ 8 + bit_of valid * 2 ^ 63) ∷ 0 ∷ []
encoded (Mapc icid rdbase valid) = mapc_number ∷ 0 ∷ (icid + rdbase * 2 ^ 16 + bit_of valid * 2 ^ 63) ∷ 0 ∷ []
encoded (Mapti device event id icid) = (mapti_number + device * 2 ^ 32) ∷ (event + id * 2 ^ 32) ∷ icid ∷ 0 ∷ []
encoded (Mapi device event icid) = (mapi_number + device * 2 ^ 32) ∷ event ∷ icid ∷ 0 ∷ []
encoded (Inv device event) = (inv_number + device * 2 ^ 32) ∷ event ∷ 0 ∷ 0 ∷ []
encoded (Invall icid) = invall_number ∷ 0 ∷ icid ∷ 0 ∷ []
encoded (Movall rdbase second) = movall_number ∷ 0 ∷ (rdbase * 2 ^ 16) ∷ (second * 2 ^ 16) ∷ []
encoded (Discard device event) = (discard_number + device * 2 ^ 32) ∷ event ∷ 0 ∷ 0 ∷ []
