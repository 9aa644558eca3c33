-- A command without a fault: its parts by its tables.
use Rattle.std.proofs.Common.{◌≡◌, ℕ, Bool, true, false, cond, is_some, is_none, if◌then◌else◌, IsTrue, List, [], ◌∷◌, ◌++◌, map, filter, Option, Some, None, option_map, refl, ap, ◌∙◌}
use Rattle.std.specs.List.{filter_map, cons_option}
use Rattle.std.specs.Option.{option_map_or, option_to_list}
use Rattle.port_call.specs.Words.{GuestShape, is_number}
use Rattle.port_call.specs.Calls.{Map, Clear, lpis_of, parts, each, for_one, lpis_of_collection}
use Rattle.port_call.specs.GicCall.declared.command.Part.TheVariants.{Forget, Retarget, Raise, Configure}
use Rattle.port_call.specs.Registers.{Command, Movi, Int, Clear as ClearCommand, Sync, Mapd, Mapc, Mapti, Mapi, Inv, Invall, Movall, Discard, maps_after, collection_of, Maps, id_of, target_of}
use Rattle.its_exec.specs.Plan.{first_of, second_of, is_several, is_mapd}
use Rattle.its_exec.specs.Sweep.{is_sweep, swept_parts}

-- The parts of a command that is no MAPD.

one_listed : {X : Type 0} (o : Option ℕ) (f : ℕ → X) → option_map_or (λ id. f id ∷ []) o [] ≡ option_to_list (option_map f o)
one_listed None f = refl
one_listed (Some id) f = refl

-- those of one event
pub single_parts : (shape : GuestShape) (maps : Maps) (targets : ℕ → Option ℕ) (command : Command) → is_mapd command ≡ false → is_several maps command ≡ false
    → parts shape maps targets command ≡ option_to_list (first_of maps command) ++ option_to_list (second_of maps command)
single_parts shape maps targets (Movi device event icid) plain single = one_listed (id_of maps (device, event)) (λ id. Retarget id (target_of maps icid))
single_parts shape maps targets (Int device event) plain single = one_listed (id_of maps (device, event)) Raise
single_parts shape maps targets (ClearCommand device event) plain single = one_listed (id_of maps (device, event)) Clear
single_parts shape maps targets (Sync rdbase) plain single = refl
single_parts shape maps targets (Mapd device size itt_addr valid) plain single = absurd (cc)
single_parts shape maps targets (Mapc icid rdbase true) plain single = absurd (cc)
single_parts shape maps targets (Mapc icid rdbase false) plain single = ap (λ b. if b then [] else each (lpis_of_collection shape maps icid) (λ id. Retarget id None)) (none_is (target_of maps icid) single)
  where
    none_is : (o : Option ℕ) → is_some o ≡ false → is_none o ≡ true
    none_is None e = refl
    none_is (Some n) e = absurd (cc)
single_parts shape maps targets (Mapti device event id icid) plain single =
    ap (λ xs. xs ++ for_one (target_of maps icid) (Map id)) (one_listed (id_of maps (device, event)) Forget) ∙ ap (λ xs. option_to_list (option_map Forget (id_of maps (device, event))) ++ xs) (one_listed (target_of maps icid) (Map id))
single_parts shape maps targets (Mapi device event icid) plain single =
    ap (λ xs. xs ++ for_one (target_of maps icid) (Map event)) (one_listed (id_of maps (device, event)) Forget)
    ∙ ap (λ xs. option_to_list (option_map Forget (id_of maps (device, event))) ++ xs) (one_listed (target_of maps icid) (Map event))
single_parts shape maps targets (Inv device event) plain single = one_listed (id_of maps (device, event)) Configure
single_parts shape maps targets (Invall icid) plain single = absurd (cc)
single_parts shape maps targets (Movall rdbase second) plain single = absurd (cc)
single_parts shape maps targets (Discard device event) plain single = one_listed (id_of maps (device, event)) Forget

-- a command of several has no part of one event
pub several_none : (maps : Maps) (command : Command) → is_several maps command ≡ true → (first_of maps command ≡ None) × ((second_of maps command ≡ None) × IsTrue (is_sweep command))
several_none maps (Mapc icid rdbase valid) h = (refl, (refl, refl))
several_none maps (Invall icid) h = (refl, (refl, refl))
several_none maps (Movall rdbase second) h = (refl, (refl, refl))
several_none maps _ h = absurd (cc)

-- those of several LPIs
picked : {X : Type 0} (p : ℕ → Bool) (f : ℕ → X) (ids : List ℕ) → map f (filter p ids) ≡ filter_map (λ id. if p id then Some (f id) else None) ids
picked p f [] = refl
picked p f (id ∷ ids) = of (p id) (picked p f ids)
  where
    of : (b : Bool) → map f (filter p ids) ≡ filter_map (λ id. if p id then Some (f id) else None) ids
        → map f (cond b (id ∷ filter p ids) (filter p ids)) ≡ cons_option (if b then Some (f id) else None) (filter_map (λ id. if p id then Some (f id) else None) ids)
    of true e = ap (λ xs. f id ∷ xs) e
    of false e = e

pub several_parts : (shape : GuestShape) (maps : Maps) (targets : ℕ → Option ℕ) (command : Command) → is_several maps command ≡ true → parts shape maps targets command ≡ swept_parts shape (maps_after maps command) targets command
several_parts shape maps targets (Mapc icid rdbase true) h = picked (λ id. is_number icid (collection_of maps id)) (λ id. Retarget id (Some rdbase)) (lpis_of shape)
several_parts shape maps targets (Mapc icid rdbase false) h =
    ap (λ b. if b then [] else each (lpis_of_collection shape maps icid) (λ id. Retarget id None)) (some_is (target_of maps icid) h) ∙ picked (λ id. is_number icid (collection_of maps id)) (λ id. Retarget id None) (lpis_of shape)
  where
    some_is : (o : Option ℕ) → is_some o ≡ true → is_none o ≡ false
    some_is None e = absurd (cc)
    some_is (Some n) e = refl
several_parts shape maps targets (Invall icid) h = picked (λ id. is_number icid (collection_of maps id)) Configure (lpis_of shape)
several_parts shape maps targets (Movall rdbase second) h = picked (λ id. is_number rdbase (targets id)) (λ id. Retarget id (Some second)) (lpis_of shape)
several_parts shape maps targets _ h = absurd (cc)
