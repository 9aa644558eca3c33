-- Parts, one after the other.
use Rattle.std.proofs.Common.{◌≡◌, ℕ, List, [], ◌∷◌, ◌++◌, map, Option, Some, None, option_map, refl, sym, ap, ◌∙◌, append-nil}
use Rattle.std.proofs.lemmas.List.{map-append, append_assoc}
use Rattle.core_words.specs.Words.{GuestShape}
use Rattle.port_core.specs.declared.local.Local.{Local}
use Rattle.port_core.specs.declared.run.Entry.{Entry}
use Rattle.port_core.specs.declared.run.Made.{Made}
use Rattle.port_core.specs.After.{local_after}
use Rattle.std.specs.Option.{option_to_list}
use Rattle.port_core.specs.Stands.{stands_for}
use Rattle.port_core.specs.Port.{Seen, shape_of, local_by, seen_after, Adds, events_of}

-- what an actor has for itself after two parts
pub local_joins : (shape : GuestShape) (actor : ℕ) (local : Local) (early late : List Made) → local_by shape actor local (early ++ late) ≡ local_by shape actor (local_by shape actor local early) late
local_joins shape actor local [] late = refl
local_joins shape actor local (made ∷ early) late = local_joins shape actor (local_after shape actor local made.step made.found) early late

-- the world's list with two parts of an actor
world_joins : (f : Made → Entry) (world : Option (List Entry)) (early late : List Made) → option_map (λ w. w ++ map f (early ++ late)) world ≡ option_map (λ w. w ++ map f late) (option_map (λ w. w ++ map f early) world)
world_joins f None early late = refl
world_joins f (Some world) early late = ap Some (ap (λ es. world ++ es) (map-append f early late) ∙ sym (append_assoc world (map f early) (map f late)))

-- what is told after two parts
pub seen_joins : (seen : Seen) (early late : List Made) → seen_after seen (early ++ late) ≡ seen_after (seen_after seen early) late
seen_joins seen early late =
    let world : Made → Entry = λ made. record { actor = seen.actor; made = made } in
    ap (λ local. record seen { local = local; own = seen.own ++ (early ++ late); world = option_map (λ w. w ++ map world (early ++ late)) seen.world }) (local_joins (shape_of seen) seen.actor seen.local early late)
    ∙ ap (λ own. record seen { local = local_by (shape_of seen) seen.actor (local_by (shape_of seen) seen.actor seen.local early) late; own = own; world = option_map (λ w. w ++ map world (early ++ late)) seen.world }) (sym (append_assoc seen.own early late))
    ∙ ap (λ told. record seen { local = local_by (shape_of seen) seen.actor (local_by (shape_of seen) seen.actor seen.local early) late; own = (seen.own ++ early) ++ late; world = told }) (world_joins world seen.world early late)

pub adds_join : (one two three : Seen) (early late : List Made) → Adds one two early → Adds two three late → Adds one three (early ++ late)
adds_join one two three early late a b = record { new_is = b.new_is ∙ ap (λ seen. seen_after seen late) a.new_is ∙ sym (seen_joins one early late) }

-- the events of two parts
pub events_join :
    (shape : GuestShape) (actor : ℕ) (local : Local) (own early late : List Made) → events_of shape actor local own (early ++ late) ≡ events_of shape actor local own early ++ events_of shape actor (local_by shape actor local early) (own ++ early) late
events_join shape actor local own [] late = ap (λ o. events_of shape actor local o late) (sym (append-nil own))
events_join shape actor local own (made ∷ early) late =
    let event = option_to_list (stands_for shape actor local own made.step made.found) in
    let next = local_after shape actor local made.step made.found in
    let first = events_of shape actor next (own ++ made ∷ []) early in
    ap (λ events. event ++ events) (events_join shape actor next (own ++ made ∷ []) early late)
    ∙ ap (λ o. event ++ (first ++ events_of shape actor (local_by shape actor next early) o late)) (append_assoc own (made ∷ []) early)
    ∙ sym (append_assoc event first (events_of shape actor (local_by shape actor next early) (own ++ made ∷ early) late))
