-- What a seat knows, and what it holds of the slots.
use Rattle.std.specs.Prelude.{ℕ, ◌==◌, ◌&&◌, Bool, false, List, [], ◌∷◌, ◌++◌, if◌then◌else◌, Option, Some, None}
use Rattle.std.specs.List.{list_any}
use Rattle.vcpu_shelf.specs.declared.view.Deed.{Deed}
use Rattle.vcpu_shelf.specs.declared.view.Deed.TheVariants.{Looked, Tried, Stored}
use Rattle.vcpu_shelf.specs.declared.view.View.{View}
use Rattle.vcpu_shelf.specs.Word.{is_finished}

-- a step was a look that found the place finished
abbrev pub finds_finished : ℕ → Deed → Bool
finds_finished place (Looked at found) = (at == place) && is_finished found
finds_finished place deed = false

-- some step of a list was
abbrev pub is_found_finished : ℕ → List Deed → Bool
is_found_finished place deeds = list_any (finds_finished place) deeds

-- a seat that made no step
abbrev pub no_view : View
no_view = record { deeds = []; out = None }

-- a view after a look; after a try, with which the place is out where the word was as seen; and after a put
abbrev pub looked : ℕ → ℕ → View → View
looked place found view = record { deeds = view.deeds ++ Looked place found ∷ []; out = view.out }

abbrev pub tried : ℕ → ℕ → ℕ → View → View
tried place seen found view = record { deeds = view.deeds ++ Tried place seen found ∷ []; out = if found == seen then Some place else view.out }

abbrev pub stored : ℕ → ℕ → View → View
stored place word view = record { deeds = view.deeds ++ Stored place word ∷ []; out = None }

-- a view that took in another
abbrev pub joined : View → View → View
joined view other = record { deeds = view.deeds ++ other.deeds; out = view.out }

-- what a seat holds: the slot of the place that is out with it, with nothing in it
abbrev pub slots_out : {T : Type 0} → Option ℕ → List (ℕ × Option T)
slots_out None = []
slots_out (Some place) = (place, None) ∷ []
