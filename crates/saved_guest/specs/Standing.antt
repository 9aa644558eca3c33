-- Where the vCPUs stand and how the wires are as a saved run goes on (own choice).
use Rattle.std.specs.Prelude.{ℕ, ◌++◌, List, [], ◌∷◌, fold, replicate, slice_set, Bool, true, false, if◌then◌else◌, Option, Some, None}
use Rattle.std.specs.Option.{option_map_or}
use Rattle.ideal_guest.specs.Words.{GuestShape, interrupt_count, place_of}
use Rattle.ideal_guest.specs.Calls.{GuestSpec, shapes_of}
use Rattle.scn_saved.specs.ScnBase.declared.standing.MovedWire.{MovedWire}
use Rattle.scn_saved.specs.ScnBase.declared.standing.Standing.{Standing}
use Rattle.scn_saved.specs.declared.saved.Saved.{Saved}
use Rattle.scn_saved.specs.declared.state.GuestState.{GuestState}
use Rattle.scn_saved.specs.declared.state.RecState.{RecState}

-- the number of no device: what holds a line up that no device has moved
abbrev pub no_device : ℕ
no_device = 0xffff_ffff

-- who has moved the wire of an interrupt, and its level. A line that is up without a mover is held by what is no device of the scenario, so none
-- may move it
abbrev pub moved_wire : RecState → Option MovedWire
moved_wire rec =
    option_map_or (λ device. Some (record { device = device; up = rec.line })) rec.mover
    (if rec.line then Some (record { device = no_device; up = true }) else None)

-- the wires of a guest, by the place of the interrupt: of one that was not saved none has moved it
abbrev pub wires_of : GuestShape → List RecState → List (Option MovedWire)
wires_of shape recs = fold (λ wires rec. slice_set wires (place_of shape rec.key) (moved_wire rec)) (replicate (interrupt_count shape) None) recs

-- the wires of all guests, guest after guest
abbrev pub all_wires : List GuestSpec → List GuestState → List (Option MovedWire)
all_wires [] states = []
all_wires (guest ∷ guests) [] = []
all_wires (guest ∷ guests) (state ∷ states) = wires_of guest.shape state.rec ++ all_wires guests states

-- the standing before the first of the steps that are left
abbrev pub standing_of : Saved → Standing
standing_of saved =
    record {
      shapes = shapes_of saved.scenario.guests;
      pes = saved.on_pe;
      wires = all_wires saved.scenario.guests saved.state;
    }
