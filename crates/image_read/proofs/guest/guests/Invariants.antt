use Rattle.std.proofs.Common.{◌≡◌, List, All, length, map, take}
use Rattle.serde_json.specs.View.{view}
use Rattle.gic_resume.specs.GicSave.Image.{guests_data}
use Rattle.gic_resume.specs.Reading.{guest_heads}
use Rattle.saved_check.specs.SavedGuest.IdealGuests.Calls.{GuestSpec, IsGoodGuest}
use Rattle.saved_check.specs.SavedGuest.ScnSaved.declared.state.GuestState.{GuestState}
use Rattle.saved_check.specs.SavedGuest.Whole.{AreValidStates}
use Rattle.image_read.proofs.guest.guests.Given as goal

-- those so far were written so, and no others were
abbrev pub invariant-loop-value : goal.invariant-loop-value
invariant-loop-value l =
    record {
      told : guest_heads (guests_data l.told.guests l.told.states) ≡ guest_heads (map view (take l.value-index l.values));
      each : length l.told.states ≡ length l.told.guests;
      only : (guests : List GuestSpec) (states : List GuestState) → All IsGoodGuest guests → AreValidStates guests states → guest_heads (guests_data guests states) ≡ guest_heads (map view l.values)
          → (take l.value-index guests ≡ l.told.guests) × (take l.value-index states ≡ l.told.states);
    }
