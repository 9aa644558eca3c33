use Rattle.std.proofs.Common.{◌≡◌, List, map, take, All}
use Rattle.serde_json.specs.View.{view}
use Rattle.saved_check.specs.SavedGuest.IdealGuests.Words.{GuestShape, IsShape}
use Rattle.image_read.proofs.told.list.Given as goal

-- those so far were written so, and nothing else was
abbrev pub invariant-loop-value : goal.invariant-loop-value
invariant-loop-value g l =
    record {
      told : map g.T.Told.written l.list ≡ map view (take l.value-index l.values);
      only : (shape : GuestShape) (xs : List _) → IsShape shape → All (g.T.Told.can_stand shape) xs → map g.T.Told.written xs ≡ map view l.values → take l.value-index xs ≡ l.list;
    }
