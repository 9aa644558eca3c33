-- What of a guest decides which registers it has.
use Rattle.std.specs.Prelude.{◌==◌, not, Bool}
use Rattle.floor_words.specs.Words.{GuestShape}

-- the guest has LPIs, and so an ITS
abbrev pub has_lpis : GuestShape → Bool
has_lpis shape = not (shape.lpis == 0)
