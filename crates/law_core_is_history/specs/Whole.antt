-- Runs whose parts have all ended.
use Rattle.std.specs.Prelude.{◌≡◌, ℕ, ◌<◌, Bool, true, false, List, fold}
use Rattle.law_lines_translate.specs.Words.{GuestShape}
use Rattle.law_lines_translate.specs.Core.{actor_count, Act, begins, makes, ends, CoreMoment, own_acts}

-- whether an actor is in a part after what it does
abbrev pub within_after : Bool → Act → Bool
within_after within (begins operation lrs) = true
within_after within (makes made) = within
within_after within (ends answer) = false

-- no actor is in a part
abbrev pub AreEnded : GuestShape → List CoreMoment → Type 0
AreEnded shape moments = (actor : ℕ) → actor < actor_count shape → fold within_after false (own_acts actor moments) ≡ false
