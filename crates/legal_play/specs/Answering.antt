-- What the program asks of those that wait.
use Rattle.std.specs.Prelude.{◌≡◌, ℕ, IsTrue, Some}
use Rattle.legal_steps.specs.Words.{GuestShape}
use Rattle.legal_steps.specs.Calls.{Operation}
use Rattle.legal_steps.specs.Histories.{Track, doing_of}
use Rattle.history_play.specs.HistoryCalls.Exact.{is_good}

-- each actor is in a call that its guest can do, if it is in one
abbrev pub AreGood : GuestShape → Track → Type 0
AreGood shape track = (actor : ℕ) (operation : Operation) → (doing_of track actor).operation ≡ Some operation → IsTrue (is_good shape operation)
