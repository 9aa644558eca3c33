-- Laws of guests that share nothing.
use Rattle.std.specs.Prelude.{◌≡◌, ◌≢◌, ℕ, ◌<◌, List, length, slice_index_or}
use Rattle.port_ops.specs.Words.{Actor}
use Rattle.port_ops.specs.PortCore.declared.end.GuestWords.{GuestWords}
use Rattle.port_ops.specs.PortCore.Actor.{guest_of}
use Rattle.port_ops.specs.PortCore.Port.{Seen}
use Rattle.port_table.specs.Told.{WordsTold, RootTold, EndsRun, EndsRuns, words_at, root_at, splitting, joining_in}

-- what is done with an actor's port leaves what the root keeps of other guests; and the words and the lists of each guest are those of one run of its own
-- actors, whatever was done in the others
pub record GuestsApart : Type 0 where
  pub split : (words : List WordsTold) (root : List RootTold) (actor : Actor) (other : ℕ) → other ≢ guest_of actor → root_at (splitting words actor root) other ≡ root_at root other
  pub join : (seen : Seen) (root : List RootTold) (other : ℕ) → other ≢ seen.number → root_at (joining_in seen root) other ≡ root_at root other
  pub ends : (words : List WordsTold) (root : List RootTold) (left : List GuestWords) (number : ℕ) (none : GuestWords) → EndsRuns words root left → number < length words → EndsRun (words_at words number) (root_at root number) (slice_index_or left number none)
