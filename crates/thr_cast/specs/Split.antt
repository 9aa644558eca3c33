-- Which actors of a run were split off (own choice).
use Rattle.std.specs.Prelude.{◌≡◌, ℕ, ◌<◌, IsTrue, List, []}
use Rattle.thr_trip.specs.Core.{actor_count}
use Rattle.thr_trip.specs.PortTable.Told.{WordsTold, RootTold, AreRoots, root_at, words_at}
use Rattle.thr_trip.specs.PortTable.View.{is_among}

-- of the guests before this one all actors may have been split off, of this one the first actors, and of those after it none; none was joined again
pub record SplitTo (words : List WordsTold) (root : List RootTold) (guest count : ℕ) : Type 0 where
  pub are : AreRoots words root
  pub none_joined : (number : ℕ) → (root_at root number).joined ≡ []
  pub earlier : (number actor : ℕ) → number < guest → IsTrue (is_among actor (root_at root number).split) → actor < actor_count (words_at words number).guest.shape
  pub here : (actor : ℕ) → IsTrue (is_among actor (root_at root guest).split) → actor < count
  pub later : (number : ℕ) → guest < number → (root_at root number).split ≡ []
