-- Which actors are out: split off and not joined again.
use Rattle.std.specs.Prelude.{ℕ, ◌||◌, IsTrue, List, All}
use Rattle.port_table.specs.Told.{WordsTold, RootTold, HasNoTurn}
use Rattle.port_table.specs.View.{is_among, is_back}

-- no other actor of the guest is out than these, and none of those that came back has the ITS
pub record AreOut (words : WordsTold) (root : RootTold) (out : List ℕ) : Type 0 where
  pub back : (actor : ℕ) → IsTrue (is_among actor root.split) → IsTrue (is_back actor root.joined || is_among actor out)
  pub idle : All (HasNoTurn words) root.joined
