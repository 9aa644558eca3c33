-- The root of a guest by itself.
use Rattle.std.specs.Prelude.{◌≡◌, ℕ, List}
use Rattle.port_table.specs.Out.{AreOut}
use Rattle.port_table.specs.Told.{WordsTold, RootTold, AreRoots, words_at, root_at}

-- these actors were split off, in this order, and no other is out than these
pub record IsRow (words : List WordsTold) (root : List RootTold) (split out : List ℕ) : Type 0 where
  pub roots : AreRoots words root
  pub split_is : (root_at root 0).split ≡ split
  pub out_are : AreOut (words_at words 0) (root_at root 0) out
