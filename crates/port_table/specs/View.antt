-- What the seats of a shared table know: the root, and the actors that were split off from it.
use Rattle.std.specs.Prelude.{ℕ, ◌==◌, ◌||◌, ◌&&◌, not, Bool, false, List, [], ◌∷◌, ◌++◌, map, if◌then◌else◌}
use Rattle.port_ops.specs.PortCore.declared.run.Made.{Made}
use Rattle.port_table.specs.declared.view.Account.{Account}
use Rattle.port_table.specs.declared.view.View.{View}
use Rattle.port_table.specs.declared.view.View.TheVariants.{Root, Out}

-- an actor is among some
abbrev pub is_among : ℕ → List ℕ → Bool
is_among actor [] = false
is_among actor (one ∷ others) = (one == actor) || is_among actor others

-- it was joined again
abbrev pub is_back : ℕ → List Account → Bool
is_back actor joined = is_among actor (map (λ account. account.actor) joined)

-- it was split off, and not joined yet
abbrev pub is_out : List ℕ → List Account → ℕ → Bool
is_out split joined actor = is_among actor split && not (is_back actor joined)

-- the steps of an actor, as they were joined; none of one that was not
abbrev pub steps_of : ℕ → List Account → List Made
steps_of actor [] = []
steps_of actor (account ∷ others) = if account.actor == actor then account.own else steps_of actor others

-- what a view has, of each kind
abbrev pub actor_of : View → ℕ
actor_of (Out actor own) = actor
actor_of view = 0

abbrev pub own_of : View → List Made
own_of (Out actor own) = own
own_of view = []

abbrev pub split_of : View → List ℕ
split_of (Root split joined) = split
split_of view = []

abbrev pub joined_of : View → List Account
joined_of (Root split joined) = joined
joined_of view = []

-- the root after an actor was split off
abbrev pub noting : ℕ → View → View
noting actor (Root split joined) = Root (split ++ actor ∷ []) joined
noting actor view = view

-- and after one was joined
abbrev pub with_account : ℕ → List Made → List Account → List Account
with_account actor own joined = joined ++ record { actor = actor; own = own } ∷ []

abbrev pub joining : View → View → View
joining (Root split joined) (Out actor own) = Root split (with_account actor own joined)
joining view other = view
