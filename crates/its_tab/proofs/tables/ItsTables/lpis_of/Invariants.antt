use Rattle.std.proofs.Common.{◌≡◌, ◌++◌, ℕ, Bool, nat_eq, Some}
use Rattle.std.specs.List.{filter}
use Rattle.std.specs.Option.{option_eq}
use Rattle.std.specs.Map.{keys_of}
use Rattle.its_tab.specs.Collection.{collection_of}
use Rattle.std.specs.VecDeque.Iter.{deque_iter_rest}
use Rattle.its_tab.proofs.tables.ItsTables.lpis_of.Given as goal

-- what passes of all is listed so far, or is left
abbrev pub invariant-loop-pair : goal.invariant-loop-pair
invariant-loop-pair l =
    let passes : ℕ → Bool = λ id. option_eq nat_eq (collection_of l.self id) (Some l.icid) in
    filter passes (keys_of (deque_iter_rest l.initial.pair-iterator)) ≡ l.ids.items ++ filter passes (keys_of (deque_iter_rest l.pair-iterator))
