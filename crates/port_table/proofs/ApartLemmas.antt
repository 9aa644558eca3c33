-- What is done in one guest leaves the others.
use Rattle.std.proofs.Common.{ℕ, zero, suc, ◌<◌, List, [], ◌∷◌, length, get_or, arith}
use Rattle.std.proofs.lemmas.List.{get_or-set_other}
use Rattle.port_ops.specs.PortCore.declared.end.GuestWords.{GuestWords}
use Rattle.port_ops.specs.PortCore.Actor.{guest_of}
use Rattle.port_table.specs.Laws.{GuestsApart}
use Rattle.port_table.specs.Told.{WordsTold, RootTold, EndsRun, EndsRuns, opening_root, no_words, words_at, root_at}

-- each guest's run ends in its words
ends_at : (words : List WordsTold) (root : List RootTold) (left : List GuestWords) (number : ℕ) (none : GuestWords) → EndsRuns words root left → number < length words → EndsRun (words_at words number) (root_at root number) (get_or left number none)
ends_at (w ∷ words) (r ∷ root) (e ∷ left) zero none ends there = ends.0
ends_at (w ∷ words) (r ∷ root) (e ∷ left) (suc number) none ends there = ends_at words root left number none ends.1 (omega (arith, there))
ends_at [] [] [] number none ends there = absurd (omega (arith, there))
ends_at words root left number none ends there = absurd ends

pub apart : GuestsApart
apart =
    record {
      split = λ words root actor other differ. get_or-set_other root (guest_of actor) other _ (opening_root no_words) differ;
      join = λ seen root other differ. get_or-set_other root seen.number other _ (opening_root no_words) differ;
      ends = ends_at;
    }
