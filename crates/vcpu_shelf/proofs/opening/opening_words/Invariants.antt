use Rattle.std.proofs.Common.{◌≡◌, take, map}
use Rattle.vcpu_shelf.specs.Word.{stored_word}
use Rattle.vcpu_shelf.proofs.opening.opening_words.Given as goal

-- the words so far
abbrev pub invariant-loop-traveller : goal.invariant-loop-traveller
invariant-loop-traveller g l = l.words.items ≡ map (λ (traveller : g.row.T.Denot). stored_word (g.T.Traveller.done traveller) (g.T.Traveller.next traveller)) (take l.traveller-index l.all)
