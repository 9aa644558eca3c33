use Rattle.std.proofs.Common.{◌≡◌, take, map, filter_map}
use Rattle.core_words.specs.Registers.{first_of, candidate_of}
use Rattle.port_core.specs.After.{shown}
use Rattle.port_core.proofs.local.Local.first.Given as goal

-- the first of those so far
abbrev pub invariant-loop-entry : goal.invariant-loop-entry
invariant-loop-entry l = l.first ≡ first_of (filter_map (candidate_of l.fn.self.cpu) (map shown (take l.entry-index l.fn.self.at)))
