use Rattle.std.proofs.Common.{◌≡◌, ◌+◌, ◌++◌, take, length, ◌∷◌, [], get_or}
use Rattle.guest_memory.proofs.wants.Wants.spans.Given as goal

abbrev pub invariant-loop-place : goal.invariant-loop-place
invariant-loop-place l =
    record {
      long : length l.spans ≡ 35;
      first : take l.place l.spans ≡ take l.place l.self.commands;
      last : get_or l.spans 34 l.self.pending ≡ l.self.pending;
    }

abbrev pub invariant-loop-place-2 : goal.invariant-loop-place-2
invariant-loop-place-2 l =
    record {
      long : length l.spans ≡ 35;
      first : take (2 + l.place) l.spans ≡ l.self.commands ++ take l.place l.self.tables;
      last : get_or l.spans 34 l.self.pending ≡ l.self.pending;
    }
