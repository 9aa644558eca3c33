-- The first guests are told, and there is room for the others.
use Rattle.std.proofs.Common.{◌≡◌, ◌≤◌, length, take, vec_capacity}
use Rattle.law_saves_go_on.specs.Resume.{states_of}
use Rattle.eager_rest.proofs.told.all_told.Given as goal

abbrev pub invariant-loop-number : goal.invariant-loop-number
invariant-loop-number l =
    record {
      told : l.all.items ≡ states_of (take l.number l.guests) (take l.number l.states);
      each : length l.all.items ≡ l.number;
      room : length l.guests ≤ vec_capacity l.all;
    }
