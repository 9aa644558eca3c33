-- What was done so far.
use Rattle.std.proofs.Common.{◌≡◌, vec_capacity}
use Rattle.thr_trip.specs.Operate.{Operates}
use Rattle.thr_trip.proofs.visit.operate.Given as goal

abbrev pub invariant-loop : goal.invariant-loop
invariant-loop g l =
    record {
      room : vec_capacity l.answers ≡ vec_capacity l.initial.answers;
      so : Operates l.script (g.P.Port.seen l.initial.port) (g.P.Port.seen l.port) l.initial.vcpu l.vcpu l.initial.answers.items l.answers.items;
    }
