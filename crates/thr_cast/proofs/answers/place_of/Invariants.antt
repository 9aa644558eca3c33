use Rattle.std.proofs.Common.{◌≡◌, ◌+◌, drop}
use Rattle.thr_cast.specs.Answers.{place_by}
use Rattle.thr_cast.proofs.answers.place_of.Given as goal

-- the entries so far are not of the vCPU
abbrev pub invariant-loop-place : goal.invariant-loop-place
invariant-loop-place l = l.place + place_by l.guest l.vcpu (drop l.place l.heard) ≡ place_by l.guest l.vcpu l.heard
