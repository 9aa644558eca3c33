use Rattle.std.proofs.Common.{◌≡◌, length, take}
use Rattle.thr_cast.specs.Answers.{AnswersAre}
use Rattle.thr_cast.proofs.AnswerLemmas.{CountsAre}
use Rattle.thr_cast.proofs.answers.all_answers.Given as goal

-- the steps so far have their answers, and each vCPU's next answer is past those that they took
abbrev pub invariant-loop-step : goal.invariant-loop-step
invariant-loop-step l =
    record {
      each : length l.answers ≡ l.step-index;
      room : length l.next.items ≡ length l.heard;
      are : AnswersAre (take l.step-index l.steps) l.heard l.answers;
      counts : CountsAre (take l.step-index l.steps) l.heard l.next.items;
    }
