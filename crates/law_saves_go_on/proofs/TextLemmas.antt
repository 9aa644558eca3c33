-- The text of a run in two parts.
use Rattle.std.proofs.Common.{◌≡◌, cond, ℕ, ◌+◌, List, [], ◌∷◌, ◌++◌, length, map, take, drop, Option, refl, sym, ap, ◌∙◌, arith, append_assoc}
use Rattle.std.specs.Prelude.{count_by}
use Rattle.std.proofs.lemmas.List.{take-append-drop, length-take-le, length-append}
use Rattle.std.proofs.lemmas.List.Sums.{sum_by-append}
use Rattle.law_runs_split.specs.GicIdeal.ScnBase.declared.step.Step.{Step}
use Rattle.law_runs_split.specs.GicIdeal.ScnBase.declared.pes.VcpuName.{VcpuName}
use Rattle.law_runs_split.specs.GicIdeal.ScnBase.Standing.{opening_pes, pes_after}
use Rattle.law_runs_split.specs.GicIdeal.IdealGuests.declared.guest.IdealGuest.{IdealGuest}
use Rattle.law_runs_split.specs.GicIdeal.IdealGuests.GicGuest.declared.outcome.Answer.{Answer}
use Rattle.law_runs_split.specs.GicIdeal.IdealGuests.Calls.{RunOut, shapes_of}
use Rattle.law_runs_split.specs.GicIdeal.IdealGuests.Opening.{opening}
use Rattle.law_runs_split.specs.GicIdeal.Eager.{answers_of, after_step, after_steps, eager_from}
use Rattle.law_runs_split.specs.Split.{pes_after_steps}
use Rattle.law_runs_split.proofs.SplitLemmas.{runs_split}
use Rattle.law_runs_split.proofs.GoOnLemmas.{past_faults_do_not_matter}
use Rattle.gic_report.specs.Text.{is_read, answer_line, answer_lines, end_lines, counts_of}
use Rattle.law_saves_go_on.specs.GoOn.{SaveThenResume}

lines_split : (n : ℕ) (first rest : List Answer) → answer_lines n (first ++ rest) ≡ answer_lines n first ++ answer_lines (n + length first) rest
lines_split n [] rest = ap (λ m. answer_lines m rest) (omega arith)
lines_split n (answer ∷ first) rest =
    let later : n + 1 + length first ≡ n + length (answer ∷ first) = omega arith in
    ap (λ lines. answer_line n answer ++ lines) (lines_split (n + 1) first rest ∙ ap (λ m. answer_lines (n + 1) first ++ answer_lines m rest) later)
    ∙ sym (append_assoc (answer_line n answer) (answer_lines (n + 1) first) (answer_lines (n + length (answer ∷ first)) rest))

length-answers : (lrs : ℕ) (pes : List (Option VcpuName)) (steps : List Step) (states : List IdealGuest) → length (answers_of lrs pes steps states) ≡ length steps
length-answers lrs pes [] states = refl
length-answers lrs pes (step ∷ steps) states = let more = length-answers lrs (pes_after step pes) steps (after_step step states) in omega (arith, more)

pub save_then_resume : SaveThenResume
save_then_resume scenario done states few alike =
    let first = take done scenario.steps in
    let rest = drop done scenario.steps in
    let opened = map opening scenario.guests in
    let pes = opening_pes scenario.pes (shapes_of scenario.guests) in
    let lrs = scenario.lrs in
    let whole : first ++ rest ≡ scenario.steps = take-append-drop done scenario.steps in
    let far : length first ≡ done = length-take-le done scenario.steps few in
    let own = answers_of lrs pes first opened in
    let later = eager_from lrs (pes_after_steps first pes) rest opened states in
    let steps : length scenario.steps ≡ done + length rest = ap length (sym whole) ∙ length-append first rest ∙ ap (λ n. n + length rest) far in
    let reads : count_by is_read scenario.steps ≡ count_by is_read first + count_by is_read rest = ap (count_by is_read) (sym whole) ∙ sum_by-append (λ (step : Step). cond (is_read step) 1 0) first rest in
    let answers : length own ≡ done = length-answers lrs pes first opened ∙ far in
    let next : 1 + length own ≡ done + 1 = omega (arith, answers) in
    let run : eager_from lrs pes scenario.steps opened opened ≡ (let out : RunOut = record { answers = own ++ later.answers; ends = later.ends } in out) =
    ap (λ (s : List Step). eager_from lrs pes s opened opened) (sym whole)
    ∙ runs_split lrs pes first rest opened opened
    ∙ ap (λ (out : RunOut). let joined : RunOut = record { answers = own ++ out.answers; ends = out.ends } in joined) (sym (past_faults_do_not_matter lrs (pes_after_steps first pes) rest opened states (after_steps first opened) alike)) in
    let last : counts_of (length scenario.steps) (count_by is_read scenario.steps) ≡ counts_of (done + length rest) (count_by is_read first + count_by is_read rest) = ap (λ n. counts_of n (count_by is_read scenario.steps)) steps ∙ ap (counts_of (done + length rest)) reads in
    let lines : answer_lines 1 (own ++ later.answers) ≡ answer_lines 1 own ++ answer_lines (done + 1) later.answers = lines_split 1 own later.answers ∙ ap (λ n. answer_lines 1 own ++ answer_lines n later.answers) next in
    ap (λ (out : RunOut). answer_lines 1 out.answers ++ end_lines 0 out.ends ++ counts_of (length scenario.steps) (count_by is_read scenario.steps)) run
    ∙ ap (λ end. answer_lines 1 (own ++ later.answers) ++ end_lines 0 later.ends ++ end) last
    ∙ ap (λ l. l ++ end_lines 0 later.ends ++ counts_of (done + length rest) (count_by is_read first + count_by is_read rest)) lines
    ∙ ap (λ l. l ++ counts_of (done + length rest) (count_by is_read first + count_by is_read rest)) (append_assoc (answer_lines 1 own) (answer_lines (done + 1) later.answers) (end_lines 0 later.ends))
    ∙ append_assoc (answer_lines 1 own) (answer_lines (done + 1) later.answers ++ end_lines 0 later.ends) (counts_of (done + length rest) (count_by is_read first + count_by is_read rest))
