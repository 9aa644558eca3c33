use Rattle.std.proofs.Common.{◌≡◌, ◌<◌, ℕ, List, Option, ap, sym, length, None, get_or, ◌∙◌, arith}
use Rattle.std.proofs.lemmas.Grind.{common_steps}
use Rattle.guest_end.specs.Outcome.{answer_by}
use Rattle.thr_cast.specs.declared.answers.Heard.{Heard}
use Rattle.thr_cast.specs.Answers.{heard_by, next_of, place_by}
use Rattle.thr_cast.proofs.AnswerLemmas.{heard_in}
use Rattle.thr_cast.proofs.answers.next_answer.Goals as goal

-- the next answer is there
within :
    (g v place : ℕ) (heard : List Heard) (next : List ℕ) (answers : List (Option ℕ)) → place ≡ place_by g v heard → heard_by g v heard ≡ answers → next_of g v heard next < length (heard_by g v heard)
    → get_or next place 0 < length answers
within g v place heard next answers at same more =
    let number : get_or next place 0 ≡ next_of g v heard next = ap (λ (n : ℕ). get_or next n 0) at in
    omega (arith, more, number, ap length same)

pub offset_bounds-answers-done : goal.offset_bounds-answers-done
offset_bounds-answers-done c =
    let same = heard_in c.args.guest c.args.vcpu c.place_of-place.result c.args.heard.now c.index-heard-place.result c.as_slice-answers.result.now c.requires.there c.place_of-place.ensures c.as_slice-answers.ensures in
    grind (arith, common_steps, within c.args.guest c.args.vcpu c.place_of-place.result c.args.heard.now c.args.next.now c.as_slice-answers.result.now c.place_of-place.ensures same c.requires.more)

pub bounds-answers-done : goal.bounds-answers-done
bounds-answers-done c =
    let same = heard_in c.args.guest c.args.vcpu c.place_of-place.result c.args.heard.now c.index-heard-place.result c.as_slice-answers.result.now c.requires.there c.place_of-place.ensures c.as_slice-answers.ensures in
    within c.args.guest c.args.vcpu c.place_of-place.result c.args.heard.now c.args.next.now c.as_slice-answers.result.now c.place_of-place.ensures same c.requires.more

pub overflow_add-next : goal.overflow_add-next
overflow_add-next c =
    let same = heard_in c.args.guest c.args.vcpu c.place_of-place.result c.args.heard.now c.index-heard-place.result c.as_slice-answers.result.now c.requires.there c.place_of-place.ensures c.as_slice-answers.ensures in
    grind (arith, common_steps, within c.args.guest c.args.vcpu c.place_of-place.result c.args.heard.now c.args.next.now c.as_slice-answers.result.now c.place_of-place.ensures same c.requires.more)

pub returns-clause-answer : goal.returns-clause-answer
returns-clause-answer c =
    let same = heard_in c.args.guest c.args.vcpu c.place_of-place.result c.args.heard.now c.index-heard-place.result c.as_slice-answers.result.now c.requires.there c.place_of-place.ensures c.as_slice-answers.ensures in
    c.answer_of-answer.ensures ∙ ap (λ n. answer_by (get_or c.as_slice-answers.result.now (get_or c.args.next.now n 0) None)) c.place_of-place.ensures
    ∙ ap (λ list. answer_by (get_or list (next_of c.args.guest c.args.vcpu c.args.heard.now c.args.next.now) None)) (sym same)
