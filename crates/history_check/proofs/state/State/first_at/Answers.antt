use Rattle.std.proofs.Common.{◌≡◌, ◌<◌, ◌≤◌, ◌∙◌, sym, ap, subst, map, take, get_or, length, Option}
use Rattle.std.specs.List.{filter_map}
use Rattle.std.proofs.lemmas.List.{take_all}
use Rattle.floor_histories.specs.Registers.{Candidate, first_of, candidate_of}
use Rattle.floor_histories.specs.Histories.{Standing, shown_at, standing_at}
use Rattle.history_check.proofs.ShownLemmas.{found_more, none_more, found_shown}
use Rattle.history_check.proofs.state.State.first_at.Goals as goal
use Rattle.history_check.proofs.state.State.first_at.Goals.{in-Some, in_default}

pub loop-one-preserved : goal.loop-one-preserved
loop-one-preserved c =
    let f : Standing → Option Candidate = λ one. candidate_of c.cpu-cpu.result (shown_at c.args.self.now one) in
    let xs = standing_at c.args.self.now c.args.vcpu in
    let i = c.loop-one.one-index in
    let x = c.one-item.result in
    let items = c.standing-one-items.ensures in
    let more : i < length xs = subst (λ ys. i < length ys) items c.loop-one-test.true in
    let is : x ≡ get_or xs i x = c.one-item.is ∙ ap (λ ys. get_or ys i x) items in
    let shown = ap (candidate_of c.cpu-cpu.result) (sym c.shown.ensures) ∙ sym c.candidate.ensures in
    elim c.match-candidate.branch [
      | in-Some w ↦ w.first-is ∙ sym (w.earlier.ensures.first (filter_map f (take i xs)) c.loop-one.invariant) ∙ ap first_of (sym (found_more f xs i x w.in-Some.next more is (shown ∙ w.in-Some.is)))
      | in_default w ↦ w.first-is ∙ c.loop-one.invariant ∙ ap first_of (sym (none_more f xs i x more is (shown ∙ w.in_default.is)))
    ]

pub returns : goal.returns
returns c =
    let state = c.args.self.now in
    let cpu = c.cpu-cpu.result in
    let xs = standing_at state c.args.vcpu in
    let i = c.loop-one.one-index in
    let all : take i xs ≡ xs = take_all i xs (subst (λ ys. length ys ≤ i) c.standing-one-items.ensures c.loop-one-test.false) in
    c.loop-one.invariant
    ∙ ap (λ ys. first_of (filter_map (λ one. candidate_of cpu (shown_at state one)) ys)) all
    ∙ ap first_of (sym (found_shown (candidate_of cpu) (shown_at state) xs))
    ∙ ap (λ k. first_of (filter_map (candidate_of k) (map (shown_at state) xs))) c.cpu-cpu.ensures
