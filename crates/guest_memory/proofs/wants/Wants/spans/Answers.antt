use Rattle.std.proofs.Common.{◌≡◌, ℕ, ◌+◌, ◌≤◌, ◌<◌, rules, List, [], ◌∷◌, ◌++◌, length, take, drop, get_or, subst, sym, ap, ◌∙◌, arith}
use Rattle.std.proofs.lemmas.List.{take-append-drop, take_all, drop_all, drop_more}
use Rattle.guest_memory.specs.declared.wants.Span.{Span}
use Rattle.guest_memory.proofs.wants.Wants.spans.Goals as goal

pub returns : goal.returns
returns c =
    let is = c.loop-place-2.invariant in
    let wants = c.args.self in
    let spans = c.loop-place-2.spans in
    let place : c.loop-place-2.place ≡ 32 = omega (arith, c.loop-place-2.auto.place-end, c.loop-place-2-test.false) in
    let first : take 34 spans ≡ wants.commands ++ wants.tables =
    subst (λ (n : ℕ). take (2 + n) spans ≡ wants.commands ++ take n wants.tables) place is.first ∙ ap (λ (tables : List Span). wants.commands ++ tables) (take_all 32 wants.tables (search (rules, arith))) in
    let last : drop 34 spans ≡ wants.pending ∷ [] =
    drop_more spans 34 wants.pending (omega (arith, is.long)) ∙ ap (λ (span : Span). span ∷ drop 35 spans) is.last ∙ ap (λ (rest : List Span). wants.pending ∷ rest) (drop_all 35 spans (omega (arith, is.long))) in
    sym (take-append-drop 34 spans) ∙ ap (λ (front : List Span). front ++ drop 34 spans) first ∙ ap (λ (back : List Span). (wants.commands ++ wants.tables) ++ back) last
