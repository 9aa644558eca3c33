use Rattle.std.proofs.Common.{◌≡◌, ◌+◌, List, [], ◌∷◌, ◌++◌, map, sym, ap, subst, ◌∙◌}
use Rattle.std.proofs.lemmas.List.{append_assoc, length_push}
use Rattle.port_ops.specs.PortCore.declared.end.GuestWords.{GuestWords}
use Rattle.port_table.specs.declared.guest.GuestTable.{GuestTable}
use Rattle.port_table.specs.declared.guest.GuestRoot.{GuestRoot}
use Rattle.port_table.specs.Ports.{words_told, root_told}
use Rattle.port_table.specs.Told.{IsDone, EndsRuns}
use Rattle.port_table.proofs.GuestsLemmas.{next_is, ends_next}
use Rattle.port_table.proofs.threads.finish.Goals as goal

pub finish-requires-clause-home : goal.finish-requires-clause-home
finish-requires-clause-home c =
    let at = c.loop-table in
    let ended = at.invariant.ended in
    let tables = ap (λ (rest : List GuestTable). at.yielded ++ rest) (sym c.in-Some.ensures.steps.0) ∙ at.invariant.rest in
    let roots = ap (λ (rest : List GuestRoot). ended.0 ++ rest) (sym c.in-Some-next.ensures.items) ∙ ended.1 in
    next_is (λ w r. r.home ≡ w.home) c.args.words.guests.items at.yielded _ c.args.root.guests.items ended.0 _ c.in-Some.table c.in-Some-next.root tables roots ended.2
    (λ n there. c.requires.roots.home n there)

pub finish-requires-clause-done : goal.finish-requires-clause-done
finish-requires-clause-done c =
    let at = c.loop-table in
    let ended = at.invariant.ended in
    let tables = ap (λ (rest : List GuestTable). at.yielded ++ rest) (sym c.in-Some.ensures.steps.0) ∙ at.invariant.rest in
    let roots = ap (λ (rest : List GuestRoot). ended.0 ++ rest) (sym c.in-Some-next.ensures.items) ∙ ended.1 in
    next_is IsDone c.args.words.guests.items at.yielded _ c.args.root.guests.items ended.0 _ c.in-Some.table c.in-Some-next.root tables roots ended.2 c.requires.done

pub loop-table-preserved : goal.loop-table-preserved
loop-table-preserved c =
    let at = c.loop-table in
    let ended = at.invariant.ended in
    let table = c.in-Some.table in
    let root = c.in-Some-next.root in
    let left = c.in_ok-finish-in-Some-next.field-0 in
    let tables = ap (λ (rest : List GuestTable). at.yielded ++ rest) (sym c.in-Some.ensures.steps.0) ∙ at.invariant.rest in
    let roots = ap (λ (rest : List GuestRoot). ended.0 ++ rest) (sym c.in-Some-next.ensures.items) ∙ ended.1 in
    record {
      next = tt;
      finite = tt;
      rest = append_assoc at.yielded (table ∷ []) _ ∙ tables;
      ended = (
        ended.0 ++ root ∷ [],
        append_assoc ended.0 (root ∷ []) _ ∙ roots,
        length_push ended.0 root ∙ ap (λ n. n + 1) ended.2 ∙ sym (length_push at.yielded table),
        subst (λ (ends : List GuestWords). EndsRuns (map words_told (at.yielded ++ table ∷ [])) (map root_told (ended.0 ++ root ∷ [])) ends) (sym c.in_ok-push-in-Some-next.ensures.ok)
            (ends_next at.yielded ended.0 table root at.ends left ended.3 c.in_ok-finish-in-Some-next.ensures),
      );
    }
