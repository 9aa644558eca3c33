-- An entry and an exit about the accesses.
use Rattle.std.proofs.Common.{◌≡◌, false, [], ◌∷◌, map, None, refl, sym, ap, subst, ◌∙◌}
use Rattle.std.proofs.lemmas.List.Sums.{fold-append}
use Rattle.pe_loop.specs.Calls.{Residence}
use Rattle.pe_loop.specs.Core.{shape_of, makes, begins, ends, Progress, owed_after_part, owed_after_scan, paid, progressed, progress_of}
use Rattle.pe_loop.proofs.CoreProper.RestLemmas.{rests_again}
use Rattle.pe_loop.specs.Enter.{MayEnter}
use Rattle.pe_icc.specs.Amid.{IsRunning}
use Rattle.pe_icc.specs.Laws.{EntryRuns, ExitRests}
use Rattle.pe_icc.proofs.ReenterLemmas.{none_still}

pub entry_runs : EntryRuns
entry_runs old new vcpu lrs loaded enters p between =
    let shape = shape_of old in
    let actor = old.actor in
    let begin = progressed shape actor p (begins Residence lrs) in
    let may : MayEnter old lrs begin
    = record { idle = record { local = between.rest.local; own = between.rest.own; scan = between.rest.scan }; near = refl; lrs_is = refl; none_failed = between.none_failed } in
    let on = enters.goes_on begin may in
    let Ended : Progress → Type 0 = λ q. IsRunning new loaded (progressed shape actor q (ends None)) in
    subst (IsRunning new loaded) (sym (fold-append (progressed shape actor) begin (map makes enters.part) (ends None ∷ [])))
    (subst Ended (sym on.is)
    (record {
      rest = record { local = refl; own = refl; scan = refl; wants = between.rest.wants };
      regs = refl;
      trapping = refl;
      none_failed = refl;
      debt = ap owed_after_part between.debt;
    }))

pub exit_rests : ExitRests
exit_rests old new lrs vcpu shelved leaves p run =
    let shape = shape_of old in
    let actor = old.actor in
    let begin = progressed shape actor p (begins Residence lrs) in
    let good = leaves.piece begin (record { local = run.rest.local; own = run.rest.own; scan = run.rest.scan }) in
    let q = progress_of shape actor begin (map makes leaves.part) in
    let proper = leaves.proper lrs p run.rest in
    let failed : q.failed ≡ false = none_still p.failed q.failed good.stays.failed run.none_failed in
    let debt : q.debt ≡ paid = ap (λ (p : Progress). p.debt) good.stays.same ∙ run.debt in
    let whole = fold-append (progressed shape actor) begin (map makes leaves.part) (ends None ∷ []) in
    record {
      proper = proper;
      between =
          record {
            rest = rests_again old new p leaves.part Residence lrs None run.rest proper leaves.adds;
            none_failed = ap (λ (p : Progress). p.failed) whole ∙ failed;
            debt = ap (λ (p : Progress). owed_after_scan p.debt) whole ∙ ap (λ debt. owed_after_scan (owed_after_part debt)) debt;
          };
    }
