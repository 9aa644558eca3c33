use Rattle.std.proofs.Common.{◌≡◌, ◌∙◌, true, Some, None, is_some, IfSome, sym, ap, arith}
use Rattle.serde_json.specs.Find.{as_null}
use Rattle.serde_json.specs.View.{view}
use Rattle.json_field.specs.Field.{list_of}
use Rattle.saved_check.specs.SavedGuest.Valid.{IsValidIts}
use Rattle.saved_check.proofs.SavedGuest.WordLemmas.{queue_small, fault_small}
use Rattle.image_read.specs.Fits.{its_or_null}
use Rattle.image_read.proofs.RowLemmas.{row_is, read_as}
use Rattle.image_read.proofs.rows.OptionItsStateTold.told.Goals as goal

pub returns-clause-told : goal.returns-clause-told
returns-clause-told c = read_as its_or_null (view c.args.value.now) c.end.result _ _ c.end.ensures.told (λ e. row_is (view c.args.value.now) _ (sym c.of-row.ensures ∙ c.flag.ensures.told _ (c.long.ensures.told _ (c.long-2.ensures.told _ (c.word.ensures.told _ (c.flag-2.ensures.told _ (c.byte.ensures.told _ (c.long-3.ensures.told _ (c.long-4.ensures.told _ e)))))))))

pub returns-clause-only : goal.returns-clause-only
returns-clause-only c shape x is = elim x as (λ x. IfSome x IsValidIts → its_or_null x ≡ view c.args.value.now → c.end.result ≡ Some x) [
  | None ↦ λ valid e. let null : c.is_null.result ≡ true = c.is_null.ensures ∙ ap (λ d. is_some (as_null d)) (sym e) in absurd (cc)
  | (Some its) ↦ λ valid e.
      let start = c.of-row.ensures ∙ ap list_of (sym e) in
      let p0 = c.flag.ensures.only its.enabled _ start in
      let p1 = c.long.ensures.only its.cbaser _ p0.1 in
      let p2 = c.long-2.ensures.only its.cwriter _ p1.1 in
      let p3 = c.word.ensures.only its.offset _ (omega (arith, valid.offset, queue_small its.cbaser)) p2.1 in
      let p4 = c.flag-2.ensures.only its.stalled _ p3.1 in
      let p5 = c.byte.ensures.only its.fault _ (fault_small its.stalled its.fault valid.fault) p4.1 in
      let p6 = c.long-3.ensures.only its.baser0 _ p5.1 in
      let p7 = c.long-4.ensures.only its.baser1 _ p6.1 in
      c.end.ensures.only p7.1 ∙ ap Some (ap Some (λ i. record { enabled = p0.0 i; cbaser = p1.0 i; cwriter = p2.0 i; offset = p3.0 i; stalled = p4.0 i; fault = p5.0 i; baser0 = p6.0 i; baser1 = p7.0 i }))
]
