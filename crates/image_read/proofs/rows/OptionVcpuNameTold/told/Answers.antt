use Rattle.std.proofs.Common.{◌≡◌, ◌∙◌, true, Some, None, is_some, IfSome, sym, ap}
use Rattle.serde_json.specs.Find.{as_null}
use Rattle.serde_json.specs.View.{view}
use Rattle.json_field.specs.Field.{list_of}
use Rattle.image_read.specs.Fits.{IsShortName}
use Rattle.gic_resume.specs.GicSave.Image.{resident_data}
use Rattle.image_read.proofs.RowLemmas.{row_is, read_as}
use Rattle.image_read.proofs.rows.OptionVcpuNameTold.told.Goals as goal

pub returns-clause-told : goal.returns-clause-told
returns-clause-told c = read_as resident_data (view c.args.value.now) c.end.result _ _ c.end.ensures.told (λ e. row_is (view c.args.value.now) _ (sym c.of-row.ensures ∙ c.word.ensures.told _ (c.word-2.ensures.told _ e)))

pub returns-clause-only : goal.returns-clause-only
returns-clause-only c shape x is = elim x as (λ x. IfSome x IsShortName → resident_data x ≡ view c.args.value.now → c.end.result ≡ Some x) [
  | None ↦ λ valid e. let null : c.is_null.result ≡ true = c.is_null.ensures ∙ ap (λ d. is_some (as_null d)) (sym e) in absurd (cc)
  | (Some name) ↦ λ valid e.
      let start = c.of-row.ensures ∙ ap list_of (sym e) in
      let p0 = c.word.ensures.only name.guest _ valid.0 start in
      let p1 = c.word-2.ensures.only name.vcpu _ valid.1 p0.1 in
      c.end.ensures.only p1.1 ∙ ap Some (ap Some (λ i. record { guest = p0.0 i; vcpu = p1.0 i }))
]
