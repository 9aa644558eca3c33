use Rattle.std.proofs.Common.{◌≡◌, ◌∙◌, Some, sym, ap, arith}
use Rattle.std.proofs.lemmas.Option.{none-some, same_Some}
use Rattle.serde_json.specs.View.{view}
use Rattle.image_read.proofs.ListLemmas.{nth_of, grown_only, grown_told, whole_told, same_elements, whole_only}
use Rattle.image_read.proofs.told.list.Goals as goal

pub returns-in_default-2-clause-only : goal.returns-in_default-2-clause-only
returns-in_default-2-clause-only g c shape xs is all e =
    let can = g.T.Told.can_stand shape in
    let same = same_elements g.T.Told.written view can xs c.in-Some.values.now (view c.args.value.now) c.in-Some.ensures e in
    let there = nth_of g.T.Told.written view can xs c.in-Some.values.now c.loop-value.value-index c.value-item.result c.value-item.is all same (omega arith) in
    absurd (none-some there.element (sym c.in_default-2.is ∙ c.in_ok-element.ensures.only shape there.element is there.can there.same))

pub loop-value-preserved : goal.loop-value-preserved
loop-value-preserved g c =
    let written : g.T.Told.written c.in-Some-2.element ≡ view c.value-item.result = rw c.in-Some-2.is at c.in_ok-element.ensures.told in
    record {
      told = grown_told g.T.Told.written view (λ x. Unit {0}) c.loop-value.list c.push.new.self c.in-Some.values.now c.loop-value.value-index c.value-item.result c.in-Some-2.element c.loop-value.invariant.told (written ∙ ap view c.value-item.is) c.in_ok-push.ensures.ok (omega arith);
      only = λ shape xs is all e.
          let can = g.T.Told.can_stand shape in
          let there = nth_of g.T.Told.written view can xs c.in-Some.values.now c.loop-value.value-index c.value-item.result c.value-item.is all e (omega arith) in
          let found = c.in_ok-element.ensures.only shape there.element is there.can there.same in
          grown_only g.T.Told.written view can c.loop-value.list c.push.new.self xs c.loop-value.value-index c.value-item.result c.in-Some-2.element there (c.loop-value.invariant.only shape xs is all e) (same_Some c.in-Some-2.element there.element (sym c.in-Some-2.is ∙ found)) c.in_ok-push.ensures.ok;
    }

pub returns-clause-told : goal.returns-clause-told
returns-clause-told g c = whole_told g.T.Told.written view (λ x. Unit {0}) c.loop-value.list c.in-Some.values.now c.loop-value.value-index (view c.args.value.now) c.in-Some.ensures c.loop-value.invariant.told (omega arith)

pub returns-clause-only : goal.returns-clause-only
returns-clause-only g c shape xs is all e =
    let same = same_elements g.T.Told.written view (g.T.Told.can_stand shape) xs c.in-Some.values.now (view c.args.value.now) c.in-Some.ensures e in
    ap Some (whole_only g.T.Told.written view (g.T.Told.can_stand shape) c.loop-value.list xs c.in-Some.values.now c.loop-value.value-index (c.loop-value.invariant.only shape xs is all same) same (omega arith))
