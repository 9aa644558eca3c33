use Rattle.std.proofs.Common.{◌∙◌, sym, map}
use Rattle.serde_json.specs.View.{view}
use Rattle.image_read.proofs.RecLemmas.{told_record}
use Rattle.image_read.proofs.rec.RecStateTold.told.Goals as goal

pub returns-clause-told : goal.returns-clause-told
returns-clause-told c =
    told_record (view c.args.value.now) (view c.in-Some.name.now) c.in-Some-2.key (map view c.in-Some.numbers.now) c.record_told.result (sym c.in-Some.ensures.told ∙ c.list_of.ensures) (rw c.in-Some-2.is at c.in_ok-key.ensures.told)
    c.record_told.ensures.told
