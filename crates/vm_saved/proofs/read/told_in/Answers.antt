use Rattle.serde_json.specs.View.{view}
use Rattle.vm_saved.proofs.ReadLemmas.{told_only, refused_only}
use Rattle.vm_saved.proofs.read.told_in.Goals as goal

pub returns-in-Ok-guest_in-clause-only : goal.returns-in-Ok-guest_in-clause-only
returns-in-Ok-guest_in-clause-only c =
    told_only (view c.args.value.now) (view c.in-Some.image.now) c.args.shape.now c.in-Ok.found c.in-Ok-guest_in.guest c.in-Some-found.bases c.in-Some.ensures c.in-Ok.ensures c.in-Some-found.is
    c.in-Ok-guest_in.ensures.only

pub returns-in-Err-clause-only : goal.returns-in-Err-clause-only
returns-in-Err-clause-only c = refused_only (view c.args.value.now) (view c.in-Some.image.now) c.args.shape.now c.in-Err.refusal c.in-Some.ensures c.in-Err.ensures.only
