use Rattle.serde_json.specs.View.{view}
use Rattle.vm_saved.proofs.RestoreLemmas.{err_restores, ok_restores}
use Rattle.vm_saved.proofs.restoring.restore.Goals as goal

pub returns-in-Err-told_in-clause-only : goal.returns-in-Err-told_in-clause-only
returns-in-Err-told_in-clause-only c =
    err_restores c.args.bytes.now (view c.in-Ok.value) c.guest.result.now c.args.machine.now.guest c.in-Err-told_in.refusal c.in-Ok.ensures.ok c.guest.ensures.value c.in-Err-told_in.ensures.only

pub returns-clause-only : goal.returns-clause-only
returns-clause-only c =
    ok_restores c.args.bytes.now (view c.in-Ok.value) c.guest.result.now c.args.machine.now c.put_back.new.self c.in-Ok-told_in.told.guest c.in-Ok-told_in.told.bases c.in-Ok.ensures.ok c.guest.ensures.value
    c.in-Ok-told_in.ensures.only c.put_back.ensures.machine
