use Rattle.std.specs.Prelude.{IfOk}
use Rattle.std.proofs.Common.{◌≡◌, subst}
use Rattle.gic_host.specs.GicReport.Rest.{text_saved}
use Rattle.gic_top.specs.Tool.{resume_text}
use Rattle.gic_top.proofs.save.resumed_text.Goals as goal

pub returns : goal.returns
unfolding resume_text
returns g c = subst (λ out. IfOk c.text_saved.result (λ text. text ≡ text_saved c.args.saved.now out)) c.in_ok-out.ensures c.text_saved.ensures
