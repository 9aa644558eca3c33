use Rattle.std.proofs.Common.{◌≡◌, ℕ, List, ◌++◌, length, sym, subst, ap, ◌∙◌}
use Rattle.serde_json.specs.Written.{compact_text}
use Rattle.gic_host.specs.GicReport.Text.{newline}
use Rattle.image_read.specs.GicResume.GicSave.ScnSaved.declared.saved.Saved.{Saved}
use Rattle.image_read.specs.GicResume.GicSave.Image.{image_of}
use Rattle.run_saved.proofs.CountLemmas.{saved_each}
use Rattle.gic_top.specs.Tool.{save_text}
use Rattle.gic_top.proofs.save.saved_line.Goals as goal

pub image-requires : goal.image-requires
image-requires g c = subst (λ (saved : Saved). length saved.state ≡ length saved.scenario.guests) (sym c.in_ok-saved.ensures) (saved_each c.args.scenario.now c.args.steps)

pub returns : goal.returns
unfolding save_text
returns g c = c.in_ok-push.ensures.ok ∙ ap (λ (bytes : List ℕ). bytes ++ newline) (c.in_ok-line.ensures.text ∙ ap (λ (saved : Saved). compact_text (image_of saved)) c.in_ok-saved.ensures)
