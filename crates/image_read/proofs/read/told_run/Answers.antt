use Rattle.std.proofs.Common.{◌≡◌, ◌∙◌, IsTrue, true, false, length, sym, ap, subst, rules}
use Rattle.std.proofs.lemmas.Option.{none-some, same_Some}
use Rattle.std.proofs.lemmas.List.{length-map}
use Rattle.serde_json.specs.View.{view}
use Rattle.gic_resume.specs.Reading.{of_no_shape, not_valid, steps_at}
use Rattle.image_read.specs.Tells.{without_steps}
use Rattle.image_read.specs.Read.{Refuses}
use Rattle.image_read.proofs.HeadLemmas.{told_head_of}
use Rattle.image_read.proofs.ReadLemmas.{valid_found}
use Rattle.image_read.proofs.read.told_run.Goals as goal

pub returns-then-not-is_image-clause-bad : goal.returns-then-not-is_image-clause-bad
returns-then-not-is_image-clause-bad c =
    let none : c.is_image.result ≡ false = search rules in
    subst (Refuses (view c.args.value.now)) (sym c.outside.ensures) (of_no_shape (sym c.is_image.ensures ∙ none))

pub returns-in_default-clause-bad : goal.returns-in_default-clause-bad
returns-in_default-clause-bad c =
    let d = view c.args.value.now in
    let shape : c.is_image.result ≡ true = search rules in
    subst (Refuses d) (sym c.outside-in_default.ensures)
    (not_valid (sym c.is_image.ensures ∙ shape) (λ saved head valid. none-some (without_steps saved) (sym c.in_default.is ∙ c.in_ok-saved.ensures.only (length (steps_at d)) saved valid (told_head_of d saved head))))

pub returns-then-not-is_valid-clause-bad : goal.returns-then-not-is_valid-clause-bad
returns-then-not-is_valid-clause-bad c =
    let d = view c.args.value.now in
    let shape : c.is_image.result ≡ true = search rules in
    let many = sym (length-map c.elements_at.result.now view) ∙ ap length c.elements_at.ensures in
    subst (Refuses d) (sym c.outside-then-not-is_valid.ensures)
    (not_valid (sym c.is_image.ensures ∙ shape)
    (λ saved head valid.
    let found = same_Some c.in-Some.saved (without_steps saved) (sym c.in-Some.is ∙ c.in_ok-saved.ensures.only (length (steps_at d)) saved valid (told_head_of d saved head)) in
    let is : IsTrue c.in-Ok.is_valid = c.in-Ok.ensures.1 (valid_found (length (steps_at d)) (length c.elements_at.result.now) c.in-Some.saved saved many found valid) in
    cc))

pub returns-then-not-is_valid-clause-only : goal.returns-then-not-is_valid-clause-only
returns-then-not-is_valid-clause-only c saved told =
    let d = view c.args.value.now in
    let many = sym (length-map c.elements_at.result.now view) ∙ ap length c.elements_at.ensures in
    let found = same_Some c.in-Some.saved (without_steps saved) (sym c.in-Some.is ∙ c.in_ok-saved.ensures.only (length (steps_at d)) saved told.valid (told_head_of d saved told.head)) in
    let is : IsTrue c.in-Ok.is_valid = c.in-Ok.ensures.1 (valid_found (length (steps_at d)) (length c.elements_at.result.now) c.in-Some.saved saved many found told.valid) in
    absurd (cc)

pub returns-clause-only : goal.returns-clause-only
returns-clause-only c saved told =
    let d = view c.args.value.now in
    same_Some c.in-Some.saved (without_steps saved) (sym c.in-Some.is ∙ c.in_ok-saved.ensures.only (length (steps_at d)) saved told.valid (told_head_of d saved told.head))
