use Rattle.std.proofs.Common.{◌≡◌, ◌∙◌, ℕ, IsTrue, List, [], ◌∷◌, append_assoc, decimal, Some, refl, sym, ap}
use Rattle.std.proofs.lemmas.Option.{none-some}
use Rattle.gic_resume.specs.GicSave.ScnSaved.Name.{name_text}
use Rattle.saved_check.specs.SavedGuest.IdealGuests.Words.{Private, Spi, Lpi, has_interrupt}
use Rattle.image_read.proofs.RecLemmas.{owner_plain, small_private, small_spi, small_lpi, plain_text}
use Rattle.image_read.proofs.rec.named.Goals as goal

pub returns-in-Some : goal.returns-in-Some
returns-in-Some c shape key is = elim key as (λ key. IsTrue (has_interrupt shape key) → c.args.text.now ≡ name_text key → c.private.result ≡ Some key) [
  | Private vcpu id ↦ λ there e.
      let small = small_private shape vcpu id is there in
      let parts = c.in-Some.ensures.some (118 ∷ decimal vcpu) (decimal id) (e ∙ ap (λ (l : List ℕ). 118 ∷ l) (append_assoc (decimal vcpu) (58 ∷ []) (decimal id))) (owner_plain vcpu small.0) in
      c.private.ensures vcpu id small.0 small.1 parts.0 parts.1
  | Spi id ↦ λ there e. absurd (none-some _ (sym (c.in-Some.ensures.none (plain_text c.args.text.now id (small_spi shape id is there) e))))
  | Lpi id ↦ λ there e. absurd (none-some _ (sym (c.in-Some.ensures.none (plain_text c.args.text.now id (small_lpi shape id is there) e))))
]

pub returns-in-None : goal.returns-in-None
returns-in-None c shape key is = elim key as (λ key. IsTrue (has_interrupt shape key) → c.args.text.now ≡ name_text key → c.shared.result ≡ Some key) [
  | Private vcpu id ↦ λ there e. absurd (c.in-None.ensures.some (118 ∷ decimal vcpu) (decimal id) (e ∙ ap (λ (l : List ℕ). 118 ∷ l) (append_assoc (decimal vcpu) (58 ∷ []) (decimal id))) (owner_plain vcpu (small_private shape vcpu id is there).0))
  | Spi id ↦ λ there e. c.shared.ensures shape (Spi id) is there refl e
  | Lpi id ↦ λ there e. c.shared.ensures shape (Lpi id) is there refl e
]
