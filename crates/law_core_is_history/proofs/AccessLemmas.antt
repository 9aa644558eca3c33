-- What an access finds at a CPU interface, and what it leaves there.
use Rattle.std.proofs.Common.{◌≡◌, ℕ, ◌<◌, is_some, List, [], ◌∷◌, map, get_or, All, Some, refl, sym, ap, ◌∙◌, arith}
use Rattle.std.proofs.lemmas.List.Elements.{All-head, All-tail, All-get_or, All-from_get_or}
use Rattle.std.proofs.lemmas.Simd.{map-map}
use Rattle.law_lines_translate.specs.Words.{GuestShape, irq_of}
use Rattle.law_lines_translate.specs.GicWord.declared.record.Group.{Group}
use Rattle.law_lines_translate.specs.Registers.{AtInterface}
use Rattle.law_lines_translate.specs.Histories.{irq_at, Ideal, standing_at, shown_at, standing_of}
use Rattle.law_lines_translate.specs.Core.{AtIrq, Irq as IrqWord, actor_count, shown, entry_for, CoreState, word_in, IsSound, IsAt}
use Rattle.law_lines_translate.proofs.PortCore.AccessLemmas.{no_irq}
use Rattle.law_lines_translate.proofs.CoreProper.OnceLemmas.{found_itself}
use Rattle.law_lines_translate.proofs.PortCore.StepTies.{number_is}
use Rattle.law_core_is_history.specs.Related.{IsHeldRelated, Related, locals_of, stands}

-- Two lists.

map_same : {X Y : Type 0} (f g : X → Y) (xs : List X) → All (λ x. f x ≡ g x) xs → map f xs ≡ map g xs
map_same f g [] all = refl
map_same f g (x ∷ xs) all = ap (λ y. y ∷ map f xs) (All-head (λ x. f x ≡ g x) x xs all) ∙ ap (λ ys. g x ∷ ys) (map_same f g xs (All-tail (λ x. f x ≡ g x) x xs all))

-- what a vCPU has at its interface, as the ideal controller has it
pub standing_shown : (at : List AtIrq) → map standing_of (map shown at) ≡ map stands at
standing_shown at = map-map standing_of shown at

-- In a state that agrees with the core's.

module _ {shape : GuestShape} {state : CoreState} {ideal : Ideal} (sound : IsSound shape state) (related : Related shape state ideal) (vcpu : ℕ) (there : vcpu < shape.vcpus) where
  among : vcpu < actor_count shape
  among = omega (arith, there)

  -- each interrupt at an interface is what its word says
  pub held_is : (entry : AtIrq) → IsAt shape vcpu entry → entry_for entry.key (locals_of state vcpu).at ≡ Some entry → IsHeldRelated vcpu entry (irq_of (word_in shape state (IrqWord entry.key))) (irq_at ideal.guest entry.key)
  held_is entry at e =
      let word = irq_of (word_in shape state (IrqWord entry.key)) in
      (related.words (IrqWord entry.key) at.there).held vcpu (number_is vcpu word.holder (sound.ties vcpu (IrqWord entry.key) among at.there ∙ ap is_some e)) entry e

  -- accesses see the same there
  pub shown_same : map (shown_at ideal) (standing_at ideal vcpu) ≡ map shown (locals_of state vcpu).at
  shown_same =
      let at = (locals_of state vcpu).at in
      let valid = sound.locals vcpu among in
      ap (map (shown_at ideal)) (related.seats vcpu there).at ∙ map-map (shown_at ideal) stands at
      ∙ map_same (λ entry. shown_at ideal (stands entry)) shown at
      (All-from_get_or (λ entry. shown_at ideal (stands entry) ≡ shown entry) at no_irq
      (λ i l. of (get_or at i no_irq) (held_is (get_or at i no_irq) (All-get_or (IsAt shape vcpu) at i no_irq l valid.at) (All-get_or (λ entry. entry_for entry.key at ≡ Some entry) at i no_irq l (found_itself at valid.once)))))
    where
      of : (entry : AtIrq) → IsHeldRelated vcpu entry (irq_of (word_in shape state (IrqWord entry.key))) (irq_at ideal.guest entry.key) → shown_at ideal (stands entry) ≡ shown entry
      of entry says =
          ap (λ (prio : ℕ). let one : AtInterface = record (shown_at ideal (stands entry)) { prio = prio } in one) (sym says.prio)
          ∙ ap (λ (group : Group). let one : AtInterface = record (shown entry) { group = group } in one) (sym says.group)
