-- With nothing at an interface, nothing is to be taken back, and nobody holds an interrupt.
use Rattle.std.proofs.Common.{◌≡◌, ℕ, ◌+◌, ◌<◌, ◌≤◌, zero, suc, true, false, IsTrue, List, [], map, fold, Option, Some, None, arith, refl, ap, ◌∙◌}
use Rattle.std.specs.List.{range_with_len}
use Rattle.port_ops.specs.Words.{Key, GuestShape, has_interrupt, is_number, is_vcpu_or_none, irq_of}
use Rattle.port_ops.proofs.GicFrame.TestLemmas.{under}
use Rattle.law_core_is_history.specs.Histories.{after_leave, emptied, home, Ideal, Standing, standing_at, irq_at}
use Rattle.law_core_is_history.specs.Core.{Irq, is_at, CoreState, IsSound, word_in}
use Rattle.port_ops.proofs.PortCore.StepTies.{number_self}
use Rattle.law_core_is_history.specs.Related.{Related, bare, stands}
use Rattle.law_ends_agree.specs.End.{AreEmpty}

-- Nothing leaves where nothing stands.

stays : (state : Ideal) (a n : ℕ) → ((vcpu : ℕ) → a ≤ vcpu → vcpu < a + n → standing_at state vcpu ≡ []) → fold emptied state (range_with_len a n) ≡ state
stays state a zero none = refl
stays state a (suc n) none =
    let here : emptied state a ≡ state = ap (λ (xs : List Standing). fold (λ now standing. after_leave standing.key a now) state xs) (none a (omega arith) (omega arith)) in
    ap (λ s. fold emptied s (range_with_len (a + 1) n)) here ∙ stays state (a + 1) n (λ vcpu low high. none vcpu (omega (arith, low)) (omega (arith, high)))

pub home_empty : (state : Ideal) → ((vcpu : ℕ) → vcpu < state.guest.shape.vcpus → standing_at state vcpu ≡ []) → home state ≡ state.guest
home_empty state none = ap (λ (s : Ideal). s.guest) (stays state 0 state.guest.shape.vcpus (λ vcpu low high. none vcpu (omega (arith, high))))

module _ (shape : GuestShape) (state : CoreState) (ideal : Ideal) (sound : IsSound shape state) (related : Related shape state ideal) (empty : AreEmpty shape state) where
  none_stands : (vcpu : ℕ) → vcpu < shape.vcpus → standing_at ideal vcpu ≡ []
  none_stands vcpu there = (related.seats vcpu there).at ∙ ap (map stands) (empty vcpu there)

  pub home_is : home ideal ≡ ideal.guest
  home_is = home_empty ideal (λ vcpu there. none_stands vcpu (let same : ideal.guest.shape.vcpus ≡ shape.vcpus = ap (λ (s : GuestShape). s.vcpus) related.shape_is in omega (arith, there, same)))

  -- no vCPU holds an interrupt
  unheld : (key : Key) → IsTrue (has_interrupt shape key) → (irq_of (word_in shape state (Irq key))).holder ≡ None
  unheld key there = of (irq_of (word_in shape state (Irq key))).holder refl (sound.words (Irq key) there).irq.holder
    where
      of : (o : Option ℕ) → (irq_of (word_in shape state (Irq key))).holder ≡ o → IsTrue (is_vcpu_or_none shape o) → o ≡ None
      of None e h = refl
      of (Some vcpu) e h =
          let few : vcpu < shape.vcpus = under vcpu shape.vcpus h in
          let held : is_number vcpu (irq_of (word_in shape state (Irq key))).holder ≡ true = ap (is_number vcpu) e ∙ number_self vcpu in
          let away : is_number vcpu (irq_of (word_in shape state (Irq key))).holder ≡ false = sound.ties vcpu (Irq key) (omega (arith, few)) there ∙ ap (is_at key) (empty vcpu few) in
          absurd (cc)

  -- so its word says its record
  pub record_is : (key : Key) → IsTrue (has_interrupt shape key) → bare (irq_of (word_in shape state (Irq key))) ≡ irq_at ideal.guest key
  record_is key there = (related.words (Irq key) there).home (unheld key there)
