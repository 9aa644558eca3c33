-- What the parts of a command make of an LPI that is for no vCPU, or is to be.
use Rattle.std.proofs.Common.{◌≡◌, ℕ, ◌==◌, ◌⊎◌, inl, inr, ◌||◌, not, Bool, true, false, cond, IsTrue, List, [], ◌∷◌, map, Option, Some, None, refl, ap, ◌∙◌, slice_index_or}
use Rattle.std.specs.List.{list_all, list_any}
use Rattle.std.proofs.lemmas.Bool.{and_parts}
use Rattle.law_lone_calls_are_eager.specs.Words.{Key, Lpi, ClearPending, GuestShape, has_interrupt, is_same_key, place_of, Irq, raised, target_in}
use Rattle.law_lone_calls_are_eager.specs.Registers.{is_enabled, priority_of}
use Rattle.law_lone_calls_are_eager.specs.Calls.{opening_irq, Part, Map, Clear, Register, MapLpi, config_byte, lpi_event, touched, View}
use Rattle.law_lone_calls_are_eager.specs.GicCall.declared.command.Part.TheVariants.{Forget, Retarget, Raise, Configure}
use Rattle.law_lone_calls_are_eager.specs.GicCall.declared.touch.Touching.TheVariants.{Retarget as RetargetLpi, Configure as ConfigureLpi, Forget as ForgetLpi}
use Rattle.law_lone_calls_are_eager.specs.Histories.{IdealGuest, irq_at, changed_irq, after_event, after_events}
use Rattle.law_lone_calls_are_eager.proofs.IdealGuests.KeyLemmas.{IsWhole, irq_changed}
use Rattle.law_lone_calls_are_eager.proofs.MomentLemmas.{target_at, guest_whole}

-- a part gives the LPI no vCPU
abbrev pub leaves_none : ℕ → Part → Bool
leaves_none id (Map i target) = not (id == i)
leaves_none id (Retarget i (Some target)) = not (id == i)
leaves_none id part = true

-- a part takes its vCPU from it
abbrev pub gives_none : ℕ → Part → Bool
gives_none id (Forget i) = id == i
gives_none id (Retarget i None) = id == i
gives_none id part = false

pub clash : (b : Bool) → b ≡ true → b ≡ false → ⊥
clash true t f = absurd (cc)
clash false t f = absurd (cc)

not_clash : (b : Bool) → not b ≡ true → b ≡ true → ⊥
not_clash true n t = absurd (cc)
not_clash false n t = absurd (cc)

-- an LPI that the guest does not have is for none
absent : (guest : IdealGuest) (id : ℕ) → has_interrupt guest.shape (Lpi id) ≡ false → target_at guest id ≡ None
absent guest id e = ap (λ b. target_in (cond b (slice_index_or guest.irqs (place_of guest.shape (Lpi id)) (opening_irq false (Lpi id))) (opening_irq false (Lpi id))).route guest.shape) e

-- after a change of the record of an interrupt
pub changed_none : (guest : IdealGuest) (id : ℕ) (key : Key) (change : Irq → Irq) → IsWhole guest → (is_same_key (Lpi id) key ≡ true → target_in (change (irq_at guest (Lpi id))).route guest.shape ≡ None) → (is_same_key (Lpi id) key ≡ false → target_at guest id ≡ None)
    → target_at (changed_irq key change guest) id ≡ None
changed_none guest id key change whole own other = by_there (has_interrupt guest.shape (Lpi id)) refl
  where
    by_key : (b : Bool) → is_same_key (Lpi id) key ≡ b → (irq : Irq) → irq ≡ cond b (change (irq_at guest (Lpi id))) (irq_at guest (Lpi id)) → target_in irq.route guest.shape ≡ None
    by_key true e irq is = ap (λ (x : Irq). target_in x.route guest.shape) is ∙ own e
    by_key false e irq is = ap (λ (x : Irq). target_in x.route guest.shape) is ∙ other e

    by_there : (c : Bool) → has_interrupt guest.shape (Lpi id) ≡ c → target_at (changed_irq key change guest) id ≡ None
    by_there true there = by_key (is_same_key (Lpi id) key) refl (irq_at (changed_irq key change guest) (Lpi id)) (irq_changed guest key (Lpi id) change whole there)
    by_there false there = absent (changed_irq key change guest) id there

module _ (id : ℕ) (shape : GuestShape) (view : View) (targets : ℕ → Option ℕ) where
  part_none : (part : Part) (guest : IdealGuest) → IsWhole guest → leaves_none id part ≡ true → (target_at guest id ≡ None) ⊎ (gives_none id part ≡ true) → target_at (after_event guest (lpi_event shape view targets part)) id ≡ None
  part_none (Forget i) guest whole leaves now = changed_none guest id (Lpi i) (touched guest.shape (Lpi i) ForgetLpi) whole (λ same. refl) (other now)
    where
      other : (target_at guest id ≡ None) ⊎ ((id == i) ≡ true) → (id == i) ≡ false → target_at guest id ≡ None
      other (inl none) differ = none
      other (inr same) differ = absurd (clash (id == i) same differ)
  part_none (Retarget i None) guest whole leaves now = changed_none guest id (Lpi i) (touched guest.shape (Lpi i) (RetargetLpi None)) whole (λ same. refl) (other now)
    where
      other : (target_at guest id ≡ None) ⊎ ((id == i) ≡ true) → (id == i) ≡ false → target_at guest id ≡ None
      other (inl none) differ = none
      other (inr same) differ = absurd (clash (id == i) same differ)
  part_none (Retarget i (Some target)) guest whole leaves (inl none) = changed_none guest id (Lpi i) (touched guest.shape (Lpi i) (RetargetLpi (Some target))) whole (λ same. absurd (not_clash (id == i) leaves same)) (λ differ. none)
  part_none (Map i target) guest whole leaves (inl none) =
      let byte = config_byte shape view (Some target) i in
      changed_none guest id (Lpi i) (touched guest.shape (Lpi i) (MapLpi target (is_enabled byte) (priority_of byte))) whole (λ same. absurd (not_clash (id == i) leaves same)) (λ differ. none)
  part_none (Raise i) guest whole leaves (inl none) = changed_none guest id (Lpi i) raised whole (λ same. none) (λ differ. none)
  part_none (Clear i) guest whole leaves (inl none) = changed_none guest id (Lpi i) (touched guest.shape (Lpi i) (Register ClearPending 1)) whole (λ same. none) (λ differ. none)
  part_none (Configure i) guest whole leaves (inl none) =
      let byte = config_byte shape view (targets i) i in
      changed_none guest id (Lpi i) (touched guest.shape (Lpi i) (ConfigureLpi (is_enabled byte) (priority_of byte))) whole (λ same. none) (λ differ. none)
  part_none part guest whole leaves (inr gives) = absurd (cc)

  -- after parts none of which gives it one, where it had none or one takes it
  pub parts_none : (parts : List Part) (guest : IdealGuest) → IsWhole guest → IsTrue (list_all (leaves_none id) parts) → (target_at guest id ≡ None) ⊎ (list_any (gives_none id) parts ≡ true)
      → target_at (after_events (map (lpi_event shape view targets) parts) guest) id ≡ None
  parts_none [] guest whole all (inl none) = none
  parts_none [] guest whole all (inr some) = absurd (cc)
  parts_none (part ∷ parts) guest whole all now =
      let both = and_parts (leaves_none id part) (list_all (leaves_none id) parts) all in
      parts_none parts (after_event guest (lpi_event shape view targets part)) (guest_whole (lpi_event shape view targets part) guest whole) both.1 (of both.0 (gives_none id part) refl now)
    where
      of : leaves_none id part ≡ true → (b : Bool) → gives_none id part ≡ b → (target_at guest id ≡ None) ⊎ ((b || list_any (gives_none id) parts) ≡ true)
          → (target_at (after_event guest (lpi_event shape view targets part)) id ≡ None) ⊎ (list_any (gives_none id) parts ≡ true)
      of leaves b e (inl none) = inl (part_none part guest whole leaves (inl none))
      of leaves true e (inr some) = inl (part_none part guest whole leaves (inr e))
      of leaves false e (inr some) = inr some
