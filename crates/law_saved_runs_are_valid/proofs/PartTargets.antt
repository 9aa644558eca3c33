-- Whether an LPI is for a vCPU after the parts of a command.
use Rattle.std.proofs.Common.{◌≡◌, ℕ, ◌==◌, ◌⊎◌, inl, inr, Bool, true, false, cond, IsTrue, is_some, List, [], ◌∷◌, ◌++◌, map, Option, Some, None, refl, sym, ap, ◌∙◌}
use Rattle.std.proofs.lemmas.Bool.{eq-eqb}
use Rattle.law_unmapped_lpis.specs.Words.{Lpi, ClearPending, GuestShape, has_interrupt, Irq, raised, target_in}
use Rattle.law_unmapped_lpis.specs.Registers.{is_enabled, priority_of}
use Rattle.law_unmapped_lpis.specs.Calls.{Part, Map, Clear, Register, MapLpi, config_byte, lpi_event, each, for_one, touched, View}
use Rattle.law_unmapped_lpis.specs.GicCall.declared.command.Part.TheVariants.{Forget, Retarget, Raise, Configure}
use Rattle.law_unmapped_lpis.specs.GicCall.declared.touch.Touching.TheVariants.{Retarget as RetargetLpi, Configure as ConfigureLpi, Forget as ForgetLpi}
use Rattle.law_unmapped_lpis.specs.Histories.{IdealGuest, irq_at, changed_irq, after_event, after_events}
use Rattle.law_unmapped_lpis.proofs.IdealGuests.KeyLemmas.{IsWhole, irq_changed}
use Rattle.law_unmapped_lpis.proofs.LawLoneCallsAreEager.MomentLemmas.{target_at, guest_whole}
use Rattle.law_unmapped_lpis.proofs.LawLoneCallsAreEager.NamedLemmas.{IsIn}

-- whether an LPI is for a vCPU after a part, and after some
abbrev pub after_part : ℕ → Part → Bool → Bool
after_part id (Forget i) b = cond (id == i) false b
after_part id (Map i target) b = cond (id == i) true b
after_part id (Retarget i None) b = cond (id == i) false b
after_part id (Retarget i (Some target)) b = cond (id == i) true b
after_part id part b = b

unfoldable pub after_parts : ℕ → List Part → Bool → Bool
after_parts id [] b = b
after_parts id (part ∷ parts) b = after_parts id parts (after_part id part b)

cond_same : (b : Bool) (x : Bool) → x ≡ cond b x x
cond_same true x = refl
cond_same false x = refl

module _ (id : ℕ) (shape : GuestShape) (view : View) (targets : ℕ → Option ℕ) where
  -- after a change of the record of an LPI
  changed_some : (guest : IdealGuest) (i : ℕ) (change : Irq → Irq) (next : Bool) → IsWhole guest → IsTrue (has_interrupt guest.shape (Lpi id)) → ((irq : Irq) → irq ≡ irq_at guest (Lpi id) → is_some (target_in (change irq).route guest.shape) ≡ next)
      → is_some (target_at (changed_irq (Lpi i) change guest) id) ≡ cond (id == i) next (is_some (target_at guest id))
  changed_some guest i change next whole there new =
      ap (λ (irq : Irq). is_some (target_in irq.route guest.shape)) (irq_changed guest (Lpi i) (Lpi id) change whole there) ∙ of (id == i)
    where
      of : (b : Bool) → is_some (target_in (cond b (change (irq_at guest (Lpi id))) (irq_at guest (Lpi id))).route guest.shape) ≡ cond b next (is_some (target_at guest id))
      of true = new (irq_at guest (Lpi id)) refl
      of false = refl

  part_some : (part : Part) (guest : IdealGuest) → IsWhole guest → IsTrue (has_interrupt guest.shape (Lpi id)) → is_some (target_at (after_event guest (lpi_event shape view targets part)) id) ≡ after_part id part (is_some (target_at guest id))
  part_some (Forget i) guest whole there = changed_some guest i (touched guest.shape (Lpi i) ForgetLpi) false whole there (λ irq e. refl)
  part_some (Map i target) guest whole there =
      let byte = config_byte shape view (Some target) i in changed_some guest i (touched guest.shape (Lpi i) (MapLpi target (is_enabled byte) (priority_of byte))) true whole there (λ irq e. refl)
  part_some (Retarget i None) guest whole there = changed_some guest i (touched guest.shape (Lpi i) (RetargetLpi None)) false whole there (λ irq e. refl)
  part_some (Retarget i (Some target)) guest whole there = changed_some guest i (touched guest.shape (Lpi i) (RetargetLpi (Some target))) true whole there (λ irq e. refl)
  part_some (Raise i) guest whole there = changed_some guest i raised (is_some (target_at guest id)) whole there (λ irq e. ap (λ (x : Irq). is_some (target_in x.route guest.shape)) e) ∙ sym (cond_same (id == i) (is_some (target_at guest id)))
  part_some (Clear i) guest whole there =
      changed_some guest i (touched guest.shape (Lpi i) (Register ClearPending 1)) (is_some (target_at guest id)) whole there (λ irq e. ap (λ (x : Irq). is_some (target_in x.route guest.shape)) e) ∙ sym (cond_same (id == i) (is_some (target_at guest id)))
  part_some (Configure i) guest whole there =
      let byte = config_byte shape view (targets i) i in
      changed_some guest i (touched guest.shape (Lpi i) (ConfigureLpi (is_enabled byte) (priority_of byte))) (is_some (target_at guest id)) whole there (λ irq e. ap (λ (x : Irq). is_some (target_in x.route guest.shape)) e)
      ∙ sym (cond_same (id == i) (is_some (target_at guest id)))

  part_shape : (part : Part) (guest : IdealGuest) → (after_event guest (lpi_event shape view targets part)).shape ≡ guest.shape
  part_shape (Forget i) guest = refl
  part_shape (Map i target) guest = refl
  part_shape (Retarget i target) guest = refl
  part_shape (Raise i) guest = refl
  part_shape (Clear i) guest = refl
  part_shape (Configure i) guest = refl

  pub parts_some : (parts : List Part) (guest : IdealGuest) → IsWhole guest → IsTrue (has_interrupt guest.shape (Lpi id))
      → is_some (target_at (after_events (map (lpi_event shape view targets) parts) guest) id) ≡ after_parts id parts (is_some (target_at guest id))
  unfolding after_parts
  parts_some [] guest whole there = refl
  parts_some (part ∷ parts) guest whole there =
      parts_some parts (after_event guest (lpi_event shape view targets part)) (guest_whole (lpi_event shape view targets part) guest whole) (ap (λ s. has_interrupt s (Lpi id)) (part_shape part guest) ∙ there)
      ∙ ap (after_parts id parts) (part_some part guest whole there)

-- ---- lists of parts

module _ (id : ℕ) where
  pub after_append : (first later : List Part) (b : Bool) → after_parts id (first ++ later) b ≡ after_parts id later (after_parts id first b)
  unfolding after_parts
  after_append [] later b = refl
  after_append (part ∷ first) later b = after_append first later (after_part id part b)

  -- parts of other LPIs, or that leave whom an LPI is for
  pub each_keep : (ids : List ℕ) (part : ℕ → Part) (b : Bool) → ((i : ℕ) → IsIn ids i → after_part id (part i) b ≡ b) → after_parts id (each ids part) b ≡ b
  unfolding after_parts
  each_keep [] part b keeps = refl
  each_keep (i ∷ ids) part b keeps = ap (after_parts id (each ids part)) (keeps i (inl refl)) ∙ each_keep ids part b (λ j is. keeps j (inr is))

  pub one_keeps : (found : Option ℕ) (part : ℕ → Part) (b : Bool) → ((i : ℕ) → found ≡ Some i → after_part id (part i) b ≡ b) → after_parts id (for_one found part) b ≡ b
  unfolding after_parts
  one_keeps None part b keeps = refl
  one_keeps (Some i) part b keeps = keeps i refl

  -- parts that give each a vCPU
  gives : (b c : Bool) → c ≡ true → cond b true c ≡ true
  gives true c h = refl
  gives false c h = h

  pub each_gives : (ids : List ℕ) (vcpu : ℕ) (b : Bool) → (b ≡ true) ⊎ IsIn ids id → after_parts id (each ids (λ i. Retarget i (Some vcpu))) b ≡ true
  unfolding after_parts
  each_gives [] vcpu b (inl h) = h
  each_gives [] vcpu b (inr is) = absurd is
  each_gives (i ∷ ids) vcpu b (inl h) = each_gives ids vcpu (cond (id == i) true b) (inl (gives (id == i) b h))
  each_gives (i ∷ ids) vcpu b (inr (inl same)) = each_gives ids vcpu (cond (id == i) true b) (inl (ap (λ t. cond t true b) (eq-eqb id i (sym same))))
  each_gives (i ∷ ids) vcpu b (inr (inr later)) = each_gives ids vcpu (cond (id == i) true b) (inr later)
