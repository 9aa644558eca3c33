-- The scenario is a good one.
use Rattle.std.proofs.Common.{◌≡◌, ℕ, zero, suc, ◌+◌, ◌%◌, ◌<◌, ◌≤◌, lit<, lit≤, List, [], ◌∷◌, length, Bool, true, false, refl, sym, ap, subst, if◌then◌else◌, arith}
use Rattle.std.specs.Bool.{IsTrue}
use Rattle.std.specs.List.{range_with_len, All}
use native.Mathlib.Nat.{mod-lt}
use Rattle.std.proofs.lemmas.Bool.Decides.{nat_tests}
use Rattle.std.proofs.lemmas.List.Elements.{All-nil, All-cons, All-map, All-from_get_or}
use Rattle.std.proofs.lemmas.List.FromFn.{get_or-range_with_len, length-range_with_len}
use Rattle.scn_base.specs.GicGuest.declared.guest.GuestSpec.{GuestSpec}
use Rattle.scn_base.specs.declared.step.Step.{Step}
use Rattle.scn_base.specs.declared.step.Mode.TheVariants.{Schedule}
use Rattle.scn_base.specs.declared.standing.Standing.{Standing}
use Rattle.scn_base.specs.Standing.{is_resident, standing_after, opening_standing}
use Rattle.scn_base.specs.Good.{is_formed, stands, stand_in_turn, IsGood}
use Rattle.scn_base.specs.GicGuest.Good.{IsGoodPreset, IsGoodGuest}
use Rattle.gic_soak.specs.Draw.{draw}
use Rattle.gic_soak.specs.Generated.{shape, preset, guest, message, acknowledge, end_of_interrupt, deactivation, step, steps_from, generated}

-- what is drawn below a number is below it
draw_below : (m x : ℕ) → 0 < m → (draw m x).0 < m
unfolding draw
draw_below m x some = mod-lt _ some

-- ---- the guest

-- a number in a range passes where each from its first to its last does
each_in_range : (P : ℕ → Type 0) (first count : ℕ) → ((n : ℕ) → first ≤ n → n < first + count → P n) → All P (range_with_len first count)
each_in_range P first count each =
    All-from_get_or P (range_with_len first count) 0
    (λ k within.
    let below : k < count = omega (arith, length-range_with_len first count) in
    subst P (sym (get_or-range_with_len first count k 0 below)) (each (first + k) (omega arith) (omega arith)))

good_preset : (id : ℕ) → 32 ≤ id → id < 64 → IsGoodPreset shape (preset id)
good_preset id low high =
    let part : id % 16 < 16 = mod-lt id (lit< tt) in
    let target : id % 2 < 2 = mod-lt id (lit< tt) in
    record {
      there = grind (arith, nat_tests);
      addressed = grind (arith, nat_tests);
      prio = omega arith;
      prio_bits = omega arith;
      group = lit≤ tt;
      sgi_is_edge = refl;
    }

good_guest : IsGoodGuest guest
good_guest =
    record {
      shape =
          record {
            some_vcpu = lit≤ tt;
            vcpus = lit≤ tt;
            spis = lit≤ tt;
            spi_blocks = refl;
            espis = lit≤ tt;
            espi_blocks = refl;
            devices = lit≤ tt;
            lpis = lit≤ tt;
            ram = lit≤ tt;
            ram_words = refl;
          };
      presets = All-map (IsGoodPreset shape) preset (range_with_len 32 32) (each_in_range (λ id. IsGoodPreset shape (preset id)) 32 32 good_preset);
    }

-- ---- the steps

-- each vCPU stands on a PE
abbrev AreLoaded : Standing → Type 0
AreLoaded standing = (vcpu : ℕ) → vcpu < 2 → is_resident standing.pes 0 vcpu ≡ true

-- a step can be done, and changes neither where the vCPUs stand nor a wire
record IsFine (standing : Standing) (made : Step) : Type 0 where
  formed : IsTrue (is_formed Schedule 2 (shape ∷ []) made)
  stands_now : IsTrue (stands Schedule standing made)
  same : standing_after made standing ≡ standing

fine_message : (standing : Standing) (x : ℕ) → IsFine standing (message x).0
fine_message standing x =
    let below = draw_below 32 x (lit< tt) in
    record { formed = grind (arith, nat_tests); stands_now = refl; same = refl }

fine_acknowledge : (standing : Standing) (x : ℕ) → AreLoaded standing → IsFine standing (acknowledge x).0
fine_acknowledge standing x loaded =
    let below = draw_below 2 x (lit< tt) in
    record { formed = grind (arith, nat_tests); stands_now = loaded (draw 2 x).0 below; same = refl }

fine_end_of_interrupt : (standing : Standing) (x : ℕ) → AreLoaded standing → IsFine standing (end_of_interrupt x).0
fine_end_of_interrupt standing x loaded =
    let below = draw_below 2 x (lit< tt) in
    record { formed = grind (arith, nat_tests); stands_now = loaded (draw 2 x).0 below; same = refl }

fine_deactivation : (standing : Standing) (x : ℕ) → AreLoaded standing → IsFine standing (deactivation x).0
fine_deactivation standing x loaded = record { formed = refl; stands_now = loaded 0 (lit< tt); same = refl }

-- a step is one of four
one_of : (P : Step → Type 0) (a b c : Bool) (first second third fourth : Step × ℕ) → P first.0 → P second.0 → P third.0 → P fourth.0
    → P ((if a then first else (if b then second else (if c then third else fourth))).0)
one_of P true b c first second third fourth p q r s = p
one_of P false true c first second third fourth p q r s = q
one_of P false false true first second third fourth p q r s = r
one_of P false false false first second third fourth p q r s = s

fine_step : (standing : Standing) (x : ℕ) → AreLoaded standing → IsFine standing (step x).0
fine_step standing x loaded =
    let y = (draw 8 x).1 in
    one_of (IsFine standing) _ _ _ (message y) (acknowledge y) (end_of_interrupt y) (deactivation y) (fine_message standing y) (fine_acknowledge standing y loaded) (fine_end_of_interrupt standing y loaded)
    (fine_deactivation standing y loaded)

formed_steps : (standing : Standing) (count x : ℕ) → AreLoaded standing → All (λ made. IsTrue (is_formed Schedule 2 (shape ∷ []) made)) (steps_from count x)
formed_steps standing zero x loaded = All-nil (λ made. IsTrue (is_formed Schedule 2 (shape ∷ []) made))
formed_steps standing (suc count) x loaded =
    All-cons (λ made. IsTrue (is_formed Schedule 2 (shape ∷ []) made)) (step x).0 (steps_from count (step x).1) (fine_step standing x loaded).formed (formed_steps standing count (step x).1 loaded)

standing_steps : (standing : Standing) (count x : ℕ) → AreLoaded standing → stand_in_turn Schedule standing (steps_from count x) ≡ true
standing_steps standing zero x loaded = refl
standing_steps standing (suc count) x loaded =
    let fine = fine_step standing x loaded in
    rw (fine.stands_now, fine.same, standing_steps standing count (step x).1 loaded) refl

length_steps : (count x : ℕ) → length (steps_from count x) ≡ count
length_steps zero x = refl
length_steps (suc count) x = ap suc (length_steps count (step x).1)

-- at the opening each vCPU stands on a PE
loaded_at_opening : AreLoaded (opening_standing 2 (shape ∷ []))
loaded_at_opening vcpu below = grind (arith, nat_tests)

good : (number count : ℕ) → count ≤ 100000 → IsGood Schedule (generated number count)
good number count few =
    record {
      some_pe = lit≤ tt;
      pes = lit≤ tt;
      some_list_register = lit≤ tt;
      list_registers = lit≤ tt;
      some_guest = lit≤ tt;
      guests = lit≤ tt;
      each_guest = All-cons IsGoodGuest guest [] good_guest (All-nil IsGoodGuest);
      steps = subst (λ (n : ℕ). n ≤ 100000) (sym (length_steps count number)) few;
      each_step = formed_steps (opening_standing 2 (shape ∷ [])) count number loaded_at_opening;
      in_turn = standing_steps (opening_standing 2 (shape ∷ [])) count number loaded_at_opening;
    }

pub made_good : (number count : ℕ) (guests : List GuestSpec) (steps : List Step) → count ≤ 100000 → guests ≡ guest ∷ [] → steps ≡ steps_from count number
    → IsGood Schedule (record { pes = 2; lrs = 2; guests = guests; steps = steps })
made_good number count guests steps few one all =
    subst (λ (g : List GuestSpec). IsGood Schedule (record { pes = 2; lrs = 2; guests = g; steps = steps })) (sym one)
    (subst (λ (s : List Step). IsGood Schedule (record { pes = 2; lrs = 2; guests = guest ∷ []; steps = s })) (sym all) (good number count few))
