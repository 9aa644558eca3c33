-- The records that a valid state tells are ones that their interrupts can have.
use Rattle.std.proofs.Common.{◌≡◌, ℕ, suc, ◌<◌, ◌^◌, ◌==◌, ◌&&◌, ◌||◌, Bool, true, false, not, is_none, if◌then◌else◌, inl, inr, IsTrue, Option, Some, None, List, [], ◌∷◌, All, length, fold, refl, sym, ap, subst, ◌∙◌, arith}
use Rattle.std.proofs.lemmas.Grind.{common_steps}
use Rattle.std.proofs.lemmas.Bool.Decides.{eqb_tells}
use Rattle.ideal_guest.specs.Words.{GuestShape, Key, Private, Spi, Lpi, IsShape, has_interrupt, interrupt_count, place_of, Irq, IsSeat, IsRoute, is_vcpu_or_none, is_routed_as, is_group_1, is_of_kind}
use Rattle.ideal_guest.specs.Calls.{GuestSpec, IsGoodGuest, group_of, has_wire, irq_in, irqs_of}
use Rattle.ideal_guest.specs.CanOpen.{is_own}
use Rattle.ideal_guest.specs.Sound.{IsIdealRecord}
use Rattle.ideal_guest.proofs.GicOpen.KeyLemmas.{place_same, irq_same, irq_other, length-with_irq_in}
use Rattle.ideal_guest.proofs.GicOpen.OpeningLemmas.{openings_valid}
use Rattle.scn_saved.specs.declared.state.RecState.{RecState}
use Rattle.saved_guest.specs.State.{route_of, record_of, with_rec, irqs_with}
use Rattle.saved_guest.specs.Valid.{is_of_its_kind, is_route, is_unwired, IsValidRec}

-- a vCPU of the guest is one that a guest can have
seat : (shape : GuestShape) (vcpu : Option ℕ) → IsShape shape → IsTrue (is_vcpu_or_none shape vcpu) → IsSeat vcpu
seat shape None is h = tt
seat shape (Some vcpu) is h = let few : vcpu < 32 = grind (arith, common_steps, is.vcpus) in few

-- the route fits, and is of the interrupt's kind
route_fits : (shape : GuestShape) (key : Key) (route : Option ℕ) → IsShape shape → IsTrue (has_interrupt shape key) → IsTrue (is_route shape key route) → IsRoute (route_of key route)
route_fits shape (Private vcpu id) route is there h = let few : vcpu < 32 = grind (arith, common_steps, is.vcpus) in few
route_fits shape (Spi id) None is there h = absurd (cc)
route_fits shape (Spi id) (Some affinity) is there h = let few : affinity < 2 ^ 32 = grind (arith, common_steps) in few
route_fits shape (Lpi id) route is there h = seat shape route is h

eqb_same : (n : ℕ) → IsTrue (n == n)
eqb_same n = grind (arith, common_steps)

routed : (shape : GuestShape) (key : Key) (route : Option ℕ) → IsTrue (is_route shape key route) → IsTrue (is_routed_as shape key (route_of key route))
routed shape (Private vcpu id) route h = eqb_same vcpu
routed shape (Spi id) route h = refl
routed shape (Lpi id) route h = h

-- a number that is 1 is the second group's
second_group : (n : ℕ) → IsTrue (n == 1) → IsTrue (is_group_1 (group_of n))
second_group n h = of (n == 0) (grind (arith, common_steps))
  where
    of : (b : Bool) → b ≡ false → IsTrue (is_group_1 (if b then group_of 0 else group_of 1))
    of true e = absurd (cc)
    of false e = refl

lpi_kind : (edge group none : Bool) (kind : Bool) → (IsTrue group → IsTrue kind) → IsTrue (edge && group && none) → IsTrue (edge && kind && none)
lpi_kind true true true kind f h = rw (f refl) refl
lpi_kind true true false kind f h = absurd (cc)
lpi_kind true false none kind f h = absurd (cc)
lpi_kind false group none kind f h = absurd (cc)

kind_is : (rec : RecState) (key : Key) → IsTrue (is_of_its_kind rec key) → IsTrue (is_of_kind key (record_of rec))
kind_is rec (Private vcpu id) h = h
kind_is rec (Spi id) h = refl
kind_is rec (Lpi id) h = lpi_kind rec.edge (rec.group == 1) (is_none rec.act) (is_group_1 (group_of rec.group)) (second_group rec.group) h

-- what has no wire did not rise
unrisen : (wired line rise none : Bool) → IsTrue (wired || (not line && not rise && none)) → IsTrue (wired || not rise)
unrisen true line rise none h = refl
unrisen false line false none h = refl
unrisen false true true none h = absurd (cc)
unrisen false false true none h = absurd (cc)

rec_ideal : (shape : GuestShape) (rec : RecState) → IsShape shape → IsValidRec shape rec → IsIdealRecord shape rec.key (record_of rec)
rec_ideal shape rec is valid =
    record {
      valid =
          record {
            packable =
                record {
                  prio = valid.prio_bits;
                  prio_bits = omega (arith, valid.prio);
                  active = seat shape rec.act is valid.active;
                  holder = tt;
                  route = route_fits shape rec.key rec.route is valid.there valid.route;
                };
            route = routed shape rec.key rec.route valid.route;
            kind = kind_is rec rec.key valid.kind;
            active = valid.active;
            holder = refl;
          };
      home = record { unheld = refl; unwanted = refl };
      unrisen = unrisen (has_wire rec.key) rec.line rec.rise (is_none rec.mover) valid.wire;
    }

-- a record for each interrupt, each of them one that its interrupt can have, and active by its own vCPU if it is private
pub record AreRecords (shape : GuestShape) (irqs : List Irq) : Type 0 where
  pub each : length irqs ≡ interrupt_count shape
  pub ideal : (key : Key) → IsTrue (has_interrupt shape key) → IsIdealRecord shape key (irq_in shape irqs key)
  pub own : (key : Key) → IsTrue (has_interrupt shape key) → IsTrue (is_own key (irq_in shape irqs key).act_by)

-- nothing rose is right, whatever has a wire
still : (wired rise : Bool) → rise ≡ false → IsTrue (wired || not rise)
still true rise e = refl
still false rise e = rw e refl

open_records : (guest : GuestSpec) → IsGoodGuest guest → AreRecords guest.shape (irqs_of guest)
open_records guest good =
    let are = openings_valid guest good in
    record {
      each = are.each;
      ideal = λ key there.
          let valid = are.valid key there in
          record { valid = valid.record_of; home = valid.home; unrisen = still (has_wire key) (irq_in guest.shape (irqs_of guest) key).rise valid.no_rise };
      own = λ key there. ap (is_own key) (are.valid key there).inactive;
    }

-- the records after one more is told
rec_records : (shape : GuestShape) (irqs : List Irq) (rec : RecState) → IsShape shape → IsValidRec shape rec → AreRecords shape irqs → AreRecords shape (with_rec shape irqs rec)
rec_records shape irqs rec is valid are =
    record {
      each = length-with_irq_in shape rec.key (record_of rec) irqs ∙ are.each;
      ideal = λ key there. at (λ k irq. IsIdealRecord shape k irq) key there (rec_ideal shape rec is valid) (are.ideal key there);
      own = λ key there. at (λ k irq. IsTrue (is_own k irq.act_by)) key there valid.own (are.own key there);
    }
  where
    -- what holds of the record that is told and of each that was there holds of each
    at : (P : Key → Irq → Type 0) (key : Key) → IsTrue (has_interrupt shape key) → P rec.key (record_of rec) → P key (irq_in shape irqs key) → P key (irq_in shape (with_rec shape irqs rec) key)
    at P key there told was =
        elim (eqb_tells (place_of shape rec.key) (place_of shape key)) [
          | inl same ↦
              subst (λ k. P k (irq_in shape (with_rec shape irqs rec) k)) (place_same shape rec.key key is valid.there there same.1)
              (subst (P rec.key) (sym (irq_same shape rec.key (record_of rec) irqs is are.each valid.there)) told)
          | inr differ ↦ subst (P key) (sym (irq_other shape rec.key key (record_of rec) irqs is (λ e. differ.1 (ap (place_of shape) e)))) was
        ]

recs_records : (shape : GuestShape) (irqs : List Irq) (recs : List RecState) → IsShape shape → All (IsValidRec shape) recs → AreRecords shape irqs → AreRecords shape (fold (with_rec shape) irqs recs)
recs_records shape irqs [] is valid are = are
recs_records shape irqs (rec ∷ recs) is valid are =
    recs_records shape (with_rec shape irqs rec) recs is (λ k d h. valid (suc k) d (omega (arith, h))) (rec_records shape irqs rec is (valid 0 rec (omega arith)) are)

-- all records of a valid state
pub told_records : (guest : GuestSpec) (recs : List RecState) → IsGoodGuest guest → All (IsValidRec guest.shape) recs → AreRecords guest.shape (irqs_with guest recs)
told_records guest recs good valid = recs_records guest.shape (irqs_of guest) recs good.shape valid (open_records guest good)
