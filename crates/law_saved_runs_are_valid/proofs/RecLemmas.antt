-- What is saved of a record of the ideal controller is valid.
use Rattle.std.proofs.Common.{◌≡◌, ◌^◌, ◌≤◌, ◌==◌, ◌&&◌, ◌||◌, not, Bool, true, false, IsTrue, is_none, Option, None, refl, arith}
use Rattle.std.proofs.lemmas.Bool.{lt-ltb}
use Rattle.eager_rest.specs.LawSavesGoOn.RunsSplit.GicIdeal.IdealGuests.Words.{GuestShape, Key, Private, Spi, Lpi, has_interrupt, Irq, Route, Affinity, Target, G0, G1, group_number, is_routed_as, is_of_kind}
use Rattle.eager_rest.specs.LawSavesGoOn.RunsSplit.GicIdeal.IdealGuests.GicWord.declared.record.Group.{Group}
use Rattle.eager_rest.specs.LawSavesGoOn.RunsSplit.GicIdeal.IdealGuests.GicWord.Word.{IsRoute}
use Rattle.eager_rest.specs.LawSavesGoOn.RunsSplit.GicIdeal.IdealGuests.GicWord.Valid.{is_group_1}
use Rattle.eager_rest.specs.LawSavesGoOn.RunsSplit.GicIdeal.IdealGuests.Calls.{has_wire}
use Rattle.eager_rest.specs.LawSavesGoOn.RunsSplit.GicIdeal.IdealGuests.CanOpen.{is_own}
use Rattle.eager_rest.specs.LawSavesGoOn.RunsSplit.GicIdeal.IdealGuests.Sound.{IsIdealRecord}
use Rattle.eager_rest.specs.SavedCheck.SavedGuest.ScnSaved.ScnBase.declared.standing.MovedWire.{MovedWire}
use Rattle.eager_rest.specs.SavedCheck.SavedGuest.Valid.{IsValidRec, is_of_its_kind, is_route, is_unwired, is_device_or_none}
use Rattle.eager_rest.specs.LawSavesGoOn.SavedTake.Taken.{rec_of, said_route, mover_of}

few_groups : (group : Group) → group_number group ≤ 1
few_groups G0 = omega arith
few_groups G1 = omega arith

kind_is : (key : Key) (irq : Irq) (wire : Option MovedWire) → IsTrue (is_of_kind key irq) → IsTrue (is_of_its_kind (rec_of key irq wire) key)
kind_is (Private vcpu id) irq wire is = is
kind_is (Spi id) irq wire is = refl
kind_is (Lpi id) irq wire is = of irq.edge irq.group (is_none irq.act_by) is
  where
    of : (edge : Bool) (group : Group) (none : Bool) → (edge && is_group_1 group && none) ≡ true → (edge && group_number group == 1 && none) ≡ true
    of edge G1 none is = is
    of true G0 none is = absurd (cc)
    of false G0 none is = absurd (cc)

route_is : (shape : GuestShape) (key : Key) (route : Route) → IsRoute route → IsTrue (is_routed_as shape key route) → IsTrue (is_route shape key (said_route key route))
route_is shape (Private vcpu id) route fits is = refl
route_is shape (Spi id) (Affinity affinity) fits is = lt-ltb affinity (2 ^ 32) fits
route_is shape (Spi id) (Target target) fits is = absurd (cc)
route_is shape (Lpi id) (Target target) fits is = is
route_is shape (Lpi id) (Affinity affinity) fits is = absurd (cc)

-- an interrupt without a wire: its line is down, and nobody moved it
pub record IsStill (line : Bool) (wire : Option MovedWire) : Type 0 where
  pub down : line ≡ false
  pub unmoved : wire ≡ None

wire_is : (b : Bool) (key : Key) (irq : Irq) (wire : Option MovedWire) → IsTrue (b || not irq.rise) → (b ≡ false → IsStill irq.line wire) → IsTrue (b || is_unwired (rec_of key irq wire))
wire_is true key irq wire unrisen still = refl
wire_is false key irq wire unrisen still =
    let is = still refl in
    rw (is.down, is.unmoved) (of irq.rise unrisen)
  where
    of : (rise : Bool) → not rise ≡ true → (not false && not rise && true) ≡ true
    of true none = absurd (cc)
    of false none = refl

pub valid_rec : (shape : GuestShape) (key : Key) (irq : Irq) (wire : Option MovedWire) → IsTrue (has_interrupt shape key) → IsIdealRecord shape key irq → IsTrue (is_own key irq.act_by) → (has_wire key ≡ false → IsStill irq.line wire)
    → IsTrue (is_device_or_none shape (mover_of wire)) → IsValidRec shape (rec_of key irq wire)
valid_rec shape key irq wire there is own still device =
    let prio = is.valid.packable.prio in
    let few = is.valid.packable.prio_bits in
    record {
      there = there;
      group = few_groups irq.group;
      prio = omega (arith, prio, few);
      prio_bits = prio;
      kind = kind_is key irq wire is.valid.kind;
      wire = wire_is (has_wire key) key irq wire is.unrisen still;
      active = is.valid.active;
      own = own;
      route = route_is shape key irq.route is.valid.packable.route is.valid.route;
      mover = device;
    }
