-- The records and the wires that are saved of a guest are its own.
use Rattle.std.proofs.Common.{◌≡◌, ℕ, ◌<◌, ◌≤◌, ◌==◌, ◌&&◌, Bool, true, false, if◌then◌else◌, IsTrue, List, length, replicate, get_or, set, take, fold, Option, Some, None, refl, sym, ap, ◌∙◌, arith}
use Rattle.std.specs.Bool.{beq}
use Rattle.std.specs.Option.{option_eq, option_map_or}
use Rattle.std.specs.Prelude.{nat_eq}
use Rattle.std.proofs.lemmas.Grind.{common_steps}
use Rattle.std.proofs.lemmas.Bool.{eqb-true}
use Rattle.std.proofs.lemmas.List.{length-replicate, length-take-le, get_or-replicate, get_or-take, get_or_default}
use Rattle.std.specs.List.{slice_set, slice_index_or}
use Rattle.saved_guest.specs.IdealGuests.Words.{GuestShape, Key, Private, Spi, Lpi, has_interrupt, interrupt_count, place_of, key_at, Irq, Route, Affinity, Target, G0, G1, group_number, is_routed_as, is_number}
use Rattle.saved_guest.specs.IdealGuests.GicWord.declared.record.Group.{Group}
use Rattle.saved_guest.specs.IdealGuests.Calls.{group_of, irq_in, opening_irq}
use Rattle.saved_guest.specs.IdealGuests.declared.guest.IdealGuest.{IdealGuest}
use Rattle.saved_guest.specs.IdealGuests.Ideal.{irq_at}
use Rattle.saved_guest.specs.IdealGuests.Sound.{IsIdealRecord, IsSound}
use Rattle.saved_guest.proofs.IdealGuests.GicOpen.KeyLemmas.{irq_in_there, with_irq_in_there, key_at_there, place_at}
use Rattle.saved_guest.specs.ScnSaved.ScnBase.declared.standing.MovedWire.{MovedWire}
use Rattle.saved_guest.specs.ScnSaved.declared.state.RecState.{RecState}
use Rattle.saved_guest.specs.State.{route_of, record_of, with_rec}
use Rattle.saved_guest.specs.Standing.{no_device, moved_wire, wires_of}
use Rattle.saved_take.specs.Taken.{said_route, mover_of, rec_of, is_same_rec, rec_now, rec_opened, rec_at, recs_of}
use Rattle.saved_take.specs.Back.{IsLevelOf, AreLevels}
use Rattle.saved_take.proofs.FillLemmas.{filled}

-- ---- a record and what is saved of it

group_back : (group : Group) → group_of (group_number group) ≡ group
group_back G0 = refl
group_back G1 = refl

number_is : (n : ℕ) (o : Option ℕ) → IsTrue (is_number n o) → Some n ≡ o
number_is n None h = absurd (cc)
number_is n (Some m) h = ap (λ k. Some k) (same m h)
  where
    same : (m : ℕ) → IsTrue (is_number n (Some m)) → n ≡ m
    same m h = grind (arith, common_steps)

route_back : (shape : GuestShape) (key : Key) (route : Route) → IsTrue (is_routed_as shape key route) → route_of key (said_route key route) ≡ route
route_back shape (Private vcpu id) (Target target) h = ap Target (number_is vcpu target h)
route_back shape (Private vcpu id) (Affinity affinity) h = absurd (cc)
route_back shape (Spi id) (Affinity affinity) h = refl
route_back shape (Spi id) (Target target) h = absurd (cc)
route_back shape (Lpi id) (Target target) h = refl
route_back shape (Lpi id) (Affinity affinity) h = absurd (cc)

-- what is saved of a record of the ideal controller tells it
pub record_back : (shape : GuestShape) (key : Key) (irq : Irq) (wire : Option MovedWire) → IsIdealRecord shape key irq → record_of (rec_of key irq wire) ≡ irq
record_back shape key irq wire is =
    let group = group_back irq.group in
    let route = route_back shape key irq.route is.valid.route in
    let holder = is.home.unheld in
    let want = is.home.unwanted in
    ap (λ (x : Group). record irq { group = x; holder = None; want = false; route = route_of key (said_route key irq.route) }) group
    ∙ ap (λ (x : Option ℕ). record irq { holder = x; want = false; route = route_of key (said_route key irq.route) }) (sym holder)
    ∙ ap (λ (x : Bool). record irq { want = x; route = route_of key (said_route key irq.route) }) (sym want)
    ∙ ap (λ (x : Route). record irq { route = x }) route

-- ---- records that say the same

left : (a b : Bool) → (a && b) ≡ true → a ≡ true
left true b e = refl
left false b e = absurd (cc)

right : (a b : Bool) → (a && b) ≡ true → b ≡ true
right true b e = e
right false b e = absurd (cc)

beq_is : (a b : Bool) → beq a b ≡ true → a ≡ b
beq_is true true e = refl
beq_is true false e = absurd (cc)
beq_is false true e = absurd (cc)
beq_is false false e = refl

option_is : (a b : Option ℕ) → option_eq nat_eq a b ≡ true → a ≡ b
option_is None None e = refl
option_is None (Some b) e = absurd (cc)
option_is (Some a) None e = absurd (cc)
option_is (Some a) (Some b) e = ap (λ n. Some n) (eqb-true a b e)

record AreSame (a b : RecState) : Type 0 where
  pub enabled : a.enabled ≡ b.enabled
  pub group : a.group ≡ b.group
  pub prio : a.prio ≡ b.prio
  pub edge : a.edge ≡ b.edge
  pub line : a.line ≡ b.line
  pub rise : a.rise ≡ b.rise
  pub soft : a.soft ≡ b.soft
  pub act : a.act ≡ b.act
  pub route : a.route ≡ b.route
  pub en0 : a.en0 ≡ b.en0
  pub en1 : a.en1 ≡ b.en1
  pub mover : a.mover ≡ b.mover

same_fields : (a b : RecState) → is_same_rec a b ≡ true → AreSame a b
same_fields a b e12 =
    let e11 = left _ (option_eq nat_eq a.mover b.mover) e12 in
    let e10 = left _ (beq a.en1 b.en1) e11 in
    let e9 = left _ (beq a.en0 b.en0) e10 in
    let e8 = left _ (option_eq nat_eq a.route b.route) e9 in
    let e7 = left _ (option_eq nat_eq a.act b.act) e8 in
    let e6 = left _ (beq a.soft b.soft) e7 in
    let e5 = left _ (beq a.rise b.rise) e6 in
    let e4 = left _ (beq a.line b.line) e5 in
    let e3 = left _ (beq a.edge b.edge) e4 in
    let e2 = left _ (a.prio == b.prio) e3 in
    let e1 = left (beq a.enabled b.enabled) (a.group == b.group) e2 in
    record {
      enabled = beq_is a.enabled b.enabled e1;
      group = eqb-true a.group b.group (right _ (a.group == b.group) e2);
      prio = eqb-true a.prio b.prio (right _ (a.prio == b.prio) e3);
      edge = beq_is a.edge b.edge (right _ (beq a.edge b.edge) e4);
      line = beq_is a.line b.line (right _ (beq a.line b.line) e5);
      rise = beq_is a.rise b.rise (right _ (beq a.rise b.rise) e6);
      soft = beq_is a.soft b.soft (right _ (beq a.soft b.soft) e7);
      act = option_is a.act b.act (right _ (option_eq nat_eq a.act b.act) e8);
      route = option_is a.route b.route (right _ (option_eq nat_eq a.route b.route) e9);
      en0 = beq_is a.en0 b.en0 (right _ (beq a.en0 b.en0) e10);
      en1 = beq_is a.en1 b.en1 (right _ (beq a.en1 b.en1) e11);
      mover = option_is a.mover b.mover (right _ (option_eq nat_eq a.mover b.mover) e12);
    }

-- they tell one record
same_record : (a b : RecState) → a.key ≡ b.key → AreSame a b → record_of a ≡ record_of b
same_record a b key same =
    let group : group_of a.group ≡ group_of b.group = ap group_of same.group in
    let route : route_of a.key a.route ≡ route_of b.key b.route = ap (λ k. route_of k a.route) key ∙ ap (route_of b.key) same.route in
    cc (same.enabled, group, same.prio, same.edge, same.line, same.rise, same.soft, same.act, route, same.en0, same.en1)

-- ---- all records

-- what is kept of a place is what is there now, and where nothing is, it is as it was
kept_none : (b : Bool) (rec : RecState) → (if b then None else Some rec) ≡ None → b ≡ true
kept_none true rec e = refl
kept_none false rec e = absurd (cc)

kept_some : (b : Bool) (rec found : RecState) → (if b then None else Some rec) ≡ Some found → found ≡ rec
kept_some true rec found e = absurd (cc)
kept_some false rec found e = cc

module _ (opened : List Irq) (wires : List (Option MovedWire)) (state : IdealGuest) (sound : IsSound state) (each : length opened ≡ interrupt_count state.shape)
    (ideal : (key : Key) → IsTrue (has_interrupt state.shape key) → IsIdealRecord state.shape key (irq_in state.shape opened key)) where
  shape : GuestShape
  shape = state.shape

  there : (k : ℕ) → k < interrupt_count state.shape → IsTrue (has_interrupt state.shape (key_at state.shape k))
  there k few = key_at_there state.shape k sound.shape few

  -- the record at a place
  stands : (irqs : List Irq) (k : ℕ) (d : Irq) → length irqs ≡ interrupt_count state.shape → k < interrupt_count state.shape → irq_in state.shape irqs (key_at state.shape k) ≡ get_or irqs k d
  stands irqs k d each few =
      irq_in_there state.shape irqs (key_at state.shape k) (there k few)
      ∙ ap (λ n. get_or irqs n (opening_irq false (key_at state.shape k))) (place_at state.shape k sound.shape few)
      ∙ get_or_default irqs k (opening_irq false (key_at state.shape k)) d (omega (arith, each))

  now_is : (k : ℕ) (d : Irq) → k < interrupt_count state.shape → record_of (rec_now wires state k) ≡ get_or state.irqs k d
  now_is k d few =
      record_back state.shape (key_at state.shape k) (irq_at state (key_at state.shape k)) (slice_index_or wires k None) (sound.records (key_at state.shape k) (there k few)) ∙ stands state.irqs k d sound.irqs few

  opened_is : (k : ℕ) (d : Irq) → k < interrupt_count state.shape → record_of (rec_opened state.shape opened k) ≡ get_or opened k d
  opened_is k d few = record_back state.shape (key_at state.shape k) (irq_in state.shape opened (key_at state.shape k)) None (ideal (key_at state.shape k) (there k few)) ∙ stands opened k d each few

  unkept : (k : ℕ) → rec_at opened wires state k ≡ None → AreSame (rec_opened state.shape opened k) (rec_now wires state k)
  unkept k none =
      same_fields (rec_opened state.shape opened k) (rec_now wires state k) (kept_none (is_same_rec (rec_opened state.shape opened k) (rec_now wires state k)) (rec_now wires state k) none)

  found : (k : ℕ) (rec : RecState) → rec_at opened wires state k ≡ Some rec → rec ≡ rec_now wires state k
  found k rec some = kept_some (is_same_rec (rec_opened state.shape opened k) (rec_now wires state k)) (rec_now wires state k) rec some

  no_irq : Irq
  no_irq = opening_irq false (Spi 0)

  pub records_back : fold (with_rec state.shape) opened (recs_of opened wires state (interrupt_count state.shape)) ≡ state.irqs
  records_back =
      filled (with_rec state.shape) (rec_at opened wires state) opened state.irqs no_irq (interrupt_count state.shape)
      (record {
        each = each ∙ sym sound.irqs;
        same = λ k few none. let below : k < interrupt_count state.shape = omega (arith, few, each) in
            sym (opened_is k no_irq below) ∙ same_record (rec_opened state.shape opened k) (rec_now wires state k) refl (unkept k none) ∙ now_is k no_irq below;
        told = λ k rec irqs few some. let below : k < interrupt_count state.shape = omega (arith, few, each) in
            ap (with_rec state.shape irqs) (found k rec some)
            ∙ with_irq_in_there state.shape (key_at state.shape k) (record_of (rec_now wires state k)) irqs (there k below)
            ∙ ap (λ n. set irqs n (record_of (rec_now wires state k))) (place_at state.shape k sound.shape below)
            ∙ ap (set irqs k) (now_is k no_irq below);
      })
      (sym each)

  -- ---- all wires

  module _ (quiet : (k : ℕ) → k < interrupt_count state.shape → (irq_in state.shape opened (key_at state.shape k)).line ≡ false) (enough : interrupt_count state.shape ≤ length wires) (levels : AreLevels wires state) where
    -- a wire is told by its line and its mover
    wire_back : (key : Key) (irq : Irq) (wire : Option MovedWire) → IsLevelOf irq wire → moved_wire (rec_of key irq wire) ≡ wire
    wire_back key irq None level = rw level refl
    wire_back key irq (Some wire) level = of (wire.device == no_device) refl
      where
        of : (b : Bool) → (wire.device == no_device) ≡ b
            → option_map_or (λ device. Some (let moved : MovedWire = record { device = device; up = irq.line } in moved)) (if b then None else Some wire.device) (if irq.line then Some (record { device = no_device; up = true }) else None) ≡ Some wire
        of true e =
            let device : wire.device ≡ no_device = eqb-true wire.device no_device e in
            let up : wire.up ≡ true = level.1 device in
            let line : irq.line ≡ true = sym level.0 ∙ up in
            rw line (ap (λ (n : ℕ). Some (let moved : MovedWire = record { device = n; up = true } in moved)) (sym device) ∙ ap (λ (b : Bool). Some (record wire { up = b })) (sym up))
        of false e = ap (λ (b : Bool). Some (record wire { up = b })) (sym level.0)

    -- where nothing is kept, nobody moved it
    still : (irq : Irq) (wire : Option MovedWire) → IsLevelOf irq wire → irq.line ≡ false → mover_of wire ≡ None → wire ≡ None
    still irq None level line none = refl
    still irq (Some wire) level line none = of (wire.device == no_device) refl none
      where
        of : (b : Bool) → (wire.device == no_device) ≡ b → (if b then None else Some wire.device) ≡ None → Some wire ≡ None
        of true e none = let up : wire.up ≡ true = level.1 (eqb-true wire.device no_device e) in absurd (cc (level.0, line, up))
        of false e none = absurd (cc)

    pub wires_back : wires_of state.shape (recs_of opened wires state (interrupt_count state.shape)) ≡ take (interrupt_count state.shape) wires
    wires_back =
        let put : List (Option MovedWire) → RecState → List (Option MovedWire) = λ wires rec. slice_set wires (place_of state.shape rec.key) (moved_wire rec) in
        let n = interrupt_count state.shape in
        let none : Option MovedWire = None in
        let nobody : length (replicate n none) ≡ n = length-replicate n none in
        filled put (rec_at opened wires state) (replicate n none) (take n wires) none n
        (record {
          each = nobody ∙ sym (length-take-le n wires enough);
          same = λ k few unkept_here. let below : k < n = omega (arith, few, nobody) in
              let same = unkept k unkept_here in
              get_or-replicate n k none none below
              ∙ sym (get_or-take n wires k none below ∙ still (irq_at state (key_at state.shape k)) (slice_index_or wires k None) (levels k below) (sym same.line ∙ quiet k below) (sym same.mover));
          told = λ k rec ys few some. let below : k < n = omega (arith, few, nobody) in
              ap (put ys) (found k rec some)
              ∙ ap (λ m. set ys m (moved_wire (rec_now wires state k))) (place_at state.shape k sound.shape below)
              ∙ ap (set ys k) (wire_back (key_at state.shape k) (irq_at state (key_at state.shape k)) (slice_index_or wires k None) (levels k below) ∙ sym (get_or-take n wires k none below));
        })
        (sym nobody)
