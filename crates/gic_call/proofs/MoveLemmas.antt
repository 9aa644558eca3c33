-- What the moves leave of the record of an interrupt, and of what an interface has of it.
use Rattle.std.proofs.Common.{◌≡◌, ◌<◌, ◌||◌, ℕ, IsTrue, is_none, not, cond, Bool, true, false, Some, None, refl, arith}
use Rattle.std.proofs.lemmas.Grind.{common_steps}
use Rattle.floor_registers.specs.Words.{Key, Private, Spi, Lpi, GuestShape, IsShape, Irq, cleared, has_active_state, is_of_kind, IsRecordOf}
use Rattle.floor_registers.proofs.GicWord.ValidLemmas.{valid_cleared}
use Rattle.gic_call.specs.declared.moves.Moved.{Moved}
use Rattle.gic_call.proofs.RecordLemmas.{kind_kept, valid_as, valid_active}
use Rattle.gic_call.specs.Move.{reached, taken, left, IsMovedOf}

pub reached_valid : (shape : GuestShape) (key : Key) (irq : Irq) → IsRecordOf shape key irq → IsMovedOf shape key (reached irq)
reached_valid shape key irq is = by_state (is_none irq.act_by) refl
  where
    can_be : (key : Key) → is_none irq.act_by ≡ false → IsTrue (is_of_kind key irq) → IsTrue (has_active_state key)
    can_be (Private v i) e h = refl
    can_be (Spi i) e h = refl
    can_be (Lpi i) e h = grind (arith, common_steps, e, h)

    by_state : (b : Bool) → is_none irq.act_by ≡ b → IsMovedOf shape key (cond b (record { irq = cleared irq; entry = record { pending = true; active = false; rise = irq.rise; soft = irq.soft } }) (record { irq = irq; entry = record { pending = false; active = true; rise = false; soft = false } }))
    by_state true e = record { irq = valid_cleared shape key irq is; entry = record { kind = refl; causes = refl } }
    by_state false e = record { irq = is; entry = record { kind = can_be key e is.kind; causes = refl } }

pub taken_valid : (shape : GuestShape) (key : Key) (moved : Moved) → IsMovedOf shape key moved → IsMovedOf shape key (taken moved)
taken_valid shape key moved is = record { irq = valid_cleared shape key moved.irq is.irq; entry = record { kind = is.entry.kind; causes = refl } }

pub left_valid : (shape : GuestShape) (key : Key) (vcpu : ℕ) (moved : Moved) → IsShape shape → vcpu < shape.vcpus → IsMovedOf shape key moved → IsRecordOf shape key (left vcpu moved)
left_valid shape key vcpu moved good there is =
    let irq = moved.irq in
    let given : Irq = record irq { rise = irq.rise || moved.entry.rise; soft = irq.soft || moved.entry.soft } in
    let valid = valid_as shape key irq given refl refl refl refl (kind_kept key irq given refl refl refl is.irq.kind) is.irq in
    by_state given valid moved.entry.active is.entry.kind
  where
    active_kind : (key : Key) (given : Irq) → IsTrue (is_of_kind key given) → IsTrue (has_active_state key) → IsTrue (is_of_kind key (record given { act_by = Some vcpu }))
    active_kind (Private v i) given h a = h
    active_kind (Spi i) given h a = h
    active_kind (Lpi i) given h a = absurd (cc)

    idle_kind : (key : Key) (given : Irq) → IsTrue (is_of_kind key given) → IsTrue (is_of_kind key (record given { act_by = None }))
    idle_kind (Private v i) given h = h
    idle_kind (Spi i) given h = h
    idle_kind (Lpi i) given h = grind (arith, common_steps, h)

    by_state : (given : Irq) → IsRecordOf shape key given → (b : Bool) → IsTrue (not b || has_active_state key) → IsRecordOf shape key (record given { act_by = cond b (Some vcpu) None })
    by_state given valid true kind = valid_active shape key given (Some vcpu) good (grind (arith, common_steps, there)) (active_kind key given valid.kind kind) valid
    by_state given valid false kind = valid_active shape key given None good refl (idle_kind key given valid.kind) valid
