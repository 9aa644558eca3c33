-- What events leave of the copies of the enables of GICD_CTLR.
use Rattle.std.proofs.Common.{◌≡◌, ℕ, ◌==◌, Bool, true, false, cond, IsTrue, Option, option_map, is_none, find, Some, None, refl, ap, ◌∙◌}
use Rattle.std.specs.Option.{option_map_or}
use Rattle.floor_histories.specs.Words.{Key, Kind, SetEnable, ClearEnable, SetPending, ClearPending, SetActive, ClearActive, Priority, Config, Routing, GuestShape, has_interrupt, is_same_key, is_sgi, Irq, cleared}
use Rattle.floor_histories.specs.GicBase.declared.operation.Kind.TheVariants.{Group}
use Rattle.floor_histories.specs.Registers.{part_written}
use Rattle.floor_histories.specs.Calls.{Event, Up, Down, Touch, Reach, Take, Leave, Enable, Cpu, Put, CtlrBegin, CtlrEnd, ItsBegin, Runs, Done, Stalls, Moved, Touching, Register, Enables as CopyEnables, MapLpi, reached, taken, left, touched}
use Rattle.floor_histories.specs.GicCall.declared.event.Event.TheVariants.{Raise, Read, ItsEnd, Queue}
use Rattle.floor_histories.specs.GicCall.declared.touch.Touching.TheVariants.{Read as ReadTouch, Retarget, Configure, Forget}
use Rattle.floor_histories.specs.Histories.{irq_at, Ideal, moved_at, is_of, standing_at, Standing, happened, copy_in}
use Rattle.floor_histories.proofs.IdealGuests.KeyLemmas.{IsWhole}
use Rattle.law_histories.proofs.QuietLemmas.{is_spread, is_copy}
use Rattle.law_histories.proofs.StateLemmas.{take_cases, leave_cases, record_after, record_is}

same_if : (b : Bool) (one other : Irq) → copy_in one ≡ copy_in other → copy_in (cond b one other) ≡ copy_in other
same_if true one other same = same
same_if false one other same = refl

kept_if : (b : Bool) (one other : Irq) → copy_in one ≡ copy_in other → copy_in (cond b other one) ≡ copy_in other
kept_if true one other same = refl
kept_if false one other same = same

written_copy : (kind : Kind) (key : Key) (irq : Irq) (value : ℕ) (shape : GuestShape) → copy_in (part_written kind key irq value shape) ≡ copy_in irq
written_copy Group key irq value shape = refl
written_copy SetEnable key irq value shape = same_if (value == 1) _ irq refl
written_copy ClearEnable key irq value shape = same_if (value == 1) _ irq refl
written_copy SetPending key irq value shape = same_if (value == 1) _ irq refl
written_copy ClearPending key irq value shape = same_if (value == 1) _ irq refl
written_copy SetActive key irq value shape = same_if (value == 1) _ irq refl
written_copy ClearActive key irq value shape = same_if (value == 1) _ irq refl
written_copy Priority key irq value shape = refl
written_copy Config key irq value shape = kept_if (is_sgi key) _ irq refl
written_copy Routing key irq value shape = refl

touched_copy : (shape : GuestShape) (key : Key) (touching : Touching) (irq : Irq) → is_copy touching ≡ false → copy_in (touched shape key touching irq) ≡ copy_in irq
touched_copy shape key (ReadTouch kind) irq h = refl
touched_copy shape key (Register kind value) irq h = written_copy kind key irq value shape
touched_copy shape key (CopyEnables en0 en1) irq h = absurd (cc)
touched_copy shape key (MapLpi target enabled prio) irq h = refl
touched_copy shape key (Retarget target) irq h = refl
touched_copy shape key (Configure enabled prio) irq h = refl
touched_copy shape key Forget irq h = refl

reached_copy : (irq : Irq) → copy_in (reached irq).irq ≡ copy_in irq
reached_copy irq = of (is_none irq.act_by)
  where
    of : (b : Bool) → let moved : Moved = cond b (record { irq = cleared irq; entry = record { pending = true; active = false; rise = irq.rise; soft = irq.soft } }) (record { irq = irq; entry = record { pending = false; active = true; rise = false; soft = false } }) in copy_in moved.irq ≡ copy_in irq
    of true = refl
    of false = refl

-- a move leaves the copy of the record that it is of
module _ (state : Ideal) (vcpu : ℕ) (key : Key) (change : Moved → Irq) (same : (moved : Moved) → copy_in (change moved) ≡ copy_in moved.irq) where
  moved_copy : copy_in (option_map_or change (moved_at state vcpu key) (irq_at state.guest key)) ≡ copy_in (irq_at state.guest key)
  moved_copy = of (find (is_of key) (standing_at state vcpu))
    where
      of : (o : Option Standing) → copy_in (option_map_or change (option_map (λ standing. record { irq = irq_at state.guest key; entry = standing.entry }) o) (irq_at state.guest key)) ≡ copy_in (irq_at state.guest key)
      of None = refl
      of (Some standing) = same (record { irq = irq_at state.guest key; entry = standing.entry })

-- an event of no write leaves each copy
copies_after : (event : Event) (state : Ideal) (key : Key) → is_spread event ≡ false → copy_in (record_after event state key) ≡ copy_in (irq_at state.guest key)
copies_after (Raise other) state key h = same_if (is_same_key key other) _ (irq_at state.guest key) refl
copies_after (Up other) state key h = same_if (is_same_key key other) _ (irq_at state.guest key) refl
copies_after (Down other) state key h = same_if (is_same_key key other) _ (irq_at state.guest key) refl
copies_after (Touch other touching) state key h = same_if (is_same_key key other) _ (irq_at state.guest key) (touched_copy state.guest.shape other touching (irq_at state.guest key) h)
copies_after (Reach other vcpu) state key h = same_if (is_same_key key other) _ (irq_at state.guest key) (reached_copy (irq_at state.guest key))
copies_after (Take other vcpu) state key h = same_if (is_same_key key other) _ (irq_at state.guest key) (moved_copy state vcpu key (λ moved. (taken moved).irq) (λ moved. refl))
copies_after (Leave other vcpu) state key h = same_if (is_same_key key other) _ (irq_at state.guest key) (moved_copy state vcpu key (left vcpu) (λ moved. refl))
copies_after (Enable vcpu) state key h = refl
copies_after (Cpu vcpu reg write) state key h = refl
copies_after (Read place) state key h = refl
copies_after (Put word value) state key h = refl
copies_after (CtlrBegin enables) state key h = refl
copies_after CtlrEnd state key h = refl
copies_after ItsBegin state key h = refl
copies_after ItsEnd state key h = refl
copies_after (Queue offset change) state key h = refl

-- it leaves GICD_CTLR and its mark too
pub record IsSameCtlr (before after : Ideal) : Type 0 where
  pub enables : after.guest.enables ≡ before.guest.enables
  pub spreads : after.spreads ≡ before.spreads

ctlr_after : (actor : ℕ) (event : Event) (state : Ideal) → is_spread event ≡ false → IsSameCtlr state (happened actor event state)
ctlr_after actor (Raise other) state h = record { enables = refl; spreads = refl }
ctlr_after actor (Up other) state h = record { enables = refl; spreads = refl }
ctlr_after actor (Down other) state h = record { enables = refl; spreads = refl }
ctlr_after actor (Touch other touching) state h = record { enables = refl; spreads = refl }
ctlr_after actor (Reach other vcpu) state h = record { enables = refl; spreads = refl }
ctlr_after actor (Take other vcpu) state h = take_cases (IsSameCtlr state) state other vcpu (record { enables = refl; spreads = refl }) (λ irq standing. record { enables = refl; spreads = refl })
ctlr_after actor (Leave other vcpu) state h = leave_cases (IsSameCtlr state) state other vcpu (record { enables = refl; spreads = refl }) (λ irq standing. record { enables = refl; spreads = refl })
ctlr_after actor (Enable vcpu) state h = record { enables = refl; spreads = refl }
ctlr_after actor (Cpu vcpu reg write) state h = record { enables = refl; spreads = refl }
ctlr_after actor (Read place) state h = record { enables = refl; spreads = refl }
ctlr_after actor (Put word value) state h = record { enables = refl; spreads = refl }
ctlr_after actor (CtlrBegin enables) state h = absurd (cc)
ctlr_after actor CtlrEnd state h = absurd (cc)
ctlr_after actor ItsBegin state h = record { enables = refl; spreads = refl }
ctlr_after actor ItsEnd state h = record { enables = refl; spreads = refl }
ctlr_after actor (Queue offset Runs) state h = record { enables = refl; spreads = refl }
ctlr_after actor (Queue offset (Done words)) state h = record { enables = refl; spreads = refl }
ctlr_after actor (Queue offset (Stalls fault)) state h = record { enables = refl; spreads = refl }

pub record KeepsCopies (before after : Ideal) : Type 0 where
  pub ctlr : IsSameCtlr before after
  pub copies : (key : Key) → IsTrue (has_interrupt before.guest.shape key) → copy_in (irq_at after.guest key) ≡ copy_in (irq_at before.guest key)

pub keeps_copies : (actor : ℕ) (event : Event) (state : Ideal) → IsWhole state.guest → is_spread event ≡ false → KeepsCopies state (happened actor event state)
keeps_copies actor event state whole h = record { ctlr = ctlr_after actor event state h; copies = λ key there. ap copy_in (record_is state key whole there actor event) ∙ copies_after event state key h }
