-- Calls that are judged by what they made and noted.
use Rattle.std.proofs.Common.{◌≡◌, ◌↔◌, ℕ, ◌&&◌, not, nat_lt, Bool, true, false, cond, List, Option, Some, None, IsTrue, refl, sym, ap, ◌∙◌, subst}
use Rattle.std.proofs.lemmas.Bool.{and_parts}
use Rattle.std.proofs.lemmas.Option.{none-some, same_Some}
use Rattle.std.proofs.Math.Path.{fun_ext}
use Rattle.history_turns.specs.Words.{GuestShape, Redist, Dist, Its, Ram, Icc, Mem, Msi, Message, Wire}
use Rattle.history_turns.specs.Registers.{Maps}
use Rattle.history_turns.specs.GicImap.declared.map.RegRef.{RegRef as ItsRef}
use Rattle.history_turns.specs.GicImap.declared.map.RegRef.TheVariants.{Plain as ItsPlain}
use Rattle.history_turns.specs.GicImap.Map.{decoded as its_decoded}
use Rattle.history_turns.specs.GicRmap.Map.{decoded as redist_decoded}
use Rattle.history_turns.specs.Calls.{Operation, Access, Device, Residence, Happened, sets_lpis, takes_turn}
use Rattle.history_turns.specs.Histories.{Call, IsEndedAs}
use Rattle.history_turns.specs.LegalLists.Legal.{IsBegun}
use Rattle.history_turns.specs.HistoryCalls.Exact.{is_plain, is_doer, is_good}
use Rattle.history_commands.proofs.CallLemmas.{begun_by_other, ended_by_other}
use Rattle.history_turns.specs.Judged.{rising_vcpu, its_write, is_message}
use Rattle.history_turns.specs.declared.calls.ItsWrite.{ItsWrite}
use Rattle.history_turns.specs.Laws.{IsSignallingExact}
use Rattle.history_turns.specs.Mapped.{mapped_by, targets_by}
use Rattle.history_turns.specs.Written.{IsItsMade}
use Rattle.history_turns.specs.Opened.{IsItsBegun}
use Rattle.history_turns.specs.Taking.{targets_of}
use Rattle.history_commands.proofs.TakingLaw.{taking_end}
use Rattle.history_commands.proofs.BeginLaw.{taking_begin}
use Rattle.history_turns.specs.Noted.{NotedOf, IsNotedOf, HasTaken}
use Rattle.history_turns.specs.Risen.{Rises, MayRise}
use Rattle.history_turns.specs.Signalled.{is_signalled}
use Rattle.history_turns.proofs.MayLaw.{exact}
use Rattle.history_turns.proofs.SignalCalls.{exact as signalling}

-- an operation that sets EnableLPIs
record IsRisingOp (shape : GuestShape) (actor : ℕ) (operation : Operation) (vcpu : ℕ) : Type 0 where
  offset : ℕ
  size : ℕ
  write : Option ℕ
  is : operation ≡ Access (Mem (Redist vcpu) offset size write)
  doer : nat_lt actor shape.vcpus ≡ true
  sets : sets_lpis shape (redist_decoded offset size) write ≡ true

some_number : (a b : ℕ) → ◌≡◌ {A = Option ℕ} (Some a) (Some b) → a ≡ b
some_number a b h = cc

rising_op : (shape : GuestShape) (actor : ℕ) (operation : Operation) (vcpu : ℕ) → rising_vcpu shape actor operation ≡ Some vcpu → IsRisingOp shape actor operation vcpu
rising_op shape actor (Access (Mem (Redist v) offset size write)) vcpu h = of (nat_lt actor shape.vcpus && sets_lpis shape (redist_decoded offset size) write) refl h
  where
    of : (b : Bool) → (nat_lt actor shape.vcpus && sets_lpis shape (redist_decoded offset size) write) ≡ b → cond b (Some v) None ≡ Some vcpu → IsRisingOp shape actor (Access (Mem (Redist v) offset size write)) vcpu
    of true e k =
        let both = and_parts (nat_lt actor shape.vcpus) (sets_lpis shape (redist_decoded offset size) write) e in
        record { offset = offset; size = size; write = write; is = ap (λ x. Access (Mem (Redist x) offset size write)) (some_number v vcpu k); doer = both.0; sets = both.1 }
    of false e k = absurd (cc)
rising_op shape actor operation vcpu h = absurd (cc)

true_not : true ≡ false → ⊥
true_not h = absurd (cc)

-- an operation that writes a register of the ITS
record IsItsOp (shape : GuestShape) (actor : ℕ) (operation : Operation) (write : ItsWrite) : Type 0 where
  is : operation ≡ Access (Mem Its write.offset write.size (Some write.value))
  doer : nat_lt actor shape.vcpus ≡ true

its_op : (shape : GuestShape) (actor : ℕ) (operation : Operation) (write : ItsWrite) → its_write shape actor operation ≡ Some write → IsItsOp shape actor operation write
its_op shape actor (Access (Mem Its offset size (Some value))) write h = of (nat_lt actor shape.vcpus) refl h
  where
    one : ItsWrite
    one = record { offset = offset; size = size; value = value }

    of : (b : Bool) → nat_lt actor shape.vcpus ≡ b → cond b (Some one) None ≡ Some write → IsItsOp shape actor (Access (Mem Its offset size (Some value))) write
    of true e k = record { is = ap (λ (w : ItsWrite). Access (Mem Its w.offset w.size (Some w.value))) (same_Some one write k); doer = e }
    of false e k = absurd (none-some write k)
its_op shape actor operation write h = absurd (none-some write h)

-- one that is not plain takes the ITS
takes_it : (b : Bool) → not b ≡ false → b ≡ true
takes_it true h = refl
takes_it false h = absurd (true_not h)

takes_none : (shape : GuestShape) (ref : ItsRef) → takes_turn shape ref None ≡ false
takes_none shape (ItsPlain reg half) = refl
takes_none shape ref = refl

pub turn_its : (shape : GuestShape) (actor : ℕ) (operation : Operation) (write : ItsWrite) → its_write shape actor operation ≡ Some write → is_plain shape operation ≡ false → takes_turn shape (its_decoded write.offset write.size) (Some write.value) ≡ true
turn_its shape actor operation write h plain =
    takes_it (takes_turn shape (its_decoded write.offset write.size) (Some write.value)) (subst (λ o. is_plain shape o ≡ false) (its_op shape actor operation write h).is plain)

pub good_its : (shape : GuestShape) (actor : ℕ) (operation : Operation) (write : ItsWrite) → its_write shape actor operation ≡ Some write → IsTrue (is_good shape operation) → IsTrue (is_good shape (Access (Mem Its write.offset write.size (Some write.value))))
good_its shape actor operation write h good = subst (λ o. IsTrue (is_good shape o)) (its_op shape actor operation write h).is good

-- one that is not plain, and is neither of those nor a message of a device's, is none that its actor can do
not_doer : (shape : GuestShape) (actor : ℕ) (operation : Operation) → is_plain shape operation ≡ false → its_write shape actor operation ≡ None → rising_vcpu shape actor operation ≡ None → is_message shape actor operation ≡ false → is_doer shape actor operation ≡ false
not_doer shape actor (Access (Mem (Redist v) offset size write)) plain its h m = of (nat_lt actor shape.vcpus) (sets_lpis shape (redist_decoded offset size) write) refl refl
  where
    of : (a b : Bool) → nat_lt actor shape.vcpus ≡ a → sets_lpis shape (redist_decoded offset size) write ≡ b → nat_lt actor shape.vcpus ≡ false
    of true true e k = let none : cond true (Some v) None ≡ None = ap (λ x. cond (x && true) (Some v) None) (sym e) ∙ ap (λ y. cond (nat_lt actor shape.vcpus && y) (Some v) None) (sym k) ∙ h in absurd (none-some v (sym none))
    of true false e k = absurd (true_not (sym (ap not k) ∙ plain))
    of false b e k = e
not_doer shape actor (Access (Mem Its offset size None)) plain write h m = absurd (true_not (sym (ap not (takes_none shape (its_decoded offset size))) ∙ plain))
not_doer shape actor (Access (Mem Its offset size (Some value))) plain write h m = of (nat_lt actor shape.vcpus) refl write
  where
    one : ItsWrite
    one = record { offset = offset; size = size; value = value }

    of : (b : Bool) → nat_lt actor shape.vcpus ≡ b → cond b (Some one) None ≡ None → nat_lt actor shape.vcpus ≡ false
    of true e k = absurd (none-some one (sym k))
    of false e k = e
not_doer shape actor (Access (Mem Dist offset size write)) plain its h m = absurd (cc)
not_doer shape actor (Access (Mem Ram offset size write)) plain its h m = absurd (cc)
not_doer shape actor (Access (Icc reg write)) plain its h m = absurd (cc)
not_doer shape actor (Device (Msi device event)) plain write h m = m
not_doer shape actor (Device (Message spi)) plain write h m = absurd (cc)
not_doer shape actor (Device (Wire key up)) plain write h m = absurd (cc)
not_doer shape actor Residence plain write h m = absurd (cc)

module _ (shape : GuestShape) (actor : ℕ) (operation : Operation) (piece : List Happened) (noted : NotedOf) where
  abbrev Begun : Bool → Type 0
  Begun b = (call : Call) → IsNotedOf shape operation piece noted call → IsTrue b ↔ IsBegun noted.signals shape actor call

  abbrev Ended : Option ℕ → Bool → Type 0
  Ended answer b = (call : Call) → IsNotedOf shape operation piece noted call → IsTrue b ↔ IsEndedAs noted.signals shape actor call answer

  pub begun_rising : (vcpu : ℕ) (b : Bool) → rising_vcpu shape actor operation ≡ Some vcpu → (IsTrue b ↔ MayRise shape actor vcpu noted piece) → (call : Call) → IsNotedOf shape operation piece noted call → IsTrue b ↔ IsBegun noted.signals shape actor call
  begun_rising vcpu b h so call is =
      let op = rising_op shape actor operation vcpu h in
      let law = exact shape actor vcpu op.offset op.size op.write piece noted call op.sets op.doer (subst (λ o. IsNotedOf shape o piece noted call) op.is is) in (
        λ t. (law.begun noted.signals).1 (subst (MayRise shape actor vcpu noted) (sym is.of.piece_is) (so.0 t)),
        λ begun. so.1 (subst (MayRise shape actor vcpu noted) is.of.piece_is ((law.begun noted.signals).0 begun)),
      )

  -- of a write of a register of the ITS the maps and the vCPUs are those that it noted
  module _ (write : ItsWrite) (h : its_write shape actor operation ≡ Some write) (plain : is_plain shape operation ≡ false) (call : Call) (is : IsNotedOf shape operation piece noted call) where
    op : IsItsOp shape actor operation write
    op = its_op shape actor operation write h

    takes : takes_turn shape (its_decoded write.offset write.size) (Some write.value) ≡ true
    takes = turn_its shape actor operation write h plain

    taken : HasTaken shape noted call
    taken = (subst (λ o. IsNotedOf shape o piece noted call) op.is is).has takes

    targets : targets_of call ≡ targets_by noted.commands
    targets = fun_ext (λ number. fun_ext (λ id. taken.commands.each number id))

    noted_for : (P : Maps → (ℕ → ℕ → Option ℕ) → List Happened → Type 0) → P (mapped_by shape noted.done) (targets_by noted.commands) piece → P call.maps (targets_of call) call.piece
    noted_for P so = subst (λ maps. P maps (targets_of call) call.piece) (sym taken.maps) (subst (λ ts. P (mapped_by shape noted.done) ts call.piece) (sym targets) (subst (P (mapped_by shape noted.done) (targets_by noted.commands)) (sym is.of.piece_is) so))

    begun_law : IsBegun noted.signals shape actor call ↔ IsItsBegun shape call.maps (targets_of call) actor write.offset write.size write.value call.piece
    begun_law = taking_begin shape actor write.offset write.size write.value call noted.signals takes op.doer (is.of.operation_is ∙ op.is) is.of.opened is.counted

    ended_law : (answer : Option ℕ) → IsEndedAs noted.signals shape actor call answer ↔ (IsItsMade shape call.maps (targets_of call) actor write.offset write.size write.value call.piece × (answer ≡ None))
    ended_law answer = taking_end shape actor write.offset write.size write.value call noted.signals answer takes op.doer (is.of.operation_is ∙ op.is) is.of.opened

  pub begun_its : (write : ItsWrite) (done : List (List ℕ)) (commands : List (List (Option ℕ))) (b : Bool) → its_write shape actor operation ≡ Some write → is_plain shape operation ≡ false → done ≡ noted.done → commands ≡ noted.commands
      → (IsTrue b ↔ IsItsBegun shape (mapped_by shape done) (targets_by commands) actor write.offset write.size write.value piece) → (call : Call)
      → IsNotedOf shape operation piece noted call → IsTrue b ↔ IsBegun noted.signals shape actor call
  begun_its write done commands b h plain same_done same_commands said call is =
      let so : IsTrue b ↔ IsItsBegun shape (mapped_by shape noted.done) (targets_by noted.commands) actor write.offset write.size write.value piece =
      subst (λ ds. IsTrue b ↔ IsItsBegun shape (mapped_by shape ds) (targets_by noted.commands) actor write.offset write.size write.value piece) same_done
      (subst (λ cs. IsTrue b ↔ IsItsBegun shape (mapped_by shape done) (targets_by cs) actor write.offset write.size write.value piece) same_commands said) in
      let law = begun_law write h plain call is in
      let here = noted_for write h plain call is (λ maps targets made. IsTrue b ↔ IsItsBegun shape maps targets actor write.offset write.size write.value made) so in (
        λ t. law.1 (here.0 t),
        λ begun. here.1 (law.0 begun),
      )

  pub ended_its : (write : ItsWrite) (done : List (List ℕ)) (commands : List (List (Option ℕ))) (b : Bool) → its_write shape actor operation ≡ Some write → is_plain shape operation ≡ false → done ≡ noted.done → commands ≡ noted.commands
      → (IsTrue b ↔ IsItsMade shape (mapped_by shape done) (targets_by commands) actor write.offset write.size write.value piece) → (call : Call)
      → IsNotedOf shape operation piece noted call → IsTrue b ↔ IsEndedAs noted.signals shape actor call None
  ended_its write done commands b h plain same_done same_commands said call is =
      let so : IsTrue b ↔ IsItsMade shape (mapped_by shape noted.done) (targets_by noted.commands) actor write.offset write.size write.value piece =
      subst (λ ds. IsTrue b ↔ IsItsMade shape (mapped_by shape ds) (targets_by noted.commands) actor write.offset write.size write.value piece) same_done
      (subst (λ cs. IsTrue b ↔ IsItsMade shape (mapped_by shape done) (targets_by cs) actor write.offset write.size write.value piece) same_commands said) in
      let law = ended_law write h plain call is None in
      let here = noted_for write h plain call is (λ maps targets made. IsTrue b ↔ IsItsMade shape maps targets actor write.offset write.size write.value made) so in (
        λ t. law.1 (here.0 t, refl),
        λ ended. here.1 (law.0 ended).0,
      )

  -- a message-signalled interrupt of a device
  message_law : is_message shape actor operation ≡ true → (call : Call) → IsNotedOf shape operation piece noted call → IsSignallingExact shape actor noted.lpi call
  message_law m call is = of operation m is
    where
      of : (o : Operation) → is_message shape actor o ≡ true → IsNotedOf shape o piece noted call → IsSignallingExact shape actor noted.lpi call
      of (Device (Msi device event)) k n = signalling shape actor device event piece noted call (flipped (nat_lt actor shape.vcpus) k) n
        where
          flipped : (b : Bool) → not b ≡ true → b ≡ false
          flipped true e = absurd (cc)
          flipped false e = refl
      of o k n = absurd (cc)

  pub begun_none : (b : Bool) → is_plain shape operation ≡ false → its_write shape actor operation ≡ None → rising_vcpu shape actor operation ≡ None → b ≡ (is_message shape actor operation && is_signalled true noted.signals noted.lpi piece) → (call : Call) → IsNotedOf shape operation piece noted call
      → IsTrue b ↔ IsBegun noted.signals shape actor call
  begun_none b plain write h e call is = of (is_message shape actor operation) refl
    where
      of : (m : Bool) → is_message shape actor operation ≡ m → IsTrue b ↔ IsBegun noted.signals shape actor call
      of true m =
          let law = message_law m call is in
          let same = e ∙ ap (λ c. c && is_signalled true noted.signals noted.lpi piece) m ∙ ap (is_signalled true noted.signals noted.lpi) (sym is.of.piece_is) in (
            λ t. (law.begun noted.signals).1 (sym same ∙ t),
            λ begun. same ∙ (law.begun noted.signals).0 begun,
          )
      of false m =
          subst (λ c. IsTrue c ↔ IsBegun noted.signals shape actor call) (sym (e ∙ ap (λ c. c && is_signalled true noted.signals noted.lpi piece) m))
          (begun_by_other shape actor operation piece false (not_doer shape actor operation plain write h m) call noted.signals is.of)

  pub ended_rising : (vcpu : ℕ) (answer : Option ℕ) (b : Bool) → rising_vcpu shape actor operation ≡ Some vcpu → answer ≡ None → (IsTrue b ↔ Rises shape actor vcpu noted piece) → (call : Call) → IsNotedOf shape operation piece noted call → IsTrue b ↔ IsEndedAs noted.signals shape actor call answer
  ended_rising vcpu answer b h none so call is =
      let op = rising_op shape actor operation vcpu h in
      let law = exact shape actor vcpu op.offset op.size op.write piece noted call op.sets op.doer (subst (λ o. IsNotedOf shape o piece noted call) op.is is) in (
        λ t. (law.ended noted.signals answer).1 (subst (Rises shape actor vcpu noted) (sym is.of.piece_is) (so.0 t), none),
        λ ended. so.1 (subst (Rises shape actor vcpu noted) is.of.piece_is ((law.ended noted.signals answer).0 ended).0),
      )

  pub ended_none : (b : Bool) → is_plain shape operation ≡ false → its_write shape actor operation ≡ None → rising_vcpu shape actor operation ≡ None → b ≡ (is_message shape actor operation && is_signalled false noted.signals noted.lpi piece) → (call : Call) → IsNotedOf shape operation piece noted call
      → IsTrue b ↔ IsEndedAs noted.signals shape actor call None
  ended_none b plain write h e call is = of (is_message shape actor operation) refl
    where
      of : (m : Bool) → is_message shape actor operation ≡ m → IsTrue b ↔ IsEndedAs noted.signals shape actor call None
      of true m =
          let law = message_law m call is in
          let same = e ∙ ap (λ c. c && is_signalled false noted.signals noted.lpi piece) m ∙ ap (is_signalled false noted.signals noted.lpi) (sym is.of.piece_is) in (
            λ t. (law.ended noted.signals None).1 (sym same ∙ t, refl),
            λ ended. same ∙ ((law.ended noted.signals None).0 ended).0,
          )
      of false m =
          subst (λ c. IsTrue c ↔ IsEndedAs noted.signals shape actor call None) (sym (e ∙ ap (λ c. c && is_signalled false noted.signals noted.lpi piece) m))
          (ended_by_other shape actor operation piece false None (not_doer shape actor operation plain write h m) call noted.signals is.of)

  pub ended_answered : is_plain shape operation ≡ false → (answer : Option ℕ) (value : ℕ) → answer ≡ Some value → (call : Call) → IsNotedOf shape operation piece noted call → IsTrue false ↔ IsEndedAs noted.signals shape actor call answer
  ended_answered plain answer value some call is = of (its_write shape actor operation) refl
    where
      Never : Type 0
      Never = IsTrue false ↔ IsEndedAs noted.signals shape actor call answer

      never : (IsEndedAs noted.signals shape actor call answer → answer ≡ None) → Never
      never none = (λ t. absurd (cc), λ ended. absurd (none-some value (sym (none ended) ∙ some)))

      other : its_write shape actor operation ≡ None → rising_vcpu shape actor operation ≡ None → (m : Bool) → is_message shape actor operation ≡ m → Never
      other write h true m = never (λ ended. (((message_law m call is).ended noted.signals answer).0 ended).1)
      other write h false m = ended_by_other shape actor operation piece false answer (not_doer shape actor operation plain write h m) call noted.signals is.of

      rising : its_write shape actor operation ≡ None → (o : Option ℕ) → rising_vcpu shape actor operation ≡ o → Never
      rising write None h = other write h (is_message shape actor operation) refl
      rising write (Some vcpu) h =
          let op = rising_op shape actor operation vcpu h in
          let law = exact shape actor vcpu op.offset op.size op.write piece noted call op.sets op.doer (subst (λ o. IsNotedOf shape o piece noted call) op.is is) in
          never (λ ended. ((law.ended noted.signals answer).0 ended).1)

      of : (o : Option ItsWrite) → its_write shape actor operation ≡ o → Never
      of None write = rising write (rising_vcpu shape actor operation) refl
      of (Some one) write = never (λ ended. ((ended_law one write plain call is answer).0 ended).1)
