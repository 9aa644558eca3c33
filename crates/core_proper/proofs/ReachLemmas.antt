-- What a claim leaves of a vCPU's own state, where the interrupt was not at its interface.
use Rattle.std.proofs.Common.{◌≡◌, ℕ, ◌&&◌, Bool, true, false, cond, if◌then◌else◌, IsTrue, List, [], ◌∷◌, ◌++◌, Option, Some, None, is_none, is_some, refl, ap, ◌∙◌}
use Rattle.std.specs.Option.{option_map_or}
use Rattle.std.proofs.lemmas.Bool.{and_parts, eqb-true}
use Rattle.floor_histories.specs.Words.{Key, GuestShape, is_same_key, Irq as IrqRecord, is_number, is_ripe}
use Rattle.floor_histories.proofs.GicBase.KeyLemmas.{same_itself}
use Rattle.floor_histories.specs.Calls.{Moved, reached, taken}
use Rattle.floor_histories.specs.Registers.{CpuRec, is_deliverable, is_group_enabled, takes_kind}
use Rattle.port_core.specs.declared.at_list.AtIrq.{AtIrq}
use Rattle.port_core.specs.declared.local.Local.{Local}
use Rattle.port_core.specs.After.{claimed_at}
use Rattle.port_core.specs.Effect.{moved_of}
use Rattle.port_core.specs.Local.{entry_for, changed_at, with_entry, arrived, settled}

pub number_is : (n : ℕ) (o : Option ℕ) → IsTrue (is_number n o) → o ≡ Some n
number_is n None h = absurd (cc)
number_is n (Some m) h = ap Some (eqb-true m n h)

pub none_is : (o : Option ℕ) → is_none o ≡ true → o ≡ None
none_is None e = refl
none_is (Some n) e = absurd (cc)

-- an interrupt that is deliverable is inactive
pub inactive : (key : Key) (irq : IrqRecord) (vcpu : ℕ) (cpu : CpuRec) (shape : GuestShape) → IsTrue (is_deliverable key irq vcpu cpu shape) → is_none irq.act_by ≡ true
inactive key irq vcpu cpu shape h =
    let kind = and_parts (is_ripe irq vcpu shape && is_none irq.act_by && is_group_enabled irq.group cpu) (takes_kind key cpu) h in
    let group = and_parts (is_ripe irq vcpu shape && is_none irq.act_by) (is_group_enabled irq.group cpu) kind.0 in
    (and_parts (is_ripe irq vcpu shape) (is_none irq.act_by) group.0).1

-- what a claim of an interrupt leaves, by what there is of it at the interface
abbrev pub claimed_by : GuestShape → ℕ → Key → IrqRecord → Local → Option AtIrq → Local
claimed_by shape actor key irq local there =
    let moved : Moved = option_map_or (λ entry. taken (moved_of irq entry)) there (record (reached irq) { irq = record (reached irq).irq { holder = Some actor } }) in
    record local {
      cands = settled shape actor key local.cands;
      at = if is_some there then changed_at (λ entry. record (with_entry entry moved.entry) { consumed = false }) key local.at else local.at ++ arrived key irq moved.entry ∷ [];
    }

-- an interrupt got to the interface
pub reached_local : (shape : GuestShape) (actor : ℕ) (key : Key) (irq : IrqRecord) (local : Local) → entry_for key local.at ≡ None
    → claimed_at shape actor key irq local ≡ record local { cands = settled shape actor key local.cands; at = local.at ++ arrived key irq (reached irq).entry ∷ [] }
reached_local shape actor key irq local free = ap (claimed_by shape actor key irq local) free

-- it is there
pub entry_added : (key : Key) (at : List AtIrq) (one : AtIrq) → one.key ≡ key → entry_for key at ≡ None → entry_for key (at ++ one ∷ []) ≡ Some one
entry_added key [] one is free = ap (λ b. cond b (Some one) None) (ap (λ other. is_same_key other key) is ∙ same_itself key)
entry_added key (other ∷ at) one is free = of (is_same_key other.key key) refl free (entry_added key at one is)
  where
    of : (b : Bool) → is_same_key other.key key ≡ b → cond b (Some other) (entry_for key at) ≡ None → (entry_for key at ≡ None → entry_for key (at ++ one ∷ []) ≡ Some one) → cond (is_same_key other.key key) (Some other) (entry_for key (at ++ one ∷ [])) ≡ Some one
    of true e f later = absurd (cc)
    of false e f later = ap (λ b. cond b (Some other) (entry_for key (at ++ one ∷ []))) e ∙ later f
