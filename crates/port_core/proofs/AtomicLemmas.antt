-- Each atomic operation makes its step.
use Rattle.std.proofs.Common.{◌≡◌, ◌<◌, ◌+◌, ◌-◌, ◌*◌, ◌/◌, ◌%◌, ◌^◌, ◌||◌, ◌&&◌, ◌==◌, ◌⊎◌, inl, inr, ℕ, Bool, true, false, IsTrue, if◌then◌else◌, nat_eq, bit_and, bit_or, Option, Some, None, is_none, is_some, refl, sym, ap, ◌∙◌, subst, arith, rules}
use Rattle.std.specs.Int.Bits.{or_zero_r, or_self}
use Rattle.std.specs.Option.{option_map_or}
use Rattle.std.proofs.lemmas.Nat.{or_block, and_block, and_mask, or_lt}
use Rattle.std.proofs.lemmas.Bool.{eqb-true}
use Rattle.std.proofs.lemmas.Option.{none-some}
use Rattle.core_words.specs.Words.{Back, Key, GuestShape, max_vcpus, HELD_BY_NONE, ACTIVE_BY_NONE, RAISE, WIRE_UP, WIRE_DOWN, Irq, raised, wire_up, wire_down, IsChange, is_number, cause_bits_of, active_bits_of, IsWord, IsIrq, IsSeat, irq_of, packed, seat_at}
use Rattle.core_words.proofs.GicWord.CauseLemmas.{soft_set, wire_raised, line_cleared}
use Rattle.core_words.proofs.GicWord.ReleaseLemmas.{gives_back, activates, deactivates, releases}
use Rattle.core_words.proofs.GicWord.WordLemmas.{packed_back}
use Rattle.core_words.specs.Calls.{Touching, reached, taken}
use Rattle.port_core.specs.declared.at_list.AtIrq.{AtIrq}
use Rattle.port_core.specs.declared.atomic.Atomic.TheVariants.{And, Or}
use Rattle.port_core.specs.declared.local.Local.{Local}
use Rattle.port_core.specs.declared.step.CoreStep.TheVariants.{Raise, Claim, GiveBack, Release, Touch, Want, WireUp, WireDown}
use Rattle.port_core.specs.Atomic.{Makes, applied, back_bits, release_bits, exchange_by}
use Rattle.port_core.specs.Condition.{CanGiveBack}
use Rattle.port_core.specs.Effect.{changed, given_back, released, is_active_at, may_move, moved_of, moved_irq, claimed_irq, touched_irq}
use Rattle.port_core.specs.Local.{entry_for}
use Rattle.port_core.specs.Valid.{IsIrqWord, is_active_by_holder}
use Rattle.core_words.proofs.GicWord.WantLemmas.{wanted}
use Rattle.port_core.proofs.AdvanceLemmas.{nat_same}

-- a word that a change of its record made is the word of the changed record
pub by_change : (change : Irq → Irq) (before after : ℕ) → IsChange change before after → after ≡ changed change before
by_change change before after h = sym (packed_back after h.word) ∙ ap packed h.irq

-- The bits that devices and waiting accesses set and clear.

pub makes_raise : (shape : GuestShape) (actor : ℕ) (local : Local) (key : Key) → Makes shape actor local (Raise key) (Or RAISE)
makes_raise shape actor local key found can = by_change raised found _ (soft_set found can.valid.word_is)

pub makes_wire_up : (shape : GuestShape) (actor : ℕ) (local : Local) (key : Key) → Makes shape actor local (WireUp key) (Or WIRE_UP)
makes_wire_up shape actor local key found can = by_change wire_up found _ (wire_raised found can.valid.word_is)

pub makes_wire_down : (shape : GuestShape) (actor : ℕ) (local : Local) (key : Key) → Makes shape actor local (WireDown key) (And WIRE_DOWN)
makes_wire_down shape actor local key found can = by_change wire_down found _ (line_cleared found can.valid.word_is)

pub makes_want : (shape : GuestShape) (actor : ℕ) (local : Local) (key : Key) → Makes shape actor local (Want key) (Or 256)
makes_want shape actor local key found can = by_change (λ irq. record irq { want = true }) found _ (wanted found can.valid.word_is)

-- What a vCPU gives back and releases.

-- a release: the holder goes, and of an inactive interrupt active-by too
pub makes_release_active : (shape : GuestShape) (actor : ℕ) (local : Local) (key : Key) → is_active_at key local ≡ true → Makes shape actor local (Release key) (And HELD_BY_NONE)
makes_release_active shape actor local key active found can =
    by_change (λ irq. record irq { holder = None }) found _ (releases found can.valid.word_is) ∙ ap (λ b. changed (released b) found) (sym active)

-- What masks of fields leave of a word.

cut_active : (word : ℕ) → word < 2 ^ 59 → bit_and word (2 ^ 64 - 1 - 63 * 2 ^ 14) ≡ word / 2 ^ 20 * 2 ^ 20 + word % 2 ^ 14
cut_active word end =
    let split : word ≡ word / 2 ^ 20 * 2 ^ 20 + word % 2 ^ 20 = omega arith in
    let block : bit_and (word / 2 ^ 20 * 2 ^ 20 + word % 2 ^ 20) ((2 ^ 44 - 1) * 2 ^ 20 + (2 ^ 14 - 1)) ≡ bit_and (word / 2 ^ 20) (2 ^ 44 - 1) * 2 ^ 20 + bit_and (word % 2 ^ 20) (2 ^ 14 - 1) =
    and_block 20 (word / 2 ^ 20) (2 ^ 44 - 1) (word % 2 ^ 20) (2 ^ 14 - 1) (omega arith) (omega arith) in
    let high : bit_and (word / 2 ^ 20) (2 ^ 44 - 1) ≡ word / 2 ^ 20 = and_mask (word / 2 ^ 20) 44 ∙ omega (arith, end) in
    let low : bit_and (word % 2 ^ 20) (2 ^ 14 - 1) ≡ word % 2 ^ 14 = and_mask (word % 2 ^ 20) 14 ∙ omega arith in
    ap (λ n. bit_and n (2 ^ 64 - 1 - 63 * 2 ^ 14)) split ∙ block ∙ ap (λ n. n * 2 ^ 20 + bit_and (word % 2 ^ 20) (2 ^ 14 - 1)) high ∙ ap (λ n. word / 2 ^ 20 * 2 ^ 20 + n) low

cut_holder : (word : ℕ) → word < 2 ^ 59 → bit_and word (2 ^ 64 - 1 - 63 * 2 ^ 20) ≡ word / 2 ^ 26 * 2 ^ 26 + word % 2 ^ 20
cut_holder word end =
    let split : word ≡ word / 2 ^ 26 * 2 ^ 26 + word % 2 ^ 26 = omega arith in
    let block : bit_and (word / 2 ^ 26 * 2 ^ 26 + word % 2 ^ 26) ((2 ^ 38 - 1) * 2 ^ 26 + (2 ^ 20 - 1)) ≡ bit_and (word / 2 ^ 26) (2 ^ 38 - 1) * 2 ^ 26 + bit_and (word % 2 ^ 26) (2 ^ 20 - 1) =
    and_block 26 (word / 2 ^ 26) (2 ^ 38 - 1) (word % 2 ^ 26) (2 ^ 20 - 1) (omega arith) (omega arith) in
    let high : bit_and (word / 2 ^ 26) (2 ^ 38 - 1) ≡ word / 2 ^ 26 = and_mask (word / 2 ^ 26) 38 ∙ omega (arith, end) in
    let low : bit_and (word % 2 ^ 26) (2 ^ 20 - 1) ≡ word % 2 ^ 20 = and_mask (word % 2 ^ 26) 20 ∙ omega arith in
    ap (λ n. bit_and n (2 ^ 64 - 1 - 63 * 2 ^ 20)) split ∙ block ∙ ap (λ n. n * 2 ^ 26 + bit_and (word % 2 ^ 26) (2 ^ 20 - 1)) high ∙ ap (λ n. word / 2 ^ 26 * 2 ^ 26 + n) low

cut_both : (word : ℕ) → word < 2 ^ 59 → bit_and word (2 ^ 64 - 1 - 4095 * 2 ^ 14) ≡ word / 2 ^ 26 * 2 ^ 26 + word % 2 ^ 14
cut_both word end =
    let split : word ≡ word / 2 ^ 26 * 2 ^ 26 + word % 2 ^ 26 = omega arith in
    let block : bit_and (word / 2 ^ 26 * 2 ^ 26 + word % 2 ^ 26) ((2 ^ 38 - 1) * 2 ^ 26 + (2 ^ 14 - 1)) ≡ bit_and (word / 2 ^ 26) (2 ^ 38 - 1) * 2 ^ 26 + bit_and (word % 2 ^ 26) (2 ^ 14 - 1) =
    and_block 26 (word / 2 ^ 26) (2 ^ 38 - 1) (word % 2 ^ 26) (2 ^ 14 - 1) (omega arith) (omega arith) in
    let high : bit_and (word / 2 ^ 26) (2 ^ 38 - 1) ≡ word / 2 ^ 26 = and_mask (word / 2 ^ 26) 38 ∙ omega (arith, end) in
    let low : bit_and (word % 2 ^ 26) (2 ^ 14 - 1) ≡ word % 2 ^ 14 = and_mask (word % 2 ^ 26) 14 ∙ omega arith in
    ap (λ n. bit_and n (2 ^ 64 - 1 - 4095 * 2 ^ 14)) split ∙ block ∙ ap (λ n. n * 2 ^ 26 + bit_and (word % 2 ^ 26) (2 ^ 14 - 1)) high ∙ ap (λ n. word / 2 ^ 26 * 2 ^ 26 + n) low

-- both masks, one after the other
cut_each : (word : ℕ) → word < 2 ^ 59 → bit_and (bit_and word (2 ^ 64 - 1 - 63 * 2 ^ 14)) (2 ^ 64 - 1 - 63 * 2 ^ 20) ≡ bit_and word (2 ^ 64 - 1 - 4095 * 2 ^ 14)
cut_each word end =
    let once = word / 2 ^ 20 * 2 ^ 20 + word % 2 ^ 14 in
    let small : once < 2 ^ 59 = omega (arith, end) in
    let high : once / 2 ^ 26 ≡ word / 2 ^ 26 = omega arith in
    let low : once % 2 ^ 20 ≡ word % 2 ^ 14 = omega arith in
    ap (λ n. bit_and n (2 ^ 64 - 1 - 63 * 2 ^ 20)) (cut_active word end)
    ∙ cut_holder once small
    ∙ ap (λ n. n * 2 ^ 26 + once % 2 ^ 20) high
    ∙ ap (λ n. word / 2 ^ 26 * 2 ^ 26 + n) low
    ∙ sym (cut_both word end)

pub makes_release_inactive : (shape : GuestShape) (actor : ℕ) (local : Local) (key : Key) → is_active_at key local ≡ false → Makes shape actor local (Release key) (And (2 ^ 64 - 1 - 4095 * 2 ^ 14))
makes_release_inactive shape actor local key inactive found can =
    let word = can.valid.word_is in
    let first = deactivates found word in
    let second = releases (bit_and found ACTIVE_BY_NONE) first.word in
    sym (cut_each found word.end)
    ∙ by_change (λ irq. record irq { holder = None }) (bit_and found ACTIVE_BY_NONE) _ second
    ∙ ap (λ irq. packed (record irq { holder = None })) first.irq
    ∙ ap (λ b. changed (released b) found) (sym inactive)

-- the release of an interrupt, active at the interface or not
pub makes_release : (shape : GuestShape) (actor : ℕ) (local : Local) (key : Key) → Makes shape actor local (Release key) (And (release_bits (is_active_at key local)))
makes_release shape actor local key = of (is_active_at key local) refl
  where
    of : (b : Bool) → is_active_at key local ≡ b → Makes shape actor local (Release key) (And (release_bits b))
    of true h = makes_release_active shape actor local key h
    of false h = makes_release_inactive shape actor local key h

-- two sets of bits, one after the other
or_parts : (word bits causes : ℕ) → causes < 2 ^ 14 → bit_or word (causes + bits * 2 ^ 14) ≡ bit_or (bit_or word causes) (bits * 2 ^ 14)
or_parts word bits causes small =
    let high = word / 2 ^ 14 in
    let low = word % 2 ^ 14 in
    let split : word ≡ high * 2 ^ 14 + low = omega arith in
    let low_small : low < 2 ^ 14 = omega arith in
    let both : bit_or (high * 2 ^ 14 + low) (bits * 2 ^ 14 + causes) ≡ bit_or high bits * 2 ^ 14 + bit_or low causes = or_block 14 high bits low causes low_small small in
    let first : bit_or (high * 2 ^ 14 + low) (0 * 2 ^ 14 + causes) ≡ bit_or high 0 * 2 ^ 14 + bit_or low causes = or_block 14 high 0 low causes low_small small in
    let later : bit_or (high * 2 ^ 14 + bit_or low causes) (bits * 2 ^ 14 + 0) ≡ bit_or high bits * 2 ^ 14 + bit_or (bit_or low causes) 0 = or_block 14 high bits (bit_or low causes) 0 (or_lt 14 low causes low_small small) (omega arith) in
    let one : bit_or word (causes + bits * 2 ^ 14) ≡ bit_or high bits * 2 ^ 14 + bit_or low causes = ap (λ n. bit_or n (causes + bits * 2 ^ 14)) split ∙ ap (bit_or (high * 2 ^ 14 + low)) (omega arith) ∙ both in
    let two : bit_or word causes ≡ high * 2 ^ 14 + bit_or low causes = ap (λ n. bit_or n causes) split ∙ ap (bit_or (high * 2 ^ 14 + low)) (omega arith) ∙ first ∙ ap (λ n. n * 2 ^ 14 + bit_or low causes) (or_zero_r high) in
    one ∙ sym (ap (λ n. bit_or n (bits * 2 ^ 14)) two ∙ ap (bit_or (high * 2 ^ 14 + bit_or low causes)) (omega arith) ∙ later ∙ ap (λ n. bit_or high bits * 2 ^ 14 + n) (or_zero_r (bit_or low causes)))

-- a number of a vCPU that its field has
seat_some : (field vcpu : ℕ) → seat_at field ≡ Some vcpu → field ≡ vcpu + 1
seat_some field vcpu e = by_test (nat_eq field 0) refl e
  where
    some_same : (m n : ℕ) → Some m ≡ Some n → m ≡ n
    some_same m n h = search rules

    by_test : (b : Bool) → nat_eq field 0 ≡ b → (if b then None else Some (field - 1)) ≡ Some vcpu → field ≡ vcpu + 1
    by_test true f e = absurd (none-some vcpu e)
    by_test false f e = let is : field - 1 ≡ vcpu = some_same (field - 1) vcpu e in grind arith

-- a vCPU's number once more in its field
again : (word vcpu : ℕ) → vcpu < 32 → word / 16384 % 64 ≡ vcpu + 1 → bit_or word (active_bits_of vcpu) ≡ word
again word vcpu few is =
    let high = word / 2 ^ 20 in
    let low = word % 2 ^ 14 in
    let field = vcpu + 1 in
    let split : word ≡ high * 2 ^ 20 + (field * 2 ^ 14 + low) = omega (arith, is) in
    let bits : active_bits_of vcpu ≡ 0 * 2 ^ 20 + (field * 2 ^ 14 + 0) = omega arith in
    let outer : bit_or (high * 2 ^ 20 + (field * 2 ^ 14 + low)) (0 * 2 ^ 20 + (field * 2 ^ 14 + 0)) ≡ bit_or high 0 * 2 ^ 20 + bit_or (field * 2 ^ 14 + low) (field * 2 ^ 14 + 0) =
    or_block 20 high 0 (field * 2 ^ 14 + low) (field * 2 ^ 14 + 0) (omega (arith, few)) (omega (arith, few)) in
    let inner : bit_or (field * 2 ^ 14 + low) (field * 2 ^ 14 + 0) ≡ bit_or field field * 2 ^ 14 + bit_or low 0 = or_block 14 field field low 0 (omega arith) (omega arith) in
    ap (λ n. bit_or n (active_bits_of vcpu)) split
    ∙ ap (bit_or (high * 2 ^ 20 + (field * 2 ^ 14 + low))) bits
    ∙ outer
    ∙ ap (λ n. n * 2 ^ 20 + bit_or (field * 2 ^ 14 + low) (field * 2 ^ 14 + 0)) (or_zero_r high)
    ∙ ap (λ n. high * 2 ^ 20 + n) (inner ∙ ap (λ n. n * 2 ^ 14 + bit_or low 0) (or_self field) ∙ ap (λ n. field * 2 ^ 14 + n) (or_zero_r low))
    ∙ sym split

-- What a vCPU gives back.

-- of an inactive interrupt its causes alone
back_inactive : (shape : GuestShape) (key : Key) (actor : ℕ) (rise soft : Bool) (found : ℕ) → IsIrqWord shape key found → bit_or found (cause_bits_of rise soft + 0) ≡ changed (given_back actor (record { rise = rise; soft = soft; active = false })) found
back_inactive shape key actor rise soft found valid =
    ap (bit_or found) (omega arith) ∙ by_change (λ irq. record irq { rise = irq.rise || rise; soft = irq.soft || soft }) found _ (gives_back rise soft found valid.word_is)

-- the bits of the causes are below those of active-by
causes_small : (rise soft : Bool) → cause_bits_of rise soft < 2 ^ 14
causes_small true true = omega arith
causes_small true false = omega arith
causes_small false true = omega arith
causes_small false false = omega arith

-- a vCPU's number where the interrupt is active by none, or by that vCPU
number_set : (word vcpu : ℕ) → vcpu < 32 → IsWord word → ((irq_of word).act_by ≡ None) ⊎ ((irq_of word).act_by ≡ Some vcpu) → bit_or word (active_bits_of vcpu) ≡ changed (λ irq. record irq { act_by = Some vcpu }) word
number_set word vcpu few is (inl none) = by_change (λ irq. record irq { act_by = Some vcpu }) word _ (activates vcpu word few is none)
number_set word vcpu few is (inr own) =
    again word vcpu few (seat_some (word / 16384 % 64) vcpu own)
    ∙ sym (packed_back word is)
    ∙ ap (λ seat. packed (record (irq_of word) { act_by = seat })) own

-- of an active one that too
back_active : (shape : GuestShape) (key : Key) (actor : ℕ) (rise soft : Bool) (found : ℕ) → actor < 32 → IsIrqWord shape key found → ((irq_of found).act_by ≡ None) ⊎ ((irq_of found).act_by ≡ Some actor) → bit_or found (cause_bits_of rise soft + active_bits_of actor) ≡ changed (given_back actor (record { rise = rise; soft = soft; active = true })) found
back_active shape key actor rise soft found few valid by =
    let first = gives_back rise soft found valid.word_is in
    let after = bit_or found (cause_bits_of rise soft) in
    or_parts found (actor + 1) (cause_bits_of rise soft) (causes_small rise soft)
    ∙ number_set after actor few first.word (by_after by (ap (λ irq. irq.act_by) first.irq))
    ∙ ap (λ irq. packed (record irq { act_by = Some actor })) first.irq
  where
    by_after : {before after : Option ℕ} → (before ≡ None) ⊎ (before ≡ Some actor) → after ≡ before → (after ≡ None) ⊎ (after ≡ Some actor)
    by_after (inl n) e = inl (e ∙ n)
    by_after (inr o) e = inr (e ∙ o)

-- while a vCPU holds an interrupt, it is active by none or by that vCPU
active_of_held : (irq : Irq) (vcpu : ℕ) → IsTrue (is_active_by_holder irq) → is_number vcpu irq.holder ≡ true → (irq.act_by ≡ None) ⊎ (irq.act_by ≡ Some vcpu)
active_of_held irq vcpu one held = of irq.holder irq.act_by one held
  where
    number : (a b : ℕ) → (a == b) ≡ true → a ≡ b
    number a b h = eqb-true a b h

    of : (holder active : Option ℕ) → IsTrue (is_none holder || is_none active || option_map_or (λ vcpu. is_number vcpu holder) active true) → is_number vcpu holder ≡ true → (active ≡ None) ⊎ (active ≡ Some vcpu)
    of holder None o h = inl refl
    of (Some v) (Some a) o h = inr (ap Some (sym (number v a o) ∙ number v vcpu h))
    of None (Some a) o h = absurd (search rules)

pub makes_give_back : (shape : GuestShape) (actor : ℕ) (local : Local) (key : Key) (back : Back) → actor < 32 → CanGiveBack key back local → Makes shape actor local (GiveBack key back) (Or (back_bits back actor))
makes_give_back shape actor local key back few give found can =
    let held : is_number actor (irq_of found).holder ≡ true = can.ties ∙ ap is_some give.at in
    of back.active refl (active_of_held (irq_of found) actor can.valid.one held)
  where
    of : (b : Bool) → back.active ≡ b → ((irq_of found).act_by ≡ None) ⊎ ((irq_of found).act_by ≡ Some actor) → bit_or found (cause_bits_of back.rise back.soft + (if b then active_bits_of actor else 0)) ≡ changed (given_back actor (record back { active = b })) found
    of true h by = back_active shape key actor back.rise back.soft found few can.valid by
    of false h by = back_inactive shape key actor back.rise back.soft found can.valid

-- Steps that expect a word.

-- a compare-exchange of the word that was seen, where the step does what it is for of that word
pub by_seen : (found seen : ℕ) (test : ℕ → Bool) (value : ℕ → ℕ) → applied (exchange_by (test seen) seen (value seen)) found ≡ (if (found == seen) && test found then value found else found)
by_seen found seen test value = of (found == seen) refl
  where
    at_seen : (b : Bool) → applied (exchange_by b seen (value seen)) seen ≡ (if b then value seen else seen)
    at_seen true = ap (λ b. if b then value seen else seen) (nat_same seen)
    at_seen false = refl

    elsewhere : (b : Bool) → (found == seen) ≡ false → applied (exchange_by b seen (value seen)) found ≡ found
    elsewhere true h = ap (λ b. if b then value seen else found) h
    elsewhere false h = refl

    of : (b : Bool) → (found == seen) ≡ b → applied (exchange_by (test seen) seen (value seen)) found ≡ (if b && test found then value found else found)
    of true h = subst (λ n. applied (exchange_by (test seen) seen (value seen)) n ≡ (if test n then value n else n)) (sym (eqb-true found seen h)) (at_seen (test seen))
    of false h = elsewhere (test seen) h

-- a claim keeps what a word can say
pub moved_packable : (vcpu : ℕ) (local : Local) (key : Key) (irq : Irq) → vcpu < max_vcpus → IsIrq irq → IsIrq (moved_irq vcpu local key irq).irq
moved_packable vcpu local key irq few p = of (entry_for key local.at)
  where
    reached_is : (act : Option ℕ) → irq.act_by ≡ act → IsIrq (record (reached (record irq { act_by = act })).irq { holder = Some vcpu })
    reached_is None h = record { prio = p.prio; prio_bits = p.prio_bits; active = search rules; holder = few; route = p.route }
    reached_is (Some v) h = record { prio = p.prio; prio_bits = p.prio_bits; active = subst IsSeat h p.active; holder = few; route = p.route }

    of : (entry : Option AtIrq) → IsIrq (option_map_or (λ entry. taken (moved_of irq entry)) entry (record (reached irq) { irq = record (reached irq).irq { holder = Some vcpu } })).irq
    of None = reached_is irq.act_by refl
    of (Some entry) = record { prio = p.prio; prio_bits = p.prio_bits; active = p.active; holder = p.holder; route = p.route }

-- the compare-exchange of a claim, and of a touch
pub makes_claim : (shape : GuestShape) (actor : ℕ) (local : Local) (key : Key) (seen : ℕ) → Makes shape actor local (Claim key seen) (exchange_by (may_move shape actor local key (irq_of seen)) seen (changed (claimed_irq actor local key) seen))
makes_claim shape actor local key seen found can = by_seen found seen (λ n. may_move shape actor local key (irq_of n)) (changed (claimed_irq actor local key))

pub makes_touch : (shape : GuestShape) (actor : ℕ) (local : Local) (key : Key) (seen : ℕ) (kind : Touching) → Makes shape actor local (Touch key seen kind) (exchange_by (is_none (irq_of seen).holder) seen (changed (touched_irq shape key kind) seen))
makes_touch shape actor local key seen kind found can = by_seen found seen (λ n. is_none (irq_of n).holder) (changed (touched_irq shape key kind))
