-- What is left out comes later still after a step.
use Rattle.std.proofs.Common.{◌≡◌, ℕ, ◌+◌, ◌^◌, ◌/◌, ◌%◌, ◌<◌, ◌==◌, ◌&&◌, ◌⊎◌, inl, inr, true≢false, Bool, true, false, IsTrue, List, length, get_or, set, Contains, Option, Some, None, is_none, position, if◌then◌else◌, refl, sym, ap, ◌∙◌, subst, arith}
use Rattle.std.specs.Option.{option_map_or}
use Rattle.std.proofs.lemmas.Bool.{cases_eq}
use Rattle.std.proofs.lemmas.List.{get_or_default, get_or-set_same, get_or-set_other, length-set}
use Rattle.law_registers_stand.specs.Words.{IccReg, Key, Private, Spi, Lpi, GuestShape, has_bit, G0, G1, Irq as IrqRecord, is_ripe}
use Rattle.law_registers_stand.specs.Histories.{Track}
use Rattle.law_registers_stand.specs.Lists.{IchRegs, hcr_npie, Seen, seen_in, listed_of, has_candidate, has_active, acknowledged_word, deactivated_word, cpu_in, candidates_of, first_changed, after_acknowledge, after_deactivation, counted, is_counted, registers_after}
use Rattle.law_registers_stand.proofs.GicIcv.ChangeLemmas.{word_acknowledged, word_deactivated}
use Rattle.law_registers_stand.proofs.GicIcv.FollowLemmas.{changed_at_place}
use Rattle.law_registers_stand.specs.Registers.{Candidate, CpuRec, taken_by, deactivated_by, is_before, is_deliverable, is_group_enabled, takes_kind}
use Rattle.law_registers_stand.specs.GicWord.declared.record.Group.{Group}
use Rattle.law_registers_stand.specs.Core.{CoreState}
use Rattle.law_scans_miss_none.specs.Waiting.{record_in, IsDue}
use Rattle.law_scans_miss_none.proofs.LeftLemmas.{as_candidate, seen_candidate, IsListed, IsLater, IsBounded}

-- What an access does to list registers.

-- a list register after an access shows what it showed, at most no longer pending or no longer active
pub record IsTamed (before after : Seen) : Type 0 where
  pub id : after.id ≡ before.id
  pub prio : after.prio ≡ before.prio
  pub group : after.group ≡ before.group
  pub pending : after.pending ≡ true → before.pending ≡ true
  pub active : after.pending ≡ true → after.active ≡ true → before.active ≡ true

tamed_itself : (s : Seen) → IsTamed s s
tamed_itself s = record { id = refl; prio = refl; group = refl; pending = λ h. h; active = λ p a. a }

tamed_twice : (a b c : Seen) → IsTamed a b → IsTamed b c → IsTamed a c
tamed_twice a b c f g = record { id = g.id ∙ f.id; prio = g.prio ∙ f.prio; group = g.group ∙ f.group; pending = λ h. f.pending (g.pending h); active = λ p h. f.active (g.pending p) (g.active p h) }

-- each of some list registers comes from one of others
pub record ComesFrom (words : List ℕ) (word : ℕ) : Type 0 where
  pub before : ℕ
  pub among : Contains words before
  pub tamed : IsTamed (seen_in before) (seen_in word)

abbrev AreTamed : List ℕ → List ℕ → Type 0
AreTamed words after = (word : ℕ) → Contains after word → ComesFrom words word

same_tamed : (words : List ℕ) → AreTamed words words
same_tamed words word has = record { before = word; among = has; tamed = tamed_itself (seen_in word) }

set_tamed : (words : List ℕ) (place new : ℕ) → place < length words → IsTamed (seen_in (get_or words place 0)) (seen_in new) → AreTamed words (set words place new)
set_tamed words place new within tamed word has = elim (cases_eq has.0 place) [
  | inl same ↦
      (let is : new ≡ word = sym (get_or-set_same words place new word within) ∙ ap (λ i. get_or (set words place new) i word) (sym same) ∙ has.2 in
      record { before = get_or words place 0; among = (place, within, get_or_default words place (get_or words place 0) 0 within); tamed = subst (λ w. IsTamed (seen_in (get_or words place 0)) (seen_in w)) is tamed })
  | inr differ ↦
      (let inside : has.0 < length words = subst (λ n. has.0 < n) (length-set words place new) has.1 in
      record { before = word; among = (has.0, inside, sym (get_or-set_other words place has.0 new word differ) ∙ has.2); tamed = tamed_itself (seen_in word) })
]

tamed_on : (words mid after : List ℕ) → AreTamed words mid → AreTamed mid after → AreTamed words after
tamed_on words mid after f g word has =
    let second = g word has in
    let first = f second.before second.among in
    record { before = first.before; among = first.among; tamed = tamed_twice (seen_in first.before) (seen_in second.before) (seen_in word) first.tamed second.tamed }

acknowledged_tamed : (word : ℕ) → IsTamed (seen_in word) (seen_in (acknowledged_word word))
acknowledged_tamed word =
    let is = word_acknowledged word in
    record {
      id = ap (λ (s : Seen). s.id) is;
      prio = ap (λ (s : Seen). s.prio) is;
      group = ap (λ (s : Seen). s.group) is;
      pending = λ h. absurd (true≢false (sym h ∙ ap (λ (s : Seen). s.pending) is));
      active = λ h a. absurd (true≢false (sym h ∙ ap (λ (s : Seen). s.pending) is));
    }

deactivated_tamed : (word : ℕ) → IsTamed (seen_in word) (seen_in (deactivated_word word))
deactivated_tamed word =
    let is = word_deactivated word in
    record {
      id = ap (λ (s : Seen). s.id) is;
      prio = ap (λ (s : Seen). s.prio) is;
      group = ap (λ (s : Seen). s.group) is;
      pending = λ h. sym (ap (λ (s : Seen). s.pending) is) ∙ h;
      active = λ h a. absurd (true≢false (sym a ∙ ap (λ (s : Seen). s.active) is));
    }

changed_tamed : (is_so : ℕ → Bool) (change : ℕ → ℕ) (regs otherwise : IchRegs) → ((word : ℕ) → IsTamed (seen_in word) (seen_in (change word))) → listed_of otherwise ≡ listed_of regs → AreTamed (listed_of regs) (listed_of (first_changed is_so change regs otherwise))
changed_tamed is_so change regs otherwise tame other = of (position is_so (listed_of regs)) refl
  where
    of : (o : Option ℕ) → position is_so (listed_of regs) ≡ o → AreTamed (listed_of regs) (listed_of (first_changed is_so change regs otherwise))
    of None e = subst (AreTamed (listed_of regs)) (sym (ap (λ o. listed_of (option_map_or (λ place. record regs { lr = set regs.lr place (change (get_or regs.lr place 0)) }) o otherwise)) e ∙ other)) (same_tamed (listed_of regs))
    of (Some place) e =
        let at = changed_at_place is_so change regs otherwise place e in
        subst (AreTamed (listed_of regs)) (sym at.listed) (set_tamed (listed_of regs) place (change (get_or (listed_of regs) place 0)) at.within (tame (get_or (listed_of regs) place 0)))

pub access_tamed : (reg : IccReg) (write : Option ℕ) (regs : IchRegs) (word : ℕ) → Contains (listed_of (registers_after reg write regs)) word → ComesFrom (listed_of regs) word
access_tamed reg write regs =
    tamed_on (listed_of regs) (listed_of mid) (listed_of (after_deactivation (deactivated_by reg write (cpu_in regs)) mid)) (by_taken (taken_by reg write (cpu_in regs) (candidates_of regs))) (by_ended (deactivated_by reg write (cpu_in regs)) mid)
  where
    mid : IchRegs
    mid = after_acknowledge (taken_by reg write (cpu_in regs) (candidates_of regs)) regs

    by_taken : (o : Option Candidate) → AreTamed (listed_of regs) (listed_of (after_acknowledge o regs))
    by_taken None = same_tamed (listed_of regs)
    by_taken (Some f) = changed_tamed (has_candidate f) acknowledged_word regs regs acknowledged_tamed refl

    otherwise_same : (k : ℕ) (r : IchRegs) → listed_of (if is_counted k then counted r else r) ≡ listed_of r
    otherwise_same k r = of (is_counted k)
      where
        of : (b : Bool) → listed_of (if b then counted r else r) ≡ listed_of r
        of true = refl
        of false = refl

    by_ended : (o : Option ℕ) (r : IchRegs) → AreTamed (listed_of r) (listed_of (after_deactivation o r))
    by_ended None r = same_tamed (listed_of r)
    by_ended (Some k) r = changed_tamed (has_active k) deactivated_word r (if is_counted k then counted r else r) deactivated_tamed (otherwise_same k r)

-- and it leaves NPIE
npie_counted : (r : IchRegs) (b : Bool) → has_bit (if b then counted r else r).hcr hcr_npie ≡ has_bit r.hcr hcr_npie
npie_counted r true = let bit : (r.hcr + 2 ^ 27) % 2 ^ 32 / 2 ^ 3 % 2 ≡ r.hcr / 2 ^ 3 % 2 = omega arith in ap (λ n. n == 1) bit
npie_counted r false = refl

pub access_npie : (reg : IccReg) (write : Option ℕ) (regs : IchRegs) → has_bit (registers_after reg write regs).hcr hcr_npie ≡ has_bit regs.hcr hcr_npie
access_npie reg write regs = by_ended (deactivated_by reg write (cpu_in regs)) (after_acknowledge (taken_by reg write (cpu_in regs) (candidates_of regs)) regs) ∙ by_taken (taken_by reg write (cpu_in regs) (candidates_of regs))
  where
    by_taken : (o : Option Candidate) → has_bit (after_acknowledge o regs).hcr hcr_npie ≡ has_bit regs.hcr hcr_npie
    by_taken None = refl
    by_taken (Some f) = of (position (has_candidate f) (listed_of regs))
      where
        of : (o : Option ℕ) → has_bit (option_map_or (λ place. record regs { lr = set regs.lr place (acknowledged_word (get_or regs.lr place 0)) }) o regs).hcr hcr_npie ≡ has_bit regs.hcr hcr_npie
        of None = refl
        of (Some place) = refl

    by_ended : (o : Option ℕ) (r : IchRegs) → has_bit (after_deactivation o r).hcr hcr_npie ≡ has_bit r.hcr hcr_npie
    by_ended None r = refl
    by_ended (Some k) r = of (position (has_active k) (listed_of r))
      where
        of : (o : Option ℕ) → has_bit (option_map_or (λ place. record r { lr = set r.lr place (deactivated_word (get_or r.lr place 0)) }) o (if is_counted k then counted r else r)).hcr hcr_npie ≡ has_bit r.hcr hcr_npie
        of None = npie_counted r (is_counted k)
        of (Some place) = refl

-- Steps.

-- an interrupt that is due after a step was due before it, as it is
abbrev pub DueBefore : GuestShape → CoreState → Track → CoreState → Track → ℕ → Type 0
DueBefore shape state track later_state later_track vcpu = (key : Key) → IsDue shape later_state later_track vcpu key → IsDue shape state track vcpu key × (record_in shape later_state key ≡ record_in shape state key)

-- with the same registers
pub bounded_on :
    (shape : GuestShape) (state later_state : CoreState) (track later_track : Track) (vcpu : ℕ) (trapping : Bool) (regs : IchRegs) (cpu : CpuRec) → DueBefore shape state track later_state later_track vcpu → IsBounded shape state track vcpu trapping regs cpu
    → IsBounded shape later_state later_track vcpu trapping regs cpu
bounded_on shape state later_state track later_track vcpu trapping regs cpu was bounded = record {
  groups = bounded.groups;
  uncut = bounded.uncut;
  left = λ key due deliverable.
      let before = was key due in
      subst (λ irq. IsListed regs key ⊎ IsLater trapping regs key irq) (sym before.1) (bounded.left key before.0 (subst (λ irq. IsTrue (is_deliverable key irq vcpu cpu shape)) before.1 deliverable));
}

-- the enables of groups and LPIs decide what can be delivered
deliverable_as : (key : Key) (irq : IrqRecord) (vcpu : ℕ) (cpu after : CpuRec) (shape : GuestShape) → after.en0 ≡ cpu.en0 → after.en1 ≡ cpu.en1 → after.lpis ≡ cpu.lpis → is_deliverable key irq vcpu after shape ≡ is_deliverable key irq vcpu cpu shape
deliverable_as key irq vcpu cpu after shape en0 en1 lpis = ap (λ b. is_ripe irq vcpu shape && is_none irq.act_by && b && takes_kind key after) (group irq.group) ∙ ap (λ b. is_ripe irq vcpu shape && is_none irq.act_by && is_group_enabled irq.group cpu && b) (kind key)
  where
    group : (g : Group) → is_group_enabled g after ≡ is_group_enabled g cpu
    group G0 = en0
    group G1 = en1

    kind : (k : Key) → takes_kind k after ≡ takes_kind k cpu
    kind (Private v i) = refl
    kind (Spi i) = refl
    kind (Lpi i) = lpis

group_as : (g : Group) (cpu after : CpuRec) → after.en0 ≡ cpu.en0 → after.en1 ≡ cpu.en1 → is_group_enabled g after ≡ is_group_enabled g cpu
group_as G0 cpu after en0 en1 = en0
group_as G1 cpu after en0 en1 = en1

-- after an access out of trap mode that changes no group's enable, where what is due is not listed
pub bounded_access :
    (shape : GuestShape) (state later_state : CoreState) (track later_track : Track) (vcpu : ℕ) (reg : IccReg) (write : Option ℕ) (regs : IchRegs) (cpu after : CpuRec) → after.en0 ≡ cpu.en0 → after.en1 ≡ cpu.en1 → after.lpis ≡ cpu.lpis
    → ((key : Key) → IsDue shape state track vcpu key → IsListed regs key → ⊥) → DueBefore shape state track later_state later_track vcpu → IsBounded shape state track vcpu false regs cpu → IsBounded shape later_state later_track vcpu false (registers_after reg write regs) after
bounded_access shape state later_state track later_track vcpu reg write regs cpu after en0 en1 lpis unlisted was bounded = record {
  groups = λ word has pending.
      let from = access_tamed reg write regs word has in
      subst (λ g. is_group_enabled g after ≡ true) (sym from.tamed.group) (group_as (seen_in from.before).group cpu after en0 en1 ∙ bounded.groups from.before from.among (from.tamed.pending pending));
  uncut = λ npie word has pending.
      let from = access_tamed reg write regs word has in
      inactive_so (seen_in from.before) (seen_in word) from.tamed pending (bounded.uncut (sym (access_npie reg write regs) ∙ npie) from.before from.among (from.tamed.pending pending));
  left = λ key due deliverable.
      let before = was key due in
      let irq = record_in shape state key in
      let was_deliverable = subst (λ b. IsTrue b) (deliverable_as key irq vcpu cpu after shape en0 en1 lpis) (subst (λ i. IsTrue (is_deliverable key i vcpu after shape)) before.1 deliverable) in
      elim (bounded.left key before.0 was_deliverable) [
        | inl listed ↦ absurd (unlisted key before.0 listed)
        | inr later ↦
            inr
            (subst (λ i. IsLater false (registers_after reg write regs) key i) (sym before.1)
            (record {
              more = access_npie reg write regs ∙ later.more;
              after = λ word has pending inactive.
                  let from = access_tamed reg write regs word has in
                  let was_pending = from.tamed.pending pending in
                  let low = later.after from.before from.among was_pending (bounded.uncut later.more from.before from.among was_pending) in
                  same_candidate (as_candidate key irq) (seen_in from.before) (seen_in word) from.tamed low;
            }))
      ];
}
  where
    inactive_so : (before after : Seen) → IsTamed before after → after.pending ≡ true → before.active ≡ false → after.active ≡ false
    inactive_so before after tamed pending e = of after.active refl
      where
        of : (b : Bool) → after.active ≡ b → after.active ≡ false
        of false f = f
        of true f = absurd (true≢false (sym (tamed.active pending f) ∙ e))

    same_candidate : (one : Candidate) (before after : Seen) → IsTamed before after → is_before one (seen_candidate before) ≡ false → is_before one (seen_candidate after) ≡ false
    same_candidate one before after tamed e =
        ap (λ id. is_before one (record { id = id; prio = after.prio; group = after.group })) tamed.id ∙ ap (λ prio. is_before one (record { id = before.id; prio = prio; group = after.group })) tamed.prio
        ∙ ap (λ group. is_before one (record { id = before.id; prio = before.prio; group = group })) tamed.group ∙ e
