-- The EOI bit of list registers.
use Rattle.std.proofs.Common.{◌≡◌, ℕ, zero, suc, ◌+◌, ◌*◌, ◌/◌, ◌%◌, ◌^◌, ◌<◌, ◌≤◌, ◌==◌, ◌&&◌, ◌⊎◌, inl, inr, not, Bool, true, false, if◌then◌else◌, List, [], ◌∷◌, length, get_or, set, Contains, Option, Some, None, nat_lt, refl, sym, ap, subst, ◌∙◌, arith}
use Rattle.std.specs.List.{position}
use Rattle.std.specs.Option.{option_map_or}
use Rattle.std.proofs.lemmas.List.{get_or_default}
use Rattle.law_core_is_history.specs.Words.{IccReg, bit_of, has_bit, group_number}
use Rattle.law_core_is_history.specs.Lists.{IchRegs, Seen, seen_in, listed_of, is_live, acknowledged_word, deactivated_word, has_active, has_candidate, inactive_state, after_acknowledge, after_deactivation, candidates_of, counted, cpu_in, is_counted, registers_after, LrEntry, LrState, Invalid, Pending, Active, Both, packed, state_has_active, state_has_pending, state_number, unpacked, with_state}
use Rattle.law_core_is_history.proofs.GicIcv.ChangeLemmas.{word_acknowledged, word_deactivated}
use Rattle.law_core_is_history.proofs.GicIcv.FollowLemmas.{active_live, candidate_live, changed_at_place}
use Rattle.law_core_is_history.proofs.GicIcv.PlaceLemmas.{live_id}
use Rattle.law_core_is_history.specs.Registers.{Candidate, deactivated_by, taken_by}
use Rattle.law_core_is_history.proofs.VcpuRefill.ElementLemmas.{Contains-here, Contains-there, Contains-cases, Contains-nothing}
use Rattle.law_core_is_history.proofs.VcpuRefill.StandLemmas.{bit_small, group_small}
use Rattle.law_registers_stand.proofs.ShowLemmas.{live_itself, live_part}

-- another State keeps it
pub eoi_with_state : (word : ℕ) (state : LrState) → (unpacked (with_state word state)).eoi ≡ (unpacked word).eoi
eoi_with_state word state =
    let hw : (word % 2 ^ 62 + state_number state * 2 ^ 62) / 2 ^ 61 % 2 ≡ word / 2 ^ 61 % 2 = omega arith in
    let eoi : (word % 2 ^ 62 + state_number state * 2 ^ 62) / 2 ^ 41 % 2 ≡ word / 2 ^ 41 % 2 = omega arith in
    ap (λ n. not (n == 1) && has_bit (with_state word state) 41) hw ∙ ap (λ n. not (has_bit word 61) && (n == 1)) eoi

-- a list register has that of its entry
pub eoi_packed : (entry : LrEntry) → entry.hw ≡ None → entry.id < 2 ^ 32 → entry.prio < 2 ^ 8 → (unpacked (packed entry)).eoi ≡ entry.eoi
eoi_packed entry none id prio =
    ap (λ hw. (unpacked (packed (record entry { hw = hw }))).eoi) none
    ∙ of (sums entry.id (bit_of entry.eoi) entry.prio (group_number entry.group) (state_number entry.state) id (bit_small entry.eoi) prio (group_small entry.group))
    (flags entry.id (bit_of entry.eoi) entry.prio (group_number entry.group) (state_number entry.state) id (bit_small entry.eoi) prio (group_small entry.group))
  where
    sums : (id eoi prio group state : ℕ) → id < 2 ^ 32 → eoi ≤ 1 → prio < 2 ^ 8 → group ≤ 1 → (id + eoi * 2 ^ 41 + prio * 2 ^ 48 + group * 2 ^ 60 + state * 2 ^ 62) / 2 ^ 61 % 2 ≡ 0
    sums id eoi prio group state a b c d = omega (arith, a, b, c, d)

    flags : (id eoi prio group state : ℕ) → id < 2 ^ 32 → eoi ≤ 1 → prio < 2 ^ 8 → group ≤ 1 → (id + eoi * 2 ^ 41 + prio * 2 ^ 48 + group * 2 ^ 60 + state * 2 ^ 62) / 2 ^ 41 % 2 ≡ eoi
    flags id eoi prio group state a b c d = omega (arith, a, b, c, d)

    back : (b : Bool) → (bit_of b == 1) ≡ b
    back true = refl
    back false = refl

    of : let word = entry.id + bit_of entry.eoi * 2 ^ 41 + entry.prio * 2 ^ 48 + group_number entry.group * 2 ^ 60 + state_number entry.state * 2 ^ 62 in word / 2 ^ 61 % 2 ≡ 0 → word / 2 ^ 41 % 2 ≡ bit_of entry.eoi → (not (has_bit word 61) && has_bit word 41) ≡ entry.eoi
    of hw eoi = ap (λ n. not (n == 1) && has_bit (entry.id + bit_of entry.eoi * 2 ^ 41 + entry.prio * 2 ^ 48 + group_number entry.group * 2 ^ 60 + state_number entry.state * 2 ^ 62) 41) hw ∙ ap (λ n. n == 1) eoi ∙ back entry.eoi

-- States are told by what is seen.
pub same_state : (a b : LrState) → state_has_pending a ≡ state_has_pending b → state_has_active a ≡ state_has_active b → a ≡ b
same_state Invalid Invalid e f = refl
same_state Pending Pending e f = refl
same_state Active Active e f = refl
same_state Both Both e f = refl
same_state Invalid Pending e f = absurd (cc)
same_state Invalid Active e f = absurd (cc)
same_state Invalid Both e f = absurd (cc)
same_state Pending Invalid e f = absurd (cc)
same_state Pending Active e f = absurd (cc)
same_state Pending Both e f = absurd (cc)
same_state Active Invalid e f = absurd (cc)
same_state Active Pending e f = absurd (cc)
same_state Active Both e f = absurd (cc)
same_state Both Invalid e f = absurd (cc)
same_state Both Pending e f = absurd (cc)
same_state Both Active e f = absurd (cc)

-- An access keeps it.

-- what is live after it was live before, with the same
pub record WasLive (words : List ℕ) (id now : ℕ) : Type 0 where
  pub word : ℕ
  pub among : Contains words word
  pub live : is_live id (seen_in word) ≡ true
  pub eoi : (unpacked now).eoi ≡ (unpacked word).eoi

abbrev pub KeepsEoi : List ℕ → List ℕ → Type 0
KeepsEoi before after = (now id : ℕ) → Contains after now → is_live id (seen_in now) ≡ true → WasLive before id now

keeps_same : (words : List ℕ) → KeepsEoi words words
keeps_same words now id has live = record { word = now; among = has; live = live; eoi = refl }

keeps_both : (first second third : List ℕ) → KeepsEoi first second → KeepsEoi second third → KeepsEoi first third
keeps_both first second third early late now id has live =
    let mid = late now id has live in
    let was = early mid.word id mid.among mid.live in
    record { word = was.word; among = was.among; live = was.live; eoi = mid.eoi ∙ was.eoi }

set_cases : (words : List ℕ) (place new word : ℕ) → Contains (set words place new) word → (new ≡ word) ⊎ Contains words word
set_cases [] place new word has = absurd (Contains-nothing word has)
set_cases (first ∷ words) zero new word has = elim (Contains-cases new word words has) [ inl same ↦ inl same | inr later ↦ inr (Contains-there first word words later) ]
set_cases (first ∷ words) (suc place) new word has = elim (Contains-cases first word (set words place new) has) [
  | inl same ↦ inr (subst (Contains (first ∷ words)) same (Contains-here first words))
  | inr later ↦ elim (set_cases words place new word later) [ inl same ↦ inl same | inr more ↦ inr (Contains-there first word words more) ]
]

-- a change of the State of what was live
changed_keeps : (words : List ℕ) (place k new : ℕ) → place < length words → is_live k (seen_in (get_or words place 0)) ≡ true → (seen_in new).id ≡ (seen_in (get_or words place 0)).id → (unpacked new).eoi ≡ (unpacked (get_or words place 0)).eoi → KeepsEoi words (set words place new)
changed_keeps words place k new within live same eoi now id has live_now = elim (set_cases words place new now has) [
  | inl is ↦
      (let was = get_or words place 0 in
      let id_is : (seen_in was).id ≡ id = sym same ∙ ap (λ w. (seen_in w).id) is ∙ live_id (seen_in now) id live_now in
      record {
        word = was;
        among = (place, within, get_or_default words place was 0 within);
        live = subst (λ n. is_live n (seen_in was) ≡ true) id_is (live_itself (seen_in was) (live_part k (seen_in was) live));
        eoi = ap (λ w. (unpacked w).eoi) (sym is) ∙ eoi;
      })
  | inr there ↦ record { word = now; among = there; live = live_now; eoi = refl }
]

pub access_keeps : (reg : IccReg) (write : Option ℕ) (regs : IchRegs) → KeepsEoi (listed_of regs) (listed_of (registers_after reg write regs))
access_keeps reg write regs =
    let taken = taken_by reg write (cpu_in regs) (candidates_of regs) in
    let first = after_acknowledge taken regs in
    let second = after_deactivation (deactivated_by reg write (cpu_in regs)) first in
    keeps_both (listed_of regs) (listed_of first) (listed_of second) (by_taken taken regs) (by_ended (deactivated_by reg write (cpu_in regs)) first)
  where
    by_taken : (o : Option Candidate) (r : IchRegs) → KeepsEoi (listed_of r) (listed_of (after_acknowledge o r))
    by_taken None r = keeps_same (listed_of r)
    by_taken (Some f) r = of (position (has_candidate f) (listed_of r)) refl
      where
        of : (o : Option ℕ) → position (has_candidate f) (listed_of r) ≡ o → KeepsEoi (listed_of r) (listed_of (after_acknowledge (Some f) r))
        of None e = subst (λ o. KeepsEoi (listed_of r) (listed_of (option_map_or (λ place. record r { lr = set r.lr place (acknowledged_word (get_or r.lr place 0)) }) o r))) (sym e) (keeps_same (listed_of r))
        of (Some place) e =
            let changed = changed_at_place (has_candidate f) acknowledged_word r r place e in
            let word = get_or (listed_of r) place 0 in
            subst (KeepsEoi (listed_of r)) (sym changed.listed)
            (changed_keeps (listed_of r) place f.id (acknowledged_word word) changed.within (candidate_live f word changed.passes) (ap (λ (s : Seen). s.id) (word_acknowledged word)) (eoi_with_state word (if nat_lt (unpacked word).id 8192 then Active else Invalid)))

    by_ended : (o : Option ℕ) (r : IchRegs) → KeepsEoi (listed_of r) (listed_of (after_deactivation o r))
    by_ended None r = keeps_same (listed_of r)
    by_ended (Some k) r = of (position (has_active k) (listed_of r)) refl
      where
        otherwise : (b : Bool) → listed_of (if b then counted r else r) ≡ listed_of r
        otherwise true = refl
        otherwise false = refl

        of : (o : Option ℕ) → position (has_active k) (listed_of r) ≡ o → KeepsEoi (listed_of r) (listed_of (after_deactivation (Some k) r))
        of None e =
            subst (λ o. KeepsEoi (listed_of r) (listed_of (option_map_or (λ place. record r { lr = set r.lr place (deactivated_word (get_or r.lr place 0)) }) o (if is_counted k then counted r else r)))) (sym e)
            (subst (KeepsEoi (listed_of r)) (sym (otherwise (is_counted k))) (keeps_same (listed_of r)))
        of (Some place) e =
            let changed = changed_at_place (has_active k) deactivated_word r (if is_counted k then counted r else r) place e in
            let word = get_or (listed_of r) place 0 in
            subst (KeepsEoi (listed_of r)) (sym changed.listed)
            (changed_keeps (listed_of r) place k (deactivated_word word) changed.within (active_live k word changed.passes) (ap (λ (s : Seen). s.id) (word_deactivated word)) (eoi_with_state word (inactive_state (unpacked word).state)))
