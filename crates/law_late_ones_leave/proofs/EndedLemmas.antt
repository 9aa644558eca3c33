-- The end of an interrupt that a list register sees: a maintenance interrupt is asserted.
use Rattle.std.proofs.Common.{◌≡◌, ℕ, ◌<◌, ◌≤◌, ◌&&◌, ◌||◌, not, true≢false, Bool, true, false, if◌then◌else◌, List, find, filter, length, get_or, set, Contains, Option, Some, None, is_some, refl, sym, ap, subst, ◌∙◌, arith}
use Rattle.std.specs.List.{position}
use Rattle.std.proofs.lemmas.Bool.{eq-eqb}
use Rattle.std.proofs.lemmas.Option.{none-some}
use Rattle.std.proofs.lemmas.List.{length-set, get_or_default, get_or-set_same}
use Rattle.law_scans_miss_none.specs.Words.{IccReg, Iar0, Iar1, intid_of, has_bit}
use Rattle.law_scans_miss_none.specs.Lists.{IchRegs, Seen, seen_in, seen_of, listed_of, misr_of, is_live, seen_words, seen_entries, Agrees, deactivated_word, has_active, inactive_state, after_acknowledge, after_deactivation, candidates_of, counted, cpu_in, is_counted, registers_after, Invalid, Active, state_has_active, unpacked, with_state, has_ended, is_invalid}
use Rattle.law_scans_miss_none.proofs.GicIcv.ChangeLemmas.{seen_with_state}
use Rattle.law_scans_miss_none.proofs.GicIcv.FirstLemmas.{find_once, find_among}
use Rattle.law_scans_miss_none.proofs.GicIcv.FollowLemmas.{active_live, changed_at_place, follows, live_once, none_placed, word_of}
use Rattle.law_scans_miss_none.proofs.GicIcv.PlaceLemmas.{alone, map_among}
use Rattle.law_scans_miss_none.specs.Registers.{Candidate, CpuRec, deactivated_by, taken_by, AtInterface, InterfaceState, IsInterface}
use Rattle.law_scans_miss_none.proofs.LawRegistersStand.EoiLemmas.{eoi_with_state, same_state}
use Rattle.law_scans_miss_none.proofs.LawRegistersStand.MisrLemmas.{quiet_regs}

-- an access that deactivates acknowledges nothing
takes_none : (reg : IccReg) (write : Option ℕ) (cpu : CpuRec) (among : List Candidate) (id : ℕ) → deactivated_by reg write cpu ≡ Some id → taken_by reg write cpu among ≡ None
takes_none Iar0 None cpu among id e = absurd (none-some id e)
takes_none Iar1 None cpu among id e = absurd (none-some id e)
takes_none reg write cpu among id e = refl

-- a list register that asks for its end to be seen, once it has State 0
ended_word : (word : ℕ) → (unpacked word).eoi ≡ true → has_ended (with_state word Invalid) ≡ true
ended_word word eoi =
    let seen = seen_with_state word Invalid in
    let state : (unpacked (with_state word Invalid)).state ≡ Invalid = same_state (unpacked (with_state word Invalid)).state Invalid (ap (λ (s : Seen). s.pending) seen) (ap (λ (s : Seen). s.active) seen) in
    let still : (unpacked (with_state word Invalid)).eoi ≡ true = eoi_with_state word Invalid ∙ eoi in
    ap (λ s. is_invalid s && not (is_some (unpacked (with_state word Invalid)).hw) && (unpacked (with_state word Invalid)).eoi) state ∙ by_hw (with_state word Invalid) still
  where
    of : (hw bit : Bool) (n : ℕ) → (not hw && bit) ≡ true → (not (is_some (if hw then Some n else None)) && (not hw && bit)) ≡ true
    of true bit n h = absurd (true≢false (sym h))
    of false bit n h = h

    by_hw : (w : ℕ) → (unpacked w).eoi ≡ true → (not (is_some (unpacked w).hw) && (unpacked w).eoi) ≡ true
    by_hw w h = of (has_bit w 61) (has_bit w 41) _ h

module _ (reg : IccReg) (write : Option ℕ) (regs : IchRegs) (interface : InterfaceState) (is : IsInterface interface) (agrees : Agrees regs interface) (entry : AtInterface) (among : Contains interface.at entry) (active : entry.active ≡ true) (inactive : entry.pending ≡ false)
    (ends : deactivated_by reg write (cpu_in regs) ≡ Some (intid_of entry.key)) (sees : (word : ℕ) → Contains (listed_of regs) word → is_live (intid_of entry.key) (seen_in word) ≡ true → (unpacked word).eoi ≡ true) where
  abbrev id : ℕ
  id = intid_of entry.key

  abbrev words : List ℕ
  words = listed_of regs

  live : is_live (intid_of entry.key) (seen_of entry) ≡ true
  live = ap (λ b. b && (entry.pending || entry.active)) (eq-eqb (intid_of entry.key) (intid_of entry.key) refl) ∙ ap (λ b. entry.pending || b) active ∙ ap (λ b. b || true) inactive

  -- the list register that has it
  found : find (is_live (intid_of entry.key)) (seen_words (listed_of regs)) ≡ Some (seen_of entry)
  found =
      let most : length (filter (is_live (intid_of entry.key)) (seen_entries interface.at)) ≤ 1 = (let some = live_once (intid_of entry.key) interface.at in let once = is.once (intid_of entry.key) in omega (arith, some, once)) in
      agrees.same (intid_of entry.key) ∙ find_once (is_live (intid_of entry.key)) (seen_entries interface.at) (seen_of entry) most (map_among seen_of interface.at entry (seen_of entry) among refl) live

  shown : Contains (seen_words (listed_of regs)) (seen_of entry)
  shown = find_among (is_live (intid_of entry.key)) (seen_words (listed_of regs)) (seen_of entry) found

  -- after the access it has State 0, and its end is to be seen
  pub asserts : misr_of (registers_after reg write regs) ≡ 0 → ⊥
  asserts none = by_place (position (has_active (intid_of entry.key)) (listed_of regs)) refl
    where
      parts : listed_of (registers_after reg write regs) ≡ listed_of (after_deactivation (Some (intid_of entry.key)) regs)
      parts =
          ap (λ o. listed_of (after_deactivation o (after_acknowledge (taken_by reg write (cpu_in regs) (candidates_of regs)) regs))) ends
          ∙ ap (λ o. listed_of (after_deactivation (Some (intid_of entry.key)) (after_acknowledge o regs))) (takes_none reg write (cpu_in regs) (candidates_of regs) (intid_of entry.key) ends)

      by_place : (o : Option ℕ) → position (has_active (intid_of entry.key)) (listed_of regs) ≡ o → ⊥
      by_place None e =
          let word = word_of (listed_of regs) (seen_of entry) shown in
          let same : (unpacked word.0).id ≡ intid_of entry.key = ap (λ (s : Seen). s.id) word.2 in
          let acts : state_has_active (unpacked word.0).state ≡ true = ap (λ (s : Seen). s.active) word.2 ∙ active in
          none_placed (has_active (intid_of entry.key)) (listed_of regs) word.0 word.1 (ap (λ b. b && state_has_active (unpacked word.0).state) (eq-eqb (unpacked word.0).id (intid_of entry.key) same) ∙ acts) e
      by_place (Some place) e =
          let changed = changed_at_place (has_active (intid_of entry.key)) deactivated_word regs (if is_counted (intid_of entry.key) then counted regs else regs) place e in
          let word = get_or (listed_of regs) place 0 in
          let has : Contains (listed_of regs) word = (place, changed.within, get_or_default (listed_of regs) place word 0 changed.within) in
          let is_it : seen_in word ≡ seen_of entry = alone (is_live (intid_of entry.key)) (seen_words (listed_of regs)) (seen_in word) (seen_of entry) (agrees.once (intid_of entry.key)) (map_among seen_in (listed_of regs) word (seen_in word) has refl) shown (active_live (intid_of entry.key) word changed.passes) live in
          let state : (unpacked word).state ≡ Active = same_state (unpacked word).state Active (ap (λ (s : Seen). s.pending) is_it ∙ inactive) (ap (λ (s : Seen). s.active) is_it ∙ active) in
          let new : deactivated_word word ≡ with_state word Invalid = ap (λ s. with_state word (inactive_state s)) state in
          let eoi : (unpacked word).eoi ≡ true = sees word has (active_live (intid_of entry.key) word changed.passes) in
          let within : place < length (set (listed_of regs) place (deactivated_word word)) = omega (arith, length-set (listed_of regs) place (deactivated_word word), changed.within) in
          let there : Contains (set (listed_of regs) place (deactivated_word word)) (deactivated_word word) =
          (place, within, get_or_default (set (listed_of regs) place (deactivated_word word)) place (deactivated_word word) 0 within ∙ get_or-set_same (listed_of regs) place (deactivated_word word) 0 changed.within) in
          let after : Contains (listed_of (registers_after reg write regs)) (deactivated_word word) = subst (λ ws. Contains ws (deactivated_word word)) (sym (parts ∙ changed.listed)) there in
          let quiet = quiet_regs (registers_after reg write regs) (follows reg write regs interface is agrees).registers.holds.enabled none in
          true≢false (sym (ap has_ended new ∙ ended_word word eoi) ∙ quiet.ended (deactivated_word word) after)
