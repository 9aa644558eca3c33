-- The plain words that are saved of a guest are its own, but for the number of a past fault.
use Rattle.std.proofs.Common.{◌≡◌, ltb, ℕ, zero, suc, ◌+◌, ◌-◌, ◌*◌, ◌/◌, ◌<◌, ◌≤◌, ◌==◌, ◌++◌, Bool, true, false, if◌then◌else◌, cond, List, [], ◌∷◌, length, replicate, get_or, set, take, drop, map, inl, inr, Some, None, refl, sym, ap, subst, ◌∙◌, arith, append_assoc}
use Rattle.std.proofs.lemmas.Bool.{lt-ltb}
use Rattle.std.proofs.lemmas.Bool.Decides.{eqb_tells}
use Rattle.std.proofs.lemmas.List.{length-replicate, length-take-le, get_or-replicate, get_or-take, take-append-drop, drop_more, drop_all, set-append_right}
use Rattle.std.proofs.Math.Seq.{take-add}
use Rattle.std.specs.List.{range_with_len, slice_set}
use Rattle.saved_guest.specs.IdealGuests.Registers.{has_lpis, baser_bits, baser_of, Table, Devices, Collections}
use Rattle.saved_guest.specs.IdealGuests.Calls.{Ram, Pendbaser, ItsCtlr, Cbaser, Cwriter, Baser0, Baser1, Fault, vcpus_from, its_from, plain_count}
use Rattle.saved_guest.specs.IdealGuests.declared.guest.IdealGuest.{IdealGuest}
use Rattle.saved_guest.specs.IdealGuests.Ideal.{word_at}
use Rattle.saved_guest.specs.ScnSaved.declared.state.RamState.{RamState}
use Rattle.saved_guest.specs.State.{memory_of, redist_words, its_words}
use Rattle.saved_take.specs.Taken.{redist_state, its_state, ram_at, rams_of}
use Rattle.saved_take.specs.Back.{IsStored}
use Rattle.saved_take.proofs.FillLemmas.{filled}

-- ---- memory

-- a word of memory is kept where it is not 0
kept_none : (index word : ℕ) → (if word == 0 then None else Some (let ram : RamState = record { index = index; word = word } in ram)) ≡ None → word ≡ 0
kept_none index word e =
    elim (eqb_tells word 0) [
      | inl same ↦ same.1
      | inr differ ↦ absurd (let lost = rw differ.0 at e in cc)
    ]

kept_some : (index word : ℕ) (ram : RamState) → (if word == 0 then None else Some (let ram : RamState = record { index = index; word = word } in ram)) ≡ Some ram → Some ram ≡ Some (record { index = index; word = word })
kept_some index word ram e =
    elim (eqb_tells word 0) [
      | inl same ↦ absurd (let lost = rw same.0 at e in cc)
      | inr differ ↦ sym (rw differ.0 at e)
    ]

some_is : (a b : RamState) → Some a ≡ Some b → a ≡ b
some_is a b e = cc

module _ (state : IdealGuest) (long : length state.words ≡ plain_count state.shape) where
  rams : ℕ
  rams = vcpus_from state.shape

  memory_word : (k : ℕ) → k < vcpus_from state.shape → word_at state (Ram k) ≡ get_or (take (vcpus_from state.shape) state.words) k 0
  memory_word k few = ap (λ b. cond b (get_or state.words k 0) 0) (lt-ltb k (vcpus_from state.shape) few) ∙ sym (get_or-take (vcpus_from state.shape) state.words k 0 few)

  pub memory_back : memory_of state.shape (rams_of state (state.shape.ram / 8)) ≡ take (vcpus_from state.shape) state.words
  memory_back =
      let put : List ℕ → RamState → List ℕ = λ memory ram. slice_set memory ram.index ram.word in
      let n = vcpus_from state.shape in
      let enough : vcpus_from state.shape ≤ length state.words = omega (arith, long) in
      let zeros : length (replicate n 0) ≡ n = length-replicate n 0 in
      filled put (ram_at state) (replicate n 0) (take n state.words) 0 n
      (record {
        each = zeros ∙ sym (length-take-le n state.words enough);
        same = λ k few none. let below : k < n = subst (λ m. k < m) zeros few in
            get_or-replicate n k 0 0 below ∙ sym (kept_none k (word_at state (Ram k)) none) ∙ memory_word k below;
        told = λ k ram ys few some. let below : k < n = subst (λ m. k < m) zeros few in
            ap (put ys) (some_is ram (record { index = k; word = word_at state (Ram k) }) (kept_some k (word_at state (Ram k)) ram some)) ∙ ap (set ys k) (memory_word k below);
      })
      (sym zeros)

  -- ---- redistributors

  own_word : (n vcpu : ℕ) → vcpu < state.shape.vcpus → cond (ltb vcpu state.shape.vcpus) (get_or state.words n 0) 0 ≡ get_or state.words n 0
  own_word n vcpu there = ap (λ b. cond b (get_or state.words n 0) 0) (lt-ltb vcpu state.shape.vcpus there)

  redists_from : (first count : ℕ) → first + count ≤ state.shape.vcpus
      → redist_words (map (redist_state state) (range_with_len first count)) ≡ take (2 * count) (drop (vcpus_from state.shape + 2 * first) state.words)
  redists_from first zero few = refl
  redists_from first (suc count) few =
      let at = vcpus_from state.shape + 2 * first in
      let words = state.words in
      let there : first < state.shape.vcpus = omega arith in
      let one : at < length words = omega (arith, long) in
      let two : at + 1 < length words = omega (arith, long) in
      let after : at + 1 + 1 ≡ vcpus_from state.shape + 2 * (first + 1) = omega arith in
      let most : 2 * suc count ≡ suc (suc (2 * count)) = omega arith in
      let split : drop at words ≡ get_or words at 0 ∷ get_or words (at + 1) 0 ∷ drop (vcpus_from state.shape + 2 * (first + 1)) words =
      drop_more words at 0 one ∙ ap (λ ys. get_or words at 0 ∷ ys) (drop_more words (at + 1) 0 two ∙ ap (λ n. get_or words (at + 1) 0 ∷ drop n words) after) in
      ap (λ w. w ∷ word_at state (Pendbaser first) ∷ redist_words (map (redist_state state) (range_with_len (first + 1) count))) (own_word at first there)
      ∙ ap (λ w. get_or words at 0 ∷ w ∷ redist_words (map (redist_state state) (range_with_len (first + 1) count))) (own_word (at + 1) first there)
      ∙ ap (λ ys. get_or words at 0 ∷ get_or words (at + 1) 0 ∷ ys) (redists_from (first + 1) count (omega arith))
      ∙ ap (take (suc (suc (2 * count)))) (sym split)
      ∙ ap (λ n. take n (drop at words)) (sym most)

  pub redists_back : redist_words (map (redist_state state) (range_with_len 0 state.shape.vcpus)) ≡ take (2 * state.shape.vcpus) (drop (vcpus_from state.shape) state.words)
  redists_back =
      let from : vcpus_from state.shape + 2 * 0 ≡ vcpus_from state.shape = omega arith in
      redists_from 0 state.shape.vcpus (omega arith) ∙ ap (λ n. take (2 * state.shape.vcpus) (drop n state.words)) from

  -- ---- the ITS

  -- the words of the ITS, with this as the number of a fault
  pub six : ℕ → List ℕ
  six fault = word_at state ItsCtlr ∷ word_at state Cbaser ∷ word_at state Cwriter ∷ word_at state Baser0 ∷ word_at state Baser1 ∷ fault ∷ []

  pub last_six : drop (its_from state.shape) state.words ≡ six (word_at state Fault)
  unfolding six
  last_six =
      let n = its_from state.shape in
      let words = state.words in
      let more : (k m : ℕ) → k + 1 ≡ m → k < n + 6 → drop k words ≡ get_or words k 0 ∷ drop m words = λ k m e few. drop_more words k 0 (omega (arith, long)) ∙ ap (λ j. get_or words k 0 ∷ drop j words) e in
      let none : drop (n + 6) words ≡ [] = drop_all (n + 6) words (omega (arith, long)) in
      more n (n + 1) refl (omega arith)
      ∙ ap (λ ys. get_or words n 0 ∷ ys)
      (more (n + 1) (n + 2) (omega arith) (omega arith)
      ∙ ap (λ ys. get_or words (n + 1) 0 ∷ ys)
      (more (n + 2) (n + 3) (omega arith) (omega arith)
      ∙ ap (λ ys. get_or words (n + 2) 0 ∷ ys)
      (more (n + 3) (n + 4) (omega arith) (omega arith)
      ∙ ap (λ ys. get_or words (n + 3) 0 ∷ ys)
      (more (n + 4) (n + 5) (omega arith) (omega arith)
      ∙ ap (λ ys. get_or words (n + 4) 0 ∷ ys) (more (n + 5) (n + 6) (omega arith) (omega arith) ∙ ap (λ ys. get_or words (n + 5) 0 ∷ ys) none)))))

  -- the words before them
  pub before_its : take (vcpus_from state.shape) state.words ++ take (2 * state.shape.vcpus) (drop (vcpus_from state.shape) state.words) ≡ take (its_from state.shape) state.words
  before_its = sym (take-add (vcpus_from state.shape) (2 * state.shape.vcpus) state.words)

  pub all_words : state.words ≡ take (its_from state.shape) state.words ++ six (word_at state Fault)
  all_words = sym (take-append-drop (its_from state.shape) state.words) ∙ ap (λ ys. take (its_from state.shape) state.words ++ ys) last_six

  with_no_fault : set state.words (its_from state.shape + 5) 0 ≡ take (its_from state.shape) state.words ++ six 0
  unfolding six
  with_no_fault =
      let n = its_from state.shape in
      let long_of : length (take n state.words) ≡ n = length-take-le n state.words (omega (arith, long)) in
      let five : n + 5 - n ≡ 5 = omega arith in
      ap (λ ys. set ys (n + 5) 0) all_words
      ∙ set-append_right (take n state.words) (six (word_at state Fault)) n (n + 5) 0 long_of (omega arith)
      ∙ ap (λ k. take n state.words ++ set (six (word_at state Fault)) k 0) five

  -- the number of the fault that is saved
  pub fault_of : ℕ
  fault_of = if state.is_stalled then word_at state Fault else 0

  faultless : (b : Bool) → (if b then state.words else set state.words (its_from state.shape + 5) 0) ≡ take (its_from state.shape) state.words ++ six (if b then word_at state Fault else 0)
  faultless true = all_words
  faultless false = with_no_fault

  -- Entry_Size and Type are not stored
  reads_back : (table : Table) (word : ℕ) → word ≡ baser_bits word → baser_bits (baser_of table word) ≡ word
  reads_back Devices word stored = omega (arith, stored)
  reads_back Collections word stored = omega (arith, stored)

  its_told : IsStored state → (b : Bool) → has_lpis state.shape ≡ b → its_words (if b then Some (its_state state) else None) ≡ six (if state.is_stalled then word_at state Fault else 0)
  unfolding six
  its_told stored true e =
      ap (λ w. w ∷ word_at state Cbaser ∷ word_at state Cwriter ∷ baser_bits (baser_of Devices (word_at state Baser0)) ∷ baser_bits (baser_of Collections (word_at state Baser1)) ∷ (if state.is_stalled then word_at state Fault else 0) ∷ []) (sym stored.ctlr)
      ∙ ap (λ w. word_at state ItsCtlr ∷ word_at state Cbaser ∷ word_at state Cwriter ∷ w ∷ baser_bits (baser_of Collections (word_at state Baser1)) ∷ (if state.is_stalled then word_at state Fault else 0) ∷ []) (reads_back Devices (word_at state Baser0) stored.baser0)
      ∙ ap (λ w. word_at state ItsCtlr ∷ word_at state Cbaser ∷ word_at state Cwriter ∷ word_at state Baser0 ∷ w ∷ (if state.is_stalled then word_at state Fault else 0) ∷ []) (reads_back Collections (word_at state Baser1) stored.baser1)
  its_told stored false e =
      let none = stored.none e in
      let zero_of : (if state.is_stalled then word_at state Fault else 0) ≡ 0 = rw none.running refl in
      sym (cc (none.ctlr, none.cbaser, none.cwriter, none.baser0, none.baser1, zero_of))

  pub words_back : IsStored state
      → memory_of state.shape (rams_of state (state.shape.ram / 8)) ++ (redist_words (map (redist_state state) (range_with_len 0 state.shape.vcpus)) ++ its_words (if has_lpis state.shape then Some (its_state state) else None))
      ≡ (if state.is_stalled then state.words else set state.words (its_from state.shape + 5) 0)
  words_back stored =
      let fault = if state.is_stalled then word_at state Fault else 0 in
      ap (λ ys. ys ++ (redist_words (map (redist_state state) (range_with_len 0 state.shape.vcpus)) ++ its_words (if has_lpis state.shape then Some (its_state state) else None))) memory_back
      ∙ ap (λ ys. take (vcpus_from state.shape) state.words ++ (ys ++ its_words (if has_lpis state.shape then Some (its_state state) else None))) redists_back
      ∙ ap (λ ys. take (vcpus_from state.shape) state.words ++ (take (2 * state.shape.vcpus) (drop (vcpus_from state.shape) state.words) ++ ys)) (its_told stored (has_lpis state.shape) refl)
      ∙ sym (append_assoc (take (vcpus_from state.shape) state.words) (take (2 * state.shape.vcpus) (drop (vcpus_from state.shape) state.words)) (six fault))
      ∙ ap (λ ys. ys ++ six fault) before_its
      ∙ sym (faultless state.is_stalled)
