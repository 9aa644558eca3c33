-- An access of registers that stand for an interface follows the rules of a CPU interface.
use Rattle.std.proofs.Common.{◌≡◌, ◌≤◌, ◌<◌, ◌+◌, ◌/◌, ◌%◌, ◌^◌, ℕ, zero, suc, Bool, true, false, not, ◌&&◌, ◌||◌, cond, if◌then◌else◌, nat_eq, nat_lt, Option, Some, None, List, [], ◌∷◌, ◌++◌, length, filter, find, get_or, set, take, position, Contains, ◌⊎◌, inl, inr, refl, sym, ap, ◌∙◌, subst, arith}
use Rattle.std.specs.List.{position_or_len}
use Rattle.std.specs.Option.{option_map_or}
use Rattle.std.proofs.Math.Seq.{take-set-lt}
use Rattle.std.proofs.lemmas.Grind.{common_steps}
use Rattle.std.proofs.lemmas.Option.{none-some, same_Some}
use Rattle.std.proofs.lemmas.List.{get_or-take}
use Rattle.std.proofs.lemmas.List.Quantifiers.{position-Some}
use Rattle.gic_ich.specs.GicWord.declared.record.Group.{Group}
use Rattle.gic_ich.specs.Words.{G0, G1, has_bit, IccReg, intid_of}
use Rattle.gic_ich.specs.GicLr.Entry.{unpacked, state_has_pending, state_has_active}
use Rattle.gic_ich.specs.GicPrio.declared.cpu.CpuRec.{CpuRec}
use Rattle.gic_ich.specs.GicPrio.declared.candidate.Candidate.{Candidate}
use Rattle.gic_ich.specs.GicPrio.Delivery.{first_of, is_group_enabled}
use Rattle.gic_ich.specs.GicPrio.Signal.{is_same_group, ended}
use Rattle.gic_ich.specs.GicPrio.Access.{taken_by, deactivated_by, answer_of, cpu_after}
use Rattle.gic_ich.specs.GicPrio.Interface.{AtInterface, InterfaceState, candidates_at, changed_at, acknowledged_entry, deactivated_entry, acknowledged_at, deactivated_at, IsInterface, interface_after}
use Rattle.gic_ich.proofs.GicPrio.FirstLemmas.{first_is}
use Rattle.gic_ich.proofs.GicPrio.AccessLemmas.{taken_first}
use Rattle.gic_ich.proofs.GicPrio.EntryLemmas.{AreEntries, acknowledged_entries, stays_interface}
use Rattle.gic_ich.specs.declared.regs.IchRegs.{IchRegs}
use Rattle.gic_ich.specs.Regs.{listed_of}
use Rattle.gic_ich.specs.Status.{is_pending}
use Rattle.gic_ich.specs.Vmcr.{vmcr_with}
use Rattle.gic_icv.specs.declared.registers.Outcome.{Outcome}
use Rattle.gic_icv.specs.Entries.{candidate_in, candidates_in, has_candidate, has_active, acknowledged_word, deactivated_word}
use Rattle.gic_icv.specs.Registers.{cpu_in, candidates_of, first_changed, after_acknowledge, is_counted, counted, after_deactivation_of, after_deactivation, with_cpu, registers_after, answered}
use Rattle.gic_ich.specs.Place.{Seen, seen_in, seen_of}
use Rattle.gic_icv.specs.Agree.{is_live, seen_words, seen_entries, Agrees, Follows}
use Rattle.gic_icv.proofs.CpuLemmas.{deaf, holds, vmcr_replaced}
use Rattle.gic_icv.proofs.DeafLemmas.{taken_shown, answer_shown, deactivated_deaf, cpu_after_deaf}
use Rattle.gic_icv.proofs.FirstLemmas.{ShowSame, source_of, first_agrees, find_once, find_among, cons_cases, head_is, in_tail, pending_alone}
use Rattle.gic_icv.proofs.ChangeLemmas.{seen_acknowledged, seen_deactivated, word_acknowledged, word_deactivated, seen_after, split, seen_split, Replaced, found_replaced, once_replaced, IsEntryChange, found_changed, entry_acknowledged, entry_deactivated, deactivated_dead}

-- an interface shows each INTID once
pub live_once : (id : ℕ) (at : List AtInterface) → length (filter (is_live id) (seen_entries at)) ≤ length (filter (λ entry. nat_eq (intid_of entry.key) id) at)
live_once id [] = omega arith
live_once id (entry ∷ at) = by_head (nat_eq (intid_of entry.key) id) (entry.pending || entry.active) (live_once id at)
  where
    by_head : (b c : Bool) → length (filter (is_live id) (seen_entries at)) ≤ length (filter (λ entry. nat_eq (intid_of entry.key) id) at) → length (cond (b && c) (seen_of entry ∷ filter (is_live id) (seen_entries at)) (filter (is_live id) (seen_entries at))) ≤ length (cond b (entry ∷ filter (λ entry. nat_eq (intid_of entry.key) id) at) (filter (λ entry. nat_eq (intid_of entry.key) id) at))
    by_head true true g = omega (arith, g)
    by_head true false g = omega (arith, g)
    by_head false c g = g

-- list registers and an interface that show the same
pub record Shows (words : List ℕ) (at : List AtInterface) : Type 0 where
  pub same : (id : ℕ) → find (is_live id) (seen_words words) ≡ find (is_live id) (seen_entries at)
  pub once : (id : ℕ) → length (filter (is_live id) (seen_words words)) ≤ 1

pub both_once : (words : List ℕ) (at : List AtInterface) → Shows words at → AreEntries at → ShowSame (seen_words words) (seen_entries at)
both_once words at shows are =
    record { same = shows.same; once_a = shows.once; once_b = λ id. (let some = live_once id at in let few = are.once id in omega (arith, some, few)) }

-- a change of the list register that has a live interrupt is the change of that interrupt
changed_shows :
    (words : List ℕ) (at : List AtInterface) (place k : ℕ) (word_change : ℕ → ℕ) (change : AtInterface → AtInterface) (seen_change : Seen → Seen) → Shows words at → AreEntries at → place < length words → is_live k (seen_in (get_or words place 0)) ≡ true → ((word : ℕ) → seen_in (word_change word) ≡ seen_change (seen_in word)) → IsEntryChange change seen_change
    → Shows (set words place (word_change (get_or words place 0))) (changed_at change k at)
changed_shows words at place k word_change change seen_change shows are within live word_is entry_is =
    let word = get_or words place 0 in
    let cut = split words place (word_change word) within in
    let front = seen_words cut.front in
    let back = seen_words cut.back in
    let s = seen_in word in
    let t = seen_in (word_change word) in
    let was : seen_words words ≡ front ++ s ∷ back = ap seen_words cut.was ∙ seen_split cut.front cut.back word in
    let is : seen_words (set words place (word_change word)) ≡ front ++ t ∷ back = ap seen_words cut.is ∙ seen_split cut.front cut.back (word_change word) in
    let s_id : s.id ≡ k = live_id s k live in
    let t_id : t.id ≡ k = ap (λ x. x.id) (word_is word) ∙ entry_is.id s ∙ s_id in
    let replaced : Replaced front back k s t = record { live = live; id = t_id; once = subst (λ xs. length (filter (is_live k) xs) ≤ 1) was (shows.once k) } in
    let among : Contains (seen_words words) s = subst (λ xs. Contains xs s) (sym was) (in_middle front back s) in
    let there : find (is_live k) (seen_entries at) ≡ Some s = sym (shows.same k) ∙ find_once (is_live k) (seen_words words) s (shows.once k) among live in
    let after : seen_after seen_change k (find (is_live k) (seen_entries at)) ≡ cond (is_live k t) (Some t) None = ap (seen_after seen_change k) there ∙ ap (λ x. cond (is_live k x) (Some x) None) (sym (word_is word)) in
    record {
      same = λ id.
          ap (find (is_live id)) is
          ∙ found_replaced front back k s t replaced id
          ∙ ap (λ xs. cond (nat_eq id k) (cond (is_live k t) (Some t) None) (find (is_live id) xs)) (sym was)
          ∙ ap (λ o. cond (nat_eq id k) (cond (is_live k t) (Some t) None) o) (shows.same id)
          ∙ ap (λ o. cond (nat_eq id k) o (find (is_live id) (seen_entries at))) (sym after)
          ∙ sym (found_changed change seen_change entry_is k at (are.once k) are.kinds (λ none x e. absurd (none-some s (sym none ∙ there))) id);
      once = λ id.
          let less = once_replaced front back k s t replaced id in
          let few : length (filter (is_live id) (front ++ s ∷ back)) ≤ 1 = subst (λ xs. length (filter (is_live id) xs) ≤ 1) was (shows.once id) in
          subst (λ xs. length (filter (is_live id) xs) ≤ 1) (sym is) (omega (arith, less, few));
    }
  where
    live_id : (s : Seen) (k : ℕ) → is_live k s ≡ true → s.id ≡ k
    live_id s k e = grind (arith, common_steps)

    in_middle : (front back : List Seen) (s : Seen) → Contains (front ++ s ∷ back) s
    in_middle [] back s = head_is s back
    in_middle (x ∷ front) back s = in_tail x s (front ++ s ∷ back) (in_middle front back s)

-- a search for a place finds one where some element passes
pub some_place : (p : ℕ → Bool) (words : List ℕ) (word : ℕ) → Contains words word → p word ≡ true → nat_lt (position_or_len p words) (length words) ≡ true
some_place p [] word (k, within, is) e = absurd (omega (arith, within))
some_place p (x ∷ words) word h e =
    elim (cons_cases x word words h) [
      | inl same ↦ (let passes : p x ≡ true = ap p same ∙ e in subst (λ b. nat_lt (cond (not b) (1 + position_or_len p words) 0) (suc (length words)) ≡ true) (sym passes) (grind arith))
      | inr rest ↦ by_head (p x) (some_place p words word rest e)
    ]
  where
    by_head : (b : Bool) → nat_lt (position_or_len p words) (length words) ≡ true → nat_lt (cond (not b) (1 + position_or_len p words) 0) (suc (length words)) ≡ true
    by_head true g = grind arith
    by_head false g = grind arith

pub none_placed : (p : ℕ → Bool) (words : List ℕ) (word : ℕ) → Contains words word → p word ≡ true → position p words ≡ None → ⊥
none_placed p words word h e f = none-some (position_or_len p words) (sym f ∙ ap (λ b. cond b (Some (position_or_len p words)) None) (some_place p words word h e))

-- the list registers after a change of one
pub record Changed (is_so : ℕ → Bool) (change : ℕ → ℕ) (regs otherwise : IchRegs) (place : ℕ) : Type 0 where
  pub within : place < length (listed_of regs)
  pub passes : is_so (get_or (listed_of regs) place 0) ≡ true
  pub listed : listed_of (first_changed is_so change regs otherwise) ≡ set (listed_of regs) place (change (get_or (listed_of regs) place 0))

pub changed_at_place : (is_so : ℕ → Bool) (change : ℕ → ℕ) (regs otherwise : IchRegs) (place : ℕ) → position is_so (listed_of regs) ≡ Some place → Changed is_so change regs otherwise place
changed_at_place is_so change regs otherwise place e =
    let facts = position-Some is_so (listed_of regs) place 0 e in
    let few : length (take regs.n regs.lr) ≤ regs.n = few_taken regs.n regs.lr in
    let below : place < regs.n = omega (arith, few, facts.0) in
    record {
      within = facts.0;
      passes = facts.1;
      listed =
          ap (λ o. listed_of (option_map_or (λ place. record regs { lr = set regs.lr place (change (get_or regs.lr place 0)) }) o otherwise)) e
          ∙ take-set-lt regs.n regs.lr place (change (get_or regs.lr place 0)) below
          ∙ ap (λ word. set (take regs.n regs.lr) place (change word)) (sym (get_or-take regs.n regs.lr place 0 below));
    }
  where
    few_taken : (n : ℕ) (xs : List ℕ) → length (take n xs) ≤ n
    few_taken zero xs = omega arith
    few_taken (suc n) [] = omega arith
    few_taken (suc n) (x ∷ xs) = let rest = few_taken n xs in omega (arith, rest)

same_group : (group : Group) → is_same_group group group ≡ true
same_group G0 = refl
same_group G1 = refl

-- the list register in which a candidate was found has it
pub has_it : (cpu : CpuRec) (f : Candidate) (word : ℕ) → candidate_in cpu word ≡ Some f → has_candidate f word ≡ true
has_it cpu f word e = by_test (is_pending word) (is_group_enabled (unpacked word).group cpu) e
  where
    by_test : (b c : Bool) → cond (b && c) (Some (record { id = (unpacked word).id; prio = (unpacked word).prio; group = (unpacked word).group })) None ≡ Some f → (b && nat_eq (unpacked word).id f.id && nat_eq (unpacked word).prio f.prio && is_same_group (unpacked word).group f.group) ≡ true
    by_test true true g =
        let one : Candidate = record { id = (unpacked word).id; prio = (unpacked word).prio; group = (unpacked word).group } in
        let is : one ≡ f = same_Some one f g in
        let id : (unpacked word).id ≡ f.id = ap (λ c. c.id) is in
        let prio : (unpacked word).prio ≡ f.prio = ap (λ c. c.prio) is in
        let group : (unpacked word).group ≡ f.group = ap (λ c. c.group) is in
        rw (id, prio, group, same_group f.group) (grind arith)
    by_test true false g = absurd (none-some f g)
    by_test false c g = absurd (none-some f g)

-- a list register that has a candidate, or an active interrupt, is live
pub candidate_live : (f : Candidate) (word : ℕ) → has_candidate f word ≡ true → is_live f.id (seen_in word) ≡ true
candidate_live f word e =
    let state = (unpacked word).state in
    by_test (is_pending word) (nat_eq (unpacked word).id f.id) (nat_eq (unpacked word).prio f.prio) (is_same_group (unpacked word).group f.group) (state_has_pending state) (state_has_active state)
    (nat_eq (unpacked word).id f.id) (pending_alone state) refl e
  where
    by_test : (p id prio group pending active same : Bool) → p ≡ (pending && not active) → id ≡ same → (p && id && prio && group) ≡ true → (same && (pending || active)) ≡ true
    by_test p id prio group pending active same e f g = grind (arith, common_steps)

pub active_live : (k word : ℕ) → has_active k word ≡ true → is_live k (seen_in word) ≡ true
active_live k word e = by_test (nat_eq (unpacked word).id k) (state_has_pending (unpacked word).state) (state_has_active (unpacked word).state) e
  where
    by_test : (same pending active : Bool) → (same && active) ≡ true → (same && (pending || active)) ≡ true
    by_test same pending active e = grind (arith, common_steps)

-- an acknowledge of the first candidate
acknowledge_shows : (regs : IchRegs) (at : List AtInterface) (cpu : CpuRec) (f : Candidate) → Shows (listed_of regs) at → AreEntries at → first_of (candidates_in (deaf cpu) (listed_of regs)) ≡ Some f → Shows (listed_of (after_acknowledge (Some f) regs)) (acknowledged_at (Some f) at)
acknowledge_shows regs at cpu f shows are e =
    let words = listed_of regs in
    let first = first_is (candidates_in (deaf cpu) words) f e in
    let from = source_of (candidate_in (deaf cpu)) words f first.among in
    by_place (position (has_candidate f) words) refl (none_placed (has_candidate f) words from.of from.among (has_it (deaf cpu) f from.of from.is))
  where
    by_place : (o : Option ℕ) → position (has_candidate f) (listed_of regs) ≡ o → (position (has_candidate f) (listed_of regs) ≡ None → ⊥) → Shows (listed_of (after_acknowledge (Some f) regs)) (acknowledged_at (Some f) at)
    by_place None i never = absurd (never i)
    by_place (Some place) i never =
        let changed = changed_at_place (has_candidate f) acknowledged_word regs regs place i in
        subst (λ words. Shows words (acknowledged_at (Some f) at)) (sym changed.listed)
        (changed_shows (listed_of regs) at place f.id acknowledged_word acknowledged_entry seen_acknowledged shows are changed.within (candidate_live f (get_or (listed_of regs) place 0) changed.passes) word_acknowledged entry_acknowledged)

-- the list register in which something is seen
pub word_of : (words : List ℕ) (s : Seen) → Contains (seen_words words) s → (word : ℕ) × Contains words word × (seen_in word ≡ s)
word_of [] s (k, within, is) = absurd (omega (arith, within))
word_of (x ∷ words) s h = by_head (word_of words s) (cons_cases (seen_in x) s (seen_words words) h)
  where
    by_head : (Contains (seen_words words) s → (word : ℕ) × Contains words word × (seen_in word ≡ s)) → (seen_in x ≡ s) ⊎ Contains (seen_words words) s → (word : ℕ) × Contains (x ∷ words) word × (seen_in word ≡ s)
    by_head rest (inl same) = (x, head_is x words, same)
    by_head rest (inr among) = let found = rest among in (found.0, in_tail x found.0 words found.1, found.2)

pub found_passes : (p : Seen → Bool) (seen : List Seen) (s : Seen) → find p seen ≡ Some s → p s ≡ true
found_passes p [] s e = absurd (none-some s e)
found_passes p (x ∷ seen) s e = by_head (p x) refl (found_passes p seen s) e
  where
    by_head : (b : Bool) → p x ≡ b → (find p seen ≡ Some s → p s ≡ true) → cond b (Some x) (find p seen) ≡ Some s → p s ≡ true
    by_head true f rest g = ap p (sym (same_Some x s g)) ∙ f
    by_head false f rest g = rest g

-- where no list register has the interrupt active, its deactivation changes nothing that is seen
none_active : (words : List ℕ) (k : ℕ) → position (has_active k) words ≡ None → (o : Option Seen) → find (is_live k) (seen_words words) ≡ o → seen_after seen_deactivated k o ≡ o
none_active words k none None e = refl
none_active words k none (Some s) e =
    let found = word_of words s (find_among (is_live k) (seen_words words) s e) in
    let live = found_passes (is_live k) (seen_words words) s e in
    by_active s.active refl live (λ f. none_placed (has_active k) words found.0 found.1 (active found.0 s found.2 live f) none)
  where
    active : (word : ℕ) (s : Seen) → seen_in word ≡ s → is_live k s ≡ true → s.active ≡ true → has_active k word ≡ true
    active word s is live f = both (nat_eq (unpacked word).id k) (state_has_active (unpacked word).state) s.pending (ap (λ x. nat_eq x.id k) is) (ap (λ x. x.active) is ∙ f) live
      where
        both : (same on pending : Bool) → same ≡ nat_eq s.id k → on ≡ true → (nat_eq s.id k && (pending || s.active)) ≡ true → (same && on) ≡ true
        both same on pending e f g = grind (arith, common_steps)

    by_active : (b : Bool) → s.active ≡ b → is_live k s ≡ true → (s.active ≡ true → ⊥) → cond (is_live k (seen_deactivated s)) (Some (seen_deactivated s)) None ≡ Some s
    by_active true f live never = absurd (never f)
    by_active false f live never =
        let same : seen_deactivated s ≡ s = ap (λ b. record s { active = b }) (sym f) in
        ap (λ x. cond (is_live k x) (Some x) None) same ∙ ap (λ b. cond b (Some s) None) live

-- a deactivation
deactivation_shows : (regs : IchRegs) (at : List AtInterface) (k : ℕ) → Shows (listed_of regs) at → AreEntries at → Shows (listed_of (after_deactivation_of k regs)) (deactivated_at (Some k) at)
deactivation_shows regs at k shows are = by_place (position (has_active k) (listed_of regs)) refl
  where
    otherwise : IchRegs
    otherwise = if is_counted k then counted regs else regs

    listed_otherwise : (b : Bool) → listed_of (if b then counted regs else regs) ≡ listed_of regs
    listed_otherwise true = refl
    listed_otherwise false = refl

    by_place : (o : Option ℕ) → position (has_active k) (listed_of regs) ≡ o → Shows (listed_of (after_deactivation_of k regs)) (deactivated_at (Some k) at)
    by_place None i =
        let same : listed_of (after_deactivation_of k regs) ≡ listed_of regs = ap (λ o. listed_of (option_map_or (λ place. record regs { lr = set regs.lr place (deactivated_word (get_or regs.lr place 0)) }) o otherwise)) i ∙ listed_otherwise (is_counted k) in
        subst (λ words. Shows words (deactivated_at (Some k) at)) (sym same)
        (record {
          same = λ id. sym (found_changed deactivated_entry seen_deactivated entry_deactivated k at (are.once k) are.kinds (deactivated_dead k at) id ∙ unchanged (nat_eq id k) id refl i);
          once = shows.once;
        })
      where
        eq_of : (m n : ℕ) → nat_eq m n ≡ true → m ≡ n
        eq_of m n e = grind arith

        unchanged : (b : Bool) (id : ℕ) → nat_eq id k ≡ b → position (has_active k) (listed_of regs) ≡ None → cond b (seen_after seen_deactivated k (find (is_live k) (seen_entries at))) (find (is_live id) (seen_entries at)) ≡ find (is_live id) (seen_words (listed_of regs))
        unchanged false id e i = sym (shows.same id)
        unchanged true id e i =
            let is : id ≡ k = eq_of id k e in
            ap (seen_after seen_deactivated k) (sym (shows.same k))
            ∙ none_active (listed_of regs) k i (find (is_live k) (seen_words (listed_of regs))) refl
            ∙ ap (λ n. find (is_live n) (seen_words (listed_of regs))) (sym is)
    by_place (Some place) i =
        let changed = changed_at_place (has_active k) deactivated_word regs otherwise place i in
        subst (λ words. Shows words (deactivated_at (Some k) at)) (sym changed.listed)
        (changed_shows (listed_of regs) at place k deactivated_word deactivated_entry seen_deactivated shows are changed.within (active_live k (get_or (listed_of regs) place 0) changed.passes) word_deactivated entry_deactivated)

-- what an access keeps of the registers
record Keeps (before after : IchRegs) : Type 0 where
  pub vmcr : after.vmcr ≡ before.vmcr
  pub enabled : has_bit before.hcr 0 ≡ true → has_bit after.hcr 0 ≡ true

first_keeps : (is_so : ℕ → Bool) (change : ℕ → ℕ) (regs otherwise : IchRegs) → Keeps regs otherwise → Keeps regs (first_changed is_so change regs otherwise)
first_keeps is_so change regs otherwise keeps = by_place (position is_so (listed_of regs))
  where
    by_place : (o : Option ℕ) → Keeps regs (option_map_or (λ place. record regs { lr = set regs.lr place (change (get_or regs.lr place 0)) }) o otherwise)
    by_place None = keeps
    by_place (Some place) = record { vmcr = refl; enabled = λ e. e }

acknowledge_keeps : (taken : Option Candidate) (regs : IchRegs) → Keeps regs (after_acknowledge taken regs)
acknowledge_keeps None regs = record { vmcr = refl; enabled = λ e. e }
acknowledge_keeps (Some f) regs = first_keeps (has_candidate f) acknowledged_word regs regs (record { vmcr = refl; enabled = λ e. e })

deactivation_keeps : (ended : Option ℕ) (regs : IchRegs) → Keeps regs (after_deactivation ended regs)
deactivation_keeps None regs = record { vmcr = refl; enabled = λ e. e }
deactivation_keeps (Some k) regs = first_keeps (has_active k) deactivated_word regs (if is_counted k then counted regs else regs) (by_id (is_counted k))
  where
    by_id : (b : Bool) → Keeps regs (if b then counted regs else regs)
    by_id true =
        let low : (regs.hcr + 2 ^ 27) % 2 ^ 32 / 1 % 2 ≡ regs.hcr / 1 % 2 = omega arith in
        record { vmcr = refl; enabled = λ e. ap (λ n. nat_eq n 1) low ∙ e }
    by_id false = record { vmcr = refl; enabled = λ e. e }

-- the list registers show what the interface shows after the access
taken_shows : (regs : IchRegs) (at : List AtInterface) (cpu : CpuRec) (taken : Option Candidate) → Shows (listed_of regs) at → AreEntries at → ((f : Candidate) → taken ≡ Some f → first_of (candidates_in (deaf cpu) (listed_of regs)) ≡ Some f) → Shows (listed_of (after_acknowledge (taken) regs)) (acknowledged_at taken at)
taken_shows regs at cpu None shows are first = shows
taken_shows regs at cpu (Some f) shows are first = acknowledge_shows regs at cpu f shows are (first f refl)

ended_shows : (regs : IchRegs) (at : List AtInterface) (ended : Option ℕ) → Shows (listed_of regs) at → AreEntries at → Shows (listed_of (after_deactivation ended regs)) (deactivated_at ended at)
ended_shows regs at None shows are = shows
ended_shows regs at (Some k) shows are = deactivation_shows regs at k shows are

-- the registers after an access by a record that they hold
abbrev pub registers_by : CpuRec → IccReg → Option ℕ → IchRegs → IchRegs
registers_by cpu reg write regs =
    with_cpu (cpu_after reg write cpu (candidates_in cpu (listed_of regs))) (after_deactivation (deactivated_by reg write cpu) (after_acknowledge (taken_by reg write cpu (candidates_in cpu (listed_of regs))) regs))

-- the parts of an access of an interface
abbrev pub access_by : CpuRec → Option ℕ → Option Candidate → IchRegs → IchRegs
access_by cpu ended taken regs = with_cpu (deaf cpu) (after_deactivation ended (after_acknowledge (taken) regs))

agrees_after : (reg : IccReg) (write : Option ℕ) (regs : IchRegs) (interface : InterfaceState) → IsInterface interface → Agrees regs interface
    → Agrees (access_by (cpu_after reg write interface.cpu (candidates_at interface)) (deactivated_by reg write interface.cpu) (taken_by reg write interface.cpu (candidates_at interface)) regs) (interface_after reg write interface)
agrees_after reg write regs interface is agrees =
    let cpu = interface.cpu in
    let taken = taken_by reg write cpu (candidates_at interface) in
    let ended = deactivated_by reg write cpu in
    let after = cpu_after reg write cpu (candidates_at interface) in
    let are : AreEntries interface.at = record { once = is.once; kinds = is.kinds } in
    let shows : Shows (listed_of regs) interface.at = record { same = agrees.same; once = agrees.once } in
    let first = first_agrees (listed_of regs) interface (both_once (listed_of regs) interface.at shows are) in
    let acknowledged = after_acknowledge (taken) regs in
    let shows_taken = taken_shows regs interface.at cpu taken shows are (λ f e. first ∙ taken_first reg write cpu (candidates_at interface) f e) in
    let shows_ended = ended_shows acknowledged (acknowledged_at taken interface.at) ended shows_taken (acknowledged_entries taken interface.at are) in
    let keeps_taken = acknowledge_keeps (taken) regs in
    let keeps_ended = deactivation_keeps ended acknowledged in
    record {
      holds = record {
        enabled = keeps_ended.enabled (keeps_taken.enabled agrees.holds.enabled);
        vmcr = ap (λ vmcr. vmcr_with vmcr (deaf after)) (keeps_ended.vmcr ∙ keeps_taken.vmcr ∙ agrees.holds.vmcr) ∙ vmcr_replaced cpu (deaf after) is.points;
        ap0 = refl;
        ap1 = refl;
      };
      same = shows_ended.same;
      once = shows_ended.once;
    }

-- the parts are those of the interface, where the first candidate is the same
pub parts_shown : (reg : IccReg) (write : Option ℕ) (regs : IchRegs) (interface : InterfaceState) → first_of (candidates_in (deaf interface.cpu) (listed_of regs)) ≡ first_of (candidates_at interface)
    → registers_by (deaf interface.cpu) reg write regs ≡ access_by (cpu_after reg write interface.cpu (candidates_at interface)) (deactivated_by reg write interface.cpu) (taken_by reg write interface.cpu (candidates_at interface)) regs
parts_shown reg write regs interface first =
    let cpu = interface.cpu in
    let words = candidates_in (deaf cpu) (listed_of regs) in
    let at = candidates_at interface in
    joined (cpu_after reg write (deaf cpu) words) (deaf (cpu_after reg write cpu at)) (deactivated_by reg write (deaf cpu)) (deactivated_by reg write cpu) (taken_by reg write (deaf cpu) words) (taken_by reg write cpu at)
    (cpu_after_deaf reg write cpu words at first) (deactivated_deaf reg write cpu) (taken_shown reg write cpu words at first)
  where
    joined : (a b : CpuRec) (c d : Option ℕ) (e f : Option Candidate) → a ≡ b → c ≡ d → e ≡ f → with_cpu a (after_deactivation c (after_acknowledge e regs)) ≡ with_cpu b (after_deactivation d (after_acknowledge f regs))
    joined a b c d e f g h i = rw (g, h, i) refl

-- with the record as the interface has it
follows_deaf : (reg : IccReg) (write : Option ℕ) (regs : IchRegs) (interface : InterfaceState) → IsInterface interface → Agrees regs interface
    → Follows reg write interface (answered (answer_of reg write (deaf interface.cpu) (candidates_in (deaf interface.cpu) (listed_of regs)))) (registers_by (deaf interface.cpu) reg write regs)
follows_deaf reg write regs interface is agrees =
    let cpu = interface.cpu in
    let words = candidates_in (deaf cpu) (listed_of regs) in
    let at = candidates_at interface in
    let are : AreEntries interface.at = record { once = is.once; kinds = is.kinds } in
    let shows : Shows (listed_of regs) interface.at = record { same = agrees.same; once = agrees.once } in
    let first = first_agrees (listed_of regs) interface (both_once (listed_of regs) interface.at shows are) in
    let parts = parts_shown reg write regs interface first in
    record {
      answer = ap answered (answer_shown reg write cpu words at first);
      stays = stays_interface reg write interface is;
      registers = subst (λ after. Agrees after (interface_after reg write interface)) (sym parts) (agrees_after reg write regs interface is agrees);
    }

pub follows : (reg : IccReg) (write : Option ℕ) (regs : IchRegs) (interface : InterfaceState) → IsInterface interface → Agrees regs interface → Follows reg write interface (answered (answer_of reg write (cpu_in regs) (candidates_of regs))) (registers_after reg write regs)
follows reg write regs interface is agrees =
    let hold : cpu_in regs ≡ deaf interface.cpu = holds regs interface.cpu is.points agrees.holds.vmcr agrees.holds.ap0 agrees.holds.ap1 in
    subst (λ cpu. Follows reg write interface (answered (answer_of reg write cpu (candidates_in cpu (listed_of regs)))) (registers_by cpu reg write regs)) (sym hold)
    (follows_deaf reg write regs interface is agrees)

pub follows_as : (reg : IccReg) (write : Option ℕ) (regs : IchRegs) (interface : InterfaceState) (outcome : Outcome) (after : IchRegs) → IsInterface interface → Agrees regs interface → outcome ≡ answered (answer_of reg write (cpu_in regs) (candidates_of regs)) → after ≡ registers_after reg write regs → Follows reg write interface outcome after
follows_as reg write regs interface outcome after is agrees e f =
    subst (λ outcome. Follows reg write interface outcome after) (sym e)
    (subst (λ after. Follows reg write interface (answered (answer_of reg write (cpu_in regs) (candidates_of regs))) after) (sym f) (follows reg write regs interface is agrees))

-- a write answers no value
pub no_answer : (reg : IccReg) (value : ℕ) (cpu : CpuRec) (among : List Candidate) → answer_of reg (Some value) cpu among ≡ None
no_answer reg value cpu among = refl
