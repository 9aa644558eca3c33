-- An access keeps each interrupt at the place of its list register.
use Rattle.std.proofs.Common.{◌≡◌, ◌≢◌, ◌<◌, ℕ, Bool, true, false, ◌&&◌, cond, if◌then◌else◌, nat_eq, Option, Some, None, List, [], ◌∷◌, length, position, get_or, set, Contains, ◌⊎◌, inl, inr, refl, sym, ap, ◌∙◌, subst, arith}
use Rattle.std.specs.List.{list_all}
use Rattle.std.specs.Option.{option_map_or}
use Rattle.std.proofs.lemmas.Option.{none-some, same_Some}
use Rattle.std.proofs.lemmas.List.{length-set, get_or-set_same, get_or-set_other, get_or_default}
use Rattle.gic_ich.specs.Words.{HeldIrq, intid_of, IccReg}
use Rattle.gic_ich.specs.GicLr.Entry.{unpacked, state_has_active}
use Rattle.gic_ich.specs.GicPrio.Interface.{AtInterface, InterfaceState, IsInterface, candidates_at, changed_at, acknowledged_at, deactivated_at, acknowledged_entry, deactivated_entry, interface_after, has_its_kind}
use Rattle.gic_ich.specs.GicPrio.Access.{taken_by, deactivated_by}
use Rattle.gic_ich.proofs.GicPrio.AccessLemmas.{taken_first}
use Rattle.gic_ich.proofs.GicPrio.EntryLemmas.{AreEntries, acknowledged_entries}
use Rattle.gic_ich.specs.Place.{seen_in, StandsAs, HasOne, StandByPlace, StandFor}
use Rattle.gic_ich.specs.declared.regs.IchRegs.{IchRegs}
use Rattle.gic_ich.specs.Regs.{listed_of}
use Rattle.gic_ich.specs.GicPrio.declared.cpu.CpuRec.{CpuRec}
use Rattle.gic_ich.specs.GicPrio.declared.candidate.Candidate.{Candidate}
use Rattle.gic_ich.specs.GicPrio.Delivery.{first_of}
use Rattle.gic_ich.proofs.GicPrio.FirstLemmas.{first_is}
use Rattle.gic_icv.specs.Agree.{is_live}
use Rattle.gic_icv.specs.Entries.{candidate_in, candidates_in, has_candidate, has_active, acknowledged_word, deactivated_word}
use Rattle.gic_icv.specs.Registers.{cpu_in, after_acknowledge, is_counted, counted, after_deactivation_of, after_deactivation, registers_after}
use Rattle.gic_icv.proofs.CpuLemmas.{deaf, holds}
use Rattle.gic_icv.proofs.ChangeLemmas.{seen_acknowledged, seen_deactivated, word_acknowledged, word_deactivated, entry_acknowledged, entry_deactivated}
use Rattle.gic_icv.proofs.FollowLemmas.{Shows, both_once, none_placed, has_it, changed_at_place, candidate_live, active_live, registers_by, parts_shown, follows}
use Rattle.gic_icv.proofs.FirstLemmas.{first_agrees, source_of, cons_cases, head_is, in_tail}
use Rattle.gic_icv.proofs.PlaceLemmas.{same_entry, map_among, from_map, stands, live_held, entry_id, places_agree}

-- a change of a list register that is one of its interrupt
pub record IsPlaceChange (word_change : ℕ → ℕ) (change : AtInterface → AtInterface) : Type 0 where
  pub key : (entry : AtInterface) → (change entry).key ≡ entry.key
  pub stands : (word : ℕ) (held : HeldIrq) (entry : AtInterface) → has_its_kind entry ≡ true → StandsAs word held entry → StandsAs (word_change word) held (change entry)

-- an entry after a change of the one with an INTID
abbrev after : (AtInterface → AtInterface) → ℕ → AtInterface → AtInterface
after change k entry = cond (nat_eq (intid_of entry.key) k) (change entry) entry

after_key : (change : AtInterface → AtInterface) → ((entry : AtInterface) → (change entry).key ≡ entry.key) → (k : ℕ) (entry : AtInterface) → (after change k entry).key ≡ entry.key
after_key change same k entry = by_id (nat_eq (intid_of entry.key) k)
  where
    by_id : (b : Bool) → (cond b (change entry) entry).key ≡ entry.key
    by_id true = same entry
    by_id false = refl

-- each of a list passes a test that all pass
kind_of : (at : List AtInterface) (entry : AtInterface) → list_all has_its_kind at ≡ true → Contains at entry → has_its_kind entry ≡ true
kind_of [] entry kinds (k, within, is) = absurd (omega (arith, within))
kind_of (x ∷ at) entry kinds has = by_head (has_its_kind x) refl kinds (cons_cases x entry at has) (kind_of at entry)
  where
    by_head : (b : Bool) → has_its_kind x ≡ b → (b && list_all has_its_kind at) ≡ true → (x ≡ entry) ⊎ Contains at entry → (list_all has_its_kind at ≡ true → Contains at entry → has_its_kind entry ≡ true) → has_its_kind entry ≡ true
    by_head true e kinds (inl same) rest = sym (ap has_its_kind same) ∙ e
    by_head true e kinds (inr later) rest = rest kinds later
    by_head false e kinds h rest = absurd (cc)

-- two numbers are one or apart
same_or : (m n : ℕ) → (m ≡ n) ⊎ (m ≢ n)
same_or m n = by_order (grind arith)
  where
    by_order : (m < n) ⊎ ((m ≡ n) ⊎ (n < m)) → (m ≡ n) ⊎ (m ≢ n)
    by_order (inl less) = inr (λ e. omega (arith, less, e))
    by_order (inr (inl same)) = inl same
    by_order (inr (inr more)) = inr (λ e. omega (arith, more, e))

-- a place of the list registers changes with the interrupt that stands there
pub changed_places :
    (words : List ℕ) (held : List (Option HeldIrq)) (at : List AtInterface) (place k : ℕ) (word_change : ℕ → ℕ) (change : AtInterface → AtInterface) (one : HeldIrq) (entry : AtInterface) → StandByPlace words held at → AreEntries at → IsPlaceChange word_change change
    → place < length words → get_or held place None ≡ Some one → Contains at entry → StandsAs (get_or words place 0) one entry → intid_of entry.key ≡ k → StandByPlace (set words place (word_change (get_or words place 0))) held (changed_at change k at)
changed_places words held at place k word_change change one entry stand are changes within there among stands_as named =
    let new = word_change (get_or words place 0) in
    let long : length (set words place new) ≡ length words = length-set words place new in
    record {
      filled = λ n other less held_n. filled_at n other (omega (arith, long, less)) held_n (same_or n place);
      free = λ n less none. free_at n (omega (arith, long, less)) none (same_or n place);
      past = λ n more. stand.past n (omega (arith, long, more));
      each = λ x has.
          let from = from_map (after change k) at x has in
          let old = stand.each from.0 from.1 in
          record { place = old.place; one = old.one; there = old.there; is = old.is ∙ sym (after_key change changes.key k from.0) ∙ ap (λ entry. entry.key) from.2 };
      once = stand.once;
    }
  where
    eq_itself : (m n : ℕ) → m ≡ n → nat_eq m n ≡ true
    eq_itself m n e = grind arith

    differ : (m n : ℕ) → m ≢ n → nat_eq m n ≡ false
    differ m n e = by_test (nat_eq m n) refl
      where
        by_test : (b : Bool) → nat_eq m n ≡ b → b ≡ false
        by_test true f = absurd (e (grind arith))
        by_test false f = refl

    filled_at : (n : ℕ) (other : HeldIrq) → n < length words → get_or held n None ≡ Some other → (n ≡ place) ⊎ (n ≢ place) → HasOne (get_or (set words place (word_change (get_or words place 0))) n 0) other (changed_at change k at)
    filled_at n other less held_n (inl same) =
        let is_one : one ≡ other = same_Some one other (sym there ∙ ap (λ m. get_or held m None) (sym same) ∙ held_n) in
        subst (λ word. HasOne word other (changed_at change k at)) (sym (ap (λ m. get_or (set words place (word_change (get_or words place 0))) m 0) same ∙ get_or-set_same words place (word_change (get_or words place 0)) 0 within))
        (subst (λ held. HasOne (word_change (get_or words place 0)) held (changed_at change k at)) is_one
        (record {
          entry = change entry;
          among = map_among (after change k) at entry (change entry) among (ap (λ b. cond b (change entry) entry) (eq_itself (intid_of entry.key) k named));
          stands = changes.stands (get_or words place 0) one entry (kind_of at entry are.kinds among) stands_as;
        }))
    filled_at n other less held_n (inr apart) =
        let has = stand.filled n other less held_n in
        let not_named : intid_of has.entry.key ≢ k = λ e. (let same = same_entry at has.entry entry are has.among among (e ∙ sym named) in apart (stand.once n place other one held_n there (sym has.stands.key ∙ ap (λ entry. entry.key) same ∙ stands_as.key))) in
        subst (λ word. HasOne word other (changed_at change k at)) (sym (get_or-set_other words place n (word_change (get_or words place 0)) 0 apart))
        (record {
          entry = has.entry;
          among = map_among (after change k) at has.entry has.entry has.among (ap (λ b. cond b (change has.entry) has.entry) (differ (intid_of has.entry.key) k not_named));
          stands = has.stands;
        })

    free_at : (n : ℕ) → n < length words → get_or held n None ≡ None → (n ≡ place) ⊎ (n ≢ place) → get_or (set words place (word_change (get_or words place 0))) n 0 ≡ 0
    free_at n less none (inl same) = absurd (none-some one (sym none ∙ ap (λ m. get_or held m None) same ∙ there))
    free_at n less none (inr apart) = get_or-set_other words place n (word_change (get_or words place 0)) 0 apart ∙ stand.free n less none

-- an acknowledge is such a change, and so is a deactivation
pub acknowledged_place : IsPlaceChange acknowledged_word acknowledged_entry
acknowledged_place = record {
  key = λ entry. refl;
  stands = λ word held entry kind h.
      record { key = h.key; seen = word_acknowledged word ∙ ap seen_acknowledged h.seen ∙ sym (entry_acknowledged.is entry kind); rise = sym (none held.rise); soft = sym (none held.soft) };
}
  where
    none : (b : Bool) → (b && false) ≡ false
    none true = refl
    none false = refl

pub deactivated_place : IsPlaceChange deactivated_word deactivated_entry
deactivated_place = record {
  key = λ entry. refl;
  stands = λ word held entry kind h. record { key = h.key; seen = word_deactivated word ∙ ap seen_deactivated h.seen ∙ sym (entry_deactivated.is entry kind); rise = h.rise; soft = h.soft };
}

-- a change of the first list register that is so, which has a live interrupt of this INTID
placed :
    (words : List ℕ) (held : List (Option HeldIrq)) (at : List AtInterface) (place k : ℕ) (word_change : ℕ → ℕ) (change : AtInterface → AtInterface) → StandByPlace words held at → AreEntries at → IsPlaceChange word_change change → place < length words → is_live k (seen_in (get_or words place 0)) ≡ true
    → StandByPlace (set words place (word_change (get_or words place 0))) held (changed_at change k at)
placed words held at place k word_change change stand are changes within live =
    let has = live_held words held at place k stand within live in
    changed_places words held at place k word_change change has.0 has.2.entry stand are changes within has.1 has.2.among has.2.stands (entry_id (get_or words place 0) k has.2.entry has.2.stands.seen live)

-- an acknowledge of the first candidate
acknowledge_places : (regs : IchRegs) (held : List (Option HeldIrq)) (at : List AtInterface) (cpu : CpuRec) (f : Candidate) → StandByPlace (listed_of regs) held at → AreEntries at → first_of (candidates_in (deaf cpu) (listed_of regs)) ≡ Some f → StandByPlace (listed_of (after_acknowledge (Some f) regs)) held (acknowledged_at (Some f) at)
acknowledge_places regs held at cpu f stand are e =
    let words = listed_of regs in
    let first = first_is (candidates_in (deaf cpu) words) f e in
    let from = source_of (candidate_in (deaf cpu)) words f first.among in
    by_place (position (has_candidate f) words) refl (none_placed (has_candidate f) words from.of from.among (has_it (deaf cpu) f from.of from.is))
  where
    by_place : (o : Option ℕ) → position (has_candidate f) (listed_of regs) ≡ o → (position (has_candidate f) (listed_of regs) ≡ None → ⊥) → StandByPlace (listed_of (after_acknowledge (Some f) regs)) held (acknowledged_at (Some f) at)
    by_place None i never = absurd (never i)
    by_place (Some place) i never =
        let changed = changed_at_place (has_candidate f) acknowledged_word regs regs place i in
        subst (λ words. StandByPlace words held (acknowledged_at (Some f) at)) (sym changed.listed)
        (placed (listed_of regs) held at place f.id acknowledged_word acknowledged_entry stand are acknowledged_place changed.within (candidate_live f (get_or (listed_of regs) place 0) changed.passes))

-- where no list register has the interrupt active, no entry has it
inactive : (words : List ℕ) (held : List (Option HeldIrq)) (at : List AtInterface) (k : ℕ) (entry : AtInterface) → StandByPlace words held at → AreEntries at → position (has_active k) words ≡ None → Contains at entry → intid_of entry.key ≡ k → entry.active ≡ false
inactive words held at k entry stand are none among named = by_active entry.active refl
  where
    by_active : (b : Bool) → entry.active ≡ b → b ≡ false
    by_active false e = refl
    by_active true e =
        let place = stands words held at entry stand are among in
        let word = get_or words place.place 0 in
        let id : nat_eq (unpacked word).id k ≡ true = ap (λ s. nat_eq s.id k) place.stands.seen ∙ ap (λ n. nat_eq n k) named ∙ itself k in
        let active : state_has_active (unpacked word).state ≡ true = ap (λ s. s.active) place.stands.seen ∙ e in
        absurd (none_placed (has_active k) words word (place.place, place.within, get_or_default words place.place word 0 place.within) (both (nat_eq (unpacked word).id k) (state_has_active (unpacked word).state) id active) none)
      where
        itself : (n : ℕ) → nat_eq n n ≡ true
        itself n = grind arith

        both : (b c : Bool) → b ≡ true → c ≡ true → (b && c) ≡ true
        both b c e f = cc (e, f)

-- so its deactivation changes nothing
unchanged : (k : ℕ) (at : List AtInterface) → ((entry : AtInterface) → Contains at entry → intid_of entry.key ≡ k → entry.active ≡ false) → changed_at deactivated_entry k at ≡ at
unchanged k [] h = refl
unchanged k (entry ∷ at) h =
    cc (by_id (nat_eq (intid_of entry.key) k) refl, unchanged k at (λ x has. h x (in_tail entry x at has)))
  where
    by_id : (b : Bool) → nat_eq (intid_of entry.key) k ≡ b → cond b (deactivated_entry entry) entry ≡ entry
    by_id true e = ap (λ b. record entry { active = b }) (sym (h entry (head_is entry at) (grind arith)))
    by_id false e = refl

deactivation_places : (regs : IchRegs) (held : List (Option HeldIrq)) (at : List AtInterface) (k : ℕ) → StandByPlace (listed_of regs) held at → AreEntries at → StandByPlace (listed_of (after_deactivation_of k regs)) held (deactivated_at (Some k) at)
deactivation_places regs held at k stand are = by_place (position (has_active k) (listed_of regs)) refl
  where
    otherwise : IchRegs
    otherwise = if is_counted k then counted regs else regs

    listed_otherwise : (b : Bool) → listed_of (if b then counted regs else regs) ≡ listed_of regs
    listed_otherwise true = refl
    listed_otherwise false = refl

    by_place : (o : Option ℕ) → position (has_active k) (listed_of regs) ≡ o → StandByPlace (listed_of (after_deactivation_of k regs)) held (deactivated_at (Some k) at)
    by_place None i =
        let same : listed_of (after_deactivation_of k regs) ≡ listed_of regs = ap (λ o. listed_of (option_map_or (λ place. record regs { lr = set regs.lr place (deactivated_word (get_or regs.lr place 0)) }) o otherwise)) i ∙ listed_otherwise (is_counted k) in
        subst (λ words. StandByPlace words held (deactivated_at (Some k) at)) (sym same)
        (subst (StandByPlace (listed_of regs) held) (sym (unchanged k at (λ entry has named. inactive (listed_of regs) held at k entry stand are i has named))) stand)
    by_place (Some place) i =
        let changed = changed_at_place (has_active k) deactivated_word regs otherwise place i in
        subst (λ words. StandByPlace words held (deactivated_at (Some k) at)) (sym changed.listed)
        (placed (listed_of regs) held at place k deactivated_word deactivated_entry stand are deactivated_place changed.within (active_live k (get_or (listed_of regs) place 0) changed.passes))

-- an access
taken_places : (regs : IchRegs) (held : List (Option HeldIrq)) (at : List AtInterface) (cpu : CpuRec) (taken : Option Candidate) → StandByPlace (listed_of regs) held at → AreEntries at → ((f : Candidate) → taken ≡ Some f → first_of (candidates_in (deaf cpu) (listed_of regs)) ≡ Some f) → StandByPlace (listed_of (after_acknowledge taken regs)) held (acknowledged_at taken at)
taken_places regs held at cpu None stand are first = stand
taken_places regs held at cpu (Some f) stand are first = acknowledge_places regs held at cpu f stand are (first f refl)

ended_places : (regs : IchRegs) (held : List (Option HeldIrq)) (at : List AtInterface) (ended : Option ℕ) → StandByPlace (listed_of regs) held at → AreEntries at → StandByPlace (listed_of (after_deactivation ended regs)) held (deactivated_at ended at)
ended_places regs held at None stand are = stand
ended_places regs held at (Some k) stand are = deactivation_places regs held at k stand are

kept_places : (reg : IccReg) (write : Option ℕ) (regs : IchRegs) (held : List (Option HeldIrq)) (interface : InterfaceState) → IsInterface interface → StandFor regs held interface → StandByPlace (listed_of (registers_after reg write regs)) held (interface_after reg write interface).at
kept_places reg write regs held interface is stand =
    let cpu = interface.cpu in
    let agrees = places_agree regs held interface is stand in
    let are : AreEntries interface.at = record { once = is.once; kinds = is.kinds } in
    let shows : Shows (listed_of regs) interface.at = record { same = agrees.same; once = agrees.once } in
    let first = first_agrees (listed_of regs) interface (both_once (listed_of regs) interface.at shows are) in
    let taken = taken_by reg write cpu (candidates_at interface) in
    let ended = deactivated_by reg write cpu in
    let hold : cpu_in regs ≡ deaf cpu = holds regs cpu is.points stand.holds.vmcr stand.holds.ap0 stand.holds.ap1 in
    let places_taken = taken_places regs held interface.at cpu taken stand.places are (λ f e. first ∙ taken_first reg write cpu (candidates_at interface) f e) in
    let places_ended = ended_places (after_acknowledge taken regs) held (acknowledged_at taken interface.at) ended places_taken (acknowledged_entries taken interface.at are) in
    subst (λ cpu. StandByPlace (listed_of (registers_by cpu reg write regs)) held (interface_after reg write interface).at) (sym hold)
    (subst (λ after. StandByPlace (listed_of after) held (interface_after reg write interface).at) (sym (parts_shown reg write regs interface first)) places_ended)

pub kept : (reg : IccReg) (write : Option ℕ) (regs : IchRegs) (held : List (Option HeldIrq)) (interface : InterfaceState) (after : IchRegs) → IsInterface interface → StandFor regs held interface → after ≡ registers_after reg write regs → StandFor after held (interface_after reg write interface)
kept reg write regs held interface after is stand e =
    subst (λ after. StandFor after held (interface_after reg write interface)) (sym e)
    (record { holds = (follows reg write regs interface is (places_agree regs held interface is stand)).registers.holds; places = kept_places reg write regs held interface is stand })
