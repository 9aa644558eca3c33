-- List registers and interrupts at the interface that they stand for.
use Rattle.std.proofs.Common.{◌≡◌, ℕ, ◌<◌, ◌==◌, ◌&&◌, ◌||◌, true≢false, not, Bool, true, false, IsTrue, List, map, find, Contains, Option, Some, None, IsSome, cond, refl, sym, ap, ◌∙◌, subst}
use Rattle.std.specs.Option.{option_map_or}
use Rattle.std.proofs.lemmas.Bool.{and_parts, eqb-true}
use Rattle.std.proofs.lemmas.Option.{none-some, same_Some}
use Rattle.std.proofs.lemmas.List.Elements.{All-contains}
use Rattle.law_registers_stand.specs.Words.{Key, GuestShape, has_interrupt, intid_of, is_of_vcpu, IsShape, Irq as IrqRecord, is_number}
use Rattle.law_registers_stand.specs.Histories.{Track}
use Rattle.law_registers_stand.specs.Lists.{IchRegs, Seen, seen_in, seen_of, listed_of, is_live, seen_words, seen_entries}
use Rattle.law_registers_stand.proofs.GicIcv.FirstLemmas.{candidate_seen, candidates_seen, find_once, find_among, first_agrees, source_of, is_candidate, words_candidates}
use Rattle.law_registers_stand.proofs.GicIcv.FollowLemmas.{both_once}
use Rattle.law_registers_stand.proofs.GicIcv.PlaceLemmas.{from_map, map_among}
use Rattle.law_registers_stand.specs.Registers.{Candidate, CpuRec, first_of, is_before, is_group_enabled, AtInterface, IsInterface, candidates_at}
use Rattle.law_registers_stand.proofs.GicPrio.FirstLemmas.{first_is, first_there}
use Rattle.law_registers_stand.specs.Core.{Local, Irq, actor_count, shown, interface_of, is_at, CoreState, seat_at, word_in, IsSound, IsLocal, IsAt, RegistersAgree}
use Rattle.law_registers_stand.proofs.VcpuRefill.ElementLemmas.{Contains-nothing}
use Rattle.law_registers_stand.proofs.CoreProper.InterfaceLemmas.{is_interface}
use Rattle.law_registers_stand.proofs.ComeLemmas.{is_there, key_by_id}
use Rattle.law_scans_miss_none.specs.Waiting.{record_in, IsDue}
use Rattle.law_scans_miss_none.proofs.LeftLemmas.{as_candidate, seen_candidate, IsListed, HasPending, IsLater}
use Rattle.law_scans_miss_none.proofs.TellSteps.{concerns_own}
use Rattle.law_scans_miss_none.proofs.ToldLemmas.{waiting_concerns}

-- an interrupt that has a list register is at the interface
pub listed_at :
    (shape : GuestShape) (vcpu : ℕ) (local : Local) (regs : IchRegs) (key : Key) → IsShape shape → IsLocal shape vcpu local → RegistersAgree regs local → IsTrue (has_interrupt shape key) → IsTrue (is_of_vcpu vcpu key) → IsListed regs key → is_at key local.at ≡ true
listed_at shape vcpu local regs key good is_local agrees there own listed =
    let id = intid_of key in
    let among : Contains (seen_words (listed_of regs)) (seen_in listed.word) = map_among seen_in (listed_of regs) listed.word (seen_in listed.word) listed.among refl in
    let found : find (is_live id) (seen_words (listed_of regs)) ≡ Some (seen_in listed.word) = find_once (is_live id) (seen_words (listed_of regs)) (seen_in listed.word) (agrees.once id) among listed.live in
    let entry = from_map seen_of (map shown local.at) (seen_in listed.word) (find_among (is_live id) (seen_entries (map shown local.at)) (seen_in listed.word) (sym (agrees.same id) ∙ found)) in
    let one = from_map shown local.at entry.0 entry.1 in
    let is = All-contains (IsAt shape vcpu) local.at one.0 is_local.at one.1 in
    let same_id : intid_of one.0.key ≡ id =
    ap (λ (a : AtInterface). intid_of a.key) one.2 ∙ ap (λ (s : Seen). s.id) entry.2
    ∙ eqb-true (seen_in listed.word).id id (and_parts ((seen_in listed.word).id == id) ((seen_in listed.word).pending || (seen_in listed.word).active) listed.live).0 in
    let same : one.0.key ≡ key = key_by_id shape vcpu one.0.key key good is.there there is.own own same_id in
    ap (λ k. is_at k local.at) (sym same) ∙ is_there local.at one.0 one.1

-- so what is due has none
pub unlisted :
    (shape : GuestShape) (state : CoreState) (track : Track) (vcpu : ℕ) (local : Local) (regs : IchRegs) → IsShape shape → IsSound shape state → vcpu < actor_count shape → local ≡ (seat_at state vcpu).local → RegistersAgree regs local → (key : Key) → IsDue shape state track vcpu key → IsListed regs key → ⊥
unlisted shape state track vcpu local regs good sound there mine agrees key due listed =
    let has = due.waiting.there in
    let own = concerns_own shape key vcpu (word_in shape state (Irq key)) has (sound.words (Irq key) has) (waiting_concerns shape vcpu (record_in shape state key) due.waiting.waits) in
    let at = listed_at shape vcpu local regs key good (subst (IsLocal shape vcpu) (sym mine) (sound.locals vcpu there)) agrees has own listed in
    let tied = sound.ties vcpu (Irq key) there has in
    true≢false (sym (tied ∙ ap (λ (l : Local). is_at key l.at) (sym mine) ∙ at) ∙ ap (is_number vcpu) due.waiting.home)

-- The first.

-- a candidate among those that list registers have is one with State 1
pub record IsPendingWord (regs : IchRegs) (one : Candidate) : Type 0 where
  pub word : ℕ
  pub among : Contains (listed_of regs) word
  pub pending : (seen_in word).pending ≡ true
  pub inactive : (seen_in word).active ≡ false
  pub is : seen_candidate (seen_in word) ≡ one

pending_word : (regs : IchRegs) (cpu : CpuRec) (one : Candidate) → Contains (candidates_seen cpu (seen_words (listed_of regs))) one → IsPendingWord regs one
pending_word regs cpu one has =
    let source = source_of (candidate_seen cpu) (seen_words (listed_of regs)) one has in
    let word = from_map seen_in (listed_of regs) source.of source.among in
    of word.0 word.1 source.of word.2 (source.of.pending && not source.of.active && is_group_enabled source.of.group cpu) refl source.is
  where
    of : (word : ℕ) → Contains (listed_of regs) word → (s : Seen) → seen_in word ≡ s → (b : Bool) → (s.pending && not s.active && is_group_enabled s.group cpu) ≡ b → cond b (Some (seen_candidate s)) None ≡ Some one → IsPendingWord regs one
    of word among s same true e gives =
        let parts = and_parts (s.pending && not s.active) (is_group_enabled s.group cpu) e in
        let first = and_parts s.pending (not s.active) parts.0 in
        record { word = word; among = among; pending = ap (λ (x : Seen). x.pending) same ∙ first.0; inactive = ap (λ (x : Seen). x.active) same ∙ not_true s.active first.1; is = ap seen_candidate same ∙ same_Some (seen_candidate s) one gives }
      where
        not_true : (b : Bool) → not b ≡ true → b ≡ false
        not_true true h = absurd (true≢false (sym h))
        not_true false h = refl
    of word among s same false e gives = absurd (none-some one gives)

-- one that has State 1, of a group that is listened to, makes a first one; and what comes later than all of them does not come before that
pub first_later :
    (shape : GuestShape) (vcpu : ℕ) (local : Local) (regs : IchRegs) (trapping : Bool) (key : Key) (irq : IrqRecord) → IsShape shape → IsLocal shape vcpu local → RegistersAgree regs local
    → ((word : ℕ) → Contains (listed_of regs) word → (seen_in word).pending ≡ true → is_group_enabled (seen_in word).group local.cpu ≡ true) → HasPending regs → IsLater trapping regs key irq → option_map_or (is_before (as_candidate key irq)) (first_of (candidates_at (interface_of local))) true ≡ false
first_later shape vcpu local regs trapping key irq good is_local agrees groups has later = of (first_of (candidates_at (interface_of local))) refl
  where
    seen : List Seen
    seen = seen_words (listed_of regs)

    among : List Candidate
    among = candidates_seen local.cpu seen

    interface : IsInterface (interface_of local)
    interface = is_interface shape vcpu local good is_local

    same : first_of (candidates_at (interface_of local)) ≡ first_of among
    same =
        sym (first_agrees (listed_of regs) (interface_of local) (both_once (listed_of regs) (map shown local.at) (record { same = agrees.same; once = agrees.once }) (record { once = interface.once; kinds = interface.kinds })))
        ∙ ap first_of (words_candidates local.cpu (listed_of regs))

    some : IsSome (first_of among)
    some =
        let s = seen_in has.word in
        let is : candidate_seen local.cpu s ≡ Some (seen_candidate s) =
        ap (λ b. cond (b && not s.active && is_group_enabled s.group local.cpu) (Some (seen_candidate s)) None) has.pending ∙ ap (λ b. cond (not b && is_group_enabled s.group local.cpu) (Some (seen_candidate s)) None) has.inactive
        ∙ ap (λ b. cond b (Some (seen_candidate s)) None) (groups has.word has.among has.pending) in
        let there = is_candidate local.cpu seen s (seen_candidate s) (map_among seen_in (listed_of regs) has.word s has.among refl) is in
        first_there among (λ empty. Contains-nothing (seen_candidate s) (subst (λ xs. Contains xs (seen_candidate s)) empty there))

    of : (o : Option Candidate) → first_of (candidates_at (interface_of local)) ≡ o → option_map_or (is_before (as_candidate key irq)) o true ≡ false
    of None e = absurd (no_some (first_of among) (sym same ∙ e) some)
      where
        no_some : (o : Option Candidate) → o ≡ None → IsSome o → ⊥
        no_some None e h = absurd (cc)
        no_some (Some one) e h = absurd (cc)
    of (Some first) e =
        let is = pending_word regs local.cpu first (first_is among first (sym same ∙ e)).among in
        subst (λ c. is_before (as_candidate key irq) c ≡ false) is.is (later.after is.word is.among is.pending is.inactive)
