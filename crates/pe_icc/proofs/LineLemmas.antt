-- The interrupt lines of a vCPU.
use Rattle.std.proofs.Common.{◌≡◌, ◌≢◌, ℕ, zero, suc, ◌+◌, ◌/◌, ◌%◌, ◌<◌, ◌≤◌, ◌&&◌, ◌||◌, nat_lt, not, Bool, true, false, cond, if◌then◌else◌, IsTrue, List, [], ◌∷◌, ◌++◌, map, filter, find, length, replicate, All, Option, Some, None, is_some, option_and_then, option_to_list, slice_set, slice_index_or, inl, inr, add-one, append-nil, append_assoc, refl, sym, ap, subst, ◌∙◌, arith}
use Rattle.std.specs.List.{cons_option, filter_map, list_all, list_any, range_with_len}
use Rattle.std.proofs.lemmas.Bool.{and_parts, cases_eq, leb-true, ltb-false, ltb-true, ne_eqb}
use Rattle.std.proofs.lemmas.List.{length-append, length-map, length-set, map-append, get_or-set_other, get_or-set_same, get_or_append_left, get_or_past}
use Rattle.std.proofs.Math.Seq.{get_or-append_seam}
use Rattle.std.proofs.lemmas.List.Elements.{All-head, All-tail, All-nil, All-cons, filter-append, filter_map-append}
use Rattle.std.proofs.lemmas.List.FromFn.{length-map-range_with_len}
use Rattle.gic_line.specs.declared.lines.Lines.{Lines}
use Rattle.gic_line.specs.Lines.{lines_by}
use Rattle.pe_loop.specs.GicWord.declared.record.Group.{Group}
use Rattle.pe_loop.specs.Words.{Key, Private, Spi, Lpi, GuestShape, IsShape, has_bit, has_interrupt, intid_of, irq_of, is_number, is_within}
use Rattle.pe_loop.specs.Calls.{Residence, Beside, IsCall, named_of}
use Rattle.pe_loop.specs.Lists.{StandFor}
use Rattle.pe_loop.specs.Registers.{Candidate, CpuRec, acknowledged, candidate_of, candidates_at, first_of, intid_read, is_before, is_group_enabled, is_same_group, is_signalled}
use Rattle.pe_loop.specs.VcpuState.declared.loaded.Loaded.{Loaded}
use Rattle.pe_loop.specs.Core.{AtIrq, IsAt, Local, Look, Made, CoreStep, Irq, Index, WordId, interface_of, is_ready, is_vcpu, has_no_cand, index_bits, index_words, is_cand, key_of_bit, local_after, shown, Seen, AddsStep, made_by, shape_of, part_events, vcpu_of_actor, maps_taken, IsAtRest, begins, Progress, paid, is_end_of, progressed, scan_on, stepped, IsProperStep, Scan, idle, scan_looked, is_settled}
use Rattle.pe_loop.proofs.PortCore.PortLemmas.{adds_join}
use Rattle.pe_loop.proofs.PortCall.PieceLemmas.{idle_is, idle_on, scan_free, seen_nil}
use Rattle.pe_loop.proofs.PortCall.RestLemmas.{look_kept}
use Rattle.pe_loop.proofs.PortCall.SettleLemmas.{handed_none}
use Rattle.pe_loop.proofs.PortCall.TryLemmas.{none_append}
use Rattle.pe_loop.proofs.GicCall.RangeLemmas.{map_pushed, range_with_len_more}
use Rattle.pe_loop.proofs.JoinLemmas.{two_silent}
use Rattle.pe_loop.proofs.CoreProper.IntidLemmas.{in_range}
use Rattle.pe_loop.specs.PortCall.Piece.{steps_of}
use Rattle.pe_loop.specs.Stay.{IsUp}
use Rattle.pe_icc.specs.Amid.{IsRunning, IsAble}
use Rattle.pe_icc.specs.Lines.{candidate_found, candidates_found, LooksWhere, TellsLines, LooksAlone, LooksAtWords, FindsOne, LooksAtBits, LooksRound, is_intid}
use Rattle.pe_icc.proofs.AmidLemmas.{leads_nil, leads_then}
use Rattle.pe_icc.proofs.IccLemmas.{part_proper, part_runs}

-- The registers.

-- what is found in a list is one of it
find_there : {X : Type 0} (test : X → Bool) (P : X → Type 0) (xs : List X) (x : X) → All P xs → find test xs ≡ Some x → P x
find_there test P [] x all e = absurd (cc)
find_there test P (y ∷ ys) x all e = of (test y) e (find_there test P ys x (All-tail P y ys all))
  where
    of : (b : Bool) → cond b (Some y) (find test ys) ≡ Some x → (find test ys ≡ Some x → P x) → P x
    of true e later = let same : y ≡ x = cc in subst P same (All-head P y ys all)
    of false e later = later e

-- what is acknowledged is one of the candidates
acknowledged_there : (group : Group) (cpu : CpuRec) (candidates : List Candidate) (P : Candidate → Type 0) (one : Candidate) → All P candidates → acknowledged group cpu candidates ≡ Some one → P one
acknowledged_there group cpu candidates P one all e = of (first_of candidates) refl e
  where
    test : Candidate → Bool
    test first = is_same_group first.group group && is_signalled first.prio first.group cpu

    pick : (first : Candidate) (b : Bool) → (if b then Some first else None) ≡ Some one → first ≡ one
    pick first true e = cc
    pick first false e = absurd (cc)

    of : (o : Option Candidate) → first_of candidates ≡ o → option_and_then (λ first. if test first then Some first else None) o ≡ Some one → P one
    of None first e = absurd (cc)
    of (Some first) is e = subst P (pick first (test first) e) (find_there (λ one. not (list_any (λ other. is_before other one) candidates)) P candidates first all is)

-- so an answer is an INTID exactly where something is acknowledged
pub intid_told : (group : Group) (cpu : CpuRec) (candidates : List Candidate) → All (λ one. one.id ≢ 1023) candidates → is_intid (Some (intid_read (acknowledged group cpu candidates))) ≡ is_some (acknowledged group cpu candidates)
intid_told group cpu candidates all = of (acknowledged group cpu candidates) refl
  where
    of : (o : Option Candidate) → acknowledged group cpu candidates ≡ o → is_intid (Some (intid_read o)) ≡ is_some o
    of None e = refl
    of (Some one) e = ap not (ne_eqb one.id 1023 (acknowledged_there group cpu candidates (λ one. one.id ≢ 1023) one all e))

-- No interrupt of a guest has the INTID 1023.

within_is : (first count n : ℕ) → IsTrue (is_within first count n) → (first ≤ n) × (n < first + count)
within_is first count n h = let parts = and_parts _ _ h in (leb-true first n parts.0, ltb-true n (first + count) parts.1)

spi_differs : (shape : GuestShape) (id : ℕ) → IsShape shape → IsTrue (has_interrupt shape (Spi id)) → id ≢ 1023
spi_differs shape id good there e = of (is_within 32 shape.spis id) refl there
  where
    of : (b : Bool) → is_within 32 shape.spis id ≡ b → IsTrue (b || is_within 4096 shape.espis id) → ⊥
    of true is h = let range = within_is 32 shape.spis id is in let high = range.1 in let few = good.spis in omega (arith, high, few, e)
    of false is h = let range = within_is 4096 shape.espis id h in let low = range.0 in omega (arith, low, e)

real_id : (shape : GuestShape) (key : Key) → IsShape shape → IsTrue (has_interrupt shape key) → intid_of key ≢ 1023
real_id shape (Private vcpu id) good there e = let small = in_range shape (Private vcpu id) good there in omega (arith, small, e)
real_id shape (Spi id) good there e = spi_differs shape id good there e
real_id shape (Lpi id) good there e = let range = in_range shape (Lpi id) good there in let low = range.0 in omega (arith, low, e)

pub real_ids : (shape : GuestShape) (actor : ℕ) (cpu : CpuRec) (at : List AtIrq) → IsShape shape → All (IsAt shape actor) at → All (λ one. one.id ≢ 1023) (candidates_at (record { cpu = cpu; at = map shown at }))
real_ids shape actor cpu [] good all = All-nil (λ one. one.id ≢ 1023)
real_ids shape actor cpu (entry ∷ at) good all =
    of (entry.pending && not entry.active && is_group_enabled entry.group cpu) (real_ids shape actor cpu at good (All-tail (IsAt shape actor) entry at all))
  where
    one : Candidate
    one = record { id = intid_of entry.key; prio = entry.entry_prio; group = entry.group }

    rest : List Candidate
    rest = filter_map (candidate_of cpu) (map shown at)

    of : (b : Bool) → All (λ one. one.id ≢ 1023) rest → All (λ one. one.id ≢ 1023) (cons_option (if b then Some one else None) rest)
    of true more = All-cons (λ one. one.id ≢ 1023) one rest (real_id shape entry.key good (All-head (IsAt shape actor) entry at all).there) more
    of false more = more

-- A look.

look_proper : (shape : GuestShape) (actor : ℕ) (p : Progress) (word : WordId) → p.scan ≡ idle → IsProperStep shape actor p (Look word)
look_proper shape actor p word e = record { scan = scan_free shape actor p (Look word) e; trap = refl; failed = refl; far = refl; refill = refl; want = refl; seen = refl }

-- what it leaves of the protocol, of an interrupt and of a word of an index
irq_told : (old new : Seen) (key : Key) (found : ℕ) (add : AddsStep old new (Look (Irq key)) found) (p : Progress) → IsAtRest old p
    → stepped (shape_of old) old.actor (made_by old (Look (Irq key)) found add.tables) p
    ≡ record p { scan = idle; far = if is_end_of (shape_of old) old.actor p.operation key then Some (is_number old.actor (irq_of found).act_by) else p.far; local = new.local; own = new.own }
irq_told old new key found add p rest =
    let shape = shape_of old in
    let actor = old.actor in
    let step = Look (Irq key) in
    let made = made_by old step found add.tables in
    let irq = irq_of found in
    let make : Scan → Local → List Made → Progress = λ scan local own. record p { scan = scan; far = if is_end_of shape actor p.operation key then Some (is_number actor irq.act_by) else p.far; local = local; own = own } in
    ap (λ scan. scan_on shape actor (make (scan_looked shape key irq scan) (local_after shape actor p.local step found) (p.own ++ made ∷ []))) (idle_is p.scan rest.scan)
    ∙ ap (λ local. make idle (local_after shape actor local step found) (p.own ++ made ∷ [])) rest.local
    ∙ ap (λ own. make idle (local_after shape actor old.local step found) (own ++ made ∷ [])) rest.own
    ∙ ap (λ (seen : Seen). make idle seen.local seen.own) (sym add.adds.new_is)

index_told : (old new : Seen) (vcpu word found : ℕ) (add : AddsStep old new (Look (Index vcpu word)) found) (p : Progress) → IsAtRest old p
    → stepped (shape_of old) old.actor (made_by old (Look (Index vcpu word)) found add.tables) p ≡ record p { local = new.local; own = new.own }
index_told old new vcpu word found add p rest =
    let shape = shape_of old in
    let actor = old.actor in
    let step = Look (Index vcpu word) in
    let made = made_by old step found add.tables in
    let make : Local → List Made → Progress = λ local own. record p { local = local; own = own } in
    idle_on shape actor (make (local_after shape actor p.local step found) (p.own ++ made ∷ [])) (idle_is p.scan rest.scan)
    ∙ ap (λ local. make (local_after shape actor local step found) (p.own ++ made ∷ [])) rest.local
    ∙ ap (λ own. make (local_after shape actor old.local step found) (own ++ made ∷ [])) rest.own
    ∙ ap (λ (seen : Seen). make seen.local seen.own) (sym add.adds.new_is)

pub irq_alone : (old new : Seen) (key : Key) (found : ℕ) → IsTrue (has_no_cand old.local) → (add : AddsStep old new (Look (Irq key)) found) → LooksAlone old new (made_by old (Look (Irq key)) found add.tables ∷ [])
irq_alone old new key found none add =
    record {
      adds = add.adds;
      none_taken = ap (λ b. b && true) (handed_none (Look (Irq key)) found old add.tables refl add.handed);
      silent = refl;
      same = ap (λ (seen : Seen). seen.local) add.adds.new_is ∙ look_kept (shape_of old) old.actor key (irq_of found) old.local none;
      leads = λ vcpu. record {
        proper = λ p able. (look_proper (shape_of old) old.actor p (Irq key) (idle_is p.scan able.amid.rest.scan), tt);
        after = λ p able.
            let amid = able.amid in
            subst (IsAble new vcpu Residence paid) (sym (irq_told old new key found add p amid.rest))
            (record {
              amid = record { rest = record { local = refl; own = refl; scan = refl; wants = amid.rest.wants }; operation_is = amid.operation_is; lrs_is = amid.lrs_is; none_failed = amid.none_failed; debt_is = amid.debt_is };
              regs = able.regs;
              trapping = able.trapping;
            });
      };
    }

pub index_alone : (old new : Seen) (vcpu word found : ℕ) (add : AddsStep old new (Look (Index vcpu word)) found) → LooksAlone old new (made_by old (Look (Index vcpu word)) found add.tables ∷ [])
index_alone old new v word found add =
    record {
      adds = add.adds;
      none_taken = ap (λ b. b && true) (handed_none (Look (Index v word)) found old add.tables refl add.handed);
      silent = refl;
      same = ap (λ (seen : Seen). seen.local) add.adds.new_is;
      leads = λ vcpu. record {
        proper = λ p able. (look_proper (shape_of old) old.actor p (Index v word) (idle_is p.scan able.amid.rest.scan), tt);
        after = λ p able.
            let amid = able.amid in
            subst (IsAble new vcpu Residence paid) (sym (index_told old new v word found add p amid.rest))
            (record {
              amid = record { rest = record { local = refl; own = refl; scan = amid.rest.scan; wants = amid.rest.wants }; operation_is = amid.operation_is; lrs_is = amid.lrs_is; none_failed = amid.none_failed; debt_is = amid.debt_is };
              regs = able.regs;
              trapping = able.trapping;
            });
      };
    }

-- Looks, one after the other.

pub looks_none : (seen : Seen) → LooksAlone seen seen []
looks_none seen = record { adds = record { new_is = sym (seen_nil seen) }; none_taken = refl; silent = refl; same = refl; leads = λ vcpu. leads_nil seen (IsAble seen vcpu Residence paid) }

pub looks_then : (old mid new : Seen) (early late : List Made) → LooksAlone old mid early → LooksAlone mid new late → LooksAlone old new (early ++ late)
looks_then old mid new early late one two =
    record {
      adds = adds_join old mid new early late one.adds two.adds;
      none_taken = none_append early late one.none_taken two.none_taken;
      silent = two_silent old mid early late one.adds one.silent two.silent;
      same = two.same ∙ one.same;
      leads = λ vcpu. leads_then old mid early late (IsAble old vcpu Residence paid) (IsAble mid vcpu Residence paid) (IsAble new vcpu Residence paid) one.adds (one.leads vcpu) (two.leads vcpu);
    }

-- they are the vCPU's still
pub looks_shape : (old mid : Seen) (part : List Made) → LooksAlone old mid part → shape_of mid ≡ shape_of old
looks_shape old mid part looks = ap shape_of looks.adds.new_is

pub looks_actor : (old mid : Seen) (part : List Made) → LooksAlone old mid part → mid.actor ≡ old.actor
looks_actor old mid part looks = ap (λ (seen : Seen). seen.actor) looks.adds.new_is

-- The words of the index.

pub zeros : (n place : ℕ) → ◌≡◌ {A = ℕ} (slice_index_or (replicate n 0) place 0) 0
zeros zero place = refl
zeros (suc n) zero = refl
zeros (suc n) (suc place) = zeros n place

pub no_words : (seen : Seen) (words : List ℕ) → length words ≡ 96 → ((place : ℕ) → slice_index_or words place 0 ≡ 0) → LooksAtWords seen seen 0 words
no_words seen words room blank = record { part = []; looks = looks_none seen; steps_are = refl; room = room; words_are = blank }

steps_count : (part : List Made) (f : ℕ → CoreStep) (n : ℕ) → steps_of part ≡ map f (range_with_len 0 n) → length (map (λ (made : Made). made.found) part) ≡ n
steps_count part f n is = length-map part (λ (made : Made). made.found) ∙ sym (length-map part (λ (made : Made). made.step)) ∙ ap length is ∙ length-map-range_with_len f 0 n

-- a list with one more, beside one with it put in its place
put_last : (words founds : List ℕ) (n word : ℕ) → length founds ≡ n → n < length words → ((place : ℕ) → slice_index_or words place 0 ≡ slice_index_or founds place 0) → (place : ℕ) → slice_index_or (slice_set words n word) place 0 ≡ slice_index_or (founds ++ word ∷ []) place 0
put_last words founds n word count room so place = elim (cases_eq place n) [
  | inl same ↦
      ap (λ i. slice_index_or (slice_set words n word) i 0) same ∙ get_or-set_same words n word 0 room
      ∙ sym (get_or-append_seam founds word [] 0) ∙ ap (λ i. slice_index_or (founds ++ word ∷ []) i 0) (count ∙ sym same)
  | inr differ ↦ get_or-set_other words n place word 0 differ ∙ so place ∙ rest differ
]
  where
    len : length (founds ++ word ∷ []) ≡ n + 1
    len = length-append founds (word ∷ []) ∙ ap (λ n. n + 1) count

    rest : place ≢ n → slice_index_or founds place 0 ≡ slice_index_or (founds ++ word ∷ []) place 0
    rest differ = of (nat_lt place n) refl
      where
        of : (b : Bool) → nat_lt place n ≡ b → slice_index_or founds place 0 ≡ slice_index_or (founds ++ word ∷ []) place 0
        of true e = let less = ltb-true place n e in sym (get_or_append_left founds (word ∷ []) 0 place (omega (arith, less, count)))
        of false e =
            let past : n ≤ place = ltb-false place n e in
            get_or_past founds place 0 (omega (arith, past, count)) ∙ sym (get_or_past (founds ++ word ∷ []) place 0 (omega (arith, past, differ, len)))

pub words_more : (old now new : Seen) (count : ℕ) (words : List ℕ) (found : ℕ) → count < 96 → LooksAtWords old now count words → AddsStep now new (Look (Index old.actor count)) found → LooksAtWords old new (count + 1) (slice_set words count found)
words_more old now new count words found few so add =
    let made = made_by now (Look (Index old.actor count)) found add.tables in
    let look : ℕ → CoreStep = λ word. Look (Index old.actor word) in
    let founds = map (λ (made : Made). made.found) so.part in
    record {
      part = so.part ++ made ∷ [];
      looks = looks_then old now new so.part (made ∷ []) so.looks (index_alone now new old.actor count found add);
      steps_are = map_pushed look count (steps_of so.part) (steps_of (so.part ++ made ∷ [])) (look count) so.steps_are (map-append (λ (made : Made). made.step) so.part (made ∷ [])) refl;
      room = length-set words count found ∙ so.room;
      words_are = λ place.
          put_last words founds count found (steps_count so.part look count so.steps_are) (omega (arith, few, so.room)) so.words_are place
          ∙ ap (λ list. slice_index_or list place 0) (sym (map-append (λ (made : Made). made.found) so.part (made ∷ [])));
    }

-- The bits.

-- what looks find does not depend on those before
pub found_same : (old mid : Seen) (early late : List Made) → LooksAlone old mid early → candidates_found mid late ≡ candidates_found old late
found_same old mid early late looks =
    ap (λ (seen : Seen). candidates_found (record seen { local = mid.local }) late) looks.adds.new_is
    ∙ ap (λ (local : Local). candidates_found (record old { local = local }) late) looks.same

-- the steps at the bits that are set
abbrev steps_at : Seen → List ℕ → List ℕ → List CoreStep
steps_at seen words bits = map (λ key. Look (Irq key)) (map (key_of_bit (shape_of seen) seen.actor) (filter (is_cand (record { words = words })) bits))

steps_at_same : (old mid : Seen) (words bits : List ℕ) (part : List Made) → LooksAlone old mid part → steps_at mid words bits ≡ steps_at old words bits
steps_at_same old mid words bits part looks = ap (λ (seen : Seen). steps_at (record old { guest = seen.guest; actor = seen.actor }) words bits) looks.adds.new_is

steps_at_append : (seen : Seen) (words early late : List ℕ) → steps_at seen words (early ++ late) ≡ steps_at seen words early ++ steps_at seen words late
steps_at_append seen words early late =
    let is : ℕ → Bool = is_cand (record { words = words }) in
    let key = key_of_bit (shape_of seen) seen.actor in
    let look : Key → CoreStep = λ key. Look (Irq key) in
    ap (λ bits. map look (map key bits)) (filter-append is early late)
    ∙ ap (map look) (map-append key (filter is early) (filter is late))
    ∙ map-append look (map key (filter is early)) (map key (filter is late))

-- a bit that is not set
pub bit_clear : (seen : Seen) (words : List ℕ) (bit : ℕ) (first : Option Candidate) → is_cand (record { words = words }) bit ≡ false → LooksAtBits seen seen words bit 1 first first
bit_clear seen words bit first clear =
    let look : Key → CoreStep = λ key. Look (Irq key) in
    record {
      part = [];
      looks = looks_none seen;
      steps_are = ap (λ b. map look (map (key_of_bit (shape_of seen) seen.actor) (cond b (bit ∷ []) []))) (sym clear);
      first_is = λ candidates is. is ∙ ap first_of (sym (append-nil candidates));
    }

-- and one that is
pub bit_set :
    (old new : Seen) (words : List ℕ) (bit : ℕ) (key : Key) (one before after : Option Candidate) → IsTrue (has_no_cand old.local) → is_cand (record { words = words }) bit ≡ true → key ≡ key_of_bit (shape_of old) old.actor bit → FindsOne old new key one
    → ((candidates : List Candidate) → before ≡ first_of candidates → after ≡ first_of (candidates ++ option_to_list one)) → LooksAtBits old new words bit 1 before after
bit_set old new words bit key one before after none is_set key_is finds firsts =
    let made = made_by old (Look (Irq key)) finds.found finds.adds.tables in
    let look : Key → CoreStep = λ key. Look (Irq key) in
    record {
      part = made ∷ [];
      looks = irq_alone old new key finds.found none finds.adds;
      steps_are = ap (λ key. look key ∷ []) key_is ∙ ap (λ b. map look (map (key_of_bit (shape_of old) old.actor) (cond b (bit ∷ []) []))) (sym is_set);
      first_is = λ candidates is. firsts candidates is ∙ ap (λ found. first_of (candidates ++ found)) (ap option_to_list finds.one_is ∙ listed (candidate_found old (Look (Irq key)) finds.found));
    }
  where
    listed : (o : Option Candidate) → option_to_list o ≡ cons_option o []
    listed None = refl
    listed (Some one) = refl

pub no_bits : (seen : Seen) (words : List ℕ) → LooksAtBits seen seen words 0 0 None None
no_bits seen words = record { part = []; looks = looks_none seen; steps_are = refl; first_is = λ candidates is. is ∙ ap first_of (sym (append-nil candidates)) }

pub bits_more : (old now new : Seen) (words : List ℕ) (count : ℕ) (first next : Option Candidate) → LooksAtBits old now words 0 count None first → LooksAtBits now new words count 1 first next → LooksAtBits old new words 0 (count + 1) None next
bits_more old now new words count first next so one =
    record {
      part = so.part ++ one.part;
      looks = looks_then old now new so.part one.part so.looks one.looks;
      steps_are =
          map-append (λ (made : Made). made.step) so.part one.part
          ∙ ap (λ steps. steps ++ steps_of one.part) so.steps_are
          ∙ ap (λ steps. steps_at old words (range_with_len 0 count) ++ steps) (one.steps_are ∙ steps_at_same old now words (count ∷ []) so.part so.looks)
          ∙ sym (steps_at_append old words (range_with_len 0 count) (count ∷ []))
          ∙ ap (steps_at old words) (sym (rw add-one (range_with_len_more 0 count count (omega arith))));
      first_is = λ candidates is.
          one.first_is (candidates ++ candidates_found old so.part) (so.first_is candidates is)
          ∙ ap first_of (append_assoc candidates (candidates_found old so.part) (candidates_found now one.part)
          ∙ ap (λ found. candidates ++ found) (ap (λ found. candidates_found old so.part ++ found) (found_same old now so.part one.part so.looks)
          ∙ sym (filter_map-append (λ (made : Made). candidate_found old made.step made.found) so.part one.part)));
    }

-- The round.

-- a look at an index finds no interrupt
index_finds_none : (seen : Seen) (part : List Made) (numbers : List ℕ) → steps_of part ≡ map (λ word. Look (Index seen.actor word)) numbers → candidates_found seen part ≡ []
index_finds_none seen [] numbers is = refl
index_finds_none seen (made ∷ part) [] is = absurd (cc)
index_finds_none seen (made ∷ part) (number ∷ numbers) is =
    let step : made.step ≡ Look (Index seen.actor number) = cc in
    let rest : steps_of part ≡ map (λ word. Look (Index seen.actor word)) numbers = cc in
    ap (λ step. cons_option (candidate_found seen step made.found) (candidates_found seen part)) step ∙ index_finds_none seen part numbers rest

filter_alike : (p q : ℕ → Bool) (xs : List ℕ) → ((x : ℕ) → p x ≡ q x) → filter p xs ≡ filter q xs
filter_alike p q [] alike = refl
filter_alike p q (x ∷ xs) alike = ap (λ b. cond b (x ∷ filter p xs) (filter p xs)) (alike x) ∙ ap (λ rest. cond (q x) (x ∷ rest) rest) (filter_alike p q xs alike)

pub round_so : (old mid new : Seen) (words : List ℕ) (first : Option Candidate) → LooksAtWords old mid (index_words (shape_of old)) words → LooksAtBits mid new words 0 (index_bits (shape_of mid)) None first → LooksRound old new first
round_so old mid new words first at bits =
    let founds = map (λ (made : Made). made.found) at.part in
    let look : Key → CoreStep = λ key. Look (Irq key) in
    let range : GuestShape → List ℕ = λ shape. range_with_len 0 (index_bits shape) in
    record {
      part = at.part ++ bits.part;
      looks = looks_then old mid new at.part bits.part at.looks bits.looks;
      by_index =
          record {
            words = at.part;
            irqs = bits.part;
            part_is = refl;
            words_are = at.steps_are;
            irqs_are =
                bits.steps_are
                ∙ ap (λ shape. steps_at mid words (range shape)) (looks_shape old mid at.part at.looks)
                ∙ steps_at_same old mid words (range (shape_of old)) at.part at.looks
                ∙ ap (λ set. map look (map (key_of_bit (shape_of old) old.actor) set)) (filter_alike (is_cand (record { words = words })) (is_cand (record { words = founds })) (range (shape_of old)) (λ bit. ap (λ word. has_bit word (bit % 64)) (at.words_are (bit / 64))));
          };
      first_is =
          bits.first_is [] refl
          ∙ ap first_of (found_same old mid at.part bits.part at.looks
          ∙ ap (λ found. found ++ candidates_found old bits.part) (sym (index_finds_none old at.part (range_with_len 0 (index_words (shape_of old))) at.steps_are))
          ∙ sym (filter_map-append (λ (made : Made). candidate_found old made.step made.found) at.part bits.part));
    }

-- The lines.

-- a vCPU that is up is so after looks
looks_up : (old new : Seen) (part : List Made) (vcpu : Loaded) → LooksAlone old new part → IsUp old vcpu → IsUp new vcpu
looks_up old new part vcpu looks up =
    let new_is = looks.adds.new_is in
    let local : new.local ≡ old.local = looks.same in
    let on = up.on in
    record {
      on =
          record {
            actor = record { guest = ap (λ (seen : Seen). seen.number) new_is ∙ on.actor.guest; number = ap (λ (seen : Seen). seen.actor) new_is ∙ on.actor.number; is_one = ap (λ seen. is_vcpu (shape_of seen) seen.actor) new_is ∙ on.actor.is_one };
            stands = subst (λ local. StandFor vcpu.regs vcpu.held (interface_of local)) (sym local) on.stands;
            cpu = on.cpu ∙ sym (ap (λ (local : Local). local.cpu) local);
            whole = ap (λ (local : Local). list_all (λ at. not at.given) local.at) local ∙ on.whole;
            settled = ap is_settled local ∙ on.settled;
          };
      lrs = up.lrs;
      ready = ap (λ (local : Local). is_ready local.phase) local ∙ up.ready;
      free = up.free;
      bare = λ trapping. ap (λ (local : Local). local.at) local ∙ up.bare trapping;
    }

pub tells_so : (old new : Seen) (part : List Made) (vcpu : Loaded) (lines : Lines) → IsUp old vcpu → LooksAlone old new part → LooksWhere vcpu.trapping old part → lines ≡ lines_by old.local.cpu (candidates_at (interface_of old.local) ++ candidates_found old part) → TellsLines old new vcpu lines
tells_so old new part vcpu lines up looks where_so value =
    let shape = shape_of old in
    let actor = old.actor in
    let lrs = vcpu.regs.n in
    let up_new = looks_up old new part vcpu looks up in
    let beside : Beside = record { maps = maps_taken part; targets = λ id. None; commands = []; signals = false } in
    let is_vcpu_so : vcpu_of_actor shape actor ≡ Some actor = ap (λ b. if b then Some actor else None) up.on.actor.is_one in
    let Call : Option ℕ → Type 0 = λ actor. IsCall shape beside actor Residence (part_events old part) None in
    let at : (p : Progress) → IsRunning old vcpu p → IsAble old vcpu Residence paid (progressed shape actor p (begins Residence lrs))
    = λ p run. record {
      amid = record { rest = record { local = run.rest.local; own = run.rest.own; scan = run.rest.scan; wants = run.rest.wants }; operation_is = refl; lrs_is = refl; none_failed = run.none_failed; debt_is = run.debt };
      regs = run.regs;
      trapping = run.trapping;
    } in
    record {
      part = part;
      adds = looks.adds;
      none_taken = looks.none_taken;
      looks = where_so;
      value = value;
      same = looks.same;
      up = up_new;
      call = record { beside = beside; maps = refl; signals = refl; call = subst Call (sym is_vcpu_so) (ap (named_of (Some actor)) looks.silent, refl) };
      proper = λ p run. part_proper old new vcpu Residence lrs None part (IsAble old vcpu Residence paid) p up_new (looks.leads vcpu) (at p run);
      goes_on = λ p run. part_runs old new vcpu Residence lrs None part (IsAble old vcpu Residence paid) p (looks.leads vcpu) (at p run);
    }

-- in trap mode nothing is at the interface, and out of it nothing is looked at
pub tells_trapped : (old new : Seen) (vcpu : Loaded) (first : Option Candidate) (cpu : CpuRec) (lines : Lines) → IsUp old vcpu → vcpu.trapping ≡ true → LooksRound old new first → cpu ≡ new.local.cpu → ((candidates : List Candidate) → first ≡ first_of candidates → lines ≡ lines_by cpu candidates) → TellsLines old new vcpu lines
tells_trapped old new vcpu first cpu lines up trapping round cpu_is told =
    let found = candidates_found old round.part in
    tells_so old new round.part vcpu lines up round.looks (subst (λ b. LooksWhere b old round.part) (sym trapping) round.by_index)
    (told found round.first_is ∙ ap (λ cpu. lines_by cpu found) (cpu_is ∙ ap (λ (local : Local). local.cpu) round.looks.same)
    ∙ ap (λ at. lines_by old.local.cpu (filter_map (candidate_of old.local.cpu) (map shown at) ++ found)) (sym (up.bare trapping)))

pub tells_plain : (old : Seen) (vcpu : Loaded) (lines : Lines) → IsUp old vcpu → vcpu.trapping ≡ false → lines ≡ lines_by old.local.cpu (candidates_at (interface_of old.local)) → TellsLines old old vcpu lines
tells_plain old vcpu lines up free is =
    tells_so old old [] vcpu lines up (looks_none old) (subst (λ b. LooksWhere b old []) (sym free) refl)
    (is ∙ ap (lines_by old.local.cpu) (sym (append-nil (candidates_at (interface_of old.local)))))
