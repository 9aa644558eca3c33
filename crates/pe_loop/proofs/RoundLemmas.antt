-- A scan's round: the index, and the looks.
use Rattle.std.proofs.Common.{◌≡◌, ℕ, zero, suc, ◌+◌, ◌-◌, ◌*◌, ◌/◌, ◌<◌, ◌≤◌, cond, if◌then◌else◌, List, [], ◌∷◌, ◌++◌, map, filter, length, Option, Some, None, is_none, refl, sym, ap, subst, ◌∙◌, arith}
use Rattle.std.specs.List.{find, range_with_len}
use Rattle.std.specs.Option.{option_map}
use Rattle.port_call.specs.Words.{Key, GuestShape, IsShape}
use Rattle.port_call.specs.Registers.{CpuRec}
use Rattle.port_call.specs.Lists.{Kept, StandsFor, Offer}
use Rattle.port_call.specs.Core.{Local, Cands, Made, TakeIndex, is_cand, index_bits, index_words, key_of_bit, Seen, IsPort, Adds, shape_of, AreCands, makes, Progress, filled, progress_of, Purpose, looking, ended_scan, next_cand}
use Rattle.port_call.proofs.PortCore.PortLemmas.{adds_join}
use Rattle.port_call.specs.Piece.{steps_of}
use Rattle.port_call.proofs.TryLemmas.{none_append}
use Rattle.pe_loop.specs.Counting.{count_from, is_irq_look, looks_in, bits_taken, AreTaken}
use Rattle.pe_loop.specs.Scanning.{told_by, looked_on, TakesIndex, LooksOver, IsFromIndex, Rounds}
use Rattle.pe_loop.specs.Steps.{is_search}
use Rattle.pe_loop.proofs.CountLemmas.{count_none, count_split, looks_append, taken_append}
use Rattle.pe_loop.proofs.JoinLemmas.{two_on, two_proper, same_proper, same_progress, two_silent}
use Rattle.pe_loop.proofs.LookLemmas.{all_taken}
use Rattle.port_call.proofs.CoreProper.SearchLemmas.{found_nowhere}
use Rattle.pe_loop.proofs.MarkLemmas.{ends_before}
use Rattle.pe_loop.proofs.StepLemmas.{are_append, takes_search}

pub some_word : (shape : GuestShape) → 0 < index_words shape
some_word shape = omega arith

-- the looks are as many as the bits

map_none : (f : ℕ → Key) (o : Option ℕ) → option_map f o ≡ None → o ≡ None
map_none f None e = refl
map_none f (Some n) e = absurd (cc)

no_looks_taking : (part : List Made) (words : List ℕ) → steps_of part ≡ map TakeIndex words → looks_in part ≡ 0
no_looks_taking [] words e = refl
no_looks_taking (made ∷ part) [] e = absurd (cc)
no_looks_taking (made ∷ part) (word ∷ words) e =
    let first : made.step ≡ TakeIndex word = cc in
    let rest : steps_of part ≡ map TakeIndex words = cc in
    let later = filter (λ made. is_irq_look made.step) part in
    ap (λ step. length (cond (is_irq_look step) (made ∷ later) later)) first ∙ no_looks_taking part words rest

-- all candidates are those of the index
all_cands : (shape : GuestShape) (cands : Cands) (bits : ℕ) → IsShape shape → AreCands shape cands.words → AreTaken cands (index_words shape) bits → count_from (is_cand cands) 0 (index_bits shape) ≡ bits
all_cands shape cands bits good are taken =
    let few = bits_few shape good in
    by_words (index_words shape) (words_hold (index_bits shape)) (words_few (index_bits shape) few) taken
  where
    bits_few : (shape : GuestShape) → IsShape shape → index_bits shape ≤ 6112
    bits_few shape good = let spis = good.spis in let espis = good.espis in let lpis = good.lpis in omega (arith, spis, espis, lpis)

    words_hold : (n : ℕ) → n ≤ 64 * ((n + 63) / 64)
    words_hold n = omega arith

    words_few : (n : ℕ) → n ≤ 6112 → 64 * ((n + 63) / 64) ≤ 6144
    words_few n l = omega (arith, l)

    by_words : (words : ℕ) → index_bits shape ≤ 64 * words → 64 * words ≤ 6144 → AreTaken cands words bits → count_from (is_cand cands) 0 (index_bits shape) ≡ bits
    by_words words hold most so =
        let n = index_bits shape in
        let split : n + (64 * words - n) ≡ 64 * words = omega (arith, hold) in
        let all : count_from (is_cand cands) 0 (64 * words) ≡ count_from (is_cand cands) 0 n + count_from (is_cand cands) (0 + n) (64 * words - n)
        = ap (count_from (is_cand cands) 0) (sym split) ∙ count_split (is_cand cands) 0 n (64 * words - n) in
        let rest = count_none (is_cand cands) (0 + n) (64 * words - n) (λ i above below. ends_before shape cands are i (omega (arith, above)) (omega (arith, below, split, most))) in
        let count = so.count in
        omega (arith, all, rest, count)

-- where the looks leave the protocol
looked_none : (new : Seen) (purpose : Purpose) (from : ℕ) (offers : List Offer) (q : Progress) → next_cand (shape_of new) new.actor new.local.cands from ≡ None
    → looked_on new purpose from offers q ≡ (let on = filled (shape_of new) new.actor purpose offers (told_by new q) in record on { scan = ended_scan on.local on.scan })
looked_none new purpose from offers q none =
    ap (λ o. let on = if is_none o then filled (shape_of new) new.actor purpose offers (told_by new q) else record (told_by new q) { scan = looking purpose from offers } in record on { scan = ended_scan on.local on.scan }) none

-- the first step takes the first word
first_index : (part late : List Made) (n : ℕ) → 0 < n → steps_of part ≡ map TakeIndex (range_with_len 0 n) → IsFromIndex (part ++ late)
first_index part late zero l e = absurd (omega (arith, l))
first_index [] late (suc n) l e = absurd (cc)
first_index (made ∷ part) late (suc n) l e = record { first = made; rest = part ++ late; part_is = refl; first_is = cc }

pub rounds_so :
    (old mid new : Seen) (lrs : ℕ) (before after : Kept) (cpu : CpuRec) → IsPort mid → TakesIndex old mid → cpu ≡ mid.local.cpu → before.lrs ≡ lrs → before.vcpu ≡ mid.actor → ((cpu : CpuRec) → StandsFor before cpu []) → LooksOver mid new before after cpu
    → Rounds old new lrs after
rounds_so old mid new lrs before after cpu port takes cpu_is lrs_is vcpu_is fresh looks =
    let shape = shape_of old in
    let actor = old.actor in
    let walk = looks.looking in
    let part = takes.part ++ walk.part in
    let adds : Adds old new part = adds_join old mid new takes.part walk.part takes.adds walk.adds in
    let back : Local → Local = λ local. record local { cands = old.local.cands; phase = old.local.phase } in
    let cpu_new : new.local.cpu ≡ mid.local.cpu = ap (λ local. local.cpu) walk.same in
    let shape_is : shape_of old ≡ shape_of mid = sym (ap shape_of takes.adds.new_is) in
    let end_is : index_bits (shape_of mid) ≡ index_bits (shape_of new) = sym (ap (λ seen. index_bits (shape_of seen)) walk.adds.new_is) in
    let searched : find (is_cand new.local.cands) (range_with_len looks.from (index_bits (shape_of mid) - looks.from)) ≡ None
    = ap (λ end. find (is_cand new.local.cands) (range_with_len looks.from (end - looks.from))) end_is ∙ map_none (key_of_bit (shape_of new) new.actor) (find (is_cand new.local.cands) (range_with_len looks.from (index_bits (shape_of new) - looks.from))) looks.none in
    let tail = count_none (is_cand new.local.cands) looks.from (index_bits (shape_of mid) - looks.from) (found_nowhere (is_cand new.local.cands) looks.from (index_bits (shape_of mid) - looks.from) searched) in
    record {
      part = part;
      offers = walk.offers;
      adds = adds;
      from_index = first_index takes.part walk.part (index_words shape) (some_word shape) takes.steps_are;
      steps_are = are_append is_search takes.part walk.part (takes_search takes.part (range_with_len 0 (index_words shape)) takes.steps_are) walk.steps_are;
      none_taken = none_append takes.part walk.part takes.none_taken walk.none_taken;
      silent = two_silent old mid takes.part walk.part takes.adds takes.silent walk.silent;
      looks = λ none.
          let counted : count_from (is_cand mid.local.cands) 0 (index_bits (shape_of mid)) ≡ bits_taken takes.part
          = all_cands (shape_of mid) mid.local.cands (bits_taken takes.part) port.good.sound.shape port.local.cands (subst (λ shape. AreTaken mid.local.cands (index_words shape) (bits_taken takes.part)) shape_is (takes.taken none)) in
          let walked = walk.looks in
          let still = walk.none_left in
          let none_takes = no_looks_taking takes.part (range_with_len 0 (index_words shape)) takes.steps_are in
          let looks_all = looks_append takes.part walk.part in
          let bits_all = taken_append takes.part walk.part in
          omega (arith, counted, tail, walked, still, none_takes, looks_all, bits_all);
      same = ap back walk.same ∙ takes.same;
      phase = ap (λ local. local.phase) walk.same ∙ takes.phase;
      found = walk.found;
      lrs_is = walk.lrs ∙ lrs_is;
      vcpu_is = walk.vcpu ∙ vcpu_is ∙ sym (ap (λ seen. seen.actor) walk.adds.new_is);
      stands = subst (λ cpu. StandsFor after cpu walk.offers) (cpu_is ∙ sym cpu_new) (walk.stands (fresh cpu));
      proper = λ purpose p at.
          two_proper shape actor p (looked_on mid purpose 0 [] p) takes.part walk.part (takes.proper purpose p at) (all_taken old mid purpose p takes at)
          (same_proper old mid takes.part walk.part (looked_on mid purpose 0 [] p) takes.adds (walk.proper purpose p));
      goes_on = λ purpose p at.
          let on = walk.goes_on purpose p in
          record {
            far = on.far;
            is =
                two_on shape actor p takes.part walk.part
                ∙ ap (λ q. progress_of shape actor q (map makes walk.part)) (all_taken old mid purpose p takes at)
                ∙ same_progress old mid takes.part walk.part (looked_on mid purpose 0 [] p) takes.adds
                ∙ on.is
                ∙ looked_none new purpose looks.from walk.offers (record p { far = on.far }) looks.none;
          };
    }
