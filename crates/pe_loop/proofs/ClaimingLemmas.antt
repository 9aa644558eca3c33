-- A plan is claimed, place by place.
use Rattle.std.proofs.Common.{◌≡◌, ℕ, zero, suc, ◌+◌, ◌<◌, ◌≤◌, ◌||◌, not, Bool, true, false, if◌then◌else◌, List, [], ◌∷◌, ◌++◌, map, take, drop, replicate, length, slice_index_or, Contains, All, Option, Some, None, refl, sym, ap, subst, ◌∙◌, arith}
use Rattle.std.specs.List.{cons_option, filter_map, list_all}
use Rattle.std.specs.Option.{option_map, option_map_or}
use Rattle.std.proofs.lemmas.List.{get_or-map, length-map, map-append}
use Rattle.std.proofs.lemmas.List.Elements.{All-nil, All-cons, All-contains_itself}
use Rattle.std.proofs.lemmas.List.Sums.{fold-append}
use Rattle.std.proofs.lemmas.Option.{none-some}
use Rattle.std.proofs.Math.Seq.{drop-cons}
use Rattle.std.proofs.lemmas.Grind.{same_number_lists}
use Rattle.port_call.proofs.VcpuRefill.ElementLemmas.{Contains-map, Contains-nothing}
use Rattle.port_call.specs.Words.{HeldIrq, Key, has_interrupt, is_same_key, IsShape}
use Rattle.vcpu_state.proofs.GicBase.KeyLemmas.{other_key}
use Rattle.port_call.specs.Lists.{IchRegs, StandFor, StandByPlace, Choice, Fill, regs_of, word_of}
use Rattle.vcpu_state.specs.declared.loaded.Loaded.{Loaded}
use Rattle.port_call.specs.Core.{AtIrq, Local, Irq, interface_of, shown, known, entry_for, Seen, IsPort, shape_of, seen_after, makes, Progress, progressed, progress_of, IsProper, is_both, keys_chosen, keys_of_both, key_of_both}
use Rattle.port_call.proofs.PortCore.AtLemmas.{entry_is}
use Rattle.port_call.proofs.PortCore.PortLemmas.{adds_join}
use Rattle.port_call.proofs.CoreProper.PartLemmas.{proper_append}
use Rattle.port_call.proofs.PieceLemmas.{seen_nil}
use Rattle.port_call.proofs.TryLemmas.{none_append}
use Rattle.pe_loop.specs.Claiming.{IsRight, IsClaimable, regs_left, is_whole, IsNoneOf, claims_by, ClaimsSome, ClaimsAt, CanClaimAt, IsPlanOf, IsBlank, IsRegsAt, IsLoadedAt, IsClaiming, ClaimsAll}
use Rattle.pe_loop.specs.Steps.{all_hit, is_claim}
use Rattle.pe_loop.proofs.MoveLemmas.{moves_join}
use Rattle.pe_loop.proofs.CountLemmas.{quiet_append}
use Rattle.pe_loop.proofs.PlanLemmas.{IsPlanned, planned_so}
use Rattle.pe_loop.proofs.StoreLemmas.{loaded_more, loaded_none, not_held, regs_more, regs_none}
use Rattle.pe_loop.proofs.StepLemmas.{are_append, hit_append, not_both, or_none}

-- Nothing yet.

abbrev zeros : ℕ → List ℕ
zeros n = replicate n 0

abbrev nones : ℕ → List (Option HeldIrq)
nones n = replicate n None

zero_words : (n i : ℕ) → slice_index_or (zeros n) i 0 ≡ 0
zero_words zero zero = refl
zero_words zero (suc i) = refl
zero_words (suc n) zero = refl
zero_words (suc n) (suc i) = zero_words n i

zero_listed : (m n i : ℕ) → slice_index_or (take m (zeros n)) i 0 ≡ 0
zero_listed zero n zero = refl
zero_listed zero n (suc i) = refl
zero_listed (suc m) zero zero = refl
zero_listed (suc m) zero (suc i) = refl
zero_listed (suc m) (suc n) zero = refl
zero_listed (suc m) (suc n) (suc i) = zero_listed m n i

pub none_there : (n i : ℕ) → slice_index_or (nones n) i None ≡ None
none_there zero zero = refl
none_there zero (suc i) = refl
none_there (suc n) zero = refl
none_there (suc n) (suc i) = none_there n i

pub blank_places : (n : ℕ) → StandByPlace (take n (replicate 16 0)) (replicate 16 None) []
blank_places n =
    record {
      filled = λ place one less e. absurd (none-some one (sym (none_there 16 place) ∙ e));
      free = λ place less e. zero_listed n 16 place;
      past = λ place more. none_there 16 place;
      each = λ entry has. absurd (Contains-nothing entry has);
      once = λ j k one other e f same. absurd (none-some one (sym (none_there 16 j) ∙ e));
    }

blank_stands : (seen : Seen) (n : ℕ) (fill : Fill) → IsPlanned seen n fill → StandFor (record (regs_of fill seen.local.cpu n) { lr = replicate 16 0 }) (replicate 16 None) (record { cpu = seen.local.cpu; at = [] })
blank_stands seen n fill plan = record { holds = record { enabled = plan.enabled; vmcr = refl; ap0 = refl; ap1 = refl }; places = blank_places n }

pub nothing_claimed : (seen : Seen) (fill : Fill) (vcpu : Loaded) → IsPort seen → IsPlanOf seen vcpu.regs.n fill → IsBlank seen fill vcpu → IsClaiming seen seen fill vcpu vcpu 0 false
nothing_claimed seen fill vcpu port plan_is blank =
    let plan = planned_so seen vcpu.regs.n fill port.good.sound.shape plan_is in
    let words : List ℕ = map word_of fill.choice in
    let each = plan.each in
    let regs = regs_of fill seen.local.cpu vcpu.regs.n in
    let bare : IchRegs → IchRegs = λ regs. record regs { lr = [] } in
    let At : List AtIrq → Type 0 = λ at. StandFor (record regs { lr = replicate 16 0 }) (replicate 16 None) (record { cpu = seen.local.cpu; at = map shown at }) in
    let Held : IchRegs → Type 0 = λ regs. StandFor regs (replicate 16 None) (interface_of seen.local) in
    let Stands : List (Option HeldIrq) → Type 0 = λ held. StandFor vcpu.regs held (interface_of seen.local) in
    record {
      part = [];
      adds = record { new_is = sym (seen_nil seen) };
      none_taken = refl;
      quiet = refl;
      steps_are = refl;
      failed_is = refl;
      moves = refl;
      same = refl;
      known_as = λ i choice above e. (plan.found i choice e).known_as;
      loaded_is =
          record {
            same = refl;
            words = ap (λ regs. length regs.lr) blank.regs;
            places = ap (λ held. length held) blank.held;
            zero = λ i above. ap (λ regs. slice_index_or regs.lr i 0) blank.regs ∙ zero_words 16 i;
            held = λ j one e. absurd (none-some one (sym (ap (λ held. slice_index_or held j None) blank.held ∙ none_there 16 j) ∙ e));
            stands = subst Stands (sym blank.held) (subst Held (sym blank.regs) (subst At (sym blank.empty) (blank_stands seen vcpu.regs.n fill plan)));
            few = (let none = ap (λ at. length at) blank.empty in omega (arith, none));
            whole = ap (list_all (λ at. not at.given)) blank.empty;
          };
      regs = regs;
      regs_are =
          record {
            same = ap bare (sym blank.regs);
            size = length-map fill.choice word_of ∙ each;
            done = λ i less. absurd (omega (arith, less));
            left = λ i above small. get_or-map word_of fill.choice i None 0 (omega (arith, each, small));
          };
      proper = λ failing p. tt;
      goes_on = λ failing p. ap (λ failing. claims_by seen (keys_chosen fill) (keys_of_both fill) regs fill.trapping failing p) (sym (or_false failing));
    }
  where
    or_false : (b : Bool) → (b || false) ≡ b
    or_false true = refl
    or_false false = refl

-- The next place.

free_there : (old now : Seen) (n : ℕ) (fill : Fill) (place : ℕ) (before loaded : Loaded) (choice : Choice) → IsPlanned old n fill → slice_index_or fill.choice place None ≡ Some choice → IsLoadedAt now fill place before loaded → entry_for choice.key now.local.at ≡ None
free_there old now n fill place before loaded choice plan is so = of (entry_for choice.key now.local.at) refl
  where
    of : (o : Option AtIrq) → entry_for choice.key now.local.at ≡ o → o ≡ None
    of None e = refl
    of (Some entry) e =
        let there = entry_is (Contains now.local.at) choice.key now.local.at entry (All-contains_itself now.local.at) e in
        let held = so.stands.places.each (shown entry) (Contains-map shown now.local.at entry there.0) in
        absurd (not_held old now n fill place before loaded choice plan is so (record { place = held.place; one = held.one; there = held.there; is = held.is ∙ there.1 }))

claimable : (old now : Seen) (fill : Fill) (before loaded : Loaded) (place : ℕ) (failed : Bool) (choice : Choice) → IsShape (shape_of old) → IsPlanOf old before.regs.n fill → place < 16 → slice_index_or fill.choice place None ≡ Some choice → IsClaiming old now fill before loaded place failed → IsClaimable now choice
claimable old now fill before loaded place failed choice good plan_is few is so =
    let plan = planned_so old before.regs.n fill good plan_is in
    let found = plan.found place choice is in
    let right = plan.right place choice is in
    let By : Seen → Type 0 = λ seen. IsClaimable (record seen { local = now.local; own = now.own }) choice in
    let cpu : now.local.cpu ≡ old.local.cpu = ap (λ local. local.cpu) so.same in
    let length_is = so.loaded_is.few in
    let there : By (seen_after old so.part) =
    record {
      vcpu = plan_is.vcpu;
      found =
          record {
            there = found.there;
            own = found.own;
            word = found.word;
            record_is = found.record_is;
            home = found.home;
            unwanted = found.unwanted;
            known_as = so.known_as place choice (omega arith) is;
          };
      right = subst (λ cpu. IsRight (shape_of old) old.actor cpu choice) (sym cpu) right;
      free = free_there old now before.regs.n fill place before loaded choice plan is so.loaded_is;
      room = omega (arith, length_is, few);
    } in
    subst By (sym so.adds.new_is) there

pub can_claim : (old now : Seen) (fill : Fill) (before loaded : Loaded) (place : ℕ) (failed : Bool) → IsPort old → IsPlanOf old before.regs.n fill → place < 16 → IsClaiming old now fill before loaded place failed → CanClaimAt now (slice_index_or fill.choice place None)
can_claim old now fill before loaded place failed port plan_is few so = of (slice_index_or fill.choice place None) refl
  where
    of : (o : Option Choice) → slice_index_or fill.choice place None ≡ o → CanClaimAt now o
    of None e = tt
    of (Some choice) e = claimable old now fill before loaded place failed choice port.good.sound.shape plan_is few e so

-- the choices from a place on
from_place : (old : Seen) (n : ℕ) (fill : Fill) (place : ℕ) → IsPlanned old n fill → place < 16 → drop place fill.choice ≡ slice_index_or fill.choice place None ∷ drop (suc place) fill.choice
from_place old n fill place plan few = let each = plan.each in drop-cons fill.choice place None (omega (arith, each, few))

-- none of the later ones is of the same interrupt
later_all : (P : Key → Type 0) (choices : List (Option Choice)) (place : ℕ) → ((j : ℕ) (other : Choice) → place ≤ j → slice_index_or choices j None ≡ Some other → P other.key) → All P (filter_map (option_map (λ choice. choice.key)) (drop place choices))
later_all P [] zero h = All-nil P
later_all P [] (suc place) h = All-nil P
later_all P (None ∷ choices) zero h = later_all P choices zero (λ j other above e. h (suc j) other (omega arith) e)
later_all P (Some one ∷ choices) zero h = All-cons P one.key (filter_map (option_map (λ choice. choice.key)) choices) (h 0 one (omega arith) refl) (later_all P choices zero (λ j other above e. h (suc j) other (omega arith) e))
later_all P (place ∷ choices) (suc i) h = later_all P choices i (λ j other above e. h (suc j) other (omega (arith, above)) e)

later_both : (P : Key → Type 0) (choices : List (Option Choice)) (place : ℕ) → ((j : ℕ) (other : Choice) → place ≤ j → slice_index_or choices j None ≡ Some other → P other.key) → All P (filter_map (λ place. option_map_or key_of_both place None) (drop place choices))
later_both P [] zero h = All-nil P
later_both P [] (suc place) h = All-nil P
later_both P (None ∷ choices) zero h = later_both P choices zero (λ j other above e. h (suc j) other (omega arith) e)
later_both P (Some one ∷ choices) zero h = of (is_both one.entry.state) (later_both P choices zero (λ j other above e. h (suc j) other (omega arith) e))
  where
    of : (b : Bool) → All P (filter_map (λ place. option_map_or key_of_both place None) choices) → All P (cons_option (if b then Some one.key else None) (filter_map (λ place. option_map_or key_of_both place None) choices))
    of true rest = All-cons P one.key (filter_map (λ place. option_map_or key_of_both place None) choices) (h 0 one (omega arith) refl) rest
    of false rest = rest
later_both P (place ∷ choices) (suc i) h = later_both P choices i (λ j other above e. h (suc j) other (omega (arith, above)) e)

none_later : (old : Seen) (n : ℕ) (fill : Fill) (place : ℕ) (choice : Choice) → IsPlanned old n fill → slice_index_or fill.choice place None ≡ Some choice
    → (j : ℕ) (other : Choice) → suc place ≤ j → slice_index_or fill.choice j None ≡ Some other → is_same_key choice.key other.key ≡ false
none_later old n fill place choice plan is j other above e = other_key choice.key other.key (λ same. let one : place ≡ j = plan.once place j choice other is e same in omega (arith, one, above))

or_more : (a b c : Bool) → ((a || b) || c) ≡ (a || (b || c))
or_more true b c = refl
or_more false b c = refl

-- A place more.

-- with what was chosen
some_claimed : (old now new : Seen) (fill : Fill) (before loaded after : Loaded) (place : ℕ) (failed more : Bool) (choice : Choice) → IsShape (shape_of old) → IsPlanOf old before.regs.n fill → place < 16 → slice_index_or fill.choice place None ≡ Some choice → IsClaiming old now fill before loaded place failed
    → ClaimsSome now new place choice loaded after more → IsClaiming old new fill before after (suc place) (failed || more)
some_claimed old now new fill before loaded after place failed more choice good plan_is few e so it =
    let shape = shape_of old in
    let actor = old.actor in
    let n = before.regs.n in
    let plan = planned_so old n fill good plan_is in
    let chosen = it.chosen in
    let claimed = it.claimed in
    let is = so.adds.new_is in
    let key = choice.key in
    let start = claims_by old (keys_chosen fill) (keys_of_both fill) (regs_of fill old.local.cpu n) fill.trapping in
    let rest : Fill = record fill { choice = drop (suc place) fill.choice } in
    let claims = keys_chosen rest in
    let takes = keys_of_both rest in
    let none : IsNoneOf key claims = record { each = later_all (λ other. is_same_key key other ≡ false) fill.choice (suc place) (none_later old n fill place choice plan e) } in
    let nothing : IsNoneOf key takes = record { each = later_both (λ other. is_same_key key other ≡ false) fill.choice (suc place) (none_later old n fill place choice plan e) } in
    let head : drop place fill.choice ≡ Some choice ∷ drop (suc place) fill.choice = from_place old n fill place plan few ∙ ap (λ o. o ∷ drop (suc place) fill.choice) e in
    let by_choices : Bool → Progress → List (Option Choice) → Progress = λ failing p choices. claims_by now (keys_chosen (record fill { choice = choices })) (keys_of_both (record fill { choice = choices })) so.regs fill.trapping failing p in
    let at : (failing : Bool) (p : Progress) → progress_of shape actor (start failing p) (map makes so.part) ≡ claims_by now (key ∷ claims) (cons_option (key_of_both choice) takes) so.regs fill.trapping (failing || failed) p
    = λ failing p. so.goes_on failing p ∙ ap (by_choices (failing || failed) p) head in
    let back : Local → Local = λ local. record local { at = old.local.at; cands = old.local.cands } in
    record {
      part = so.part ++ chosen.part;
      adds = adds_join old now new so.part chosen.part so.adds chosen.adds;
      none_taken = none_append so.part chosen.part so.none_taken chosen.none_taken;
      quiet = quiet_append so.part chosen.part so.quiet chosen.quiet;
      steps_are = are_append is_claim so.part chosen.part so.steps_are chosen.steps_are;
      failed_is =
          ap (λ b. b || more) so.failed_is ∙ ap (λ b. not (all_hit so.part) || b) (it.failed_is ∙ ap not chosen.whole_is) ∙ not_both (all_hit so.part) (all_hit chosen.part) ∙ ap not (sym (hit_append so.part chosen.part));
      moves = moves_join old now so.part chosen.part so.adds so.moves chosen.moves;
      same = ap back chosen.same ∙ so.same;
      known_as = λ i other above is_other.
          let found = plan.found i other is_other in
          ap (λ seen. known (shape_of seen) seen.actor new.own (Irq other.key)) (sym is)
          ∙ chosen.others other.key (ap (λ shape. has_interrupt shape other.key) (ap shape_of is) ∙ found.there)
          (λ same. let one : i ≡ place = plan.once i place other choice is_other e same in omega (arith, one, above))
          ∙ ap (λ seen. known (shape_of seen) seen.actor now.own (Irq other.key)) is
          ∙ so.known_as i other (omega (arith, above)) is_other;
      loaded_is = subst (IsLoadedAt new fill (suc place) before) (sym it.loaded) (loaded_more old now new n fill place before loaded choice claimed plan refl few e so.loaded_is chosen.same chosen.at);
      regs = regs_left claimed key so.regs;
      regs_are = subst (λ after. IsRegsAt fill (suc place) after (regs_left claimed key so.regs)) (sym it.loaded) (regs_more old now n fill place before loaded choice claimed so.regs good plan refl few e so.loaded_is so.regs_are);
      proper = λ failing p.
          let q = start failing p in
          let Late : Progress → Type 0 = λ q. IsProper shape actor q (map makes chosen.part) in
          let late : Late (claims_by now (key ∷ claims) (cons_option (key_of_both choice) takes) so.regs fill.trapping (failing || failed) p)
          = subst (λ seen. IsProper (shape_of seen) seen.actor (claims_by now (key ∷ claims) (cons_option (key_of_both choice) takes) so.regs fill.trapping (failing || failed) p) (map makes chosen.part)) is
          (chosen.proper claims takes so.regs fill.trapping (failing || failed) p none nothing) in
          subst (IsProper shape actor q) (sym (map-append makes so.part chosen.part))
          ((proper_append shape actor q (map makes so.part) (map makes chosen.part)).1 (so.proper failing p, subst Late (sym (at failing p)) late));
      goes_on = λ failing p.
          let q = start failing p in
          ap (progress_of shape actor q) (map-append makes so.part chosen.part) ∙ fold-append (progressed shape actor) q (map makes so.part) (map makes chosen.part)
          ∙ ap (λ q. progress_of shape actor q (map makes chosen.part)) (at failing p)
          ∙ ap (λ seen. progress_of (shape_of seen) seen.actor (claims_by now (key ∷ claims) (cons_option (key_of_both choice) takes) so.regs fill.trapping (failing || failed) p) (map makes chosen.part)) (sym is)
          ∙ chosen.goes_on claims takes so.regs fill.trapping (failing || failed) p none nothing
          ∙ ap (λ b. claims_by new claims takes (regs_left claimed key so.regs) fill.trapping b p) (or_more failing failed (not (is_whole claimed)) ∙ ap (λ more. failing || (failed || more)) (sym it.failed_is));
    }

-- with nothing
none_claimed : (old now : Seen) (fill : Fill) (before loaded : Loaded) (place : ℕ) (failed : Bool) → IsShape (shape_of old) → IsPlanOf old before.regs.n fill → place < 16 → slice_index_or fill.choice place None ≡ None → IsClaiming old now fill before loaded place failed
    → IsClaiming old now fill before loaded (suc place) (failed || false)
none_claimed old now fill before loaded place failed good plan_is few e so =
    let plan = planned_so old before.regs.n fill good plan_is in
    let head : drop place fill.choice ≡ None ∷ drop (suc place) fill.choice = from_place old before.regs.n fill place plan few ∙ ap (λ o. o ∷ drop (suc place) fill.choice) e in
    let by_choices : Bool → Progress → List (Option Choice) → Progress = λ failing p choices. claims_by now (keys_chosen (record fill { choice = choices })) (keys_of_both (record fill { choice = choices })) so.regs fill.trapping failing p in
    record {
      part = so.part;
      adds = so.adds;
      none_taken = so.none_taken;
      quiet = so.quiet;
      steps_are = so.steps_are;
      failed_is = or_none failed ∙ so.failed_is;
      moves = so.moves;
      same = so.same;
      known_as = λ i other above is. so.known_as i other (omega (arith, above)) is;
      loaded_is = loaded_none now now fill place before loaded so.loaded_is refl refl;
      regs = so.regs;
      regs_are = regs_none now fill place before loaded so.regs few e so.loaded_is so.regs_are;
      proper = so.proper;
      goes_on = λ failing p. so.goes_on failing p ∙ ap (by_choices (failing || failed) p) head ∙ ap (λ b. by_choices b p (drop (suc place) fill.choice)) (same_or failing failed);
    }
  where
    same_or : (a b : Bool) → (a || b) ≡ (a || (b || false))
    same_or true b = refl
    same_or false true = refl
    same_or false false = refl

pub place_claimed : (old now new : Seen) (fill : Fill) (before loaded after : Loaded) (place : ℕ) (failed more : Bool) → IsPort old → IsPlanOf old before.regs.n fill → place < 16 → IsClaiming old now fill before loaded place failed
    → ClaimsAt now new place (slice_index_or fill.choice place None) loaded after more → IsClaiming old new fill before after (place + 1) (failed || more)
place_claimed old now new fill before loaded after place failed more port plan_is few so it =
    subst (λ place. IsClaiming old new fill before after place (failed || more)) (omega arith) (of (slice_index_or fill.choice place None) refl it)
  where
    of : (o : Option Choice) → slice_index_or fill.choice place None ≡ o → ClaimsAt now new place o loaded after more → IsClaiming old new fill before after (suc place) (failed || more)
    of None e none =
        subst (λ seen. IsClaiming old seen fill before after (suc place) (failed || more)) (sym none.seen)
        (subst (λ vcpu. IsClaiming old now fill before vcpu (suc place) (failed || more)) (sym none.loaded)
        (subst (λ more. IsClaiming old now fill before loaded (suc place) (failed || more)) (sym none.failed_is) (none_claimed old now fill before loaded place failed port.good.sound.shape plan_is few e so)))
    of (Some choice) e some = some_claimed old now new fill before loaded after place failed more choice port.good.sound.shape plan_is few e so some

-- All places.

drop_all : (n : ℕ) (choices : List (Option Choice)) → length choices ≤ n → drop n choices ≡ []
drop_all zero [] l = refl
drop_all (suc n) [] l = refl
drop_all zero (choice ∷ choices) l = absurd (omega (arith, l))
drop_all (suc n) (choice ∷ choices) l = drop_all n choices (omega (arith, l))

same_regs : (regs other : IchRegs) → record regs { lr = [] } ≡ record other { lr = [] } → regs.lr ≡ other.lr → regs ≡ other
same_regs regs other same words = let back : IchRegs → IchRegs = λ r. record r { lr = regs.lr } in ap back same ∙ ap (λ lr. record other { lr = lr }) words

pub all_claimed : (old now : Seen) (fill : Fill) (before loaded : Loaded) (failed : Bool) → IsPort old → IsPlanOf old before.regs.n fill → IsClaiming old now fill before loaded 16 failed → ClaimsAll old now fill before loaded failed
all_claimed old now fill before loaded failed port plan_is so =
    let plan = planned_so old before.regs.n fill port.good.sound.shape plan_is in
    let each = plan.each in
    let is = so.loaded_is in
    let at = so.regs_are in
    let size = at.size in
    let words = is.words in
    let regs : so.regs ≡ loaded.regs = same_regs so.regs loaded.regs at.same (same_number_lists so.regs.lr loaded.regs.lr (omega (arith, size, words)) (λ k less. at.done k (omega (arith, less, size)))) in
    let by_choices : Bool → Progress → List (Option Choice) → Progress = λ failing p choices. claims_by now (keys_chosen (record fill { choice = choices })) (keys_of_both (record fill { choice = choices })) so.regs fill.trapping failing p in
    record {
      part = so.part;
      adds = so.adds;
      none_taken = so.none_taken;
      quiet = so.quiet;
      steps_are = so.steps_are;
      failed_is = so.failed_is;
      moves = so.moves;
      same = so.same;
      loaded = is.same;
      held = is.held;
      stands = is.stands;
      whole = is.whole;
      proper = so.proper;
      goes_on = λ failing p.
          so.goes_on failing p ∙ ap (by_choices (failing || failed) p) (drop_all 16 fill.choice (omega (arith, each)))
          ∙ ap (λ regs. claims_by now [] [] regs fill.trapping (failing || failed) p) regs;
    }
