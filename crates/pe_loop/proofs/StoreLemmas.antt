-- The list registers while a plan is claimed.
use Rattle.std.proofs.Common.{◌≡◌, ◌≢◌, ℕ, zero, suc, ◌+◌, ◌*◌, ◌%◌, ◌^◌, ◌<◌, ◌≤◌, ◌&&◌, ◌||◌, ◌⊎◌, inl, inr, nat_lt, not, Bool, true, false, cond, IsTrue, List, [], ◌∷◌, ◌++◌, map, length, get_or, set, slice_index_or, slice_set, Contains, Option, Some, None, option_to_list, append-nil, length-append, refl, sym, ap, subst, ◌∙◌, arith}
use Rattle.std.specs.List.{list_all, position, position_or_len}
use Rattle.std.specs.Option.{option_map, option_map_or}
use Rattle.std.proofs.lemmas.Bool.{cases_eq, cases_lt, eq-eqb, lt-ltb}
use Rattle.std.proofs.lemmas.List.{get_or-set_same, get_or-set_other, get_or-take, length-set, length-take, map-append}
use Rattle.std.proofs.lemmas.List.Elements.{Contains-append_left, Contains-append_right, Contains-append_cases}
use Rattle.std.proofs.lemmas.List.Folds.{list_all-append}
use Rattle.std.proofs.lemmas.Option.{none-some, same_Some}
use Rattle.port_call.proofs.VcpuRefill.ElementLemmas.{Contains-here, Contains-cases, Contains-nothing}
use Rattle.port_call.proofs.VcpuRefill.StandLemmas.{bit_small, group_small}
use Rattle.port_call.specs.Words.{HeldIrq, Key, GuestShape, intid_of, IsShape, bit_of, group_number}
use Rattle.port_call.specs.Lists.{IchRegs, Seen as Shows, seen_in, StandsAs, IsHeld, StandFor, listed_of, is_live, LrEntry, Active, packed, state_number, state_has_pending, state_has_active, with_state, Choice, Fill, entry_of, held_as, word_of}
use Rattle.port_call.proofs.GicIcv.ChangeLemmas.{seen_with_state}
use Rattle.port_call.proofs.GicIcv.PlaceLemmas.{entry_id, live_held}
use Rattle.port_call.specs.Registers.{AtInterface}
use Rattle.vcpu_state.specs.declared.loaded.Loaded.{Loaded}
use Rattle.vcpu_state.specs.Places.{with_place, IsWith}
use Rattle.vcpu_state.proofs.PlaceLemmas.{put_stands}
use Rattle.port_call.specs.Core.{AtIrq, interface_of, shown, Seen, shape_of, with_changed}
use Rattle.pe_loop.specs.declared.claims.Claimed.{Claimed}
use Rattle.pe_loop.specs.declared.claims.Claimed.TheVariants.{Whole, Bare, Missed}
use Rattle.pe_loop.specs.Claiming.{without_causes, choice_left, at_of, regs_left, loaded_with, IsRight, IsClaimed, IsRegsAt, IsLoadedAt}
use Rattle.port_call.proofs.CoreProper.IntidLemmas.{in_range, same_by_id}
use Rattle.pe_loop.proofs.PlanLemmas.{IsPlanned}

-- A list register with State 2 in place of 3.

bare_packed : (entry : LrEntry) → entry.hw ≡ None → entry.id < 2 ^ 32 → entry.prio < 2 ^ 8 → packed (record entry { state = Active }) ≡ with_state (packed entry) Active
bare_packed entry none id prio =
    ap (λ hw. packed (record entry { hw = hw; state = Active })) none
    ∙ sums entry.id (bit_of entry.eoi) entry.prio (group_number entry.group) (state_number entry.state) id (bit_small entry.eoi) prio (group_small entry.group)
    ∙ ap (λ hw. with_state (packed (record entry { hw = hw })) Active) (sym none)
  where
    sums : (id eoi prio group state : ℕ) → id < 2 ^ 32 → eoi ≤ 1 → prio < 2 ^ 8 → group ≤ 1
        → id + eoi * 2 ^ 41 + prio * 2 ^ 48 + group * 2 ^ 60 + 2 * 2 ^ 62 ≡ (id + eoi * 2 ^ 41 + prio * 2 ^ 48 + group * 2 ^ 60 + state * 2 ^ 62) % 2 ^ 62 + 2 * 2 ^ 62
    sums id eoi prio group state a b c d = omega (arith, a, b, c, d)

-- it stands for the interrupt without its causes
pub bare_stands : (choice : Choice) → choice.entry.hw ≡ None → choice.entry.id < 2 ^ 32 → choice.entry.prio < 2 ^ 8 → StandsAs (packed choice.entry) (held_as choice) (entry_of choice)
    → StandsAs (packed (without_causes choice).entry) (held_as (without_causes choice)) (entry_of (without_causes choice))
bare_stands choice hw id prio stands =
    let inactive : Shows → Shows = λ seen. record seen { pending = false; active = true } in
    record {
      key = refl;
      seen = ap seen_in (bare_packed choice.entry hw id prio) ∙ seen_with_state (packed choice.entry) Active ∙ ap inactive stands.seen;
      rise = refl;
      soft = refl;
    }

-- The first list register that is so.

first_place : (p : ℕ → Bool) (words : List ℕ) (i : ℕ) → i < length words → p (get_or words i 0) ≡ true → ((k : ℕ) → k < i → p (get_or words k 0) ≡ false) → position_or_len p words ≡ i
first_place p [] i l is none = absurd (omega (arith, l))
first_place p (word ∷ words) zero l is none = ap (λ b. cond (not b) (1 + position_or_len p words) 0) is
first_place p (word ∷ words) (suc i) l is none =
    let rest = first_place p words i (omega (arith, l)) is (λ k less. none (suc k) (omega (arith, less))) in
    ap (λ b. cond (not b) (1 + position_or_len p words) 0) (none 0 (omega arith)) ∙ omega (arith, rest)

first_at : (p : ℕ → Bool) (words : List ℕ) (i : ℕ) → i < length words → p (get_or words i 0) ≡ true → ((k : ℕ) → k < i → p (get_or words k 0) ≡ false) → position p words ≡ Some i
first_at p words i l is none =
    let at = first_place p words i l is none in
    ap (λ n. cond (nat_lt n (length words)) (Some n) None) at ∙ ap (λ b. cond b (Some i) None) (lt-ltb i (length words) l)

-- the list register of an interrupt changes
pub changed_there : (regs : IchRegs) (key : Key) (place : ℕ) (change : ℕ → ℕ) → place < regs.n → length regs.lr ≡ 16 → place < 16 → is_live (intid_of key) (seen_in (get_or regs.lr place 0)) ≡ true
    → ((k : ℕ) → k < place → is_live (intid_of key) (seen_in (get_or regs.lr k 0)) ≡ false) → with_changed key change regs ≡ record regs { lr = set regs.lr place (change (get_or regs.lr place 0)) }
changed_there regs key place change below size few live none =
    let p : ℕ → Bool = λ word. is_live (intid_of key) (seen_in word) in
    let listed : (k : ℕ) → k < regs.n → get_or (listed_of regs) k 0 ≡ get_or regs.lr k 0 = λ k l. get_or-take regs.n regs.lr k 0 l in
    let within : place < length (listed_of regs) = omega (arith, length-take regs.n regs.lr, size, few, below) in
    ap (λ o. option_map_or (λ place. record regs { lr = set regs.lr place (change (get_or regs.lr place 0)) }) o regs)
    (first_at p (listed_of regs) place within (ap p (listed place below) ∙ live) (λ k l. ap p (listed k (omega (arith, l, below))) ∙ none k l))

-- What the vCPU holds, with one more.

pub is_with : (one : AtInterface) (at : List AtInterface) → IsWith one at (at ++ one ∷ [])
is_with one at =
    record {
      one = Contains-append_right at (one ∷ []) one (Contains-here one []);
      kept = λ other has. Contains-append_left at (one ∷ []) other has;
      only = λ other has. by_side other (Contains-append_cases at (one ∷ []) other has);
    }
  where
    alone : (other : AtInterface) → (one ≡ other) ⊎ Contains [] other → (other ≡ one) ⊎ Contains at other
    alone other (inl same) = inl (sym same)
    alone other (inr has) = absurd (Contains-nothing other has)

    by_side : (other : AtInterface) → Contains at other ⊎ Contains (one ∷ []) other → (other ≡ one) ⊎ Contains at other
    by_side other (inl has) = inr has
    by_side other (inr has) = alone other (Contains-cases one other [] has)

-- nothing is held of a choice of a place to come
pub not_held : (seen now : Seen) (n : ℕ) (fill : Fill) (place : ℕ) (before loaded : Loaded) (choice : Choice) → IsPlanned seen n fill → slice_index_or fill.choice place None ≡ Some choice → IsLoadedAt now fill place before loaded → IsHeld loaded.held choice.key → ⊥
not_held seen now n fill place before loaded choice plan is so held =
    let claimed = so.held held.place held.one held.there in
    let same : held.place ≡ place = plan.once held.place place claimed.choice choice claimed.chosen is (claimed.key ∙ held.is) in
    let less = claimed.before in
    omega (arith, same, less)

none_at : (seen now : Seen) (n : ℕ) (fill : Fill) (place : ℕ) (before loaded : Loaded) → IsLoadedAt now fill place before loaded → slice_index_or loaded.held place None ≡ None
none_at seen now n fill place before loaded so = of (slice_index_or loaded.held place None) refl
  where
    of : (o : Option HeldIrq) → slice_index_or loaded.held place None ≡ o → o ≡ None
    of None e = refl
    of (Some one) e = absurd (let less = (so.held place one e).before in omega (arith, less))

-- a place past the list registers has nothing
pub place_below : (seen : Seen) (n : ℕ) (fill : Fill) (place : ℕ) (choice : Choice) → IsPlanned seen n fill → slice_index_or fill.choice place None ≡ Some choice → place < n
place_below seen n fill place choice plan is = elim (cases_lt place n) [ inl less ↦ less | inr past ↦ absurd (none-some choice (sym (plan.few place past) ∙ is)) ]

-- the same interface, as another port tells it
same_interface : (now new : Seen) (at : List AtIrq) → record new.local { at = now.local.at; cands = now.local.cands } ≡ now.local → new.local.at ≡ at → record (interface_of now.local) { at = map shown at } ≡ interface_of new.local
same_interface now new at same at_is = ap (λ local. record (interface_of local) { at = map shown at }) (sym same) ∙ ap (λ at. record { cpu = new.local.cpu; at = map shown at }) (sym at_is)

-- an interrupt came
loaded_one : (seen now new : Seen) (n : ℕ) (fill : Fill) (place : ℕ) (before loaded : Loaded) (choice come : Choice) → IsPlanned seen n fill → before.regs.n ≡ n → place < 16 → slice_index_or fill.choice place None ≡ Some choice → come.key ≡ choice.key
    → StandsAs (packed come.entry) (held_as come) (entry_of come) → IsLoadedAt now fill place before loaded → record new.local { at = now.local.at; cands = now.local.cands } ≡ now.local → new.local.at ≡ now.local.at ++ at_of come ∷ []
    → IsLoadedAt new fill (suc place) before (with_place place (packed come.entry) (Some (held_as come)) loaded)
loaded_one seen now new n fill place before loaded choice come plan count few is key_is stands so same at_is =
    let regs_n : loaded.regs.n ≡ n = ap (λ vcpu. vcpu.regs.n) so.same ∙ count in
    let below = place_below seen n fill place choice plan is in
    let words = so.words in
    let places = so.places in
    let free : slice_index_or loaded.held place None ≡ None = none_at seen now n fill place before loaded so in
    let standing = put_stands loaded.regs loaded.held (interface_of now.local) (map shown now.local.at ++ entry_of come ∷ []) place (packed come.entry) (held_as come) (entry_of come) (omega (arith, words, few)) (omega (arith, places, few)) so.stands (omega (arith, regs_n, below)) free
    (λ held. not_held seen now n fill place before loaded choice plan is so (record { place = held.place; one = held.one; there = held.there; is = held.is ∙ key_is })) stands (is_with (entry_of come) (map shown now.local.at)) in
    let interface : record (interface_of now.local) { at = map shown now.local.at ++ entry_of come ∷ [] } ≡ interface_of new.local
    = ap (λ at. record (interface_of now.local) { at = at }) (sym (map-append shown now.local.at (at_of come ∷ []))) ∙ same_interface now new (now.local.at ++ at_of come ∷ []) same at_is in
    let less = so.few in
    let whole = so.whole in
    record {
      same = so.same;
      words = length-set loaded.regs.lr place (packed come.entry) ∙ words;
      places = length-set loaded.held place (Some (held_as come)) ∙ places;
      zero = λ i above. get_or-set_other loaded.regs.lr place i (packed come.entry) 0 (λ e. omega (arith, e, above)) ∙ so.zero i (omega (arith, above));
      held = λ j one e. held_by j one e (cases_eq j place);
      stands = subst (StandFor (record loaded.regs { lr = set loaded.regs.lr place (packed come.entry) }) (set loaded.held place (Some (held_as come)))) interface standing;
      few = (let longer = ap (λ at. length at) at_is ∙ length-append now.local.at (at_of come ∷ []) in omega (arith, longer, less));
      whole = ap (list_all (λ at. not at.given)) at_is ∙ list_all-append (λ at. not at.given) now.local.at (at_of come ∷ []) ∙ ap (λ b. b && true) whole;
    }
  where
    held_by : (j : ℕ) (one : HeldIrq) → slice_index_or (slice_set loaded.held place (Some (held_as come))) j None ≡ Some one → (j ≡ place) ⊎ (j ≢ place) → IsClaimed fill (suc place) j one
    held_by j one e (inl here) =
        let places = so.places in
        let one_is : held_as come ≡ one = same_Some (held_as come) one (sym (get_or-set_same loaded.held place (Some (held_as come)) None (omega (arith, places, few))) ∙ ap (λ j. slice_index_or (slice_set loaded.held place (Some (held_as come))) j None) (sym here) ∙ e) in
        record { before = omega (arith, here); choice = choice; chosen = ap (λ j. slice_index_or fill.choice j None) here ∙ is; key = sym key_is ∙ ap (λ held. held.key) one_is }
    held_by j one e (inr apart) =
        let claimed = so.held j one (sym (get_or-set_other loaded.held place j (Some (held_as come)) None apart) ∙ e) in
        let less = claimed.before in
        record { before = omega (arith, less); choice = claimed.choice; chosen = claimed.chosen; key = claimed.key }

-- none came
pub loaded_none : (now new : Seen) (fill : Fill) (place : ℕ) (before loaded : Loaded) → IsLoadedAt now fill place before loaded → record new.local { at = now.local.at; cands = now.local.cands } ≡ now.local → new.local.at ≡ now.local.at → IsLoadedAt new fill (suc place) before loaded
loaded_none now new fill place before loaded so same at_is =
    let less = so.few in
    record {
      same = so.same;
      words = so.words;
      places = so.places;
      zero = λ i above. so.zero i (omega (arith, above));
      held = λ j one e. let claimed = so.held j one e in let before_it = claimed.before in record { before = omega (arith, before_it); choice = claimed.choice; chosen = claimed.chosen; key = claimed.key };
      stands = subst (StandFor loaded.regs loaded.held) (same_interface now new now.local.at same at_is) so.stands;
      few = (let longer = ap (λ at. length at) at_is in omega (arith, longer, less));
      whole = ap (list_all (λ at. not at.given)) at_is ∙ so.whole;
    }

pub loaded_more : (seen now new : Seen) (n : ℕ) (fill : Fill) (place : ℕ) (before loaded : Loaded) (choice : Choice) (claimed : Claimed) → IsPlanned seen n fill → before.regs.n ≡ n → place < 16 → slice_index_or fill.choice place None ≡ Some choice
    → IsLoadedAt now fill place before loaded → record new.local { at = now.local.at; cands = now.local.cands } ≡ now.local → new.local.at ≡ now.local.at ++ option_to_list (option_map at_of (choice_left claimed choice))
    → IsLoadedAt new fill (suc place) before (loaded_with place (choice_left claimed choice) loaded)
loaded_more seen now new n fill place before loaded choice Whole plan count few is so same at_is = loaded_one seen now new n fill place before loaded choice choice plan count few is refl (plan.stands place choice is) so same at_is
loaded_more seen now new n fill place before loaded choice Bare plan count few is so same at_is =
    let fits = plan.fits place choice is in
    loaded_one seen now new n fill place before loaded choice (without_causes choice) plan count few is refl (bare_stands choice (plan.hw place choice is) fits.0 fits.1 (plan.stands place choice is)) so same at_is
loaded_more seen now new n fill place before loaded choice Missed plan count few is so same at_is = loaded_none now new fill place before loaded so same (at_is ∙ append-nil now.local.at)

-- The protocol's registers.

-- what was chosen is live in its list register
pub chosen_live : (shape : GuestShape) (seen : Seen) (choice : Choice) → IsRight shape seen.actor seen.local.cpu choice → StandsAs (packed choice.entry) (held_as choice) (entry_of choice) → is_live (intid_of choice.key) (seen_in (packed choice.entry)) ≡ true
chosen_live shape seen choice right stands =
    ap (is_live (intid_of choice.key)) stands.seen
    ∙ ap (λ b. b && (state_has_pending choice.entry.state || state_has_active choice.entry.state)) (eq-eqb (intid_of choice.key) (intid_of choice.key) refl)
    ∙ elim right.state [
      | inl pending ↦ ap (λ state. state_has_pending state || state_has_active state) pending.0
      | inr active ↦ or_true (state_has_pending choice.entry.state) (state_has_active choice.entry.state) active.0
    ]
  where
    or_true : (a b : Bool) → IsTrue b → (a || b) ≡ true
    or_true true b h = refl
    or_true false b h = h

-- and no earlier one has its INTID
none_live : (seen now : Seen) (n : ℕ) (fill : Fill) (place : ℕ) (before loaded : Loaded) (choice : Choice) (regs : IchRegs) → IsShape (shape_of seen) → IsPlanned seen n fill → before.regs.n ≡ n → place < 16 → slice_index_or fill.choice place None ≡ Some choice → IsLoadedAt now fill place before loaded
    → IsRegsAt fill place loaded regs → (k : ℕ) → k < place → is_live (intid_of choice.key) (seen_in (get_or regs.lr k 0)) ≡ false
none_live seen now n fill place before loaded choice regs good plan count few is so at k less = of (is_live (intid_of choice.key) (seen_in (get_or regs.lr k 0))) refl
  where
    of : (b : Bool) → is_live (intid_of choice.key) (seen_in (get_or regs.lr k 0)) ≡ b → b ≡ false
    of false e = refl
    of true e =
        let id = intid_of choice.key in
        let regs_n : loaded.regs.n ≡ n = ap (λ vcpu. vcpu.regs.n) so.same ∙ count in
        let below = place_below seen n fill place choice plan is in
        let words = so.words in
        let within : k < length (listed_of loaded.regs) = omega (arith, length-take loaded.regs.n loaded.regs.lr, words, less, few, below, regs_n) in
        let listed : get_or (listed_of loaded.regs) k 0 ≡ get_or regs.lr k 0 = get_or-take loaded.regs.n loaded.regs.lr k 0 (omega (arith, less, below, regs_n)) ∙ sym (at.done k less) in
        let live : is_live id (seen_in (get_or (listed_of loaded.regs) k 0)) ≡ true = ap (λ word. is_live id (seen_in word)) listed ∙ e in
        let found = live_held (listed_of loaded.regs) loaded.held (map shown now.local.at) k id so.stands.places within live in
        let claimed = so.held k found.0 found.1 in
        let entry = found.2.entry in
        let id_is : intid_of claimed.choice.key ≡ id = ap intid_of (claimed.key ∙ sym found.2.stands.key) ∙ entry_id (get_or (listed_of loaded.regs) k 0) id entry found.2.stands.seen live in
        let one = plan.found k claimed.choice claimed.chosen in
        let other = plan.found place choice is in
        let same : claimed.choice.key ≡ choice.key = same_by_id seen.actor claimed.choice.key choice.key (in_range (shape_of seen) claimed.choice.key good one.there) (in_range (shape_of seen) choice.key good other.there) one.own other.own id_is in
        let places : k ≡ place = plan.once k place claimed.choice choice claimed.chosen is same in
        absurd (omega (arith, places, less))

-- the registers with another word at a place, which the vCPU has there too
regs_changed : (fill : Fill) (place : ℕ) (loaded after : Loaded) (regs : IchRegs) (word : ℕ) → place < 16 → IsRegsAt fill place loaded regs → record after.regs { lr = [] } ≡ record loaded.regs { lr = [] } → slice_index_or after.regs.lr place 0 ≡ word
    → ((i : ℕ) → i < place → slice_index_or after.regs.lr i 0 ≡ slice_index_or loaded.regs.lr i 0) → IsRegsAt fill (suc place) after (record regs { lr = set regs.lr place word })
regs_changed fill place loaded after regs word few at same here before =
    let size = at.size in
    record {
      same = at.same ∙ sym same;
      size = length-set regs.lr place word ∙ at.size;
      done = λ i less. by i less (cases_eq i place);
      left = λ i more small. get_or-set_other regs.lr place i word 0 (λ e. omega (arith, e, more)) ∙ at.left i (omega (arith, more)) small;
    }
  where
    by : (i : ℕ) → i < suc place → (i ≡ place) ⊎ (i ≢ place) → slice_index_or (set regs.lr place word) i 0 ≡ slice_index_or after.regs.lr i 0
    by i less (inl is) = let size = at.size in ap (λ i. slice_index_or (set regs.lr place word) i 0) is ∙ get_or-set_same regs.lr place word 0 (omega (arith, size, few)) ∙ sym here ∙ ap (λ i. slice_index_or after.regs.lr i 0) (sym is)
    by i less (inr apart) = get_or-set_other regs.lr place i word 0 apart ∙ at.done i (omega (arith, less, apart)) ∙ sym (before i (omega (arith, less, apart)))

-- the registers as they are, where the vCPU has the same word at the place
regs_same : (fill : Fill) (place : ℕ) (loaded after : Loaded) (regs : IchRegs) → place < 16 → IsRegsAt fill place loaded regs → record after.regs { lr = [] } ≡ record loaded.regs { lr = [] } → slice_index_or after.regs.lr place 0 ≡ word_of (slice_index_or fill.choice place None)
    → ((i : ℕ) → i < place → slice_index_or after.regs.lr i 0 ≡ slice_index_or loaded.regs.lr i 0) → IsRegsAt fill (suc place) after regs
regs_same fill place loaded after regs few at same here before =
    record {
      same = at.same ∙ sym same;
      size = at.size;
      done = λ i less. by i less (cases_eq i place);
      left = λ i more small. at.left i (omega (arith, more)) small;
    }
  where
    by : (i : ℕ) → i < suc place → (i ≡ place) ⊎ (i ≢ place) → slice_index_or regs.lr i 0 ≡ slice_index_or after.regs.lr i 0
    by i less (inl is) = ap (λ i. slice_index_or regs.lr i 0) is ∙ at.left place (omega arith) few ∙ sym here ∙ ap (λ i. slice_index_or after.regs.lr i 0) (sym is)
    by i less (inr apart) = at.done i (omega (arith, less, apart)) ∙ sym (before i (omega (arith, less, apart)))

pub regs_none : (now : Seen) (fill : Fill) (place : ℕ) (before loaded : Loaded) (regs : IchRegs) → place < 16 → slice_index_or fill.choice place None ≡ None → IsLoadedAt now fill place before loaded → IsRegsAt fill place loaded regs → IsRegsAt fill (suc place) loaded regs
regs_none now fill place before loaded regs few none so at = regs_same fill place loaded loaded regs few at refl (so.zero place (omega arith) ∙ ap word_of (sym none)) (λ i less. refl)

pub regs_more : (seen now : Seen) (n : ℕ) (fill : Fill) (place : ℕ) (before loaded : Loaded) (choice : Choice) (claimed : Claimed) (regs : IchRegs) → IsShape (shape_of seen) → IsPlanned seen n fill → before.regs.n ≡ n → place < 16 → slice_index_or fill.choice place None ≡ Some choice
    → IsLoadedAt now fill place before loaded → IsRegsAt fill place loaded regs → IsRegsAt fill (suc place) (loaded_with place (choice_left claimed choice) loaded) (regs_left claimed choice.key regs)
regs_more seen now n fill place before loaded choice claimed regs good plan count few is so at = of claimed
  where
    word_is : get_or regs.lr place 0 ≡ packed choice.entry
    word_is = at.left place (omega arith) few ∙ ap word_of is

    live : is_live (intid_of choice.key) (seen_in (get_or regs.lr place 0)) ≡ true
    live = ap (λ word. is_live (intid_of choice.key) (seen_in word)) word_is ∙ chosen_live (shape_of seen) seen choice (plan.right place choice is) (plan.stands place choice is)

    below : place < regs.n
    below =
        let less = place_below seen n fill place choice plan is in
        let loaded_n : loaded.regs.n ≡ n = ap (λ vcpu. vcpu.regs.n) so.same ∙ count in
        let regs_n : regs.n ≡ loaded.regs.n = ap (λ regs. regs.n) at.same in
        omega (arith, less, loaded_n, regs_n)

    changes : (change : ℕ → ℕ) → with_changed choice.key change regs ≡ record regs { lr = set regs.lr place (change (packed choice.entry)) }
    changes change =
        changed_there regs choice.key place change below at.size few live (none_live seen now n fill place before loaded choice regs good plan count few is so at)
        ∙ ap (λ word. record regs { lr = set regs.lr place (change word) }) word_is

    room : place < length loaded.regs.lr
    room = let words = so.words in omega (arith, words, few)

    of : (claimed : Claimed) → IsRegsAt fill (suc place) (loaded_with place (choice_left claimed choice) loaded) (regs_left claimed choice.key regs)
    of Whole =
        regs_same fill place loaded (with_place place (packed choice.entry) (Some (held_as choice)) loaded) regs few at refl
        (get_or-set_same loaded.regs.lr place (packed choice.entry) 0 room ∙ ap word_of (sym is))
        (λ i less. get_or-set_other loaded.regs.lr place i (packed choice.entry) 0 (λ e. omega (arith, e, less)))
    of Bare =
        let bare = without_causes choice in
        let fits = plan.fits place choice is in
        let word : with_state (packed choice.entry) Active ≡ packed bare.entry = sym (bare_packed choice.entry (plan.hw place choice is) fits.0 fits.1) in
        subst (IsRegsAt fill (suc place) (with_place place (packed bare.entry) (Some (held_as bare)) loaded)) (sym (changes (λ word. with_state word Active) ∙ ap (λ word. record regs { lr = set regs.lr place word }) word))
        (regs_changed fill place loaded (with_place place (packed bare.entry) (Some (held_as bare)) loaded) regs (packed bare.entry) few at refl
        (get_or-set_same loaded.regs.lr place (packed bare.entry) 0 room)
        (λ i less. get_or-set_other loaded.regs.lr place i (packed bare.entry) 0 (λ e. omega (arith, e, less))))
    of Missed =
        subst (IsRegsAt fill (suc place) loaded) (sym (changes (λ word. 0)))
        (regs_changed fill place loaded loaded regs 0 few at refl (so.zero place (omega arith)) (λ i less. refl))
