-- Commands that are about several LPIs.
use Rattle.std.proofs.Common.{◌≡◌, ◌≢◌, ℕ, zero, suc, ◌+◌, ◌-◌, ◌%◌, ◌^◌, ◌<◌, ◌≤◌, ◌⊎◌, inl, inr, ◌==◌, ◌&&◌, ◌||◌, not, Bool, true, false, nat_lt, nat_le, if◌then◌else◌, IsTrue, IsSome, IfSome, is_some, List, [], ◌∷◌, ◌++◌, Option, Some, None, option_map, append-nil, refl, sym, ap, subst, ◌∙◌, add-one, arith}
use Rattle.std.specs.List.{filter_map, cons_option, range_with_len}
use Rattle.std.specs.Option.{option_map_or, option_and_then}
use Rattle.std.proofs.lemmas.Bool.{and_parts, eq-eqb, eqb-true, both_ways, ltb-true, leb-true, lt-ltb, cases_lt}
use Rattle.std.proofs.lemmas.List.Elements.{filter_map-append}
use Rattle.port_call.specs.Words.{Lpi, GuestShape, has_interrupt, is_number, target_in, irq_of}
use Rattle.port_call.specs.Calls.{Part, parts, Operation}
use Rattle.port_call.specs.GicCall.declared.command.Part.TheVariants.{Retarget, Configure}
use Rattle.port_call.proofs.GicCall.RangeLemmas.{range_with_len_more}
use Rattle.port_call.specs.Registers.{Command, Mapc, Invall, Movall, collection_of, has_target, Maps, pair_of, target_of, owner_of, IsSound}
use Rattle.port_call.proofs.ItsTab.SearchLemmas.{OwnerFacts, owner_facts, pair_from_id}
use Rattle.port_call.specs.Core.{Local, Made, Irq, is_on, place_of_word, is_end_of, owes_no_mark, Seen, Adds, shape_of, part_events, word_of}
use Rattle.port_call.proofs.PieceLemmas.{seen_nil}
use Rattle.port_call.proofs.RestLemmas.{owes_none}
use Rattle.port_call.specs.Memory.{view_by}
use Rattle.port_call.specs.Rest.{IsAtEase, StaysAtEase}
use Rattle.its_exec.specs.declared.fetch.Fetched.{Fetched}
use Rattle.its_exec.specs.Command.{has_part, DoesParts}
use Rattle.its_exec.specs.Config.{Keeps, HoldsCommand}
use Rattle.its_exec.specs.Known.{IsUntouched, AgreeFound, first_step, are_within}
use Rattle.its_exec.specs.Parts.{lpi_of, is_part_of, LooksAtTarget, Prefix, GoesFirst}
use Rattle.its_exec.specs.Plan.{IsFresh, HasLpis, DoesSome, lpis_end}
use Rattle.its_exec.specs.Sweep.{swept, names_vcpus, AreUnmapped, is_skipped, Picks, SweepsLpi, swept_parts, SweepsAll}
use Rattle.its_exec.proofs.ConfigLemmas.{holds_on}
use Rattle.its_exec.proofs.CommandLemmas.{IsAmong, agree_back, ease_none, parts_none, parts_one, parts_join}
use Rattle.its_exec.proofs.ForgetLemmas.{ease_after, below_end}
use Rattle.its_exec.proofs.FrameLemmas.{first_is, first_stays}
use Rattle.its_exec.proofs.PartLemmas.{prefix_none, prefix_look}

-- What the command does to one LPI.

-- it goes by the LPI's collection alone
pub picks_plain : (old : Seen) (maps : Maps) (command : Command) (id : ℕ) (b : Bool) (part : Part) (result : Option Part) → is_skipped maps command id ≡ false → result ≡ (if b then Some part else None) → ((targets : ℕ → Option ℕ) → swept maps targets command id ≡ (if b then Some part else None))
    → IsTrue (is_part_of (shape_of old) part) → lpi_of part ≡ id → GoesFirst old part → Picks old old maps command id result
picks_plain old maps command id b part result plain is by there of_part first =
    let Goes : Option Part → Type 0 = λ o. IfSome o (λ part. IsTrue (is_part_of (shape_of old) part) × (lpi_of part ≡ id) × GoesFirst old part) in
    let Among : Option Part → Type 0 = λ o. IfSome o (λ part. (later : Seen) (more : List Made) → Adds old later more → IsTrue (are_within more) → swept maps (view_by later).targets command id ≡ Some part) in
    record {
      steps = [];
      before = λ address. prefix_none old address id;
      silent = refl;
      skips = λ skipped. absurd (both_ways (is_skipped maps command id) plain skipped);
      is = λ targets agree unmapped. by targets ∙ sym is;
      goes = subst Goes (sym is) (goes b);
      among = subst Among (sym is) (among b refl);
    }
  where
    goes : (c : Bool) → IfSome (if c then Some part else None) (λ part. IsTrue (is_part_of (shape_of old) part) × (lpi_of part ≡ id) × GoesFirst old part)
    goes true = (there, of_part, first)
    goes false = tt

    among : (c : Bool) → b ≡ c → IfSome (if c then Some part else None) (λ part. (later : Seen) (more : List Made) → Adds old later more → IsTrue (are_within more) → swept maps (view_by later).targets command id ≡ Some part)
    among true e = λ later more add within. by (view_by later).targets ∙ ap (λ c. if c then Some part else None) e
    among false e = tt

-- a MOVALL does not look at an LPI whose collection is not mapped
pub moved_unmapped : (old : Seen) (maps : Maps) (rdbase second id : ℕ) → has_target maps id ≡ false → Picks old old maps (Movall rdbase second) id None
moved_unmapped old maps rdbase second id none =
    record {
      steps = [];
      before = λ address. prefix_none old address id;
      silent = refl;
      skips = λ skipped. (refl, refl);
      is = λ targets agree unmapped. ap (λ o. if is_number rdbase o then Some (Retarget id (Some second)) else None) (unmapped id none);
      goes = tt;
      among = tt;
    }

-- the look is the first step on its word
look_first : (old mid : Seen) (id : ℕ) (target : Option ℕ) → IsTrue (has_interrupt (shape_of old) (Lpi id)) → IsUntouched old id → (looks : LooksAtTarget old mid id target) → first_step mid id ≡ Some looks.look
look_first old mid id target there fresh looks =
    let on : is_on (shape_of old) old.actor (Irq (Lpi id)) looks.look ≡ true
    = ap (λ step. place_of_word (shape_of old) (word_of (shape_of old) old.actor step) == place_of_word (shape_of old) (Irq (Lpi id))) looks.step_is
    ∙ eq-eqb (place_of_word (shape_of old) (Irq (Lpi id))) (place_of_word (shape_of old) (Irq (Lpi id))) refl in
    first_is old mid looks.look [] id looks.adds (prefix_look old mid 0 id target there looks).within on fresh

agreed_by : (old mid : Seen) (id : ℕ) (target : Option ℕ) (targets : ℕ → Option ℕ) → IsTrue (has_interrupt (shape_of old) (Lpi id)) → IsUntouched old id → LooksAtTarget old mid id target → AgreeFound mid targets → targets id ≡ target
agreed_by old mid id target targets there fresh looks agree =
    let shape : shape_of mid ≡ shape_of old = ap shape_of looks.adds.new_is in
    let There : GuestShape → Type 0 = λ shape. IsTrue (has_interrupt shape (Lpi id)) in
    let If : Option Made → Type 0 = λ o. IfSome o (λ made. targets id ≡ target_in (irq_of made.found).route (shape_of mid)) in
    in_some (subst If (look_first old mid id target there fresh looks) (agree.each id (subst There (sym shape) there))) ∙ ap (target_in (irq_of looks.look.found).route) shape ∙ sym looks.target_is
  where
    in_some : IfSome (Some looks.look) (λ made. targets id ≡ target_in (irq_of made.found).route (shape_of mid)) → targets id ≡ target_in (irq_of looks.look.found).route (shape_of mid)
    in_some h = h

-- what it knows later is what the look found
known_later : (old mid later : Seen) (id : ℕ) (target : Option ℕ) (more : List Made) → IsTrue (has_interrupt (shape_of old) (Lpi id)) → IsUntouched old id → LooksAtTarget old mid id target → Adds mid later more → IsTrue (are_within more)
    → (view_by later).targets id ≡ target
known_later old mid later id target more there fresh looks add within =
    let first = first_stays mid later more id looks.look add within (look_first old mid id target there fresh looks) in
    let shape : shape_of later ≡ shape_of old = ap shape_of add.new_is ∙ ap shape_of looks.adds.new_is in
    ap (λ o. target_in (irq_of (option_map_or (λ made. made.found) o 0)).route (shape_of later)) first ∙ ap (target_in (irq_of looks.look.found).route) shape ∙ sym looks.target_is

pub moved_other : (old mid : Seen) (maps : Maps) (rdbase second id : ℕ) (target : Option ℕ) → has_target maps id ≡ true → IsTrue (has_interrupt (shape_of old) (Lpi id)) → IsUntouched old id → LooksAtTarget old mid id target → is_number rdbase target ≡ false
    → Picks old mid maps (Movall rdbase second) id None
moved_other old mid maps rdbase second id target mapped there fresh looks other =
    record {
      steps = looks.look ∷ [];
      before = λ address. prefix_look old mid address id target there looks;
      silent = looks.silent;
      skips = λ skipped. absurd (both_ways (not (has_target maps id)) (ap not mapped) skipped);
      is = λ targets agree unmapped.
          ap (λ o. if is_number rdbase o then Some (Retarget id (Some second)) else None) (agreed_by old mid id target targets there fresh looks agree) ∙ ap (λ b. if b then Some (Retarget id (Some second)) else None) other;
      goes = tt;
      among = tt;
    }

pub moved_on : (old mid : Seen) (maps : Maps) (rdbase second id : ℕ) (target : Option ℕ) → has_target maps id ≡ true → IsTrue (has_interrupt (shape_of old) (Lpi id)) → second < (shape_of old).vcpus → IsUntouched old id → LooksAtTarget old mid id target → is_number rdbase target ≡ true
    → Picks old mid maps (Movall rdbase second) id (Some (Retarget id (Some second)))
moved_on old mid maps rdbase second id target mapped there small fresh looks same =
    record {
      steps = looks.look ∷ [];
      before = λ address. prefix_look old mid address id target there looks;
      silent = looks.silent;
      skips = λ skipped. absurd (both_ways (not (has_target maps id)) (ap not mapped) skipped);
      is = λ targets agree unmapped.
          ap (λ o. if is_number rdbase o then Some (Retarget id (Some second)) else None) (agreed_by old mid id target targets there fresh looks agree) ∙ ap (λ b. if b then Some (Retarget id (Some second)) else None) same;
      goes = (and_both (has_interrupt (shape_of old) (Lpi id)) (nat_lt second (shape_of old).vcpus) there (lt-ltb second (shape_of old).vcpus small), refl, tt);
      among = λ later more add within.
          ap (λ o. if is_number rdbase o then Some (Retarget id (Some second)) else None) (known_later old mid later id target more there fresh looks add within) ∙ ap (λ b. if b then Some (Retarget id (Some second)) else None) same;
    }
  where
    and_both : (a b : Bool) → IsTrue a → IsTrue b → IsTrue (a && b)
    and_both true true h k = refl
    and_both true false h k = absurd (cc)
    and_both false b h k = absurd (cc)

-- The part, if there is one.

pub picked_there : (old mid : Seen) (maps : Maps) (command : Command) (id : ℕ) (part : Option Part) → Picks old mid maps command id part → IfSome part (λ part. IsTrue (is_part_of (shape_of mid) part))
picked_there old mid maps command id None picks = tt
picked_there old mid maps command id (Some part) picks =
    let There : GuestShape → Type 0 = λ shape. IsTrue (is_part_of shape part) in subst There (sym (ap shape_of (picks.before 0).adds.new_is)) picks.goes.0

pub picked_ease : (old mid : Seen) (maps : Maps) (command : Command) (id : ℕ) (part : Option Part) → Picks old mid maps command id part → IsAtEase old.local → IsAtEase mid.local
picked_ease old mid maps command id part picks ease = subst IsAtEase (sym (picks.before 0).local) ease

pub picked_holds : (old mid : Seen) (fetched : Fetched) (maps : Maps) (command : Command) (id : ℕ) (part : Option Part) → Picks old mid maps command id part → HoldsCommand old fetched → HoldsCommand mid fetched
picked_holds old mid fetched maps command id part picks holds = let before = picks.before fetched.address in holds_on old mid fetched picks.steps before.adds (ap (λ l. l.shut) before.local) before.keeps holds

pub picks_as : (old mid : Seen) (maps : Maps) (command other : Command) (id : ℕ) (part : Option Part) → command ≡ other → Picks old mid maps other id part → Picks old mid maps command id part
picks_as old mid maps command other id part e picks = let For : Command → Type 0 = λ command. Picks old mid maps command id part in subst For (sym e) picks

-- MAPC and INVALL
retarget_there : (shape : GuestShape) (id rdbase : ℕ) (valid : Bool) → IsTrue (has_interrupt shape (Lpi id)) → IsTrue (if valid then nat_lt rdbase shape.vcpus else true)
    → IsTrue (is_part_of shape (Retarget id (if valid then Some rdbase else None)))
retarget_there shape id rdbase true there small = two (has_interrupt shape (Lpi id)) (nat_lt rdbase shape.vcpus) there small
  where
    two : (a b : Bool) → IsTrue a → IsTrue b → IsTrue (a && b)
    two true true h k = refl
    two true false h k = absurd (cc)
    two false b h k = absurd (cc)
retarget_there shape id rdbase false there small = two (has_interrupt shape (Lpi id)) there
  where
    two : (a : Bool) → IsTrue a → IsTrue (a && true)
    two true h = refl
    two false h = absurd (cc)

pub mapc_picks : (old : Seen) (maps : Maps) (command : Command) (icid rdbase id : ℕ) (valid : Bool) (target : Option ℕ) (result : Option Part) → command ≡ Mapc icid rdbase valid → target ≡ (if valid then Some rdbase else None)
    → result ≡ (if is_number icid (collection_of maps id) then Some (Retarget id target) else None) → IsTrue (has_interrupt (shape_of old) (Lpi id)) → IsTrue (names_vcpus (shape_of old) command) → Picks old old maps command id result
mapc_picks old maps command icid rdbase id valid target result is as_target found there small =
    let Small : Command → Type 0 = λ command. IsTrue (names_vcpus (shape_of old) command) in
    let to : Option ℕ = if valid then Some rdbase else None in
    picks_as old old maps command (Mapc icid rdbase valid) id result is
    (picks_plain old maps (Mapc icid rdbase valid) id (is_number icid (collection_of maps id)) (Retarget id to) result refl
    (found ∙ ap (λ o. if is_number icid (collection_of maps id) then Some (Retarget id o) else None) as_target) (λ targets. refl) (retarget_there (shape_of old) id rdbase valid there (subst Small is small)) refl tt)

pub invall_picks : (old : Seen) (maps : Maps) (command : Command) (icid id : ℕ) (result : Option Part) → command ≡ Invall icid → result ≡ (if is_number icid (collection_of maps id) then Some (Configure id) else None)
    → IsTrue (has_interrupt (shape_of old) (Lpi id)) → IsUntouched old id → Picks old old maps command id result
invall_picks old maps command icid id result is found there fresh =
    picks_as old old maps command (Invall icid) id result is
    (picks_plain old maps (Invall icid) id (is_number icid (collection_of maps id)) (Configure id) result refl found (λ targets. refl) (two (has_interrupt (shape_of old) (Lpi id)) there) refl fresh)
  where
    two : (a : Bool) → IsTrue a → IsTrue (a && true)
    two true h = refl
    two false h = absurd (cc)

-- a MAPC with V = 1 names a vCPU
pub mapc_fits : (shape : GuestShape) (command : Command) (icid rdbase : ℕ) (valid : Bool) → shape.vcpus ≤ 32 → command ≡ Mapc icid rdbase valid → IsTrue (names_vcpus shape command) → valid ≡ true → rdbase < 2 ^ 32
mapc_fits shape command icid rdbase valid few is small yes_valid =
    let Small : Command → Type 0 = λ command. IsTrue (names_vcpus shape command) in
    let Test : Bool → Type 0 = λ b. IsTrue (if b then nat_lt rdbase shape.vcpus else true) in
    let lt = ltb-true rdbase shape.vcpus (subst Test yes_valid (subst Small is small)) in
    omega (arith, lt, few)

-- All LPIs, in rising INTID.

-- those that the command is not about
filter_one : {X : Type 0} (f : ℕ → Option X) (n : ℕ) → filter_map f (range_with_len 8192 (suc n)) ≡ filter_map f (range_with_len 8192 n) ++ cons_option (f (8192 + n)) []
filter_one f n = ap (filter_map f) (range_with_len_more 8192 n (8192 + n) refl) ∙ filter_map-append f (range_with_len 8192 n) ((8192 + n) ∷ [])

filter_gap : {X : Type 0} (f : ℕ → Option X) (n d : ℕ) → ((k : ℕ) → n ≤ k → k < n + d → f (8192 + k) ≡ None) → filter_map f (range_with_len 8192 (n + d)) ≡ filter_map f (range_with_len 8192 n)
filter_gap f n zero none = ap (λ m. filter_map f (range_with_len 8192 m)) (omega arith)
filter_gap f n (suc d) none =
    let same : n + suc d ≡ suc (n + d) = omega arith in
    ap (λ m. filter_map f (range_with_len 8192 m)) same
    ∙ filter_one f (n + d)
    ∙ ap (λ o. filter_map f (range_with_len 8192 (n + d)) ++ cons_option o []) (none (n + d) (omega arith) (omega arith))
    ∙ append-nil (filter_map f (range_with_len 8192 (n + d)))
    ∙ filter_gap f n d (λ k low high. none k low (omega (arith, high)))

-- one that it is about
cons_part : (o : Option Part) (done : List Part) (id : ℕ) → has_part id done ≡ true → has_part id (cons_option o done) ≡ true
cons_part None done id h = h
cons_part (Some part) done id h = or_true (lpi_of part == id) (has_part id done) h
  where
    or_true : (a b : Bool) → b ≡ true → (a || b) ≡ true
    or_true true b h = refl
    or_true false b h = h

has_in : (f : ℕ → Option Part) (a n id : ℕ) (part : Part) → f id ≡ Some part → lpi_of part ≡ id → a ≤ id → id < a + n → has_part id (filter_map f (range_with_len a n)) ≡ true
has_in f a zero id part found of_part low high = absurd (omega (arith, low, high))
has_in f a (suc n) id part found of_part low high = of (cases_eq a id) (λ differ. has_in f (a + 1) n id part found of_part (omega (arith, low, differ)) (omega (arith, high)))
  where
    cases_eq : (a id : ℕ) → (a ≡ id) ⊎ (a ≢ id)
    cases_eq a id = elim (cases_lt a id) [ inl less ↦ inr (λ e. omega (arith, e, less)) | inr above ↦ by_other (cases_lt id a) above ]
      where
        by_other : (id < a) ⊎ (a ≤ id) → id ≤ a → (a ≡ id) ⊎ (a ≢ id)
        by_other (inl less) above = inr (λ e. omega (arith, e, less))
        by_other (inr below) above = inl (omega (arith, below, above))

    of : (a ≡ id) ⊎ (a ≢ id) → (a ≢ id → has_part id (filter_map f (range_with_len (a + 1) n)) ≡ true) → has_part id (filter_map f (range_with_len a (suc n))) ≡ true
    of (inl same) later =
        let rest = filter_map f (range_with_len (a + 1) n) in
        ap (λ o. has_part id (cons_option o rest)) (ap f same ∙ found) ∙ ap (λ b. b || has_part id rest) (ap (λ n. n == id) of_part ∙ eq-eqb id id refl)
    of (inr differ) later = cons_part (f a) (filter_map f (range_with_len (a + 1) n)) id (later differ)

-- an LPI that no event has
no_collection : (maps : Maps) (id : ℕ) → owner_of maps id ≡ None → collection_of maps id ≡ None
no_collection maps id none = ap (λ o. option_map (λ (pair : ℕ × ℕ). pair.1) (option_and_then (pair_of maps) o)) none

swept_none : (maps : Maps) (targets : ℕ → Option ℕ) (command : Command) (id : ℕ) → owner_of maps id ≡ None → AreUnmapped maps command targets → swept maps targets command id ≡ None
swept_none maps targets (Mapc icid rdbase valid) id none unmapped = ap (λ o. if is_number icid o then Some (Retarget id (if valid then Some rdbase else None)) else None) (no_collection maps id none)
swept_none maps targets (Invall icid) id none unmapped = ap (λ o. if is_number icid o then Some (Configure id) else None) (no_collection maps id none)
swept_none maps targets (Movall rdbase second) id none unmapped =
    ap (λ o. if is_number rdbase o then Some (Retarget id (Some second)) else None) (unmapped id (ap (λ o. is_some (option_and_then (target_of maps) o)) (no_collection maps id none)))
swept_none maps targets _ id none unmapped = refl

-- an LPI that an event has is one of the guest
pub owned_there : (shape : GuestShape) (maps : Maps) (id : ℕ) → IsSound maps → HasLpis shape maps → IsSome (owner_of maps id) → IsTrue (has_interrupt shape (Lpi id))
owned_there shape maps id sound lpis some = of (owner_of maps id) (owner_facts maps id sound) some
  where
    of : (o : Option (ℕ × ℕ)) → OwnerFacts maps id o → IsSome o → IsTrue (has_interrupt shape (Lpi id))
    of None facts h = absurd (cc)
    of (Some owner) facts h = let pair = pair_from_id maps owner id facts.found in lpis.each owner (id, pair.0) pair.1

-- How far a sweep is.

pub record Sweeping (old now : Seen) (fetched : Fetched) (tables : Maps) (command : Command) (from : ℕ) : Type 0 where
  pub count : ℕ
  pub from_is : from ≡ 8192 + count
  pub within : count ≤ (shape_of old).lpis
  pub shape : shape_of now ≡ shape_of old
  pub done : List Part
  pub skips : (id : ℕ) → IsTrue (has_interrupt (shape_of old) (Lpi id)) → IsTrue (is_skipped tables command id) → IsUntouched now id
  pub all :
      (targets : ℕ → Option ℕ) → AgreeFound now targets → AreUnmapped tables command targets → filter_map (swept tables targets command) (range_with_len 8192 count) ≡ done
  pub untouched : (id : ℕ) → IsTrue (has_interrupt (shape_of old) (Lpi id)) → from ≤ id → IsUntouched now id
  pub ease : IsAtEase now.local
  pub holds : HoldsCommand now fetched
  pub does :
      (maps : Maps) → ((targets : ℕ → Option ℕ) → parts (shape_of old) maps targets command ≡ swept_parts (shape_of old) tables targets command)
      → DoesParts old now fetched.address maps command from done

pub sweeping_none : (seen : Seen) (fetched : Fetched) (tables : Maps) (command : Command) → IsAtEase seen.local → HoldsCommand seen fetched → IsFresh seen → Sweeping seen seen fetched tables command 8192
sweeping_none seen fetched tables command ease holds fresh =
    record {
      count = 0;
      from_is = refl;
      within = omega arith;
      shape = refl;
      done = [];
      skips = λ id there skipped. fresh.each id there;
      all = λ targets agree unmapped. refl;
      untouched = λ id there above. fresh.each id there;
      ease = ease;
      holds = holds;
      does = λ maps are. parts_none seen fetched.address maps command 8192 (owes_none seen.local ease.owes).marks;
    }

-- steps before a part are no part
prefix_does : (old mid : Seen) (address id : ℕ) (maps : Maps) (command : Command) (steps : List Made) → IsTrue (owes_no_mark old.local) → Prefix old mid address id steps → part_events old steps ≡ [] → DoesParts old mid address maps command (id + 1) []
prefix_does old mid address id maps command steps marks before silent =
    let After : Local → Type 0 = λ local. StaysAtEase old.local local in
    record {
      steps = steps;
      adds = before.adds;
      within = before.within;
      going = before.going;
      local_is = subst After (sym before.local) (ease_none old marks);
      keeps = before.keeps;
      untouched = λ other there above is. before.untouched other there (λ e. omega (arith, e, above)) is;
      makes = λ actor targets agree words early held has. silent;
      piece = λ p idle write none has.
          (let Ends : Option Operation → Type 0 = λ operation. is_end_of (shape_of old) old.actor operation (Lpi id) ≡ false in before.piece p idle (subst Ends (sym write.is) refl));
    }

some_does : (mid next : Seen) (address id : ℕ) (maps tables : Maps) (command : Command) (count : ℕ) (shape : GuestShape) (part : Option Part) → shape_of mid ≡ shape → shape.ram % 8 ≡ 0 → IsTrue (owes_no_mark mid.local) → 8192 ≤ id → id < 8192 + shape.lpis
    → ((targets : ℕ → Option ℕ) → parts shape maps targets command ≡ swept_parts shape tables targets command) → IfSome part (λ part. IsTrue (is_part_of (shape_of mid) part) × (lpi_of part ≡ id) × GoesFirst mid part)
    → IfSome part (λ part. (later : Seen) (more : List Made) → Adds mid later more → IsTrue (are_within more) → swept tables (view_by later).targets command id ≡ Some part) → DoesSome mid next address part
    → DoesParts mid next address maps command (id + 1) (cons_option part [])
some_does mid next address id maps tables command count shape None same whole marks low high are goes among does =
    let At : Seen → Type 0 = λ seen. DoesParts mid seen address maps command (id + 1) [] in subst At (sym does) (parts_none mid address maps command (id + 1) marks)
some_does mid next address id maps tables command count shape (Some part) same whole marks low high are goes among does =
    let is_among : IsAmong mid maps command (lpi_of part)
    = record {
      each = λ later more add within.
          (let targets = (view_by later).targets in
          ap (λ shape. has_part (lpi_of part) (parts shape maps targets command)) same
          ∙ ap (has_part (lpi_of part)) (are targets)
          ∙ ap (λ n. has_part n (swept_parts shape tables targets command)) goes.1
          ∙ has_in (swept tables targets command) 8192 shape.lpis id part (among later more add within) goes.1 low high);
    } in
    parts_one mid next address maps command (id + 1) part (ap (λ shape. shape.ram % 8) same ∙ whole) (omega (arith, goes.1)) goes.2 is_among does

-- the steps of a part, if there is one
record SomeStep (mid next : Seen) (address id : ℕ) : Type 0 where
  steps : List Made
  adds : Adds mid next steps
  within : IsTrue (are_within steps)
  ease : IsAtEase next.local
  untouched : (other : ℕ) → IsTrue (has_interrupt (shape_of mid) (Lpi other)) → other ≢ id → IsUntouched mid other → IsUntouched next other
  holds : (fetched : Fetched) → fetched.address ≡ address → HoldsCommand mid fetched → HoldsCommand next fetched

some_step : (mid next : Seen) (address id : ℕ) (part : Option Part) → IsAtEase mid.local → IfSome part (λ part. IsTrue (is_part_of (shape_of mid) part) × (lpi_of part ≡ id) × GoesFirst mid part) → DoesSome mid next address part → SomeStep mid next address id
some_step mid next address id None ease goes does =
    let Ease : Seen → Type 0 = λ seen. IsAtEase seen.local in
    let Un : ℕ → Seen → Type 0 = λ other seen. IsUntouched seen other in
    record {
      steps = [];
      adds = record { new_is = does ∙ sym (seen_nil mid) };
      within = refl;
      ease = subst Ease (sym does) ease;
      untouched = λ other there differ is. subst (Un other) (sym does) is;
      holds = λ fetched e holds. (let Holds : Seen → Type 0 = λ seen. HoldsCommand seen fetched in subst Holds (sym does) holds);
    }
some_step mid next address id (Some part) ease goes does =
    record {
      steps = does.steps;
      adds = does.adds;
      within = does.within;
      ease = ease_after mid.local next.local does.local_is ease;
      untouched = λ other there differ is. does.untouched other there (λ e. differ (e ∙ goes.1)) is;
      holds = λ fetched e holds. (let Kept : ℕ → Type 0 = λ a. Keeps mid next a does.steps in holds_on mid next fetched does.steps does.adds (ap (λ l. l.shut) does.local_is.same) (subst Kept (sym e) does.keeps) holds);
    }

goes_as : (now mid : Seen) (id : ℕ) (part : Option Part) → shape_of mid ≡ shape_of now → IfSome part (λ part. IsTrue (is_part_of (shape_of now) part) × (lpi_of part ≡ id) × GoesFirst mid part)
    → IfSome part (λ part. IsTrue (is_part_of (shape_of mid) part) × (lpi_of part ≡ id) × GoesFirst mid part)
goes_as now mid id None same h = tt
goes_as now mid id (Some part) same h = let Fits : GuestShape → Type 0 = λ shape. IsTrue (is_part_of shape part) in (subst Fits (sym same) h.0, h.1, h.2)

-- one that it skips stays untouched
skip_one : (now mid next : Seen) (address id other : ℕ) (tables : Maps) (command : Command) (part : Option Part) (b : Bool) → (other == id) ≡ b → IsTrue (is_skipped tables command other) → Picks now mid tables command id part → DoesSome mid next address part
    → IsUntouched now other → (other ≢ id → IsUntouched next other) → IsUntouched next other
skip_one now mid next address id other tables command part true e skipped picks does was later =
    let Skipped : ℕ → Type 0 = λ n. IsTrue (is_skipped tables command n) in
    let Does : Option Part → Type 0 = λ part. DoesSome mid next address part in
    let Un : Seen → Type 0 = λ seen. IsUntouched seen other in
    let none = picks.skips (subst Skipped (eqb-true other id e) skipped) in
    let still : next ≡ mid = subst Does none.1 does in
    subst Un (sym (still ∙ none.0)) was
skip_one now mid next address id other tables command part false e skipped picks does was later = later (λ same. both_ways (other == id) e (eq-eqb other id same))

pub sweeping_more :
    (old now next : Seen) (fetched : Fetched) (tables : Maps) (command : Command) (from id : ℕ) → (shape_of old).ram % 8 ≡ 0 → IsTrue (has_interrupt (shape_of old) (Lpi id)) → from ≤ id
    → ((other : ℕ) → from ≤ other → IsSome (owner_of tables other) → id ≤ other) → SweepsLpi now next fetched.address tables command id → Sweeping old now fetched tables command from → Sweeping old next fetched tables command (id + 1)
sweeping_more old now next fetched tables command from id whole there above least sweeps so =
    let mid = sweeps.mid in
    let picks = sweeps.picks in
    let before = picks.before fetched.address in
    let parts_low = and_parts (nat_le 8192 id) (nat_lt id (8192 + (shape_of old).lpis)) there in
    let low = leb-true 8192 id parts_low.0 in
    let high = ltb-true id (8192 + (shape_of old).lpis) parts_low.1 in
    let k = id - 8192 in
    let id_is : 8192 + k ≡ id = omega (arith, low) in
    let gap : so.count ≤ k = omega (arith, so.from_is, above) in
    let same_mid : shape_of mid ≡ shape_of old = ap shape_of before.adds.new_is ∙ so.shape in
    let ease_mid : IsAtEase mid.local = picked_ease now mid tables command id sweeps.part picks so.ease in
    let marks_now = (owes_none now.local so.ease.owes).marks in
    let marks_mid = (owes_none mid.local ease_mid.owes).marks in
    let There : ℕ → GuestShape → Type 0 = λ other shape. IsTrue (has_interrupt shape (Lpi other)) in
    let goes = goes_as now mid id sweeps.part (ap shape_of before.adds.new_is) picks.goes in
    let one : (maps : Maps) → ((targets : ℕ → Option ℕ) → parts (shape_of old) maps targets command ≡ swept_parts (shape_of old) tables targets command) → DoesParts mid next fetched.address maps command (id + 1) (cons_option sweeps.part [])
    = λ maps are. some_does mid next fetched.address id maps tables command so.count (shape_of old) sweeps.part same_mid whole marks_mid low high are goes picks.among sweeps.does in
    let some = some_step mid next fetched.address id sweeps.part ease_mid goes sweeps.does in
    record {
      count = k + 1;
      from_is = omega (arith, id_is);
      within = omega (arith, id_is, high);
      shape = ap shape_of some.adds.new_is ∙ same_mid;
      done = so.done ++ cons_option sweeps.part [];
      skips = λ other its skipped.
          (let was = so.skips other its skipped in
          skip_one now mid next fetched.address id other tables command sweeps.part (other == id) refl skipped picks sweeps.does was
          (λ differ. some.untouched other (subst (There other) (sym same_mid) its) differ (before.untouched other (subst (There other) (sym so.shape) its) differ was)));
      all = λ targets agree unmapped.
          (let f = swept tables targets command in
          let agree_mid = agree_back mid next some.steps targets some.adds some.within agree in
          let agree_now = agree_back now mid picks.steps targets before.adds before.within agree_mid in
          let none : (m : ℕ) → so.count ≤ m → m < k → f (8192 + m) ≡ None
          = λ m after below. swept_none tables targets command (8192 + m) (unowned (8192 + m) (omega (arith, so.from_is, after)) (omega (arith, id_is, below))) unmapped in
          let d = k - so.count in
          let k_is : so.count + d ≡ k = omega (arith, gap) in
          ap (λ n. filter_map f (range_with_len 8192 n)) (add-one k)
          ∙ filter_one f k
          ∙ ap (λ xs. xs ++ cons_option (f (8192 + k)) []) (ap (λ n. filter_map f (range_with_len 8192 n)) (sym k_is) ∙ filter_gap f so.count d (λ m after below. none m after (omega (arith, below, k_is))) ∙ so.all targets agree_now unmapped)
          ∙ ap (λ o. so.done ++ cons_option o []) (ap f id_is ∙ picks.is targets agree_mid unmapped));
      untouched = λ other its higher.
          (let differ : other ≢ id = λ e. omega (arith, e, higher) in
          let now_there = subst (There other) (sym so.shape) its in
          some.untouched other (subst (There other) (sym same_mid) its) differ (before.untouched other now_there differ (so.untouched other its (omega (arith, above, higher)))));
      ease = some.ease;
      holds = some.holds fetched refl (picked_holds now mid fetched tables command id sweeps.part picks so.holds);
      does = λ maps are.
          parts_join old now next fetched.address maps command from (id + 1) so.done (cons_option sweeps.part []) whole (omega (arith, above)) (so.does maps are)
          (parts_join now mid next fetched.address maps command (id + 1) (id + 1) [] (cons_option sweeps.part []) (ap (λ shape. shape.ram % 8) so.shape ∙ whole) (omega arith)
          (prefix_does now mid fetched.address id maps command picks.steps marks_now before picks.silent) (one maps are));
    }
  where
    unowned : (other : ℕ) → from ≤ other → other < id → owner_of tables other ≡ None
    unowned other after below = of (owner_of tables other) refl
      where
        of : (o : Option (ℕ × ℕ)) → owner_of tables other ≡ o → o ≡ None
        of None e = refl
        of (Some owner) e = let found : IsSome (owner_of tables other) = ap is_some e in absurd (omega (arith, least other after found, below))

pub sweeping_over : (old now : Seen) (fetched : Fetched) (tables : Maps) (command : Command) (from : ℕ) → ((other : ℕ) → from ≤ other → owner_of tables other ≡ None) → Sweeping old now fetched tables command from → SweepsAll old now fetched.address tables command
sweeping_over old now fetched tables command from none so =
    let d = (shape_of old).lpis - so.count in
    let all_is : so.count + d ≡ (shape_of old).lpis = omega (arith, so.within) in
    record {
      done = so.done;
      skips = so.skips;
      all = λ targets agree unmapped.
          (let f = swept tables targets command in
          ap (λ n. filter_map f (range_with_len 8192 n)) (sym all_is)
          ∙ filter_gap f so.count d (λ m after below. swept_none tables targets command (8192 + m) (none (8192 + m) (omega (arith, so.from_is, after))) unmapped)
          ∙ so.all targets agree unmapped);
      does = λ maps are. raise_top old now fetched.address maps command from (lpis_end (shape_of old)) so.done (omega (arith, so.from_is, so.within)) (so.does maps are);
    }
  where
    raise_top : (old now : Seen) (address : ℕ) (maps : Maps) (command : Command) (low top : ℕ) (done : List Part) → low ≤ top → DoesParts old now address maps command low done → DoesParts old now address maps command top done
    raise_top old now address maps command low top done rises does =
        record {
          steps = does.steps;
          adds = does.adds;
          within = does.within;
          going = does.going;
          local_is = does.local_is;
          keeps = does.keeps;
          untouched = λ id there above is. does.untouched id there (omega (arith, rises, above)) is;
          makes = does.makes;
          piece = does.piece;
        }

-- as the loop tells it
pub sweeping_there : (old now : Seen) (fetched : Fetched) (tables : Maps) (command : Command) (from id : ℕ) → IsSound tables → HasLpis (shape_of old) tables → IsSome (owner_of tables id) → Sweeping old now fetched tables command from → IsTrue (has_interrupt (shape_of now) (Lpi id))
sweeping_there old now fetched tables command from id sound lpis some so = let There : GuestShape → Type 0 = λ shape. IsTrue (has_interrupt shape (Lpi id)) in subst There (sym so.shape) (owned_there (shape_of old) tables id sound lpis some)

pub sweeping_names : (old now : Seen) (fetched : Fetched) (tables : Maps) (command : Command) (from : ℕ) → IsTrue (names_vcpus (shape_of old) command) → Sweeping old now fetched tables command from → IsTrue (names_vcpus (shape_of now) command)
sweeping_names old now fetched tables command from names so = let Names : GuestShape → Type 0 = λ shape. IsTrue (names_vcpus shape command) in subst Names (sym so.shape) names

-- the next INTID fits, and fewer are left
pub sweeping_fits : (shape : GuestShape) (tables : Maps) (id : ℕ) → shape.lpis ≤ 4096 → IsSound tables → HasLpis shape tables → IsSome (owner_of tables id) → id + 1 < 2 ^ 32
sweeping_fits shape tables id few sound lpis some = let high = below_end shape id (owned_there shape tables id sound lpis some) in omega (arith, high, few)

pub sweeping_less : (shape : GuestShape) (tables : Maps) (from id : ℕ) → IsSound tables → HasLpis shape tables → IsSome (owner_of tables id) → from ≤ id → lpis_end shape - (id + 1) < lpis_end shape - from
sweeping_less shape tables from id sound lpis some above = let high = below_end shape id (owned_there shape tables id sound lpis some) in omega (arith, high, above)
