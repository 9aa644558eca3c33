-- A command that is no MAPD: it does its parts.
use Rattle.std.proofs.Common.{◌≡◌, ℕ, ◌%◌, ◌==◌, ◌&&◌, ◌||◌, not, Bool, true, false, nat_lt, IsTrue, IfSome, List, [], ◌++◌, Option, Some, None, option_map, refl, sym, ap, subst, ◌∙◌, arith}
use Rattle.std.specs.Option.{option_to_list}
use Rattle.std.proofs.lemmas.Bool.{eq-eqb, lt-ltb}
use Rattle.port_call.specs.Words.{Lpi, GuestShape, has_interrupt}
use Rattle.port_call.specs.Calls.{Part, Map, Clear, parts, each}
use Rattle.port_call.specs.GicCall.declared.command.Part.TheVariants.{Forget, Retarget, Raise, Configure}
use Rattle.port_call.specs.Registers.{Command, Movi, Int, Clear as ClearCommand, Mapti, Mapi, Inv, Movall, Discard, IsValid, maps_after, fault_of, first_fault, on_mapping, Maps, pair_of, id_of, target_of}
use Rattle.port_call.proofs.ItsTab.AfterLemmas.{all_clear, right_id, there}
use Rattle.port_call.specs.Core.{Seen, shape_of}
use Rattle.port_call.specs.Memory.{view_by}
use Rattle.port_call.specs.Rest.{IsAtEase}
use Rattle.port_call.proofs.RestLemmas.{owes_none}
use Rattle.its_exec.specs.declared.fetch.Fetched.{Fetched}
use Rattle.its_exec.specs.Command.{has_part, DoesParts, DoesCommand}
use Rattle.its_exec.specs.Config.{HoldsCommand}
use Rattle.its_exec.specs.Known.{AgreeWith, IsUntouched}
use Rattle.its_exec.specs.Parts.{lpi_of, is_part_of, GoesFirst}
use Rattle.its_exec.specs.Plan.{IsFresh, first_of, second_of, is_several, is_mapd, DoesSome, ForgetsAll, lpis_end}
use Rattle.its_exec.specs.Sweep.{AreUnmapped, is_skipped, SweepsAll}
use Rattle.its_exec.proofs.ConfigLemmas.{holds_on}
use Rattle.its_exec.proofs.CommandLemmas.{IsAmong, parts_none, parts_one, parts_join}
use Rattle.its_exec.proofs.ForgetLemmas.{ease_after, below_end}
use Rattle.its_exec.proofs.PartLemmas.{part_there}
use Rattle.its_exec.proofs.PlanLemmas.{single_parts, several_none, several_parts}

-- The guest has what the parts name.

two : (a b : Bool) → IsTrue a → IsTrue b → IsTrue (a && b)
two true true h k = refl
two true false h k = absurd (cc)
two false b h k = absurd (cc)

one : (a : Bool) → IsTrue a → IsTrue (a && true)
one true h = refl
one false h = absurd (cc)

-- the LPI of an event that is mapped
of_event : (shape : GuestShape) (maps : Maps) (event : ℕ × ℕ) (f : ℕ → Part) → IsValid shape maps → ((id : ℕ) → IsTrue (has_interrupt shape (Lpi id)) → IsTrue (is_part_of shape (f id))) → IfSome (option_map f (id_of maps event)) (λ part. IsTrue (is_part_of shape part))
of_event shape maps event f valid good = at (pair_of maps event) refl
  where
    at : (o : Option (ℕ × ℕ)) → pair_of maps event ≡ o → IfSome (option_map f (option_map (λ pair. pair.0) o)) (λ part. IsTrue (is_part_of shape part))
    at None e = tt
    at (Some pair) e = good pair.0 (valid.interrupt event pair e)

of_lpi : (shape : GuestShape) (maps : Maps) (icid id : ℕ) → IsValid shape maps → IsTrue (has_interrupt shape (Lpi id)) → IfSome (option_map (Map id) (target_of maps icid)) (λ part. IsTrue (is_part_of shape part))
of_lpi shape maps icid id valid lpi = at (target_of maps icid) refl
  where
    at : (o : Option ℕ) → target_of maps icid ≡ o → IfSome (option_map (Map id) o) (λ part. IsTrue (is_part_of shape part))
    at None e = tt
    at (Some vcpu) e = two (has_interrupt shape (Lpi id)) (nat_lt vcpu shape.vcpus) lpi (lt-ltb vcpu shape.vcpus (valid.target icid vcpu e))

moved_there : (shape : GuestShape) (maps : Maps) (icid id : ℕ) → IsValid shape maps → IsTrue (has_interrupt shape (Lpi id)) → IsTrue (is_part_of shape (Retarget id (target_of maps icid)))
moved_there shape maps icid id valid lpi = at (target_of maps icid) refl
  where
    at : (o : Option ℕ) → target_of maps icid ≡ o → IsTrue (is_part_of shape (Retarget id o))
    at None e = one (has_interrupt shape (Lpi id)) lpi
    at (Some vcpu) e = two (has_interrupt shape (Lpi id)) (nat_lt vcpu shape.vcpus) lpi (lt-ltb vcpu shape.vcpus (valid.target icid vcpu e))

mapped_there : (shape : GuestShape) (maps : Maps) (device event id icid : ℕ) → first_fault (on_mapping shape maps device event id icid) ≡ None → IsTrue (has_interrupt shape (Lpi id))
mapped_there shape maps device event id icid good = let tests = all_clear (on_mapping shape maps device event id icid) good in (right_id shape maps device event id tests.1.1.1.0).0

pub first_there : (shape : GuestShape) (maps : Maps) (command : Command) → IsValid shape maps → IfSome (first_of maps command) (λ part. IsTrue (is_part_of shape part))
first_there shape maps (Mapti device event id icid) valid = of_event shape maps (device, event) Forget valid (λ id lpi. one (has_interrupt shape (Lpi id)) lpi)
first_there shape maps (Mapi device event icid) valid = of_event shape maps (device, event) Forget valid (λ id lpi. one (has_interrupt shape (Lpi id)) lpi)
first_there shape maps _ valid = tt

pub second_there : (shape : GuestShape) (maps : Maps) (command : Command) → IsValid shape maps → fault_of shape maps command ≡ None → IfSome (second_of maps command) (λ part. IsTrue (is_part_of shape part))
second_there shape maps (Mapti device event id icid) valid good = of_lpi shape maps icid id valid (mapped_there shape maps device event id icid good)
second_there shape maps (Mapi device event icid) valid good = of_lpi shape maps icid event valid (mapped_there shape maps device event event icid good)
second_there shape maps (Movi device event icid) valid good = of_event shape maps (device, event) (λ id. Retarget id (target_of maps icid)) valid (λ id lpi. moved_there shape maps icid id valid lpi)
second_there shape maps (Int device event) valid good = of_event shape maps (device, event) Raise valid (λ id lpi. one (has_interrupt shape (Lpi id)) lpi)
second_there shape maps (ClearCommand device event) valid good = of_event shape maps (device, event) Clear valid (λ id lpi. one (has_interrupt shape (Lpi id)) lpi)
second_there shape maps (Discard device event) valid good = of_event shape maps (device, event) Forget valid (λ id lpi. one (has_interrupt shape (Lpi id)) lpi)
second_there shape maps (Inv device event) valid good = of_event shape maps (device, event) Configure valid (λ id lpi. one (has_interrupt shape (Lpi id)) lpi)
second_there shape maps _ valid good = tt

-- After the first part.

pub shape_after : (old new : Seen) (address : ℕ) (part : Option Part) → DoesSome old new address part → shape_of new ≡ shape_of old
shape_after old new address None does = ap shape_of does
shape_after old new address (Some part) does = ap shape_of does.adds.new_is

pub second_after : (old mid : Seen) (address : ℕ) (shape : GuestShape) (maps : Maps) (command : Command) → shape ≡ shape_of old → IsValid shape maps → fault_of shape maps command ≡ None → DoesSome old mid address (first_of maps command)
    → IfSome (second_of maps command) (λ part. IsTrue (is_part_of (shape_of mid) part))
second_after old mid address shape maps command is valid good does =
    let There : GuestShape → Type 0 = λ shape. IfSome (second_of maps command) (λ part. IsTrue (is_part_of shape part)) in
    subst There (is ∙ sym (shape_after old mid address (first_of maps command) does)) (second_there shape maps command valid good)

pub some_ease : (old new : Seen) (address : ℕ) (part : Option Part) → DoesSome old new address part → IsAtEase old.local → IsAtEase new.local
some_ease old new address None does ease = let At : Seen → Type 0 = λ seen. IsAtEase seen.local in subst At (sym does) ease
some_ease old new address (Some part) does ease = ease_after old.local new.local does.local_is ease

pub some_holds : (old new : Seen) (fetched : Fetched) (part : Option Part) → DoesSome old new fetched.address part → HoldsCommand old fetched → HoldsCommand new fetched
some_holds old new fetched None does holds = let At : Seen → Type 0 = λ seen. HoldsCommand seen fetched in subst At (sym does) holds
some_holds old new fetched (Some part) does holds = holds_on old new fetched does.steps does.adds (ap (λ l. l.shut) does.local_is.same) does.keeps holds

-- the part that goes by the word as the command found it is the only one
untouched_event : (old : Seen) (maps : Maps) (event : ℕ × ℕ) → IsFresh old → IfSome (option_map Configure (id_of maps event)) (λ part. IsTrue (is_part_of (shape_of old) part)) → IfSome (option_map Configure (id_of maps event)) (GoesFirst old)
untouched_event old maps event fresh = at (id_of maps event)
  where
    at : (o : Option ℕ) → IfSome (option_map Configure o) (λ part. IsTrue (is_part_of (shape_of old) part)) → IfSome (option_map Configure o) (GoesFirst old)
    at None there = tt
    at (Some id) there = fresh.each id (part_there (shape_of old) (Configure id) id refl there)

any_first : (seen : Seen) (f : ℕ → Part) (o : Option ℕ) → ((id : ℕ) → GoesFirst seen (f id)) → IfSome (option_map f o) (GoesFirst seen)
any_first seen f None goes = tt
any_first seen f (Some id) goes = goes id

first_goes : (old : Seen) (maps : Maps) (command : Command) → IfSome (first_of maps command) (GoesFirst old)
first_goes old maps (Mapti device event id icid) = any_first old Forget (id_of maps (device, event)) (λ id. tt)
first_goes old maps (Mapi device event icid) = any_first old Forget (id_of maps (device, event)) (λ id. tt)
first_goes old maps _ = tt

second_goes : (old mid : Seen) (address : ℕ) (maps : Maps) (command : Command) → IsFresh old → DoesSome old mid address (first_of maps command) → IfSome (second_of maps command) (λ part. IsTrue (is_part_of (shape_of mid) part)) → IfSome (second_of maps command) (GoesFirst mid)
second_goes old mid address maps (Mapti device event id icid) fresh does there = any_first mid (Map id) (target_of maps icid) (λ id. tt)
second_goes old mid address maps (Mapi device event icid) fresh does there = any_first mid (Map event) (target_of maps icid) (λ id. tt)
second_goes old mid address maps (Movi device event icid) fresh does there = any_first mid (λ id. Retarget id (target_of maps icid)) (id_of maps (device, event)) (λ id. tt)
second_goes old mid address maps (Int device event) fresh does there = any_first mid Raise (id_of maps (device, event)) (λ id. tt)
second_goes old mid address maps (ClearCommand device event) fresh does there = any_first mid Clear (id_of maps (device, event)) (λ id. tt)
second_goes old mid address maps (Discard device event) fresh does there = any_first mid Forget (id_of maps (device, event)) (λ id. tt)
second_goes old mid address maps (Inv device event) fresh does there = untouched_event mid maps (device, event) (subst IsFresh (sym does) fresh) there
second_goes old mid address maps _ fresh does there = tt

-- The parts of one event.

among_first : (first second : Option Part) → IfSome first (λ part. IsTrue (has_part (lpi_of part) (option_to_list first ++ option_to_list second)))
among_first None second = tt
among_first (Some part) second = ap (λ b. b || has_part (lpi_of part) (option_to_list second)) (eq-eqb (lpi_of part) (lpi_of part) refl)

among_second : (first second : Option Part) → IfSome second (λ part. IsTrue (has_part (lpi_of part) (option_to_list first ++ option_to_list second)))
among_second first None = tt
among_second None (Some part) = ap (λ b. b || false) (eq-eqb (lpi_of part) (lpi_of part) refl)
among_second (Some other) (Some part) = either (lpi_of other == lpi_of part) (ap (λ b. b || false) (eq-eqb (lpi_of part) (lpi_of part) refl))
  where
    either : (a : Bool) {b : Bool} → b ≡ true → (a || b) ≡ true
    either true h = refl
    either false h = h

among : (seen : Seen) (shape : GuestShape) (maps : Maps) (command : Command) (part : Option Part) → is_mapd command ≡ false → is_several maps command ≡ false
    → IfSome part (λ part. IsTrue (has_part (lpi_of part) (option_to_list (first_of maps command) ++ option_to_list (second_of maps command)))) → IfSome part (λ part. IsAmong seen maps command (lpi_of part))
among seen shape maps command None plain single has = tt
among seen shape maps command (Some part) plain single has =
    record {
      each = λ later more add within.
          (let Has : List Part → Type 0 = λ done. IsTrue (has_part (lpi_of part) done) in subst Has (sym (single_parts (shape_of seen) maps (view_by later).targets command plain single)) has);
    }

some_parts :
    (old new : Seen) (address : ℕ) (maps : Maps) (command : Command) (part : Option Part) → (shape_of old).ram % 8 ≡ 0 → IsAtEase old.local → IfSome part (λ part. IsTrue (is_part_of (shape_of old) part)) → IfSome part (GoesFirst old)
    → IfSome part (λ part. IsAmong old maps command (lpi_of part)) → DoesSome old new address part → DoesParts old new address maps command (lpis_end (shape_of old)) (option_to_list part)
some_parts old new address maps command None whole ease there first among does =
    let To : Seen → Type 0 = λ new. DoesParts old new address maps command (lpis_end (shape_of old)) [] in
    subst To (sym does) (parts_none old address maps command (lpis_end (shape_of old)) (owes_none old.local ease.owes).marks)
some_parts old new address maps command (Some part) whole ease there first among does =
    parts_one old new address maps command (lpis_end (shape_of old)) part whole (below_end (shape_of old) (lpi_of part) (part_there (shape_of old) part (lpi_of part) refl there)) first among does

pub does_single :
    (old mid new : Seen) (address : ℕ) (shape : GuestShape) (maps : Maps) (command : Command) → (shape_of old).ram % 8 ≡ 0 → shape ≡ shape_of old → IsValid shape maps → fault_of shape maps command ≡ None → is_mapd command ≡ false
    → is_several maps command ≡ false → IsAtEase old.local → IsFresh old → DoesSome old mid address (first_of maps command) → DoesSome mid new address (second_of maps command) → DoesCommand old new address maps command
does_single old mid new address shape maps command whole is valid good plain single ease fresh first second =
    let same : shape_of mid ≡ shape_of old = shape_after old mid address (first_of maps command) first in
    let Whole : GuestShape → Type 0 = λ shape. shape.ram % 8 ≡ 0 in
    let There : GuestShape → Type 0 = λ shape. IfSome (first_of maps command) (λ part. IsTrue (is_part_of shape part)) in
    let Ends : GuestShape → Type 0 = λ shape. DoesParts mid new address maps command (lpis_end shape) (option_to_list (second_of maps command)) in
    let there = second_after old mid address shape maps command is valid good first in
    let early = some_parts old mid address maps command (first_of maps command) whole ease (subst There is (first_there shape maps command valid)) (first_goes old maps command)
    (among old (shape_of old) maps command (first_of maps command) plain single (among_first (first_of maps command) (second_of maps command))) first in
    let late = some_parts mid new address maps command (second_of maps command) (subst Whole (sym same) whole) (some_ease old mid address (first_of maps command) first ease) there (second_goes old mid address maps command fresh first there)
    (among mid (shape_of mid) maps command (second_of maps command) plain single (among_second (first_of maps command) (second_of maps command))) second in
    record {
      top = lpis_end (shape_of old);
      done = option_to_list (first_of maps command) ++ option_to_list (second_of maps command);
      does = parts_join old mid new address maps command (lpis_end (shape_of old)) (lpis_end (shape_of old)) (option_to_list (first_of maps command)) (option_to_list (second_of maps command)) whole (omega arith) early (subst Ends same late);
      all = λ targets agree. single_parts (shape_of old) maps targets command plain single;
    }

-- Those of several LPIs.

unmapped_after :
    (seen : Seen) (maps : Maps) (targets : ℕ → Option ℕ) (command : Command) → ((id : ℕ) → IsTrue (has_interrupt (shape_of seen) (Lpi id)) → IsTrue (is_skipped (maps_after maps command) command id) → IsUntouched seen id) → AgreeWith seen maps targets
    → AreUnmapped (maps_after maps command) command targets
unmapped_after seen maps targets (Movall rdbase second) skips agree = λ id none. agree.unmapped id none (λ there. skips id there (ap not none))
unmapped_after seen maps targets _ skips agree = tt

-- a command of several does no part of one event before
pub none_before : (old mid new : Seen) (address : ℕ) (maps : Maps) (command : Command) → is_several maps command ≡ true → DoesSome old mid address (first_of maps command) → DoesSome mid new address (second_of maps command) → new ≡ old
none_before old mid new address maps command several first second =
    let none = several_none maps command several in
    let First : Option Part → Type 0 = λ part. DoesSome old mid address part in
    let Second : Option Part → Type 0 = λ part. DoesSome mid new address part in
    subst Second none.1.0 second ∙ subst First none.0 first

pub does_several :
    (old mid before new : Seen) (address : ℕ) (maps tables : Maps) (command : Command) → is_several maps command ≡ true → tables ≡ maps_after maps command → DoesSome old mid address (first_of maps command) → DoesSome mid before address (second_of maps command)
    → SweepsAll before new address tables command → DoesCommand old new address maps command
does_several old mid before new address maps tables command several is first second sweeps =
    let From : Seen → Type 0 = λ before. SweepsAll before new address tables command in
    let By : Maps → Type 0 = λ tables. SweepsAll old new address tables command in
    let all : SweepsAll old new address (maps_after maps command) command = subst By is (subst From (none_before old mid before address maps command several first second) sweeps) in
    let does = all.does maps (λ targets. several_parts (shape_of old) maps targets command several) in
    let same : shape_of new ≡ shape_of old = ap shape_of does.adds.new_is in
    let There : ℕ → GuestShape → Type 0 = λ id shape. IsTrue (has_interrupt shape (Lpi id)) in
    record {
      top = lpis_end (shape_of old);
      done = all.done;
      does = does;
      all = λ targets agree.
          several_parts (shape_of old) maps targets command several
          ∙ all.all targets agree.found (unmapped_after new maps targets command (λ id there skipped. all.skips id (subst (There id) same there) skipped) agree);
    }

pub as_some : (old new : Seen) (address : ℕ) (part other : Option Part) → part ≡ other → DoesSome old new address part → DoesSome old new address other
as_some old new address part other e does = let For : Option Part → Type 0 = λ part. DoesSome old new address part in subst For e does

-- MAPD.

pub does_mapd : (old new : Seen) (address : ℕ) (maps : Maps) (command : Command) (ids : List ℕ) → ((targets : ℕ → Option ℕ) → parts (shape_of old) maps targets command ≡ each ids Forget) → ForgetsAll old new address ids → DoesCommand old new address maps command
does_mapd old new address maps command ids are forgets = record { top = lpis_end (shape_of old); done = each ids Forget; does = forgets.does maps command are; all = λ targets agree. are targets }
