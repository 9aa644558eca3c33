-- A step's shape, field by field.
use Rattle.std.proofs.Common.{◌≡◌, ℕ, ◌&&◌, ◌||◌, not, cond, Bool, true, false, Option, Some, None, List, [], ◌∷◌, Result, Ok, Err, refl, sym, ap, ◌∙◌, arith}
use Rattle.std.specs.Prelude.{◌↔◌, IsSome, is_some, find, if◌then◌else◌, option_and_then, option_map, codes}
use Rattle.std.specs.Option.{option_map_or}
use Rattle.std.specs.List.{list_all, list_any}
use Rattle.std.specs.Str.{bytes_eq}
use Rattle.serde_json.specs.Data.{Data, Members, null, boolean, number, string, array, object}
use Rattle.serde_json.specs.Find.{get, as_bool, as_str, as_object}
use Rattle.gic_host.specs.ScnRead.JsonField.Field.{has_only, other_field, names, number_of, number_or, number_at, flag_at, pair_at, list_of, pair_in}
use Rattle.gic_host.specs.ScnRead.ScnBase.Codes.{shape_code, limit_code, unknown_register_code, first_met, ok_unless}
use Rattle.gic_host.specs.ScnRead.ScnBase.declared.step.Step.{Step}
use Rattle.gic_host.specs.ScnRead.GicGuest.Good.{passes}
use Rattle.gic_host.specs.ScnRead.declared.form.Form.{Form}
use Rattle.gic_host.specs.ScnRead.declared.form.Form.TheVariants.{AccessRegister, AccessDistributor, AccessRedistributor, AccessIts, AccessMemory, SendMessage, MoveWire, SendMsi, EnterPe, ExitPe, ShowPe}
use Rattle.gic_host.specs.ScnRead.Form.{row_of, form_of}
use Rattle.gic_host.specs.ScnRead.Step.{said, said_by, form_said, is_register_step, register_at, is_access_step, is_wire_step, are_msi_numbers, pair_of}
use Rattle.scn_hint.specs.declared.field.Rule.{Rule}
use Rattle.scn_hint.specs.declared.field.Kind.{Kind}
use Rattle.scn_hint.specs.declared.field.Kind.TheVariants.{Number, Flag, Yes, Text, Pair, List as AList}
use Rattle.scn_hint.specs.declared.field.What.{What}
use Rattle.scn_hint.specs.declared.field.What.TheVariants.{Missing, WrongKind}
use Rattle.scn_hint.specs.Field.{holds, misfit_of, misfit_in, found_or, other_or}
use Rattle.scn_hint.specs.Table.{must, may, rules_of}
use Rattle.scn_hint.specs.Step.{shape_amiss, what_of_step}
use Rattle.scn_hint.specs.Law.{FieldsAreTold}

-- One field.

-- what is told of a field that is there, by whether it holds what it should, and of one that is not, by whether it has to be
abbrev pub unless : Kind → Bool → Option What
unless kind b = if b then None else Some (WrongKind kind)

abbrev pub missing : Kind → Bool → Option What
missing kind b = if b then Some (Missing kind) else None

unless_told : (kind : Kind) (b : Bool) → is_some (unless kind b) ≡ not b
unless_told kind true = refl
unless_told kind false = refl

-- what a field holds
abbrev found : Kind → Option Data → Bool
found Number o = is_some (option_and_then number_of o)
found Flag o = is_some (option_and_then as_bool o)
found Yes o = passes (λ flag. flag) (option_and_then as_bool o)
found Text o = is_some (option_and_then as_str o)
found Pair o = is_some (option_and_then pair_in (option_and_then list_of o))
found AList o = is_some (option_and_then list_of o)

holds_found : (kind : Kind) (name : List ℕ) (d : Data) → holds kind name d ≡ found kind (get name d)
holds_found Number name d = refl
holds_found Flag name d = refl
holds_found Yes name d = refl
holds_found Text name d = refl
holds_found Pair name d = refl
holds_found AList name d = refl

-- one that has to be there
must_found : (kind : Kind) (o : Option Data) → is_some (if is_some o then unless kind (found kind o) else missing kind true) ≡ not (found kind o)
must_found Number None = refl
must_found Flag None = refl
must_found Yes None = refl
must_found Text None = refl
must_found Pair None = refl
must_found AList None = refl
must_found kind (Some value) = unless_told kind (found kind (Some value))

pub must_holds : (kind : Kind) (name : List ℕ) (d : Data) → is_some (misfit_of name (must kind) d) ≡ not (holds kind name d)
must_holds kind name d =
    let same = holds_found kind name d in
    ap (λ b. is_some (if is_some (get name d) then unless kind b else missing kind true)) same ∙ must_found kind (get name d) ∙ ap not (sym same)

-- a number that need not be there
may_found : (default : ℕ) (o : Option Data) → is_some (if is_some o then unless Number (is_some (option_and_then number_of o)) else missing Number false) ≡ not (is_some (option_map_or number_of o (Some default)))
may_found default None = refl
may_found default (Some value) = unless_told Number (is_some (number_of value))

pub may_holds : (name : List ℕ) (default : ℕ) (d : Data) → is_some (misfit_of name (may Number) d) ≡ not (is_some (number_or name default d))
may_holds name default d = may_found default (get name d)

-- All fields of a table.

-- with some field something is amiss
abbrev is_amiss : List (List ℕ) → List Rule → Data → Bool
is_amiss [] rules d = false
is_amiss (name ∷ fields) [] d = false
is_amiss (name ∷ fields) (rule ∷ rules) d = is_some (misfit_of name rule d) || is_amiss fields rules d

misfit_amiss : (fields : List (List ℕ)) (rules : List Rule) (d : Data) → is_some (misfit_in fields rules d) ≡ is_amiss fields rules d
misfit_amiss [] rules d = refl
misfit_amiss (name ∷ fields) [] d = refl
misfit_amiss (name ∷ fields) (rule ∷ rules) d = of (misfit_of name rule d) (misfit_amiss fields rules d)
  where
    of : (what : Option What) → is_some (misfit_in fields rules d) ≡ is_amiss fields rules d → is_some (found_or name what (misfit_in fields rules d)) ≡ (is_some what || is_amiss fields rules d)
    of None rest = rest
    of (Some what) rest = refl

-- so it is exactly where not all of some tests hold
two : (x y a b : Bool) → x ≡ not a → y ≡ not b → (x || (y || false)) ≡ not (a && b)
two x y a b e f = rw (e, f) (of a b)
  where
    of : (a b : Bool) → (not a || (not b || false)) ≡ not (a && b)
    of false b = refl
    of true false = refl
    of true true = refl

three : (x y z a b c : Bool) → x ≡ not a → y ≡ not b → z ≡ not c → (x || (y || (z || false))) ≡ not (a && b && c)
three x y z a b c e f g = rw (e, f, g) (of a b c)
  where
    of : (a b c : Bool) → (not a || (not b || (not c || false))) ≡ not (a && b && c)
    of false b c = refl
    of true false c = refl
    of true true false = refl
    of true true true = refl

four : (x y z u a b c d : Bool) → x ≡ not a → y ≡ not b → z ≡ not c → u ≡ not d → (x || (y || (z || (u || false)))) ≡ not (a && b && c && d)
four x y z u a b c d e f g h = rw (e, f, g, h) (of a b c d)
  where
    of : (a b c d : Bool) → (not a || (not b || (not c || (not d || false)))) ≡ not (a && b && c && d)
    of false b c d = refl
    of true false c d = refl
    of true true false d = refl
    of true true true false = refl
    of true true true true = refl

-- the third test of five before the others
inserted : (x y z u w a b c d e : Bool) → x ≡ not a → y ≡ not b → z ≡ not c → u ≡ not d → w ≡ not e → (x || (y || (z || (u || (w || false))))) ≡ not (c && (a && b && d && e))
inserted x y z u w a b c d e ex ey ez eu ew = rw (ex, ey, ez, eu, ew) (of a b c d e)
  where
    of : (a b c d e : Bool) → (not a || (not b || (not c || (not d || (not e || false))))) ≡ not (c && (a && b && d && e))
    of false b true d e = refl
    of true false true d e = refl
    of true true true false e = refl
    of true true true true false = refl
    of true true true true true = refl
    of false b false d e = refl
    of true false false d e = refl
    of true true false d e = refl

-- A step by its form.

-- it is of the kinds that its form asks for
abbrev is_shaped : Form → Data → Bool
is_shaped AccessRegister d = is_register_step d
is_shaped AccessDistributor d = is_access_step (codes "gicd") d
is_shaped AccessRedistributor d = is_some (number_at (codes "of") d) && is_access_step (codes "gicr") d
is_shaped AccessIts d = is_access_step (codes "gits") d
is_shaped AccessMemory d = is_access_step (codes "ram") d
is_shaped SendMessage d = is_some (pair_at (codes "dev") d) && is_some (number_at (codes "message") d)
is_shaped MoveWire d = is_wire_step d
is_shaped SendMsi d = is_some (pair_at (codes "dev") d) && is_some (pair_at (codes "msi") d)
is_shaped EnterPe d = is_some (number_at (codes "pe") d) && is_some (pair_at (codes "enter") d)
is_shaped ExitPe d = is_some (number_at (codes "pe") d) && passes (λ flag. flag) (flag_at (codes "exit") d)
is_shaped ShowPe d = is_some (number_at (codes "pe") d) && passes (λ flag. flag) (flag_at (codes "lrs") d)

access_amiss : (name : List ℕ) (d : Data) → is_amiss (codes "vcpu" ∷ name ∷ codes "size" ∷ codes "write" ∷ []) (must Pair ∷ must Number ∷ may Number ∷ may Number ∷ []) d ≡ not (is_access_step name d)
access_amiss name d = four _ _ _ _ _ _ _ _ (must_holds Pair (codes "vcpu") d) (must_holds Number name d) (may_holds (codes "size") 4 d) (may_holds (codes "write") 0 d)

form_amiss : (form : Form) (d : Data) → is_amiss (row_of form).fields (rules_of form) d ≡ not (is_shaped form d)
form_amiss AccessRegister d = three _ _ _ _ _ _ (must_holds Pair (codes "vcpu") d) (must_holds Text (codes "icc") d) (may_holds (codes "write") 0 d)
form_amiss AccessDistributor d = access_amiss (codes "gicd") d
form_amiss AccessRedistributor d = inserted _ _ _ _ _ _ _ _ _ _ (must_holds Pair (codes "vcpu") d) (must_holds Number (codes "gicr") d) (must_holds Number (codes "of") d) (may_holds (codes "size") 4 d) (may_holds (codes "write") 0 d)
form_amiss AccessIts d = access_amiss (codes "gits") d
form_amiss AccessMemory d = access_amiss (codes "ram") d
form_amiss SendMessage d = two _ _ _ _ (must_holds Pair (codes "dev") d) (must_holds Number (codes "message") d)
form_amiss MoveWire d = four _ _ _ _ _ _ _ _ (must_holds Pair (codes "dev") d) (must_holds Number (codes "wire") d) (must_holds Flag (codes "up") d) (may_holds (codes "vcpu") 0 d)
form_amiss SendMsi d = two _ _ _ _ (must_holds Pair (codes "dev") d) (must_holds Pair (codes "msi") d)
form_amiss EnterPe d = two _ _ _ _ (must_holds Number (codes "pe") d) (must_holds Pair (codes "enter") d)
form_amiss ExitPe d = two _ _ _ _ (must_holds Number (codes "pe") d) (must_holds Yes (codes "exit") d)
form_amiss ShowPe d = two _ _ _ _ (must_holds Number (codes "pe") d) (must_holds Yes (codes "lrs") d)

-- What the reader says.

said_wrong : (b : Bool) (step : Step) → (said b step ≡ Err shape_code) ↔ (b ≡ false)
said_wrong true step = (λ e. absurd (cc), λ e. absurd (cc))
said_wrong false step = (λ e. refl, λ e. refl)

abbrev code_in : Result Step ℕ → ℕ
code_in (Ok step) = 0
code_in (Err code) = code

-- where another code may be told after that of shape
coded_wrong : (b other : Bool) (code : ℕ) (step : Step) → (code ≡ shape_code → ⊥) → (ok_unless (first_met ((not b, shape_code) ∷ (not other, code) ∷ [])) step ≡ Err shape_code) ↔ (b ≡ false)
coded_wrong true true code step apart = (λ e. absurd (cc), λ e. absurd (cc))
coded_wrong true false code step apart = (λ e. absurd (apart (ap code_in e)), λ e. absurd (cc))
coded_wrong false other code step apart = (λ e. refl, λ e. refl)

form_wrong : (form : Form) (d : Data) → (form_said form d ≡ Err shape_code) ↔ (is_shaped form d ≡ false)
form_wrong AccessRegister d = coded_wrong (is_register_step d) (is_some (register_at d)) unknown_register_code _ (λ e. absurd (omega (arith, e)))
form_wrong AccessDistributor d = said_wrong (is_access_step (codes "gicd") d) _
form_wrong AccessRedistributor d = said_wrong (is_shaped AccessRedistributor d) _
form_wrong AccessIts d = said_wrong (is_access_step (codes "gits") d) _
form_wrong AccessMemory d = said_wrong (is_access_step (codes "ram") d) _
form_wrong SendMessage d = said_wrong (is_shaped SendMessage d) _
form_wrong MoveWire d = said_wrong (is_wire_step d) _
form_wrong SendMsi d = coded_wrong (is_shaped SendMsi d) (are_msi_numbers (pair_of (codes "msi") d)) limit_code _ (λ e. absurd (omega (arith, e)))
form_wrong EnterPe d = said_wrong (is_shaped EnterPe d) _
form_wrong ExitPe d = said_wrong (is_shaped ExitPe d) _
form_wrong ShowPe d = said_wrong (is_shaped ShowPe d) _

-- A step that names a form is an object.

is_object : (form : Form) (d : Data) → form_of d ≡ Some form → is_some (as_object d) ≡ true
is_object form null e = absurd (cc)
is_object form (boolean b) e = absurd (cc)
is_object form (number n) e = absurd (cc)
is_object form (string s) e = absurd (cc)
is_object form (array ds) e = absurd (cc)
is_object form (object ms) e = refl

-- it has a field of another name exactly where not all its fields have one of these
others_found : (test : List ℕ → Bool) (fields : List (List ℕ)) → is_some (find (λ name. not (test name)) fields) ≡ not (list_all test fields)
others_found test [] = refl
others_found test (name ∷ fields) = of (test name) (others_found test fields)
  where
    of : (b : Bool) → is_some (find (λ name. not (test name)) fields) ≡ not (list_all test fields) → is_some (cond (not b) (Some name) (find (λ name. not (test name)) fields)) ≡ not (b && list_all test fields)
    of true rest = rest
    of false rest = refl

pub other_only : (allowed : List (List ℕ)) (d : Data) → is_some (as_object d) ≡ true → is_some (other_field allowed d) ≡ not (has_only allowed d)
other_only allowed d = of (as_object d)
  where
    of : (o : Option Members) → is_some o ≡ true → is_some (option_and_then (λ ms. find (λ name. not (list_any (bytes_eq name) allowed)) (names ms)) o) ≡ not (option_map_or (λ ms. list_all (λ name. list_any (bytes_eq name) allowed) (names ms)) o false)
    of None e = absurd (cc)
    of (Some ms) e = others_found (λ name. list_any (bytes_eq name) allowed) (names ms)

-- Both.

other_some : (other : Option (List ℕ)) (later : Option (List ℕ × What)) (only shaped : Bool) → is_some other ≡ not only → is_some later ≡ not shaped → is_some (other_or other later) ≡ not (only && shaped)
other_some None later true shaped e f = f
other_some None later false shaped e f = absurd (cc)
other_some (Some name) later true shaped e f = absurd (cc)
other_some (Some name) later false shaped e f = refl

mapped_some : (f : List ℕ × What → List ℕ × What) (o : Option (List ℕ × What)) → is_some (option_map f o) ≡ is_some o
mapped_some f None = refl
mapped_some f (Some told) = refl

step_told : (form : Form) (d : Data) → is_some (as_object d) ≡ true → is_some (shape_amiss (Some form) d) ≡ not (has_only (row_of form).fields d && is_shaped form d)
step_told form d there =
    let fields = (row_of form).fields in
    mapped_some (λ found. (found.0, what_of_step form found.0 found.1)) (other_or (other_field fields d) (misfit_in fields (rules_of form) d))
    ∙ other_some (other_field fields d) (misfit_in fields (rules_of form) d) (has_only fields d) (is_shaped form d) (other_only fields d there) (misfit_amiss fields (rules_of form) d ∙ form_amiss form d)

only_wrong : (only shaped : Bool) (made : Result Step ℕ) → (made ≡ Err shape_code) ↔ (shaped ≡ false) → ((if only then made else Err shape_code) ≡ Err shape_code) ↔ ((only && shaped) ≡ false)
only_wrong true shaped made wrong = wrong
only_wrong false shaped made wrong = (λ e. refl, λ e. refl)

false_told : (b : Bool) (o : Option (List ℕ × What)) → is_some o ≡ not b → (b ≡ false) ↔ IsSome o
false_told true o e = (λ no. absurd (cc), λ some. absurd (cc))
false_told false o e = (λ no. e, λ some. refl)

pub fields_told : FieldsAreTold
fields_told = record {
  steps = λ form d is.
      let fields = (row_of form).fields in
      let wrong = only_wrong (has_only fields d) (is_shaped form d) (form_said form d) (form_wrong form d) in
      let told = false_told (has_only fields d && is_shaped form d) (shape_amiss (Some form) d) (step_told form d (is_object form d is)) in
      let said = ap (λ o. said_by o d) is in
      (λ e. told.0 (wrong.0 (sym said ∙ e)), λ some. said ∙ wrong.1 (told.1 some));
}
