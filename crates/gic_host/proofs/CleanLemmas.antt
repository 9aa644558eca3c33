-- What was read has no fault.
use Rattle.std.proofs.Common.{◌≡◌, ◌≤◌, ◌+◌, ℕ, Bool, true, false, ◌&&◌, not, min, nat_le, nat_lt, Option, Some, None, Result, Ok, Err, List, [], ◌∷◌, map, fold, length, codes, unwrap_or, refl, sym, ap, ◌∙◌, subst, arith}
use Rattle.std.specs.Prelude.{is_none, if◌then◌else◌}
use Rattle.std.specs.List.{list_all}
use Rattle.std.specs.Result.{MatchResult}
use Rattle.std.proofs.lemmas.Bool.{and_from, le-leb}
use Rattle.std.proofs.lemmas.List.{length-map}
use Rattle.serde_json.specs.Data.{Data}
use Rattle.serde_json.specs.View.{view}
use Rattle.scn_read.specs.ScnBase.declared.fault.Fault.{Fault}
use Rattle.scn_read.specs.ScnBase.Codes.{first_code, first_of, ok_unless, both, shape_code}
use Rattle.scn_read.specs.JsonField.Field.{elements_at, has_only}
use Rattle.scn_read.specs.Reading.{before_steps, step_and_rest}
use Rattle.scn_read.proofs.ListLemmas.{ok_parts}
use Rattle.scn_read.proofs.GoodLemmas.{read_parts}
use Rattle.gic_host.specs.declared.link.Link.{Link}
use Rattle.gic_host.specs.declared.step.HostStep.{HostStep}
use Rattle.gic_host.specs.declared.form.HostForm.{HostForm}
use Rattle.gic_host.specs.declared.reading.Parts.{Parts}
use Rattle.gic_host.specs.Form.{row_of, form_of}
use Rattle.gic_host.specs.Good.{is_good_link, has_clash, step_fault, is_loaded_after, are_good_steps, are_good_links, is_good}
use Rattle.gic_host.specs.Reading.{is_link, is_link_in_range, link_fault, link_of, host_fault, vcpus_of, form_said, judged, said_by, step_of, steps_of, IsOpening}

-- no first code, and no first row that is met
first_code_none : (a b : Option ℕ) → first_code a b ≡ None → (a ≡ None) × (b ≡ None)
first_code_none None b e = (refl, e)
first_code_none (Some code) None e = absurd cc
first_code_none (Some code) (Some other) e = absurd cc

fold_none : (before : Option ℕ) (faults : List (Option ℕ)) → fold first_code before faults ≡ None → before ≡ None
fold_none before [] e = e
fold_none before (fault ∷ faults) e = (first_code_none before fault (fold_none (first_code before fault) faults e)).0

unmet : (test : Bool) (code : ℕ) (rest : Option ℕ) → (if test then Some code else rest) ≡ None → (test ≡ false) × (rest ≡ None)
unmet true code rest e = absurd cc
unmet false code rest e = (refl, e)

not_false : (b : Bool) → not b ≡ false → b ≡ true
not_false true e = refl
not_false false e = absurd cc

-- links without a fault are good
good_link : (vcpus : ℕ) (d : Data) → link_fault vcpus d ≡ None → is_good_link vcpus (link_of d) ≡ true
good_link vcpus d e =
    let formed = unmet (not (is_link d)) 1 _ e in
    let within = unmet (not (is_link_in_range d)) 2 _ formed.1 in
    let there = unmet (not (nat_lt (link_of d).vcpu vcpus)) 4 _ within.1 in
    and_from (is_link_in_range d) (nat_lt (link_of d).vcpu vcpus) (not_false (is_link_in_range d) within.0) (not_false (nat_lt (link_of d).vcpu vcpus) there.0)

good_links : (vcpus : ℕ) (before : Option ℕ) (ds : List Data) → fold first_code before (map (link_fault vcpus) ds) ≡ None → list_all (is_good_link vcpus) (map link_of ds) ≡ true
good_links vcpus before [] e = refl
good_links vcpus before (d ∷ ds) e =
    let first = first_code_none before (link_fault vcpus d) (fold_none (first_code before (link_fault vcpus d)) (map (link_fault vcpus) ds) e) in
    and_from (is_good_link vcpus (link_of d)) (list_all (is_good_link vcpus) (map link_of ds)) (good_link vcpus d first.1) (good_links vcpus (first_code before (link_fault vcpus d)) ds e)

-- a step that was read has no fault
judged_clean : (links : List Link) (vcpus : ℕ) (loaded : Bool) (said : Result HostStep ℕ) (step : HostStep) → judged links vcpus loaded said ≡ Ok step → step_fault links vcpus loaded step ≡ None
judged_clean links vcpus loaded (Err code) step e = absurd cc
judged_clean links vcpus loaded (Ok one) step e =
    let p = ok_parts (step_fault links vcpus loaded one) one step (sym e) in
    ap (step_fault links vcpus loaded) p.1 ∙ p.0

step_clean : (links : List Link) (vcpus : ℕ) (loaded : Bool) (d : Data) (step : HostStep) → step_of links vcpus loaded d ≡ Ok step → step_fault links vcpus loaded step ≡ None
step_clean links vcpus loaded d step e = of (form_of d) e
  where
    by : (b : Bool) (form : HostForm) → (if b then judged links vcpus loaded (form_said form d) else Err shape_code) ≡ Ok step → step_fault links vcpus loaded step ≡ None
    by true form f = judged_clean links vcpus loaded (form_said form d) step f
    by false form f = absurd cc

    of : (o : Option HostForm) → said_by links vcpus loaded o d ≡ Ok step → step_fault links vcpus loaded step ≡ None
    of None f = absurd cc
    of (Some form) f = by (has_only (row_of form).fields d) form f

-- the first of the steps and the others, where there is no fault
record StepParts (first : Result HostStep ℕ) (rest : HostStep → Result (List HostStep) Fault) (read : List HostStep) : Type 0 where
  step : HostStep
  steps : List HostStep
  first_is : first ≡ Ok step
  rest_is : rest step ≡ Ok steps
  read_is : read ≡ step ∷ steps

rest_parts : (step : HostStep) (after : Result (List HostStep) Fault) (rest : HostStep → Result (List HostStep) Fault) (read : List HostStep) → rest step ≡ after → before_steps step after ≡ Ok read → StepParts (Ok step) rest read
rest_parts step (Ok steps) rest read e read_is = record { step = step; steps = steps; first_is = refl; rest_is = e; read_is = cc }
rest_parts step (Err fault) rest read e read_is = absurd cc

parts : (number : ℕ) (first : Result HostStep ℕ) (rest : HostStep → Result (List HostStep) Fault) (read : List HostStep) → step_and_rest number first rest ≡ Ok read → StepParts first rest read
parts number (Err code) rest read e = absurd cc
parts number (Ok step) rest read e = rest_parts step (rest step) rest read refl e

abbrev no_steps : Result (List HostStep) Fault
no_steps = Ok []

read_none : (read : List HostStep) → no_steps ≡ Ok read → read ≡ []
read_none read e = cc

is_none_of : (o : Option ℕ) → o ≡ None → is_none o ≡ true
is_none_of o e = rw e refl

clean_steps : (links : List Link) (vcpus : ℕ) (loaded : Bool) (number : ℕ) (ds : List Data) (read : List HostStep) → steps_of links vcpus loaded number ds ≡ Ok read → are_good_steps links vcpus loaded read ≡ true
clean_steps links vcpus loaded number [] read e = rw (read_none read e) refl
clean_steps links vcpus loaded number (d ∷ ds) read e =
    let p = parts number (step_of links vcpus loaded d) (λ step. steps_of links vcpus (is_loaded_after step loaded) (number + 1) ds) read e in
    let now = step_clean links vcpus loaded d p.step p.first_is in
    let rest = clean_steps links vcpus (is_loaded_after p.step loaded) (number + 1) ds p.steps p.rest_is in
    ap (are_good_steps links vcpus loaded) p.read_is
    ∙ and_from (is_none (step_fault links vcpus loaded p.step)) (are_good_steps links vcpus (is_loaded_after p.step loaded) p.steps) (is_none_of (step_fault links vcpus loaded p.step) now) rest

length-steps_of : (links : List Link) (vcpus : ℕ) (loaded : Bool) (number : ℕ) (ds : List Data) (read : List HostStep) → steps_of links vcpus loaded number ds ≡ Ok read → length read ≡ length ds
length-steps_of links vcpus loaded number [] read e = ap length (read_none read e)
length-steps_of links vcpus loaded number (d ∷ ds) read e =
    let p = parts number (step_of links vcpus loaded d) (λ step. steps_of links vcpus (is_loaded_after step loaded) (number + 1) ds) read e in
    let rest = length-steps_of links vcpus (is_loaded_after p.step loaded) (number + 1) ds p.steps p.rest_is in
    ap length p.read_is ∙ omega (arith, rest)

abbrev opening_of : Data → Parts → Type 0
opening_of d parts = IsOpening d parts.vcpus parts.lrs (map view parts.steps.now)

-- what was read is good
pub host_good : (d : Data) (ds : List Data) (vcpus : ℕ) (opening : Result Parts ℕ) (links : Result (List Link) ℕ) (read : Parts × List Link) (listed slice : List Link) (steps : List HostStep)
    → MatchResult opening (opening_of d) (λ (code : ℕ). host_fault d ≡ Some code) → ds ≡ elements_at (codes "links") d → vcpus ≡ vcpus_of d → links ≡ ok_unless (first_of (map (link_fault vcpus) ds)) (map link_of ds) → Ok read ≡ both opening links
    → listed ≡ read.1 → has_clash listed ≡ false → slice ≡ read.1 → steps_of slice read.0.vcpus true 1 (map view read.0.steps.now) ≡ Ok steps
    → is_good (record { vcpus = read.0.vcpus; lrs = read.0.lrs; links = read.1; steps = steps }) ≡ true
host_good d ds vcpus opening links read listed slice steps opens are vcpus_are links_are e listed_is apart slice_is steps_are =
    let parts = read_parts (opening_of d) (λ (code : ℕ). host_fault d ≡ Some code) opening (first_of (map (link_fault vcpus) ds)) links (map link_of ds) read opens links_are e in
    let own = parts.0 in
    let some_vcpu = own.some_vcpu in
    let few_vcpus = own.few_vcpus in
    let same : vcpus ≡ read.0.vcpus = vcpus_are ∙ ap (λ (o : Option ℕ). min (unwrap_or o 0) 8) own.vcpus_are ∙ least read.0.vcpus few_vcpus in
    let each : list_all (is_good_link read.0.vcpus) read.1 ≡ true =
    ap (λ (ls : List Link). list_all (is_good_link read.0.vcpus) ls) parts.2 ∙ subst (λ (n : ℕ). list_all (is_good_link n) (map link_of ds) ≡ true) same (good_links vcpus None ds parts.1) in
    let many : length read.1 ≡ length (elements_at (codes "links") d) = ap length parts.2 ∙ length-map ds link_of ∙ ap length are in
    let few_links = own.few_links in
    let clean : are_good_steps read.1 read.0.vcpus true steps ≡ true =
    clean_steps read.1 read.0.vcpus true 1 (map view read.0.steps.now) steps (subst (λ (ls : List Link). steps_of ls read.0.vcpus true 1 (map view read.0.steps.now) ≡ Ok steps) slice_is steps_are) in
    let long = length-steps_of slice read.0.vcpus true 1 (map view read.0.steps.now) steps steps_are in
    let few = own.few in
    all_true (nat_le 1 read.0.vcpus) (nat_le read.0.vcpus 8) (nat_le 1 read.0.lrs) (nat_le read.0.lrs 16) (are_good_links read.0.vcpus read.1) (nat_le (length steps) 100000) (are_good_steps read.1 read.0.vcpus true steps)
    (le-leb 1 read.0.vcpus some_vcpu) (le-leb read.0.vcpus 8 few_vcpus) (le-leb 1 read.0.lrs own.some_list_register) (le-leb read.0.lrs 16 own.list_registers)
    (three (nat_le (length read.1) 64) (list_all (is_good_link read.0.vcpus) read.1) (has_clash read.1) (le-leb (length read.1) 64 (omega (arith, many, few_links))) each (ap has_clash (sym listed_is) ∙ apart))
    (le-leb (length steps) 100000 (omega (arith, long, few))) clean
  where
    least : (n : ℕ) → n ≤ 8 → min n 8 ≡ n
    least n h = omega (arith, h)

    three : (a b c : Bool) → a ≡ true → b ≡ true → c ≡ false → (a && b && not c) ≡ true
    three a b c e f g = rw (e, f, g) refl

    all_true : (a b c d e f g : Bool) → a ≡ true → b ≡ true → c ≡ true → d ≡ true → e ≡ true → f ≡ true → g ≡ true → (a && b && c && d && e && f && g) ≡ true
    all_true a b c d e f g h i j k l m n = rw (h, i, j, k, l, m, n) refl
