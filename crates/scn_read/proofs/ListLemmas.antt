-- Steps of a loop that reads the elements of a list one after the other.
use Rattle.std.proofs.Common.{◌≡◌, ℕ, ◌+◌, ◌<◌, List, [], ◌∷◌, ◌++◌, length, get_or, drop, map, fold, Option, Some, None, Ok, Err, refl, sym, ◌∙◌, append_assoc, add-one, drop-cons}
use Rattle.scn_base.specs.Codes.{first_code, ok_unless}

-- what is left at an element is the element and what is left after it
pub drop_item : {X : Type 0} (xs : List X) (i : ℕ) (x : X) → i < length xs → x ≡ get_or xs i x → drop i xs ≡ x ∷ drop (i + 1) xs
drop_item xs i x within is = rw (add-one, drop-cons xs i x within, ← is)

-- what was read is the value, and there is no fault, or it is the fault
pub ok_parts : {Y : Type 0} (fault : Option ℕ) (x y : Y) → Ok y ≡ ok_unless fault x → (fault ≡ None) × (y ≡ x)
ok_parts None x y e = (refl, cc)
ok_parts (Some code) x y e = absurd cc

pub err_is : {Y : Type 0} (fault : Option ℕ) (x : Y) (code : ℕ) → Err code ≡ ok_unless fault x → fault ≡ Some code
err_is None x code e = absurd cc
err_is (Some other) x code e = cc

first_code-none : (before : Option ℕ) → first_code before None ≡ before
first_code-none None = refl
first_code-none (Some code) = refl

first_code-some : (before : Option ℕ) (code : ℕ) → first_code before (Some code) ≡ None → ⊥
first_code-some None code e = cc
first_code-some (Some other) code e = cc

-- of values vs, whose data has a fault by `fault` and else is read by f; the one at i is v
module _ {V X Y : Type 0} (data_of : V → X) (fault : X → Option ℕ) (f : X → Y) (vs : List V) (i : ℕ) (v : V) (within : i < length vs) (is : v ≡ get_or vs i v) where
  -- what it has is joined to the fault before it
  faults_more : (before : Option ℕ) (whole : Option ℕ) → fold first_code before (map fault (map data_of (drop i vs))) ≡ whole
      → fold first_code (first_code before (fault (data_of v))) (map fault (map data_of (drop (i + 1) vs))) ≡ whole
  faults_more before whole so_far = rw (drop_item vs i v within is) at so_far

  -- it is read, and put after those before it
  pub faults_ok : (before after whole : Option ℕ) (y : Y) → Ok y ≡ ok_unless (fault (data_of v)) (f (data_of v)) → after ≡ before → fold first_code before (map fault (map data_of (drop i vs))) ≡ whole
      → fold first_code after (map fault (map data_of (drop (i + 1) vs))) ≡ whole
  faults_ok before after whole y e same so_far =
      let more = rw (first_code-none before) at (rw (ok_parts (fault (data_of v)) (f (data_of v)) y e).0 at faults_more before whole so_far) in
      rw same more

  pub read_ok : (before after : Option ℕ) (done longer whole : List Y) (y : Y) → Ok y ≡ ok_unless (fault (data_of v)) (f (data_of v)) → after ≡ before → longer ≡ done ++ y ∷ []
      → (before ≡ None → done ++ map f (map data_of (drop i vs)) ≡ whole) → after ≡ None → longer ++ map f (map data_of (drop (i + 1) vs)) ≡ whole
  read_ok before after done longer whole y e same added so_far none =
      let more = rw (drop_item vs i v within is) at so_far (sym same ∙ none) in
      rw (added, (ok_parts (fault (data_of v)) (f (data_of v)) y e).1, append_assoc) more

  -- it has a fault, which is joined to the one before it
  pub faults_err : (before after whole : Option ℕ) (code : ℕ) → Err code ≡ ok_unless (fault (data_of v)) (f (data_of v)) → after ≡ first_code before (Some code)
      → fold first_code before (map fault (map data_of (drop i vs))) ≡ whole → fold first_code after (map fault (map data_of (drop (i + 1) vs))) ≡ whole
  faults_err before after whole code e joined so_far =
      let more = rw (err_is (fault (data_of v)) (f (data_of v)) code e) at faults_more before whole so_far in
      rw joined more

-- there is one then
pub read_err : {P : Type 0} (before after : Option ℕ) (code : ℕ) → after ≡ first_code before (Some code) → after ≡ None → P
read_err before after code joined none = absurd (first_code-some before code (sym joined ∙ none))
