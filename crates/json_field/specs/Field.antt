-- What the fields of a JSON object hold: how numbers, flags, texts, lists and pairs are written (own choice).
use Rattle.std.specs.Prelude.{ℕ, ◌+◌, ◌*◌, ◌&&◌, not, find, List, [], ◌∷◌, length, take, drop, Bool, false, nat_lt, nat_le, if◌then◌else◌, Option, Some, None, option_map, option_and_then, unwrap_or, codes}
use Rattle.std.specs.Option.{option_map_or, option_zip}
use Rattle.std.specs.List.{list_all, list_any}
use Rattle.std.specs.Char.{digit_value}
use Rattle.std.specs.Str.{bytes_eq}
use Rattle.serde_json.specs.Data.{Data, null, boolean, number, string, array, object, Items, no_items, item, Members, no_members, member}
use Rattle.serde_json.specs.Find.{get, as_u64, as_bool, as_str, as_array, as_object}

-- the value of a hexadecimal digit of either case
abbrev pub hex_digit : ℕ → Option ℕ
hex_digit c = if nat_lt (digit_value c) 16 then Some (digit_value c) else None

-- the number that hexadecimal digits spell after those that spelt `high`
abbrev pub hex_digits : ℕ → List ℕ → Option ℕ
hex_digits high [] = Some high
hex_digits high (c ∷ cs) = option_and_then (λ digit. hex_digits (16 * high + digit) cs) (hex_digit c)

-- the number that a text spells: 0x and 1 to 16 hexadecimal digits
abbrev pub hex_number : List ℕ → Option ℕ
hex_number text =
    if bytes_eq (take 2 text) (codes "0x") && nat_le 3 (length text) && nat_le (length text) 18 then hex_digits 0 (drop 2 text) else None

-- the number that a value spells: an unsigned integer below 2 ^ 64, or a text of hexadecimal digits
abbrev pub number_of : Data → Option ℕ
number_of null = None
number_of (boolean b) = None
number_of (number n) = as_u64 n
number_of (string text) = hex_number text
number_of (array ds) = None
number_of (object ms) = None

-- the elements of an array, in order
abbrev pub elements : Items → List Data
elements no_items = []
elements (item d ds) = d ∷ elements ds

-- the names of an object's fields
abbrev pub names : Members → List (List ℕ)
names no_members = []
names (member name d ms) = name ∷ names ms

-- the value is an object, each field of which has one of these names
abbrev pub has_only : List (List ℕ) → Data → Bool
has_only allowed d = option_map_or (λ ms. list_all (λ name. list_any (bytes_eq name) allowed) (names ms)) (as_object d) false

-- the first field of an object, in the order of its fields, that has none of these names
abbrev pub other_field : List (List ℕ) → Data → Option (List ℕ)
other_field allowed d = option_and_then (λ ms. find (λ name. not (list_any (bytes_eq name) allowed)) (names ms)) (as_object d)

-- the elements of an array
abbrev pub list_of : Data → Option (List Data)
list_of d = option_map elements (as_array d)

-- the two numbers of an array of two
abbrev pub pair_in : List Data → Option (ℕ × ℕ)
pair_in [] = None
pair_in (a ∷ []) = None
pair_in (a ∷ b ∷ []) = option_zip (number_of a) (number_of b)
pair_in (a ∷ b ∷ c ∷ rest) = None

-- the number in a field that has to be there
abbrev pub number_at : List ℕ → Data → Option ℕ
number_at name d = option_and_then number_of (get name d)

-- the number in a field, or its default where there is no such field
abbrev pub number_or : List ℕ → ℕ → Data → Option ℕ
number_or name default d = option_map_or number_of (get name d) (Some default)

-- the same of true and false
abbrev pub flag_or : List ℕ → Bool → Data → Option Bool
flag_or name default d = option_map_or as_bool (get name d) (Some default)

-- true or false in a field that has to be there
abbrev pub flag_at : List ℕ → Data → Option Bool
flag_at name d = option_and_then as_bool (get name d)

-- the text in a field that has to be there
abbrev pub text_at : List ℕ → Data → Option (List ℕ)
text_at name d = option_and_then as_str (get name d)

-- the elements in a field that has to be there
abbrev pub list_at : List ℕ → Data → Option (List Data)
list_at name d = option_and_then list_of (get name d)

-- the elements in a field, or none where there is no such list
abbrev pub elements_at : List ℕ → Data → List Data
elements_at name d = unwrap_or (list_at name d) []

-- the elements in a field, or none where there is no such field
abbrev pub list_or_empty : List ℕ → Data → Option (List Data)
list_or_empty name d = option_map_or list_of (get name d) (Some [])

-- the pair in a field that has to be there
abbrev pub pair_at : List ℕ → Data → Option (ℕ × ℕ)
pair_at name d = option_and_then pair_in (list_at name d)
