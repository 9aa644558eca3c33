-- The kinds of what stands in an image: where one is wrong, or a field is missing or unknown, the image has no shape (own choice). A null is of each kind,
-- so one in a wrong place is no fault of shape.
use Rattle.std.specs.Prelude.{ℕ, ◌&&◌, ◌||◌, List, [], ◌∷◌, Bool, true, false, Option, is_some, option_and_then, codes}
use Rattle.std.specs.Option.{option_map_or}
use Rattle.std.specs.List.{list_all}
use Rattle.serde_json.specs.Data.{Data}
use Rattle.serde_json.specs.Find.{get, as_null, as_number, as_u64, as_str, as_bool}
use Rattle.scn_read.specs.JsonField.Field.{has_only, list_of}

-- an unsigned integer below 2 ^ 64
abbrev pub natural : Data → Option ℕ
natural d = option_and_then as_u64 (as_number d)

abbrev pub is_null : Data → Bool
is_null d = is_some (as_null d)

abbrev pub is_number : Data → Bool
is_number d = is_null d || is_some (natural d)

abbrev pub is_text : Data → Bool
is_text d = is_null d || is_some (as_str d)

abbrev pub is_flag : Data → Bool
is_flag d = is_null d || is_some (as_bool d)

-- a list, each element of which is of a kind
abbrev pub is_list : (Data → Bool) → Data → Bool
is_list test d = is_null d || option_map_or (list_all test) (list_of d) false

-- a list of numbers, and a list of such lists
abbrev pub is_row : Data → Bool
is_row d = is_list is_number d

abbrev pub is_rows : Data → Bool
is_rows d = is_list is_row d

-- a list of numbers behind a text
abbrev pub are_named : List Data → Bool
are_named [] = true
are_named (d ∷ ds) = is_text d && list_all is_number ds

abbrev pub is_named_row : Data → Bool
is_named_row d = is_null d || option_map_or are_named (list_of d) false

abbrev pub are_steps : Data → Bool
are_steps d = is_null d || is_some (list_of d)

-- the field of this name is there and of a kind
abbrev pub is_field : List ℕ → (Data → Bool) → Data → Bool
is_field name test d = option_map_or test (get name d) false

-- the fields of a guest, and of an image
abbrev pub guest_fields : List (List ℕ)
guest_fields =
    codes "shape"
    ∷ codes "on"
    ∷ codes "irqs"
    ∷ codes "gicd"
    ∷ codes "cpu"
    ∷ codes "rec"
    ∷ codes "redist"
    ∷ codes "its"
    ∷ codes "dev"
    ∷ codes "evt"
    ∷ codes "col"
    ∷ codes "ram"
    ∷ []

abbrev pub image_fields : List (List ℕ)
image_fields =
    codes "version"
    ∷ codes "pes"
    ∷ codes "lrs"
    ∷ codes "done"
    ∷ codes "reads"
    ∷ codes "on_pe"
    ∷ codes "steps"
    ∷ codes "guests"
    ∷ []

-- the fields of a guest are there, and each is of its kind
abbrev pub has_guest_fields : Data → Bool
has_guest_fields d =
    has_only guest_fields d
    && is_field (codes "shape") is_row d
    && is_field (codes "on") is_flag d
    && is_field (codes "irqs") is_rows d
    && is_field (codes "gicd") is_number d
    && is_field (codes "cpu") is_rows d
    && is_field (codes "rec") (is_list is_named_row) d
    && is_field (codes "redist") is_rows d
    && is_field (codes "its") is_row d
    && is_field (codes "dev") is_rows d
    && is_field (codes "evt") is_rows d
    && is_field (codes "col") is_rows d
    && is_field (codes "ram") is_rows d

abbrev pub is_guest : Data → Bool
is_guest d = is_null d || has_guest_fields d

-- the same of an image
abbrev pub is_image : Data → Bool
is_image d =
    has_only image_fields d
    && is_field (codes "version") is_number d
    && is_field (codes "pes") is_number d
    && is_field (codes "lrs") is_number d
    && is_field (codes "done") is_number d
    && is_field (codes "reads") is_number d
    && is_field (codes "on_pe") is_rows d
    && is_field (codes "steps") are_steps d
    && is_field (codes "guests") (is_list is_guest) d
