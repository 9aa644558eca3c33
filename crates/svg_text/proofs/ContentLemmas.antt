-- Why the text of a tree is content.
use Rattle.std.proofs.Common.{◌≡◌, ℕ, ◌==◌, Bool, true, false, cond, List, [], ◌∷◌, ◌++◌, map, codes, decimal, string_bytes, IsTrue, refl, sym, subst, append-nil, append_assoc, arith}
use Rattle.std.specs.List.{flat_map}
use Rattle.svg_text.specs.declared.name.Tag.{Tag}
use Rattle.svg_text.specs.declared.name.Tag.TheVariants.{Svg, Style, Group, Title, Rect, Line, Text}
use Rattle.svg_text.specs.declared.name.Property.{Property}
use Rattle.svg_text.specs.declared.name.Property.TheVariants.{Xmlns, ViewBox, Width, Height, Class, Role, X, Y, X1, Y1, X2, Y2, Transform}
use Rattle.svg_text.specs.declared.node.Value.{Value}
use Rattle.svg_text.specs.declared.node.Value.TheVariants as value
use Rattle.svg_text.specs.declared.node.Attribute.{Attribute}
use Rattle.svg_text.specs.declared.node.Node.{Node}
use Rattle.svg_text.specs.declared.node.Node.TheOpen.{Node-F}
use Rattle.svg_text.specs.declared.node.Node.TheViews.{roll-Node}
use Rattle.svg_text.specs.declared.node.Node.TheFolds.{ind-Node, map-Node, fold-roll-Node}
use Rattle.svg_text.specs.Name.{tag_name, property_name}
use Rattle.svg_text.specs.Tree.{is_allowed, escape_of, escaped, value_text, attribute_text, start_of, inside_of, text_step, node_text}
use Rattle.svg_text.specs.Content.{is_plain, IsCharacters, no_characters, character, entity, is_name, IsAttributes, no_attributes, attribute, IsContent, nothing, characters, empty_element, element}

-- Characters.

-- a byte that is none of those with an entity, and allowed, stands for itself
plain_of : (byte : ℕ) → (byte == 38) ≡ false → (byte == 60) ≡ false → (byte == 62) ≡ false → (byte == 34) ≡ false → is_allowed byte ≡ true → IsTrue (is_plain byte)
plain_of byte a b c d e = grind (arith)

-- what is written for a byte goes before characters
escape_then : (byte : ℕ) (others : List ℕ) → IsCharacters others → IsCharacters (escape_of byte ++ others)
escape_then byte others h = by_tests (byte == 38) (byte == 60) (byte == 62) (byte == 34) (is_allowed byte) refl refl refl refl refl
  where
    by_tests : (a b c d e : Bool) → (byte == 38) ≡ a → (byte == 60) ≡ b → (byte == 62) ≡ c → (byte == 34) ≡ d → is_allowed byte ≡ e
        → IsCharacters (cond a (codes "&amp;") (cond b (codes "&lt;") (cond c (codes "&gt;") (cond d (codes "&quot;") (cond e (byte ∷ []) (codes "?"))))) ++ others)
    by_tests true b c d e _ _ _ _ _ = entity (codes "&amp;") others refl h
    by_tests false true c d e _ _ _ _ _ = entity (codes "&lt;") others refl h
    by_tests false false true d e _ _ _ _ _ = entity (codes "&gt;") others refl h
    by_tests false false false true e _ _ _ _ _ = entity (codes "&quot;") others refl h
    by_tests false false false false true k l m n o = character byte others (plain_of byte k l m n o) h
    by_tests false false false false false _ _ _ _ _ = character 63 others refl h

-- what is written for a text is characters
pub escaped_characters : (text : List ℕ) → IsCharacters (escaped text)
escaped_characters [] = no_characters
escaped_characters (byte ∷ text) = escape_then byte (escaped text) (escaped_characters text)

-- Names and attributes.

tag_is_name : (tag : Tag) → IsTrue (is_name (tag_name tag))
tag_is_name Svg = refl
tag_is_name Style = refl
tag_is_name Group = refl
tag_is_name Title = refl
tag_is_name Rect = refl
tag_is_name Line = refl
tag_is_name Text = refl

property_is_name : (property : Property) → IsTrue (is_name (property_name property))
property_is_name Xmlns = refl
property_is_name ViewBox = refl
property_is_name Width = refl
property_is_name Height = refl
property_is_name Class = refl
property_is_name Role = refl
property_is_name X = refl
property_is_name Y = refl
property_is_name X1 = refl
property_is_name Y1 = refl
property_is_name X2 = refl
property_is_name Y2 = refl
property_is_name Transform = refl

value_characters : (it : Value) → IsCharacters (value_text it)
value_characters (value.Number number) = escaped_characters (decimal number)
value_characters (value.Word word) = escaped_characters word.now
value_characters (value.Text text) = escaped_characters (string_bytes text)

attributes_of : (attributes : List Attribute) → IsAttributes (flat_map attribute_text attributes)
attributes_of [] = no_attributes
attributes_of (it ∷ attributes) =
    attribute (property_name it.property) (value_text it.value) (flat_map attribute_text attributes) (property_is_name it.property) (value_characters it.value) (attributes_of attributes)

-- Trees.

-- the text of a tree goes before content
abbrev GoesOn : Node → Type 0
GoesOn node = (others : List ℕ) → IsContent others → IsContent (node_text node ++ others)

abbrev Proved : Type 0
Proved = (node : Node) × GoesOn node

-- the texts of trees, one after the other
all_texts : (children : List Proved) → IsContent (flat_map (λ text. text) (map node_text (map (λ e. e.0) children)))
all_texts [] = nothing
all_texts (child ∷ children) = child.1 (flat_map (λ text. text) (map node_text (map (λ e. e.0) children))) (all_texts children)

-- the text of an element, grouped as its definition groups it
regrouped : (less name attributes greater inside slash others : List ℕ) → less ++ name ++ attributes ++ greater ++ inside ++ slash ++ name ++ greater ++ others
    ≡ (less ++ name ++ attributes ++ (greater ++ inside ++ (slash ++ name ++ greater))) ++ others
regrouped less name attributes greater inside slash others = simp append_assoc

-- an element, in which the texts of these trees stand, goes before content
element_goes_on : (tag : Tag) (attributes : List Attribute) (children : List Proved) (others : List ℕ) → IsContent others
    → IsContent ((start_of tag attributes ++ inside_of tag (map node_text (map (λ e. e.0) children))) ++ others)
element_goes_on tag attributes [] others h =
    empty_element (tag_name tag) (flat_map attribute_text attributes) others (tag_is_name tag) (attributes_of attributes) h
element_goes_on tag attributes (child ∷ children) others h =
    let inside = flat_map (λ text. text) (map node_text (map (λ e. e.0) (child ∷ children))) in
    let is_element = element (tag_name tag) (flat_map attribute_text attributes) inside others (tag_is_name tag) (attributes_of attributes) (all_texts (child ∷ children)) h in
    subst IsContent (regrouped (codes "<") (tag_name tag) (flat_map attribute_text attributes) (codes ">") inside (codes "</") others) is_element

layer_goes_on : (y : Node-F Proved) → GoesOn (roll-Node (map-Node Proved Node (λ e. e.0) y))
layer_goes_on (Node-F.Text text) others h =
    subst (λ written. IsContent (written ++ others)) (sym (fold-roll-Node (List ℕ) text_step (Node-F.Text text))) (characters (escaped (string_bytes text)) others (escaped_characters (string_bytes text)) h)
layer_goes_on (Node-F.Element tag attributes children) others h =
    subst (λ written. IsContent (written ++ others)) (sym (fold-roll-Node (List ℕ) text_step (map-Node Proved Node (λ e. e.0) (Node-F.Element tag attributes children))))
    (element_goes_on tag attributes.items children.items others h)

pub goes_on : (node : Node) → GoesOn node
goes_on = ind-Node GoesOn (λ x y is. subst (λ layer. GoesOn (roll-Node layer)) is (layer_goes_on y))

-- the text of a tree is content
pub content_of : (node : Node) → IsContent (node_text node)
content_of node = subst IsContent (append-nil (node_text node)) (goes_on node [] nothing)
