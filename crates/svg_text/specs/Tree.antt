-- The text of a tree (XML 1.0, "Logical Structures").
use Rattle.std.specs.Prelude.{ℕ, List, [], ◌∷◌, ◌++◌, ◌||◌, ◌==◌, Bool, nat_le, codes, decimal, string_bytes, if◌then◌else◌}
use Rattle.std.specs.List.{flat_map}
use Rattle.svg_text.specs.declared.name.Tag.{Tag}
use Rattle.svg_text.specs.declared.node.Value.{Value}
use Rattle.svg_text.specs.declared.node.Value.TheVariants.{Number, Word, Text}
use Rattle.svg_text.specs.declared.node.Attribute.{Attribute}
use Rattle.svg_text.specs.declared.node.Node.{Node}
use Rattle.svg_text.specs.declared.node.Node.TheOpen.{Node-F}
use Rattle.svg_text.specs.declared.node.Node.TheFolds.{fold-Node}
use Rattle.svg_text.specs.Name.{tag_name, property_name}

-- a byte of a character that a text may have: a tab, a line feed, and all from the space on (XML 1.0, "Characters")
abbrev pub is_allowed : ℕ → Bool
is_allowed byte = byte == 9 || byte == 10 || nat_le 32 byte

-- what is written for a byte of a text: an entity where it would be read as markup (XML 1.0, "Predefined Entities"), and a question
-- mark where it is of no character that a text may have (own choice)
abbrev pub escape_of : ℕ → List ℕ
escape_of byte =
    if byte == 38 then codes "&amp;" else if byte == 60 then codes "&lt;" else if byte == 62 then codes "&gt;" else if byte == 34 then codes "&quot;"
    else if is_allowed byte then byte ∷ [] else codes "?"

-- what is written for a text
abbrev pub escaped : List ℕ → List ℕ
escaped text = flat_map escape_of text

-- what is written for the value of an attribute
abbrev pub value_text : Value → List ℕ
value_text (Number number) = escaped (decimal number)
value_text (Word word) = escaped word.now
value_text (Text text) = escaped (string_bytes text)

-- an attribute, after the name of its element
abbrev pub attribute_text : Attribute → List ℕ
attribute_text attribute = codes " " ++ property_name attribute.property ++ codes "=\"" ++ value_text attribute.value ++ codes "\""

-- the start of an element, to its last attribute
abbrev pub start_of : Tag → List Attribute → List ℕ
start_of tag attributes = codes "<" ++ tag_name tag ++ flat_map attribute_text attributes

-- the end of an element in which something stands
abbrev pub end_of : Tag → List ℕ
end_of tag = codes "</" ++ tag_name tag ++ codes ">"

-- an element from its attributes on, in which these texts stand
abbrev pub inside_of : Tag → List (List ℕ) → List ℕ
inside_of tag [] = codes "/>"
inside_of tag (first ∷ others) = codes ">" ++ flat_map (λ text. text) (first ∷ others) ++ end_of tag

-- one element or text, with the text of each child in its place
abbrev pub text_step : Node-F (List ℕ) → List ℕ
text_step (Node-F.Text text) = escaped (string_bytes text)
text_step (Node-F.Element tag attributes children) = start_of tag attributes.items ++ inside_of tag children.items

-- the text of a tree
abbrev pub node_text : Node → List ℕ
node_text = fold-Node (List ℕ) text_step
