-- What is well formed, as XML 1.0 has it, without what these texts never use: comments, declarations, processing instructions and
-- sections of CDATA.
use Rattle.std.specs.Prelude.{ℕ, List, [], ◌∷◌, ◌++◌, ◌&&◌, ◌||◌, ◌==◌, Bool, false, IsTrue, not, nat_le, codes}
use Rattle.std.specs.List.{list_all, list_any}
use Rattle.std.specs.Str.{bytes_eq}
use Rattle.svg_text.specs.Tree.{is_allowed, node_text}
use Rattle.svg_text.specs.declared.node.Node.{Node}

-- a byte of a character that stands for itself, between tags and in the value of an attribute in double quotes (XML 1.0, "Character Data
-- and Markup" and "AttValue")
abbrev pub is_plain : ℕ → Bool
is_plain byte = is_allowed byte && not (byte == 38) && not (byte == 60) && not (byte == 62) && not (byte == 34)

-- the entities that need no declaration (XML 1.0, "Predefined Entities")
abbrev pub entities : List (List ℕ)
entities = codes "&amp;" ∷ codes "&lt;" ∷ codes "&gt;" ∷ codes "&quot;" ∷ []

-- characters that stand for themselves, and entities
pub data IsCharacters : List ℕ → Type 0 where
  no_characters : IsCharacters []
  character : (byte : ℕ) (others : List ℕ) → IsTrue (is_plain byte) → IsCharacters others → IsCharacters (byte ∷ others)
  entity : (name others : List ℕ) → IsTrue (list_any (bytes_eq name) entities) → IsCharacters others → IsCharacters (name ++ others)

-- a letter of the Latin alphabet
abbrev pub is_letter : ℕ → Bool
is_letter byte = (nat_le 65 byte && nat_le byte 90) || (nat_le 97 byte && nat_le byte 122)

-- a letter or a digit
abbrev pub is_alphanumeric : ℕ → Bool
is_alphanumeric byte = is_letter byte || (nat_le 48 byte && nat_le byte 57)

-- a name: a letter, and then letters and digits (XML 1.0, "Name")
abbrev pub is_name : List ℕ → Bool
is_name [] = false
is_name (first ∷ others) = is_letter first && list_all is_alphanumeric others

-- attributes, each after a space (XML 1.0, "Attribute")
pub data IsAttributes : List ℕ → Type 0 where
  no_attributes : IsAttributes []
  attribute : (name value others : List ℕ) → IsTrue (is_name name) → IsCharacters value → IsAttributes others
      → IsAttributes (codes " " ++ name ++ codes "=\"" ++ value ++ codes "\"" ++ others)

-- the content of an element: characters, and elements, each of which ends where it begins or is closed by its own name
-- (XML 1.0, "content", "element", "STag", "ETag" and "EmptyElemTag")
pub data IsContent : List ℕ → Type 0 where
  nothing : IsContent []
  characters : (text others : List ℕ) → IsCharacters text → IsContent others → IsContent (text ++ others)
  empty_element : (name attributes others : List ℕ) → IsTrue (is_name name) → IsAttributes attributes → IsContent others
      → IsContent (codes "<" ++ name ++ attributes ++ codes "/>" ++ others)
  element : (name attributes inside others : List ℕ) → IsTrue (is_name name) → IsAttributes attributes → IsContent inside → IsContent others
      → IsContent (codes "<" ++ name ++ attributes ++ codes ">" ++ inside ++ codes "</" ++ name ++ codes ">" ++ others)

-- the text of every tree is content
abbrev pub TextsAreContent : Type 0
TextsAreContent = (node : Node) → IsContent (node_text node)
