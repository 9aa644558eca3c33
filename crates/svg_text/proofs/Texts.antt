-- The text of a tree, one layer at a time.
use Rattle.std.proofs.Common.{◌≡◌, ℕ, ◌==◌, false, List, [], ◌∷◌, ◌++◌, length, map, codes, string_bytes, String, Vec, Global, refl, sym, ap, ◌∙◌, append_assoc}
use Rattle.std.specs.List.{flat_map}
use Rattle.svg_text.specs.declared.name.Tag.{Tag}
use Rattle.svg_text.specs.declared.node.Attribute.{Attribute}
use Rattle.svg_text.specs.declared.node.Node.{Node}
use Rattle.svg_text.specs.declared.node.Node.TheOpen.{Node-F}
use Rattle.svg_text.specs.declared.node.Node.TheFolds.{fold-roll-Node}
use Rattle.svg_text.specs.declared.node.Node.TheVariants.{Text, Element, rolls-Text, rolls-Element}
use Rattle.svg_text.specs.Tree.{escaped, start_of, end_of, inside_of, text_step, node_text}

pub node_text-Text : (text : String Global) → node_text (Text text) ≡ escaped (string_bytes text)
node_text-Text text = ap node_text (sym (rolls-Text text)) ∙ fold-roll-Node (List ℕ) text_step (Node-F.Text text)

pub node_text-Element : (tag : Tag) (attributes : Vec Attribute Global) (children : Vec Node Global)
    → node_text (Element tag attributes children) ≡ start_of tag attributes.items ++ inside_of tag (map node_text children.items)
node_text-Element tag attributes children =
    ap node_text (sym (rolls-Element tag attributes children)) ∙ fold-roll-Node (List ℕ) text_step (Node-F.Element tag attributes children)

-- what stands in an element, joined
joined : (children : List Node) → flat_map (λ text. text) (map node_text children) ≡ flat_map node_text children
joined [] = refl
joined (child ∷ children) = ap (λ others. node_text child ++ others) (joined children)

-- an element in which something stands, from its attributes on
inside_of-map : (tag : Tag) (children : List Node) (count : ℕ) → length children ≡ count → (count == 0) ≡ false
    → inside_of tag (map node_text children) ≡ codes ">" ++ (flat_map node_text children ++ end_of tag)
inside_of-map tag [] count e f = cc
inside_of-map tag (child ∷ children) count e f =
    append_assoc (codes ">") (flat_map (λ text. text) (map node_text (child ∷ children))) (end_of tag) ∙ ap (λ inside. codes ">" ++ (inside ++ end_of tag)) (joined (child ∷ children))

-- after its start and a `>` all children and the end are left
pub after_start : (before started opened : List ℕ) (tag : Tag) (attributes : Vec Attribute Global) (children : Vec Node Global) (items : List Node) (count : ℕ)
    → started ≡ before ++ start_of tag attributes.items → opened ≡ started ++ codes ">" → items ≡ children.items → length items ≡ count → (count == 0) ≡ false
    → opened ++ (flat_map node_text items ++ end_of tag) ≡ before ++ node_text (Element tag attributes children)
after_start before started opened tag attributes children items count e f is g h =
    let start = start_of tag attributes.items in
    let inside = flat_map node_text items ++ end_of tag in
    ap (λ all. all ++ inside) (f ∙ ap (λ all. all ++ codes ">") e)
    ∙ append_assoc (before ++ start) (codes ">") inside
    ∙ append_assoc before start (codes ">" ++ inside)
    ∙ ap (λ all. before ++ (start ++ all)) (sym (inside_of-map tag items count g h))
    ∙ ap (λ all. before ++ (start ++ inside_of tag (map node_text all))) is
    ∙ ap (λ all. before ++ all) (sym (node_text-Element tag attributes children))
