-- The names of elements and attributes (SVG 2).
use Rattle.std.specs.Prelude.{ℕ, List, codes}
use Rattle.svg_text.specs.declared.name.Tag.{Tag}
use Rattle.svg_text.specs.declared.name.Tag.TheVariants.{Svg, Style, Group, Title, Rect, Line, Text}
use Rattle.svg_text.specs.declared.name.Property.{Property}
use Rattle.svg_text.specs.declared.name.Property.TheVariants.{Xmlns, ViewBox, Width, Height, Class, Role, X, Y, X1, Y1, X2, Y2, Transform}

-- the name of an element, in bytes
abbrev pub tag_name : Tag → List ℕ
tag_name Svg = codes "svg"
tag_name Style = codes "style"
tag_name Group = codes "g"
tag_name Title = codes "title"
tag_name Rect = codes "rect"
tag_name Line = codes "line"
tag_name Text = codes "text"

-- the name of an attribute
abbrev pub property_name : Property → List ℕ
property_name Xmlns = codes "xmlns"
property_name ViewBox = codes "viewBox"
property_name Width = codes "width"
property_name Height = codes "height"
property_name Class = codes "class"
property_name Role = codes "role"
property_name X = codes "x"
property_name Y = codes "y"
property_name X1 = codes "x1"
property_name Y1 = codes "y1"
property_name X2 = codes "x2"
property_name Y2 = codes "y2"
property_name Transform = codes "transform"
