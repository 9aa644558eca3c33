use Rattle.std.proofs.Common.{◌≡◌, ◌++◌, drop}
use Rattle.std.specs.List.{flat_map}
use Rattle.svg_text.specs.Tree.{attribute_text}
use Rattle.svg_text.proofs.write.write_attributes.Given as goal

-- what is written and the others are all
abbrev pub invariant-loop-attribute : goal.invariant-loop-attribute
invariant-loop-attribute l = l.out.items ++ flat_map attribute_text (drop l.attribute-index l.attributes) ≡ l.fn.out.items ++ flat_map attribute_text l.attributes
