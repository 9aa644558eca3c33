use Rattle.std.proofs.Common.{◌≡◌, ◌++◌, drop}
use Rattle.std.specs.List.{flat_map}
use Rattle.svg_text.specs.Tree.{end_of, node_text}
use Rattle.svg_text.proofs.write.+write_node.Given as goal

-- what is written, the other children and the end are all
abbrev pub invariant-loop-child : goal.invariant-loop-child
invariant-loop-child l = l.out.items ++ (flat_map node_text (drop l.child-index l.child-items) ++ end_of l.tag) ≡ l.fn.out.items ++ node_text l.node
