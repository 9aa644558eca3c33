use Rattle.std.proofs.Common.{rules, sym, ap, ◌∙◌, ◌++◌, vec_len}
use Rattle.svg_text.specs.Tree.{node_text}
use Rattle.svg_text.proofs.Texts.{after_start}
use Rattle.svg_text.proofs.write.+write_node.Goals as goal

pub loop-child-init : goal.loop-child-init
loop-child-init t c =
    let element = c.in-Element in
    after_start c.args.out.now.items c.write_start.new.out.items _ element.tag element.attributes element.children c.deref-child-items.result.now (vec_len element.children)
    (search rules) (search rules) (search rules) (search rules) (search rules)
    ∙ ap (λ node. c.args.out.now.items ++ node_text node) (sym element.is)
