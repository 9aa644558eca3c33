use Rattle.std.proofs.Common.{◌≡◌, rules, sym, subst}
use Rattle.svg_text.specs.Tree.{node_text}
use Rattle.svg_text.specs.Content.{IsContent}
use Rattle.svg_text.proofs.ContentLemmas.{content_of}
use Rattle.svg_text.proofs.write.text.Goals as goal

pub returns-clause-content : goal.returns-clause-content
returns-clause-content c =
    let written : c.write_node.new.out.items ≡ node_text c.args.node.now = search rules in
    subst IsContent (sym written) (content_of c.args.node.now)
