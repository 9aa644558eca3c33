use Rattle.svg_text.proofs.ContentLemmas.{content_of}
use Rattle.svg_text.proofs.laws.texts_are_content.Goals as goal

pub returns : goal.returns
returns c node = content_of node
