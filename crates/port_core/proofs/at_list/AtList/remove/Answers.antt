use Rattle.std.proofs.Common.{not, rules, ap, ◌∙◌}
use Rattle.arrayvec.proofs.ArrayVecLemmas.{filter-from_retain}
use Rattle.core_words.specs.Words.{is_same_key}
use Rattle.port_core.specs.Local.{without_at}
use Rattle.port_core.proofs.at_list.AtList.remove.Goals as goal

pub returns : goal.returns
returns c =
    filter-from_retain _ (λ entry. not (is_same_key entry.key c.args.key)) _ (λ x b f' y called. search rules) _ _ c.retain.ensures.filtered
    ∙ ap (without_at c.args.key) (search rules)
