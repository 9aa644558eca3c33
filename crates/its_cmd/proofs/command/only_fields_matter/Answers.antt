use Rattle.its_cmd.proofs.RowLemmas.{only_fields}
use Rattle.its_cmd.proofs.command.only_fields_matter.Goals as goal

pub returns : goal.returns
returns c = only_fields
