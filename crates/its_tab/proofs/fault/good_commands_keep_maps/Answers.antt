use Rattle.its_tab.proofs.AfterLemmas.{kept_valid}
use Rattle.its_tab.proofs.fault.good_commands_keep_maps.Goals as goal

pub returns : goal.returns
returns c = kept_valid
