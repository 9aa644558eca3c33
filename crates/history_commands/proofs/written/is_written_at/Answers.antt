use Rattle.std.proofs.Common.{ℕ, ◌≡◌, ◌↔◌, IsTrue}
use Rattle.std.proofs.lemmas.Result.{IfOk-weaker}
use Rattle.history_commands.specs.GicImap.Map.{decoded as its_decoded}
use Rattle.history_commands.specs.Mapped.{mapped_by, targets_by}
use Rattle.history_commands.specs.Stage.{Follow}
use Rattle.history_commands.specs.Followed.{stage_from}
use Rattle.history_commands.specs.Writing.{IsWrittenAt}
use Rattle.history_commands.proofs.RegisterLemmas.{written_decided}
use Rattle.history_commands.proofs.written.is_written_at.Goals as goal

pub returns : goal.returns
returns c =
    let shape = c.args.shape.now in
    let maps = mapped_by c.args.shape.now c.args.done.now in
    let targets = targets_by c.args.commands.now in
    IfOk-weaker c.follows.result (λ ok. IsTrue ok ↔ Follow shape targets c.args.actor c.args.is_open (stage_from maps c.its_start-start.result) c.args.later.now)
    (λ made. (offset size : ℕ) → c.args.reference ≡ its_decoded offset size → IsTrue made ↔ IsWrittenAt shape maps targets c.args.actor offset size c.args.value c.args.is_open c.args.written.now c.args.later.now)
    (λ ok so offset size same. written_decided shape maps targets c.args.actor c.args.reference c.args.value c.args.is_open c.args.written.now c.args.later.now offset size same c.its_start-start.result c.its_start-start.ensures c.in_ok-is_made.is_made ok c.if-not-is_made.false c.in_ok-is_made.ensures so) c.follows.ensures
