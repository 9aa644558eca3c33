-- An operation of a vCPU, as a part of its own.
use Rattle.std.proofs.Common.{Option, ℕ}
use Rattle.gic_msi.specs.Words.{GuestOp}
use Rattle.gic_msi.specs.Calls.{Access}
use Rattle.pe_op.specs.VcpuState.declared.loaded.Loaded.{Loaded}
use Rattle.gic_msi.specs.Core.{Seen}
use Rattle.pe_op.specs.Operation.{DoesOperation}
use Rattle.pe_place.specs.declared.place.Place.TheVariants.{Pe}
use Rattle.pe_place.specs.Parts.{Part, AreOneCall}
use Rattle.pe_place.specs.Moves.{Moves}
use Rattle.pe_place.proofs.KindLemmas.{only_call}
use Rattle.pe_place.proofs.MoveLemmas.{moves_once}

pub moves_by : (old new : Seen) (op : GuestOp) (before after : Loaded) (answer : Option ℕ) → DoesOperation old new op before after answer → Moves (AreOneCall old.actor (Access op) answer) old new (Pe before) (Pe after)
moves_by old new op before after answer does =
    let part : Part = record { operation = Access op; lrs = before.regs.n; steps = does.part; answer = answer } in
    moves_once (AreOneCall old.actor (Access op) answer) old new (Pe before) (Pe after) part (only_call old.actor part) (λ n one two. one) does.adds (record { made = does.call; found = does.found }) does.proper does.goes_on does.up
