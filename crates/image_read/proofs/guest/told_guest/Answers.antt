use Rattle.std.proofs.Common.{◌∙◌, Some, sym}
use Rattle.std.proofs.lemmas.Option.{none-some, same_Some}
use Rattle.serde_json.specs.View.{view}
use Rattle.image_read.proofs.GuestLemmas.{tells, can_stand, can_be_mapped, registers_of, tables_of}
use Rattle.image_read.proofs.guest.told_guest.Goals as goal

pub returns-in_default-clause-only : goal.returns-in_default-clause-only
returns-in_default-clause-only c guest state good valid e =
    let told = tells (view c.args.value.now) guest state e in
    absurd (none-some guest (sym c.in_default.is ∙ c.in_ok-spec.ensures.only guest good told.spec))

pub returns-in_default-2-clause-only : goal.returns-in_default-2-clause-only
returns-in_default-2-clause-only c guest state good valid e =
    let told = tells (view c.args.value.now) guest state e in
    absurd (none-some (registers_of state) (sym c.in_default-2.is ∙ c.in_ok-registers.ensures.only guest.shape (registers_of state) good.shape (can_stand guest state valid) told.registers))

pub returns-in_default-3-clause-only : goal.returns-in_default-3-clause-only
returns-in_default-3-clause-only c guest state good valid e =
    let told = tells (view c.args.value.now) guest state e in
    absurd (none-some (tables_of state) (sym c.in_default-3.is ∙ c.in_ok-tables.ensures.only guest.shape (tables_of state) good.shape (can_be_mapped guest state good valid) told.tables))

pub returns-clause-only : goal.returns-clause-only
returns-clause-only c guest state good valid e =
    let told = tells (view c.args.value.now) guest state e in
    let spec = same_Some c.in-Some.spec guest (sym c.in-Some.is ∙ c.in_ok-spec.ensures.only guest good told.spec) in
    let registers = same_Some c.in-Some-2.registers (registers_of state) (sym c.in-Some-2.is ∙ c.in_ok-registers.ensures.only guest.shape (registers_of state) good.shape (can_stand guest state valid) told.registers) in
    let tables = same_Some c.in-Some-3.tables (tables_of state) (sym c.in-Some-3.is ∙ c.in_ok-tables.ensures.only guest.shape (tables_of state) good.shape (can_be_mapped guest state good valid) told.tables) in
    λ i. Some (
      spec i,
      record {
        gicd = (registers i).gicd;
        cpu = (registers i).cpu;
        rec = (registers i).rec;
        redist = (registers i).redist;
        its = (tables i).its;
        dev = (tables i).dev;
        evt = (tables i).evt;
        col = (tables i).col;
        ram = (tables i).ram;
      },
    )
