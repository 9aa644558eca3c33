use Rattle.std.proofs.Common.{ℕ, ◌↔◌, IsTrue, Option, [], ◌∷◌, sym, ◌∙◌, subst}
use Rattle.std.specs.Option.{option_map_or}
use Rattle.history_commands.specs.Calls.{View, memory_places, byte_places, Propbaser}
use Rattle.history_commands.specs.GicCall.declared.event.Place.TheVariants.{Word}
use Rattle.history_commands.specs.HistoryCalls.Found.{found_by}
use Rattle.history_commands.specs.Registers.{config_address}
use Rattle.history_commands.specs.Mapped.{targets_by}
use Rattle.history_commands.specs.Stage.{AreReadBy}
use Rattle.history_commands.specs.Calls.{Part}
use Rattle.history_commands.proofs.touch.is_byte_read.Goals as goal

pub returns-in-Map : goal.returns-in-Map
returns-in-Map c =
    let view : View = found_by c.args.reads.now in
    let targets : ℕ → Option ℕ = targets_by c.args.commands.now c.args.number in
    subst (λ (part : Part). IsTrue c.is_config_read.result ↔ AreReadBy view c.args.reads.now (byte_places c.args.shape.now view targets part)) (sym c.in-Map.is) (c.is_config_read.ensures targets)

pub returns-in-Some : goal.returns-in-Some
returns-in-Some c =
    let view : View = found_by c.args.reads.now in
    let targets : ℕ → Option ℕ = targets_by c.args.commands.now c.args.number in
    subst (λ (part : Part). IsTrue c.is_config_read-in-Some.result ↔ AreReadBy view c.args.reads.now (byte_places c.args.shape.now view targets part)) (sym c.in-Configure.is)
    (subst
    (λ (o : Option ℕ). IsTrue c.is_config_read-in-Some.result ↔ AreReadBy view c.args.reads.now (option_map_or (λ (vcpu : ℕ). Word (Propbaser vcpu) ∷ memory_places c.args.shape.now (config_address (view.words (Propbaser vcpu)) c.in-Configure.lpi) 1) o []))
    (sym c.in-Some.is ∙ c.target_of.ensures) (c.is_config_read-in-Some.ensures targets))
