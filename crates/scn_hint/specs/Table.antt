-- What the fields of each kind of object hold, in the order of their names (own choice).
use Rattle.std.specs.Prelude.{List, [], ◌∷◌, Bool, true, false, if◌then◌else◌}
use Rattle.gic_host.specs.ScnRead.declared.form.Form.{Form}
use Rattle.gic_host.specs.ScnRead.declared.form.Form.TheVariants.{AccessRegister, AccessDistributor, AccessRedistributor, AccessIts, AccessMemory, SendMessage, MoveWire, SendMsi, EnterPe, ExitPe, ShowPe}
use Rattle.gic_host.specs.declared.form.HostForm.{HostForm}
use Rattle.gic_host.specs.declared.form.HostForm.TheVariants.{Physical, Access, EnterPe as LoadVcpu, ExitPe as UnloadVcpu, ShowPe as ShowLoaded}
use Rattle.scn_hint.specs.declared.field.Rule.{Rule}
use Rattle.scn_hint.specs.declared.field.Kind.{Kind}
use Rattle.scn_hint.specs.declared.field.Kind.TheVariants.{Number, Flag, Yes, Text, Pair, List as AList}

-- a field that has to be there; one that need not
abbrev pub must : Kind → Rule
must kind = record { kind = kind; needed = true }

abbrev pub may : Kind → Rule
may kind = record { kind = kind; needed = false }

-- of a scenario: pes, lrs, guests, steps
abbrev pub scenario_rules : List Rule
scenario_rules = may Number ∷ may Number ∷ must AList ∷ must AList ∷ []

-- of a guest: vcpus, spis, espis, devices, lpis, ram, on, irqs
abbrev pub guest_rules : List Rule
guest_rules = may Number ∷ may Number ∷ may Number ∷ may Number ∷ may Number ∷ may Number ∷ may Flag ∷ may AList ∷ []

-- of a preset: id, prio, edge, group, and vcpu of a private interrupt, or to of a shared one
abbrev pub preset_rules : Bool → List Rule
preset_rules is_private = must Number ∷ may Number ∷ may Flag ∷ may Number ∷ (if is_private then must Number else may Number) ∷ []

-- of a step of a form, in the order of its row
abbrev pub rules_of : Form → List Rule
rules_of AccessRegister = must Pair ∷ must Text ∷ may Number ∷ []
rules_of AccessDistributor = must Pair ∷ must Number ∷ may Number ∷ may Number ∷ []
rules_of AccessRedistributor = must Pair ∷ must Number ∷ must Number ∷ may Number ∷ may Number ∷ []
rules_of AccessIts = must Pair ∷ must Number ∷ may Number ∷ may Number ∷ []
rules_of AccessMemory = must Pair ∷ must Number ∷ may Number ∷ may Number ∷ []
rules_of SendMessage = must Pair ∷ must Number ∷ []
rules_of MoveWire = must Pair ∷ must Number ∷ must Flag ∷ may Number ∷ []
rules_of SendMsi = must Pair ∷ must Pair ∷ []
rules_of EnterPe = must Number ∷ must Pair ∷ []
rules_of ExitPe = must Number ∷ must Yes ∷ []
rules_of ShowPe = must Number ∷ must Yes ∷ []

-- of links and their steps: vcpus, lrs, links, steps; of a link: phys, vid, vcpu, prio
abbrev pub host_rules : List Rule
host_rules = must Number ∷ must Number ∷ must AList ∷ must AList ∷ []

abbrev pub link_rules : List Rule
link_rules = must Number ∷ must Number ∷ must Number ∷ must Number ∷ []

-- of a step with links, of a form, in the order of its row
abbrev pub host_step_rules : HostForm → List Rule
host_step_rules Physical = must Number ∷ may Text ∷ []
host_step_rules Access = must Text ∷ may Number ∷ []
host_step_rules LoadVcpu = must Number ∷ []
host_step_rules UnloadVcpu = must Yes ∷ []
host_step_rules ShowLoaded = must Yes ∷ []
