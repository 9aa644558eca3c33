-- The forms of steps: which field names each, and which fields it may have (own choice).
use Rattle.std.specs.Prelude.{ℕ, List, [], ◌∷◌, Option, is_some, find, codes}
use Rattle.serde_json.specs.Data.{Data}
use Rattle.serde_json.specs.Find.{get}
use Rattle.scn_read.specs.declared.form.Form.{Form}
use Rattle.scn_read.specs.declared.form.Form.TheVariants.{AccessRegister, AccessDistributor, AccessRedistributor, AccessIts, AccessMemory, SendMessage, MoveWire, SendMsi, EnterPe, ExitPe, ShowPe}

-- the field that names a form, and all fields that a step of it may have
pub record FormRow : Type 0 where
  pub name : List ℕ
  pub fields : List (List ℕ)

-- the table of forms
abbrev pub row_of : Form → FormRow
row_of AccessRegister = record { name = codes "icc"; fields = codes "vcpu" ∷ codes "icc" ∷ codes "write" ∷ [] }
row_of AccessDistributor = record { name = codes "gicd"; fields = codes "vcpu" ∷ codes "gicd" ∷ codes "size" ∷ codes "write" ∷ [] }
row_of AccessRedistributor = record { name = codes "gicr"; fields = codes "vcpu" ∷ codes "gicr" ∷ codes "of" ∷ codes "size" ∷ codes "write" ∷ [] }
row_of AccessIts = record { name = codes "gits"; fields = codes "vcpu" ∷ codes "gits" ∷ codes "size" ∷ codes "write" ∷ [] }
row_of AccessMemory = record { name = codes "ram"; fields = codes "vcpu" ∷ codes "ram" ∷ codes "size" ∷ codes "write" ∷ [] }
row_of SendMessage = record { name = codes "message"; fields = codes "dev" ∷ codes "message" ∷ [] }
row_of MoveWire = record { name = codes "wire"; fields = codes "dev" ∷ codes "wire" ∷ codes "up" ∷ codes "vcpu" ∷ [] }
row_of SendMsi = record { name = codes "msi"; fields = codes "dev" ∷ codes "msi" ∷ [] }
row_of EnterPe = record { name = codes "enter"; fields = codes "pe" ∷ codes "enter" ∷ [] }
row_of ExitPe = record { name = codes "exit"; fields = codes "pe" ∷ codes "exit" ∷ [] }
row_of ShowPe = record { name = codes "lrs"; fields = codes "pe" ∷ codes "lrs" ∷ [] }

-- all forms
abbrev pub forms : List Form
forms = AccessRegister ∷ AccessDistributor ∷ AccessRedistributor ∷ AccessIts ∷ AccessMemory ∷ SendMessage ∷ MoveWire ∷ SendMsi ∷ EnterPe ∷ ExitPe ∷ ShowPe ∷ []

-- the form that a step names. One that names two has a field that neither form has, whichever is taken
abbrev pub form_of : Data → Option Form
form_of d = find (λ form. is_some (get (row_of form).name d)) forms
