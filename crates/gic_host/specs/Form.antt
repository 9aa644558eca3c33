-- The forms of steps: which field names each, and which fields it may have (own choice).
use Rattle.std.specs.Prelude.{List, [], ◌∷◌, Option, is_some, find, codes}
use Rattle.serde_json.specs.Data.{Data}
use Rattle.serde_json.specs.Find.{get}
use Rattle.scn_read.specs.Form.{FormRow}
use Rattle.gic_host.specs.declared.form.HostForm.{HostForm}
use Rattle.gic_host.specs.declared.form.HostForm.TheVariants.{Physical, Access, EnterPe, ExitPe, ShowPe}

-- the table of forms
abbrev pub row_of : HostForm → FormRow
row_of Physical = record { name = codes "phys"; fields = codes "phys" ∷ codes "set" ∷ [] }
row_of Access = record { name = codes "icc"; fields = codes "icc" ∷ codes "write" ∷ [] }
row_of EnterPe = record { name = codes "enter"; fields = codes "enter" ∷ [] }
row_of ExitPe = record { name = codes "exit"; fields = codes "exit" ∷ [] }
row_of ShowPe = record { name = codes "lrs"; fields = codes "lrs" ∷ [] }

abbrev pub forms : List HostForm
forms = Physical ∷ Access ∷ EnterPe ∷ ExitPe ∷ ShowPe ∷ []

-- the form that a step names. One that names two has a field that neither form has, whichever is taken
abbrev pub form_of : Data → Option HostForm
form_of d = find (λ form. is_some (get (row_of form).name d)) forms
