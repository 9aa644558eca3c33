-- What a change makes of the interrupts at an interface.
use Rattle.std.specs.Prelude.{Bool, true, false, List, map, if◌then◌else◌}
use Rattle.core_words.specs.Words.{is_same_key, intid_of, is_number}
use Rattle.port_core.specs.declared.at_list.AtIrq.{AtIrq}
use Rattle.port_core.specs.declared.at_list.Which.{Which}
use Rattle.port_core.specs.declared.at_list.Which.TheVariants.{Key as OfKey, Id as OfId}
use Rattle.port_core.specs.declared.at_list.Change.{Change}
use Rattle.port_core.specs.declared.at_list.Change.TheVariants.{Given, Brings, Acknowledged, Deactivated}
use Rattle.port_core.specs.Local.{with_entry}
use Rattle.port_core.specs.After.{acknowledged_entry, deactivated_entry}

-- an interrupt is meant
abbrev pub is_which : Which → AtIrq → Bool
is_which (OfKey key) at = is_same_key at.key key
is_which (OfId id) at = is_number (intid_of at.key) id

-- a change of one
abbrev pub changed_by : Change → AtIrq → AtIrq
changed_by Given at = record at { given = true }
changed_by (Brings entry) at = record (with_entry at entry) { consumed = false }
changed_by Acknowledged at = acknowledged_entry at
changed_by Deactivated at = deactivated_entry at

-- the same where it is meant
abbrev pub changed_if : (AtIrq → Bool) → (AtIrq → AtIrq) → AtIrq → AtIrq
changed_if is_meant change at = if is_meant at then change at else at

-- a change of those that are meant
abbrev pub changed_where : (AtIrq → Bool) → (AtIrq → AtIrq) → List AtIrq → List AtIrq
changed_where is_meant change at = map (changed_if is_meant change) at
