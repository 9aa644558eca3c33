-- A port stays the same actor's.
use Rattle.std.proofs.Common.{List, refl, ap, ◌∙◌}
use Rattle.port_core.specs.declared.run.Made.{Made}
use Rattle.port_core.specs.Port.{Seen, Adds, IsSameActor}

pub same_here : (seen : Seen) → IsSameActor seen seen
same_here seen = record { home = refl; guest = refl; number = refl; actor = refl }

-- after a call that adds a part
pub same_after : (old new : Seen) (part : List Made) → Adds old new part → IsSameActor old new
same_after old new part adds =
    let is = adds.new_is in record { home = ap (λ seen. seen.home) is; guest = ap (λ seen. seen.guest) is; number = ap (λ seen. seen.number) is; actor = ap (λ seen. seen.actor) is }

-- after one call and another
pub same_twice : (one two three : Seen) → IsSameActor one two → IsSameActor two three → IsSameActor one three
same_twice one two three a b = record { home = b.home ∙ a.home; guest = b.guest ∙ a.guest; number = b.number ∙ a.number; actor = b.actor ∙ a.actor }
