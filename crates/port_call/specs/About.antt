-- Steps about one interrupt, of a call that names it.
use Rattle.std.specs.Prelude.{◌≡◌, Bool, true, false, IsTrue, List, [], ◌++◌, map}
use Rattle.std.specs.List.{list_all}
use Rattle.std.specs.Option.{option_map_or}
use Rattle.floor_core.specs.Words.{Key, is_same_key}
use Rattle.floor_core.specs.Core.{Made, CoreStep, Look, Raise, Touch, Want, Mark, Kick, Irq, Seen, shape_of, seen_after, makes, Progress, is_end_of, progress_of, IsProper, may_name}
use Rattle.port_call.specs.Piece.{steps_of, takes_none, IsIdle, StaysSo}

-- a look at the interrupt, a change of it, a step that asks for it, a mark of it, or a kick
abbrev pub is_about : Key → CoreStep → Bool
is_about key (Look (Irq other)) = is_same_key key other
is_about key (Raise other) = is_same_key key other
is_about key (Touch other seen kind) = is_same_key key other
is_about key (Want other) = is_same_key key other
is_about key (Mark other vcpu) = is_same_key key other
is_about key (Kick vcpu) = true
is_about key step = false

-- all steps of a part are about it
abbrev pub are_about : Key → List Made → Bool
are_about key part = list_all (is_about key) (steps_of part)

-- an actor's call names the interrupt, whatever its steps about that find, and does not end it
pub record IsNaming (seen : Seen) (p : Progress) (key : Key) : Type 0 where
  pub names_it :
      (part : List Made) → IsTrue (are_about key part) → IsTrue (takes_none part)
      → IsTrue (option_map_or (λ operation. may_name (shape_of seen) seen.actor (seen.own ++ part) operation key) p.operation false)
  pub ends_other : is_end_of (shape_of seen) seen.actor p.operation key ≡ false

-- what an actor does is proper, and leaves it as far in its protocol, with no scan in progress, and asking for no interrupt
pub record IsServed (seen : Seen) (p : Progress) (part : List Made) : Type 0 where
  pub proper : IsProper (shape_of seen) seen.actor p (map makes part)
  pub stays : StaysSo (record p { wants = [] }) (progress_of (shape_of seen) seen.actor p (map makes part))
  pub ends : IsIdle (seen_after seen part) (progress_of (shape_of seen) seen.actor p (map makes part))

-- so it is wherever no scan is in progress, the call names the interrupt, and the actor asks for no other
abbrev pub IsNamedPiece : Seen → Key → List Made → Type 0
IsNamedPiece seen key part = (p : Progress) → IsIdle seen p → IsNaming seen p key → IsTrue (list_all (is_same_key key) p.wants) → IsServed seen p part

-- the actor is as far as before, and asks for this interrupt alone
pub record StaysAsking (key : Key) (before after : Progress) : Type 0 where
  pub same : record after { local = before.local; own = before.own; failed = before.failed; wants = before.wants } ≡ before
  pub failed : IsTrue after.failed → IsTrue before.failed
  pub wants : IsTrue (list_all (is_same_key key) before.wants) → IsTrue (list_all (is_same_key key) after.wants)

-- what it does is proper, and leaves it so
pub record IsGoodTry (seen : Seen) (p : Progress) (key : Key) (part : List Made) : Type 0 where
  pub proper : IsProper (shape_of seen) seen.actor p (map makes part)
  pub stays : StaysAsking key p (progress_of (shape_of seen) seen.actor p (map makes part))
  pub ends : IsIdle (seen_after seen part) (progress_of (shape_of seen) seen.actor p (map makes part))

-- so it is wherever no scan is in progress and the call names the interrupt
abbrev pub IsTry : Seen → Key → List Made → Type 0
IsTry seen key part = (p : Progress) → IsIdle seen p → IsNaming seen p key → IsGoodTry seen p key part
