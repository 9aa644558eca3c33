-- Pieces of a part: steps that an actor makes while no scan is in progress, after which it is as far in its protocol as before (own choice).
use Rattle.std.specs.Prelude.{◌≡◌, Bool, true, false, IsTrue, List, [], map, is_none}
use Rattle.std.specs.List.{list_all}
use Rattle.std.specs.Option.{option_map_or}
use Rattle.floor_core.specs.Words.{is_number}
use Rattle.floor_core.specs.Core.{Made, CoreStep, Look, Claim, Poll, Touch, Want, TakeIndex, CommandDone, Irq, known, Seen, shape_of, seen_after, word_by, makes, Progress, progress_of, IsProper, seen_by, is_idle}

-- the steps of a part
abbrev pub steps_of : List Made → List CoreStep
steps_of part = map (λ made. made.step) part

-- none of them takes the ITS
abbrev pub takes_none : List Made → Bool
takes_none part = list_all (λ made. is_none made.tables) part

-- an actor's protocol so far is that of what its port tells, with no scan in progress
pub record IsIdle (seen : Seen) (p : Progress) : Type 0 where
  pub local : p.local ≡ seen.local
  pub own : p.own ≡ seen.own
  pub scan : IsTrue (is_idle p.scan)

-- an actor is as far in its protocol as before: besides its own state and its list only a failed claim may have been made good
pub record StaysSo (before after : Progress) : Type 0 where
  pub same : record after { local = before.local; own = before.own; failed = before.failed } ≡ before
  pub failed : IsTrue after.failed → IsTrue before.failed

-- what an actor does is proper, and leaves it as far in its protocol, with no scan in progress
pub record IsGoodPiece (seen : Seen) (p : Progress) (part : List Made) : Type 0 where
  pub proper : IsProper (shape_of seen) seen.actor p (map makes part)
  pub stays : StaysSo p (progress_of (shape_of seen) seen.actor p (map makes part))
  pub ends : IsIdle (seen_after seen part) (progress_of (shape_of seen) seen.actor p (map makes part))

-- so it is wherever the actor is in its protocol with no scan in progress
abbrev pub IsPiece : Seen → List Made → Type 0
IsPiece seen part = (p : Progress) → IsIdle seen p → IsGoodPiece seen p part

-- so it is where besides the actor asks for no interrupt, as where a command of the ITS ends
abbrev pub IsRestedPiece : Seen → List Made → Type 0
IsRestedPiece seen part = (p : Progress) → IsIdle seen p → p.wants ≡ [] → IsGoodPiece seen p part

-- a step of which the protocol asks nothing while no scan is in progress, but for the word that it expects
abbrev pub is_plain : CoreStep → Bool
is_plain (Look (Irq key)) = false
is_plain (Claim key seen) = false
is_plain (Poll reg write) = false
is_plain (Touch key seen kind) = false
is_plain (Want key) = false
is_plain (TakeIndex word) = false
is_plain (CommandDone offset stalled ending) = false
is_plain step = true

-- a step that goes by a word that was seen goes by the one that the actor's last step on it left
abbrev pub goes_by_known : Seen → CoreStep → Bool
goes_by_known seen step = option_map_or (λ word. is_number word (known (shape_of seen) seen.actor seen.own (word_by seen step))) (seen_by step) true
