-- Changes of which a vCPU is still to be told (own choice).
use Rattle.std.specs.Prelude.{ℕ, ◌<◌, ◌==◌, ◌&&◌, Bool, false, IsTrue, List, is_some}
use Rattle.std.specs.Option.{option_map_or}
use Rattle.law_registers_stand.specs.Words.{Key, GuestShape}
use Rattle.law_registers_stand.specs.Histories.{Turn, Track, doing_of, changes_of, IdealGuest}
use Rattle.law_registers_stand.specs.Core.{actor_count, CoreState, opening, seat_at, ideal_of, CoreMoment}
use Rattle.law_registers_stand.specs.Followed.{Followed, followed_by}
use Rattle.law_scans_miss_none.specs.Index.{owes_kick}

-- at the end of a run
abbrev pub followed_in : IdealGuest → ℕ → List CoreMoment → Followed
followed_in guest number moments = followed_by guest (ideal_of guest.shape (opening guest number) moments)

-- a call, or a command of one, goes on
abbrev pub is_current : Track → Turn → Bool
is_current track turn = let doing = doing_of track turn.actor in is_some doing.operation && doing.number == turn.number

-- an actor changed an interrupt last, in the call or the command that it is in
abbrev pub changed_last : GuestShape → Track → Key → ℕ → Bool
changed_last shape track key actor = option_map_or (λ turn. turn.actor == actor && is_current track turn) (changes_of shape track key).last false

-- a vCPU is still to be told of the last change of an interrupt: the actor that made it is in that call, and owes the vCPU a kick
pub record IsExcused (shape : GuestShape) (state : CoreState) (track : Track) (vcpu : ℕ) (key : Key) : Type 0 where
  pub actor : ℕ
  pub there : actor < actor_count shape
  pub last : IsTrue (changed_last shape track key actor)
  pub owes : IsTrue (owes_kick vcpu (seat_at state actor).local)
