use Rattle.std.proofs.Common.{◌≡◌}
use Rattle.floor_calls.specs.Words.{is_number}
use Rattle.floor_calls.specs.Registers.{collection_of}
use Rattle.floor_calls.specs.GicCall.declared.command.Part.TheVariants.{Configure}
use Rattle.ideal_guest.proofs.SweepLemmas.{Sweeps}
use Rattle.ideal_guest.proofs.guest.IdealGuest.configure_all.Given as goal

-- the LPIs before this one are done
abbrev pub invariant-loop-number : goal.invariant-loop-number
invariant-loop-number l = record { end : l.number-end ≡ l.fn.self.shape.lpis; so_far : Sweeps l.fn.self (λ id. is_number l.icid (collection_of l.fn.self.tables id)) Configure l.number l.self }
