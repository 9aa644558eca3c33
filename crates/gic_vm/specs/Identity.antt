-- What a machine tells of itself beside the ideal controller's registers (own choice).
use Rattle.std.specs.Prelude.{ℕ, ◌+◌, ◌*◌, ◌^◌, ◌==◌, ◌||◌, Bool, IsTrue, Option, is_some, unwrap_or, find}
use Rattle.std.specs.List.{range_with_len}
use Rattle.ideal_guest.specs.Words.{GuestShape, IsShape}
use Rattle.ideal_guest.specs.GicDmap.Contents.{typer_of}

-- the number n of which there are 2 ^ (n + 1) LPIs (IHI 0069, GICD_TYPER.num_LPIs)
abbrev pub lpis_number : ℕ → Option ℕ
lpis_number lpis = find (λ number. 2 ^ (number + 1) == lpis) (range_with_len 1 11)

-- a machine has no LPIs, or as many as num_LPIs can tell
abbrev pub is_lpi_count : ℕ → Bool
is_lpi_count lpis = lpis == 0 || is_some (lpis_number lpis)

-- what a machine may have
pub record IsMachineShape (shape : GuestShape) : Type 0 where
  pub in_range : IsShape shape
  pub few_lpis : IsTrue (is_lpi_count shape.lpis)

-- GICD_TYPER: the ideal controller's, and num_LPIs [15:11], which is 0 there
abbrev pub typer_told : GuestShape → ℕ
typer_told shape = typer_of shape + unwrap_or (lpis_number shape.lpis) 0 * 2 ^ 11
