-- What a guest may have (own choice of the limits; blocks of 32 are those of GICD_TYPER.ITLinesNumber and ESPI_range in IHI 0069).
use Rattle.std.specs.Prelude.{ℕ, ◌≡◌, ◌≤◌, ◌%◌}
use Rattle.gic_base.specs.declared.shape.GuestShape.{GuestShape}

-- the most vCPUs that a guest has: their numbers are below this
abbrev pub max_vcpus : ℕ
max_vcpus = 32

-- each number of the shape is in its range
pub record IsShape (shape : GuestShape) : Type 0 where
  pub some_vcpu : 1 ≤ shape.vcpus
  pub vcpus : shape.vcpus ≤ max_vcpus
  pub spis : shape.spis ≤ 960
  pub spi_blocks : shape.spis % 32 ≡ 0
  pub espis : shape.espis ≤ 1024
  pub espi_blocks : shape.espis % 32 ≡ 0
  pub devices : shape.devices ≤ 4
  pub lpis : shape.lpis ≤ 4096
  pub ram : shape.ram ≤ 16777216
  pub ram_words : shape.ram % 8 ≡ 0
