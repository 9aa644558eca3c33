-- What the reading of an image answers (own choice).
use Rattle.std.specs.Prelude.{◌≡◌, ⊤, true, length, Result, MatchResult}
use Rattle.serde_json.specs.Data.{Data}
use Rattle.scn_read.specs.declared.refusal.ReadRefusal.{ReadRefusal}
use Rattle.scn_read.specs.declared.refusal.ReadRefusal.TheVariants.{Bad, NoMemory}
use Rattle.saved_check.specs.SavedGuest.ScnSaved.declared.saved.Saved.{Saved}
use Rattle.saved_check.specs.SavedGuest.Whole.{IsValidRun}
use Rattle.gic_resume.specs.Kind.{is_image}
use Rattle.gic_resume.specs.Reading.{IsHeadOf, IsNoImage, steps_at}

-- a refusal is the fault of a value that is no image, or for memory
abbrev pub Refuses : Data → ReadRefusal → Type 0
Refuses d (Bad fault) = IsNoImage d fault
Refuses d NoMemory = ⊤

-- this run is answered, where memory is granted
abbrev pub IsOnly : Saved → Result Saved ReadRefusal → Type 0
IsOnly saved result = MatchResult result (λ found. found ≡ saved) (λ refusal. refusal ≡ NoMemory)

-- a value has the shape of an image, and tells this valid run but for its steps
pub record IsTold (d : Data) (saved : Saved) : Type 0 where
  pub shape : is_image d ≡ true
  pub head : IsHeadOf d saved
  pub valid : IsValidRun (length (steps_at d)) saved
