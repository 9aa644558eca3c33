-- How an interrupt is named in texts (own choice).
use Rattle.std.specs.Prelude.{ℕ, ◌++◌, List, codes, decimal}
use Rattle.scn_base.specs.Words.{Key, Private, Spi, Lpi}

-- the name of an interrupt: the INTID, of a private one after its vCPU
abbrev pub name_text : Key → List ℕ
name_text (Private vcpu id) = codes "v" ++ decimal vcpu ++ codes ":" ++ decimal id
name_text (Spi id) = decimal id
name_text (Lpi id) = decimal id
