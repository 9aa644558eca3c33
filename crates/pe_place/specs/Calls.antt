-- Which calls the parts of an actor are (own choice).
use Rattle.std.specs.Prelude.{List, [], ◌∷◌}
use Rattle.law_serial_is_eager.specs.LawEagerIsHistory.Calls.{Made, made_of}
use Rattle.pe_place.specs.Parts.{Part}

-- the operations of some parts with what they answer, but for those with which a vCPU enters a PE, leaves one, or looks whether it was kicked
abbrev pub calls_in : List Part → List Made
calls_in [] = []
calls_in (part ∷ parts) = made_of part.operation part.answer (calls_in parts)
