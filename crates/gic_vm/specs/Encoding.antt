-- The encodings of the CPU interface registers, op0:op1:CRn:CRm:op2 (IHI 0069, "AArch64 System register descriptions"). ICC_SGI0R_EL1 and ICC_ASGI1R_EL1 are
-- not there, and of the active priorities there is one register a group (own choices).
use Rattle.std.specs.Prelude.{ℕ, ◌==◌, ◌&&◌, Bool, List, [], ◌∷◌, find, Option}
use Rattle.std.specs.Option.{option_map}
use Rattle.ideal_guest.specs.Words.{IccReg, Iar0, Iar1, Hppir0, Hppir1, Eoir0, Eoir1, Dir, Rpr, Pmr, Bpr0, Bpr1, Ctlr, Igrpen0, Igrpen1, Ap0r0, Ap1r0, Sgi1r, Sre}
use Rattle.gic_vm.specs.declared.encoding.Encoding.{Encoding}

-- the encoding of these five numbers
abbrev pub encoded : ℕ → ℕ → ℕ → ℕ → ℕ → Encoding
encoded op0 op1 crn crm op2 = record { op0 = op0; op1 = op1; crn = crn; crm = crm; op2 = op2 }

-- each register with its encoding
abbrev pub encodings : List (Encoding × IccReg)
encodings =
    (encoded 3 0 4 6 0, Pmr)
    ∷ (encoded 3 0 12 8 0, Iar0)
    ∷ (encoded 3 0 12 8 1, Eoir0)
    ∷ (encoded 3 0 12 8 2, Hppir0)
    ∷ (encoded 3 0 12 8 3, Bpr0)
    ∷ (encoded 3 0 12 8 4, Ap0r0)
    ∷ (encoded 3 0 12 9 0, Ap1r0)
    ∷ (encoded 3 0 12 11 1, Dir)
    ∷ (encoded 3 0 12 11 3, Rpr)
    ∷ (encoded 3 0 12 11 5, Sgi1r)
    ∷ (encoded 3 0 12 12 0, Iar1)
    ∷ (encoded 3 0 12 12 1, Eoir1)
    ∷ (encoded 3 0 12 12 2, Hppir1)
    ∷ (encoded 3 0 12 12 3, Bpr1)
    ∷ (encoded 3 0 12 12 4, Ctlr)
    ∷ (encoded 3 0 12 12 5, Sre)
    ∷ (encoded 3 0 12 12 6, Igrpen0)
    ∷ (encoded 3 0 12 12 7, Igrpen1)
    ∷ []

-- the two encodings are one
abbrev pub is_same_encoding : Encoding → Encoding → Bool
is_same_encoding a b = a.op0 == b.op0 && a.op1 == b.op1 && a.crn == b.crn && a.crm == b.crm && a.op2 == b.op2

-- the register that has this encoding
abbrev pub register_at : Encoding → Option IccReg
register_at encoding = option_map (λ row. row.1) (find (λ row. is_same_encoding row.0 encoding) encodings)
