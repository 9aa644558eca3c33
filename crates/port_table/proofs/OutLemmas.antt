-- Which actors are out, as they are split off and joined again.
use Rattle.std.proofs.Common.{ℕ, zero, suc, ◌==◌, false, All, List, [], ◌∷◌, ◌++◌, inl, inr, sym, ◌∙◌, arith}
use Rattle.std.proofs.lemmas.Bool.{or_left, or_right, or_cases}
use Rattle.port_ops.specs.PortCore.declared.run.Made.{Made}
use Rattle.port_table.specs.declared.view.Account.{Account}
use Rattle.port_table.specs.Out.{AreOut}
use Rattle.port_table.specs.Told.{WordsTold, RootTold, HasNoTurn, IsDone, opening_root, with_split, with_joined}
use Rattle.port_table.specs.View.{is_among, is_back, with_account}
use Rattle.port_table.proofs.AmongLemmas.{among_push, back_push}

-- as a guest opens none is out
pub out_opens : (words : WordsTold) → AreOut words (opening_root words) []
out_opens words = record { back = λ actor h. absurd (cc); idle = λ k d h. absurd (omega (arith, h)) }

-- one that is split off is out
pub out_split : (words : WordsTold) (root : RootTold) (out : List ℕ) (one : ℕ) → AreOut words root out → AreOut words (with_split one root) (one ∷ out)
out_split words root out one are =
    record {
      back = λ actor h.
          elim (or_cases (is_among actor root.split) (one == actor) (sym (among_push actor one root.split) ∙ h)) [
            | inl before ↦
                elim (or_cases (is_back actor root.joined) (is_among actor out) (are.back actor before)) [
                  | inl back ↦ or_left (is_back actor root.joined) (is_among actor (one ∷ out)) back
                  | inr still ↦ or_right (is_back actor root.joined) (is_among actor (one ∷ out)) (or_right (one == actor) (is_among actor out) still)
                ]
            | inr same ↦ or_right (is_back actor root.joined) (is_among actor (one ∷ out)) (or_left (one == actor) (is_among actor out) same)
          ];
      idle = are.idle;
    }

all_push : (P : Account → Type 0) (joined : List Account) (one : Account) → All P joined → P one → All P (joined ++ one ∷ [])
all_push P [] one all here zero d h = here
all_push P [] one all here (suc k) d h = absurd (omega (arith, h))
all_push P (first ∷ joined) one all here zero d h = all 0 d (omega arith)
all_push P (first ∷ joined) one all here (suc k) d h = all_push P joined one (λ n e g. all (suc n) e (omega (arith, g))) here k d (omega (arith, h))

-- one that is joined again is not, where it has not the ITS
pub out_join : (words : WordsTold) (root : RootTold) (out : List ℕ) (one : ℕ) (own : List Made) → AreOut words root (one ∷ out) → HasNoTurn words (record { actor = one; own = own }) → AreOut words (with_joined one own root) out
out_join words root out one own are idle =
    record {
      back = λ actor h.
          elim (or_cases (is_back actor root.joined) (is_among actor (one ∷ out)) (are.back actor h)) [
            | inl back ↦
                or_left (is_back actor (with_account one own root.joined)) (is_among actor out) (back_push actor one own root.joined ∙ or_left (is_back actor root.joined) (one == actor) back)
            | inr still ↦
                elim (or_cases (one == actor) (is_among actor out) still) [
                  | inl same ↦
                      or_left (is_back actor (with_account one own root.joined)) (is_among actor out) (back_push actor one own root.joined ∙ or_right (is_back actor root.joined) (one == actor) same)
                  | inr other ↦ or_right (is_back actor (with_account one own root.joined)) (is_among actor out) other
                ]
          ];
      idle = all_push (HasNoTurn words) root.joined (record { actor = one; own = own }) are.idle idle;
    }

-- while none is out, all is done
pub none_out : (words : WordsTold) (root : RootTold) → AreOut words root [] → IsDone words root
none_out words root are =
    record {
      back = λ actor h.
          elim (or_cases (is_back actor root.joined) false (are.back actor h)) [
            | inl back ↦ back
            | inr none ↦ absurd (cc)
          ];
      idle = are.idle;
    }
