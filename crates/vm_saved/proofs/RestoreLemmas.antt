-- What restoring makes of a machine, and what is saved of it.
use Rattle.std.proofs.Common.{◌≡◌, ℕ, List, length, sym, ap, subst, ◌∙◌}
use Rattle.std.proofs.lemmas.Option.{same_Some}
use Rattle.serde_json.specs.Data.{Data}
use Rattle.serde_json.specs.Written.{compact_text}
use Rattle.gic_vm.specs.declared.done.Done.{Done}
use Rattle.gic_vm.specs.GuestMemory.declared.base.Bases.{Bases}
use Rattle.gic_vm.specs.State.{MachineState}
use Rattle.gic_vm.specs.Calls.{done_by}
use Rattle.gic_vm.specs.Keep.{put_in}
use Rattle.image_read.specs.GicResume.GicSave.Cell.{object_data}
use Rattle.saved_take.specs.Back.{IsStored}
use Rattle.saved_take.specs.SavedGuest.IdealGuests.declared.guest.IdealGuest.{IdealGuest}
use Rattle.saved_take.specs.SavedGuest.ScnSaved.declared.saved.Saved.{Saved}
use Rattle.saved_take.specs.SavedGuest.Whole.{IsValidRun}
use Rattle.vm_saved.specs.declared.restoring.NotRestored.{NotRestored}
use Rattle.vm_saved.specs.declared.restoring.NotRestored.TheVariants.{NoMemory}
use Rattle.vm_saved.specs.Image.{run_of, members_of, Spells, IsSaved}
use Rattle.vm_saved.specs.Reading.{Tells}
use Rattle.vm_saved.specs.Calls.{IsRestored}

-- bytes spell one value
one_value : (bytes : List ℕ) (d e : Data) → Spells bytes d → Spells bytes e → d ≡ e
one_value bytes d e one other = same_Some d e (sym one.reads ∙ other.reads)

-- what another value that they spell tells of the machine's guest is what this one tells
tells_here : (bytes : List ℕ) (v d : Data) (held machine guest : IdealGuest) (bases : Bases) → Spells bytes v → held ≡ machine → Spells bytes d → Tells d machine.shape guest bases → Tells v held.shape guest bases
tells_here bytes v d held machine guest bases spells same other tells =
    subst (λ value. Tells value held.shape guest bases) (one_value bytes d v other spells) (subst (λ (g : IdealGuest). Tells d g.shape guest bases) (sym same) tells)

pub err_restores : (bytes : List ℕ) (v : Data) (held machine : IdealGuest) (refusal : NotRestored) → Spells bytes v → held ≡ machine → ((guest : IdealGuest) (bases : Bases) → Tells v held.shape guest bases → refusal ≡ NoMemory)
    → (d : Data) (guest : IdealGuest) (bases : Bases) → Spells bytes d → Tells d machine.shape guest bases → refusal ≡ NoMemory
err_restores bytes v held machine refusal spells same only d guest bases other tells = only guest bases (tells_here bytes v d held machine guest bases spells same other tells)

pub ok_restores : (bytes : List ℕ) (v : Data) (held : IdealGuest) (before after : MachineState) (told : IdealGuest) (kept : Bases) → Spells bytes v → held ≡ before.guest
    → ((guest : IdealGuest) (bases : Bases) → Tells v held.shape guest bases → (told ≡ guest) × (kept ≡ bases)) → after ≡ put_in told kept before
    → (d : Data) (guest : IdealGuest) (bases : Bases) → Spells bytes d → Tells d before.guest.shape guest bases → after ≡ put_in guest bases before
ok_restores bytes v held before after told kept spells same only is d guest bases other tells =
    let found = only guest bases (tells_here bytes v d held before.guest guest bases spells same other tells) in
    is ∙ ap (λ (g : IdealGuest). put_in g kept before) found.0 ∙ ap (λ (b : Bases). put_in guest b before) found.1

pub restored_is : (bytes : List ℕ) (v : Data) (held : IdealGuest) (before after : MachineState) (told : IdealGuest) (kept : Bases) (done : Done) → Spells bytes v → held ≡ before.guest → Tells v held.shape told kept → after ≡ put_in told kept before
    → done ≡ done_by 0 before.guest told → IsRestored bytes before after done
restored_is bytes v held before after told kept done spells same tells is done_is =
    record {
      value = v;
      spells = spells;
      guest = told;
      bases = kept;
      tells = subst (λ (g : IdealGuest). Tells v g.shape told kept) same tells;
      machine = is;
      done_is = done_is;
    }

-- a machine whose guest and registers these are is saved as the text of their image
pub saved_is : (machine : MachineState) (held : IdealGuest) (kept : Bases) (run : Saved) (bytes : List ℕ) → held ≡ machine.guest → kept ≡ machine.bases → (length kept.properties ≡ 32) × (length kept.pending ≡ 32) → run ≡ run_of held
    → IsValidRun 0 run → IsStored held → bytes ≡ compact_text (object_data (members_of held kept)) → Spells bytes (object_data (members_of held kept)) → IsSaved machine bytes
saved_is machine held kept run bytes same kept_is whole run_is valid stored text spells =
    let image : object_data (members_of held kept) ≡ object_data (members_of machine.guest machine.bases) =
    ap (λ (g : IdealGuest). object_data (members_of g kept)) same ∙ ap (λ (b : Bases). object_data (members_of machine.guest b)) kept_is in
    record {
      can =
          record {
            valid = subst (IsValidRun 0) (run_is ∙ ap run_of same) valid;
            stored = subst IsStored same stored;
            whole = record { properties = sym (ap (λ (b : Bases). length b.properties) kept_is) ∙ whole.0; pending = sym (ap (λ (b : Bases). length b.pending) kept_is) ∙ whole.1 };
          };
      text = text ∙ ap compact_text image;
      spells = subst (Spells bytes) image spells;
    }
