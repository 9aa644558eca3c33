-- Parts, one after the other.
use Rattle.std.proofs.Common.{List, [], ◌++◌, map, refl, sym, subst, ◌∙◌}
use Rattle.pe_loop.specs.Core.{Made, Seen, Adds, shape_of, makes, Progress, progress_of}
use Rattle.pe_loop.proofs.JoinLemmas.{two_on, two_proper, same_proper, same_progress}
use Rattle.pe_icc.specs.Amid.{Leads}

pub leads_then : (old mid : Seen) (early late : List Made) (A B C : Progress → Type 0) → Adds old mid early → Leads old early A B → Leads mid late B C → Leads old (early ++ late) A C
leads_then old mid early late A B C add one two =
    let shape = shape_of old in
    let at : Progress → Progress = λ p. progress_of shape old.actor p (map makes early) in
    record {
      proper = λ p a. two_proper shape old.actor p (at p) early late (one.proper p a) refl (same_proper old mid early late (at p) add (two.proper (at p) (one.after p a)));
      after = λ p a. subst C (sym (two_on shape old.actor p early late ∙ same_progress old mid early late (at p) add)) (two.after (at p) (one.after p a));
    }

pub leads_from : (old : Seen) (part : List Made) (A B C : Progress → Type 0) → ((p : Progress) → A p → B p) → Leads old part B C → Leads old part A C
leads_from old part A B C to leads = record { proper = λ p a. leads.proper p (to p a); after = λ p a. leads.after p (to p a) }

pub leads_to : (old : Seen) (part : List Made) (A B C : Progress → Type 0) → ((p : Progress) → B p → C p) → Leads old part A B → Leads old part A C
leads_to old part A B C to leads = record { proper = leads.proper; after = λ p a. to (progress_of (shape_of old) old.actor p (map makes part)) (leads.after p a) }

pub leads_nil : (seen : Seen) (A : Progress → Type 0) → Leads seen [] A A
leads_nil seen A = record { proper = λ p a. tt; after = λ p a. a }
