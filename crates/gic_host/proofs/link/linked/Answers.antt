use Rattle.std.proofs.Common.{◌∙◌, Option, List, map, sym, ap, subst}
use Rattle.std.specs.Option.{option_map}
use Rattle.floor_lists.specs.Lists.{Choice, HasEntries, StandFor, held_of, regs_of}
use Rattle.gic_host.specs.declared.link.Link.{Link}
use Rattle.gic_host.specs.Link.{linked_choice, HaveLinks}
use Rattle.gic_host.proofs.LinkLemmas.{have_links, linked_entries, linked_stands}
use Rattle.gic_host.proofs.link.linked.Goals as goal

pub returns-clause-value : goal.returns-clause-value
returns-clause-value c =
    ap (λ (choice : List (Option Choice)). record c.args.fill.now { choice = choice }) (c.linked_places.ensures ∙ ap (λ (links : List Link). map (option_map (linked_choice links c.args.vcpu)) c.args.fill.now.choice) c.as_slice.ensures)

pub returns-clause-links : goal.returns-clause-links
returns-clause-links c =
    subst (λ (choice : List (Option Choice)). HaveLinks (record c.args.fill.now { choice = choice })) (sym (c.linked_places.ensures ∙ ap (λ (links : List Link). map (option_map (linked_choice links c.args.vcpu)) c.args.fill.now.choice) c.as_slice.ensures))
    (have_links c.args.links.now c.args.vcpu c.args.fill.now c.requires)

pub returns-clause-entries : goal.returns-clause-entries
returns-clause-entries c numbers =
    subst (λ (choice : List (Option Choice)). HasEntries choice) (sym (c.linked_places.ensures ∙ ap (λ (links : List Link). map (option_map (linked_choice links c.args.vcpu)) c.args.fill.now.choice) c.as_slice.ensures))
    (linked_entries c.args.links.now c.args.vcpu c.args.fill.now numbers)

pub returns-clause-stands : goal.returns-clause-stands
returns-clause-stands c cpu n interface fit numbers stands =
    subst (λ (choice : List (Option Choice)). StandFor (regs_of (record c.args.fill.now { choice = choice }) cpu n) (held_of (record c.args.fill.now { choice = choice })) interface)
    (sym (c.linked_places.ensures ∙ ap (λ (links : List Link). map (option_map (linked_choice links c.args.vcpu)) c.args.fill.now.choice) c.as_slice.ensures))
    (linked_stands c.args.links.now c.args.vcpu c.args.fill.now cpu n interface fit numbers stands)
