use Rattle.std.proofs.Common.{◌∙◌, Some, option_map, map, sym, ap}
use Rattle.std.proofs.lemmas.Option.{none-some, same_Some}
use Rattle.serde_json.specs.View.{view}
use Rattle.gic_resume.specs.GicSave.Image.{guests_data}
use Rattle.gic_resume.specs.Reading.{guest_heads}
use Rattle.image_read.specs.Tells.{counts_of}
use Rattle.image_read.proofs.HeadLemmas.{counts_short, residents_short, any_shape}
use Rattle.image_read.proofs.head.told_head.Goals as goal

pub returns-in_default-clause-only : goal.returns-in_default-clause-only
returns-in_default-clause-only c rest saved valid tells = absurd (none-some (counts_of saved) (sym c.in_default.is ∙ c.told_counts.ensures.only (counts_of saved) (counts_short rest saved valid) tells.counts))

pub returns-in_default-2-clause-only : goal.returns-in_default-2-clause-only
returns-in_default-2-clause-only c rest saved valid tells =
    let any = any_shape saved.scenario.guests valid.some_guest valid.each_guest in
    absurd (none-some saved.on_pe (sym c.in_default-2.is ∙ c.in_ok-on_pe.ensures.only any.shape saved.on_pe any.is (residents_short any.shape rest saved valid) tells.on_pe))

pub returns-clause-only : goal.returns-clause-only
returns-clause-only c rest saved valid tells =
    let any = any_shape saved.scenario.guests valid.some_guest valid.each_guest in
    let counts = same_Some c.in-Some.counts (counts_of saved) (c.in-Some.ensures.only (counts_of saved) (counts_short rest saved valid) tells.counts) in
    let on_pe = same_Some c.in-Some-2.on_pe saved.on_pe (sym c.in-Some-2.is ∙ c.in_ok-on_pe.ensures.only any.shape saved.on_pe any.is (residents_short any.shape rest saved valid) tells.on_pe) in
    let heads = same_Some (guest_heads (map view c.in-Some-list_at.values.now)) (guest_heads (guests_data saved.scenario.guests saved.state)) (ap (option_map guest_heads) c.in-Some-list_at.ensures ∙ tells.guests) in
    let told = same_Some c.in-Some-3.told (record { guests = saved.scenario.guests; states = saved.state }) (sym c.in-Some-3.is ∙ c.in_ok-told.ensures.only saved.scenario.guests saved.state valid.each_guest valid.states (sym heads)) in
    λ i. Some (record {
      scenario = record { pes = (counts i).pes; lrs = (counts i).lrs; guests = (told i).guests; steps = c.new.ensures i };
      done = (counts i).done;
      reads = (counts i).reads;
      on_pe = on_pe i;
      state = (told i).states;
    })
