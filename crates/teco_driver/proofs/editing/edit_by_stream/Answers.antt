use Rattle.std.proofs.Common.{◌≡◌, ◌∙◌, ap, inl, length, refl, rules}
use Rattle.teco_driver.specs.Run.{bounds_of}
use Rattle.teco_driver.proofs.Doings.{idle_ends, lacks_file, over_work}
use Rattle.teco_driver.proofs.editing.edit_by_stream.Goals as goal

pub returns-in-Err : goal.returns-in-Err
returns-in-Err g c = rw c.requires.apart (lacks_file c.in-Err.ensures.fault refl c.in-Err.ensures.keeps)

pub returns-in_default : goal.returns-in_default
returns-in_default g c = rw c.requires.apart (idle_ends _ _ _ _ _ _ _ _ _ _ (λ term place quiet keeps. inl ((refl, quiet), keeps)) refl c.input_of.ensures.keeps)

pub returns : goal.returns
returns g c =
    let size : c.len.result ≡ length c.in-Ok.input.items = search rules in
    let bounds = c.settings_of-settings.ensures.bounds ∙ ap (bounds_of c.args.line.now) size in
    rw c.requires.apart (over_work _ _ _ _ _ _ _ _ _ _ _ _ c.input_of.ensures.keeps c.in-Ok.ensures.input c.in-Ok-work_over.ensures.to (rw c.depth_said.ensures.depth at c.in-Ok-work_over.ensures.history)
    (rw (← c.finish-fate.ensures.still, bounds, c.settings_of-settings.ensures.manner) at c.serve-served.ensures.serves) c.finish-fate.ensures.ends)
