use Rattle.std.proofs.Common.{◌∙◌, ap}
use Rattle.teco_debugger.specs.Sources.{number_of_place}
use Rattle.teco_debugger.proofs.sources.look.Goals as goal

pub returns-clause-seen : goal.returns-clause-seen
returns-clause-seen c = (
  c.in_ok-seen.seen,
  record { place = c.in_ok-seen.ensures.place; told = c.in_ok-seen.ensures.told; steps = c.in_ok-seen.ensures.steps; code = c.in_ok-seen.ensures.code; typed = c.in_ok-seen.ensures.typed },
  c.number_of_place-number.ensures ∙ ap (number_of_place c.args.sources.now) c.as_ref.ensures.value,
  c.show_seen.ensures,
)
