use Rattle.teco_step.proofs.Ends.{leave_is_inside, go_names, calls_by_calls, goes_further_if_it_may, value_goes_on}
use Rattle.teco_step.proofs.Errors.{errors_leave}
use Rattle.teco_step.proofs.Exits.{only_exits}
use Rattle.teco_step.proofs.Loads.{changes_or_types, load_moves, profile_stays}
use Rattle.teco_step.proofs.laws.effect_laws.Goals as goal

pub returns : goal.returns
returns c =
    let found = c.occurrences.ensures in
    let spelled = c.search_texts.ensures.spelled in
    record {
      leave = leave_is_inside;
      jump = go_names;
      call = calls_by_calls;
      further = goes_further_if_it_may;
      value = value_goes_on;
      done = only_exits;
      errors = errors_leave;
      apart = changes_or_types found.long found.forward found.backward spelled;
      load = load_moves found.long found.forward found.backward spelled;
      profile = profile_stays found.long found.forward found.backward spelled;
    }
