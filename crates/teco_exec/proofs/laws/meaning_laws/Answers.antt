use Rattle.teco_exec.proofs.Sentences as sentences
use Rattle.teco_exec.proofs.StringLaws.{within_limit, more_limit, same_again, limits_reached, limit_zero, exit_ends_well}
use Rattle.teco_exec.proofs.Profiles.{profile_kept}
use Rattle.teco_exec.proofs.laws.meaning_laws.Goals as goal

pub returns : goal.returns
returns c = record {
  unrolls = sentences.unrolls;
  empty_list = sentences.empty_list;
  fault = sentences.fault;
  tag = sentences.tag_passed;
  escape = sentences.escape_drops;
  no_fuel = sentences.no_fuel;
  step_ends = sentences.step_ends;
  step = sentences.step;
  further_step = sentences.further_step;
  block = sentences.block;
  turn_end = sentences.turn_ends;
  leaving = sentences.leaving;
  within_limit = within_limit;
  more_limit = more_limit c.machine_laws.ensures.means;
  enough = same_again c.machine_laws.ensures.means;
  reached = limits_reached c.machine_laws.ensures.means;
  limit_zero = limit_zero c.machine_laws.ensures.follows;
  exit = exit_ends_well c.machine_laws.ensures.means c.effect_laws.ensures.done;
  profile = profile_kept c.effect_laws.ensures.profile c.machine_laws.ensures.follows;
}
