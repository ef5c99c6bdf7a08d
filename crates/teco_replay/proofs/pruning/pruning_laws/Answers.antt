use Rattle.teco_replay.proofs.KeptEvents.{kept_events_tell, kept_events_happen}
use Rattle.teco_replay.proofs.Firsts.{first_stays}
use Rattle.teco_replay.proofs.Depth.{all_events_lead, all_events_happen}
use Rattle.teco_replay.proofs.Fewest.{fewest}
use Rattle.teco_replay.proofs.pruning.pruning_laws.Goals as goal

pub returns-clause-tell : goal.returns-clause-tell
returns-clause-tell c = kept_events_tell c.meaning_laws.ensures.reached

pub returns-clause-happen : goal.returns-clause-happen
returns-clause-happen c = kept_events_happen c.meaning_laws.ensures.reached

pub returns-clause-stays : goal.returns-clause-stays
returns-clause-stays c = first_stays

pub returns-clause-lead : goal.returns-clause-lead
returns-clause-lead c = all_events_lead c.meaning_laws.ensures.reached

pub returns-clause-leading : goal.returns-clause-leading
returns-clause-leading c = all_events_happen c.meaning_laws.ensures.reached

pub returns-clause-fewest : goal.returns-clause-fewest
returns-clause-fewest c = fewest
