use Rattle.teco_step.proofs.Reading.{number_back}
use Rattle.teco_step.proofs.number_laws.decimal_laws.Goals as goal

pub returns : goal.returns
returns c = record { back = number_back }
