use Rattle.tecol_driver.proofs.telling.text_of.Goals as goal

pub returns-in-Done : goal.returns-in-Done
returns-in-Done c = record { ok = rw c.in-Done.is c.kept_text.ensures.ok; err = rw c.in-Done.is c.kept_text.ensures.err }

pub returns-in-Unchecked : goal.returns-in-Unchecked
returns-in-Unchecked c = record { ok = rw c.in-Unchecked.is c.kept_text-in-Unchecked.ensures.ok; err = rw c.in-Unchecked.is c.kept_text-in-Unchecked.ensures.err }

pub returns-in-Faulty : goal.returns-in-Faulty
returns-in-Faulty c = record { ok = rw c.in-Faulty.is c.kept_text-in-Faulty.ensures.ok; err = rw c.in-Faulty.is c.kept_text-in-Faulty.ensures.err }
