use Rattle.std.proofs.Common.{◌≡◌, ◌∙◌, ap, inl, inr, refl, rules}
use Rattle.teco_driver.specs.SessionLines.{session_name}
use Rattle.teco_driver.specs.Sessions.{TellsAgain, origin_by}
use Rattle.teco_driver.proofs.Sessions.{closed_bare, opens_heard_bare, shut_heard}
use Rattle.teco_driver.proofs.keeping.open_kept.Goals as goal

pub returns-in-Err-clause-shut : goal.returns-in-Err-clause-shut
returns-in-Err-clause-shut g c = (record { lacks = inl c.in-Err.ensures.fault; idle = (refl, c.in-Err.ensures.keeps) }, refl)

pub returns-in_default-clause-shut : goal.returns-in_default-clause-shut
returns-in_default-clause-shut g c = (record { lacks = inr refl; idle = (refl, c.input_at.ensures.keeps) }, refl)

pub returns-in-Err-open_told-clause-shut : goal.returns-in-Err-open_told-clause-shut
returns-in-Err-open_told-clause-shut g c = record {
  read = c.input_at.new.disk;
  input = c.in-Ok.input.items;
  keeps = c.input_at.ensures.keeps;
  input_is = c.in-Ok.ensures.input;
  closed = rw (c.start_of-start.ensures.start ∙ ap (origin_by c.args.line.now) c.as_slice.ensures.value) at (closed_bare _ _ _ _ c.in-Err-open_told.ensures.err);
  tells = shut_heard c.in-Err-open_told.fault (c.open_told.new.errors ≡ c.args.errors.now)
      (TellsAgain g.E.Terminal.screen c.args.line.now c.args.errors.now c.open_told.new.errors) (session_name c.args.line.now)
      (g.D.Disk.seen c.input_at.new.disk) c.in-Err-open_told.ensures.told;
  still = refl;
}

pub returns-clause-opens : goal.returns-clause-opens
returns-clause-opens g c = record {
  read = c.input_at.new.disk;
  input = c.in-Ok.input.items;
  keeps = c.input_at.ensures.keeps;
  input_is = c.in-Ok.ensures.input;
  length_is = search rules;
  between = c.open_told.new.errors;
  opens = rw (c.start_of-start.ensures.start ∙ ap (origin_by c.args.line.now) c.as_slice.ensures.value, c.asked_of.ensures) at (opens_heard_bare _ _ _ _ _ _ _ _ c.in-Ok-open_told.ensures.ok);
  tells = c.tell_opened.ensures;
}
