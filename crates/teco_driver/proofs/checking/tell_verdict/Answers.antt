use Rattle.std.proofs.Common.{inl, refl, rules}
use Rattle.teco_driver.proofs.checking.tell_verdict.Goals as goal

pub returns-in-Ok-put : goal.returns-in-Ok-put
returns-in-Ok-put g c = inl (record {
  faulty = c.in-Ok.verdict.is_faulty;
  verdict = c.in-Ok.ensures.faulty;
  unclean = c.in-Ok.verdict.is_unclean;
  whole = c.in-Ok.ensures.unclean;
  right = c.in-Ok.ensures.right;
  status_is = c.status_of_check.ensures;
  lines = c.as_bytes.result.now;
  shown = search rules;
  silent = refl;
})
