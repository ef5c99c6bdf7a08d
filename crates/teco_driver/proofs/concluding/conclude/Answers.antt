use Rattle.std.proofs.Common.{◌∙◌, inl, inr}
use Rattle.teco_fs.proofs.Told.{told_by}
use Rattle.teco_driver.proofs.concluding.conclude.Goals as goal

pub returns-in-Ok : goal.returns-in-Ok
returns-in-Ok g c = record {
  status_is = c.in-Ok.ensures.ok.0;
  told = inl (told_by c.put.result (c.as_bytes.ensures.value ∙ c.in-Ok.ensures.ok.1) c.put.ensures);
}

pub returns-in-Err : goal.returns-in-Err
returns-in-Err g c = record { status_is = c.status_of.ensures; told = inr (c.in-Err.ensures.err, c.no_memory.ensures.told) }
