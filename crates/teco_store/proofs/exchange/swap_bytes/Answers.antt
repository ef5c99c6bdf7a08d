use Rattle.teco_store.proofs.exchange.swap_bytes.Goals as goal

pub returns-clause-cap : goal.returns-clause-cap
returns-clause-cap c = c.splice.ensures.cap
