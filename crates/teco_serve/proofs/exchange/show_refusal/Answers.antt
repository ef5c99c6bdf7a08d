use Rattle.std.proofs.Common.{refl}
use Rattle.teco_serve.proofs.exchange.show_refusal.Goals as goal

pub returns-in-Err : goal.returns-in-Err
returns-in-Err g c = record { heard = tt; unheard = refl; puts = c.in-Err.ensures.puts; some = c.in-Err.ensures.some }

pub returns : goal.returns
returns g c = record { heard = rw (← c.code.ensures) c.moved.ensures.told; unheard = tt; puts = c.in_default.ensures.puts; some = tt }
