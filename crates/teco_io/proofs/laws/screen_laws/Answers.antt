use Rattle.teco_io.proofs.Shown.{Shows-nil, Shows-trans}
use Rattle.teco_io.proofs.laws.screen_laws.Goals as goal

pub returns : goal.returns
returns c = record { nothing = Shows-nil; more = λ a b c xs ys failed p q. Shows-trans p q }
