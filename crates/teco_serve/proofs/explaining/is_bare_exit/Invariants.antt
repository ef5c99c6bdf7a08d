use Rattle.std.proofs.Common.{◌≡◌, ◌≤◌, take}
use Rattle.std.specs.List.{count_by}
use Rattle.teco_store.specs.Kinds.{kind_of}
use Rattle.teco_serve.specs.Explaining.{is_turn}
use Rattle.teco_serve.proofs.explaining.is_bare_exit.Given as goal

abbrev pub invariant-loop-k : goal.invariant-loop-k
invariant-loop-k l = record {
  few : l.turns ≤ l.k;
  counted : l.turns ≡ count_by (λ c. is_turn (kind_of c.turn)) (take l.k l.changes);
}
