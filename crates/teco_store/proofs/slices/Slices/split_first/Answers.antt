use Rattle.std.proofs.Common.{◌++◌, ap, arith, take, ℕ}
use Rattle.teco_store.specs.Parts.{joined}
use Rattle.teco_store.specs.Slices.{bytes_in}
use Rattle.teco_store.proofs.Outputs.{first_taken}
use Rattle.teco_store.proofs.slices.Slices.split_first.Goals as goal

pub returns-then-self-eq0-clause-bytes : goal.returns-then-self-eq0-clause-bytes
unfolding bytes_in
returns-then-self-eq0-clause-bytes c = let s = c.args.self in ap (λ (k : ℕ). take k (s.first.now ++ joined s.own.now (s.input.now ++ s.shared.now) s.parts.now)) c.if-self-eq0.true

pub returns-clause-bytes : goal.returns-clause-bytes
unfolding bytes_in
returns-clause-bytes c = let s = c.args.self in first_taken s.first.now (joined s.own.now (s.input.now ++ s.shared.now) s.parts.now) s.len c.min.result (omega arith)
