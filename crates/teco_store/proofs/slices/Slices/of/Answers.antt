use Rattle.std.proofs.Common.{◌∙◌, ap, arith, length, take, List, ℕ}
use Rattle.std.proofs.lemmas.List.{append-nil, take_all}
use Rattle.teco_store.specs.Slices.{bytes_in}
use Rattle.teco_store.proofs.slices.Slices.of.Goals as goal

pub returns : goal.returns
unfolding bytes_in
returns c = let bytes = c.args.bytes.now in ap (λ (l : List ℕ). take (length bytes) l) (append-nil bytes) ∙ take_all (length bytes) bytes (omega arith)
