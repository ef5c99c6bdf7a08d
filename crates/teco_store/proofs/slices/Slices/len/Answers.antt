use Rattle.std.proofs.Common.{◌++◌, sym}
use Rattle.std.proofs.lemmas.List.{length-take-le}
use Rattle.teco_store.specs.Parts.{joined}
use Rattle.teco_store.specs.Slices.{bytes_in}
use Rattle.teco_store.proofs.slices.Slices.len.Goals as goal

pub returns : goal.returns
unfolding bytes_in
returns c = let s = c.args.self in sym (length-take-le s.len (s.first.now ++ joined s.own.now (s.input.now ++ s.shared.now) s.parts.now) s.within)
