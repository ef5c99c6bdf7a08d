use Rattle.std.proofs.Common.{◌≡◌, ◌∙◌, ◌++◌, append_assoc, ap, ap₂, sym, arith, take, List, ℕ}
use Rattle.teco_store.specs.Parts.{joined}
use Rattle.teco_store.specs.Slices.{bytes_in}
use Rattle.teco_store.proofs.Outputs.{first_taken}
use Rattle.teco_store.proofs.slices.Slices.split_parts.Goals as goal

pub returns-clause-bytes : goal.returns-clause-bytes
unfolding bytes_in
returns-clause-bytes c =
    let s = c.args.self in
    let source = s.input.now ++ s.shared.now in
    let slice = c.split.result.0.now in
    let next = c.split.result.1.now in
    let later = joined c.split.result.2.now source c.in_ok-first.parts.now in
    let others = next ++ later in
    let whole : s.first.now ++ joined s.own.now source s.parts.now ≡ slice ++ others =
    ap (λ (l : List ℕ). l ++ joined s.own.now source s.parts.now) c.requires.first
    ∙ ap (joined s.own.now source) c.in_ok-first.ensures.cases.0 ∙ ap₂ ◌++◌ (sym c.split.ensures.piece) (ap (λ (l : List ℕ). joined l source c.in_ok-first.parts.now) (sym c.split.ensures.own))
    ∙ append_assoc slice next later in
    ap (λ (l : List ℕ). take s.len l) whole ∙ first_taken slice others s.len c.min.result (omega arith)
