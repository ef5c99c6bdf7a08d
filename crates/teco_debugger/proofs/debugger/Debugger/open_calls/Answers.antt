use Rattle.std.proofs.Common.{◌∙◌, List, ℕ, ap, subst}
use Rattle.teco_debugger.specs.Moving.{calls_of}
use Rattle.teco_debugger.specs.Sources.{IsShownAt}
use Rattle.teco_debugger.specs.declared.sources.SourceText.{SourceText}
use Rattle.teco_debugger.proofs.debugger.Debugger.open_calls.Goals as goal

pub returns : goal.returns
returns c =
    let walk = c.args.self.now.walk in
    let there = c.in_ok-there.there in
    let at = subst (λ (n : ℕ). IsShownAt c.as_slice.result.now walk n there) c.steps.ensures c.in_ok-there.ensures.seen in
    let here = subst (λ (xs : List SourceText). IsShownAt xs walk walk.steps there) c.as_slice.ensures.value at in
    (there, here, c.calls_of.ensures ∙ ap calls_of c.as_ref.ensures.value)
