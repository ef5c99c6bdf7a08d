use Rattle.std.proofs.Common.{ap, sym, ◌∙◌}
use Rattle.std.proofs.Output.{has_written_of_eq}
use Rattle.std.proofs.lemmas.List.Folds.{flat_map-map}
use Rattle.std.specs.List.{flat_map}
use Rattle.teco_search.specs.Literal.{plain}
use Rattle.teco_search.specs.Pattern.{elements_of}
use Rattle.teco_search.specs.Shown.{shown, shown_byte, shown_element}
use Rattle.teco_search.proofs.pattern.PatternDisplay.fmt.Goals as goal

pub returns-in-Literal-clause-writes : goal.returns-in-Literal-clause-writes
returns-in-Literal-clause-writes g c whole ok =
    let bytes = c.in-Literal.bytes.items in
    let elements = sym (ap elements_of c.in-Literal.is) ∙ ap (λ pattern. pattern.elements) c.self.view_is in
    has_written_of_eq _ _ _ _ _
    (ap (flat_map shown_byte) c.deref.ensures.value ∙ sym (flat_map-map shown_element plain bytes) ∙ ap shown elements)
    (c.show_bytes.ensures whole ok)
