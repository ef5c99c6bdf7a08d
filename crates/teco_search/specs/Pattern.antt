-- How a search text that has been read is kept.
use Rattle.std.specs.Prelude.{List, map}
use Rattle.teco_core.specs.declared.case_mode.CaseMode.{CaseMode}
use Rattle.teco_search.specs.declared.element.Element.{Element}
use Rattle.teco_search.specs.declared.pattern.Form.{Form}
use Rattle.teco_search.specs.declared.pattern.Form.TheVariants.{Literal, Elements}
use Rattle.teco_search.specs.Anchor.{IsAnchored}
use Rattle.teco_search.specs.Literal.{plain, IsLiteral}

abbrev pub elements_of : Form → List Element
elements_of (Literal bytes) = map plain bytes.items
elements_of (Elements es anchor) = es.items

-- There is at least one element: each byte of a literal admits no other, and other elements are anchored, at one of them.
abbrev pub IsSound : CaseMode → Form → Type 0
IsSound mode (Literal bytes) = IsLiteral mode bytes.items
IsSound mode (Elements es anchor) = IsAnchored mode es.items anchor
