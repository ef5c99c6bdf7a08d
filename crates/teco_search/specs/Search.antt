-- A pattern made ready for a search.
use Rattle.std.specs.Prelude.{Bool, true, false, map}
use Rattle.teco_search.specs.declared.search.Forward.{Forward}
use Rattle.teco_search.specs.declared.search.Forward.TheVariants as forward
use Rattle.teco_search.specs.declared.search.Backward.{Backward}
use Rattle.teco_search.specs.declared.search.Backward.TheVariants as backward
use Rattle.teco_search.specs.Anchor.{IsAnchored}
use Rattle.teco_search.specs.Literal.{plain, IsLiteral}
use Rattle.teco_search.specs.Occurrence.{Sought, looked_for}

-- what is looked for
abbrev pub sought_forward : Forward → Sought
sought_forward (forward.Literal mode bytes) = looked_for mode (map plain bytes)
sought_forward (forward.Bytes mode bytes anchor) = looked_for mode (map plain bytes.now)
sought_forward (forward.Elements mode es anchor) = looked_for mode es.now

abbrev pub sought_backward : Backward → Sought
sought_backward (backward.Literal mode bytes) = looked_for mode (map plain bytes)
sought_backward (backward.Elements mode es anchor) = looked_for mode es.now

-- There is at least one element: each byte of a literal admits no other, and others are anchored, at one of them.
abbrev pub IsReadyForward : Forward → Type 0
IsReadyForward (forward.Literal mode bytes) = IsLiteral mode bytes
IsReadyForward (forward.Bytes mode bytes anchor) = IsAnchored mode (map plain bytes.now) anchor.now
IsReadyForward (forward.Elements mode es anchor) = IsAnchored mode es.now anchor.now

abbrev pub IsReadyBackward : Backward → Type 0
IsReadyBackward (backward.Literal mode bytes) = IsLiteral mode bytes
IsReadyBackward (backward.Elements mode es anchor) = IsAnchored mode es.now anchor.now

-- whether a search passes the text once at most, so that it is never given up
abbrev pub is_steady : Forward → Bool
is_steady (forward.Literal mode bytes) = true
is_steady (forward.Bytes mode bytes anchor) = false
is_steady (forward.Elements mode es anchor) = false
