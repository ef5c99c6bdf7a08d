use Rattle.std.proofs.Common.{take}
use Rattle.std.specs.Fmt.{HasWritten, IsPlainFormatter}
use Rattle.std.specs.List.{flat_map}
use Rattle.teco_search.specs.Shown.{shown_element}
use Rattle.teco_search.proofs.pattern.PatternDisplay.fmt.Given as goal

abbrev pub invariant-elements : goal.invariant-elements
invariant-elements g l =
    IsPlainFormatter l.initial.f → HasWritten g.W.Write.write_str_gives l.initial.f (flat_map shown_element (take l.element-index l.element-items)) l.f
