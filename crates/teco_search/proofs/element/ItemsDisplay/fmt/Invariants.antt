use Rattle.std.proofs.Common.{◌≡◌, take}
use denote.Text.{Utf8}
use denote.Shadow.{shadow}
use Rattle.std.specs.Fmt.{HasWritten, IsPlainFormatter}
use Rattle.teco_search.specs.Shown.{shown_items}
use Rattle.teco_search.proofs.Commas.{before_next}
use Rattle.teco_search.proofs.element.ItemsDisplay.fmt.Given as goal

abbrev pub invariant-items : goal.invariant-items
invariant-items g l =
    shadow (Utf8 l.between) × (l.between ≡ before_next (take l.item-index l.item-items))
    × (IsPlainFormatter l.initial.f → HasWritten g.W.Write.write_str_gives l.initial.f (shown_items (take l.item-index l.item-items)) l.f)
