-- Search texts of bytes alone.
use Rattle.std.specs.Prelude.{◌≡◌, ℕ, ◌<◌, Bool, true, false, not, List, length, All}
use Rattle.std.specs.List.{list_all}
use Rattle.teco_core.specs.declared.case_mode.CaseMode.{CaseMode}
use Rattle.teco_core.specs.declared.case_mode.CaseMode.TheVariants.{Exact, Either}
use Rattle.teco_search.specs.declared.element.SetItem.TheVariants.{Byte}
use Rattle.teco_search.specs.declared.element.OneByte.TheVariants.{Single}
use Rattle.teco_search.specs.declared.element.Element.{Element}
use Rattle.teco_search.specs.declared.element.Element.TheVariants.{Among}
use Rattle.teco_core.specs.Ascii.{is_letter}
use Rattle.teco_search.specs.Spelling.{is_control}

-- the element that is a byte itself
abbrev pub plain : ℕ → Element
plain b = Among (Single (Byte b))

-- whether a byte itself admits no other
abbrev pub is_exact : CaseMode → ℕ → Bool
is_exact Exact b = true
is_exact Either b = not (is_letter b)

-- at least one byte, and each admits no other
pub record IsLiteral (mode : CaseMode) (bytes : List ℕ) : Type 0 where
  pub some : 0 < length bytes
  pub exact : list_all (is_exact mode) bytes ≡ true

-- A search text that is looked for as it stands: it has a byte, and none of its bytes is a control.
pub record IsPlain (text : List ℕ) : Type 0 where
  pub some : 0 < length text
  pub free : All (λ b. is_control b ≡ false) text
