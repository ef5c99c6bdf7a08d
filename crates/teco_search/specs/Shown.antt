-- How a search text that has been read is shown.
use Rattle.std.specs.Prelude.{ℕ, ◌&&◌, List, [], ◌∷◌, ◌++◌, codes, nat_le, if◌then◌else◌}
use Rattle.std.specs.Fmt.{decimal}
use Rattle.std.specs.List.{flat_map}
use Rattle.teco_search.specs.declared.element.Class.{Class}
use Rattle.teco_search.specs.declared.element.Class.TheVariants as class
use Rattle.teco_search.specs.declared.element.SetItem.{SetItem}
use Rattle.teco_search.specs.declared.element.SetItem.TheVariants as item
use Rattle.teco_search.specs.declared.element.OneByte.{OneByte}
use Rattle.teco_search.specs.declared.element.OneByte.TheVariants as one
use Rattle.teco_search.specs.declared.element.Element.{Element}
use Rattle.teco_search.specs.declared.element.Element.TheVariants as element
use Prim.Native.Char.{code}

-- an ASCII character that shows as itself, and another byte by its code in angle brackets
abbrev pub shown_byte : ℕ → List ℕ
shown_byte b = if nat_le (code " ") b && nat_le b (code "~") then b ∷ [] else codes "<" ++ decimal b ++ codes ">"

-- ^E and the letter of a kind of bytes
abbrev pub shown_class : Class → List ℕ
shown_class class.Any = codes "^EX"
shown_class class.Other = codes "^EB"
shown_class class.Letter = codes "^EA"
shown_class class.Digit = codes "^ED"
shown_class class.LineEnd = codes "^EL"
shown_class class.LetterOrDigit = codes "^ER"
shown_class class.LowerCase = codes "^EV"
shown_class class.UpperCase = codes "^EW"

abbrev pub shown_item : SetItem → List ℕ
shown_item (item.Byte b) = shown_byte b
shown_item (item.Class c) = shown_class c

-- an item of a list after the first
abbrev pub shown_other : SetItem → List ℕ
shown_other j = codes "," ++ shown_item j

-- items with a comma before each but the first
abbrev pub shown_items : List SetItem → List ℕ
shown_items [] = []
shown_items (i ∷ is) = shown_item i ++ flat_map shown_other is

-- a list of items is between ^E[ and ]
abbrev pub shown_one : OneByte → List ℕ
shown_one (one.Single i) = shown_item i
shown_one (one.Listed is) = codes "^E[" ++ shown_items is ++ codes "]"

-- what is not to be there has ^N before it
abbrev pub shown_element : Element → List ℕ
shown_element (element.Among c) = shown_one c
shown_element (element.Except c) = codes "^N" ++ shown_one c
shown_element element.Blanks = codes "^ES"

-- a search text element by element
abbrev pub shown : List Element → List ℕ
shown es = flat_map shown_element es
