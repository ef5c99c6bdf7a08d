-- Reading a search text: the elements that are spelled from a place on, and the place after them, or ICE.
use Rattle.std.specs.Prelude.{◌≡◌, ◌⊎◌, ℕ, zero, suc, ◌+◌, Bool, false, ◌&&◌, ◌||◌, List, [], ◌∷◌, length, Result, Ok, Err, slice_get, nat_le, ◌==◌, if◌then◌else◌}
use Rattle.std.specs.Option.{option_map_or}
use Rattle.teco_core.specs.declared.code.Code.{Code}
use Rattle.teco_core.specs.declared.code.Code.TheVariants.{Ice, Mem}
use Rattle.teco_core.specs.Refusal.{◌>>=◌}
use Rattle.teco_search.specs.declared.element.Class.{Class}
use Rattle.teco_search.specs.declared.element.Class.TheVariants as class
use Rattle.teco_search.specs.declared.element.SetItem.{SetItem}
use Rattle.teco_search.specs.declared.element.SetItem.TheVariants as item
use Rattle.teco_search.specs.declared.element.OneByte.{OneByte}
use Rattle.teco_search.specs.declared.element.OneByte.TheVariants as one
use Rattle.teco_search.specs.declared.element.Element.{Element}
use Rattle.teco_search.specs.declared.element.Element.TheVariants as element
use Rattle.teco_core.specs.Ascii.{upper}
use Prim.Native.Char.{code}
use Rattle.teco_search.specs.declared.reading.TheConstants.{CONTROL_E, CONTROL_N, CONTROL_Q, CONTROL_R, CONTROL_S, CONTROL_V, CONTROL_W, CONTROL_X}

-- something read, and the place after it
abbrev pub Reading : Type 0 → Type 0
Reading A = Result (A × ℕ) Code

-- whether this byte is there
abbrev pub occurs_at : List ℕ → ℕ → ℕ → Bool
occurs_at text at b = option_map_or (λ x. x == b) (slice_get text at) false

-- After ^Q, ^N and ^E something has to come.
unfoldable pub byte_at : List ℕ → ℕ → Result ℕ Code
byte_at text at = option_map_or (λ b. Ok b) (slice_get text at) (Err Ice)

-- the kind of bytes that a letter after ^E names, in either case
abbrev pub class_named : ℕ → Result Class Code
class_named b =
    if b == code "X" then Ok class.Any else (if b == code "B" then Ok class.Other else (if b == code "A" then Ok class.Letter
    else (if b == code "D" then Ok class.Digit
    else (if b == code "L" then Ok class.LineEnd else (if b == code "R" then Ok class.LetterOrDigit
    else (if b == code "V" then Ok class.LowerCase else (if b == code "W" then Ok class.UpperCase else Err Ice)))))))

-- the control bytes that are no item: ^N, ^R, ^V, ^W
abbrev pub is_no_item : ℕ → Bool
is_no_item b = b == CONTROL_N || b == CONTROL_R || b == CONTROL_V || b == CONTROL_W

-- ^Q and a byte, ^E and a letter, ^X, ^S, or a byte itself
abbrev pub item_by : ℕ → List ℕ → ℕ → Reading SetItem
item_by b text at =
    if b == CONTROL_Q then (do
      quoted ← byte_at text at
      Ok (item.Byte quoted, at + 1))
    else (if b == 5 then (do
      letter ← byte_at text at
      named ← class_named (upper letter)
      Ok (item.Class named, at + 1))
    else (if b == CONTROL_X then Ok (item.Class class.Any, at)
    else (if b == CONTROL_S then Ok (item.Class class.Other, at)
    else (if is_no_item b then Err Ice else Ok (item.Byte b, at)))))

unfoldable pub item_at : List ℕ → ℕ → Reading SetItem
item_at text at = do
  b ← byte_at text at
  item_by b text (at + 1)

-- No item of a list begins with a comma or ].
unfoldable pub listed_at : List ℕ → ℕ → Reading SetItem
listed_at text at = if occurs_at text at (code ",") || occurs_at text at (code "]") then Err Ice else item_at text at

-- After an item of a list comes ] as its end, or a comma and the next item.
abbrev pub after_item : ℕ → SetItem → Reading (List SetItem) → ℕ → Reading (List SetItem)
after_item b i others at =
    if b == code "]" then Ok (i ∷ [], at) else (if b == code "," then (do
      is ← others
      Ok (i ∷ is.0, is.1)) else Err Ice)

-- the items of a list, which are at most n, up to its ]
unfoldable pub items_at : ℕ → List ℕ → ℕ → Reading (List SetItem)
items_at zero text at = Err Ice
items_at (suc n) text at = do
  i ← listed_at text at
  b ← byte_at text i.1
  after_item b i.0 (items_at n text (i.1 + 1)) (i.1 + 1)

-- ^E[ and a list, or one item
unfoldable pub one_byte_at : List ℕ → ℕ → Reading OneByte
one_byte_at text at =
    if occurs_at text at CONTROL_E && occurs_at text (at + 1) (code "[") then (do
      is ← items_at (length text) text (at + 2)
      Ok (one.Listed is.0, is.1))
    else (do
      i ← item_at text at
      Ok (one.Single i.0, i.1))

-- ^ES, or ^N and what is not to be there, or what is to be there
unfoldable pub element_at : List ℕ → ℕ → Reading Element
element_at text at =
    if occurs_at text at CONTROL_E && (occurs_at text (at + 1) (code "S") || occurs_at text (at + 1) (code "s"))
    then Ok (element.Blanks, at + 2)
    else (if occurs_at text at CONTROL_N then (do
      c ← one_byte_at text (at + 1)
      Ok (element.Except c.0, c.1))
    else (do
      c ← one_byte_at text at
      Ok (element.Among c.0, c.1)))

-- the elements, which are at most n, up to the end
unfoldable pub elements_at : ℕ → List ℕ → ℕ → Result (List Element) Code
elements_at zero text at = Ok []
elements_at (suc n) text at = if nat_le (length text) at then Ok [] else (do
  e ← element_at text at
  es ← elements_at n text e.1
  Ok (e.0 ∷ es))

-- the elements of a search text
unfoldable pub read : List ℕ → Result (List Element) Code
read text = elements_at (length text) text 0

-- what a call returned is what was to be read; it may be refused memory
abbrev pub Reads : {A : Type 0} → Result A Code → Result A Code → Type 0
Reads (Ok x) r = r ≡ Ok x
Reads (Err e) r = (e ≡ Mem) ⊎ ((e ≡ Ice) × (r ≡ Err Ice))
