-- What a search text spells, rule by rule.
use Rattle.std.specs.Prelude.{◌≡◌, ◌≢◌, ℕ, Bool, false, ◌||◌, List, [], ◌∷◌, ◌++◌, ◌==◌}
use Rattle.teco_search.specs.declared.element.Class.{Class}
use Rattle.teco_search.specs.declared.element.Class.TheVariants as class
use Rattle.teco_search.specs.declared.element.SetItem.{SetItem}
use Rattle.teco_search.specs.declared.element.SetItem.TheVariants as item
use Rattle.teco_search.specs.declared.element.OneByte.{OneByte}
use Rattle.teco_search.specs.declared.element.OneByte.TheVariants as one
use Rattle.teco_search.specs.declared.element.Element.{Element}
use Rattle.teco_search.specs.declared.element.Element.TheVariants as element
use Rattle.teco_core.specs.Ascii.{upper}
use Prim.Native.Char.{code}
use Rattle.teco_search.specs.declared.reading.TheConstants.{CONTROL_E, CONTROL_N, CONTROL_Q, CONTROL_R, CONTROL_S, CONTROL_V, CONTROL_W, CONTROL_X}

-- the controls that mean something in a search text: ^Q, ^E, ^X, ^S, ^N, ^R, ^V and ^W
abbrev pub is_control : ℕ → Bool
is_control b = b == CONTROL_Q || b == CONTROL_E || b == CONTROL_X || b == CONTROL_S || b == CONTROL_N || b == CONTROL_R || b == CONTROL_V || b == CONTROL_W

-- the letter of a kind of bytes
abbrev pub letter_of : Class → ℕ
letter_of class.Any = code "X"
letter_of class.Other = code "B"
letter_of class.Letter = code "A"
letter_of class.Digit = code "D"
letter_of class.LineEnd = code "L"
letter_of class.LetterOrDigit = code "R"
letter_of class.LowerCase = code "V"
letter_of class.UpperCase = code "W"

-- Another byte is itself, ^Q before a byte makes it itself, ^E and a letter in either case are a kind, ^X and ^S are two of the kinds.
pub data SpellsItem : List ℕ → SetItem → Type 0 where
  itself : (b : ℕ) → is_control b ≡ false → SpellsItem (b ∷ []) (item.Byte b)
  quoted : (b : ℕ) → SpellsItem (CONTROL_Q ∷ b ∷ []) (item.Byte b)
  named : (b : ℕ) (c : Class) → upper b ≡ letter_of c → SpellsItem (CONTROL_E ∷ b ∷ []) (item.Class c)
  any : SpellsItem (CONTROL_X ∷ []) (item.Class class.Any)
  other : SpellsItem (CONTROL_S ∷ []) (item.Class class.Other)

-- In a list a comma and ] are not themselves.
pub record SpellsListed (t : List ℕ) (i : SetItem) : Type 0 where
  pub spelled : SpellsItem t i
  pub no_comma : t ≢ (code "," ∷ [])
  pub no_end : t ≢ (code "]" ∷ [])

-- items with a comma between two, and ] after the last
pub data SpellsItems : List ℕ → List SetItem → Type 0 where
  last : (t : List ℕ) (i : SetItem) → SpellsListed t i → SpellsItems (t ++ code "]" ∷ []) (i ∷ [])
  more : (t u : List ℕ) (i : SetItem) (is : List SetItem) → SpellsListed t i → SpellsItems u is
      → SpellsItems (t ++ code "," ∷ u) (i ∷ is)

-- an item, or a list after ^E[
pub data SpellsOne : List ℕ → OneByte → Type 0 where
  single : (t : List ℕ) (i : SetItem) → SpellsItem t i → SpellsOne t (one.Single i)
  listed : (t : List ℕ) (is : List SetItem) → SpellsItems t is → SpellsOne (CONTROL_E ∷ code "[" ∷ t) (one.Listed is)

-- ^E and S in either case is a run of blanks, and ^N before what one byte may be is its opposite.
pub data SpellsElement : List ℕ → Element → Type 0 where
  blanks : (b : ℕ) → upper b ≡ (code "S") → SpellsElement (CONTROL_E ∷ b ∷ []) element.Blanks
  among : (t : List ℕ) (c : OneByte) → SpellsOne t c → SpellsElement t (element.Among c)
  except : (t : List ℕ) (c : OneByte) → SpellsOne t c → SpellsElement (CONTROL_N ∷ t) (element.Except c)

-- A search text spells its elements one after the other.
pub data Spells : List ℕ → List Element → Type 0 where
  nothing : Spells [] []
  next : (t u : List ℕ) (e : Element) (es : List Element) → SpellsElement t e → Spells u es
      → Spells (t ++ u) (e ∷ es)

-- no elements at all
abbrev pub SpellsNothing : List ℕ → Type 0
SpellsNothing text = (es : List Element) → Spells text es → ⊥
