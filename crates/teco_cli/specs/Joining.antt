-- The words as the parser reads them: an option that takes a value has the next word as its value, whatever that
-- begins with. The parser would take a word that begins with a hyphen for an option.
use Rattle.std.specs.Prelude.{ℕ, Bool, false, ◌&&◌, ◌||◌, ◌==◌, ◌++◌, List, [], ◌∷◌, length, nat_lt, codes, if◌then◌else◌, Option, Some, None}
use Rattle.std.specs.List.{list_any}
use Rattle.std.specs.Str.{bytes_eq}
use Rattle.clap.specs.Words.{Rule, Text}
use Rattle.teco_cli.specs.Options.{option_rules}
use Prim.Native.Char.{code}

-- the word is --name, with nothing after it
abbrev pub is_long : Text → Option Text → Bool
is_long word None = false
is_long word (Some name) = bytes_eq word (codes "--" ++ name)

-- the word is -x, with nothing after it
abbrev pub is_short : Text → Option ℕ → Bool
is_short word None = false
is_short word (Some letter) = bytes_eq word (codes "-" ++ (letter ∷ []))

-- the word is the name of this option or its letter, and the option takes a value
abbrev pub wants_value : Text → Rule → Bool
wants_value word rule = nat_lt 0 rule.value_names && (is_long word rule.long || is_short word rule.short)

-- a hyphen, 45
abbrev pub begins_with_hyphen : Text → Bool
begins_with_hyphen [] = false
begins_with_hyphen (b ∷ bytes) = b == code "-"

-- the word and the next one are an option and its value, which the parser would take for an option
abbrev pub is_joined : Text → Text → Bool
is_joined word next = list_any (wants_value word) option_rules && begins_with_hyphen next

-- The word of an option and its value as one word: -xVALUE, or --name=VALUE.
abbrev pub with_value : Text → Text → Text
with_value word value = if length word == 2 then word ++ value else word ++ (codes "=" ++ value)

-- the words after the program's name; after -- no word is an option
unfoldable pub joined_after : List Text → List Text
joined_after [] = []
joined_after (word ∷ []) = word ∷ []
joined_after (word ∷ next ∷ words) =
    if bytes_eq word (codes "--") then word ∷ next ∷ words
    else if is_joined word next then with_value word next ∷ joined_after words
    else word ∷ joined_after (next ∷ words)

abbrev pub joined : List Text → List Text
joined [] = []
joined (name ∷ words) = name ∷ joined_after words
