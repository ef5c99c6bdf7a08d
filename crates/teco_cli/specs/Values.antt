-- What a parse gives for an argument.
use Rattle.std.specs.Prelude.{◌≡◌, ◌↔◌, ℕ, ◌^◌, ◌<◌, List, [], Option, Some, codes, map, option_map, unwrap_or}
use Rattle.std.specs.Borrow.{Bor}
use Rattle.std.specs.Str.Parse.{IsNumeral, digits_value, without_leading_plus}
use Rattle.clap.specs.Words.{Row, Text, one_of}
use Rattle.teco_core.specs.declared.profile.Profile.{Profile}
use Rattle.teco_core.specs.declared.profile.Profile.TheVariants.{Wide}

-- the number that a text spells in decimal digits, after a plus sign or none
abbrev pub number_of : Text → ℕ
number_of text = digits_value 10 (without_leading_plus text)

-- a text that is read as a number
abbrev pub IsNumber : Text → Type 0
IsNumber text = IsNumeral 10 (without_leading_plus text) × (number_of text < 2 ^ 64)

-- By a parse this is the language of the commands: the wider one if --wide is given.
abbrev pub IsProfile : List Row → Profile → Type 0
IsProfile rows profile = (profile ≡ Wide) ↔ (one_of (codes "wide") rows ≡ Some (codes "true"))

-- the text behind a reference, where there is one
abbrev pub text_behind : Option (Bor Text) → Option Text
text_behind = option_map (λ text. text.now)

-- the texts behind references, of which there may be none
abbrev pub texts_behind : Option (Bor (List (Bor Text))) → List Text
texts_behind texts = unwrap_or (option_map (λ all. map (λ text. text.now) all.now) texts) []
