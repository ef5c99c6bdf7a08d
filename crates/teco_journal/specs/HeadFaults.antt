-- Why bytes begin with no head.
use Rattle.std.specs.Prelude.{◌≡◌, ◌≢◌, ℕ, ◌<◌, List, ◌++◌, length, decimal}
use Rattle.teco_core.specs.declared.profile.Profile.{Profile}
use Rattle.teco_journal.specs.declared.head_reader.HeadFault.{HeadFault}
use Rattle.teco_journal.specs.declared.head_reader.HeadFault.TheVariants.{Version, Torn, Changed}
use Rattle.teco_journal.specs.Heads.{Beginning, HasHead, FitsNumber, version, whole_head}
use Rattle.teco_journal.specs.Reading.{Begins}

-- Whatever comes after these bytes and those, they are not the same: neither is a front of the other.
abbrev pub Differ : List ℕ → List ℕ → Type 0
Differ these those = (x y : List ℕ) → these ++ x ≢ those ++ y

-- They are cut off before the end of a word.
abbrev pub IsCutOff : List ℕ → List ℕ → Type 0
IsCutOff bytes word = (more : List ℕ) × (0 < length more) × (word ≡ bytes ++ more)

-- why bytes don't begin with a word, with the line of the version of any profile, or with any of some words
abbrev pub FailsAt : List ℕ → List ℕ → HeadFault → Type 0
FailsAt word bytes Torn = IsCutOff bytes word
FailsAt word bytes Changed = Differ word bytes
FailsAt word bytes Version = ⊥

abbrev pub IsNoVersion : List ℕ → HeadFault → Type 0
IsNoVersion bytes Version = (p : Profile) → Differ (version p) bytes
IsNoVersion bytes Torn = (p : Profile) × IsCutOff bytes (version p)
IsNoVersion bytes Changed = ⊥

abbrev pub Fails : {A : Type 0} → (A → Type 0) → (A → List ℕ) → List ℕ → HeadFault → Type 0
Fails {A} Fits word_of bytes Torn = (a : A) × Fits a × IsCutOff bytes (word_of a)
Fails {A} Fits word_of bytes Changed = (a : A) → Fits a → Differ (word_of a) bytes
Fails Fits word_of bytes Version = ⊥

-- why a line that ends nowhere is none of a number
abbrev pub IsNoNumber : List ℕ → HeadFault → Type 0
IsNoNumber digits Torn = (n : ℕ) × FitsNumber n × (more : List ℕ) × (decimal n ≡ digits ++ more)
IsNoNumber digits Changed = (n : ℕ) (more : List ℕ) → FitsNumber n → decimal n ≢ digits ++ more
IsNoNumber digits Version = ⊥

-- No head stands at the front.
abbrev pub HasNoHead : List ℕ → Type 0
HasNoHead bytes = (beginning : Beginning) → HasHead beginning → Begins (whole_head beginning) bytes → ⊥

-- Version: for no profile do they begin with the line of the version, nor are they a front of it. Torn: they are a front of a head, and
-- end before it does. Changed: they begin with such a line, and are no front of a head.
abbrev pub HeadFails : List ℕ → HeadFault → Type 0
HeadFails bytes Version = (p : Profile) → Differ (version p) bytes
HeadFails bytes Torn = (beginning : Beginning) × HasHead beginning × IsCutOff bytes (whole_head beginning)
HeadFails bytes Changed = (p : Profile) × Begins (version p) bytes × ((beginning : Beginning) → HasHead beginning → Differ (whole_head beginning) bytes)
