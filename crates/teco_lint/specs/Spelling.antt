-- Commands that are misspelt: they have a fault by which a run may end, of those that a check finds.
use Rattle.std.specs.Prelude.{ℕ, zero, suc, Bool, true, false, List, [], drop, Option, Some, None, if◌then◌else◌}
use Rattle.std.specs.List.{list_any}
use Rattle.teco_scan.specs.Scan.{Instruction, Scanned, step, set_text, found, scan}
use Rattle.teco_check.specs.Walk.{first_within}
use Rattle.teco_check.specs.declared.faults.Fault.{Fault}
use Rattle.teco_check.specs.declared.faults.TheConstants.{MOST_TEXTS}
use Rattle.teco_check.specs.declared.faults.Wrong.{Wrong}
use Rattle.teco_check.specs.declared.faults.Wrong.TheVariants as wrongs
use Rattle.teco_lint.specs.Strings.{is_request, strings_of}
use Rattle.teco_core.specs.declared.profile.Profile.{Profile}

-- the text that an instruction puts into a register; nothing where it puts none
abbrev pub put_by : Instruction → List ℕ
put_by (step (set_text q put)) = put
put_by instruction = []

-- the same of the first token of some bytes
abbrev pub put_first : Scanned → List ℕ
put_first (found t rest) = put_by t.instruction
put_first scanned = []

-- A run that comes to the fault ends by its code. A fault in a text that is put where code is counts if that text is misspelt. What
-- no check looks into is not misspelt.
abbrev pub misspelt_by : Profile → (List ℕ → Bool) → List ℕ → ℕ → Wrong → Bool
misspelt_by p inside bytes at wrongs.InText = inside (put_first (scan p (drop at bytes)))
misspelt_by p inside bytes at wrongs.Calls = false
misspelt_by p inside bytes at wrongs.Loads = false
misspelt_by p inside bytes at wrong = true

abbrev pub misspelt_at : Profile → (List ℕ → Bool) → List ℕ → Option Fault → Bool
misspelt_at p inside bytes None = false
misspelt_at p inside bytes (Some first) = misspelt_by p inside bytes first.at first.wrong

-- The first fault of a text makes it misspelt, where texts are looked into so many deep. What is deeper is not looked into.
unfoldable pub misspelt_within : Profile → ℕ → List Bool → List ℕ → Bool
misspelt_within p zero code bytes = misspelt_at p (λ inside. false) bytes (first_within p zero code bytes)
misspelt_within p (suc n) code bytes = misspelt_at p (misspelt_within p n code) bytes (first_within p (suc n) code bytes)

-- The text is misspelt, where these registers hold code.
abbrev pub is_misspelt_text : Profile → List Bool → List ℕ → Bool
is_misspelt_text p code text = misspelt_within p MOST_TEXTS code text

-- The string is a misspelt text.
abbrev pub is_misspelt_string : Profile → List Bool → List ℕ → Bool
is_misspelt_string p code string = if is_request string then false else is_misspelt_text p code string

-- One of the command strings is.
abbrev pub is_misspelt : Profile → List Bool → List ℕ → Bool
is_misspelt p code commands = list_any (is_misspelt_string p code) (strings_of commands)
