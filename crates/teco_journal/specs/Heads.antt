-- The head of a session's file: the version, what the session begins with, and a check of both.
use Rattle.std.specs.Prelude.{ℕ, ◌<◌, ◌^◌, List, ◌++◌, Option, Some, None, length, codes, decimal}
use Rattle.teco_core.specs.declared.profile.Profile.{Profile}
use Rattle.teco_core.specs.declared.profile.Profile.TheVariants.{Named, Wide}
use Rattle.teco_journal.specs.declared.start.Start.{Start}
use Rattle.teco_journal.specs.Events.{Event}
use Rattle.teco_journal.specs.Lines.{check_of, line_of, written}

-- What a session begins with: its profile, the lines of a page, the depth of its history, and its input.
pub record Beginning : Type 0 where
  pub profile : Profile
  pub lines : ℕ
  pub depth : Option ℕ
  pub input : List ℕ

abbrev pub beginning_in : Start → Beginning
beginning_in start = record { profile = start.profile; lines = start.lines; depth = start.depth; input = start.input.now }

-- A number of 64 bits, a depth of so many or none, and an input whose length is one.
abbrev pub FitsNumber : ℕ → Type 0
FitsNumber n = n < 2 ^ 64

abbrev pub FitsDepth : Option ℕ → Type 0
FitsDepth (Some depth) = FitsNumber depth
FitsDepth None = Unit {0}

abbrev pub FitsInput : List ℕ → Type 0
FitsInput input = FitsNumber (length input)

-- A head can tell it.
abbrev pub HasHead : Beginning → Type 0
HasHead beginning = FitsNumber beginning.lines × FitsDepth beginning.depth × FitsInput beginning.input

abbrev pub number_line : List ℕ → ℕ → List ℕ
number_line word n = word ++ decimal n ++ codes "\n"

-- A depth of `-` keeps every string.
abbrev pub depth_line : Option ℕ → List ℕ
depth_line (Some depth) = number_line (codes "depth ") depth
depth_line None = codes "depth -\n"

-- The input has its length in front of it, so that it may have any bytes.
abbrev pub input_lines : List ℕ → List ℕ
input_lines input = number_line (codes "input ") (length input) ++ input ++ codes "\n"

abbrev pub start_lines : Beginning → List ℕ
start_lines beginning = number_line (codes "lines ") beginning.lines ++ depth_line beginning.depth ++ input_lines beginning.input

-- The line of the version tells the profile.
abbrev pub version : Profile → List ℕ
version Named = codes "teco session 1\n"
version Wide = codes "teco session 1 wide\n"

unfoldable pub head_of : Beginning → List ℕ
head_of beginning = version beginning.profile ++ start_lines beginning

-- the words of the last line of a head
abbrev pub begun : List ℕ
begun = codes "begun\n"

-- The last line has a check of all the head before it, which is the last check for the first record.
abbrev pub first_check : Beginning → List ℕ
first_check beginning = check_of (head_of beginning) begun

abbrev pub whole_head : Beginning → List ℕ
whole_head beginning = head_of beginning ++ line_of (head_of beginning) begun

-- what the file of a session holds
abbrev pub file_of : Beginning → List Event → List ℕ
file_of beginning events = whole_head beginning ++ written (first_check beginning) events
