-- What a change is for, in numbers.
use Rattle.std.specs.Prelude.{ℕ, ◌+◌, ◌-◌, nat_lt, if◌then◌else◌}
use Rattle.teco_store.specs.declared.change_kind.ChangeKind.{ChangeKind}
use Rattle.teco_store.specs.declared.change_kind.ChangeKind.TheVariants.{Splice, Point, Number, Text, Push, Pop, Pages, Search, Found, Done, Mode}
use Rattle.teco_ffi.specs.declared.kinds.TheConstants.{SPLICE, POINT, NUMBER, TEXT, PUSH, POP, PAGES, SEARCH, FOUND, DONE, MODE}
use Prim.Native.Char.{code}

-- the number of a kind
abbrev pub kind_number : ChangeKind → ℕ
kind_number (Splice at gone came) = SPLICE
kind_number Point = POINT
kind_number (Number q) = NUMBER
kind_number (Text q) = TEXT
kind_number Push = PUSH
kind_number (Pop q) = POP
kind_number Pages = PAGES
kind_number Search = SEARCH
kind_number Found = FOUND
kind_number Done = DONE
kind_number Mode = MODE

-- the byte that names a register: A to Z are the registers 0 to 25, 0 to 9 the registers 26 to 35
abbrev pub register_name : ℕ → ℕ
register_name q = if nat_lt q 26 then code "A" + q else code "0" - 26 + q

-- the name of the register that a kind is for, or 0 where it is for none
abbrev pub name_in : ChangeKind → ℕ
name_in (Splice at gone came) = 0
name_in Point = 0
name_in (Number q) = register_name q
name_in (Text q) = register_name q
name_in Push = 0
name_in (Pop q) = register_name q
name_in Pages = 0
name_in Search = 0
name_in Found = 0
name_in Done = 0
name_in Mode = 0
