-- What a check of a part of a text says of the walk.
use Rattle.std.specs.Prelude.{◌≡◌, ℕ, List, length, drop, Option, Some, None, Result, Ok, Err, if◌then◌else◌}
use Rattle.teco_core.specs.declared.profile.Profile.{Profile}
use Rattle.teco_scan.specs.declared.blocks.Kind.{Kind}
use Rattle.teco_scan.specs.declared.blocks.Kind.TheVariants.{Iter, Then, Else}
use Rattle.teco_scan.specs.declared.blocks.SkipEnd.{SkipEnd}
use Rattle.teco_check.specs.declared.faults.Fault.{Fault}
use Rattle.teco_check.specs.Checked.{lands_below}
use Rattle.teco_scan.specs.Walk.{OpenList, out_of}
use Rattle.teco_check.specs.Walk.{CodeRule, lands_in, check_walk}

-- The lists begin at these places, as far as a jump can tell.
abbrev pub BeginThere : Profile → List ℕ → List ℕ → List OpenList → Type 0
BeginThere p bytes starts lists = (name : List ℕ) → lands_in p bytes lists name ≡ lands_below p bytes starts (length lists) name

-- after a node that was checked up to a place
abbrev pub after_node : Profile → CodeRule → List ℕ → OpenList → List OpenList → Result ℕ Fault → Option Fault
after_node p code bytes o os (Ok to) = check_walk p code bytes o os (drop to bytes)
after_node p code bytes o os (Err fault) = Some fault

-- after a list that was checked up to its end or its `|`
abbrev pub after_stop : Profile → CodeRule → List ℕ → Option Kind → ℕ → List OpenList → SkipEnd → Option Fault
after_stop p code bytes None opening os stop = None
after_stop p code bytes (Some Iter) opening os stop = out_of (check_walk p code bytes) os (drop stop.to bytes)
after_stop p code bytes (Some Then) opening os stop =
    if stop.divided then check_walk p code bytes (record { kind = Some Else; opening = opening; start = stop.to }) os (drop stop.to bytes)
    else out_of (check_walk p code bytes) os (drop stop.to bytes)
after_stop p code bytes (Some Else) opening os stop = out_of (check_walk p code bytes) os (drop stop.to bytes)

abbrev pub after_list : Profile → CodeRule → List ℕ → Option Kind → ℕ → List OpenList → Result SkipEnd Fault → Option Fault
after_list p code bytes kind opening os (Ok stop) = after_stop p code bytes kind opening os stop
after_list p code bytes kind opening os (Err fault) = Some fault
