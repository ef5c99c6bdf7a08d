-- What the code found of blocks, as what it means: places as the bytes from there.
use Rattle.std.specs.Prelude.{ℕ, List, drop, Option, Some, None, Result, Ok, Err}
use Rattle.teco_core.specs.declared.code.Code.{Code}
use Rattle.teco_scan.specs.declared.blocks.SkipEnd.{SkipEnd}
use Rattle.teco_scan.specs.Lists.{Close, closed, broken, Past}

-- how a skip closed
abbrev pub close_of : List ℕ → Result SkipEnd Code → Close
close_of bs (Ok stop) = closed stop.divided (drop stop.to bs)
close_of bs (Err c) = broken c

-- the bytes after what was passed up to a place
abbrev pub past_of : List ℕ → Result ℕ Code → Past
past_of bs (Ok to) = Ok (drop to bs)
past_of bs (Err c) = Err c

-- the bytes after a tag that was found
abbrev pub tag_of : List ℕ → Option ℕ → Option (List ℕ)
tag_of bs (Some to) = Some (drop to bs)
tag_of bs None = None
