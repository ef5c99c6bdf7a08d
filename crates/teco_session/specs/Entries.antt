-- The entries of strings, as contracts see them.
use Rattle.std.specs.Prelude.{ℕ, ◌<◌, List, map, Option, Some, None, vec_len}
use Rattle.std.specs.Vec.{vec_capacity}
use Rattle.teco_session.specs.Strings.{KeptString}
use Rattle.teco_session.specs.declared.entries.Entries.{Entries}
use Rattle.teco_session.specs.declared.entries.Entries.TheVariants.{All, Last}
use Rattle.teco_session.specs.declared.entry.Entry.{Entry}

abbrev pub kept_string : Entry → KeptString
kept_string entry = record { text = entry.text; steps = entry.steps; changes = entry.changes }

-- the strings that are kept, the oldest first
abbrev pub strings_of : Entries → List KeptString
strings_of (All all) = map kept_string all.items
strings_of (Last ring) = map kept_string ring.items

-- how many are kept, if there is a bound
abbrev pub depth_of : Entries → Option ℕ
depth_of (All all) = None
depth_of (Last ring) = Some ring.capacity

-- One more can be noted without memory.
abbrev pub HasPlace : Entries → Type 0
HasPlace (All all) = vec_len all < vec_capacity all
HasPlace (Last ring) = Unit {0}
