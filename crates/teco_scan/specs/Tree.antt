-- The tree of a text: its nodes, and what comes after a tag.
use Rattle.std.specs.Prelude.{Bool, true, false, ℕ, List, Option, Some, None, if◌then◌else◌}
use Rattle.std.specs.Str.{bytes_eq}
use Rattle.teco_core.specs.declared.code.Code.{Code}
use Rattle.teco_core.specs.declared.code.Code.TheVariants.{Bni, Ill, Iqc, Iqn, Pdo, Utc}
use Rattle.teco_scan.specs.declared.command.Modifiers.{Modifiers}
use Rattle.teco_scan.specs.declared.command.Test.{Test}
use Rattle.teco_scan.specs.Scan.{Item}

-- the codes of a text's own faults
abbrev pub is_fault : Code → Bool
is_fault Ill = true
is_fault Iqn = true
is_fault Iqc = true
is_fault Utc = true
is_fault Bni = true
is_fault Pdo = true
is_fault c = false

-- A list of nodes: steps, ESC, iterations with their body, conditionals with their test and both parts, and tags. A fault is the last.
pub data Nodes : Type 0 where
  done : Nodes
  item : Modifiers → Item → Nodes → Nodes
  escape : Nodes → Nodes
  iter : Nodes → Nodes → Nodes
  cond : Test → Nodes → Nodes → Nodes → Nodes
  tag : List ℕ → Nodes → Nodes
  faulty : Code → Nodes

-- what comes after the first tag of this name that is directly in the list
abbrev pub after_tag : List ℕ → Nodes → Option Nodes
after_tag name done = None
after_tag name (item m i n) = after_tag name n
after_tag name (escape n) = after_tag name n
after_tag name (iter body n) = after_tag name n
after_tag name (cond t part other n) = after_tag name n
after_tag name (tag other n) = if bytes_eq other name then Some n else after_tag name n
after_tag name (faulty c) = None
