-- What the file of a session holds.
use Rattle.std.specs.Prelude.{◌≡◌, ℕ, List, ◌++◌}
use Rattle.teco_journal.specs.declared.session_file.SessionFault.{SessionFault}
use Rattle.teco_journal.specs.declared.session_file.SessionFault.TheVariants as why
use Rattle.teco_journal.specs.Events.{Event}
use Rattle.teco_journal.specs.Reading.{Tells}
use Rattle.teco_journal.specs.Heads.{Beginning, HasHead, first_check, whole_head}
use Rattle.teco_journal.specs.HeadFaults.{HeadFails}

-- A head with this beginning stands at the front, and the bytes after it tell these events.
pub record Holds (bytes : List ℕ) (beginning : Beginning) (es : List Event) : Type 0 where
  pub fits : HasHead beginning
  pub rest : List ℕ
  pub head : bytes ≡ whole_head beginning ++ rest
  pub tells : Tells (first_check beginning) rest es

-- why bytes are not read
abbrev pub FileFails : List ℕ → SessionFault → Type 0
FileFails bytes (why.Head fault) = HeadFails bytes fault
FileFails bytes why.Memory = Unit {0}
