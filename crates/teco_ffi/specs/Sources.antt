-- What is told of a source.
use Rattle.std.specs.Prelude.{◌≡◌, ℕ, List, length, Ok, Err}
use Rattle.teco_messages.specs.Spot.{spot_of}
use Rattle.teco_source.specs.Source.{commands_of}
use Rattle.teco_ffi.specs.Rooms.{filled}
use Rattle.teco_ffi.specs.declared.sources.ToldSource.{ToldSource}

-- Nothing is told.
pub record IsNoSourceTold (told : ToldSource) : Type 0 where
  pub made : told.made ≡ 0
  pub line : told.line ≡ 0
  pub column : told.column ≡ 0

-- The source stands for these bytes. They are copied, as many as there is room for, and how many they are is told.
pub record IsSourceTold (source before after : List ℕ) (told : ToldSource) : Type 0 where
  pub bytes : List ℕ
  pub read : commands_of source ≡ Ok bytes
  pub room : after ≡ filled before bytes
  pub made : told.made ≡ length bytes
  pub line : told.line ≡ 0
  pub column : told.column ≡ 0

-- The first caret that stands before what it can't stand before is at this place, whose line and column are told.
pub record IsCaretTold (source : List ℕ) (told : ToldSource) : Type 0 where
  pub at : ℕ
  pub wrong : commands_of source ≡ Err at
  pub made : told.made ≡ 0
  pub line : told.line ≡ (spot_of source at).line
  pub column : told.column ≡ (spot_of source at).column
