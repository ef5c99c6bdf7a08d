-- The token at a place, as it is shown.
use Rattle.std.specs.Prelude.{ℕ, ◌-◌, Bool, ◌==◌, ◌||◌, not, List, [], length, take, drop, min, max}
use Rattle.std.specs.List.{prefix_len}
use Rattle.teco_core.specs.Ascii.{is_filler}
use Rattle.teco_core.specs.declared.profile.Profile.{Profile}
use Rattle.teco_scan.specs.Scan.{Scanned, found, ended, fault, scan, after_fillers}
use Rattle.teco_core.specs.declared.ascii.TheConstants.{ESC}

abbrev pub ends_word : ℕ → Bool
ends_word b = is_filler b || b == ESC

-- the bytes up to a filler or an ESC, at least one and at most so many
abbrev pub word_len : List ℕ → ℕ → ℕ
word_len bytes most = max 1 (min most (prefix_len (λ b. not (ends_word b)) bytes))

-- what a token takes of these bytes before the rest
abbrev pub before_rest : List ℕ → List ℕ → List ℕ
before_rest bytes rest = take (length bytes - length rest) bytes

abbrev pub token_of : Scanned → List ℕ → ℕ → List ℕ
token_of (found t rest) bytes most = before_rest (after_fillers bytes) rest
token_of ended bytes most = []
token_of (fault c) bytes most = take (word_len bytes most) bytes

-- the token at a place of a text, as it is spelled in a profile; where none begins, at most so many bytes
abbrev pub token_in : Profile → List ℕ → ℕ → ℕ → List ℕ
token_in p text at most = token_of (scan p (drop at text)) (drop at text) most
