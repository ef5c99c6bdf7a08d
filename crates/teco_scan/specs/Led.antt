-- What the first byte of a token tells of it.
use Rattle.std.specs.Prelude.{◌≡◌, ◌≤◌, ◌<◌, ℕ, List, ◌∷◌, Ok, false, drop, length, slice_index}
use Rattle.teco_core.specs.Ascii.{is_digit}
use Rattle.teco_scan.specs.declared.command.Form.{Form}
use Rattle.teco_scan.specs.declared.command.Form.TheVariants as form
use Rattle.teco_core.specs.declared.profile.Profile.{Profile}
use Rattle.teco_scan.specs.FirstRow.{named_at}
use Rattle.teco_scan.specs.Scan.{rows_of, after_fillers, no_modifiers}
use Rattle.teco_scan.specs.Spelling.{test_form}

-- A token begins at a place, or a fault: the fillers from an earlier place on end there, and a byte is left.
pub record Begins (bs : List ℕ) (at from : ℕ) : Type 0 where
  pub rest : drop from bs ≡ after_fillers (drop at bs)
  pub after : at ≤ from
  pub inside : from < length bs

-- The form of a row of a profile, by that of the same row of Named. Wide has more tests, and else the same forms.
abbrev pub form_in : Profile → Form → Form
form_in p form.Test = test_form p
form_in p f = f

-- Its first byte is no digit, and alone names a command of this form, whatever follows. It does so in each profile.
pub record IsLed (bs : List ℕ) (at from : ℕ) (form : Form) : Type 0 where
  pub begins : Begins bs at from
  pub no_digit : is_digit (slice_index bs from) ≡ false
  pub named : (p : Profile) (rest : List ℕ) → named_at (rows_of p) (slice_index bs from ∷ rest)
      ≡ Ok ((no_modifiers, form_in p form), rest)
