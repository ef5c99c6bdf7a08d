-- A number of each window of a text, so that most windows are told apart without a look at their bytes.
use Rattle.std.specs.Prelude.{◌≡◌, ℕ, zero, suc, ◌+◌, ◌*◌, ◌%◌, ◌^◌, ◌≤◌, List, length, slice_index}
use Rattle.teco_search.specs.declared.window.TheConstants.{BASE, MODULUS}
use Rattle.teco_search.specs.declared.window.Needle.{Needle}

-- so many bytes from a place on, as the digits of a number
unfoldable pub window_value : List ℕ → ℕ → ℕ → ℕ
window_value text at zero = 0
window_value text at (suc n) = window_value text at n * BASE + slice_index text (at + n)

-- the number of a window
abbrev pub window_number : List ℕ → ℕ → ℕ → ℕ
window_number text at n = window_value text at n % MODULUS

-- Added to the worth of the digit before so many others, it makes a multiple of the modulus.
pub record IsLeaving (leaving n : ℕ) : Type 0 where
  pub small : leaving ≤ MODULUS
  pub worthless : (leaving + BASE ^ n) % MODULUS ≡ 0

-- how windows are told from some bytes
pub record IsNeedleOf (needle : Needle) (bytes : List ℕ) : Type 0 where
  pub len : needle.len ≡ length bytes
  pub number : needle.number ≡ window_number bytes 0 (length bytes)
  pub leaving : IsLeaving needle.leaving needle.len

-- whether the window at a place has a needle's number
abbrev pub IsLike : List ℕ → Needle → ℕ → Type 0
IsLike text needle at = window_number text at needle.len ≡ needle.number
