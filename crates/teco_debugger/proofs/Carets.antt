-- Where a caret stands that can't be read.
use Rattle.std.proofs.Common.{◌≡◌, ◌+◌, ◌-◌, ◌≤◌, ℕ, suc, List, [], ◌∷◌, Err, Bool, true, false, length, refl, arith}
use Rattle.teco_source.specs.Source.{State, commands_from, commands_of, ended_in, is_wrong, step}
use Rattle.teco_source.specs.declared.reader.Mode.{Mode}
use Rattle.teco_source.specs.declared.reader.Mode.TheVariants.{First, Margin, Blank, Text, Hash, Mark, Caret, Comment, Wrong}

-- The place of a caret that can't be read is in the source.
ended_within : (m : Mode) (s : State) (at p : ℕ) → ended_in m s at ≡ Err p → p ≤ at
ended_within Caret s at p e =
    let is : at - 1 ≡ p = cc in
    omega (arith, is)
ended_within Wrong s at p e =
    let is : at - 1 ≡ p = cc in
    omega (arith, is)
ended_within First s at p e = cc
ended_within Margin s at p e = cc
ended_within Blank s at p e = cc
ended_within Text s at p e = cc
ended_within Hash s at p e = cc
ended_within Mark s at p e = cc
ended_within Comment s at p e = cc

from_within : (bs : List ℕ) (s : State) (at p : ℕ) → commands_from s at bs ≡ Err p → p ≤ at + length bs
unfolding commands_from
from_within [] s at p e =
    let h = ended_within s.mode s at p e in
    omega (arith, h)
from_within (b ∷ bs) s at p e = go (is_wrong (step s b).mode) refl (from_within bs (step s b) (suc at) p)
  where
    go : (t : Bool) → is_wrong (step s b).mode ≡ t → (commands_from (step s b) (suc at) bs ≡ Err p → p ≤ suc at + length bs) → p ≤ at + suc (length bs)
    go true w rest =
        let is : Err (at - 1) ≡ Err p = rw w at e in
        let same : at - 1 ≡ p = cc in
        omega (arith, same)
    go false w rest =
        let is : commands_from (step s b) (suc at) bs ≡ Err p = rw w at e in
        let h = rest is in
        omega (arith, h)

pub caret_within : (source : List ℕ) (p : ℕ) → commands_of source ≡ Err p → p ≤ length source
caret_within source p e =
    let h = from_within source _ 0 p e in
    omega (arith, h)
