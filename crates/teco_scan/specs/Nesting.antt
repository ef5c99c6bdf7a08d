-- How the tokens of a text nest: a rule for each kind of node, and two for a conditional, which has one part or two.
use Rattle.std.specs.Prelude.{◌≡◌, ℕ, Bool, true, false, List, [], ◌∷◌, ◌++◌}
use Rattle.teco_core.specs.declared.code.Code.{Code}
use Rattle.teco_scan.specs.declared.command.Modifiers.{Modifiers}
use Rattle.teco_scan.specs.declared.command.Test.{Test}
use Rattle.teco_scan.specs.declared.command.BlockMark.{BlockMark}
use Rattle.teco_scan.specs.declared.command.BlockMark.TheVariants.{Iterate, EndIteration, Otherwise, EndTest}
use Rattle.teco_core.specs.declared.profile.Profile.{Profile}
use Rattle.teco_scan.specs.Scan.{Item, Instruction, TokenMeaning, found, ended, scan}
use Rattle.teco_scan.specs.Scan as token
use Rattle.teco_scan.specs.Tree.{Nodes, done, item, escape, iter, cond, tag, faulty}
use Rattle.teco_scan.specs.Lists.{nodes}

-- In a profile these tokens are read one after another, and the bytes after them are left.
pub data TokensRead (p : Profile) : List ℕ → List TokenMeaning → List ℕ → Type 0 where
  none_read : {bs : List ℕ} → TokensRead p bs [] bs
  one_read : {bs rest left : List ℕ} {t : TokenMeaning} {ts : List TokenMeaning} → scan p bs ≡ found t rest
      → TokensRead p rest ts left → TokensRead p bs (t ∷ ts) left

abbrev pub order : Modifiers → Instruction → TokenMeaning
order m i = record { modifiers = m; instruction = i }

-- no fault ends the list
unfoldable pub is_whole : Nodes → Bool
is_whole done = true
is_whole (item m i n) = is_whole n
is_whole (escape n) = is_whole n
is_whole (iter body n) = is_whole n
is_whole (cond t part other n) = is_whole n
is_whole (tag name n) = is_whole n
is_whole (faulty c) = false

-- After a whole list of nodes come its closing mark and these tokens; after a fault comes nothing.
abbrev pub Closes : Bool → BlockMark → List TokenMeaning → List TokenMeaning → Type 0
Closes true b ts closing = (m : Modifiers) × (closing ≡ order m (token.mark b) ∷ ts)
Closes false b ts closing = (ts ≡ []) × (closing ≡ [])

-- The tokens nest as the nodes say.
pub data Nests : Nodes → List TokenMeaning → Type 0 where
  done_nests : Nests done []
  fault_nests : {c : Code} → Nests (faulty c) []
  item_nests : {m : Modifiers} {i : Item} {n : Nodes} {ts : List TokenMeaning} → Nests n ts
      → Nests (item m i n) (order m (token.step i) ∷ ts)
  escape_nests : {m : Modifiers} {n : Nodes} {ts : List TokenMeaning} → Nests n ts
      → Nests (escape n) (order m token.escape ∷ ts)
  tag_nests : {m : Modifiers} {name : List ℕ} {n : Nodes} {ts : List TokenMeaning} → Nests n ts
      → Nests (tag name n) (order m (token.tag name) ∷ ts)
  iteration_nests : {m : Modifiers} {body n : Nodes} (inner ts closing : List TokenMeaning) → Nests body inner
      → Nests n ts
      → Closes (is_whole body) EndIteration ts closing
      → Nests (iter body n) (order m (token.mark Iterate) ∷ (inner ++ closing))
  one_part_nests : {m : Modifiers} {t : Test} {part n : Nodes} (inner ts closing : List TokenMeaning)
      → Nests part inner → Nests n ts
      → Closes (is_whole part) EndTest ts closing
      → Nests (cond t part done n) (order m (token.decide t) ∷ (inner ++ closing))
  two_parts_nest : {m : Modifiers} {t : Test} {part other n : Nodes} (k : Modifiers)
      (inner second ts closing : List TokenMeaning)
      → Nests part inner → is_whole part ≡ true → Nests other second → Nests n ts
      → Closes (is_whole other) EndTest ts closing
      → Nests (cond t part other n) (order m (token.decide t)
      ∷ (inner ++ (order k (token.mark Otherwise) ∷ (second ++ closing))))

-- The tokens of a text, up to its first fault, nest as its nodes say; where there is no fault they are all.
pub record IsNested (p : Profile) (bs : List ℕ) : Type 0 where
  pub tokens : List TokenMeaning
  pub left : List ℕ
  pub read : TokensRead p bs tokens left
  pub nests : Nests (nodes p bs) tokens
  pub whole : is_whole (nodes p bs) ≡ true → scan p left ≡ ended
