-- The nodes of some texts with blocks, and what comes after some tags, by computing.
use Rattle.std.specs.Prelude.{◌≡◌, ℕ, zero, suc, true, [], replicate, ◌++◌, codes, Some, None}
use Rattle.std.proofs.Common.{refl}
use Prim.Native.String.{String}
use Rattle.teco_core.specs.declared.code.Code.TheVariants.{Bni, Ill, Iqn, Iqc, Pdo, Utc}
use Rattle.teco_core.specs.declared.profile.Profile.TheVariants.{Named}
use Rattle.teco_scan.specs.declared.command.Bare.TheVariants as group
use Rattle.teco_scan.specs.declared.command.Command.TheVariants.{Jump, Leave}
use Rattle.teco_scan.specs.declared.command.TextCommand.TheVariants.{Insert, Go}
use Rattle.teco_scan.specs.declared.command.Test.TheVariants.{Zero, Above}
use Rattle.teco_scan.specs.Scan.{digits, bare, text, no_modifiers}
use Rattle.teco_scan.specs.Scan as token
use Rattle.teco_scan.specs.Tree.{Nodes, done, item, escape, iter, cond, tag, faulty, after_tag}
use Rattle.teco_scan.specs.Lists.{nodes, tag_at}
use Rattle.teco_scan.proofs.Rows.{keys}
use Rattle.teco_scan.proofs.TreeRows.{computing_trees}

abbrev plain : token.Item → Nodes → Nodes
plain i n = item no_modifiers i n

abbrev number : String → Nodes → Nodes
number written n = plain (digits (codes written)) n

abbrev jump : Nodes → Nodes
jump n = plain (bare (group.Command Jump)) n

abbrev leave : Nodes → Nodes
leave n = plain (bare (group.Command Leave)) n

abbrev grows : String → Nodes → Type 0
grows written n = nodes Named (keys written) ≡ n

-- iterations, and conditionals with and without a second part
blocks : grows "<J>2" (iter (jump done) (number "2" done))
    × grows "<>" (iter done done)
    × grows "3< 2; >$" (number "3" (iter (number "2" (leave done)) (escape done)))
    × grows "<<J>2>J" (iter (iter (jump done) (number "2" done)) (jump done))
    × grows "1\"E2|3'4" (number "1" (cond Zero (number "2" done) (number "3" done) (number "4" done)))
    × grows "1\"E2'4" (number "1" (cond Zero (number "2" done) done (number "4" done)))
    × grows "1\"g|'" (number "1" (cond Above done done done))
    × grows "<1\"E;|<J>'>" (iter (number "1" (cond Zero (leave done) (iter (jump done) done) done)) done)
    × grows "1\"E<J>|2\"G3'4'5" (number "1" (cond Zero (iter (jump done) done) (number "2" (cond Above (number "3" done) done (number "4" done))) (number "5" done)))
    × grows "!a!<!b!>Oa$" (tag (codes "a") (iter (tag (codes "b") done) (plain (text Go (codes "a")) done)))
unfolding computing_trees
blocks = (refl, refl, refl, refl, refl, refl, refl, refl, refl, refl)

-- a mark inside a text or a tag's name is none
marks_in_texts : grows "<Ia>b$>J" (iter (plain (text Insert (codes "a>b")) done) (jump done))
    × grows "<@I|>|>" (iter (item (record { at = true; colons = 0 }) (text Insert (codes ">")) done) done)
    × grows "<!>!>" (iter (tag (codes ">") done) done)
    × grows "1\"EI|'$2|3'" (number "1" (cond Zero (plain (text Insert (codes "|'")) (number "2" done)) (number "3" done) done))
unfolding computing_trees
marks_in_texts = (refl, refl, refl, refl)

-- a fault is the last node of every open block, and follows each of them
faults : grows "<?" (iter (faulty Ill) (faulty Ill))
    × grows "<" (iter (faulty Utc) (faulty Utc))
    × grows "1\"E2" (number "1" (cond Zero (number "2" (faulty Utc)) done (faulty Utc)))
    × grows "1\"E2|" (number "1" (cond Zero (number "2" done) (faulty Utc) (faulty Utc)))
    × grows "1\"E<J?>|2'3" (number "1" (cond Zero (iter (jump (faulty Ill)) (faulty Ill)) done (faulty Ill)))
    × grows "1\"E2|<\"?" (number "1" (cond Zero (number "2" done) (iter (faulty Iqc) (faulty Iqc)) (faulty Iqc)))
    × grows "<<Q?" (iter (iter (faulty Iqn) (faulty Iqn)) (faulty Iqn))
    × grows "<Ia>" (iter (faulty Utc) (faulty Utc))
unfolding computing_trees
faults = (refl, refl, refl, refl, refl, refl, refl, refl)

-- `>` where no iteration is innermost is BNI; `|` and `'` where no such part of a conditional is are ILL
strays : grows ">" (faulty Bni)
    × grows "2|3" (number "2" (faulty Ill))
    × grows "'" (faulty Ill)
    × grows "<|>" (iter (faulty Ill) (faulty Ill))
    × grows "<'>" (iter (faulty Ill) (faulty Ill))
    × grows "<1\"E>'" (iter (number "1" (cond Zero (faulty Bni) done (faulty Bni))) (faulty Bni))
    × grows "1\"E|>" (number "1" (cond Zero done (faulty Bni) (faulty Bni)))
    × grows "1\"E2|3|4'" (number "1" (cond Zero (number "2" done) (number "3" (faulty Ill)) (faulty Ill)))
    × grows "<J>>" (iter (jump done) (faulty Bni))
unfolding computing_trees
strays = (refl, refl, refl, refl, refl, refl, refl, refl, refl)

-- iterations in one another, with this node in the innermost one and after each
nested : ℕ → Nodes → Nodes
nested zero n = n
nested (suc k) n = iter (nested k n) n

-- and with this node in the innermost one alone
around : ℕ → Nodes → Nodes
around zero n = n
around (suc k) n = iter (around k n) done

-- 64 blocks may be open, and the 65th is PDO
depth : (nodes Named (replicate 64 60 ++ codes "J" ++ replicate 64 62) ≡ around 64 (jump done))
    × (nodes Named (replicate 65 60) ≡ nested 64 (faulty Pdo))
unfolding computing_trees nested around
depth = (refl, refl)

-- what comes after the first tag of a name that is directly in the list, and its bytes
tags : (after_tag (codes "x") (nodes Named (keys "1!x!2!x!3")) ≡ Some (number "2" (tag (codes "x") (number "3" done))))
    × (after_tag (codes "x") (nodes Named (keys "<!x!>2!x!J")) ≡ Some (jump done))
    × (after_tag (codes "x") (nodes Named (keys "1\"E!x!|!x!'2!x!J")) ≡ Some (jump done))
    × (after_tag (codes "x") (nodes Named (keys "!X!!xx!!!2")) ≡ None)
    × (after_tag [] (nodes Named (keys "!X!!!2")) ≡ Some (number "2" done))
    × (after_tag (codes "x") (nodes Named (keys "?!x!")) ≡ None)
    × (after_tag (codes "x") (nodes Named (keys "<!x!")) ≡ None)
    × (tag_at Named (codes "x") 1 (keys "1!x!2>3") ≡ Some (codes "2>3"))
    × (tag_at Named (codes "x") 1 (keys "1>!x!3") ≡ None)
    × (tag_at Named (codes "x") 1 (keys "1|!x!'3") ≡ None)
    × (tag_at Named (codes "x") 1 (keys "!x!'3") ≡ Some (codes "'3"))
unfolding computing_trees
tags = (refl, refl, refl, refl, refl, refl, refl, refl, refl, refl, refl)
