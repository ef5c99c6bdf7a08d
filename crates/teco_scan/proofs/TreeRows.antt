-- Trees of texts, worked.
use Rattle.std.specs.Prelude.{◌≡◌, ℕ, codes}
use Rattle.std.proofs.Common.{refl}
use Rattle.teco_core.specs.declared.code.Code.TheVariants.{Ill, Utc}
use Rattle.teco_core.specs.declared.profile.Profile.TheVariants.{Named}
use Rattle.teco_scan.specs.declared.command.Bare.TheVariants as group
use Rattle.teco_scan.specs.declared.command.Command.TheVariants.{Jump}
use Rattle.teco_scan.specs.declared.command.TextCommand.TheVariants.{Insert}
use Rattle.teco_scan.specs.Scan.{digits, bare, text, no_modifiers}
use Rattle.teco_scan.proofs.Rows.{computing, keys}
use Rattle.teco_scan.specs.Tree.{done, item, escape, faulty}
use Rattle.teco_scan.specs.Lists.{list_within, list_at, nodes, tag_within, tag_at}

-- all that a tree computes with
unfoldable pub computing_trees : ℕ
unfolding computing list_within list_at tag_within tag_at
computing_trees = 0

-- the tree of a text: without blocks a list, to its end or to its first fault
trees : (nodes Named (keys "") ≡ done)
    × (nodes Named (keys "2J $") ≡ item no_modifiers (digits (codes "2")) (item no_modifiers (bare (group.Command Jump)) (escape done)))
    × (nodes Named (keys "Ia>b$?=") ≡ item no_modifiers (text Insert (codes "a>b")) (faulty Ill))
    × (nodes Named (keys "1Ix") ≡ item no_modifiers (digits (codes "1")) (faulty Utc))
unfolding computing_trees
trees = (refl, refl, refl, refl)
