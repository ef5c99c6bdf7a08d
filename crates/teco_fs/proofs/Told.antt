-- What is told: bytes that were put, and the line of a reason.
use Rattle.std.proofs.Common.{◌≡◌, ℕ, List, ◌++◌, Result, Ok, Err, inl, inr, subst, append_assoc}
use Rattle.teco_io.specs.Terminal.{Puts, Screen}
use Rattle.teco_fs.specs.Refusing.{Tells}

-- A put tells the text, or a beginning of it.
pub told_by : {A E : Type 0} {old new : Screen} {bytes text : List ℕ} (result : Result A E) → bytes ≡ text → Puts old new bytes result → Tells old new text
told_by {old} {new} (Ok done) same puts = subst (Tells old new) same (inl puts)
told_by {old} {new} (Err fault) same puts = subst (Tells old new) same (inr puts)

-- the parts of a line, one after another
pub parts_joined : (head what name colon why end : List ℕ) → head ++ (what ++ (name ++ (colon ++ (why ++ end)))) ≡ head ++ (what ++ name ++ colon ++ why) ++ end
parts_joined head what name colon why end = simp append_assoc
