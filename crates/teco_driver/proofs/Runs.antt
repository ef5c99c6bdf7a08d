-- What lines that the same words say have in common, and runs one after another.
use Rattle.std.proofs.Common.{◌≡◌, ◌++◌, ◌&&◌, not, Bool, Option, ℕ, List, [], ◌∷◌, Ok, Err, refl, sym, ◌∙◌, ap, subst, true, false, true≢false}
use Rattle.std.specs.Prelude.{◌↔◌, IsTrue, codes, is_some}
use Rattle.teco_cli.specs.Conflict.{are_awaited}
use Rattle.clap.specs.Words.{Row, first_of}
use Rattle.teco_cli.specs.Options.{HasLine, IsCommands, SaysCommands, has_sources, option_texts}
use Rattle.teco_driver.specs.Reporting.{has_notes}
use Rattle.teco_cli.specs.declared.line.Commands.{Commands}
use Rattle.teco_cli.specs.declared.line.Commands.TheVariants.{StandardInput, Sources, Pages, Bytes}
use Rattle.teco_cli.specs.declared.line.Line.{Line}
use Rattle.teco_cli.specs.CommandLine.{IsLine}
use Rattle.teco_cli.specs.Words.{IsLineIn, Words}
use Rattle.teco_driver.specs.Lines.{worse, worst}
use Rattle.teco_driver.specs.Runs.{Chain}

-- One run more, after those in order.
pub chain_more : {W : Type 0} (link : List ℕ → W → W → ℕ → Type 0) (inputs : List (List ℕ)) (input : List ℕ) (old mid new : W) (statuses : List ℕ) (status : ℕ)
    → Chain link inputs old mid statuses → link input mid new status → Chain link (inputs ++ input ∷ []) old new (statuses ++ status ∷ [])
chain_more link [] input old mid new statuses status h one =
    (new, status, [], ap (λ es. es ++ status ∷ []) h.1, subst (λ w. link input w new status) h.0 one, (refl, refl))
chain_more link (l ∷ ls) input old mid new statuses status h one =
    (h.0, h.1, h.2 ++ status ∷ [], ap (λ es. es ++ status ∷ []) h.3, h.4, chain_more link ls input h.0 mid new h.2 status h.5 one)

-- The worst status with one more.
pub worst_more : (so_far : ℕ) (xs : List ℕ) (x : ℕ) → worst so_far (xs ++ x ∷ []) ≡ worse (worst so_far xs) x
worst_more so_far [] x = refl
worst_more so_far (y ∷ ys) x = worst_more (worse so_far y) ys x

-- two flags that mean the same
same_flag : {P : Type 0} (a b : Bool) → (IsTrue a ↔ P) → (IsTrue b ↔ P) → a ≡ b
same_flag true true p q = refl
same_flag false false p q = refl
same_flag true false p q = absurd (true≢false (sym (q.1 (p.0 refl))))
same_flag false true p q = absurd (true≢false (sym (p.1 (q.0 refl))))

-- whether commands are awaited, by what is given
abbrev awaited_by : Option (List ℕ) → List (List ℕ) → Option (List ℕ) → Option (List ℕ) → Bool
awaited_by word files pages bytes = not (has_sources word files) && (not (is_some pages) && not (is_some bytes))

awaited_of : (word : Option (List ℕ)) (files : List (List ℕ)) (pages bytes : Option (List ℕ)) (commands : Commands) → IsCommands word files pages bytes commands
    → are_awaited commands ≡ awaited_by word files pages bytes
awaited_of word files pages bytes StandardInput h = rw (h.0, h.1, h.2) refl
awaited_of word files pages bytes (Sources names text) h = rw h.0 refl
awaited_of word files pages bytes (Pages text) h = rw (h.0, h.1) refl
awaited_of word files pages bytes (Bytes name) h = rw (h.0, h.1, h.2) refl

-- the same by a parse
abbrev awaited_in : List Row → Bool
awaited_in rows = awaited_by (first_of (codes "execute") rows) (option_texts (codes "file") rows) (first_of (codes "pages") rows) (first_of (codes "bytes") rows)

awaited_by_rows : (rows : List Row) (commands : Commands) → SaysCommands rows commands → are_awaited commands ≡ awaited_in rows
awaited_by_rows rows commands says =
    awaited_of (first_of (codes "execute") rows) (option_texts (codes "file") rows) (first_of (codes "pages") rows) (first_of (codes "bytes") rows) commands says

same_awaited : (rows : List Row) (line other : Line) → HasLine rows line → HasLine rows other → are_awaited line.commands ≡ are_awaited other.commands
same_awaited rows line other is same = awaited_by_rows rows line.commands is.commands ∙ sym (awaited_by_rows rows other.commands same.commands)

-- Of two lines that the same words say, both have something told on the notes or neither.
pub same_notes : (words : Words) (line other : Line) → IsLineIn IsLine words line → IsLineIn IsLine words other
    → has_notes other ≡ false → has_notes line ≡ false
same_notes (Ok words) line other is same off =
    let explain = same_flag line.explain other.explain is.given.explain same.given.explain in
    let quiet = same_flag line.quiet other.quiet is.given.quiet same.given.quiet in
    let awaited = same_awaited _ line other is.given same.given in
    rw (explain, quiet, awaited) off
same_notes (Err fault) line other is same off = absurd is
