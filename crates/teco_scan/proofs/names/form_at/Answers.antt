use Rattle.std.proofs.Common.{◌≡◌, List, None, Err, drop, sym, ap, subst, ◌∙◌}
use Rattle.std.specs.Prelude.{if◌then◌else◌}
use Rattle.teco_core.specs.declared.code.Code.TheVariants.{Ill, Utc}
use Rattle.teco_scan.specs.declared.command.Row.{Row}
use Rattle.teco_scan.specs.Scan.{row_at}
use Rattle.teco_scan.specs.FirstRow.{form_at}
use Rattle.teco_scan.proofs.FirstRow.{form_read}
use Rattle.teco_scan.proofs.names.form_at.Goals as goal

pub returns-in-Some-clause-read : goal.returns-in-Some-clause-read
returns-in-Some-clause-read c =
    let m = c.args.modifiers in
    let xs = drop c.args.at c.args.text.now in
    let first = c.first_row_at-first.result in
    let same = subst (λ (rows : List Row). row_at (drop first rows) m xs ≡ row_at rows m xs) (sym c.rows_of-rows.ensures) (c.first_row_at-first.ensures.same c.args.profile m) in
    ap (λ (rows : List Row). form_at rows m xs) (sym c.rows_of-rows.ensures) ∙ form_read c.rows_of-rows.result.now first m xs _ same c.in-Some.ensures.read

pub returns-then-is_cut-clause-read : goal.returns-then-is_cut-clause-read
returns-then-is_cut-clause-read c =
    let m = c.args.modifiers in
    let xs = drop c.args.at c.args.text.now in
    let first = c.first_row_at-first.result in
    let same = subst (λ (rows : List Row). row_at (drop first rows) m xs ≡ row_at rows m xs) (sym c.rows_of-rows.ensures) (c.first_row_at-first.ensures.same c.args.profile m) in
    ap (λ (rows : List Row). form_at rows m xs) (sym c.rows_of-rows.ensures) ∙ form_read c.rows_of-rows.result.now first m xs None same c.in-None.ensures.read
    ∙ ap (λ v. if v then Err Utc else Err Ill) (sym c.is_cut.ensures ∙ c.if-is_cut.true)

pub returns-else-is_cut-clause-read : goal.returns-else-is_cut-clause-read
returns-else-is_cut-clause-read c =
    let m = c.args.modifiers in
    let xs = drop c.args.at c.args.text.now in
    let first = c.first_row_at-first.result in
    let same = subst (λ (rows : List Row). row_at (drop first rows) m xs ≡ row_at rows m xs) (sym c.rows_of-rows.ensures) (c.first_row_at-first.ensures.same c.args.profile m) in
    ap (λ (rows : List Row). form_at rows m xs) (sym c.rows_of-rows.ensures) ∙ form_read c.rows_of-rows.result.now first m xs None same c.in-None.ensures.read
    ∙ ap (λ v. if v then Err Utc else Err Ill) (sym c.is_cut.ensures ∙ c.if-is_cut.false)
