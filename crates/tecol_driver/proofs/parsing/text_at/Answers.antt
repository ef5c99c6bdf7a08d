use Rattle.std.proofs.Common.{◌≡◌, ◌∙◌, sym, ap, Some, None, codes}
use Rattle.std.specs.Prelude.{option_map, unwrap_or}
use Rattle.std.proofs.lemmas.Result.{IfOk-weaker}
use Rattle.clap.proofs.WalkLemmas.{first_value-rows}
use Rattle.clap.specs.Words.{first_of, found_of, rows_of}
use Rattle.tecol_driver.proofs.parsing.text_at.Goals as goal

pub returns-in-Some : goal.returns-in-Some
returns-in-Some c =
    let same = first_value-rows (found_of c.args.matches.now) c.args.name.now in
    let has : first_of c.args.name.now (rows_of (found_of c.args.matches.now)) ≡ Some c.in-Some.text.now =
    sym same ∙ (sym c.get_str.ensures ∙ ap (option_map (λ s. s.now)) c.in-Some.is) in
    IfOk-weaker c.from_str.result _ _ (λ text h. h ∙ sym (ap (λ o. unwrap_or o (codes "-")) has)) c.from_str.ensures.ok

pub returns-in-None : goal.returns-in-None
returns-in-None c =
    let same = first_value-rows (found_of c.args.matches.now) c.args.name.now in
    let has : first_of c.args.name.now (rows_of (found_of c.args.matches.now)) ≡ None =
    sym same ∙ (sym c.get_str.ensures ∙ ap (option_map (λ s. s.now)) c.in-None.is) in
    IfOk-weaker c.from_str-in-None.result _ _ (λ text h. h ∙ sym (ap (λ o. unwrap_or o (codes "-")) has)) c.from_str-in-None.ensures.ok
