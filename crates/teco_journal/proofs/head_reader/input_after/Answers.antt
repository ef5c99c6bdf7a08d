use Rattle.std.proofs.Common.{◌≡◌, ◌+◌, ◌<◌, ◌≤◌, ℕ, List, ◌++◌, length, take, get_or, arith, sym, ap, ◌∙◌, subst}
use Rattle.std.proofs.lemmas.List.{length-take-le, take_rest}
use Rattle.teco_journal.specs.Heads.{FitsNumber, input_lines}
use Rattle.std.proofs.lemmas.Result.{err_from_is_err_and}
use Rattle.teco_journal.proofs.Cuts.{failed}
use Rattle.teco_journal.proofs.HeadParts.{input_uncounted, input_cut_off, input_unended, input_found}
use Rattle.teco_journal.proofs.head_reader.input_after.Goals as goal

pub returns-in_err-length : goal.returns-in_err-length
returns-in_err-length c =
    failed c.from_residual.result _ _ c.in_err-length.field-0.0 (err_from_is_err_and c.from_residual.result c.from_residual.ensures.1)
    (input_uncounted c.args.bytes.now c.in_err-length.field-0.0 c.in_err-length.ensures)

pub returns-then-rest-length : goal.returns-then-rest-length
returns-then-rest-length c =
    let short : length c.in_ok-length.rest.now ≤ c.in_ok-length.length = omega arith in
    input_cut_off c.args.bytes.now c.in_ok-length.rest.now c.in_ok-length.length c.in_ok-length.ensures.0 c.in_ok-length.ensures.1 short

pub returns-then-rest-length-ne10 : goal.returns-then-rest-length-ne10
returns-then-rest-length-ne10 c =
    let less : c.in_ok-length.length < length c.in_ok-length.rest.now = omega arith in
    input_unended c.args.bytes.now c.in_ok-length.rest.now c.in_ok-length.length c.in_ok-length.ensures.0 c.in_ok-length.ensures.1 less (λ is. absurd (omega arith))

pub returns : goal.returns
returns c =
    let rest = c.in_ok-length.rest.now in
    let n = c.in_ok-length.length in
    let less : n < length rest = omega arith in
    let end : get_or rest n 0 ≡ 10 = omega arith in
    let long : length (take n rest) ≡ n = length-take-le n rest (omega arith) in (
      subst FitsNumber (sym long) c.in_ok-length.ensures.0,
      input_found c.args.bytes.now rest n c.in_ok-length.ensures.1 less end ∙ ap (λ (l : List ℕ). input_lines (take n rest) ++ l) (sym (take_rest rest (n + 1))),
    )
