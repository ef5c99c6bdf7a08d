use Rattle.std.proofs.Common.{◌≡◌, ◌+◌, ◌-◌, ◌∷◌, ◌++◌, ℕ, List, length, take, drop, Option, None, Some, sym, ap, ◌∙◌, subst}
use Rattle.std.proofs.lemmas.List.{take_rest}
use Rattle.std.proofs.lemmas.Result.{err_from_is_err_and}
use Rattle.memchr.specs.Find.{IsFirstByte, is_byte}
use Rattle.teco_journal.proofs.Cuts.{failed}
use Rattle.teco_journal.proofs.Digits.{all_lack, front_lacks_it, parted_there, cut_number_line, unended_number, other_number, this_number}
use Rattle.teco_journal.proofs.head_reader.number_after.Goals as goal

pub returns-in_err-rest : goal.returns-in_err-rest
returns-in_err-rest c =
    failed c.from_residual.result _ _ c.in_err-rest.field-0.0 (err_from_is_err_and c.from_residual.result c.from_residual.ensures.1)
    (cut_number_line c.args.word.now c.args.bytes.now c.in_err-rest.field-0.0 c.in_err-rest.ensures)

pub returns-in_default : goal.returns-in_default
returns-in_default c =
    let rest = c.in_ok-rest.rest.now in
    let none : c.memchr.result ≡ None = cc in
    unended_number c.args.word.now c.args.bytes.now rest c.fault_in_number.result c.in_ok-rest.ensures
    (all_lack 10 rest (subst (λ (r : Option ℕ). IsFirstByte (is_byte 10) rest r) none c.memchr.ensures)) c.fault_in_number.ensures

pub returns-in_default-exact_number : goal.returns-in_default-exact_number
returns-in_default-exact_number c =
    let rest = c.in_ok-rest.rest.now in
    let end = c.in-Some.end in
    let there : IsFirstByte (is_byte 10) rest (Some end) = subst (λ (r : Option ℕ). IsFirstByte (is_byte 10) rest r) c.in-Some.is c.memchr.ensures in
    other_number c.args.word.now c.args.bytes.now rest (take end rest) (drop (end + 1) rest) c.in_ok-rest.ensures
    (parted_there 10 end rest there) (front_lacks_it 10 end rest there) c.in_default-exact_number.ensures

pub returns : goal.returns
returns c =
    let rest = c.in_ok-rest.rest.now in
    let end = c.in-Some.end in
    let there : IsFirstByte (is_byte 10) rest (Some end) = subst (λ (r : Option ℕ). IsFirstByte (is_byte 10) rest r) c.in-Some.is c.memchr.ensures in (
      c.in-Some-exact_number.ensures.0,
      this_number c.args.word.now c.args.bytes.now rest (take end rest) (take (length rest - (end + 1)) (drop (end + 1) rest)) c.in-Some-exact_number.number
          c.in_ok-rest.ensures (parted_there 10 end rest there ∙ ap (λ (l : List ℕ). take end rest ++ 10 ∷ l) (sym (take_rest rest (end + 1))))
          c.in-Some-exact_number.ensures.1,
    )
