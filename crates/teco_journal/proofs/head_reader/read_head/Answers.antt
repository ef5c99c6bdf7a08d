use Rattle.std.proofs.Common.{◌≡◌, ◌++◌, ℕ, List, ap, ◌∙◌}
use Rattle.std.specs.Prelude.{codes}
use Rattle.std.proofs.lemmas.Result.{err_from_is_err_and}
use Rattle.teco_journal.specs.Heads.{Beginning, begun, first_check, head_of, beginning_in}
use Rattle.teco_journal.specs.Lines.{check_of}
use Rattle.teco_journal.proofs.Cuts.{failed}
use Rattle.teco_journal.proofs.WholeHeads.{no_version, no_start, no_last_line, refused_has_none, head_found, head_front, last_line_is, whole_found}
use Rattle.teco_journal.proofs.head_reader.read_head.Goals as goal

pub returns-in_err-profile-clause-none : goal.returns-in_err-profile-clause-none
returns-in_err-profile-clause-none c =
    let fault = c.in_err-profile.field-0.0 in
    failed c.from_residual.result _ _ fault (err_from_is_err_and c.from_residual.result c.from_residual.ensures.1)
    (refused_has_none c.args.bytes.now fault (no_version c.args.bytes.now fault c.in_err-profile.ensures))

pub returns-in_err-profile-clause-fault : goal.returns-in_err-profile-clause-fault
returns-in_err-profile-clause-fault c =
    let fault = c.in_err-profile.field-0.0 in
    failed c.from_residual.result _ _ fault (err_from_is_err_and c.from_residual.result c.from_residual.ensures.1) (no_version c.args.bytes.now fault c.in_err-profile.ensures)

pub returns-in_err-start-clause-none : goal.returns-in_err-start-clause-none
returns-in_err-start-clause-none c =
    let fault = c.in_err-start.field-0.0 in
    failed c.from_residual-in_err-start.result _ _ fault (err_from_is_err_and c.from_residual-in_err-start.result c.from_residual-in_err-start.ensures.1)
    (refused_has_none c.args.bytes.now fault (no_start c.in_ok-profile.profile c.args.bytes.now c.in_ok-profile.rest.now fault c.in_ok-profile.ensures c.in_err-start.ensures))

pub returns-in_err-start-clause-fault : goal.returns-in_err-start-clause-fault
returns-in_err-start-clause-fault c =
    let fault = c.in_err-start.field-0.0 in
    failed c.from_residual-in_err-start.result _ _ fault (err_from_is_err_and c.from_residual-in_err-start.result c.from_residual-in_err-start.ensures.1)
    (no_start c.in_ok-profile.profile c.args.bytes.now c.in_ok-profile.rest.now fault c.in_ok-profile.ensures c.in_err-start.ensures)

pub returns-in_err-rest-clause-none : goal.returns-in_err-rest-clause-none
returns-in_err-rest-clause-none c =
    let bytes = c.args.bytes.now in
    let left = c.in_ok-start.rest.now in
    let beginning : Beginning = beginning_in c.in_ok-start.start in
    let check = c.check_of-check.result in
    let fault = c.in_err-rest.field-0.0 in
    let is : bytes ≡ head_of beginning ++ left = head_found c.in_ok-profile.profile bytes c.in_ok-profile.rest.now left beginning c.in_ok-profile.ensures c.in_ok-start.ensures.0 c.in_ok-start.ensures.2 in
    let same : check ≡ first_check beginning = c.check_of-check.ensures ∙ ap (λ (l : List ℕ). check_of l begun) (head_front bytes left beginning is) in
    failed c.from_residual-in_err-rest.result _ _ fault (err_from_is_err_and c.from_residual-in_err-rest.result c.from_residual-in_err-rest.ensures.1)
    (refused_has_none bytes fault
    (no_last_line c.in_ok-profile.profile bytes c.in_ok-profile.rest.now left (check ++ codes " begun\n") beginning fault c.in_ok-start.ensures.1 c.in_ok-profile.ensures is
    (last_line_is beginning check same) c.in_err-rest.ensures))

pub returns-in_err-rest-clause-fault : goal.returns-in_err-rest-clause-fault
returns-in_err-rest-clause-fault c =
    let bytes = c.args.bytes.now in
    let left = c.in_ok-start.rest.now in
    let beginning : Beginning = beginning_in c.in_ok-start.start in
    let check = c.check_of-check.result in
    let fault = c.in_err-rest.field-0.0 in
    let is : bytes ≡ head_of beginning ++ left = head_found c.in_ok-profile.profile bytes c.in_ok-profile.rest.now left beginning c.in_ok-profile.ensures c.in_ok-start.ensures.0 c.in_ok-start.ensures.2 in
    let same : check ≡ first_check beginning = c.check_of-check.ensures ∙ ap (λ (l : List ℕ). check_of l begun) (head_front bytes left beginning is) in
    failed c.from_residual-in_err-rest.result _ _ fault (err_from_is_err_and c.from_residual-in_err-rest.result c.from_residual-in_err-rest.ensures.1)
    (no_last_line c.in_ok-profile.profile bytes c.in_ok-profile.rest.now left (check ++ codes " begun\n") beginning fault c.in_ok-start.ensures.1 c.in_ok-profile.ensures is
    (last_line_is beginning check same) c.in_err-rest.ensures)

pub returns-clause-head : goal.returns-clause-head
returns-clause-head c =
    let bytes = c.args.bytes.now in
    let left = c.in_ok-start.rest.now in
    let beginning : Beginning = beginning_in c.in_ok-start.start in
    let check = c.check_of-check.result in
    let is : bytes ≡ head_of beginning ++ left = head_found c.in_ok-profile.profile bytes c.in_ok-profile.rest.now left beginning c.in_ok-profile.ensures c.in_ok-start.ensures.0 c.in_ok-start.ensures.2 in
    let same : check ≡ first_check beginning = c.check_of-check.ensures ∙ ap (λ (l : List ℕ). check_of l begun) (head_front bytes left beginning is) in
    whole_found bytes left c.in_ok-rest.rest.now (check ++ codes " begun\n") beginning is (last_line_is beginning check same) c.in_ok-rest.ensures

pub returns-clause-check : goal.returns-clause-check
returns-clause-check c =
    let bytes = c.args.bytes.now in
    let left = c.in_ok-start.rest.now in
    let beginning : Beginning = beginning_in c.in_ok-start.start in
    let is : bytes ≡ head_of beginning ++ left = head_found c.in_ok-profile.profile bytes c.in_ok-profile.rest.now left beginning c.in_ok-profile.ensures c.in_ok-start.ensures.0 c.in_ok-start.ensures.2 in
    c.check_of-check.ensures ∙ ap (λ (l : List ℕ). check_of l begun) (head_front bytes left beginning is)
