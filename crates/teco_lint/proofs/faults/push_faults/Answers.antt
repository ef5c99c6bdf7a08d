use Rattle.std.proofs.Common.{◌≡◌, ◌∙◌, ◌+◌, ◌-◌, ◌||◌, true, List, ℕ, Some, length, rules, sym, ap, subst, arith}
use Rattle.std.specs.List.{list_any}
use Rattle.teco_check.specs.Walk.{first_of}
use Rattle.teco_check.specs.declared.faults.TheConstants.{MOST_TEXTS}
use Rattle.teco_lint.specs.Faults.{has_fault, has_fault_among, fault_itself, passed}
use Rattle.teco_lint.specs.Spelling.{is_misspelt_text}
use Rattle.teco_lint.specs.Told.{ends_run, is_fault, own_fault, tells_fault}
use Rattle.teco_lint.specs.declared.faults.TheConstants.{MOST_FAULTS}
use Rattle.teco_lint.proofs.FirstFaults.{either_is, first_told, told_all, told_last, told_next, unseen}
use Rattle.teco_lint.proofs.faults.push_faults.Goals as goal

pub faults-init : goal.faults-init
faults-init c =
    let p = c.args.profile in
    let code = c.args.code.now in
    let string = c.args.string.now in
    let fault = c.innermost-fault.result in
    let same : c.deref.result.now ≡ string = search rules in
    let itself : fault ≡ fault_itself p MOST_TEXTS code string (own_fault (length string) c.args.first) =
    subst (λ (t : List ℕ). fault ≡ fault_itself p MOST_TEXTS code t (own_fault (length t) c.args.first)) same c.innermost-fault.ensures.itself in
    record {
      own = search rules;
      some = search rules;
      told = search rules;
      inside = search rules;
      last = search rules;
      found = λ is.
          let ends : ends_run fault.wrong ≡ is_misspelt_text p code string =
          subst (λ (t : List ℕ). Some c.args.first ≡ first_of p code t → ends_run fault.wrong ≡ is_misspelt_text p code t) same c.innermost-fault.ensures.ends is in
          first_told p code MOST_FAULTS string c.args.first fault c.ends_run-found.result (omega arith) is itself (c.ends_run-found.ensures ∙ ends)
          ∙ ap (λ (t : List ℕ). c.ends_run-found.result || has_fault_among (MOST_FAULTS - 1) p code (passed p t fault)) (sym c.in_ok-text.ensures.items);
    }

pub returns-in_default-clause-found : goal.returns-in_default-clause-found
returns-in_default-clause-found c = λ is.
    let p = c.args.profile in
    let code = c.args.code.now in
    let same : c.deref-in-faults.result.now ≡ c.pass_over.new.text.items = search rules in
    told_last p code MOST_FAULTS c.faults._told c.faults.found (has_fault p code c.args.string.now) c.faults.text.items c.deref-in-faults.result.now c.faults.fault (omega arith)
    (c.faults.invariant.found is)
    (λ none. same ∙ c.pass_over.ensures.passed c.faults.invariant.inside (unseen (ends_run c.faults.fault.wrong) c.faults.found c.faults.invariant.last none))
    c.in_default.ensures.first

pub faults-preserved : goal.faults-preserved
faults-preserved c =
    let p = c.args.profile in
    let code = c.args.code.now in
    let later = c.innermost-later.result in
    let same : c.deref-in-faults.result.now ≡ c.pass_over.new.text.items = search rules in
    let again : c.deref-in-faults-2.result.now ≡ c.deref-in-faults.result.now = search rules in
    let itself : later ≡ fault_itself p MOST_TEXTS code c.deref-in-faults.result.now (own_fault (length c.deref-in-faults.result.now) c.in-Some.next) =
    subst (λ (t : List ℕ). later ≡ fault_itself p MOST_TEXTS code t (own_fault (length t) c.in-Some.next)) again c.innermost-later.ensures.itself in
    let ends : ends_run later.wrong ≡ is_misspelt_text p code c.deref-in-faults.result.now =
    subst (λ (t : List ℕ). Some c.in-Some.next ≡ first_of p code t → ends_run later.wrong ≡ is_misspelt_text p code t) again c.innermost-later.ensures.ends c.in-Some.ensures.first in
    record {
      own = λ test off passes. c.in_ok-put_fault-2.ensures.kept test (c.faults.invariant.own test off passes);
      some = c.in_ok-put_fault-2.ensures.kept is_fault c.faults.invariant.some;
      told = λ h. either_is c.faults.found c.ends_run-found-in-faults.result (list_any tells_fault c.put_fault-in-faults.new.faults.items ≡ true)
          (λ was. c.in_ok-put_fault-2.ensures.kept tells_fault (c.faults.invariant.told was))
          (λ now. c.in_ok-put_fault-2.ensures.own tells_fault (search rules)) h;
      inside = search rules;
      last = search rules;
      found = λ is.
          told_next p code MOST_FAULTS c.faults._told c.faults.found c.ends_run-found-in-faults.result (has_fault p code c.args.string.now) c.faults.text.items c.deref-in-faults.result.now c.faults.fault later c.in-Some.next
          (omega arith) (c.faults.invariant.found is)
          (λ none. same ∙ c.pass_over.ensures.passed c.faults.invariant.inside (unseen (ends_run c.faults.fault.wrong) c.faults.found c.faults.invariant.last none))
          c.in-Some.ensures.first itself (c.ends_run-found-in-faults.ensures ∙ ends)
          ∙ ap (λ (t : List ℕ). (c.faults.found || c.ends_run-found-in-faults.result) || has_fault_among (MOST_FAULTS - (c.faults._told + 1)) p code (passed p t later)) same;
    }

pub returns-clause-found : goal.returns-clause-found
returns-clause-found c = λ is.
    told_all c.args.profile c.args.code.now MOST_FAULTS c.faults._told c.faults.found (has_fault c.args.profile c.args.code.now c.args.string.now) (passed c.args.profile c.faults.text.items c.faults.fault) (omega arith)
    (c.faults.invariant.found is)
