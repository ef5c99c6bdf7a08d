use Rattle.std.proofs.Common.{Err, subst, sym, ap, ◌∙◌}
use Rattle.teco_lint.specs.Spelling.{is_misspelt}
use Rattle.teco_lint.specs.Faults.{is_faulty}
use Rattle.teco_lint.specs.Strings.{is_unclean}
use Rattle.teco_source.specs.Seen.{IsReadAs}
use Rattle.teco_source.specs.Source.{commands_of}
use Rattle.teco_source.specs.declared.reader.ReaderFault.{ReaderFault}
use Rattle.teco_driver.proofs.Checks.{caret_alone, none_alone}
use Rattle.teco_driver.proofs.verdict.verdict_alone.Goals as goal

pub returns-in_default : goal.returns-in_default
returns-in_default c = record {
  faulty = none_alone c.args.profile (is_faulty c.args.profile) c.args.commands.now c.unchecked.result.is_faulty c.in_default.not-Pages c.unchecked.ensures.faulty;
  unclean = none_alone c.args.profile (is_unclean c.args.profile) c.args.commands.now c.unchecked.result.is_unclean c.in_default.not-Pages c.unchecked.ensures.unclean;
  misspelt = none_alone c.args.profile (is_misspelt c.args.profile) c.args.commands.now c.unchecked.result.is_misspelt c.in_default.not-Pages c.unchecked.ensures.misspelt;
}

pub returns-in-Err-Caret-clause-faulty : goal.returns-in-Err-Caret-clause-faulty
returns-in-Err-Caret-clause-faulty c =
    let caret = subst (λ (f : ReaderFault). IsReadAs (commands_of c.as_bytes-source.result.now) (Err f)) c.in-Err-Caret.field-0-is c.in-Err-Caret.ensures.reads in
    caret_alone c.args.profile (is_faulty c.args.profile) c.args.commands.now c.in-Pages.word c.in-Err-Caret.field-0-0 c.unchecked-in-Err-Caret.result.is_faulty c.in-Pages.is
    (ap commands_of (sym c.as_bytes-source.ensures.value) ∙ caret) c.unchecked-in-Err-Caret.ensures.faulty

pub returns-in-Err-Caret-clause-unclean : goal.returns-in-Err-Caret-clause-unclean
returns-in-Err-Caret-clause-unclean c =
    let caret = subst (λ (f : ReaderFault). IsReadAs (commands_of c.as_bytes-source.result.now) (Err f)) c.in-Err-Caret.field-0-is c.in-Err-Caret.ensures.reads in
    caret_alone c.args.profile (is_unclean c.args.profile) c.args.commands.now c.in-Pages.word c.in-Err-Caret.field-0-0 c.unchecked-in-Err-Caret.result.is_unclean c.in-Pages.is
    (ap commands_of (sym c.as_bytes-source.ensures.value) ∙ caret) c.unchecked-in-Err-Caret.ensures.unclean

pub returns-in-Err-Caret-clause-misspelt : goal.returns-in-Err-Caret-clause-misspelt
returns-in-Err-Caret-clause-misspelt c =
    let caret = subst (λ (f : ReaderFault). IsReadAs (commands_of c.as_bytes-source.result.now) (Err f)) c.in-Err-Caret.field-0-is c.in-Err-Caret.ensures.reads in
    caret_alone c.args.profile (is_misspelt c.args.profile) c.args.commands.now c.in-Pages.word c.in-Err-Caret.field-0-0 c.unchecked-in-Err-Caret.result.is_misspelt c.in-Pages.is
    (ap commands_of (sym c.as_bytes-source.ensures.value) ∙ caret) c.unchecked-in-Err-Caret.ensures.misspelt
