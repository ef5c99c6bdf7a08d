use Rattle.std.proofs.Common.{◌≡◌, ◌∙◌, ◌++◌, [], ap, refl}
use Rattle.std.proofs.lemmas.Result.{on_ok_weaker}
use Rattle.std.specs.Prelude.{codes}
use Rattle.std.specs.String.{string_bytes}
use Rattle.teco_core.specs.declared.case_mode.CaseMode.{CaseMode}
use Rattle.teco_core.specs.declared.case_mode.CaseMode.TheVariants.{Exact, Either}
use Rattle.teco_store.specs.State.{state_of}
use Rattle.teco_debugger.specs.Listing.{case_shown, done_shown, flags_shown, line_if, mode_shown, page_end_shown}
use Rattle.teco_debugger.proofs.Texts.{three_texts}
use Rattle.teco_debugger.proofs.listing.show_flags.Goals as goal
use Rattle.teco_debugger.proofs.listing.show_flags.Goals.{in-Exact, in_default}

either_shown : (mode : CaseMode) → (mode ≡ Exact → ⊥) → [] ≡ case_shown mode
unfolding case_shown
either_shown Exact other = absurd (other refl)
either_shown Either other = refl

pub returns : goal.returns
unfolding flags_shown page_end_shown mode_shown done_shown case_shown line_if
returns c =
    let s = state_of c.args.editor.now in
    let old = string_bytes c.args.out.now in
    let one = string_bytes c.show_line_if.new.out in
    let two = string_bytes c.show_line_if-2.new.out in
    let page_end = c.in_ok-show_line_if.ensures ∙ ap (λ so. old ++ line_if so (codes "a form feed ended the page")) c.flag.ensures in
    let case_is : line_if c.match-matches.matches (codes "searches tell the cases of a letter apart") ≡ case_shown c.case_mode.result = elim c.match-matches.branch [
      | in-Exact w ↦ rw (w.matches-is, w.in-Exact.is) refl
      | in_default w ↦ rw w.matches-is (either_shown c.case_mode.result w.in_default.not-Exact)
    ] in
    let mode = c.in_ok-show_line_if-2.ensures ∙ ap (λ t. one ++ t) (case_is ∙ ap case_shown c.case_mode.ensures) in
    on_ok_weaker c.show_line_if-3.result
    (λ e. three_texts old one two (string_bytes c.show_line_if-3.new.out) (page_end_shown s) (mode_shown s) (done_shown s) page_end mode (e ∙ ap (λ so. two ++ line_if so (codes "the session is done")) c.done.ensures))
    c.show_line_if-3.ensures
