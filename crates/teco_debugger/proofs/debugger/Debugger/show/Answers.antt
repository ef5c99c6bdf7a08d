use Rattle.std.proofs.Common.{◌∙◌, ◌++◌, ℕ, List, ap, subst}
use Rattle.std.proofs.lemmas.Result.{on_ok_weaker}
use Rattle.std.specs.String.{string_bytes}
use Rattle.teco_messages.specs.Spelling.{spelled}
use Rattle.teco_debugger.specs.Around.{around_shown}
use Rattle.teco_debugger.specs.Commands.{answer_line}
use Rattle.teco_debugger.specs.Showing.{step_shown, where_shown}
use Rattle.teco_debugger.specs.Sources.{IsShownAt, shown_name, shown_string}
use Rattle.teco_debugger.specs.declared.sources.SourceText.{SourceText}
use Rattle.teco_debugger.proofs.debugger.Debugger.show.Goals as goal

pub returns-in-Step : goal.returns-in-Step
returns-in-Step c =
    let walk = c.args.self.now.walk in
    let sources = c.args.self.now.sources.items in
    let there = c.in_ok-there.there in
    let same = c.as_slice-sources.ensures.value in
    let at = subst (λ (n : ℕ). IsShownAt c.as_slice-sources.result.now walk n there) c.steps.ensures c.in_ok-there.ensures.seen in
    let here = subst (λ (xs : List SourceText). IsShownAt xs walk walk.steps there) same at in
    let name = c.shown_name-name.ensures ∙ ap (λ (xs : List SourceText). shown_name xs there.number) same in
    let string = c.shown_string-string.ensures ∙ ap (λ (xs : List SourceText). shown_string xs there.number c.text.result.now) same ∙ ap (shown_string sources there.number) c.text.ensures in
    rw c.in-Step.is
    (on_ok_weaker c.show_step.result (λ e. (there, here, e ∙ ap (λ (n : List ℕ). string_bytes c.args.out.now ++ step_shown walk n c.shown_string-string.result.now there.seen) name ∙ ap (λ (s : List ℕ). string_bytes c.args.out.now ++ step_shown walk (shown_name sources there.number) s there.seen) string)) c.show_step.ensures)

pub returns-in-Where : goal.returns-in-Where
returns-in-Where c =
    let walk = c.args.self.now.walk in
    let sources = c.args.self.now.sources.items in
    let there = c.in_ok-there.there in
    let same = c.as_slice-sources.ensures.value in
    let at = subst (λ (n : ℕ). IsShownAt c.as_slice-sources.result.now walk n there) c.steps.ensures c.in_ok-there.ensures.seen in
    let here = subst (λ (xs : List SourceText). IsShownAt xs walk walk.steps there) same at in
    let name = c.shown_name-name.ensures ∙ ap (λ (xs : List SourceText). shown_name xs there.number) same in
    let string = c.shown_string-string.ensures ∙ ap (λ (xs : List SourceText). shown_string xs there.number c.text.result.now) same ∙ ap (shown_string sources there.number) c.text.ensures in
    rw c.in-Where.is
    (on_ok_weaker c.show_where.result (λ e. (there, here, e ∙ ap (λ (n : List ℕ). string_bytes c.args.out.now ++ where_shown walk n c.shown_string-string.result.now there.seen) name ∙ ap (λ (s : List ℕ). string_bytes c.args.out.now ++ where_shown walk (shown_name sources there.number) s there.seen) string)) c.show_where.ensures)

pub returns-in-Around : goal.returns-in-Around
returns-in-Around c =
    let walk = c.args.self.now.walk in
    let sources = c.args.self.now.sources.items in
    let there = c.in_ok-there.there in
    let same = c.as_slice-sources.ensures.value in
    let at = subst (λ (n : ℕ). IsShownAt c.as_slice-sources.result.now walk n there) c.steps.ensures c.in_ok-there.ensures.seen in
    let here = subst (λ (xs : List SourceText). IsShownAt xs walk walk.steps there) same at in
    let name = c.shown_name-name.ensures ∙ ap (λ (xs : List SourceText). shown_name xs there.number) same in
    let string = c.shown_string-string.ensures ∙ ap (λ (xs : List SourceText). shown_string xs there.number c.text.result.now) same ∙ ap (shown_string sources there.number) c.text.ensures in
    rw c.in-Around.is
    (on_ok_weaker c.show_around.result (λ e. (there, here, e ∙ ap (λ (n : List ℕ). string_bytes c.args.out.now ++ around_shown walk n c.shown_string-string.result.now there.seen c.in-Around.n) name ∙ ap (λ (s : List ℕ). string_bytes c.args.out.now ++ around_shown walk (shown_name sources there.number) s there.seen c.in-Around.n) string)) c.show_around.ensures)

pub returns : goal.returns
returns c =
    let walk = c.args.self.now.walk in
    let sources = c.args.self.now.sources.items in
    let there = c.in_ok-there.there in
    let same = c.as_slice-sources.ensures.value in
    let at = subst (λ (n : ℕ). IsShownAt c.as_slice-sources.result.now walk n there) c.steps.ensures c.in_ok-there.ensures.seen in
    let here = subst (λ (xs : List SourceText). IsShownAt xs walk walk.steps there) same at in
    let name = c.shown_name-name.ensures ∙ ap (λ (xs : List SourceText). shown_name xs there.number) same in
    let string = c.shown_string-string.ensures ∙ ap (λ (xs : List SourceText). shown_string xs there.number c.text.result.now) same ∙ ap (shown_string sources there.number) c.text.ensures in
    rw c.in-Typed.is
    (on_ok_weaker c.show_typed.result (λ e. (there, here, e ∙ ap (λ t. string_bytes c.args.out.now ++ answer_line (spelled t)) c.as_slice.ensures.value)) c.show_typed.ensures)
