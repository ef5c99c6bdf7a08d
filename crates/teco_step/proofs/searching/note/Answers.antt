use Rattle.std.proofs.Common.{◌≡◌, ◌∙◌, ap, refl, ◌<◌, ◌≤◌, [], subst}
use Rattle.std.specs.Option.{option_copied}
use Rattle.std.specs.Prelude.{if◌then◌else◌}
use Rattle.teco_core.specs.Arguments.{no_arguments}
use Rattle.teco_core.specs.ArgumentsView.{arguments}
use Rattle.teco_core.specs.Register.{content}
use Rattle.teco_core.specs.declared.limits.TheConstants.{TEXT_LIMIT}
use Rattle.teco_store.specs.Search.{length_of, note_load, noted, text_after}
use Rattle.teco_store.specs.State.{State}
use Rattle.teco_store.specs.Trail.{Trail, moved}
use Rattle.teco_step.specs.Families.{tag_of}
use Rattle.teco_step.specs.Searching.{answer, noted_text, notes}
use Rattle.teco_step.specs.Step.{call, steers}
use Rattle.teco_step.specs.Ending.{end_of}
use Rattle.teco_step.specs.declared.next.Next.{Next}
use Rattle.teco_step.specs.declared.next.Next.TheVariants as next
use Rattle.teco_step.proofs.Acting.{acts_undone, big_why, if_over, if_within, in_limit, steers_done, then_not, then_ok}
use Rattle.teco_step.proofs.searching.note.Goals as goal

pub returns-in_err-note_search : goal.returns-in_err-note_search
returns-in_err-note_search g c =
    let s = g.D.Desk.state c.args.desk.now in
    let a = arguments c.args.args.now in
    let text = c.args.text.now in
    let left = if c.args.asked then answer c.args.found else no_arguments in
    let o = option_copied c.noted_text.result in
    let same = c.noted_text.ensures in
    let d = c.in_err-note_search.ensures in
    let n = length_of (text_after s.last_search o) in
    acts_undone (steers (λ s x. notes text c.args.found c.args.place left (end_of s [] c.args.next) s)) s _ a _ _ _ c.from_residual.result c.from_residual.ensures.1
    (big_why c.in_err-note_search.field-0.0 n TEXT_LIMIT _ d.big.0 (λ over. then_not _ _ _ (if_over _ TEXT_LIMIT _ (subst (λ o. TEXT_LIMIT < length_of (text_after s.last_search o)) same over)))) d.err d.keeps

-- what a step leads to is told by any state with these registers
leads_as : (s new : State) (n : Next) → new.registers ≡ s.registers → end_of new (tag_of (end_of s [] n)) n ≡ end_of s [] n
leads_as s new next.On same = refl
leads_as s new next.Leave same = refl
leads_as s new next.Go same = refl
leads_as s new (next.Call q) same = ap (λ rs. call (content rs q).text) same
leads_as s new next.Out same = refl
leads_as s new (next.Again work) same = refl
leads_as s new (next.Error c) same = refl

pub returns : goal.returns
returns g c =
    let s = g.D.Desk.state c.args.desk.now in
    let text = c.args.text.now in
    let left = if c.args.asked then answer c.args.found else no_arguments in
    let o = option_copied c.noted_text.result in
    let same = c.noted_text.ensures in
    let done = c.in_ok-note_search.ensures in
    let n = length_of (text_after s.last_search o) in
    let within = subst (λ o. length_of (text_after s.last_search o) ≤ TEXT_LIMIT) same (in_limit n TEXT_LIMIT _ done.big.1) in
    let t = noted s (noted_text text) c.args.found c.args.place in
    let there = done.ok ∙ ap (λ o. noted s o c.args.found c.args.place) same in
    steers_done _ t _ left _ (note_load s (noted_text text)) (end_of s [] c.args.next) _ _ c.args.next (then_ok _ t _ _ (if_within _ TEXT_LIMIT t within) refl)
    there c.answer.ensures (leads_as s (g.D.Desk.state c.note_search.new.self) c.args.next (ap (λ (u : State). u.registers) there)) c.requires.finished (subst (λ o. (t : Trail) → g.D.Desk.follows c.args.desk.now t → g.D.Desk.follows c.note_search.new.self (moved t (note_load s o))) same done.follows)
