use Rattle.std.proofs.Common.{◌≡◌, ◌+◌, drop, Some, Ok, Err, sym, ap, ◌∙◌, subst}
use Rattle.teco_scan.specs.declared.blocks.Kind.TheVariants.{Else}
use Rattle.teco_scan.specs.Lists.{closed, behind_block, list_at}
use Rattle.teco_scan.specs.Nesting.{is_whole}
use Rattle.teco_scan.specs.declared.breaks.ListAt.{ListAt}
use Rattle.teco_scan.specs.Breaks.{Breaks}
use Rattle.teco_scan.proofs.BreakRules.{in_first_list, in_second_part, after_block}
use Rattle.teco_scan.proofs.Breaking.{second_breaks, passed_whole, wrong_whole}
use Rattle.teco_scan.proofs.TokensNest.{broken_whole}
use Rattle.teco_scan.proofs.breaks.past_block.Goals as goal

pub returns-in-Ok-clause-comes : goal.returns-in-Ok-clause-comes
returns-in-Ok-clause-comes c at token there e opens b = after_block c.args.profile c.args.kind c.args.start c.requires.inside e opens c.requires.few (sym c.in-Ok.ensures.passes) b

pub returns-in-Ok-clause-whole : goal.returns-in-Ok-clause-whole
returns-in-Ok-clause-whole c i m opens = passed_whole c.args.profile m _ c.args.list.kind c.args.list.depth c.args.kind i (Ok _) opens c.requires.few (sym c.in-Ok.ensures.passes)

pub returns-in-Ok-skip_block-clause-comes : goal.returns-in-Ok-skip_block-clause-comes
returns-in-Ok-skip_block-clause-comes c at token there e opens b =
    let text = c.args.text.now in
    let one : closed c.in-Ok-skip_block.stop.divided (drop c.in-Ok-skip_block.stop.to text) ≡ (list_at c.args.profile (Some c.args.kind) (c.args.list.depth + 1) (drop c.args.start text)).1 = c.in-Ok-skip_block.ensures.closes in
    let s = second_breaks c.args.profile c.args.kind (c.args.list.depth + 1) c.in-Ok-skip_block.stop.divided (drop c.in-Ok-skip_block.stop.to text) c.in-Err.field-0
    (ap (λ x. behind_block (list_at c.args.profile) c.args.kind (c.args.list.depth + 1) x) one ∙ sym c.in-Err.ensures.passes) in
    in_second_part c.args.profile c.args.start c.requires.inside e c.in-Ok-skip_block.ensures.within.1 (opens ∙ ap Some s.0) c.requires.few
    (ap (λ k. (list_at c.args.profile (Some k) (c.args.list.depth + 1) (drop c.args.start text)).1) (sym s.0) ∙ sym one ∙ ap (λ d. closed d (drop c.in-Ok-skip_block.stop.to text)) s.1)
    (subst (λ (l : ListAt). Breaks c.args.profile text l c.in-Ok-skip_block.stop.to there) c.inside_list.ensures b)

pub returns-in-Ok-skip_block-clause-whole : goal.returns-in-Ok-skip_block-clause-whole
returns-in-Ok-skip_block-clause-whole c i m opens =
    let text = c.args.text.now in
    let one : closed c.in-Ok-skip_block.stop.divided (drop c.in-Ok-skip_block.stop.to text) ≡ (list_at c.args.profile (Some c.args.kind) (c.args.list.depth + 1) (drop c.args.start text)).1 = c.in-Ok-skip_block.ensures.closes in
    let s = second_breaks c.args.profile c.args.kind (c.args.list.depth + 1) c.in-Ok-skip_block.stop.divided (drop c.in-Ok-skip_block.stop.to text) c.in-Err.field-0
    (ap (λ x. behind_block (list_at c.args.profile) c.args.kind (c.args.list.depth + 1) x) one ∙ sym c.in-Err.ensures.passes) in
    passed_whole c.args.profile m _ c.args.list.kind c.args.list.depth c.args.kind i (Err c.in-Err.field-0) opens c.requires.few (sym c.in-Err.ensures.passes)
    ∙ wrong_whole c.in-Err.field-0
    ∙ sym (ap (λ (l : ListAt). is_whole (list_at c.args.profile l.kind l.depth (drop c.in-Ok-skip_block.stop.to text)).0) c.inside_list.ensures
    ∙ broken_whole c.args.profile Else (c.args.list.depth + 1) (drop c.in-Ok-skip_block.stop.to text) c.in-Err.field-0 s.2)

pub returns-in-Err-skip_block-clause-comes : goal.returns-in-Err-skip_block-clause-comes
returns-in-Err-skip_block-clause-comes c at token there e opens b =
    in_first_list c.args.profile c.args.kind e c.requires.inside opens c.requires.few
    (subst (λ (l : ListAt). Breaks c.args.profile c.args.text.now l c.args.start there) c.inside_list-in-Err-skip_block.ensures b)

pub returns-in-Err-skip_block-clause-whole : goal.returns-in-Err-skip_block-clause-whole
returns-in-Err-skip_block-clause-whole c i m opens =
    let text = c.args.text.now in
    passed_whole c.args.profile m _ c.args.list.kind c.args.list.depth c.args.kind i (Err c.in-Err.field-0) opens c.requires.few (sym c.in-Err.ensures.passes)
    ∙ wrong_whole c.in-Err.field-0
    ∙ sym (ap (λ (l : ListAt). is_whole (list_at c.args.profile l.kind l.depth (drop c.args.start text)).0) c.inside_list-in-Err-skip_block.ensures
    ∙ broken_whole c.args.profile c.args.kind (c.args.list.depth + 1) (drop c.args.start text) c.in-Err-skip_block.field-0 (sym c.in-Err-skip_block.ensures.closes))
