use Rattle.std.proofs.Common.{rules, subst, sym}
use Rattle.teco_core.specs.ArgumentsView.{arguments}
use Rattle.teco_scan.specs.Seen.{item_in}
use Rattle.teco_scan.specs.declared.token.TokenKind.{TokenKind}
use Rattle.teco_step.specs.Effect.{effect, item_effect}
use Rattle.teco_step.specs.declared.next.Setting.{Setting}
use Rattle.teco_step.specs.Step.{Moment, at}
use Rattle.teco_step.specs.Stepping.{Steps, kind_effect, kind_name, name_of, setting_in, trail_after}
use Rattle.teco_step.specs.declared.next.Next.{Next}
use Rattle.teco_step.proofs.Does.{does_steps, does_follows}
use Rattle.teco_step.proofs.Ends.{effect_ends}
use Rattle.teco_step.proofs.step.step_token.Goals as goal

pub returns-in-Item : goal.returns-in-Item
unfolding effect
returns-in-Item g c =
    let s = g.D.Desk.state c.args.desk.now in
    let a = arguments c.args.args.now in
    let w : Setting = setting_in c.args.context c.args.token.now.modifiers in
    let text = c.args.text.now in
    let i = item_in text c.in-Item.item in
    let old : Moment = at s a (g.T.Terminal.screen c.args.term.now) in
    let new : Moment = at (g.D.Desk.state c.item_step.new.desk) (arguments c.item_step.new.args) (g.T.Terminal.screen c.item_step.new.term) in
    let F = g.D.Desk.follows c.args.desk.now in
    let G = g.D.Desk.follows c.item_step.new.desk in
    record {
      steps = subst (λ (k : TokenKind). Steps (kind_effect text k w s a) (kind_name text k) old new c.next_of.result) (sym c.in-Item.is)
          (subst (λ (n : Next). Steps (effect i w s a) (name_of i) old new n) (sym c.next_of.ensures)
          (does_steps c.args.context.inside i old new (item_effect i w) F G c.item_step.result (effect_ends i w s a) c.item_step.ensures.does));
      follows = λ t h.
          subst (λ (k : TokenKind). G (trail_after c.next_of.result t (kind_effect text k w s a).load)) (sym c.in-Item.is)
          (subst (λ (n : Next). G (trail_after n t (effect i w s a).load)) (sym c.next_of.ensures)
          (does_follows c.args.context.inside i old new (item_effect i w) F G c.item_step.result c.item_step.ensures.does (λ u f. g.met.D.Desk.eases c.item_step.new.desk u f) t h));
      no_memory = search rules;
    }
