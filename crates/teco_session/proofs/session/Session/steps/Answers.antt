use Rattle.std.proofs.Common.{◌≡◌, ◌<◌, ◌≤◌, length, sym, ap, ◌∙◌, subst}
use Rattle.teco_session.specs.Strings.{KeptString}
use Rattle.teco_session.specs.Kept.{KeptSession, string_at}
use Rattle.teco_session.proofs.Headings.{has_steps}
use Rattle.teco_session.proofs.session.Session.steps.Goals as goal

pub get-requires : goal.get-requires
get-requires c = subst (λ (s : KeptSession). c.args.i < length s.strings) (sym c.self.view_is) c.requires

value_now : (c : goal.After-get) → c.get.result.now.steps ≡ (string_at c.args.self.now c.args.i).steps
value_now c =
    ap (λ (x : KeptString). x.steps) c.get.ensures ∙ ap (λ (s : KeptSession). (string_at s c.args.i).steps) c.self.view_is

pub returns-clause-value : goal.returns-clause-value
returns-clause-value c = value_now c

pub returns-clause-history : goal.returns-clause-history
returns-clause-history c =
    let within = subst (λ (s : KeptSession). s.cursor ≤ length s.strings) c.self.view_is c.self.invariant.within in
    value_now c ∙ sym (has_steps c.args.self.now c.args.i _ _ within c.requires)
