use Rattle.std.proofs.Common.{refl, ◌+◌, length, None, ap}
use Rattle.teco_core.specs.ArgumentsView.{arguments}
use Rattle.teco_core.specs.declared.limits.TheConstants.{TEXT_LIMIT}
use Rattle.teco_store.specs.State.{spliced}
use Rattle.teco_step.specs.Editing.{puts}
use Rattle.teco_step.specs.Step.{goes, on, goes_on}
use Rattle.teco_step.proofs.Acting.{if_over, if_within, made_refused, then_ok, within_by, acts_answered}
use Rattle.teco_step.proofs.edit.put.Goals as goal

pub splice-requires-clause-there : goal.splice-requires-clause-there
splice-requires-clause-there g c =
    c.requires

pub returns : goal.returns
returns g c =
    let s = g.D.Desk.state c.args.desk.now in
    let a = arguments c.args.args.now in
    let t = spliced s c.args.at c.args.deleted c.args.bytes.now None in
    let d = c.splice.ensures in
    acts_answered (goes (puts c.args.at c.args.deleted c.args.bytes.now)) s t _ a _ (c.args.deleted + length c.args.bytes.now) on _ _ c.splice.result _ c.done.result c.done.ensures.ok c.done.ensures.err d.ok d.err d.follows d.keeps
    (λ b. made_refused s _ _ _ (if_over (length t.text) TEXT_LIMIT t (d.big.0 b)))
    (λ e. ap (goes_on s) (then_ok _ t _ _ (if_within (length t.text) TEXT_LIMIT t (within_by (length t.text) TEXT_LIMIT _ d.big.1 e)) refl)) refl refl
