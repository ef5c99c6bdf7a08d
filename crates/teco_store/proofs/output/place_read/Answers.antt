use Rattle.std.proofs.Common.{◌∙◌, ◌≡◌, ◌++◌, ap, arith, length-append, length, List, ℕ, Some}
use Rattle.std.proofs.lemmas.Bool.Decides.{Decides-eqb}
use Rattle.std.proofs.lemmas.Slice.Eq.{strip_suffix_is}
use Rattle.teco_store.proofs.Outputs.{stands}
use Rattle.teco_store.proofs.output.place_read.Goals as goal

pub returns : goal.returns
returns c =
    let read = c.args.read.now in
    let before = c.args.before.now in
    let after = c.args.after.now in
    let flag = c.form_feed_bytes.result.now in
    let a = c.in_ok-left.left in
    let b = c.in_ok-left-2.left in
    let d = c.in_ok-left-3.left in
    let e₁ : read ≡ a.now ++ flag = strip_suffix_is Decides-eqb read flag (Some a) c.in_ok-left.ensures.cases in
    let e₂ : a.now ≡ b.now ++ after = strip_suffix_is Decides-eqb a.now after (Some b) c.in_ok-left-2.ensures.cases in
    let e₃ : b.now ≡ d.now ++ before = strip_suffix_is Decides-eqb b.now before (Some d) c.in_ok-left-3.ensures.cases in (
      omega (arith, ap length e₁, ap length e₂, ap length e₃, length-append a.now flag, length-append b.now after, length-append d.now before),
      stands read a.now b.now d.now before after flag e₁ e₂ e₃ ∙ ap (λ (l : List ℕ). (before ++ after) ++ l) c.form_feed_bytes.ensures,
    )
