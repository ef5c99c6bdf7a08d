use Rattle.std.proofs.Common.{◌≡◌, ◌∙◌, ◌++◌, ap, append_assoc, sym, List, ℕ, Some}
use Rattle.std.proofs.lemmas.Bool.Decides.{Decides-eqb}
use Rattle.std.proofs.lemmas.Slice.Eq.{strip_prefix_is}
use Rattle.teco_store.specs.Slices.{bytes_in}
use Rattle.teco_store.proofs.slices.Slices.are.Goals as goal

pub loop-slice-preserved : goal.loop-slice-preserved
loop-slice-preserved c =
    let so_far = c.loop-slice.invariant in
    let given = so_far.0 in
    let slice = c.in-Some.slice.now in
    let rest = c.in-Some-strip_prefix.rest in
    let others = bytes_in c.in-Some.others in
    let left : c.loop-slice.wanted.now ≡ slice ++ rest.now = strip_prefix_is Decides-eqb c.loop-slice.wanted.now slice (Some rest) c.in-Some-strip_prefix.ensures.cases in (
      given ++ slice,
      so_far.1 ∙ ap (λ (l : List ℕ). given ++ l) c.in-Some.ensures.bytes ∙ sym (append_assoc given slice others),
      so_far.2 ∙ ap (λ (l : List ℕ). given ++ l) left ∙ sym (append_assoc given slice rest.now),
    )
