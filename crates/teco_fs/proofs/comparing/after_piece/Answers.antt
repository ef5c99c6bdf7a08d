use Rattle.std.proofs.Common.{◌∙◌, ◌++◌, ap, sym, append_assoc, refl, List, [], ℕ}
use Rattle.teco_store.specs.Slices.{bytes_in}
use Rattle.teco_fs.proofs.comparing.after_piece.Goals as goal

pub slices-init : goal.slices-init
slices-init c = ([], refl, refl)

pub slices-preserved : goal.slices-preserved
slices-preserved c =
    let so_far = c.slices.invariant in
    let given = so_far.0 in
    let front = c.slices.front.now in
    let next = c.in_ok-next.next.now in
    let rest = bytes_in c.in_ok-next.rest in (
      given ++ front,
      so_far.1 ∙ ap (λ (l : List ℕ). given ++ (front ++ l)) c.in_ok-next.ensures.bytes ∙ sym (append_assoc given front (next ++ rest)),
      so_far.2 ∙ ap (λ (l : List ℕ). given ++ l) c.in_ok-after.ensures ∙ sym (append_assoc given front c.in_ok-after.after.now),
    )

pub returns-in-Some : goal.returns-in-Some
returns-in-Some c =
    let so_far = c.slices.invariant in
    let given = so_far.0 in
    let wanted = c.slices.wanted.now in
    let back = c.in-Some.back.now in
    let left = bytes_in c.slices.left in
    so_far.1 ∙ ap (λ (l : List ℕ). given ++ l) (ap (λ (l : List ℕ). l ++ left) c.in-Some.ensures ∙ append_assoc wanted back left)
    ∙ sym (append_assoc given wanted (back ++ left)) ∙ ap (λ (l : List ℕ). l ++ (back ++ left)) (sym so_far.2)
