use Rattle.std.proofs.Common.{◌≡◌, ◌∙◌, ◌-◌, ◌++◌, ap, append_assoc, arith, drop, length, length-append, length-drop, min, refl, sym, take, List, [], ℕ}
use Rattle.std.proofs.lemmas.List.{append-nil, drop_all}
use Rattle.teco_ffi.specs.Rooms.{filled}
use Rattle.teco_store.specs.Slices.{bytes_in}
use Rattle.teco_ffi.proofs.Dropping.{drop_in_parts}
use Rattle.teco_ffi.proofs.Filling.{filled_more, filled_nothing}
use Rattle.teco_ffi.proofs.room.copy_output.Goals as goal

pub loop-slice-init : goal.loop-slice-init
loop-slice-init c = ([], refl, sym (filled_nothing c.args.room.now), omega arith)

pub loop-slice-preserved : goal.loop-slice-preserved
loop-slice-preserved c =
    let so_far = c.loop-slice.invariant in
    let given = so_far.0 in
    let room = c.args.room.now in
    let past = c.loop-slice.past in
    let slice = c.in-Some.slice.now in
    let others = bytes_in c.in-Some.others in
    let bytes = c.bytes_from-bytes.result.now in
    let count = c.loop-slice.count in
    let bytes_are : bytes ≡ drop past slice = c.bytes_from-bytes.ensures in
    let left : c.saturating_sub-past.result ≡ past - length slice = omega arith in
    let count_is : count ≡ min (length given) (length room) = so_far.3 in (
      given ++ bytes,
      so_far.1 ∙ ap (λ (l : List ℕ). given ++ l)
          (ap (λ (l : List ℕ). drop past l) c.in-Some.ensures.bytes ∙ sym (drop_in_parts past slice others)
          ∙ ap (λ (l : List ℕ). l ++ drop (past - length slice) others) (sym bytes_are) ∙ ap (λ (k : ℕ). bytes ++ drop k others) (sym left))
          ∙ sym (append_assoc given bytes (drop c.saturating_sub-past.result others)),
      c.copy_behind.ensures ∙ ap (λ (l : List ℕ). take count l ++ filled (drop count l) bytes) so_far.2 ∙ filled_more room given bytes count count_is,
      omega (arith, length-append given bytes),
    )

pub returns : goal.returns
returns c =
    let so_far = c.loop-slice.invariant in
    let none : drop c.loop-slice.past (bytes_in c.loop-slice.left) ≡ [] = ap (λ (l : List ℕ). drop c.loop-slice.past l) c.in_default.ensures.bytes ∙ drop_all c.loop-slice.past [] (omega arith) in
    let all : drop c.args.from (bytes_in c.args.output) ≡ so_far.0 = so_far.1 ∙ ap (λ (l : List ℕ). so_far.0 ++ l) none ∙ append-nil so_far.0 in
    record {
      length = omega (arith, length-drop c.args.from (bytes_in c.args.output));
      room = so_far.2 ∙ ap (filled c.args.room.now) (sym all);
    }
