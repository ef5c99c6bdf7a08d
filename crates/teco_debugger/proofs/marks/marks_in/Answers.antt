use Rattle.std.proofs.Common.{◌≡◌, ◌∙◌, ◌++◌, ◌∷◌, ◌<◌, Bool, List, [], ℕ, ap, arith, false, get_or, length, length-append, refl, subst, sym}
use Rattle.teco_messages.specs.Spot.{spot_of}
use Rattle.teco_messages.specs.declared.spot.Spot.{Spot}
use Rattle.teco_debugger.specs.Marks.{MarkText, spot_behind}
use Rattle.teco_debugger.specs.Moving.{is_any_there}
use Rattle.teco_debugger.proofs.Marked.{marked_more, marks_text, next_spot}
use Rattle.teco_debugger.proofs.marks.marks_in.Goals as goal

pub loop-byte-preserved : goal.loop-byte-preserved
loop-byte-preserved c =
    let text = c.args.text.now in
    let stops = c.args.stops.now in
    let number = c.args.number in
    let i = c.loop-byte.byte-index in
    let marks = c.loop-byte.marks.items in
    let h = c.loop-byte.invariant in
    let items = c.in_ok-push.ensures.items in
    let within : i < length text = omega (arith, c.loop-byte-test.true) in
    let here : c.is_any_there.result ≡ is_any_there stops number (spot_of text i) = c.is_any_there.ensures ∙ ap (is_any_there stops number) h.here in
    record {
      here = c.spot_behind-here.ensures ∙ ap (λ (s : Spot). spot_behind s (get_or text i 0)) h.here ∙ next_spot text i (get_or text i 0) within refl;
      many = omega (arith, ap length items, length-append marks (c.is_any_there.result ∷ []), h.many);
      marked = λ k below. ap (λ (m : List Bool). get_or m k false) items
          ∙ marked_more (λ (j : ℕ). is_any_there stops number (spot_of text j)) marks i c.is_any_there.result h.many h.marked here k below;
    }

pub returns : goal.returns
returns c =
    let text = c.args.text.now in
    let stops = c.args.stops.now in
    let number = c.args.number in
    let h = c.loop-byte.invariant in
    let done : c.loop-byte.byte-index ≡ length text = omega arith in
    let last : c.is_any_there-2.result ≡ is_any_there stops number (spot_of text (length text)) =
    c.is_any_there-2.ensures ∙ ap (is_any_there stops number) h.here ∙ ap (λ (k : ℕ). is_any_there stops number (spot_of text k)) done in
    let items : c.push-2.new.self.items ≡ c.loop-byte.marks.items ++ c.is_any_there-2.result ∷ [] = c.in_ok-push-2.ensures.items in
    subst (λ (m : List Bool). MarkText stops number text m) (sym items)
    (marks_text stops number text c.loop-byte.marks.items c.is_any_there-2.result (h.many ∙ done) (λ k below. h.marked k (omega (arith, below, done))) last)
