use Rattle.std.proofs.Common.{◌≡◌, ℕ, ◌+◌, ◌<◌, List, length, take, drop, get_or, set, sym, ◌∙◌, ap, arith, ◌∷◌, [], ◌++◌}
use Rattle.std.proofs.lemmas.List.{take_more, take_more_set, get_or-drop, length-drop, length-set}
use Rattle.teco_gap.specs.Gap.{text}
use Rattle.teco_store.proofs.short_text.ShortText.copied.Goals as goal

-- One more element is copied.
copied_more : (ys xs : List ℕ) (at i x : ℕ) → i < length ys → at + i < length xs → x ≡ get_or xs (at + i) 0
    → take i ys ≡ take i (drop at xs) → take (i + 1) (set ys i x) ≡ take (i + 1) (drop at xs)
copied_more ys xs at i x within there is same =
    take_more_set ys i x within ∙ ap (λ zs. zs ++ x ∷ []) same ∙ ap (λ z. take i (drop at xs) ++ z ∷ []) (is ∙ sym (get_or-drop at xs i 0))
    ∙ sym (take_more (drop at xs) i 0 (omega (arith, length-drop at xs)))

pub loop-i-preserved : goal.loop-i-preserved
loop-i-preserved c =
    let places = c.loop-i.invariant.places in
    record {
      places = length-set c.loop-i.bytes c.loop-i.i c.get.result ∙ places;
      copied = copied_more c.loop-i.bytes (text c.args.buffer.now) c.args.at c.loop-i.i c.get.result (omega arith) (omega arith) c.get.ensures c.loop-i.invariant.copied;
    }
