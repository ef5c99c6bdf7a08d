-- The caret by which a source can't be read is in it, and a source stands for no more bytes than it has.
use Rattle.std.proofs.Common.{◌≡◌, ℕ, suc, ◌+◌, ◌<◌, ◌≤◌, Bool, true, false, ◌&&◌, List, [], ◌∷◌, Ok, Err, length, take, refl, ap, ◌∙◌, arith, nat_le, nat_lt, ltb-true, ltb-false}
use Rattle.std.specs.Prelude.{is_ok}
use Rattle.std.specs.List.{list_all}
use Rattle.std.proofs.lemmas.Bool.{leb-true}
use Rattle.std.proofs.lemmas.List.{take_all}
use Rattle.teco_source.specs.Laws.{is_rising}
use Rattle.teco_source.specs.Places.{places_of}
use Rattle.teco_source.specs.Source.{commands_of}
use Rattle.teco_source.proofs.Bytes.{split}
use Rattle.teco_source.proofs.PlaceLaws.{places_grow}
use Rattle.teco_source.proofs.Places.{places_are_first}

pub caret_within : (source : List ℕ) (p : ℕ) → commands_of source ≡ Err p → p ≤ length source
caret_within source p e =
    split (nat_lt (length source) p) (λ t.
    let lt : length source < p = ltb-true (length source) p t in
    let whole : take p source ≡ source = take_all p source (omega (arith, lt)) in
    let ok : is_ok (commands_of (take p source)) ≡ true = (places_are_first source p e).0 in
    let off : is_ok (commands_of (take p source)) ≡ false = ap (λ s. is_ok (commands_of s)) whole ∙ ap is_ok e in
    cc) (λ f. ltb-false (length source) p f)

both : (a b : Bool) → a && b ≡ true → (a ≡ true) × (b ≡ true)
both true b h = (refl, h)
both false b h = cc

-- places that rise below a number are no more than there are numbers
rising_few : (ps : List ℕ) (low n : ℕ) → is_rising low ps ≡ true → list_all (λ p. nat_lt p n) ps ≡ true → low ≤ n → low + length ps ≤ n
rising_few [] low n r a h = omega (arith, h)
rising_few (p ∷ ps) low n r a h =
    let one = both (nat_le low p) (is_rising (suc p) ps) r in
    let two = both (nat_lt p n) (list_all (λ q. nat_lt q n) ps) a in
    let from : low ≤ p = leb-true low p one.0 in
    let lt : p < n = ltb-true p n two.0 in
    let rest : suc p + length ps ≤ n = rising_few ps (suc p) n one.1 two.1 (omega (arith, lt)) in
    omega (arith, from, rest)

pub bytes_within : (source bytes : List ℕ) → commands_of source ≡ Ok bytes → length bytes ≤ length source
bytes_within source bytes e =
    let law = places_grow source in
    let some : length bytes ≤ length (places_of source) = law.each bytes e in
    let few : 0 + length (places_of source) ≤ length source = rising_few (places_of source) 0 (length source) law.rises law.inside (omega arith) in
    omega (arith, some, few)
