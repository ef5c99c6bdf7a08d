use Rattle.std.proofs.Common.{◌≡◌, ℕ, List, Some, false, is_some, sym, ap, ◌∙◌}
use Rattle.std.proofs.lemmas.Map.Text.{btree_map_updates_str}
use Rattle.std.proofs.lemmas.Slice.Eq.{bytes_eq-Decides}
use Rattle.std.specs.Str.{bytes_eq}
use Rattle.teco_scan.specs.Gathered.{place_of}
use Rattle.teco_scan.proofs.FirstPlaces.{added}
use Rattle.teco_scan.proofs.gathering.keep_first.Goals as goal

pub returns-in_ok-insert : goal.returns-in_ok-insert
returns-in_ok-insert c other =
    let name = c.args.name.now in
    let old = c.args.places.now in
    let none : is_some (place_of old name) ≡ false = sym c.contains_key.ensures ∙ c.if-not-contains_key.true in
    btree_map_updates_str name old c.insert.new.self (Some c.args.to) c.in_ok-insert.ensures.updates other
    ∙ added (place_of old other) (bytes_eq name other) c.args.to
    (λ named. ap (λ (n : List ℕ). is_some (place_of old n)) (sym ((bytes_eq-Decides name other).0 named)) ∙ none)
