use Rattle.std.proofs.Common.{◌≡◌, ◌∙◌, List, ℕ, Option, Some, None, is_some, codes, refl, sym, ap, inl, inr, true≢false}
use Rattle.std.specs.Borrow.{Bor}
use Rattle.std.specs.Prelude.{option_map}
use Rattle.clap.proofs.WalkLemmas.{first_value-rows}
use Rattle.clap.specs.Words.{first_of, found_of, rows_of}
use Rattle.teco_cli.proofs.line.is_in_place.Goals as goal

some_behind : (text : Option (Bor (List ℕ))) → is_some (option_map (λ s. s.now) text) ≡ is_some text
some_behind None = refl
some_behind (Some text) = refl

pub returns-else-flag_at : goal.returns-else-flag_at
returns-else-flag_at c =
    let found = found_of c.args.matches.now in
    let given : is_some (first_of (codes "backup") (rows_of found)) ≡ c.is_some.result =
    ap is_some (sym (c.get_str.ensures ∙ first_value-rows found (codes "backup"))) ∙ (some_behind c.get_str.result ∙ sym c.is_some.ensures) in (
      λ up. inr (given ∙ up),
      λ asked. elim asked [
        | inl flag ↦ absurd (true≢false (sym (c.flag_at.ensures.1 flag) ∙ c.if-flag_at.false))
        | inr some ↦ sym given ∙ some
      ],
    )
