-- The entries of a parse.
use Rattle.std.proofs.Common.{◌≡◌, ◌∙◌, ◌<◌, ℕ, Bool, true, false, refl, sym, ap, subst, arith, List, [], ◌∷◌, length, is_some, Option, Some, None, inl, inr}
use Rattle.std.specs.Prelude.{option_map, slice_get}
use Rattle.std.specs.List.{All, slice_index_or}
use Rattle.std.specs.Str.{bytes_eq}
use Rattle.std.specs.Borrow.{Bor}
use Rattle.std.proofs.lemmas.List.Elements.{All-get_or}
use Rattle.std.proofs.lemmas.Slice.Eq.{bytes_eq-Decides}
use Rattle.clap.specs.Facts.{Entry, EntryPasses, HasReading, PassesArg, args_of, groups_of, parser_of, parser_of_value}
use Rattle.clap.specs.Built.{IsAuto, IsParsedFrom, IsPlain}
use Rattle.clap.specs.Values.{Accepts, read_as, reading_of}
use Rattle.clap.specs.Matches.{first_value, found_of, matched_of, one_text}
use Rattle.clap.specs.declared.builder.arg.Arg.{Arg}
use Rattle.clap.specs.declared.builder.command.Command.{Command}
use Rattle.clap.specs.declared.builder.command.Command.TheViews.{out-Command}
use Rattle.clap.specs.declared.builder.value_parser.Reading.{Reading}
use Rattle.clap.specs.declared.builder.value_parser.ValueParser.{ValueParser}
use Rattle.clap.specs.declared.parser.matches.ArgMatches.{ArgMatches}
use Rattle.clap.specs.declared.parser.matches.Found.{Found}
use Rattle.clap.specs.declared.parser.matches.MatchedArg.{MatchedArg}
use Rattle.clap.proofs.CallerLemmas.{entry_by_id, same_rules_by_id}

-- ---- entries

module _ (old : Command) (m : ArgMatches) (p : IsParsedFrom old m) (plain : IsPlain old) (globals : (out-Command old).has_globals ≡ false)
    (k : ℕ) (d : Arg) (lt : k < length (args_of old))
    (unique : (j : ℕ) (e : Arg) → j < length (args_of old) → bytes_eq (slice_index_or (args_of old) j e).id.now (slice_index_or (args_of old) k d).id.now ≡ true → j ≡ k)
    (own : IsAuto (slice_index_or (args_of old) k d) → ⊥) where
  -- the argument that the caller gave, its id, and what was found
  abbrev arg : Arg
  arg = slice_index_or (args_of old) k d

  abbrev id : List ℕ
  id = arg.id.now

  abbrev found : Found
  found = found_of m

  -- an argument with its id is read as its parser says
  only_reading : (q : ValueParser) → arg.value_parser ≡ Some q → (r : Reading) → HasReading p.built id r → r ≡ reading_of q
  only_reading q parser r any =
      let s = same_rules_by_id old m p k d lt unique own any.0 any.1 any.2 any.3 any.4.0 in
      let is_q : parser_of any.1 ≡ q = ap parser_of_value (s.parser q parser) in
      sym any.4.1 ∙ ap reading_of is_q

  -- a value that passed an argument with its id passed its parser
  passes_read : (q : ValueParser) → arg.value_parser ≡ Some q → (w : List ℕ) (v : Bor (List ℕ)) → w ≡ id → PassesArg p.built w v.now → Accepts arg.ignore_case q v.now
  passes_read q parser w v key pass =
      let same : bytes_eq pass.1.id.now id ≡ true = subst (λ (u : List ℕ). bytes_eq pass.1.id.now u ≡ true) key pass.4.0 in
      let s = same_rules_by_id old m p k d lt unique own pass.0 pass.1 pass.2 pass.3 same in
      let is_q : parser_of pass.1 ≡ q = ap parser_of_value (s.parser q parser) in
      let as_q : Accepts pass.1.ignore_case q v.now = subst (λ (w : ValueParser). Accepts pass.1.ignore_case w v.now) is_q pass.4.1 in
      subst (λ (b : Bool). Accepts b q v.now) s.ignore_case as_q

  head_passes : (P : Bor (List ℕ) → Type 0) (how : Reading) (vs : List (Bor (List ℕ))) → All P vs → is_some (option_map (λ s. s.now) (slice_get vs 0)) ≡ true
      → (v : Bor (List ℕ)) × (option_map (λ s. read_as how s.now) (slice_get vs 0) ≡ Some (read_as how v.now)) × P v
  head_passes P how [] h some = cc
  head_passes P how (v ∷ vs) h some = (v, refl, All-get_or P (v ∷ vs) 0 v (omega arith) h)

  one_text_at_entry : (x : MatchedArg) (how : Reading) (t : List ℕ) → matched_of found id ≡ Some x → x.reading ≡ how
      → option_map (λ s. read_as how s.now) (slice_get x.vals.items 0) ≡ Some t → one_text found id ≡ Some t
  one_text_at_entry x how t at how_is v = rw (at, how_is) v

  -- what one entry gives
  read_of : (q : ValueParser) → arg.value_parser ≡ Some q → (id ≡ [] → ⊥) → (x : MatchedArg) (e : Entry) → matched_of found id ≡ Some x
      → is_some (option_map (λ s. s.now) (slice_get x.vals.items 0)) ≡ true → e.1 ≡ x → e.0.now ≡ id → EntryPasses p.built e
      → (t : List ℕ) × (one_text found id ≡ Some (read_as (reading_of q) t)) × Accepts arg.ignore_case q t
  read_of q parser named x e at first same_x key_id pass =
      let no_groups : groups_of p.built ≡ [] = (p.from.plain plain).1 in
      let no_group : e.1.is_group ≡ true → ⊥ = λ g. elim (pass.3 g) [
        | inl empty ↦ named (sym key_id ∙ empty)
        | inr lots ↦
            let bad : 0 < 0 = rw no_groups at lots in
            absurd (omega arith)
      ] in
      let all : All (λ v. PassesArg p.built id v.now) x.vals.items = elim pass.0 [
        | inl g ↦ absurd (no_group g)
        | inr vals ↦ subst (λ (w : List ℕ). All (λ v. PassesArg p.built w v.now) x.vals.items) key_id (rw same_x at vals)
      ] in
      let reads : e.1.reading ≡ reading_of q = elim pass.4 [
        | inl g ↦ absurd (no_group g)
        | inr h ↦ only_reading q parser e.1.reading (subst (λ (w : List ℕ). HasReading p.built w e.1.reading) key_id h)
      ] in
      let head = head_passes (λ v. PassesArg p.built id v.now) (reading_of q) x.vals.items all first in (
        head.0.now,
        one_text_at_entry x (reading_of q) (read_as (reading_of q) head.0.now) at (ap (λ (y : MatchedArg). y.reading) (sym same_x) ∙ reads) head.1,
        passes_read q parser id head.0 refl head.2,
      )

  -- an argument with a first value has a text that passed its parser, and is read as that parser says
  pub entry_read : (q : ValueParser) → arg.value_parser ≡ Some q → (id ≡ [] → ⊥) → is_some (first_value found id) ≡ true
      → (t : List ℕ) × (one_text found id ≡ Some (read_as (reading_of q) t)) × Accepts arg.ignore_case q t
  entry_read q parser named has = go (matched_of found id) refl has
    where
      step : (x : MatchedArg) → matched_of found id ≡ Some x → is_some (option_map (λ s. s.now) (slice_get x.vals.items 0)) ≡ true
          → ((e : Entry) × (e.1 ≡ x) × (bytes_eq e.0.now id ≡ true) × EntryPasses p.built e)
          → (t : List ℕ) × (one_text found id ≡ Some (read_as (reading_of q) t)) × Accepts arg.ignore_case q t
      step x at first got = read_of q parser named x got.0 at first got.1 ((bytes_eq-Decides got.0.0.now id).0 got.2) got.3

      go : (o : Option MatchedArg) → matched_of found id ≡ o → is_some (first_value found id) ≡ true
          → (t : List ℕ) × (one_text found id ≡ Some (read_as (reading_of q) t)) × Accepts arg.ignore_case q t
      go None e h =
          let bad : false ≡ true = rw e at h in
          cc
      go (Some x) e h = step x e (rw e at h) (entry_by_id (EntryPasses p.built) found.entries.items id x (p.parsed (p.from.globals ∙ globals)).values e)
