use Rattle.std.proofs.Common.{◌≡◌, ℕ, List, drop, Option, Some, None, true, is_some, sym, ap, ◌∙◌, subst, IfSome, ◌≤◌, length}
use Rattle.std.specs.Str.{bytes_eq}
use Rattle.teco_scan.specs.declared.command.BlockMark.{BlockMark}
use Rattle.teco_scan.specs.declared.token.Token.{Token}
use Rattle.teco_scan.specs.declared.token.TokenKind.{TokenKind}
use Rattle.teco_core.specs.declared.profile.Profile.{Profile}
use Rattle.teco_scan.specs.Scan.{ended, fault, found, scan}
use Rattle.teco_scan.specs.Seen.{bytes_in, instruction_in, meaning_in}
use Rattle.teco_scan.specs.Closes.{tag_of}
use Rattle.teco_scan.specs.Gathered.{place_of}
use Rattle.teco_scan.specs.Lists.{tag_at, tag_at_instruction}
use Rattle.teco_scan.proofs.FirstPlaces.{first_of, one_more, one_more_within, all_gathered}
use Rattle.teco_scan.proofs.SkipSteps.{tag_found, tag_closed}
use Rattle.teco_scan.proofs.gathering.tags_in.Goals as goal

some_mark : (o : Option BlockMark) → is_some o ≡ true → (b : BlockMark) × (Some b ≡ o)
some_mark None is = absurd cc
some_mark (Some b) is = (b, λ i. Some b)

module _ (profile : Profile) where
  -- where a tag is, by the token at this place
  at_node : (name : List ℕ) (depth : ℕ) (text : List ℕ) (next : ℕ) (t : Token) → found (meaning_in text t) (drop t.span.to text) ≡ scan profile (drop next text)
      → tag_at profile name depth (drop next text) ≡ tag_at_instruction profile name (tag_at profile name) (instruction_in text t.kind) (drop t.span.to text) depth
  at_node name depth text next t is = tag_found profile name depth (drop next text) (found (meaning_in text t) (drop t.span.to text)) is

pub returns-in-End : goal.returns-in-End
returns-in-End c =
    all_gathered c.args.profile c.args.text.now c.args.block_start c.args.depth c.gathering.next c.gathering.places c.gathering.invariant.finds c.gathering.invariant.within
    (λ name. (c.passed_end-start.ensures.alike c.args.profile).finds name c.args.depth ∙ tag_found c.args.profile name c.args.depth (drop c.passed_end-start.result c.args.text.now) ended c.in-End.ensures.read)

pub returns-in-Fault : goal.returns-in-Fault
returns-in-Fault c =
    all_gathered c.args.profile c.args.text.now c.args.block_start c.args.depth c.gathering.next c.gathering.places c.gathering.invariant.finds c.gathering.invariant.within
    (λ name. (c.passed_end-start.ensures.alike c.args.profile).finds name c.args.depth ∙ tag_found c.args.profile name c.args.depth (drop c.passed_end-start.result c.args.text.now) (fault c.in-Fault.field-0) c.in-Fault.ensures.read)

pub gathering-preserved-in-Some : goal.gathering-preserved-in-Some
gathering-preserved-in-Some c =
    let text = c.args.text.now in
    let depth = c.args.depth in
    let t = c.in-Token.token in
    let own : List ℕ = bytes_in text c.in-Some.name in
    let more : List ℕ = drop t.span.to text in
    record {
      inside = c.in-Token.ensures.place.inside;
      finds = λ name.
          ap (λ (o : Option ℕ). first_of (tag_of text o) (tag_at c.args.profile name depth more)) (c.in_ok-keep_first-in-Token.ensures name)
          ∙ one_more text (place_of c.gathering.places name) (bytes_eq own name) t.span.to (tag_at c.args.profile name depth more)
          ∙ ap (λ (later : Option (List ℕ)). first_of (tag_of text (place_of c.gathering.places name)) later)
          (sym ((c.passed_end-start.ensures.alike c.args.profile).finds name depth ∙ at_node c.args.profile name depth text c.passed_end-start.result t c.in-Token.ensures.read
          ∙ ap (λ (kind : TokenKind). tag_at_instruction c.args.profile name (tag_at c.args.profile name) (instruction_in text kind) more depth) c.in-Some.ensures))
          ∙ c.gathering.invariant.finds name;
      within = λ name. subst (λ (o : Option ℕ). IfSome o (λ to. to ≤ length text)) (sym (c.in_ok-keep_first-in-Token.ensures name))
          (one_more_within (length text) (place_of c.gathering.places name) (bytes_eq own name) t.span.to c.in-Token.ensures.place.inside (c.gathering.invariant.within name));
    }

pub returns-then-is_some : goal.returns-then-is_some
returns-then-is_some c =
    let text = c.args.text.now in
    let t = c.in-Token.token in
    let some : is_some c.closing_mark.result ≡ true = sym c.is_some.ensures ∙ c.if-is_some.true in
    let b = some_mark c.closing_mark.result some in
    all_gathered c.args.profile text c.args.block_start c.args.depth c.gathering.next c.gathering.places c.gathering.invariant.finds c.gathering.invariant.within
    (λ name. (c.passed_end-start.ensures.alike c.args.profile).finds name c.args.depth ∙ at_node c.args.profile name c.args.depth text c.passed_end-start.result t c.in-Token.ensures.read
    ∙ tag_closed c.args.profile name (drop t.span.to text) c.args.depth (instruction_in text t.kind) b.0 (b.1 ∙ c.closing_mark.ensures text))

pub gathering-preserved : goal.gathering-preserved
gathering-preserved c =
    let text = c.args.text.now in
    let t = c.in-Token.token in
    record {
      inside = c.in-Ok.ensures.within.1;
      finds = λ name. ap (λ (later : Option (List ℕ)). first_of (tag_of text (place_of c.gathering.places name)) later)
          (sym ((c.passed_end-start.ensures.alike c.args.profile).finds name c.args.depth ∙ at_node c.args.profile name c.args.depth text c.passed_end-start.result t c.in-Token.ensures.read
          ∙ c.in-Ok.ensures.finds name (c.in_default.ensures text name)))
          ∙ c.gathering.invariant.finds name;
      within = c.gathering.invariant.within;
    }

pub returns-in-Err : goal.returns-in-Err
returns-in-Err c =
    let text = c.args.text.now in
    let t = c.in-Token.token in
    all_gathered c.args.profile text c.args.block_start c.args.depth c.gathering.next c.gathering.places c.gathering.invariant.finds c.gathering.invariant.within
    (λ name. (c.passed_end-start.ensures.alike c.args.profile).finds name c.args.depth ∙ at_node c.args.profile name c.args.depth text c.passed_end-start.result t c.in-Token.ensures.read
    ∙ c.in-Err.ensures.finds name (c.in_default.ensures text name))
