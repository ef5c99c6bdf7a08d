-- Where the lists around one begin.
use Rattle.std.proofs.Common.{◌≡◌, ℕ, zero, suc, ◌+◌, ◌-◌, ◌<◌, ◌≤◌, Bool, true, false, List, [], ◌∷◌, length, drop, set, Option, Some, None, is_some, refl, sym, ap, ◌∙◌, arith}
use Rattle.std.specs.Prelude.{◌||◌, slice_index}
use Rattle.std.proofs.lemmas.Bool.{cases_eq}
use Rattle.std.proofs.lemmas.List.{get_or-set_same, get_or-set_other}
use Rattle.teco_core.specs.declared.profile.Profile.{Profile}
use Rattle.teco_scan.specs.declared.blocks.Kind.{Kind}
use Rattle.teco_scan.specs.Tree.{Nodes, after_tag}
use Rattle.teco_scan.specs.Closes.{tag_of}
use Rattle.teco_scan.specs.Lists.{Listed, nodes, list_at, tag_at}
use Rattle.teco_scan.specs.ListLaws.{BlockLaws, Finds}
use Rattle.teco_check.specs.Clean.{is_there, lands, is_clean, clean_within}
use Rattle.teco_check.specs.Checked.{held, may_hold, lands_below, AreInside, AreOpen}

pub some_of : (bytes : List ℕ) (r : Option ℕ) (o : Option (List ℕ)) → tag_of bytes r ≡ o → is_some o ≡ is_some r
some_of bytes (Some to) o e = ap (λ (x : Option (List ℕ)). is_some x) (sym e)
some_of bytes None o e = ap (λ (x : Option (List ℕ)). is_some x) (sym e)

pub inside_kept : (bytes starts : List ℕ) (n at : ℕ) → n < length starts → at ≤ length bytes → AreInside bytes starts n → AreInside bytes (set starts n at) (n + 1)
inside_kept bytes starts n at lt le h d is = grind (arith, get_or-set_same starts n at 0, get_or-set_other starts n d at 0, cases_eq d n, lt, le, h d, is)

module _ (profile : Profile) where
  pub below_step : (bytes starts : List ℕ) (d : ℕ) (name : List ℕ) → 0 < d
      → lands_below profile bytes starts d name ≡ is_some (tag_at profile name (d - 1) (drop (slice_index starts (d - 1)) bytes)) || lands_below profile bytes starts (d - 1) name
  unfolding lands_below
  below_step bytes starts zero name lt = absurd (omega arith)
  below_step bytes starts (suc d) name lt = let e : suc d - 1 ≡ d = omega arith in rw e refl

  pub below_zero : (bytes starts : List ℕ) (d : ℕ) (name : List ℕ) → d ≤ 0 → false ≡ lands_below profile bytes starts d name
  unfolding lands_below
  below_zero bytes starts zero name le = refl
  below_zero bytes starts (suc d) name le = absurd (omega (arith, le))

  pub below_some : (bytes starts : List ℕ) (d : ℕ) (name : List ℕ) (r : Option ℕ) → 0 < d → tag_of bytes r ≡ tag_at profile name (d - 1) (drop (slice_index starts (d - 1)) bytes)
      → is_some r ≡ true → lands_below profile bytes starts d name ≡ true
  below_some bytes starts d name r lt e is = below_step bytes starts d name lt ∙ ap (λ (b : Bool). b || lands_below profile bytes starts (d - 1) name) (some_of bytes r _ e ∙ is)

  pub below_none : (bytes starts : List ℕ) (d : ℕ) (name : List ℕ) (r : Option ℕ) → 0 < d → tag_of bytes r ≡ tag_at profile name (d - 1) (drop (slice_index starts (d - 1)) bytes)
      → is_some r ≡ false → lands_below profile bytes starts d name ≡ lands_below profile bytes starts (d - 1) name
  below_none bytes starts d name r lt e is = below_step bytes starts d name lt ∙ ap (λ (b : Bool). b || lands_below profile bytes starts (d - 1) name) (some_of bytes r _ e ∙ is)

  -- a place that is kept further in changes nothing of the lists around it
  pub below_kept : (bytes starts : List ℕ) (d n at : ℕ) (name : List ℕ) → d ≤ n → lands_below profile bytes (set starts n at) d name ≡ lands_below profile bytes starts d name
  unfolding lands_below
  below_kept bytes starts zero n at name le = refl
  below_kept bytes starts (suc d) n at name le =
      ap (λ (p : ℕ). is_some (tag_at profile name d (drop p bytes)) || lands_below profile bytes (set starts n at) d name) (get_or-set_other starts n d at 0 (λ e. omega (arith, e, le)))
      ∙ ap (λ (b : Bool). is_some (tag_at profile name d (drop (slice_index starts d) bytes)) || b) (below_kept bytes starts d n at name (omega (arith, le)))

  -- what a search finds, is there
  there : (name : List ℕ) (k : Option Kind) (d : ℕ) (l : Listed) (o : Option (List ℕ)) → Finds profile name k d l o → is_there (after_tag name l.0) ≡ is_some o
  there name k d l None h = ap (λ (x : Option Nodes). is_there x) h
  there name k d l (Some bs) h = ap (λ (x : Option Nodes). is_there x) h.0

  -- one list more: the list that begins at this place
  pub opens : (laws : BlockLaws profile) (bytes starts : List ℕ) (d at : ℕ) (k : Option Kind) (lists : List Nodes) → d < length starts → AreOpen profile bytes starts d lists
      → AreOpen profile bytes (set starts d at) (d + 1) ((list_at profile k d (drop at bytes)).0 ∷ lists)
  opens laws bytes starts d at k lists lt h name =
      let one : 0 < d + 1 = omega arith in
      let less : d + 1 - 1 ≡ d = omega arith in
      ap (λ (b : Bool). b || lands lists name) (there name k d (list_at profile k d (drop at bytes)) (tag_at profile name d (drop at bytes)) (laws.search_finds name k d (drop at bytes)))
      ∙ ap (λ (b : Bool). is_some (tag_at profile name d (drop at bytes)) || b) (h name ∙ sym (below_kept bytes starts d d at name (omega arith)))
      ∙ ap (λ (p : ℕ). is_some (tag_at profile name d (drop p bytes)) || lands_below profile bytes (set starts d at) d name) (sym (get_or-set_same starts d at 0 lt))
      ∙ sym (ap (λ (e : ℕ). is_some (tag_at profile name e (drop (slice_index (set starts d at) e) bytes)) || lands_below profile bytes (set starts d at) e name) less)
      ∙ sym (below_step bytes (set starts d at) (d + 1) name one)

  -- no list is around the text's own
  pub text_clean : (n : ℕ) (code : List Bool) (bytes : List ℕ) (v : Bool) → is_clean (held code) (may_hold profile n code) (nodes profile bytes ∷ []) (nodes profile bytes) ≡ v → clean_within profile (suc n) (held code) bytes ≡ v
  unfolding clean_within
  text_clean n code bytes v e = e
