-- An argument of a command is found by its id: which place it has, and that it alone has that id, is computed.
use Rattle.std.proofs.Common.{◌≡◌, ◌∙◌, ◌<◌, ◌+◌, ◌&&◌, ◌||◌, ◌==◌, ℕ, Bool, true, false, not, zero, suc, refl, sym, ap, arith, List, [], ◌∷◌, length, codes, inl, inr, nat_lt, ltb-true, eqb-true, if◌then◌else◌, true≢false}
use Rattle.std.specs.Prelude.{map}
use Rattle.std.specs.List.{list_all, slice_index_or}
use Rattle.std.specs.Str.{bytes_eq}
use Rattle.std.proofs.lemmas.List.{get_or-map, get_or_default, length-map}
use Rattle.std.proofs.lemmas.Slice.Eq.{bytes_eq-Decides}
use Rattle.clap.specs.Facts.{args_of}
use Rattle.clap.specs.Built.{IsAuto, IsPlain}
use Rattle.clap.specs.Walk.{Rule, Text, rule_of}
use Rattle.clap.specs.Simple.{App, IsSimple, app_of, is_ready, is_ready_leaf, new_rule}
use Rattle.clap.specs.Faults.{has_free_rules}
use Rattle.clap.specs.declared.builder.arg.Arg.{Arg}
use Rattle.clap.specs.declared.builder.command.Command.{Command}
use Rattle.clap.proofs.FaultLemmas.{free_args}
use Rattle.clap.proofs.SimpleLemmas.{all_simple, ready_simple, simple_groups}
use Rattle.clap.proofs.WalkLemmas.{both}

-- ---- what is computed

-- the place of the first argument with this id
abbrev pub place_of : List Rule → Text → ℕ
place_of [] id = 0
place_of (r ∷ rs) id = if bytes_eq r.id id then 0 else suc (place_of rs id)

-- and that argument
abbrev pub rule_at : List Rule → Text → Rule
rule_at rules id = slice_index_or rules (place_of rules id) (new_rule [])

-- no argument has this id but the one at k, where the first of them is at `at`
abbrev pub is_only : ℕ → Text → ℕ → List Rule → Bool
is_only k id at [] = true
is_only k id at (r ∷ rs) = (not (bytes_eq r.id id) || at == k) && is_only k id (suc at) rs

-- one argument has this id, and it is none of the parser's own
abbrev pub is_row : List Rule → Text → Bool
is_row rules id = nat_lt (place_of rules id) (length rules) && (bytes_eq (rule_at rules id).id id
    && (is_only (place_of rules id) id 0 rules && (not (bytes_eq (codes "help") id)
    && (not (bytes_eq (codes "version") id) && not (bytes_eq [] id)))))

-- the command is one whose matches the parser's contract says, and no argument has a rule on another
abbrev pub is_table : App → Bool
is_table app = is_ready app.top && (list_all is_ready_leaf app.subs
    && (has_free_rules app.top && (all_simple app.top.rules
    && (app.top.is_plain && not app.top.subcommand_negates_reqs))))

-- ---- what follows

not_so : (b : Bool) → not b ≡ true → b ≡ false
not_so true h = absurd (true≢false (sym h))
not_so false h = refl

here_is : (b : Bool) (at k : ℕ) → b ≡ true → (not b || at == k) ≡ true → at ≡ k
here_is true at k is h = eqb-true at k h
here_is false at k is h = absurd (true≢false (sym is))

only_by : (k : ℕ) (id : Text) (at : ℕ) (rules : List Rule) → is_only k id at rules ≡ true
    → (j : ℕ) (d : Rule) → j < length rules → bytes_eq (slice_index_or rules j d).id id ≡ true → at + j ≡ k
only_by k id at [] h j d lt same = absurd (omega (arith, lt))
only_by k id at (r ∷ rs) h zero d lt same =
    let here = here_is (bytes_eq r.id id) at k same (both _ _ h).0 in
    omega (arith, here)
only_by k id at (r ∷ rs) h (suc j) d lt same =
    let rest = only_by k id (suc at) rs (both (not (bytes_eq r.id id) || at == k) _ h).1 j d (omega (arith, lt)) same in
    omega (arith, rest)

pub some_of : {X : Type 0} (xs : List X) (k : ℕ) → k < length xs → X
some_of [] k lt = absurd (omega (arith, lt))
some_of (x ∷ xs) k lt = x

-- an argument that no other one is taken for, and that is none of the parser's own
pub record IsAlone (c : Command) (k : ℕ) (id : Text) (rule : Rule) (arg : Arg) : Type 0 where
  pub within : k < length (args_of c)
  pub rule_is : rule_of arg ≡ rule
  pub id_is : arg.id.now ≡ id
  pub own : IsAuto arg → ⊥
  pub named : arg.id.now ≡ [] → ⊥
  pub unique : (j : ℕ) (e : Arg) → j < length (args_of c) → bytes_eq (slice_index_or (args_of c) j e).id.now arg.id.now ≡ true → j ≡ k

module _ (app : App) (table : is_table app ≡ true) (c : Command) (is : app_of c ≡ app) where
  facts : (is_ready app.top ≡ true) × (list_all is_ready_leaf app.subs ≡ true) × (has_free_rules app.top ≡ true) × (all_simple app.top.rules ≡ true)
      × (app.top.is_plain ≡ true) × (app.top.subcommand_negates_reqs ≡ false)
  facts =
      let a = both (is_ready app.top) _ table in
      let b = both (list_all is_ready_leaf app.subs) _ a.1 in
      let d = both (has_free_rules app.top) _ b.1 in
      let e = both (all_simple app.top.rules) _ d.1 in
      let f = both app.top.is_plain _ e.1 in
      (a.0, b.0, d.0, e.0, f.0, not_so _ f.1)

  rules_are : map rule_of (args_of c) ≡ app.top.rules
  rules_are = ap (λ a. a.top.rules) is

  count_is : length (args_of c) ≡ length app.top.rules
  count_is = sym (length-map (args_of c) rule_of) ∙ ap length rules_are

  rule_there : (k : ℕ) (d : Arg) → k < length (args_of c) → rule_of (slice_index_or (args_of c) k d) ≡ slice_index_or app.top.rules k (rule_of d)
  rule_there k d lt = sym (get_or-map rule_of (args_of c) k d (rule_of d) lt) ∙ ap (λ xs. slice_index_or xs k (rule_of d)) rules_are

  pub simple_is : IsSimple c
  simple_is = ready_simple c (ap (λ a. is_ready a.top) is ∙ facts.0) (ap (λ a. list_all is_ready_leaf a.subs) is ∙ facts.1)

  pub plain_is : IsPlain c
  plain_is =
      let free = free_args c simple_is (ap (λ a. has_free_rules a.top) is ∙ facts.2) in
      let groups = simple_groups c (ap (λ a. all_simple a.top.rules) is ∙ facts.3) in
      (λ k d lt. ((free k d lt).exclusive, (free k d lt).conflicts, (free k d lt).overrides, groups k d lt), simple_is.groups)

  pub top_is_plain : app.top.is_plain ≡ true
  top_is_plain = facts.4

  pub no_negates : app.top.subcommand_negates_reqs ≡ false
  no_negates = facts.5

  pub arg_within : (id : Text) → is_row app.top.rules id ≡ true → place_of app.top.rules id < length (args_of c)
  arg_within id row =
      let lt = ltb-true _ _ (both (nat_lt (place_of app.top.rules id) (length app.top.rules)) _ row).0 in
      rw count_is lt

  pub alone_by : (id : Text) → is_row app.top.rules id ≡ true → (d : Arg)
      → IsAlone c (place_of app.top.rules id) id (rule_at app.top.rules id) (slice_index_or (args_of c) (place_of app.top.rules id) d)
  alone_by id row d =
      let k = place_of app.top.rules id in
      let p = both (nat_lt k (length app.top.rules)) _ row in
      let q = both (bytes_eq (rule_at app.top.rules id).id id) _ p.1 in
      let o = both (is_only k id 0 app.top.rules) _ q.1 in
      let h = both (not (bytes_eq (codes "help") id)) _ o.1 in
      let v = both (not (bytes_eq (codes "version") id)) _ h.1 in
      let low : k < length app.top.rules = ltb-true _ _ p.0 in
      let lt : k < length (args_of c) = rw count_is low in
      let rule_is : rule_of (slice_index_or (args_of c) k d) ≡ rule_at app.top.rules id =
      rule_there k d lt ∙ get_or_default app.top.rules k (rule_of d) (new_rule []) low in
      let id_is : (slice_index_or (args_of c) k d).id.now ≡ id = ap (λ r. r.id) rule_is ∙ (bytes_eq-Decides _ _).0 q.0 in
      let apart : (t : Text) → bytes_eq t id ≡ false → (slice_index_or (args_of c) k d).id.now ≡ t → ⊥ =
      λ t other e. true≢false (sym ((bytes_eq-Decides t id).1 (sym e ∙ id_is)) ∙ other) in
      record {
        within = lt;
        rule_is = rule_is;
        id_is = id_is;
        own = λ auto. elim auto [ inl e ↦ apart (codes "help") (not_so _ h.0) e | inr e ↦ apart (codes "version") (not_so _ v.0) e ];
        named = apart [] (not_so _ v.1);
        unique = λ j e less same.
            let there = ap (λ r. r.id) (rule_there j e less) in
            let at = only_by k id 0 app.top.rules o.0 j (rule_of e) (rw (← count_is) less) (rw (← there, ← id_is) same) in
            omega (arith, at);
      }
