use Rattle.std.proofs.lemmas.Grind.{common_steps}
use Rattle.std.proofs.Common.{◌≡◌, ◌+◌, ◌-◌, ◌<◌, ℕ, List, ◌∷◌, ◌++◌, length, take, drop, get_or, arith, refl, ap, subst, sym, ◌∙◌}
use Rattle.std.proofs.lemmas.List.{drop-drop, take_rest, length-drop}
use Rattle.teco_core.specs.declared.ascii.TheConstants.{ESC}
use Rattle.teco_serve.specs.Cut.{value_of}
use Rattle.teco_scan.specs.Stream.{IsText, asks_of, requests}
use Rattle.teco_scan.proofs.Streams.{cut_parts, requests-cut}
use Rattle.teco_serve.proofs.splitter.Splitter.next.Goals as goal

-- the slice from the start on is what is held
held_in : (bytes slice : List ℕ) (start : ℕ) → slice ≡ bytes → take (length slice - start) (drop start slice) ≡ drop start bytes
held_in bytes slice start e = take_rest slice start ∙ ap (drop start) e

abbrev EndsAt : ℕ → List ℕ → Type 0
EndsAt at held = (at < length held) × (get_or held at 0 ≡ ESC) × IsText (take at held)

pub returns-in_default : goal.returns-in_default
returns-in_default c = record {
  cut = grind (arith, common_steps);
  first = λ more. ap (λ l. requests (l ++ more)) (sym c.self.view_is);
  err = grind (arith, common_steps);
}

pub returns : goal.returns
returns c = record {
  cut = let bytes = c.self.inside.bytes.items in
      let start = c.self.inside.start in
      let at = c.in-Some.at in
      let held = drop start bytes in
      let same = held_in bytes c.as_slice.result.now start c.as_slice.ensures.value in
      let found = subst (EndsAt at) same c.in-Some.ensures in
      let place : start + at + 1 ≡ start + (at + 1) = omega arith in
      let left : drop c.compacted-self-inside.result c.compacted-self-inside.new.bytes.items ≡ drop (at + 1) held =
      c.compacted-self-inside.ensures.held ∙ ap (λ k. drop k bytes) place ∙ sym (drop-drop (at + 1) start bytes) in (
        take at held,
        found.2,
        sym c.self.view_is ∙ cut_parts held at found.0 found.1 ∙ ap (λ l. take at held ++ ESC ∷ l) (sym left),
        c.in_ok-asked.ensures ∙ ap (λ l. asks_of (take at l)) same,
      );
  first = λ more.
      let bytes = c.self.inside.bytes.items in
      let start = c.self.inside.start in
      let at = c.in-Some.at in
      let held = drop start bytes in
      let same = held_in bytes c.as_slice.result.now start c.as_slice.ensures.value in
      let found = subst (EndsAt at) same c.in-Some.ensures in
      let asks : value_of c.in_ok-asked.asked ≡ asks_of (take at held) = c.in_ok-asked.ensures ∙ ap (λ l. asks_of (take at l)) same in
      let place : start + at + 1 ≡ start + (at + 1) = omega arith in
      let left : drop c.compacted-self-inside.result c.compacted-self-inside.new.bytes.items ≡ drop (at + 1) held =
      c.compacted-self-inside.ensures.held ∙ ap (λ k. drop k bytes) place ∙ sym (drop-drop (at + 1) start bytes) in
      ap (λ l. requests (l ++ more)) (sym c.self.view_is) ∙ requests-cut held at more found.0 found.1 found.2
      ∙ ap (λ a. a ∷ requests (drop (at + 1) held ++ more)) (sym asks)
      ∙ ap (λ l. value_of c.in_ok-asked.asked ∷ requests (l ++ more)) (sym left);
  err = grind (arith, common_steps);
}

pub returns-in_err-asked : goal.returns-in_err-asked
returns-in_err-asked c = record {
  cut = grind (arith, common_steps);
  first = grind (arith, common_steps);
  err = grind (arith, common_steps);
}

pub invariant_of-self-in_err-asked : goal.invariant_of-self-in_err-asked
invariant_of-self-in_err-asked c =
    let same = held_in c.self.inside.bytes.items c.as_slice.result.now c.self.inside.start c.as_slice.ensures.value in
    let found = subst (EndsAt c.in-Some.at) same c.in-Some.ensures in
    let room : c.in-Some.at < length c.self.inside.bytes.items - c.self.inside.start = simp length-drop at found.0 in
    record { within = omega (arith, room); no_pair = found.2.no_pair }

pub invariant_of-self-2 : goal.invariant_of-self-2
invariant_of-self-2 c = record { within = omega (arith, c.compacted-self-inside.ensures.within); no_pair = refl }

pub slice_bounds-held-count : goal.slice_bounds-held-count
slice_bounds-held-count c = grind (arith, common_steps)

pub slice_bounds-held-start : goal.slice_bounds-held-start
slice_bounds-held-start c = grind (arith, common_steps)

pub slice_bounds-held-end : goal.slice_bounds-held-end
slice_bounds-held-end c = grind (arith, common_steps)

pub pair_end-requires-clause-within : goal.pair_end-requires-clause-within
pair_end-requires-clause-within c = grind (arith, common_steps)

pub pair_end-requires-clause-none : goal.pair_end-requires-clause-none
pair_end-requires-clause-none c = grind (arith, common_steps)

pub invariant_of-self : goal.invariant_of-self
invariant_of-self c = grind (arith, common_steps)

pub slice_bounds-asked_in-end : goal.slice_bounds-asked_in-end
slice_bounds-asked_in-end c = grind (arith, common_steps)

pub overflow_add-self-inside : goal.overflow_add-self-inside
overflow_add-self-inside c = grind (arith, common_steps)

pub overflow_add-self-inside-2 : goal.overflow_add-self-inside-2
overflow_add-self-inside-2 c = grind (arith, common_steps)

pub compacted-self-inside-requires : goal.compacted-self-inside-requires
compacted-self-inside-requires c = grind (arith, common_steps)
