-- Steps on the way at which a walk is to stop, or passes.
use Rattle.std.proofs.Common.{◌≡◌, ◌∙◌, ℕ, ◌+◌, ◌-◌, ◌<◌, ◌≤◌, List, [], ◌∷◌, length, Bool, true, false, Option, Some, None, if◌then◌else◌, nat_le, nat_lt, refl, sym, ap, subst, arith, inl, inr}
use Rattle.std.specs.Prelude.{IfSome, ◌==◌, ◌&&◌, ◌||◌, slice_get, sum}
use Rattle.std.specs.declared.alloc.Global.{Global}
use Rattle.std.specs.declared.vec.Vec.{Vec}
use Rattle.std.proofs.lemmas.Bool.{and_parts, cases_lt, eqb-false, eqb-true, false≢true, true≢false}
use Rattle.std.proofs.lemmas.List.{length-map}
use Rattle.std.proofs.lemmas.List.Sums.{count_by-le-length, sum_by-cons}
use Rattle.teco_exec.specs.MachineLaws.{MachineMeans}
use Rattle.teco_exec.specs.Places.{IsFirstWanted, IsVisit, NoneIsWanted, StandsWanted, stands_after, wanted_in}
use Rattle.teco_exec.specs.Telling.{IsLastPlace, call_told, told_of}
use Rattle.teco_exec.specs.declared.place.Place.{Place}
use Rattle.teco_messages.specs.declared.spot.Spot.{Spot}
use Rattle.teco_store.specs.State.{State}
use Rattle.teco_debugger.specs.Marks.{AreMarks, is_wanted}
use Rattle.teco_debugger.specs.Moving.{AreTried, FindsPlace, Goal, IsElsewhere, PassesBetween, StandsSo, calls_at, ends_wanted, goal as to_stop, is_any_there, is_goal, is_one, is_place, is_there}
use Rattle.teco_debugger.specs.Sources.{number_at, place_in_source}
use Rattle.teco_debugger.specs.Testing.{is_met}
use Rattle.teco_debugger.specs.Walk.{KeptWalk, base, meant}
use Rattle.teco_debugger.specs.declared.sources.SourceText.{SourceText}
use Rattle.teco_debugger.specs.declared.stops.Break.{Break}
use Rattle.teco_debugger.specs.declared.stops.TheConstants.{MOST_WORK}
use Rattle.teco_debugger.proofs.RunEnds.{nowhere_after, nowhere_at_end, stands_code, stands_steps}

module _ (walk : KeptWalk) where
  abbrev start : State
  start = base walk

  -- the run stands there after just the steps that a place tells
  visit_there : (n e : ℕ) (p : Place) → IsLastPlace start walk.text e p → p.steps ≡ n → IsVisit start walk.text n (calls_at p) p.at
  visit_there n e p last same = record {
    told = told_of start.profile last.innermost p;
    stood = record {
      there = last.stood.there;
      stands = last.stood.stands;
      told = last.stood.told;
      within = omega (arith, same);
      last = λ j more le. absurd (omega (arith, more, le, same));
    };
    steps_are = same;
    calls_are = length-map p.calls.items call_told;
    at_is = refl;
  }

module _ (walk : KeptWalk) (holds : ℕ → ℕ → Bool) where
  stood : (from n : ℕ) (so : Bool) → StandsWanted (wanted_in (start walk) walk.text holds from) n so → StandsSo walk holds n so
  stood from n so h = record { calls = h.calls; at = h.at; stands = h.stands; is = h.is }

  elsewhere_before : (from to : ℕ) → NoneIsWanted (wanted_in (start walk) walk.text holds from) to → (k : ℕ) → from ≤ k → k < to → IsElsewhere walk holds k
  elsewhere_before from to none k above below = inl (stood from k false (none k above below))

  pub finds_some : (from limit n : ℕ) → IsFirstWanted (wanted_in (start walk) walk.text holds from) n → n < limit → FindsPlace walk holds from limit (Some n)
  finds_some from limit n h below = (record { after = h.after; here = stood from n true h.here; passed = elsewhere_before from n h.none }, below)

  pub finds_late : (from limit n : ℕ) → IsFirstWanted (wanted_in (start walk) walk.text holds from) n → limit ≤ n → FindsPlace walk holds from limit None
  finds_late from limit n h late k above below = elsewhere_before from n h.none k above (omega (arith, late, below))

  pub finds_nothing : (from limit : ℕ) (found : Option ℕ) → ((n : ℕ) → found ≡ Some n → ⊥) → FindsPlace walk holds from limit found → FindsPlace walk holds from limit None
  finds_nothing from limit None not h = h
  finds_nothing from limit (Some n) not h = absurd (not n refl)

  place_elsewhere : (e : ℕ) (p : Place) (so : Bool) → (p.steps == e) ≡ so → IsLastPlace (start walk) walk.text e p → (so && holds (calls_at p) p.at) ≡ false → IsElsewhere walk holds e
  place_elsewhere e p true here last not_so = inl (record { calls = calls_at p; at = p.at; stands = visit_there walk e e p last (eqb-true p.steps e here); is = not_so })
  place_elsewhere e p false here last not_so =
      let other = eqb-false p.steps e here in
      let within = last.stood.within in
      inr (last.stood.last e (omega (arith, within, other)) (omega arith))

  -- where a run that was seen stands at its end, if that is not wanted
  ended_elsewhere : (e : ℕ) (place : Option Place) → ends_wanted holds e place ≡ false → IfSome place (λ p. IsLastPlace (start walk) walk.text e p)
      → (place ≡ None → stands_after (start walk) walk.text e ≡ None) → IsElsewhere walk holds e
  ended_elsewhere e None not_so last over = inr (over refl)
  ended_elsewhere e (Some p) not_so last over = place_elsewhere e p (p.steps == e) refl last not_so

  -- the same, if it is
  ended_there : (e : ℕ) (place : Option Place) → ends_wanted holds e place ≡ true → IfSome place (λ p. IsLastPlace (start walk) walk.text e p) → StandsSo walk holds e true
  ended_there e None not_so last = absurd (false≢true not_so)
  ended_there e (Some p) so_is last =
      let parts = and_parts (p.steps == e) (holds (calls_at p) p.at) so_is in
      record { calls = calls_at p; at = p.at; stands = visit_there walk e e p last (eqb-true p.steps e parts.0); is = parts.1 }

  pub finds_end : (from limit e : ℕ) (place : Option Place) → e ≡ (meant (base walk) walk.text limit).steps → IfSome place (λ p. IsLastPlace (start walk) walk.text e p)
      → NoneIsWanted (wanted_in (start walk) walk.text holds from) (meant (base walk) walk.text limit).steps → from ≤ e → e < limit → ends_wanted holds e place ≡ true
      → FindsPlace walk holds from limit (Some e)
  finds_end from limit e place is last none above below so_is =
      (record { after = above; here = ended_there e place so_is last; passed = λ k a b. elsewhere_before from (meant (base walk) walk.text limit).steps none k a (omega (arith, b, is)) }, below)

  pub finds_none : MachineMeans → (from limit e : ℕ) (place : Option Place) → e ≡ (meant (base walk) walk.text limit).steps → IfSome place (λ p. IsLastPlace (start walk) walk.text e p)
      → NoneIsWanted (wanted_in (start walk) walk.text holds from) (meant (base walk) walk.text limit).steps → (place ≡ None → (meant (base walk) walk.text limit).code ≡ None)
      → (from ≤ e → e < limit → ends_wanted holds e place ≡ false) → FindsPlace walk holds from limit None
  finds_none means from limit e place is last none ended not_so k above below = elim (cases_lt k e) [
    | inl before ↦ elsewhere_before from (meant (base walk) walk.text limit).steps none k above (omega (arith, before, is))
    | inr reached ↦ elim (cases_lt e k) [
      | inl after ↦ inr (nowhere_after means (start walk) walk.text limit k (omega (arith, is, after, below)) (omega (arith, is, after)))
      | inr back ↦
          let same : k ≡ e = omega (arith, reached, back) in
          let here : e < limit = omega (arith, same, below) in
          let so = ended_elsewhere e place (not_so (omega (arith, same, above)) here) last (λ nothing. nowhere_at_end means (start walk) walk.text limit e is here (ended nothing)) in
          subst (IsElsewhere walk holds) (sym same) so
    ]
  ]

  -- Where it stands somewhere after some steps, a look shows it there.
  pub seen_there : MachineMeans → (n e : ℕ) (p : Place) (so : Bool) → StandsSo walk holds n so → e ≡ (meant (base walk) walk.text n).steps → IsLastPlace (start walk) walk.text e p
      → IsVisit (start walk) walk.text n (calls_at p) p.at
  seen_there means n e p so h is last =
      let there = h.stands.stood.there in
      let stands : stands_after (start walk) walk.text n ≡ Some there = ap (stands_after (start walk) walk.text) (sym h.stands.steps_are) ∙ h.stands.stood.stands in
      let steps : e ≡ n = is ∙ stands_steps means (start walk) walk.text n there stands in
      let within = last.stood.within in
      elim (cases_lt p.steps n) [
        | inl less ↦ let nowhere = last.stood.last n less (omega (arith, steps)) in absurd cc
        | inr more ↦ visit_there walk n e p last (omega (arith, more, within, steps))
      ]

  pub seen_somewhere : MachineMeans → (n : ℕ) (so : Bool) → StandsSo walk holds n so → (meant (base walk) walk.text n).code ≡ None → ⊥
  seen_somewhere means n so h =
      let there = h.stands.stood.there in
      let stands : stands_after (start walk) walk.text n ≡ Some there = ap (stands_after (start walk) walk.text) (sym h.stands.steps_are) ∙ h.stands.stood.stands in
      stands_code means (start walk) walk.text n there stands

module _ (walk : KeptWalk) (holds also : ℕ → ℕ → Bool) where
  stands_same : ((calls at : ℕ) → holds calls at ≡ also calls at) → (n : ℕ) (so : Bool) → StandsSo walk holds n so → StandsSo walk also n so
  stands_same same n so h = record { calls = h.calls; at = h.at; stands = h.stands; is = sym (same h.calls h.at) ∙ h.is }

  elsewhere_same : ((calls at : ℕ) → holds calls at ≡ false → also calls at ≡ false) → (n : ℕ) → IsElsewhere walk holds n → IsElsewhere walk also n
  elsewhere_same same n (inl h) = inl (record { calls = h.calls; at = h.at; stands = h.stands; is = same h.calls h.at h.is })
  elsewhere_same same n (inr over) = inr over

  finds_same : ((calls at : ℕ) → holds calls at ≡ also calls at) → (from limit : ℕ) (found : Option ℕ) → FindsPlace walk holds from limit found → FindsPlace walk also from limit found
  finds_same same from limit None h = λ k above below. elsewhere_same (λ calls at not_so. sym (same calls at) ∙ not_so) k (h k above below)
  finds_same same from limit (Some n) h =
      (record { after = h.0.after; here = stands_same same n true h.0.here; passed = λ k above below. elsewhere_same (λ calls at not_so. sym (same calls at) ∙ not_so) k (h.0.passed k above below) }, h.1)

-- What is no place is no stop, whatever its string gives.
not_met : (there met any one : Bool) → (if there then true else any) ≡ false → (any ≡ false → one ≡ false) → (if there && met then true else one) ≡ false
not_met true met any one not_so rest = absurd (true≢false not_so)
not_met false met any one not_so rest = rest not_so

not_one : (walk : KeptWalk) (n : ℕ) (stops : List Break) (number : ℕ) (here : Spot) → is_any_there stops number here ≡ false → is_one walk n stops number here ≡ false
not_one walk n [] number here not_so = refl
not_one walk n (it ∷ stops) number here not_so = not_met (is_there it.stop number here) (is_met walk n it.test) _ _ not_so (not_one walk n stops number here)

no_part : (a b c x y : Bool) → (x ≡ false → y ≡ false) → (a || (b && (c && x))) ≡ false → (a || (b && (c && y))) ≡ false
no_part true b c x y f not_so = absurd (true≢false not_so)
no_part false false c x y f not_so = refl
no_part false true false x y f not_so = refl
no_part false true true x y f not_so = f not_so

module _ (sources : List SourceText) (walk : KeptWalk) (goal : Goal) where
  not_goal : (n calls at : ℕ) → is_place sources walk goal calls at ≡ false → is_goal sources walk goal n calls at ≡ false
  not_goal n calls at not_so = no_part (nat_lt calls goal.calls) _ _ _ _ (not_one walk n goal.stops (number_at sources at) _) not_so

  pub no_goal : (k : ℕ) → IsElsewhere walk (is_place sources walk goal) k → IsElsewhere walk (is_goal sources walk goal k) k
  no_goal k h = elsewhere_same walk (is_place sources walk goal) (is_goal sources walk goal k) (not_goal k) k h

  pub passes_start : (from : ℕ) → PassesBetween sources walk goal from from
  passes_start from k above below = absurd (omega (arith, above, below))

  pub passes_on : (from first to : ℕ) → PassesBetween sources walk goal from first → ((k : ℕ) → first ≤ k → k < to → IsElsewhere walk (is_place sources walk goal) k)
      → PassesBetween sources walk goal from to
  passes_on from first to passed more k above below = elim (cases_lt k first) [
    | inl before ↦ passed k above before
    | inr after ↦ no_goal k (more k after below)
  ]

  pub passes_one : (from n : ℕ) → PassesBetween sources walk goal from n → StandsSo walk (is_goal sources walk goal n) n false → PassesBetween sources walk goal from (n + 1)
  passes_one from n passed here k above below = elim (cases_lt k n) [
    | inl less ↦ passed k above less
    | inr more ↦
        let same : k ≡ n = omega (arith, below, more) in
        subst (λ m. IsElsewhere walk (is_goal sources walk goal m) m) (sym same) (inl here)
  ]

  tried_later : (from first n : ℕ) (tried : List ℕ) → first ≤ n → AreTried sources walk goal from first tried → AreTried sources walk goal from n tried
  unfolding AreTried
  tried_later from first n [] le h = omega (arith, le, h)
  tried_later from first n (k ∷ tried) le h = (omega (arith, le, h.0), h.1, h.2)

  pub tried_one : (from first n : ℕ) (tried : List ℕ) → first ≤ n → AreTried sources walk goal from first tried → StandsSo walk (is_place sources walk goal) n true
      → AreTried sources walk goal from (n + 1) (n ∷ tried)
  unfolding AreTried
  tried_one from first n tried le h here = (omega arith, here, tried_later from first n tried le h)

  pub none_tried : (from : ℕ) → AreTried sources walk goal from from []
  unfolding AreTried
  none_tried from = omega arith

-- what is wanted by marks is so by the places
module _ (sources : List SourceText) (walk : KeptWalk) (stops : List Break) (marks : List (Vec Bool Global)) (below : ℕ) where
  last_source : (at : ℕ) → number_at sources at ≤ length sources - 1
  last_source at = omega (arith, count_by-le-length (λ (source : SourceText). nat_le source.from at) sources)

  wanted_is : AreMarks sources walk.text stops marks → (calls at : ℕ) → is_wanted sources marks below calls at ≡ is_place sources walk (to_stop stops below) calls at
  wanted_is are calls at = ap (λ (b : Bool). nat_lt calls below || (calls == 0 && b)) (are (number_at sources at) (last_source at) (place_in_source (slice_get sources (number_at sources at)) at))

  pub finds_marked : AreMarks sources walk.text stops marks → (from limit : ℕ) (found : Option ℕ) → FindsPlace walk (is_wanted sources marks below) from limit found
      → FindsPlace walk (is_place sources walk (to_stop stops below)) from limit found
  finds_marked are from limit found h = finds_same walk (is_wanted sources marks below) (is_place sources walk (to_stop stops below)) (wanted_is are) from limit found h

pub work_spent : (n work : ℕ) (tried : List ℕ) → work < n → work + sum tried ≡ MOST_WORK → MOST_WORK < sum (n ∷ tried)
work_spent n work tried less is = omega (arith, less, is, sum_by-cons (λ (x : ℕ). x) n tried)

pub work_left : (n work : ℕ) (tried : List ℕ) → n ≤ work → work + sum tried ≡ MOST_WORK → work - n + sum (n ∷ tried) ≡ MOST_WORK
work_left n work tried enough is = omega (arith, enough, is, sum_by-cons (λ (x : ℕ). x) n tried)
