-- What is wrong at a place.
use Rattle.std.proofs.Common.{◌≡◌, ℕ, true, false, List, drop, Some, Result, Ok, Err, IfErr, is_ok, refl, sym, ap, subst, ◌∙◌}
use Rattle.teco_core.specs.declared.profile.Profile.{Profile}
use Rattle.teco_scan.specs.declared.command.BlockMark.{BlockMark}
use Rattle.teco_scan.specs.declared.command.BlockMark.TheVariants.{Iterate, EndIteration, Otherwise, EndTest}
use Rattle.teco_scan.specs.Scan.{Instruction, TokenMeaning, found, scan, scan_here, after_fillers}
use Rattle.teco_scan.specs.Scan as token
use Rattle.teco_scan.specs.Skip.{closing_mark}
use Rattle.teco_check.specs.declared.faults.Fault.{Fault}
use Rattle.teco_check.specs.declared.faults.Wrong.{Wrong}
use Rattle.teco_check.specs.declared.faults.Wrong.TheVariants as wrongs
use Rattle.teco_check.specs.Checked.{is_stray, suits, IsFaultHere}

stray_suits : (w : Wrong) (i : Instruction) (b : BlockMark) → is_stray w ≡ true → Some b ≡ closing_mark i → suits w i ≡ true
stray_suits (wrongs.Stray c opening) (token.mark EndIteration) b s e = refl
stray_suits (wrongs.Stray c opening) (token.mark Otherwise) b s e = refl
stray_suits (wrongs.Stray c opening) (token.mark EndTest) b s e = refl
stray_suits (wrongs.Stray c opening) (token.mark Iterate) b s e = absurd cc
stray_suits (wrongs.Stray c opening) (token.step i) b s e = absurd cc
stray_suits (wrongs.Stray c opening) (token.decide t) b s e = absurd cc
stray_suits (wrongs.Stray c opening) (token.tag name) b s e = absurd cc
stray_suits (wrongs.Stray c opening) token.escape b s e = absurd cc
stray_suits (wrongs.Unreadable c) i b s e = absurd cc
stray_suits wrongs.Unended i b s e = absurd cc
stray_suits wrongs.TooDeep i b s e = absurd cc
stray_suits wrongs.NoTag i b s e = absurd cc
stray_suits wrongs.Calls i b s e = absurd cc
stray_suits wrongs.Loads i b s e = absurd cc
stray_suits wrongs.InText i b s e = absurd cc

module _ (profile : Profile) where
  here : (bs : List ℕ) (t : TokenMeaning) (rest : List ℕ) → scan profile bs ≡ found t rest → (w : Wrong) → suits w t.instruction ≡ true → IsFaultHere profile bs w
  here bs t rest e (wrongs.Unreadable c) s = absurd cc
  here bs t rest e (wrongs.Stray c opening) s = (t, (rest, (e, s)))
  here bs t rest e wrongs.Unended s = (t, (rest, (e, s)))
  here bs t rest e wrongs.TooDeep s = (t, (rest, (e, s)))
  here bs t rest e wrongs.NoTag s = (t, (rest, (e, s)))
  here bs t rest e wrongs.Calls s = (t, (rest, (e, s)))
  here bs t rest e wrongs.Loads s = (t, (rest, (e, s)))
  here bs t rest e wrongs.InText s = (t, (rest, (e, s)))

  pub fault_here : {X : Type 0} → (text : List ℕ) (from : ℕ) (t : TokenMeaning) (rest : List ℕ) (r : Result X Fault) → scan profile (drop from text) ≡ found t rest
      → IfErr r (λ f. (f.at ≡ from) × (suits f.wrong t.instruction ≡ true)) → IfErr r (λ f. IsFaultHere profile (drop f.at text) f.wrong)
  fault_here text from t rest (Ok x) e h = tt
  fault_here text from t rest (Err f) e h = here (drop f.at text) t rest (ap (λ (n : ℕ). scan profile (drop n text)) h.0 ∙ e) f.wrong h.1

  pub stray_here : {X : Type 0} → (text : List ℕ) (from : ℕ) (t : TokenMeaning) (rest : List ℕ) (b : BlockMark) (r : Result X Fault) → scan profile (drop from text) ≡ found t rest → Some b ≡ closing_mark t.instruction
      → IfErr r (λ f. (f.at ≡ from) × (is_stray f.wrong ≡ true)) → IfErr r (λ f. IsFaultHere profile (drop f.at text) f.wrong)
  stray_here {X = X} text from t rest b (Ok x) e is h = tt
  stray_here {X = X} text from t rest b (Err f) e is h = fault_here {X = X} text from t rest (Err f) e (h.0, stray_suits f.wrong t.instruction b h.1 is)

  -- a block without an end is opened at the place of the fault
  pub unended_here : {X : Type 0} → (text : List ℕ) (opening : ℕ) (r : Result X Fault) → (is_ok r ≡ false → IsFaultHere profile (drop opening text) wrongs.Unended)
      → IfErr r (λ f. (f.at ≡ opening) × (f.wrong ≡ wrongs.Unended)) → IfErr r (λ f. IsFaultHere profile (drop f.at text) f.wrong)
  unended_here text opening (Ok x) opened h = tt
  unended_here text opening (Err f) opened h =
      subst (λ (w : Wrong). IsFaultHere profile (drop f.at text) w) (sym h.1) (subst (λ (n : ℕ). IsFaultHere profile (drop n text) wrongs.Unended) (sym h.0) (opened refl))
