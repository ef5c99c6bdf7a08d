-- What a function for a token did, by what its calls gave.
use Rattle.std.proofs.Common.{ℤ, pos, negsuc, nat_abs, ◌≡◌, ◌∙◌, sym, ap, subst, refl, ℕ, ◌<◌, ◌≤◌, [], Result, Ok, Err, false, IfErr, IsErrAnd, OnErr, OnOk, length, ◌⊎◌, inl, inr, arith}
use Rattle.std.specs.Prelude.{nat_le, if◌then◌else◌}
use lib.Signed.{lt_z}
use Rattle.std.proofs.lemmas.Bool.Decides.{nat_tests}
use Rattle.teco_core.specs.declared.code.Code.{Code}
use Rattle.teco_core.specs.declared.code.Code.TheVariants as code
use Rattle.teco_core.specs.Arguments.{Arguments, no_arguments}
use Rattle.teco_core.specs.Refusal.{◌>>=◌}
use Rattle.teco_core.specs.declared.limits.TheConstants.{FILE_LIMIT, TEXT_LIMIT}
use Rattle.teco_store.specs.Page.{with_next_page}
use Rattle.teco_store.specs.State.{State}
use Rattle.teco_store.specs.Trail.{Trail, moved}
use Rattle.teco_store.specs.declared.desk.Refused.{Refused}
use Rattle.teco_store.specs.declared.desk.Refused.TheVariants.{Big, NoMemory}
use Rattle.teco_step.specs.declared.failure.Failure.{Failure}
use Rattle.teco_step.specs.declared.failure.Failure.TheVariants as failure
use Rattle.teco_step.specs.declared.next.Next.{Next}
use Rattle.teco_step.specs.declared.next.Next.TheVariants as next
use Rattle.teco_step.specs.Step.{Attempt, Action, End, Made, on, as_byte, done_by, edits, gives, goes, goes_on}
use Rattle.teco_step.specs.Pages.{with_page_turned}
use Rattle.teco_step.specs.Ending.{end_of, is_unfinished}
use Rattle.teco_step.specs.Families.{ActsFrom, IsActed, IsRefusal, IsUnacted, Scene, Takes, failure_of, tag_of}

-- A refusal refuses what was to follow;
pub refusal_then : {A B : Type 0} (h : Failure) (r : Result A Code) (k : A → Result B Code) → IsRefusal h r → IsRefusal h (r >>= k)
refusal_then h r k u = subst (λ m. IsRefusal h (m >>= k)) (sym u.refused) (record { code = u.code; is = u.is; refused = refl; own = u.own })

-- also that of a later step;
pub refusal_after : {A B : Type 0} (h : Failure) (r : Result A Code) (x : A) (k : A → Result B Code) → r ≡ Ok x → IsRefusal h (k x) → IsRefusal h (r >>= k)
refusal_after h r x k e u = subst (λ m. IsRefusal h (m >>= k)) (sym e) u

-- and the attempt.
pub refusal_made : (h : Failure) (s : State) (m : Made) → IsRefusal h m → IsRefusal h (goes_on s m)
refusal_made h s m u = subst (λ m. IsRefusal h (goes_on s m)) (sym u.refused) (record { code = u.code; is = u.is; refused = refl; own = u.own })

-- two things, one after the other
pub then_ok : {A B : Type 0} (r : Result A Code) (x : A) (k : A → Result B Code) (y : Result B Code) → r ≡ Ok x → k x ≡ y → (r >>= k) ≡ y
then_ok r x k y e f = ap (λ m. m >>= k) e ∙ f

pub made_refused : {A : Type 0} (s : State) (r : Result A Code) (k : A → Made) (c : Code) → r ≡ Err c → goes_on s (r >>= k) ≡ Err c
made_refused s r k c e = ap (λ r. goes_on s (r >>= k)) e

pub then_not : {A B : Type 0} (r : Result A Code) (k : A → Result B Code) (c : Code) → r ≡ Err c → (r >>= k) ≡ Err c
then_not r k c e = ap (λ r. r >>= k) e

-- What was not taken was refused so.
pub takes_refused : {A B : Type 0} (view : A → B) (m : Result B Code) (h : Failure) (r : Result A Failure) → IsErrAnd r (λ e. e ≡ h) → IsRefusal h m → Takes view r m
takes_refused view m h (Ok x) is u = absurd is
takes_refused view m h (Err e) is u = subst (λ e. IsRefusal e m) (sym is) u

-- a text past its limit, and one within it
pub if_over : {A : Type 0} (n limit : ℕ) (x : A) → limit < n → (if nat_le n limit then Ok x else Err code.Big) ≡ Err code.Big
if_over n limit x over = grind (arith, nat_tests)

pub if_within : {A : Type 0} (n limit : ℕ) (x : A) → n ≤ limit → (if nat_le n limit then Ok x else Err code.Big) ≡ Ok x
if_within n limit x within = grind (arith, nat_tests)

-- what a desk answers
abbrev pub Answer : Type 0
Answer = Result (Unit {0}) Refused

abbrev pub IsBig : Answer → Type 0
IsBig r = r ≡ Err Big

not_big : (u : Unit {0}) → IsBig (Ok u) → ⊥
not_big u e = cc

pub in_limit : (n limit : ℕ) (u : Unit {0}) → (limit < n → IsBig (Ok u)) → n ≤ limit
in_limit n limit u big =
    let never : limit < n → ⊥ = λ over. not_big u (big over) in
    omega arith

-- why a desk refused: for a text past its limit, or for memory;
pub big_why : (d : Refused) (n limit : ℕ) (attempt : Attempt) → (IsBig (Err d) → limit < n) → (limit < n → attempt ≡ Err code.Big) → IsRefusal (failure_of d) attempt ⊎ (failure_of d ≡ failure.Memory)
big_why Big n limit attempt big over = inl (record { code = code.Big; is = refl; refused = over (big refl); own = refl })
big_why NoMemory n limit attempt big over = inr refl

-- for memory alone
pub memory_why : (d : Refused) (attempt : Attempt) → (IsBig (Err d) → ⊥) → IsRefusal (failure_of d) attempt ⊎ (failure_of d ≡ failure.Memory)
memory_why Big attempt never = absurd (never refl)
memory_why NoMemory attempt never = inr refl

-- a scene of these parts
abbrev pub scene_of : State → Arguments → (Trail → Type 0) → Scene
scene_of s a F = record { state = s; arguments = a; follows = F }

-- Nothing was done, by a refusal or for want of memory.
pub acts_undone : (f : Action) (s new : State) (a : Arguments) (F G : Trail → Type 0) (h : Failure) (r : Result Next Failure) → IsErrAnd r (λ e. e ≡ h)
    → IsRefusal h (done_by f s a) ⊎ (h ≡ failure.Memory) → new ≡ s → ((t : Trail) → F t → G t) → ActsFrom f (scene_of s a F) (scene_of new a G) r
acts_undone f s new a F G h (Ok n) is why same keeps = absurd is
acts_undone f s new a F G h (Err e) is why same keeps =
    subst (λ e. IsUnacted (done_by f s a) (scene_of s a F) (scene_of new a G) e) (sym is) (record { why = why; state = same; arguments = refl; follows = keeps })

-- It was refused before a call could change anything.
pub acts_refused : (f : Action) (s : State) (a : Arguments) (F : Trail → Type 0) (h : Failure) (r : Result Next Failure) → IsErrAnd r (λ e. e ≡ h)
    → IsRefusal h (done_by f s a) → ActsFrom f (scene_of s a F) (scene_of s a F) r
acts_refused f s a F h r is u = acts_undone f s s a F F h r is (inl u) refl (λ t b. b)

-- A change was made, and the string goes on.
pub goes_done : (s t new : State) (left args : Arguments) (made : Made) (load : ℕ) (before : Scene) (G : Trail → Type 0) → made ≡ edits t left load → new ≡ t → args ≡ left
    → t.is_done ≡ s.is_done → ((u : Trail) → before.follows u → G (moved u load)) → IsActed (goes_on s made) before (scene_of new args G) next.On
goes_done s t new left args made load before G e same here done carries = record {
  load = load;
  end = _;
  step = ap (goes_on s) e ∙ ap (λ d. goes_on (record s { is_done = d }) (edits t left load)) (sym done) ∙ ap (λ u. goes_on u (edits u left load)) (sym same) ∙ ap (λ b. goes_on new (edits new b load)) (sym here);
  leads = refl;
  finished = refl;
  carries = inl carries;
}

-- It was done by a call that does the same.
pub acts_as : (f h : Action) (s new : State) (a left : Arguments) (F G : Trail → Type 0) (r : Result Next Failure) → done_by f s a ≡ done_by h s a
    → ActsFrom h (scene_of s a F) (scene_of new left G) r → ActsFrom f (scene_of s a F) (scene_of new left G) r
acts_as f h s new a left F G (Ok n) e d = subst (λ m. IsActed m (scene_of s a F) (scene_of new left G) n) (sym e) d
acts_as f h s new a left F G (Err u) e d = subst (λ m. IsUnacted m (scene_of s a F) (scene_of new left G) u) (sym e) d

-- It was done by giving the same value.
pub acts_given : (f : Action) (v w : ℤ) (s new : State) (a left : Arguments) (F G : Trail → Type 0) (r : Result Next Failure) → w ≡ v → done_by f s a ≡ goes_on s (gives s a v)
    → ActsFrom (goes (λ s a. gives s a w)) (scene_of s a F) (scene_of new left G) r → ActsFrom f (scene_of s a F) (scene_of new left G) r
acts_given f v w s new a left F G r same e d = acts_as f (goes (λ s a. gives s a w)) s new a left F G r (e ∙ ap (λ v. goes_on s (gives s a v)) (sym same)) d

-- the same of a step that ends as it says
pub steers_done : (attempt : Attempt) (t new : State) (left args : Arguments) (load : ℕ) (end : End) (before : Scene) (G : Trail → Type 0) (n : Next)
    → attempt ≡ Ok (record { state = t; arguments = left; typed = []; load = load; end = end }) → new ≡ t → args ≡ left → end_of new (tag_of end) n ≡ end → is_unfinished n ≡ false
    → ((u : Trail) → before.follows u → G (moved u load)) → IsActed attempt before (scene_of new args G) n
steers_done attempt t new left args load end before G n e same here leads finished carries = record {
  load = load;
  end = end;
  step = e ∙ ap (λ u. Ok (record { state = u; arguments = left; typed = []; load = load; end = end })) (sym same) ∙ ap (λ b. Ok (record { state = new; arguments = b; typed = []; load = load; end = end })) (sym here);
  leads = leads;
  finished = finished;
  carries = inl carries;
}

-- what is made of a change by which the string goes on
pub goes_made : (f : State → Arguments → Made) (s t : State) (a left : Arguments) (load : ℕ) → f s a ≡ edits t left load → t.is_done ≡ s.is_done
    → done_by (goes f) s a ≡ Ok (record { state = t; arguments = left; typed = []; load = load; end = on })
goes_made f s t a left load e done = ap (goes_on s) e ∙ ap (λ d. goes_on (record s { is_done = d }) (edits t left load)) (sym done)

-- It was done, or not, by the answer of a call, and such arguments are left.
pub acts_left : (f : Action) (s t new : State) (a after left : Arguments) (load : ℕ) (end : End) (F G : Trail → Type 0) (d : Answer) (n : Next) (r : Result Next Failure)
    → OnOk d ((r ≡ Ok n) × (left ≡ after)) → IfErr d (λ e. (r ≡ Err (failure_of e)) × (left ≡ a)) → OnOk d (new ≡ t) → OnErr d (new ≡ s)
    → OnOk d ((u : Trail) → F u → G (moved u load)) → OnErr d ((u : Trail) → F u → G u) → (IsBig d → done_by f s a ≡ Err code.Big)
    → (d ≡ Ok tt → done_by f s a ≡ Ok (record { state = t; arguments = after; typed = []; load = load; end = end }))
    → end_of new (tag_of end) n ≡ end → is_unfinished n ≡ false → ActsFrom f (scene_of s a F) (scene_of new left G) r
acts_left f s t new a after left load end F G (Ok u) n r ok err there still carries keeps big made leads finished =
    subst (λ r. ActsFrom f (scene_of s a F) (scene_of new left G) r) (sym ok.0)
    (steers_done _ t new after left load end (scene_of s a F) G n (made refl) there ok.1 leads finished carries)
acts_left f s t new a after left load end F G (Err Big) n r ok err there still carries keeps big made leads finished =
    subst (λ r. ActsFrom f (scene_of s a F) (scene_of new left G) r) (sym err.0)
    (record { why = inl (record { code = code.Big; is = refl; refused = big refl; own = refl }); state = still; arguments = err.1; follows = keeps })
acts_left f s t new a after left load end F G (Err NoMemory) n r ok err there still carries keeps big made leads finished =
    subst (λ r. ActsFrom f (scene_of s a F) (scene_of new left G) r) (sym err.0)
    (record { why = inr refl; state = still; arguments = err.1; follows = keeps })

-- the same where none are left
pub acts_answered : (f : Action) (s t new : State) (a left : Arguments) (load : ℕ) (end : End) (F G : Trail → Type 0) (d : Answer) (n : Next) (r : Result Next Failure)
    → OnOk d ((r ≡ Ok n) × (left ≡ no_arguments)) → IfErr d (λ e. (r ≡ Err (failure_of e)) × (left ≡ a)) → OnOk d (new ≡ t) → OnErr d (new ≡ s)
    → OnOk d ((u : Trail) → F u → G (moved u load)) → OnErr d ((u : Trail) → F u → G u) → (IsBig d → done_by f s a ≡ Err code.Big)
    → (d ≡ Ok tt → done_by f s a ≡ Ok (record { state = t; arguments = no_arguments; typed = []; load = load; end = end }))
    → end_of new (tag_of end) n ≡ end → is_unfinished n ≡ false → ActsFrom f (scene_of s a F) (scene_of new left G) r
acts_answered f s t new a left load end = acts_left f s t new a no_arguments left load end

-- what a desk did whose answer is no refusal is within the limit
pub within_by : (n limit : ℕ) (d : Answer) → (limit < n → IsBig d) → d ≡ Ok tt → n ≤ limit
within_by n limit d big e = in_limit n limit tt (λ over. subst IsBig e (big over))

-- a page turned whose text or output is past its limit, and one within both
pub turned_over : (s : State) → (TEXT_LIMIT < length (with_next_page s).text) ⊎ (FILE_LIMIT < length (with_next_page s).output) → with_page_turned s ≡ Err code.Big
turned_over s over = grind (arith, nat_tests)

pub turned_within : (s : State) (d : Answer) → ((TEXT_LIMIT < length (with_next_page s).text) ⊎ (FILE_LIMIT < length (with_next_page s).output) → IsBig d) → d ≡ Ok tt
    → with_page_turned s ≡ Ok (with_next_page s)
turned_within s d big e =
    let t = with_next_page s in
    then_ok _ t _ _ (if_within (length t.output) FILE_LIMIT t (within_by (length t.output) FILE_LIMIT d (λ over. big (inr over)) e))
    (if_within (length t.text) TEXT_LIMIT t (within_by (length t.text) TEXT_LIMIT d (λ over. big (inl over)) e))

-- a byte
pub as_byte_in : (n : ℤ) → lt_z n (pos 0) ≡ false → lt_z (pos 255) n ≡ false → as_byte n ≡ Ok (nat_abs n)
as_byte_in (pos n) low high = grind (arith, nat_tests)
as_byte_in (negsuc n) low high = cc

-- The arguments alone are left anew.
pub goes_left : (s : State) (a left args : Arguments) (made : Made) (F : Trail → Type 0) → made ≡ edits s left 0 → args ≡ left
    → IsActed (goes_on s made) (scene_of s a F) (scene_of s args F) next.On
goes_left s a left args made F e here = record {
  load = 0;
  end = _;
  step = ap (goes_on s) e ∙ ap (λ b. goes_on s (edits s b 0)) (sym here);
  leads = refl;
  finished = refl;
  carries = inr (refl, λ t b. b);
}

err_is : (h k : Failure) → ◌≡◌ {A = Result Next Failure} (Err h) (Err k) → h ≡ k
err_is h k e = cc

command_not_memory : (c : Code) → failure.Command c ≡ failure.Memory → ⊥
command_not_memory c e = cc

-- what is refused is not for want of memory
pub refused_not_memory : {A : Type 0} (h : Failure) (m : Result A Code) (r : Result Next Failure) → IsErrAnd r (λ e. e ≡ h) → IsRefusal h m → r ≡ Err failure.Memory → ⊥
refused_not_memory h m (Ok n) is u e = absurd is
refused_not_memory h m (Err k) is u e = let same = sym is ∙ err_is k failure.Memory e in command_not_memory u.code (sym u.is ∙ same)

-- a refusal, or want of memory, before what was to follow
pub why_then : {A B : Type 0} (h : Failure) (r : Result A Code) (k : A → Result B Code) → IsRefusal h r ⊎ (h ≡ failure.Memory) → IsRefusal h (r >>= k) ⊎ (h ≡ failure.Memory)
why_then h r k (inl u) = inl (refusal_then h r k u)
why_then h r k (inr memory) = inr memory

pub why_after : {A B : Type 0} (h : Failure) (r : Result A Code) (x : A) (k : A → Result B Code) → r ≡ Ok x → IsRefusal h (k x) ⊎ (h ≡ failure.Memory) → IsRefusal h (r >>= k) ⊎ (h ≡ failure.Memory)
why_after h r x k e (inl u) = inl (refusal_after h r x k e u)
why_after h r x k e (inr memory) = inr memory

-- a failure that is passed on
pub passes : {A : Type 0} (P : Failure → Type 0) (h : Failure) (r : Result A Failure) → IsErrAnd r (λ e. e ≡ h) → P h → IfErr r P
passes P h (Ok x) is p = absurd is
passes P h (Err e) is p = subst P (sym is) p

-- one end for another
pub ends_so : (t : State) (left : Arguments) (load : ℕ) (e f : End) → e ≡ f
    → ◌≡◌ {A = Attempt} (Ok (record { state = t; arguments = left; typed = []; load = load; end = e })) (Ok (record { state = t; arguments = left; typed = []; load = load; end = f }))
ends_so t left load e f same = ap (λ (e : End). Ok (record { state = t; arguments = left; typed = []; load = load; end = e })) same
