-- A table only grows: the first answer to a question stays, and no other question's answer changes.
use Rattle.std.proofs.Common.{◌≡◌, ◌≢◌, Bool, true, false, cond, ◌&&◌, List, [], ◌∷◌, ◌++◌, Option, Some, None, unwrap_or, refl, sym, ap, ◌∙◌}
use Rattle.std.specs.Map.{lookup}
use Rattle.std.proofs.lemmas.Bool.{false≢true, leb-true, le-leb}
use Rattle.esb_ask.specs.declared.question.Question.{Question}
use Rattle.esb_ask.specs.declared.question.Question.TheVariants as question
use Rattle.esb_ask.specs.declared.answer.Answer.{Answer}
use Rattle.esb_ask.specs.declared.answer.Answer.TheVariants as answer
use Rattle.esb_ask.specs.Table.{same_question, fits, Fits, answer_to, kept_at, kept, kept_answer, Extends, all_fit}
use Rattle.esb_ask.specs.SameQuestion.{same_question-Decides}

-- ---- questions

pub same-from_equal : (asked other : Question) → asked ≡ other → same_question asked other ≡ true
same-from_equal asked other e = (same_question-Decides asked other).1 e

pub equal-from_same : (asked other : Question) → same_question asked other ≡ true → asked ≡ other
equal-from_same asked other e = (same_question-Decides asked other).0 e

pub same-refl : (asked : Question) → same_question asked asked ≡ true
same-refl asked = same-from_equal asked asked refl

-- questions that differ are told apart
pub apart-from_different : (asked other : Question) → asked ≢ other → same_question asked other ≡ false
apart-from_different asked other h = by (same_question asked other) (λ e. h (equal-from_same asked other e))
  where
    by : (b : Bool) → (b ≢ true) → b ≡ false
    by true f = absurd (f refl)
    by false f = refl

-- ---- answers that fit

pub Fits-from_test : (asked : Question) (given : Answer) → fits asked given ≡ true → Fits asked given
Fits-from_test (question.Kind path) answer.File e = tt
Fits-from_test (question.Kind path) answer.Folder e = tt
Fits-from_test (question.Kind path) answer.Missing e = tt
Fits-from_test (question.Kind path) answer.TooBig e = false≢true e
Fits-from_test (question.Kind path) answer.Fault e = tt
Fits-from_test (question.Kind path) (answer.Bytes contents) e = false≢true e
Fits-from_test (question.Read path) answer.File e = false≢true e
Fits-from_test (question.Read path) answer.Folder e = false≢true e
Fits-from_test (question.Read path) answer.Missing e = tt
Fits-from_test (question.Read path) answer.TooBig e = tt
Fits-from_test (question.Read path) answer.Fault e = tt
Fits-from_test (question.Read path) (answer.Bytes contents) e = leb-true _ _ e

pub test-from_Fits : (asked : Question) (given : Answer) → Fits asked given → fits asked given ≡ true
test-from_Fits (question.Kind path) answer.File h = refl
test-from_Fits (question.Kind path) answer.Folder h = refl
test-from_Fits (question.Kind path) answer.Missing h = refl
test-from_Fits (question.Kind path) answer.TooBig h = absurd h
test-from_Fits (question.Kind path) answer.Fault h = refl
test-from_Fits (question.Kind path) (answer.Bytes contents) h = absurd h
test-from_Fits (question.Read path) answer.File h = absurd h
test-from_Fits (question.Read path) answer.Folder h = absurd h
test-from_Fits (question.Read path) answer.Missing h = refl
test-from_Fits (question.Read path) answer.TooBig h = refl
test-from_Fits (question.Read path) answer.Fault h = refl
test-from_Fits (question.Read path) (answer.Bytes contents) h = le-leb _ _ h

-- ---- one more pair at the end

module _ {K X : Type 0} (test : K → Bool) where
  abbrev first_of : Option X → Option X → Option X
  first_of None more = more
  first_of (Some x) more = Some x

  first_of-cond : (b : Bool) (x : X) (front back : Option X) → cond b (Some x) (first_of front back) ≡ first_of (cond b (Some x) front) back
  first_of-cond true x front back = refl
  first_of-cond false x front back = refl

  lookup-append : (front back : List (K × X)) → lookup test (front ++ back) ≡ first_of (lookup test front) (lookup test back)
  lookup-append [] back = refl
  lookup-append (e ∷ es) back =
      ap (λ (r : Option X). cond (test e.0) (Some e.1) r) (lookup-append es back) ∙ first_of-cond (test e.0) e.1 (lookup test es) (lookup test back)

  pub lookup-front : (front back : List (K × X)) (x : X) → lookup test front ≡ Some x → lookup test (front ++ back) ≡ Some x
  lookup-front front back x e = lookup-append front back ∙ ap (λ (r : Option X). first_of r (lookup test back)) e

  pub lookup-back : (front back : List (K × X)) → lookup test front ≡ None → lookup test (front ++ back) ≡ lookup test back
  lookup-back front back e = lookup-append front back ∙ ap (λ (r : Option X). first_of r (lookup test back)) e

  lookup_past-by : (front : List (K × X)) (key : K) (x : X) → test key ≡ false → (r : Option X) → lookup test front ≡ r → lookup test (front ++ (key, x) ∷ []) ≡ r
  lookup_past-by front key x apart None e = lookup-back front ((key, x) ∷ []) e ∙ ap (λ (b : Bool). cond b (Some x) None) apart
  lookup_past-by front key x apart (Some first) e = lookup-front front ((key, x) ∷ []) first e

  -- a further pair whose key does not pass changes nothing
  pub lookup_past : (front : List (K × X)) (key : K) (x : X) → test key ≡ false → lookup test (front ++ (key, x) ∷ []) ≡ lookup test front
  lookup_past front key x apart = lookup_past-by front key x apart (lookup test front) refl

-- ---- what is kept

pub kept-absent : (table : List (Question × Answer)) (asked : Question) (given : Answer) → answer_to table asked ≡ None → kept table asked given ≡ table ++ (asked, given) ∷ []
kept-absent table asked given e = ap (λ (r : Option Answer). kept_at r table asked given) e

pub kept-present : (table : List (Question × Answer)) (asked : Question) (given first : Answer) → answer_to table asked ≡ Some first → kept table asked given ≡ table
kept-present table asked given first e = ap (λ (r : Option Answer). kept_at r table asked given) e

pub kept_answer-absent : (table : List (Question × Answer)) (asked : Question) (given : Answer) → answer_to table asked ≡ None → kept_answer table asked given ≡ given
kept_answer-absent table asked given e = ap (λ (r : Option Answer). unwrap_or r given) e

pub kept_answer-present : (table : List (Question × Answer)) (asked : Question) (given first : Answer) → answer_to table asked ≡ Some first → kept_answer table asked given ≡ first
kept_answer-present table asked given first e = ap (λ (r : Option Answer). unwrap_or r given) e

module _ (table : List (Question × Answer)) (asked : Question) (given : Answer) where
  -- each answer that the table had stays
  pub kept_extends : Extends table (kept table asked given)
  kept_extends other first e = by (answer_to table asked) refl
    where
      by : (r : Option Answer) → answer_to table asked ≡ r → answer_to (kept table asked given) other ≡ Some first
      by None none = ap (λ (t : List (Question × Answer)). answer_to t other) (kept-absent table asked given none) ∙ lookup-front (same_question other) table ((asked, given) ∷ []) first e
      by (Some there) some = ap (λ (t : List (Question × Answer)). answer_to t other) (kept-present table asked given there some) ∙ e

  -- the question has the answer that is told
  pub kept_answers : answer_to (kept table asked given) asked ≡ Some (kept_answer table asked given)
  kept_answers = by (answer_to table asked) refl
    where
      by : (r : Option Answer) → answer_to table asked ≡ r → answer_to (kept table asked given) asked ≡ Some (kept_answer table asked given)
      by None none =
          ap (λ (t : List (Question × Answer)). answer_to t asked) (kept-absent table asked given none)
          ∙ lookup-back (same_question asked) table ((asked, given) ∷ []) none
          ∙ ap (λ (b : Bool). cond b (Some given) None) (same-refl asked)
          ∙ ap Some (sym (kept_answer-absent table asked given none))
      by (Some there) some =
          ap (λ (t : List (Question × Answer)). answer_to t asked) (kept-present table asked given there some)
          ∙ some
          ∙ ap Some (sym (kept_answer-present table asked given there some))

  -- another question's answer is as before
  pub kept_apart : (other : Question) → same_question other asked ≡ false → answer_to (kept table asked given) other ≡ answer_to table other
  kept_apart other apart = by (answer_to table asked) refl
    where
      by : (r : Option Answer) → answer_to table asked ≡ r → answer_to (kept table asked given) other ≡ answer_to table other
      by None none = ap (λ (t : List (Question × Answer)). answer_to t other) (kept-absent table asked given none) ∙ lookup_past (same_question other) table asked given apart
      by (Some there) some = ap (λ (t : List (Question × Answer)). answer_to t other) (kept-present table asked given there some)

  pub kept_others : (other : Question) → other ≢ asked → answer_to (kept table asked given) other ≡ answer_to table other
  kept_others other h = kept_apart other (apart-from_different other asked h)

pub Extends-refl : (table : List (Question × Answer)) → Extends table table
Extends-refl table asked first e = e

pub Extends-trans : (table more most : List (Question × Answer)) → Extends table more → Extends more most → Extends table most
Extends-trans table more most g h asked first e = h asked first (g asked first e)

-- a table that is not larger has no more answers
pub Extends-none : (table more : List (Question × Answer)) → Extends table more → (asked : Question) → answer_to more asked ≡ None → answer_to table asked ≡ None
Extends-none table more h asked none = by (answer_to table asked) refl
  where
    by : (r : Option Answer) → answer_to table asked ≡ r → answer_to table asked ≡ None
    by None e = e
    by (Some first) e = absurd (cc (h asked first e))

-- ---- the answers of a table fit

pub all_fit-push : (table : List (Question × Answer)) (pair : Question × Answer) → all_fit table ≡ true → fits pair.0 pair.1 ≡ true → all_fit (table ++ pair ∷ []) ≡ true
all_fit-push [] pair h e = ap (λ (b : Bool). b && true) e
all_fit-push (x ∷ xs) pair h e = by (fits x.0 x.1) h (all_fit-push xs pair)
  where
    by : (b : Bool) → (b && all_fit xs) ≡ true → (all_fit xs ≡ true → fits pair.0 pair.1 ≡ true → all_fit (xs ++ pair ∷ []) ≡ true) → (b && all_fit (xs ++ pair ∷ [])) ≡ true
    by true g rest = rest g e
    by false g rest = g

pub all_fit-kept : (table : List (Question × Answer)) (asked : Question) (given : Answer) → all_fit table ≡ true → fits asked given ≡ true → all_fit (kept table asked given) ≡ true
all_fit-kept table asked given h e = by (answer_to table asked) refl
  where
    by : (r : Option Answer) → answer_to table asked ≡ r → all_fit (kept table asked given) ≡ true
    by None none = ap all_fit (kept-absent table asked given none) ∙ all_fit-push table (asked, given) h e
    by (Some there) some = ap all_fit (kept-present table asked given there some) ∙ h

-- an answer that a table gives fits its question
pub fits-from_all : (table : List (Question × Answer)) (asked : Question) (first : Answer) → all_fit table ≡ true → answer_to table asked ≡ Some first → fits asked first ≡ true
fits-from_all [] asked first h e = absurd cc
fits-from_all (pair ∷ pairs) asked first h e = by (same_question asked pair.0) refl e (fits pair.0 pair.1) refl h (fits-from_all pairs asked first)
  where
    by : (b : Bool) → same_question asked pair.0 ≡ b → cond b (Some pair.1) (answer_to pairs asked) ≡ Some first → (d : Bool) → fits pair.0 pair.1 ≡ d → (d && all_fit pairs) ≡ true
        → (all_fit pairs ≡ true → answer_to pairs asked ≡ Some first → fits asked first ≡ true) → fits asked first ≡ true
    by b same at false fit g rest = absurd (false≢true g)
    by false same at true fit g rest = rest g at
    by true same at true fit g rest =
        let own : asked ≡ pair.0 = equal-from_same asked pair.0 same in
        let given : pair.1 ≡ first = cc in
        ap (λ (q : Question). fits q first) own ∙ ap (λ (a : Answer). fits pair.0 a) (sym given) ∙ fit
