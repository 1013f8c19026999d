-- The directives of a body, the first and the others.
use Rattle.std.proofs.Common.{◌≡◌, ℕ, ◌+◌, ◌<◌, Bool, true, false, cond, length, map, drop, get_or, List, ◌∷◌, Option, Some, None, sym, ap, ◌∙◌}
use Rattle.esb_token.specs.declared.token.Token.{Token}
use Rattle.esb_tree.specs.declared.statements.Statement.{Statement}
use Rattle.esb_early.specs.Directives.{is_use_strict, use_strict}
use Rattle.esb_early.specs.Rules.{facts_of_statement, directive_of_statement}
use Rattle.esb_early_checks.proofs.Steps.{drop_next}

abbrev told : List Statement → List (Option Token)
told xs = map (λ f. f.directive) (map facts_of_statement xs)

told_next : (xs : List Statement) (i : ℕ) (x : Statement) (d : Option Token) → i < length xs → x ≡ get_or xs i x → d ≡ directive_of_statement x → told (drop i xs) ≡ d ∷ told (drop (i + 1) xs)
unfolding directive_of_statement
told_next xs i x d within is same = ap told (drop_next xs i x within is) ∙ ap (λ e. e ∷ told (drop (i + 1) xs)) (sym same)

pub strict_found : (text : List ℕ) (xs : List Statement) (i : ℕ) (x : Statement) (t : Token) (d : Option Token) (b : Bool) (whole : Option Token)
    → i < length xs → x ≡ get_or xs i x → d ≡ directive_of_statement x → d ≡ Some t → b ≡ is_use_strict text t → b ≡ true → use_strict text (told (drop i xs)) ≡ whole → Some t ≡ whole
strict_found text xs i x t d b whole within is same some tells holds before =
    sym (ap (use_strict text) (told_next xs i x d within is same ∙ ap (λ e. e ∷ told (drop (i + 1) xs)) some) ∙ ap (λ e. cond e (Some t) (use_strict text (told (drop (i + 1) xs)))) (sym tells ∙ holds)) ∙ before

pub strict_goes_on : (text : List ℕ) (xs : List Statement) (i : ℕ) (x : Statement) (t : Token) (d : Option Token) (b : Bool) (whole : Option Token)
    → i < length xs → x ≡ get_or xs i x → d ≡ directive_of_statement x → d ≡ Some t → b ≡ is_use_strict text t → b ≡ false → use_strict text (told (drop i xs)) ≡ whole → use_strict text (told (drop (i + 1) xs)) ≡ whole
strict_goes_on text xs i x t d b whole within is same some tells fails before =
    sym (ap (use_strict text) (told_next xs i x d within is same ∙ ap (λ e. e ∷ told (drop (i + 1) xs)) some) ∙ ap (λ e. cond e (Some t) (use_strict text (told (drop (i + 1) xs)))) (sym tells ∙ fails)) ∙ before

pub strict_ends : (text : List ℕ) (xs : List Statement) (i : ℕ) (x : Statement) (d : Option Token) (whole : Option Token)
    → i < length xs → x ≡ get_or xs i x → d ≡ directive_of_statement x → d ≡ None → use_strict text (told (drop i xs)) ≡ whole → None ≡ whole
strict_ends text xs i x d whole within is same none before =
    sym (ap (use_strict text) (told_next xs i x d within is same ∙ ap (λ e. e ∷ told (drop (i + 1) xs)) none)) ∙ before
