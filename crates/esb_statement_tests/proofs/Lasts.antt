-- The last token of tokens that are put together.
use Rattle.std.proofs.Common.{◌≡◌, ℕ, zero, suc, ◌+◌, ◌-◌, ◌<◌, ◌≤◌, Bool, false, List, [], ◌∷◌, ◌++◌, map, length, get_or, refl, ap, sym, ◌∙◌, arith}
use Rattle.std.specs.List.{flat_map}
use Rattle.std.proofs.lemmas.List.{append-nil}
use Rattle.esb_token.specs.declared.kind.Kind.TheVariants as k
use Rattle.esb_token.specs.declared.token.Token.{Token}
use Rattle.esb_tree.specs.declared.classes.Class.{Class, out-Class}
use Rattle.esb_tree.specs.declared.classes.ClassElement.TheFolds.{fold-roll-Operand}
use Rattle.esb_tree.specs.declared.expressions.Operand.{Operand, out-Operand, roll-out-Operand}
use Rattle.esb_tree.specs.declared.expressions.Substitutions.{Substitutions, out-Substitutions}
use Rattle.esb_tree.specs.declared.functions.Function.{Function, out-Function}
use Rattle.esb_tree.specs.declared.patterns.Bracketed.{Bracketed, out-Bracketed}
use Rattle.esb_tree.specs.declared.patterns.Element.{Element}
use Rattle.esb_tree.specs.declared.patterns.NextElement.{NextElement, out-NextElement}
use Rattle.esb_tree.specs.declared.statements.Block.{Block, out-Block}
use Rattle.esb_tree.specs.Trees.{written}
use Rattle.esb_tree.specs.Yields.{Tokens, maybe_token, tokens_of_block, tokens_of_bracketed, tokens_of_class, tokens_of_class_element, tokens_of_elements, tokens_of_expression, tokens_of_function, tokens_of_heritage, tokens_of_statement, tokens_of_substitution, tokens_of_substitutions}
use Rattle.esb_tree.proofs.TokenLines.{tokens_at_Block, tokens_at_Bracketed, tokens_at_Class, tokens_at_Function, tokens_at_Substitutions}
use Rattle.esb_grammar.specs.Edges.{last_of, last_element, arrow_edge, body_edge, operand_edge, ends_assignment, operand_ends_assignment}
use Rattle.esb_grammar.specs.Kinds.{is_update}
use Rattle.esb_grammar.specs.Semicolons.{ends_with}
use Rattle.esb_statement_tests.specs.Last.{last_or}

pub last_append : (before : Token) (xs ys : Tokens) → last_or before (xs ++ ys) ≡ last_or (last_or before xs) ys
last_append before [] ys = refl
last_append before (x ∷ xs) ys = last_append x xs ys

-- what stands before a token does not matter
pub last_behind : (before : Token) (xs : Tokens) (t : Token) (ys : Tokens) → last_or before (xs ++ (t ∷ ys)) ≡ last_or t ys
last_behind before xs t ys = last_append before xs (t ∷ ys)

-- where no token stands before
pub ends_by_last : (before : Token) (ts : Tokens) → before.kind ≡ k.End → ends_with is_update ts ≡ is_update (last_or before ts).kind
ends_by_last before [] e = sym (ap is_update e)
ends_by_last before (t ∷ ts) e = behind t ts
  where
    behind : (t : Token) (ts : Tokens) → ends_with is_update (t ∷ ts) ≡ is_update (last_or t ts).kind
    behind t [] = refl
    behind t (u ∷ us) = behind u us

-- ---- the last of a list

pub last_flat : {A : Type 0} (f : A → Tokens) (xs : List A) (i : ℕ) (x : A) (before t : Token) → i + 1 ≡ length xs → x ≡ get_or xs i x → ((d : Token) → last_or d (f x) ≡ t) → last_or before (flat_map f xs) ≡ t
last_flat f [] i x before t n e h = absurd (omega (arith, n))
last_flat f (y ∷ []) zero x before t n e h = last_append before (f y) [] ∙ ap (λ z. last_or before (f z)) (sym e) ∙ h before
last_flat f (y ∷ []) (suc i) x before t n e h = absurd (omega (arith, n))
last_flat f (y ∷ (z ∷ zs)) zero x before t n e h = absurd (omega (arith, n))
last_flat f (y ∷ (z ∷ zs)) (suc i) x before t n e h = last_append before (f y) (flat_map f (z ∷ zs)) ∙ last_flat f (z ∷ zs) i x (last_or before (f y)) t (omega (arith, n)) e h

pub last_mapped : {A : Type 0} (f : A → Bool) (xs : List A) (i : ℕ) (x : A) → i + 1 ≡ length xs → x ≡ get_or xs i x → last_of (map f xs) ≡ f x
last_mapped f [] i x n e = absurd (omega (arith, n))
last_mapped f (y ∷ []) zero x n e = ap f (sym e)
last_mapped f (y ∷ []) (suc i) x n e = absurd (omega (arith, n))
last_mapped f (y ∷ (z ∷ zs)) zero x n e = absurd (omega (arith, n))
last_mapped f (y ∷ (z ∷ zs)) (suc i) x n e = last_mapped f (z ∷ zs) i x (omega (arith, n)) e

pub element_last : (first : Element) (xs : List NextElement) (i : ℕ) (x : NextElement) → i + 1 ≡ length xs → x ≡ get_or xs i x → last_element first xs ≡ (out-NextElement x).element
element_last first [] i x n e = absurd (omega (arith, n))
element_last first (y ∷ []) zero x n e = ap (λ z. (out-NextElement z).element) (sym e)
element_last first (y ∷ []) (suc i) x n e = absurd (omega (arith, n))
element_last first (y ∷ (z ∷ zs)) zero x n e = absurd (omega (arith, n))
element_last first (y ∷ (z ∷ zs)) (suc i) x n e = element_last (out-NextElement y).element (z ∷ zs) i x (omega (arith, n)) e

-- the same of a list that is read as another, of which it is known how long it is
pub none_last : {A : Type 0} (f : A → Bool) (ys zs : List A) → ys ≡ zs → length ys < 1 → last_of (map f zs) ≡ false
none_last f [] zs e h = ap (λ l. last_of (map f l)) (sym e)
none_last f (y ∷ ys) zs e h = absurd (omega (arith, h))

pub some_last : {A : Type 0} (f : A → Bool) (ys zs : List A) (x : A) → ys ≡ zs → 1 ≤ length ys → x ≡ get_or ys (length ys - 1) x → last_of (map f zs) ≡ f x
some_last f ys zs x e h p = ap (λ l. last_of (map f l)) (sym e) ∙ last_mapped f ys (length ys - 1) x (omega (arith, h)) p

pub last_none : {A : Type 0} (before : Token) (f : A → Tokens) (xs : Tokens) (ys zs : List A) → ys ≡ zs → length ys < 1 → last_or before (xs ++ flat_map f zs) ≡ last_or before xs
last_none before f xs [] zs e h = ap (λ l. last_or before (xs ++ flat_map f l)) (sym e) ∙ ap (last_or before) (append-nil xs)
last_none before f xs (y ∷ ys) zs e h = absurd (omega (arith, h))

pub last_some : {A : Type 0} (before : Token) (f : A → Tokens) (xs : Tokens) (ys zs : List A) (x : A) (t : Token) → ys ≡ zs → 1 ≤ length ys → x ≡ get_or ys (length ys - 1) x → ((d : Token) → last_or d (f x) ≡ t) → last_or before (xs ++ flat_map f zs) ≡ t
last_some before f xs ys zs x t e h p q =
    ap (λ l. last_or before (xs ++ flat_map f l)) (sym e) ∙ last_append before xs (flat_map f ys) ∙ last_flat f ys (length ys - 1) x (last_or before xs) t (omega (arith, h)) p q

pub element_none : (first : Element) (ys zs : List NextElement) → ys ≡ zs → length ys < 1 → last_element first zs ≡ first
element_none first [] zs e h = ap (last_element first) (sym e)
element_none first (y ∷ ys) zs e h = absurd (omega (arith, h))

pub element_some : (first : Element) (ys zs : List NextElement) (x : NextElement) → ys ≡ zs → 1 ≤ length ys → x ≡ get_or ys (length ys - 1) x → last_element first zs ≡ (out-NextElement x).element
element_some first ys zs x e h p = ap (last_element first) (sym e) ∙ element_last first ys (length ys - 1) x (omega (arith, h)) p

-- an operand ends as its value does
pub ends_operand : (y : Operand) → operand_ends_assignment y ≡ ends_assignment (out-Operand y).value
unfolding ends_assignment operand_ends_assignment
ends_operand y = ap operand_ends_assignment (sym (roll-out-Operand y)) ∙ fold-roll-Operand (Unit {0}) (Unit {0}) Bool (Unit {0}) Bool (Unit {0}) (Unit {0}) (Unit {0}) (Unit {0}) (Unit {0}) (Unit {0}) (Unit {0}) (Unit {0}) (Unit {0}) (Unit {0}) Bool (Unit {0}) (Unit {0}) (Unit {0}) (Unit {0}) (Unit {0}) (Unit {0}) (Unit {0}) (Unit {0}) (Unit {0}) (Unit {0}) (Unit {0}) (λ _. tt) (λ _. tt) arrow_edge (λ _. tt) body_edge (λ _. tt) (λ _. tt) (λ _. tt) (λ _. tt) (λ _. tt) (λ _. tt) (λ _. tt) (λ _. tt) (λ _. tt) (λ _. tt) operand_edge (λ _. tt) (λ _. tt) (λ _. tt) (λ _. tt) (λ _. tt) (λ _. tt) (λ _. tt) (λ _. tt) (λ _. tt) (λ _. tt) (λ _. tt) (record { operator = (out-Operand y).operator; value = (out-Operand y).value })

-- ---- the last token of a node

pub record Ends (ts : Tokens) (t : Token) : Type 0 where
  pub is : (before : Token) → last_or before ts ≡ t

pub ends_one : (t : Token) → Ends (t ∷ []) t
ends_one t = record { is = λ before. refl }

pub ends_cons : {ts : Tokens} {t : Token} (u : Token) → Ends ts t → Ends (u ∷ ts) t
ends_cons u h = record { is = λ before. h.is u }

pub ends_append : {ys : Tokens} {t : Token} (xs : Tokens) → Ends ys t → Ends (xs ++ ys) t
ends_append {ys = ys} xs h = record { is = λ before. last_append before xs ys ∙ h.is (last_or before xs) }

pub ends_is : {xs ys : Tokens} {t : Token} → ys ≡ xs → Ends xs t → Ends ys t
ends_is e h = record { is = λ before. ap (last_or before) e ∙ h.is before }

pub ends_bracketed : (y : Bracketed) → Ends (tokens_of_bracketed written y) (out-Bracketed y).ending
ends_bracketed y = ends_is (tokens_at_Bracketed written y) (ends_cons _ (ends_append (tokens_of_elements written (out-Bracketed y).list) (ends_one _)))

pub ends_block : (y : Block) → Ends (tokens_of_block written y) (out-Block y).ending
ends_block y = ends_is (tokens_at_Block written y) (ends_cons _ (ends_append (flat_map (tokens_of_statement written) (out-Block y).body) (ends_one _)))

pub ends_substitutions : (y : Substitutions) → Ends (tokens_of_substitutions written y) (out-Substitutions y).tail
ends_substitutions y =
    ends_is (tokens_at_Substitutions written y)
    (ends_cons _ (ends_append (tokens_of_expression written (out-Substitutions y).first) (ends_append (flat_map (tokens_of_substitution written) (out-Substitutions y).rest) (ends_one _))))

pub ends_class : (y : Class) → Ends (tokens_of_class written y) (out-Class y).ending
ends_class y =
    ends_is (tokens_at_Class written y)
    (ends_cons _ (ends_append (maybe_token (out-Class y).name) (ends_append (tokens_of_heritage written (out-Class y).heritage) (ends_cons _ (ends_append (flat_map (tokens_of_class_element written) (out-Class y).elements) (ends_one _))))))

pub ends_function : (y : Function) → Ends (tokens_of_function written y) (out-Block (out-Function y).body).ending
ends_function y =
    ends_is (tokens_at_Function written y)
    (ends_append (maybe_token (out-Function y).async_word) (ends_cons _ (ends_append (maybe_token (out-Function y).star) (ends_append (maybe_token (out-Function y).name) (ends_append (tokens_of_bracketed written (out-Function y).parameters) (ends_block (out-Function y).body))))))
